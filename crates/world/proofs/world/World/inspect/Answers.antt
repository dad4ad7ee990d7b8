use Rattle.std.proofs.Common.{◌∙◌, ℕ, ◌∷◌, length, map, ap, sym, refl, arith}
use Rattle.std.proofs.lemmas.Bool.{false≢true}
use Rattle.std.proofs.lemmas.Result.{err_from_is_err_and}
use Rattle.std.specs.Prelude.{is_some}
use Rattle.events.specs.declared.event.Event.TheVariants.{Inspect}
use Rattle.order_machine.specs.declared.observation.Observation.TheVariants as says
use Rattle.order_machine.specs.Contents.{rows_of}
use Rattle.coll_model.specs.Effect.{State}
use Rattle.world.specs.Kept.{Kept}
use Rattle.world.specs.Fleet.{faults_in}
use Rattle.world.specs.Handling.{down_in}
use Rattle.world.proofs.Exits.FaultCounts.{others_rows, rows_faultless, rose_none}
use Rattle.world.proofs.Exits.Guards.{unrefused_once, unrefused_up}
use Rattle.world.proofs.Exits.Limits.{servable}
use Rattle.world.proofs.Exits.Common.{memory_handles, marks_same}
use Rattle.world.proofs.Exits.Asides.{inspect_does}
use Rattle.world.proofs.States.HeldOrder.{stands_still}
use Rattle.world.proofs.world.World.inspect.Goals as goal

pub unreachable-requires : goal.unreachable-requires
unreachable-requires g c =
    let allowed = unrefused_once c.args.self.now (down_in c.args.self.now 0) c.requires.allowed in
    absurd (false≢true (sym (ap is_some (ap (λ (k : Kept). k.replica) (sym c.self.view_is) ∙ c.in_default.is)) ∙ unrefused_up c.args.self.now 0 allowed.1))

pub returns-in_err-lines : goal.returns-in_err-lines
returns-in_err-lines g c =
    memory_handles g.M.Disk.images g.M.Disk.faults g.M.Disk.marks c.args.self.now c.args.self.now c.args.disk.now c.args.disk.now c.args.number (Inspect 0) c.from_residual.result (omega arith) refl (λ m s. stands_still c.args.self.now (g.M.Disk.images c.args.disk.now) m s) (err_from_is_err_and _ c.from_residual.ensures.1)

pub returns : goal.returns
returns g c =
    let allowed = unrefused_once c.args.self.now (down_in c.args.self.now 0) c.requires.allowed in
    let some = ap (λ (k : Kept). k.replica) (sym c.self.view_is) ∙ c.in-Some.is in
    let told = c.in_ok-lines.ensures in
    record {
      serves = inspect_does c.args.self.now _ (g.M.Disk.images c.args.disk.now) c.in-Some.opened c.args.number c.in_ok-lines.lines allowed.0 some (omega (arith, c.requires.ready.rising)) (ap (λ (k : Kept). record k { last = c.args.number }) c.self.view_is)
          (told ∙ (ap (λ (q : ℕ). says.State q (length (rows_of c.contents.result.now)) ∷ map says.Rows (rows_of c.contents.result.now)) c.requires.first ∙ ap (λ (state : State). says.State 0 (length (rows_of state)) ∷ map says.Rows (rows_of state)) c.contents.ensures));
      servable = λ m s. servable m (Inspect 0) refl;
      last = refl;
      others = others_rows c.args.replica _ _ c.in_ok-lines.lines told;
      counted = rose_none _ _ (omega arith) (faults_in 0 c.in_ok-lines.lines) (ap (faults_in 0) told ∙ rows_faultless 0 (rows_of c.contents.result.now));
      armed = marks_same (Inspect 0) c.in_ok-lines.lines (g.M.Disk.marks c.args.disk.now) refl;
    }
