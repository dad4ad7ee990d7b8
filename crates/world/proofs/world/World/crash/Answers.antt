use Rattle.std.proofs.Common.{◌∙◌, ap, refl, None, arith}
use Rattle.std.proofs.lemmas.Result.{err_from_is_err_and}
use Rattle.events.specs.declared.event.Event.TheVariants.{Crash}
use Rattle.world.specs.Kept.{Kept, has_booted}
use Rattle.world.proofs.Exits.FaultCounts.{rose_none}
use Rattle.world.proofs.Exits.Guards.{unrefused_once}
use Rattle.world.proofs.Exits.Limits.{servable}
use Rattle.world.proofs.Exits.Common.{memory_handles, handed_memory, done_others, done_faultless, marks_of_done}
use Rattle.world.proofs.Mounts.Reboot.{crash_does}
use Rattle.world.proofs.States.HeldOrder.{stands_still}
use Rattle.world.proofs.world.World.crash.Goals as goal

pub returns-in_err-lines : goal.returns-in_err-lines
returns-in_err-lines g c =
    memory_handles g.M.Disk.images g.M.Disk.faults g.M.Disk.marks c.args.self.now c.answered.new.self c.args.disk.now c.args.disk.now c.args.number (Crash 0 c.args.pick) c.from_residual.result (omega arith) refl (λ m s. stands_still c.args.self.now (g.M.Disk.images c.args.disk.now) m s)
    (handed_memory _ _ (err_from_is_err_and _ c.from_residual.ensures.1) c.in_err-lines.ensures.memory)

pub returns : goal.returns
returns g c =
    let k = c.args.self.now in
    let done = c.in_ok-lines.ensures in
    let booted = (unrefused_once k None c.requires.allowed).0 in
    let later = c.self.view_is ∙ done.stays in
    record {
      serves = crash_does k _ (g.M.Disk.images c.args.disk.now) (g.M.Disk.images c.crash.new.self) (g.M.Disk.seen c.crash.new.self) c.args.pick c.in_ok-lines.lines booted (let l = ap (λ (x : Kept). x.last) later in omega (arith, l, c.requires.ready.rising)) (ap (λ (x : Kept). has_booted x) later ∙ booted) (ap (λ (x : Kept). x.rule) later) (ap (λ (x : Kept). x.order) later) refl c.crash.ensures.left c.crash.ensures.only done.lines;
      servable = λ m s. servable m (Crash 0 c.args.pick) refl;
      last = ap (λ (x : Kept). x.last) later;
      others = done_others c.in_ok-lines.lines done.lines;
      counted = rose_none _ _ (let f = c.crash.ensures.faults in omega (arith, f)) _ (done_faultless 0 c.in_ok-lines.lines done.lines);
      armed = c.crash.ensures.marks ∙ marks_of_done (Crash 0 c.args.pick) c.in_ok-lines.lines (g.M.Disk.marks c.args.disk.now) done.lines;
    }
