use Rattle.std.proofs.Common.{◌≡◌, ◌∙◌, Some, Ok, List, ◌∷◌, [], ap, sym, subst, refl, arith}
use Rattle.events.specs.declared.event.Event.TheVariants.{Boot}
use Rattle.config_rule.specs.Rule.{Known, after_active}
use Rattle.order_machine.specs.Transitions.{first_epoch}
use Rattle.order_machine.specs.declared.observation.Observation.{Observation}
use Rattle.world.specs.Handling.{Handles}
use Rattle.world.specs.Kept.{Kept}
use Rattle.world.proofs.Mounts.Boot.{booted_rule, boot_does}
use Rattle.world.proofs.Exits.Guards.{unrefused_boot}
use Rattle.world.proofs.Exits.Limits.{servable}
use Rattle.world.proofs.Exits.Common.{marks_same}
use Rattle.world.proofs.States.Later.{new_of}
use Rattle.world.proofs.world.World.boot.Goals as goal
use Rattle.world.proofs.world.World.boot.Goals.{then-effects, else-effects}

pub returns : goal.returns
returns g c =
    let fresh = unrefused_boot c.args.self.now c.requires.allowed in
    let done = c.in_ok-self-inside.ensures in
    let effects = c.boot_replica.new.effects in
    let rule : c.if-effects.rule ≡ booted_rule effects.active = elim c.if-effects.branch [
      | then-effects w ↦ w.rule-is ∙ (w.note_active.ensures ∙ (ap (λ (k : Known). after_active k first_epoch) c.in_ok-rule.ensures ∙ sym (ap booted_rule w.if-effects.true)))
      | else-effects w ↦ w.rule-is ∙ (c.in_ok-rule.ensures ∙ sym (ap booted_rule w.if-effects.false))
    ] in
    let kept = c.finish.ensures.kept in
    subst (λ (ls : List Observation). Handles g.M.Disk.images g.M.Disk.faults g.M.Disk.marks c.args.self.now c.finish.new.self c.args.disk.now c.boot_replica.new.disk c.args.number (Boot 0 (0 ∷ [])) (Ok ls)) (sym c.finish.ensures.lines)
    (record {
      serves = boot_does c.args.self.now c.finish.new.self (g.M.Disk.images c.args.disk.now) (g.M.Disk.images c.boot_replica.new.disk) c.in_ok-self-inside.field-0 effects fresh (let l = ap (λ (k : Kept). k.last) kept in omega (arith, l, c.requires.ready.rising)) (ap (λ (k : Kept). k.rule) kept ∙ ap Some rule) (ap (λ (k : Kept). k.order) kept) (ap (λ (k : Kept). k.replica) kept) (done.whole, done.stands, done.ruled);
      servable = λ m s. servable m (Boot 0 (0 ∷ [])) refl;
      last = ap (λ (k : Kept). k.last) kept;
      others = done.others;
      counted = done.faults;
      armed = done.marks ∙ marks_same (Boot 0 (0 ∷ [])) effects.lines (g.M.Disk.marks c.args.disk.now) refl;
    })

-- before the boot there is no log
pub boot_replica-requires-clause-empty : goal.boot_replica-requires-clause-empty
boot_replica-requires-clause-empty g c =
    let s = c.requires.ready.stands in
    (new_of c.args.self.now (g.M.Disk.images c.args.disk.now) s.0 (unrefused_boot c.args.self.now c.requires.allowed) s.1).empty
