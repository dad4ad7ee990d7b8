use Rattle.std.proofs.Common.{◌≡◌, ◌∙◌, sym, ap, subst, refl, Option, Some, None, is_some, arith, OnOk}
use Rattle.std.proofs.lemmas.Bool.{false≢true}
use Rattle.events.specs.declared.event.Event.TheVariants.{Activate}
use Rattle.order_machine.specs.declared.observation.Observation.TheVariants as says
use Rattle.config_rule.specs.Rule.{Known, after_activation}
use Rattle.world.specs.Kept.{Kept, has_booted}
use Rattle.world.proofs.Epochs.Activation.{activation_refused, activation_serves, activated_in}
use Rattle.world.proofs.Exits.OneLine.{answered_serves, answered_refused}
use Rattle.world.proofs.Exits.Guards.{unrefused_once}
use Rattle.world.proofs.Exits.Limits.{servable}
use Rattle.world.proofs.Exits.Common.{line_handles, kept_handles}
use Rattle.world.proofs.world.World.activate.Goals as goal
use Rattle.events.specs.declared.answer.Answer.TheVariants as answers

pub unreachable-requires : goal.unreachable-requires
unreachable-requires g c =
    let booted = (unrefused_once c.args.self.now None c.requires.allowed).0 in
    absurd (false≢true (sym (ap has_booted (sym c.self.view_is) ∙ ap is_some c.in_default.is) ∙ booted))

pub returns-in-Err : goal.returns-in-Err
returns-in-Err g c =
    let done = c.answered-in-Err.ensures in
    let rule : c.args.self.now.rule ≡ Some c.in-Some.rule = ap (λ (k : Kept). k.rule) (sym c.self.view_is) ∙ c.in-Some.is in
    let same : Some c.activate.new.self ≡ c.self.inside.rule = ap Some c.in-Err.ensures.err ∙ sym c.in-Some.is in
    let kept = ap (λ (o : Option Known). let k : Kept = record { last = c.args.number; rule = o; order = c.self.inside.order; replica = c.self.inside.replica } in k) same ∙ ap (λ (k : Kept). record k { last = c.args.number }) c.self.view_is in
    let stays = subst (λ (k : Kept). OnOk c.answered-in-Err.result (c.answered-in-Err.new.self ≡ k)) kept done.stays in
    line_handles g.M.Disk.images g.M.Disk.faults g.M.Disk.marks c.args.self.now c.answered-in-Err.new.self c.args.disk.now c.args.number (Activate c.args.epoch) (says.Refused c.in-Err.broken.part) c.answered-in-Err.result done.lines stays (λ q. refl) (λ x. refl) (λ m s. servable m (Activate c.args.epoch) refl)
    (answered_serves c.args.self.now c.answered-in-Err.new.self (g.M.Disk.images c.args.disk.now) (Activate c.args.epoch) (says.Refused c.in-Err.broken.part) c.args.number c.answered-in-Err.result done.lines stays done.memory (omega (arith, c.requires.ready.rising))
    (λ m s. answered_refused m (Activate c.args.epoch) (answers.Refused c.in-Err.broken.part) (activation_refused c.args.self.now (g.M.Disk.images c.args.disk.now) c.args.epoch c.in-Some.rule c.in-Err.broken.part rule c.in-Err.ensures.broken m s)))

pub returns-in-Ok : goal.returns-in-Ok
returns-in-Ok g c =
    let done = c.answered.ensures in
    let rule : c.args.self.now.rule ≡ Some c.in-Some.rule = ap (λ (k : Kept). k.rule) (sym c.self.view_is) ∙ c.in-Some.is in
    let same : Some c.activate.new.self ≡ Some (after_activation c.in-Some.rule c.args.epoch) = ap Some c.in-Ok.ensures.ok in
    let kept = ap (λ (o : Option Known). let k : Kept = record { last = c.args.number; rule = o; order = c.self.inside.order; replica = c.self.inside.replica } in k) same ∙ ap (λ (k : Kept). activated_in k c.args.number c.in-Some.rule c.args.epoch) c.self.view_is in
    let stays = subst (λ (k : Kept). OnOk c.answered.result (c.answered.new.self ≡ k)) kept done.stays in
    kept_handles g.M.Disk.images g.M.Disk.faults g.M.Disk.marks c.args.self.now c.answered.new.self (activated_in c.args.self.now c.args.number c.in-Some.rule c.args.epoch) c.args.disk.now c.args.number (Activate c.args.epoch) says.Done c.answered.result done.lines stays refl (λ q. refl) (λ x. refl) (λ m s. servable m (Activate c.args.epoch) refl)
    (activation_serves c.args.self.now c.answered.new.self (g.M.Disk.images c.args.disk.now) c.args.epoch c.in-Some.rule c.args.number c.answered.result rule c.in-Ok.ensures.lawful (omega (arith, c.requires.ready.rising)) done.lines stays done.memory)
