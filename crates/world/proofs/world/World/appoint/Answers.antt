use Rattle.std.proofs.Common.{rules, ◌≡◌, ◌∙◌, sym, ap, subst, refl, ◌∷◌, [], Some, None, Err, Option, is_some, IfOk, OnOk, arith}
use Rattle.std.proofs.lemmas.Bool.{false≢true}
use Rattle.rc_base.specs.declared.ids.Epoch.{Epoch}
use Rattle.order_machine.specs.declared.observation.Observation.TheVariants as says
use Rattle.events.specs.declared.event.Event.TheVariants.{Appoint}
use Rattle.config_rule.specs.Rule.{Known}
use Rattle.config_rule.specs.declared.error.Broken.{Broken as BrokenPart}
use Rattle.world.specs.Handling.{Handles}
use Rattle.world.specs.Kept.{Kept, has_booted}
use Rattle.world.specs.World.{IsAppointed}
use Rattle.world.proofs.Exits.OneLine.{answered_serves, answered_refused}
use Rattle.world.proofs.Exits.Guards.{unrefused_once}
use Rattle.world.proofs.Exits.Limits.{servable_refused}
use Rattle.world.proofs.Exits.Common.{line_handles, short_handles}
use Rattle.world.proofs.Epochs.StartExits.{IsAsked, alone_before, appointed_of, refuses_part}
use Rattle.world.proofs.States.HeldOrder.{stands_still}
use Rattle.world.proofs.world.World.appoint.Goals as goal
use Rattle.events.specs.declared.answer.Answer.TheVariants as answers

pub unreachable-requires : goal.unreachable-requires
unreachable-requires g c =
    let booted = (unrefused_once c.args.self.now None c.requires.allowed).0 in
    absurd (false≢true (sym (ap has_booted (sym c.self.view_is) ∙ ap is_some c.in_default.is) ∙ booted))

-- the appointment is that of replica 0, alone, where it was alone before
pub start-requires-clause-alone : goal.start-requires-clause-alone
start-requires-clause-alone g c =
    let rule : c.args.self.now.rule ≡ Some c.in-Some.rule = ap (λ (k : Kept). k.rule) (sym c.self.view_is) ∙ c.in-Some.is in
    let e = c.in-Ok.ensures in
    alone_before c.args.self.now (g.M.Disk.images c.args.disk.now) c.in-Some.rule c.in-Ok.appointment c.args.primary c.as_slice.result.now rule c.requires.first (search rules) e.primary e.previous e.members c.requires.ready.stands.0 c.requires.ready.stands.1

pub start-requires-clause-appointed : goal.start-requires-clause-appointed
start-requires-clause-appointed g c =
    let rule : c.args.self.now.rule ≡ Some c.in-Some.rule = ap (λ (k : Kept). k.rule) (sym c.self.view_is) ∙ c.in-Some.is in
    let asked : IsAsked c.args.self.now c.in-Some.rule c.args.primary c.as_slice.result.now c.is_some.result = record { rule = rule; first = c.requires.first; alone = search rules; is_up = c.is_some.ensures ∙ ap (λ (k : Kept). is_some k.replica) c.self.view_is } in
    let e = c.in-Ok.ensures in
    let now = ap (λ (k : Kept). record k { rule = Some c.appoint.new.self }) c.self.view_is in
    let appointed = appointed_of c.args.self.now _ c.args.epoch c.in-Some.rule c.appoint.new.self c.args.primary c.as_slice.result.now c.in-Ok.appointment.cc c.is_some.result asked e.lawful e.members e.appointed now in
    (c.args.self.now, c.requires.ready.stands.0, subst (IsAppointed c.args.self.now _) (sym e.epoch) appointed, c.requires.ready.stands.1)

pub returns-in-Ok : goal.returns-in-Ok
returns-in-Ok g c =
    let rule : c.args.self.now.rule ≡ Some c.in-Some.rule = ap (λ (k : Kept). k.rule) (sym c.self.view_is) ∙ c.in-Some.is in
    let asked : IsAsked c.args.self.now c.in-Some.rule c.args.primary c.as_slice.result.now c.is_some.result = record { rule = rule; first = c.requires.first; alone = search rules; is_up = c.is_some.ensures ∙ ap (λ (k : Kept). is_some k.replica) c.self.view_is } in
    let e = c.in-Ok.ensures in
    let now = ap (λ (k : Kept). record k { rule = Some c.appoint.new.self }) c.self.view_is in
    let appointed = appointed_of c.args.self.now _ c.args.epoch c.in-Some.rule c.appoint.new.self c.args.primary c.as_slice.result.now c.in-Ok.appointment.cc c.is_some.result asked e.lawful e.members e.appointed now in
    subst (λ (epoch : Epoch). Handles g.M.Disk.images g.M.Disk.faults g.M.Disk.marks c.args.self.now c.start.new.self c.args.disk.now c.start.new.disk c.args.number (Appoint epoch 0 (0 ∷ [])) c.start.result) e.epoch
    (c.start.ensures c.args.self.now (subst (IsAppointed c.args.self.now _) (sym e.epoch) appointed))

pub returns-in-Err-Broken : goal.returns-in-Err-Broken
returns-in-Err-Broken g c =
    let rule : c.args.self.now.rule ≡ Some c.in-Some.rule = ap (λ (k : Kept). k.rule) (sym c.self.view_is) ∙ c.in-Some.is in
    let asked : IsAsked c.args.self.now c.in-Some.rule c.args.primary c.as_slice.result.now c.is_some.result = record { rule = rule; first = c.requires.first; alone = search rules; is_up = c.is_some.ensures ∙ ap (λ (k : Kept). is_some k.replica) c.self.view_is } in
    let done = c.answered.ensures in
    let part = c.in-Err-Broken.broken.part in
    let lines = subst (λ (b : BrokenPart). IfOk c.answered.result (λ ls. ls ≡ says.Refused b.part ∷ [])) c.in-Err-Broken.broken-is done.lines in
    let same : Some c.appoint.new.self ≡ c.self.inside.rule = ap Some c.in-Err-Broken.ensures.err ∙ sym c.in-Some.is in
    let kept = ap (λ (o : Option Known). let k : Kept = record { last = c.args.number; rule = o; order = c.self.inside.order; replica = c.self.inside.replica } in k) same ∙ ap (λ (k : Kept). record k { last = c.args.number }) c.self.view_is in
    let stays = subst (λ (k : Kept). OnOk c.answered.result (c.answered.new.self ≡ k)) kept done.stays in
    let broken = c.in-Err-Broken.ensures.broken c.in-Err-Broken.broken (ap Err c.in-Err-Broken.field-0-is) in
    line_handles g.M.Disk.images g.M.Disk.faults g.M.Disk.marks c.args.self.now c.answered.new.self c.args.disk.now c.args.number (Appoint c.args.epoch 0 (0 ∷ [])) (says.Refused part) c.answered.result lines stays (λ q. refl) (λ x. refl)
    (λ m s. servable_refused m (Appoint c.args.epoch 0 (0 ∷ [])) (answers.Refused part) (refuses_part c.args.self.now (g.M.Disk.images c.args.disk.now) c.args.epoch c.in-Some.rule c.args.primary c.as_slice.result.now c.is_some.result part asked broken m s))
    (answered_serves c.args.self.now c.answered.new.self (g.M.Disk.images c.args.disk.now) (Appoint c.args.epoch 0 (0 ∷ [])) (says.Refused part) c.args.number c.answered.result lines stays done.memory (omega (arith, c.requires.ready.rising))
    (λ m s. answered_refused m (Appoint c.args.epoch 0 (0 ∷ [])) (answers.Refused part) (refuses_part c.args.self.now (g.M.Disk.images c.args.disk.now) c.args.epoch c.in-Some.rule c.args.primary c.as_slice.result.now c.is_some.result part asked broken m s)))

pub returns-in-Err-NoMemory : goal.returns-in-Err-NoMemory
returns-in-Err-NoMemory g c =
    short_handles g.M.Disk.images g.M.Disk.faults g.M.Disk.marks c.args.self.now _ c.args.disk.now c.args.disk.now c.args.number (Appoint c.args.epoch 0 (0 ∷ [])) (omega arith) refl (λ m s. stands_still c.args.self.now (g.M.Disk.images c.args.disk.now) m s)
