use Rattle.std.proofs.Common.{rules, ◌≡◌, ◌∙◌, sym, ap, subst, ℕ, arith, [], ◌∷◌, ◌++◌, Some, None, IfOk, OnOk}
use Rattle.std.specs.Prelude.{is_some}
use Rattle.std.proofs.lemmas.Bool.{false≢true}
use Rattle.events.specs.declared.event.Event.TheVariants.{Survey}
use Rattle.order_machine.specs.declared.observation.Observation.TheVariants as says
use Rattle.replica_model.specs.declared.step.StepEvent.TheVariants as steps
use Rattle.world.specs.declared.effects.EventEffects.{EventEffects}
use Rattle.world.specs.Kept.{Kept}
use Rattle.world.specs.Steps.{no_effects, effects_after}
use Rattle.world.proofs.Calls.AtWorld.{client_there}
use Rattle.world.proofs.Exits.Guards.{unrefused_survey}
use Rattle.world.proofs.Exits.Common.{short_handles}
use Rattle.world.proofs.Epochs.SurveyStates.{IsSurveyed}
use Rattle.world.proofs.Epochs.Survey.{surveyed_in, surveyed_still, fault_handles, survey_handles}
use Rattle.world.proofs.world.World.survey.Goals as goal

pub unreachable-requires : goal.unreachable-requires
unreachable-requires g c =
    let done = unrefused_survey c.args.self.now 0 c.args.epoch c.requires.allowed in
    absurd (false≢true (sym (ap is_some (ap (λ (k : Kept). k.replica) (sym c.self.view_is) ∙ c.in_default.is)) ∙ done.up))

pub take_survey-requires-clause-stands : goal.take_survey-requires-clause-stands
take_survey-requires-clause-stands g c =
    let done = unrefused_survey c.args.self.now 0 c.args.epoch c.requires.allowed in
    let some : c.args.self.now.replica ≡ Some c.in-Some.open = ap (λ (k : Kept). k.replica) (sym c.self.view_is) ∙ c.in-Some.is in
    (client_there c.args.self.now c.in-Some.open (g.M.Disk.images c.args.disk.now) c.requires.ready.stands.0 (ap is_some done.rule) some c.requires.ready.stands.1).0

pub take_survey-requires-clause-room : goal.take_survey-requires-clause-room
take_survey-requires-clause-room g c =
    let done = unrefused_survey c.args.self.now 0 c.args.epoch c.requires.allowed in
    let some : c.args.self.now.replica ≡ Some c.in-Some.open = ap (λ (k : Kept). k.replica) (sym c.self.view_is) ∙ c.in-Some.is in
    let h = (client_there c.args.self.now c.in-Some.open (g.M.Disk.images c.args.disk.now) c.requires.ready.stands.0 (ap is_some done.rule) some c.requires.ready.stands.1).1.0 in
    omega (arith, h, c.requires.ready.rising, c.requires.ready.within)

pub take_survey-requires-clause-counted : goal.take_survey-requires-clause-counted
take_survey-requires-clause-counted g c =
    let done = unrefused_survey c.args.self.now 0 c.args.epoch c.requires.allowed in
    let some : c.args.self.now.replica ≡ Some c.in-Some.open = ap (λ (k : Kept). k.replica) (sym c.self.view_is) ∙ c.in-Some.is in
    let h = (client_there c.args.self.now c.in-Some.open (g.M.Disk.images c.args.disk.now) c.requires.ready.stands.0 (ap is_some done.rule) some c.requires.ready.stands.1).1.1 in
    omega (arith, h, c.requires.ready.rising, c.requires.ready.within)

pub returns-in-Err-Disk : goal.returns-in-Err-Disk
returns-in-Err-Disk g c =
    let done = unrefused_survey c.args.self.now 0 c.args.epoch c.requires.allowed in
    let some : c.args.self.now.replica ≡ Some c.in-Some.open = ap (λ (k : Kept). k.replica) (sym c.self.view_is) ∙ c.in-Some.is in
    let none : c.take_survey.new.effects ≡ no_effects c.args.self.now.order = c.in-Err-Disk.ensures.untold (search rules) ∙ (c.new-effects.ensures ∙ ap (λ (k : Kept). no_effects k.order) c.self.view_is) in
    let told = subst (λ n. IfOk c.faulted.result (λ lines. lines ≡ c.take_survey.new.effects.lines ++ says.Fault n ∷ [])) c.requires.first c.faulted.ensures.lines in
    let kept = ap (λ (k : Kept). record k { last = c.args.number; order = c.take_survey.new.effects.order; replica = None }) c.self.view_is in
    let closed = subst (λ (k : Kept). OnOk c.faulted.result (c.faulted.new.self ≡ k)) kept c.faulted.ensures.closed in
    fault_handles g.M.Disk.images g.M.Disk.faults g.M.Disk.marks c.args.self.now c.faulted.new.self c.args.disk.now c.take_survey.new.disk c.args.epoch done.known c.in-Some.open c.args.number c.take_survey.new.effects c.faulted.result done.rule done.above some c.requires.ready.rising c.in-Err-Disk.ensures.stop none told closed c.faulted.ensures.memory
    c.in-Err-Disk.ensures.cause.later (c.in-Err-Disk.ensures.cause.rose (search rules)) c.in-Err-Disk.ensures.marks

pub returns-in-Err-NoMemory : goal.returns-in-Err-NoMemory
returns-in-Err-NoMemory g c =
    let done = unrefused_survey c.args.self.now 0 c.args.epoch c.requires.allowed in
    let some : c.args.self.now.replica ≡ Some c.in-Some.open = ap (λ (k : Kept). k.replica) (sym c.self.view_is) ∙ c.in-Some.is in
    short_handles g.M.Disk.images g.M.Disk.faults g.M.Disk.marks c.args.self.now _ c.args.disk.now c.take_survey.new.disk c.args.number (Survey 0 c.args.epoch) c.in-Err-NoMemory.ensures.cause.later c.in-Err-NoMemory.ensures.marks
    (λ m s. surveyed_still c.args.self.now (g.M.Disk.images c.args.disk.now) (g.M.Disk.images c.take_survey.new.disk) c.args.epoch c.in-Some.open (ap is_some done.rule) some c.in-Err-NoMemory.ensures.stop m s)

pub returns-in-Ok : goal.returns-in-Ok
returns-in-Ok g c =
    let k = c.args.self.now in
    let r = c.in-Some.open in
    let e = c.args.epoch in
    let done = unrefused_survey k 0 e c.requires.allowed in
    let some : k.replica ≡ Some r = ap (λ (k : Kept). k.replica) (sym c.self.view_is) ∙ c.in-Some.is in
    let st : IsSurveyed r c.take_survey.new.opened e (g.M.Disk.images c.args.disk.now) (g.M.Disk.images c.take_survey.new.disk) = record { same = c.in-Ok.ensures.kept; stands = c.in-Ok.ensures.stands } in
    let there = (client_there k r (g.M.Disk.images c.args.disk.now) c.requires.ready.stands.0 (ap is_some done.rule) some c.requires.ready.stands.1).0 in
    let begun : c.new-effects.result ≡ no_effects k.order = c.new-effects.ensures ∙ ap (λ (k : Kept). no_effects k.order) c.self.view_is in
    let told : c.take_survey.new.effects ≡ effects_after (no_effects k.order) r (steps.Survey e) = c.in-Ok.ensures.told ∙ ap (λ (d : EventEffects). effects_after d r (steps.Survey e)) begun in
    let inside : Kept = record { last = c.self.inside.last; rule = c.self.inside.rule; order = c.self.inside.order; replica = c.self.inside.replica } in
    let kept = subst (λ (n : ℕ). OnOk c.surveyed.result (c.surveyed.new.self ≡ surveyed_in inside c.args.number e n c.in-Ok.answered c.take_survey.new.effects.order (Some c.take_survey.new.opened))) c.requires.first c.surveyed.ensures.kept in
    let stays = subst (λ (x : Kept). OnOk c.surveyed.result (c.surveyed.new.self ≡ surveyed_in x c.args.number e 0 c.in-Ok.answered c.take_survey.new.effects.order (Some c.take_survey.new.opened))) c.self.view_is kept in
    survey_handles g.M.Disk.images g.M.Disk.faults g.M.Disk.marks k c.surveyed.new.self c.args.disk.now c.take_survey.new.disk e done.known r c.take_survey.new.opened c.args.number c.take_survey.new.effects c.in-Ok.answered c.surveyed.result done.rule done.above some c.requires.ready.rising st there.1.first told c.in-Ok.ensures.answered c.surveyed.ensures.lines stays c.surveyed.ensures.memory
    c.in-Ok.ensures.stop c.in-Ok.ensures.cause.later c.in-Ok.ensures.marks
