use Rattle.std.proofs.Common.{rules, ◌≡◌, ◌∙◌, sym, ap, subst, refl, ◌++◌, ◌∷◌, [], Some, is_some, IfOk, arith}
use Rattle.std.proofs.lemmas.Bool.{false≢true}
use Rattle.config_rule.specs.declared.appointments.Appointment.{Appointment}
use Rattle.order_machine.specs.declared.observation.Observation.TheVariants as says
use Rattle.events.specs.declared.event.Event.TheVariants.{Appoint}
use Rattle.replica_model.specs.declared.step.StepEvent.TheVariants as steps
use Rattle.replica.specs.Step.{MayStep}
use Rattle.world.specs.declared.effects.EventEffects.{EventEffects}
use Rattle.world.specs.Handling.{rule_active}
use Rattle.world.specs.Kept.{Kept}
use Rattle.world.specs.Steps.{no_effects, effects_started}
use Rattle.world.proofs.Exits.Common.{short_handles}
use Rattle.world.proofs.Epochs.AppointmentLimit.{has_room, limit_handles}
use Rattle.world.proofs.Epochs.StartExits.{IsCutAt, all_effects, room_of, appointed_up, start_handles, cut_handles, short_serves}
use Rattle.world.proofs.world.World.start.Goals as goal

pub unreachable-requires : goal.unreachable-requires
unreachable-requires g c =
    let a = c.requires.appointed in
    absurd (false≢true (sym (ap is_some (ap (λ (k : Kept). k.replica) (sym c.self.view_is) ∙ c.in_default.is)) ∙ appointed_up a.0 c.args.self.now c.args.appointment.epoch a.2))

pub start_epoch-requires-clause-stands : goal.start_epoch-requires-clause-stands
start_epoch-requires-clause-stands g c =
    let some : c.args.self.now.replica ≡ Some c.in-Some.open = ap (λ k. k.replica) (sym c.self.view_is) ∙ c.in-Some.is in
    let a = c.requires.appointed in
    (room_of a.0 c.args.self.now (g.M.Disk.images c.args.disk.now) a.1 c.args.appointment.epoch c.in-Some.open a.2 a.3 some).0

pub start_epoch-requires-clause-may : goal.start_epoch-requires-clause-may
start_epoch-requires-clause-may g c =
    let some : c.args.self.now.replica ≡ Some c.in-Some.open = ap (λ k. k.replica) (sym c.self.view_is) ∙ c.in-Some.is in
    let a = c.requires.appointed in
    subst (λ (x : Appointment). MayStep c.in-Some.open (steps.Appoint x)) (sym c.requires.alone) (room_of a.0 c.args.self.now (g.M.Disk.images c.args.disk.now) a.1 c.args.appointment.epoch c.in-Some.open a.2 a.3 some).1

pub start_epoch-requires-clause-room : goal.start_epoch-requires-clause-room
start_epoch-requires-clause-room g c =
    let some : c.args.self.now.replica ≡ Some c.in-Some.open = ap (λ k. k.replica) (sym c.self.view_is) ∙ c.in-Some.is in
    let a = c.requires.appointed in
    let few = (room_of a.0 c.args.self.now (g.M.Disk.images c.args.disk.now) a.1 c.args.appointment.epoch c.in-Some.open a.2 a.3 some).2 in
    let r = c.requires.rising in
    let w = c.requires.within in
    omega (arith, few, r, w)

pub start_epoch-requires-clause-counted : goal.start_epoch-requires-clause-counted
start_epoch-requires-clause-counted g c =
    let some : c.args.self.now.replica ≡ Some c.in-Some.open = ap (λ k. k.replica) (sym c.self.view_is) ∙ c.in-Some.is in
    let a = c.requires.appointed in
    let few = (room_of a.0 c.args.self.now (g.M.Disk.images c.args.disk.now) a.1 c.args.appointment.epoch c.in-Some.open a.2 a.3 some).3 in
    let r = c.requires.rising in
    let w = c.requires.within in
    omega (arith, few, r, w)

pub returns-then-is_past_limit : goal.returns-then-is_past_limit
returns-then-is_past_limit g c = λ before appointed.
    limit_handles g.M.Disk.images g.M.Disk.faults g.M.Disk.marks before c.args.self.now c.args.self.now c.args.disk.now c.args.number c.args.appointment.epoch c.new.result appointed (sym c.is_past_limit.ensures ∙ c.if-is_past_limit.true) c.new.ensures

pub returns-in-Ok : goal.returns-in-Ok
returns-in-Ok g c = λ before appointed.
    let some : c.args.self.now.replica ≡ Some c.in-Some.open = ap (λ k. k.replica) (sym c.self.view_is) ∙ c.in-Some.is in
    let e = c.in-Ok.ensures in
    let begun : c.new-effects.result ≡ no_effects c.args.self.now.order = c.new-effects.ensures ∙ ap (λ (k : Kept). no_effects k.order) c.self.view_is in
    let told : c.start_epoch.new.effects ≡ all_effects c.args.self.now.order c.in-Some.open c.args.appointment.epoch = e.told ∙ ap (λ (d : EventEffects). effects_started d c.args.appointment c.in-Some.open) begun in
    let noted = c.note_active.ensures in
    start_handles g.M.Disk.images g.M.Disk.faults g.M.Disk.marks before c.args.self.now c.finish.new.self c.args.disk.now c.start_epoch.new.disk c.args.number c.in-Some.open c.start_epoch.new.opened c.args.appointment.epoch c.start_epoch.new.effects c.finish.result appointed some c.requires.rising e.kept e.stands e.stop told c.finish.ensures.lines
    (ap (λ (k : Kept). k.last) c.finish.ensures.kept)
    (ap (λ (k : Kept). k.rule) c.finish.ensures.kept ∙ (ap (λ (k : Kept). k.rule) noted ∙ ap (λ (k : Kept). rule_active c.args.appointment.epoch c.start_epoch.new.effects.active k.rule) c.self.view_is))
    (ap (λ (k : Kept). k.order) c.finish.ensures.kept)
    (ap (λ (k : Kept). k.replica) c.finish.ensures.kept ∙ ap (λ (k : Kept). k.replica) noted)
    e.cause.later e.marks (has_room before c.args.self.now (g.M.Disk.images c.args.disk.now) c.args.appointment.epoch appointed (sym c.is_past_limit.ensures ∙ c.if-is_past_limit.false))

pub returns-in-Err-Disk : goal.returns-in-Err-Disk
returns-in-Err-Disk g c = λ before appointed.
    let some : c.args.self.now.replica ≡ Some c.in-Some.open = ap (λ k. k.replica) (sym c.self.view_is) ∙ c.in-Some.is in
    let e = c.in-Err-Disk.ensures in
    let begun : c.new-effects.result ≡ no_effects c.args.self.now.order = c.new-effects.ensures ∙ ap (λ (k : Kept). no_effects k.order) c.self.view_is in
    let cut = subst (λ (d : EventEffects). IsCutAt d c.in-Some.open c.args.appointment.epoch c.start_epoch.new.effects (g.M.Disk.images c.args.disk.now) (g.M.Disk.images c.start_epoch.new.disk)) begun (e.cut (search rules)) in
    let noted = c.note_active-in-Err-Disk.ensures in
    let told = subst (λ n. IfOk c.faulted.result (λ lines. lines ≡ c.start_epoch.new.effects.lines ++ says.Fault n ∷ [])) (ap (λ (x : Appointment). x.primary) c.requires.alone) c.faulted.ensures.lines in
    cut_handles g.M.Disk.images g.M.Disk.faults g.M.Disk.marks before c.args.self.now c.faulted.new.self _ c.args.disk.now c.start_epoch.new.disk c.args.number c.in-Some.open c.args.appointment.epoch c.start_epoch.new.effects c.faulted.result appointed some c.requires.rising e.stop cut told c.faulted.ensures.closed c.faulted.ensures.memory
    refl
    (ap (λ (k : Kept). k.rule) noted ∙ ap (λ (k : Kept). rule_active c.args.appointment.epoch c.start_epoch.new.effects.active k.rule) c.self.view_is)
    refl
    refl
    e.cause.later (e.cause.rose (search rules)) e.marks (has_room before c.args.self.now (g.M.Disk.images c.args.disk.now) c.args.appointment.epoch appointed (sym c.is_past_limit.ensures ∙ c.if-is_past_limit.false))

pub returns-in-Err-NoMemory : goal.returns-in-Err-NoMemory
returns-in-Err-NoMemory g c = λ before appointed.
    let some : c.args.self.now.replica ≡ Some c.in-Some.open = ap (λ k. k.replica) (sym c.self.view_is) ∙ c.in-Some.is in
    short_handles g.M.Disk.images g.M.Disk.faults g.M.Disk.marks before _ c.args.disk.now c.start_epoch.new.disk c.args.number (Appoint c.args.appointment.epoch 0 (0 ∷ [])) c.in-Err-NoMemory.ensures.cause.later c.in-Err-NoMemory.ensures.marks
    (short_serves before c.args.self.now (g.M.Disk.images c.args.disk.now) (g.M.Disk.images c.start_epoch.new.disk) c.in-Some.open c.args.appointment.epoch appointed some c.in-Err-NoMemory.ensures.stop)
