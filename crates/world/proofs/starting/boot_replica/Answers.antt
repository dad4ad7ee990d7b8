use Rattle.std.proofs.Common.{◌≡◌, ◌∙◌, ◌++◌, ◌∷◌, [], ℕ, suc, List, Ok, Err, false, ap, subst, sym, arith}
use Rattle.config_rule.specs.declared.appointments.Appointment.{Appointment}
use Rattle.order_machine.specs.declared.observation.Observation.{Observation}
use Rattle.order_machine.specs.declared.observation.Observation.TheVariants as says
use Rattle.txn_front.specs.Front.{Fronted}
use Rattle.replica_model.specs.declared.step.StepEvent.TheVariants as steps
use Rattle.replica.specs.Step.{MayStep}
use Rattle.world.specs.declared.effects.EventEffects.{EventEffects}
use Rattle.world.specs.Fleet.{faults_in}
use Rattle.world.proofs.Mounts.Boot.{IsBootFault, over_new, boot_effects, boots_whole, boots_unopened, boots_unstarted, boot_cut, started_effects, one_fault, fault_of_zero, fresh_may_start}
use Rattle.world.proofs.Exits.FaultCounts.{fault_first}
use Rattle.world.proofs.starting.boot_replica.Goals as goal

pub returns-in_default-clause-whole : goal.returns-in_default-clause-whole
returns-in_default-clause-whole g c =
    let done = c.in_ok-opened.ensures in
    let told = done.faulted (ap Ok c.in_default.is) in
    let effects = ap (λ (d : EventEffects). record d { lines = c.open_replica.new.lines }) c.requires.begins ∙ ap (boot_effects false) (told ∙ ap (λ (d : EventEffects). d.lines ++ says.Fault 0 ∷ []) c.requires.begins) in
    (boots_unopened (g.M.Disk.images c.args.disk.now) (g.M.Disk.images c.open_replica.new.disk) _ c.requires.empty done.stop effects).0

pub returns-in_default-clause-stands : goal.returns-in_default-clause-stands
returns-in_default-clause-stands g c =
    let done = c.in_ok-opened.ensures in
    let told = done.faulted (ap Ok c.in_default.is) in
    let effects = ap (λ (d : EventEffects). record d { lines = c.open_replica.new.lines }) c.requires.begins ∙ ap (boot_effects false) (told ∙ ap (λ (d : EventEffects). d.lines ++ says.Fault 0 ∷ []) c.requires.begins) in
    (boots_unopened (g.M.Disk.images c.args.disk.now) (g.M.Disk.images c.open_replica.new.disk) _ c.requires.empty done.stop effects).1

pub returns-in_default-clause-ruled : goal.returns-in_default-clause-ruled
returns-in_default-clause-ruled g c =
    let done = c.in_ok-opened.ensures in
    let told = done.faulted (ap Ok c.in_default.is) in
    let effects = ap (λ (d : EventEffects). record d { lines = c.open_replica.new.lines }) c.requires.begins ∙ ap (boot_effects false) (told ∙ ap (λ (d : EventEffects). d.lines ++ says.Fault 0 ∷ []) c.requires.begins) in
    (boots_unopened (g.M.Disk.images c.args.disk.now) (g.M.Disk.images c.open_replica.new.disk) _ c.requires.empty done.stop effects).2

pub returns-in_default-clause-others : goal.returns-in_default-clause-others
returns-in_default-clause-others g c =
    let done = c.in_ok-opened.ensures in
    let told = done.faulted (ap Ok c.in_default.is) in
    let effects = ap (λ (d : EventEffects). record d { lines = c.open_replica.new.lines }) c.requires.begins ∙ ap (boot_effects false) (told ∙ ap (λ (d : EventEffects). d.lines ++ says.Fault 0 ∷ []) c.requires.begins) in
    λ q. ap (λ (d : EventEffects). faults_in (suc q) d.lines) effects ∙ fault_first q

pub start_epoch-requires-clause-may : goal.start_epoch-requires-clause-may
start_epoch-requires-clause-may g c =
    let disk = c.open_replica.new.disk in
    let done = c.in_ok-opened.ensures in
    let n = over_new _ c.in-Some.opened (g.M.Disk.images c.args.disk.now) (g.M.Disk.images disk) (g.M.Disk.seen disk) _ _ (ap (λ (d : EventEffects). d.lines) c.requires.begins) c.in-Some.is c.requires.empty done.stop (g.met.M.CrashDisk.tells disk) (g.met.M.Disk.seen_is_image disk) done.opened done.fresh done.told in
    subst (λ (a : Appointment). MayStep c.in-Some.opened (steps.Appoint a)) (sym c.in_ok-first.ensures) (fresh_may_start c.in-Some.opened n.fresh)

pub start_epoch-requires-clause-room : goal.start_epoch-requires-clause-room
start_epoch-requires-clause-room g c =
    let disk = c.open_replica.new.disk in
    let done = c.in_ok-opened.ensures in
    let n = over_new _ c.in-Some.opened (g.M.Disk.images c.args.disk.now) (g.M.Disk.images disk) (g.M.Disk.seen disk) _ _ (ap (λ (d : EventEffects). d.lines) c.requires.begins) c.in-Some.is c.requires.empty done.stop (g.met.M.CrashDisk.tells disk) (g.met.M.Disk.seen_is_image disk) done.opened done.fresh done.told in
    omega (arith, n.fresh.last)

pub start_epoch-requires-clause-counted : goal.start_epoch-requires-clause-counted
start_epoch-requires-clause-counted g c =
    let disk = c.open_replica.new.disk in
    let done = c.in_ok-opened.ensures in
    let n = over_new _ c.in-Some.opened (g.M.Disk.images c.args.disk.now) (g.M.Disk.images disk) (g.M.Disk.seen disk) _ _ (ap (λ (d : EventEffects). d.lines) c.requires.begins) c.in-Some.is c.requires.empty done.stop (g.met.M.CrashDisk.tells disk) (g.met.M.Disk.seen_is_image disk) done.opened done.fresh done.told in
    let none : c.in-Some.opened.front.begins ≡ 0 = ap (λ (f : Fronted). f.begins) n.fresh.front in
    omega (arith, none)

pub returns-in-Ok-clause-whole : goal.returns-in-Ok-clause-whole
returns-in-Ok-clause-whole g c =
    let disk = c.open_replica.new.disk in
    let done = c.in_ok-opened.ensures in
    let n = over_new _ c.in-Some.opened (g.M.Disk.images c.args.disk.now) (g.M.Disk.images disk) (g.M.Disk.seen disk) _ _ (ap (λ (d : EventEffects). d.lines) c.requires.begins) c.in-Some.is c.requires.empty done.stop (g.met.M.CrashDisk.tells disk) (g.met.M.Disk.seen_is_image disk) done.opened done.fresh done.told in
    let opened = ap (λ (d : EventEffects). record d { lines = c.open_replica.new.lines }) c.requires.begins ∙ ap (boot_effects false) n.told in
    let e = c.in-Ok.ensures in
    (boots_whole c.in_ok-first.first c.in-Some.opened c.start_epoch.new.opened n.log (g.M.Disk.images c.start_epoch.new.disk) _ c.start_epoch.new.effects c.in_ok-first.ensures n.fresh n.is_new e.kept (e.stands n.log n.is_open) opened e.told).0

pub returns-in-Ok-clause-stands : goal.returns-in-Ok-clause-stands
returns-in-Ok-clause-stands g c =
    let disk = c.open_replica.new.disk in
    let done = c.in_ok-opened.ensures in
    let n = over_new _ c.in-Some.opened (g.M.Disk.images c.args.disk.now) (g.M.Disk.images disk) (g.M.Disk.seen disk) _ _ (ap (λ (d : EventEffects). d.lines) c.requires.begins) c.in-Some.is c.requires.empty done.stop (g.met.M.CrashDisk.tells disk) (g.met.M.Disk.seen_is_image disk) done.opened done.fresh done.told in
    let opened = ap (λ (d : EventEffects). record d { lines = c.open_replica.new.lines }) c.requires.begins ∙ ap (boot_effects false) n.told in
    let e = c.in-Ok.ensures in
    (boots_whole c.in_ok-first.first c.in-Some.opened c.start_epoch.new.opened n.log (g.M.Disk.images c.start_epoch.new.disk) _ c.start_epoch.new.effects c.in_ok-first.ensures n.fresh n.is_new e.kept (e.stands n.log n.is_open) opened e.told).1

pub returns-in-Ok-clause-ruled : goal.returns-in-Ok-clause-ruled
returns-in-Ok-clause-ruled g c =
    let disk = c.open_replica.new.disk in
    let done = c.in_ok-opened.ensures in
    let n = over_new _ c.in-Some.opened (g.M.Disk.images c.args.disk.now) (g.M.Disk.images disk) (g.M.Disk.seen disk) _ _ (ap (λ (d : EventEffects). d.lines) c.requires.begins) c.in-Some.is c.requires.empty done.stop (g.met.M.CrashDisk.tells disk) (g.met.M.Disk.seen_is_image disk) done.opened done.fresh done.told in
    let opened = ap (λ (d : EventEffects). record d { lines = c.open_replica.new.lines }) c.requires.begins ∙ ap (boot_effects false) n.told in
    let e = c.in-Ok.ensures in
    (boots_whole c.in_ok-first.first c.in-Some.opened c.start_epoch.new.opened n.log (g.M.Disk.images c.start_epoch.new.disk) _ c.start_epoch.new.effects c.in_ok-first.ensures n.fresh n.is_new e.kept (e.stands n.log n.is_open) opened e.told).2

pub returns-in-Ok-clause-faults : goal.returns-in-Ok-clause-faults
returns-in-Ok-clause-faults g c =
    let disk = c.open_replica.new.disk in
    let done = c.in_ok-opened.ensures in
    let n = over_new _ c.in-Some.opened (g.M.Disk.images c.args.disk.now) (g.M.Disk.images disk) (g.M.Disk.seen disk) _ _ (ap (λ (d : EventEffects). d.lines) c.requires.begins) c.in-Some.is c.requires.empty done.stop (g.met.M.CrashDisk.tells disk) (g.met.M.Disk.seen_is_image disk) done.opened done.fresh done.told in
    let opened = ap (λ (d : EventEffects). record d { lines = c.open_replica.new.lines }) c.requires.begins ∙ ap (boot_effects false) n.told in
    let e = c.in-Ok.ensures in
    let none : faults_in 0 c.start_epoch.new.effects.lines ≡ 0 = ap (λ (d : EventEffects). faults_in 0 d.lines) (started_effects c.in_ok-first.first c.in-Some.opened _ c.start_epoch.new.effects c.in_ok-first.ensures n.fresh opened e.told) in
    let first = done.cause.later in
    let second = e.cause.later in
    record { later = omega arith; by = omega arith }

pub returns-in-Ok-clause-others : goal.returns-in-Ok-clause-others
returns-in-Ok-clause-others g c =
    let disk = c.open_replica.new.disk in
    let done = c.in_ok-opened.ensures in
    let n = over_new _ c.in-Some.opened (g.M.Disk.images c.args.disk.now) (g.M.Disk.images disk) (g.M.Disk.seen disk) _ _ (ap (λ (d : EventEffects). d.lines) c.requires.begins) c.in-Some.is c.requires.empty done.stop (g.met.M.CrashDisk.tells disk) (g.met.M.Disk.seen_is_image disk) done.opened done.fresh done.told in
    let opened = ap (λ (d : EventEffects). record d { lines = c.open_replica.new.lines }) c.requires.begins ∙ ap (boot_effects false) n.told in
    let e = c.in-Ok.ensures in
    λ q. ap (λ (d : EventEffects). faults_in (suc q) d.lines) (started_effects c.in_ok-first.first c.in-Some.opened _ c.start_epoch.new.effects c.in_ok-first.ensures n.fresh opened e.told)

pub returns-in-Err-Disk-clause-whole : goal.returns-in-Err-Disk-clause-whole
returns-in-Err-Disk-clause-whole g c =
    let disk = c.open_replica.new.disk in
    let done = c.in_ok-opened.ensures in
    let n = over_new _ c.in-Some.opened (g.M.Disk.images c.args.disk.now) (g.M.Disk.images disk) (g.M.Disk.seen disk) _ _ (ap (λ (d : EventEffects). d.lines) c.requires.begins) c.in-Some.is c.requires.empty done.stop (g.met.M.CrashDisk.tells disk) (g.met.M.Disk.seen_is_image disk) done.opened done.fresh done.told in
    let opened = ap (λ (d : EventEffects). record d { lines = c.open_replica.new.lines }) c.requires.begins ∙ ap (boot_effects false) n.told in
    let e = c.in-Err-Disk.ensures in
    let last : c.push.new.self ≡ c.start_epoch.new.effects.lines ++ says.Fault 0 ∷ [] = c.in_ok-push-in-Err-Disk.ensures.ok ∙ ap (λ (q : ℕ). c.start_epoch.new.effects.lines ++ says.Fault q ∷ []) c.requires.first in
    let effects = ap (λ (ls : List Observation). record c.start_epoch.new.effects { lines = ls }) last in
    let cut = subst IsBootFault (sym effects) (boot_cut c.in_ok-first.first c.in-Some.opened _ c.start_epoch.new.effects c.in_ok-first.ensures n.fresh opened (e.cut (ap Err c.in-Err-Disk.field-0-is))) in
    (boots_unstarted c.in_ok-first.first c.in-Some.opened n.log (g.M.Disk.images c.start_epoch.new.disk) _ c.in_ok-first.ensures n.is_new (e.stop n.log n.is_open) cut).0

pub returns-in-Err-Disk-clause-stands : goal.returns-in-Err-Disk-clause-stands
returns-in-Err-Disk-clause-stands g c =
    let disk = c.open_replica.new.disk in
    let done = c.in_ok-opened.ensures in
    let n = over_new _ c.in-Some.opened (g.M.Disk.images c.args.disk.now) (g.M.Disk.images disk) (g.M.Disk.seen disk) _ _ (ap (λ (d : EventEffects). d.lines) c.requires.begins) c.in-Some.is c.requires.empty done.stop (g.met.M.CrashDisk.tells disk) (g.met.M.Disk.seen_is_image disk) done.opened done.fresh done.told in
    let opened = ap (λ (d : EventEffects). record d { lines = c.open_replica.new.lines }) c.requires.begins ∙ ap (boot_effects false) n.told in
    let e = c.in-Err-Disk.ensures in
    let last : c.push.new.self ≡ c.start_epoch.new.effects.lines ++ says.Fault 0 ∷ [] = c.in_ok-push-in-Err-Disk.ensures.ok ∙ ap (λ (q : ℕ). c.start_epoch.new.effects.lines ++ says.Fault q ∷ []) c.requires.first in
    let effects = ap (λ (ls : List Observation). record c.start_epoch.new.effects { lines = ls }) last in
    let cut = subst IsBootFault (sym effects) (boot_cut c.in_ok-first.first c.in-Some.opened _ c.start_epoch.new.effects c.in_ok-first.ensures n.fresh opened (e.cut (ap Err c.in-Err-Disk.field-0-is))) in
    (boots_unstarted c.in_ok-first.first c.in-Some.opened n.log (g.M.Disk.images c.start_epoch.new.disk) _ c.in_ok-first.ensures n.is_new (e.stop n.log n.is_open) cut).1

pub returns-in-Err-Disk-clause-ruled : goal.returns-in-Err-Disk-clause-ruled
returns-in-Err-Disk-clause-ruled g c =
    let disk = c.open_replica.new.disk in
    let done = c.in_ok-opened.ensures in
    let n = over_new _ c.in-Some.opened (g.M.Disk.images c.args.disk.now) (g.M.Disk.images disk) (g.M.Disk.seen disk) _ _ (ap (λ (d : EventEffects). d.lines) c.requires.begins) c.in-Some.is c.requires.empty done.stop (g.met.M.CrashDisk.tells disk) (g.met.M.Disk.seen_is_image disk) done.opened done.fresh done.told in
    let opened = ap (λ (d : EventEffects). record d { lines = c.open_replica.new.lines }) c.requires.begins ∙ ap (boot_effects false) n.told in
    let e = c.in-Err-Disk.ensures in
    let last : c.push.new.self ≡ c.start_epoch.new.effects.lines ++ says.Fault 0 ∷ [] = c.in_ok-push-in-Err-Disk.ensures.ok ∙ ap (λ (q : ℕ). c.start_epoch.new.effects.lines ++ says.Fault q ∷ []) c.requires.first in
    let effects = ap (λ (ls : List Observation). record c.start_epoch.new.effects { lines = ls }) last in
    let cut = subst IsBootFault (sym effects) (boot_cut c.in_ok-first.first c.in-Some.opened _ c.start_epoch.new.effects c.in_ok-first.ensures n.fresh opened (e.cut (ap Err c.in-Err-Disk.field-0-is))) in
    (boots_unstarted c.in_ok-first.first c.in-Some.opened n.log (g.M.Disk.images c.start_epoch.new.disk) _ c.in_ok-first.ensures n.is_new (e.stop n.log n.is_open) cut).2

pub returns-in-Err-Disk-clause-faults : goal.returns-in-Err-Disk-clause-faults
returns-in-Err-Disk-clause-faults g c =
    let disk = c.open_replica.new.disk in
    let done = c.in_ok-opened.ensures in
    let n = over_new _ c.in-Some.opened (g.M.Disk.images c.args.disk.now) (g.M.Disk.images disk) (g.M.Disk.seen disk) _ _ (ap (λ (d : EventEffects). d.lines) c.requires.begins) c.in-Some.is c.requires.empty done.stop (g.met.M.CrashDisk.tells disk) (g.met.M.Disk.seen_is_image disk) done.opened done.fresh done.told in
    let opened = ap (λ (d : EventEffects). record d { lines = c.open_replica.new.lines }) c.requires.begins ∙ ap (boot_effects false) n.told in
    let e = c.in-Err-Disk.ensures in
    let last : c.push.new.self ≡ c.start_epoch.new.effects.lines ++ says.Fault 0 ∷ [] = c.in_ok-push-in-Err-Disk.ensures.ok ∙ ap (λ (q : ℕ). c.start_epoch.new.effects.lines ++ says.Fault q ∷ []) c.requires.first in
    let effects = ap (λ (ls : List Observation). record c.start_epoch.new.effects { lines = ls }) last in
    let cut = subst IsBootFault (sym effects) (boot_cut c.in_ok-first.first c.in-Some.opened _ c.start_epoch.new.effects c.in_ok-first.ensures n.fresh opened (e.cut (ap Err c.in-Err-Disk.field-0-is))) in
    let one = one_fault _ cut in
    let first = done.cause.later in
    let second = e.cause.later in
    let rose = e.cause.rose (ap Err c.in-Err-Disk.field-0-is) in
    record { later = omega arith; by = omega arith }

pub returns-in-Err-Disk-clause-others : goal.returns-in-Err-Disk-clause-others
returns-in-Err-Disk-clause-others g c =
    let disk = c.open_replica.new.disk in
    let done = c.in_ok-opened.ensures in
    let n = over_new _ c.in-Some.opened (g.M.Disk.images c.args.disk.now) (g.M.Disk.images disk) (g.M.Disk.seen disk) _ _ (ap (λ (d : EventEffects). d.lines) c.requires.begins) c.in-Some.is c.requires.empty done.stop (g.met.M.CrashDisk.tells disk) (g.met.M.Disk.seen_is_image disk) done.opened done.fresh done.told in
    let opened = ap (λ (d : EventEffects). record d { lines = c.open_replica.new.lines }) c.requires.begins ∙ ap (boot_effects false) n.told in
    let e = c.in-Err-Disk.ensures in
    let last : c.push.new.self ≡ c.start_epoch.new.effects.lines ++ says.Fault 0 ∷ [] = c.in_ok-push-in-Err-Disk.ensures.ok ∙ ap (λ (q : ℕ). c.start_epoch.new.effects.lines ++ says.Fault q ∷ []) c.requires.first in
    let effects = ap (λ (ls : List Observation). record c.start_epoch.new.effects { lines = ls }) last in
    let cut = subst IsBootFault (sym effects) (boot_cut c.in_ok-first.first c.in-Some.opened _ c.start_epoch.new.effects c.in_ok-first.ensures n.fresh opened (e.cut (ap Err c.in-Err-Disk.field-0-is))) in
    fault_of_zero _ cut
