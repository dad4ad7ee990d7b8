use Rattle.std.proofs.Common.{rules, ◌≡◌, ◌∙◌, sym, ap, subst, List, [], ◌∷◌, ◌++◌, Some, None, Ok, true, max, refl, arith, IfOk, OnOk}
use Rattle.log_store.specs.declared.kept.Kept.{Kept as Log}
use Rattle.order_machine.specs.declared.observation.Observation.{Observation}
use Rattle.order_machine.specs.declared.observation.Observation.TheVariants as says
use Rattle.order_machine.specs.Legal.{moved}
use Rattle.events.specs.declared.event.Event.TheVariants.{Client}
use Rattle.replica.specs.Step.{outcome}
use Rattle.replica_model.specs.declared.step.StepEvent.TheVariants as steps
use Rattle.world.specs.declared.effects.EventEffects.{EventEffects}
use Rattle.world.specs.Fleet.{TellsZero, faults_in}
use Rattle.world.specs.Handling.{Handles}
use Rattle.world.specs.Kept.{Kept, has_booted}
use Rattle.world.specs.Steps.{no_effects, effects_after, IsCutOff, told_by}
use Rattle.world.specs.World.{IsOpen, StandsFor, Serves}
use Rattle.world.proofs.Calls.AtWorld.{kept, client_done, client_cut, client_cut_still, client_short, client_down, client_there, client_result}
use Rattle.world.proofs.Exits.FaultCounts.{faulted_rise, others_told, others_cut, told_faultless, rose_none}
use Rattle.world.proofs.Exits.Guards.{unrefused_once}
use Rattle.world.proofs.Exits.Limits.{servable, on_ok}
use Rattle.world.proofs.Exits.Common.{line_handles, short_handles, last_of_kept, marks_same, marks_same_after}
use Rattle.world.proofs.States.HeldOrder.{stands_still}
use Rattle.world.proofs.Calls.AtReplica.{IsDone}
use Rattle.world.proofs.world.World.client.Goals as goal

pub returns-in_default : goal.returns-in_default
returns-in_default g c =
    let done = c.answered.ensures in
    let booted : has_booted c.args.self.now ≡ true = (unrefused_once c.args.self.now None c.requires.allowed).0 in
    let none : c.args.self.now.replica ≡ None = ap (λ k. k.replica) (sym c.self.view_is) ∙ c.in_default.is in
    let told = subst (λ n. IfOk c.answered.result (λ lines. lines ≡ says.Down n ∷ [])) c.requires.first done.lines in
    let stays = subst (λ (k : Kept). OnOk c.answered.result (c.answered.new.self ≡ record k { last = c.args.number })) c.self.view_is done.stays in
    line_handles g.M.Disk.images g.M.Disk.faults g.M.Disk.marks c.args.self.now c.answered.new.self c.args.disk.now c.args.number (Client 0 c.args.call.now) (says.Down 0) c.answered.result told stays (λ q. refl) (λ x. refl) (λ m s. servable m (Client 0 c.args.call.now) refl)
    (client_result _ _ (record c.args.self.now { last = c.args.number }) _ _ _ (says.Down 0 ∷ []) _ told stays done.memory (λ m s. stands_still _ _ m s) (client_down _ c.args.number _ _ _ booted none c.requires.ready.rising refl))

pub take_call-requires-clause-stands : goal.take_call-requires-clause-stands
take_call-requires-clause-stands g c =
    let booted : has_booted c.args.self.now ≡ true = (unrefused_once c.args.self.now None c.requires.allowed).0 in
    let some : c.args.self.now.replica ≡ Some c.in-Some.open = ap (λ k. k.replica) (sym c.self.view_is) ∙ c.in-Some.is in
    (client_there c.args.self.now c.in-Some.open _ c.requires.ready.stands.0 booted some c.requires.ready.stands.1).0

pub take_call-requires-clause-room : goal.take_call-requires-clause-room
take_call-requires-clause-room g c =
    let booted : has_booted c.args.self.now ≡ true = (unrefused_once c.args.self.now None c.requires.allowed).0 in
    let some : c.args.self.now.replica ≡ Some c.in-Some.open = ap (λ k. k.replica) (sym c.self.view_is) ∙ c.in-Some.is in
    let h = (client_there c.args.self.now c.in-Some.open _ c.requires.ready.stands.0 booted some c.requires.ready.stands.1).1.0 in
    let r = c.requires.ready.rising in
    let w = c.requires.ready.within in
    omega (arith, h, r, w)

pub take_call-requires-clause-counted : goal.take_call-requires-clause-counted
take_call-requires-clause-counted g c =
    let booted : has_booted c.args.self.now ≡ true = (unrefused_once c.args.self.now None c.requires.allowed).0 in
    let some : c.args.self.now.replica ≡ Some c.in-Some.open = ap (λ k. k.replica) (sym c.self.view_is) ∙ c.in-Some.is in
    let h = (client_there c.args.self.now c.in-Some.open _ c.requires.ready.stands.0 booted some c.requires.ready.stands.1).1.1 in
    let r = c.requires.ready.rising in
    let w = c.requires.ready.within in
    omega (arith, h, r, w)

pub returns-in-Ok : goal.returns-in-Ok
returns-in-Ok g c =
    let r = c.in-Some.open in
    let call = c.args.call.now in
    let booted : has_booted c.args.self.now ≡ true = (unrefused_once c.args.self.now None c.requires.allowed).0 in
    let some : c.args.self.now.replica ≡ Some r = ap (λ k. k.replica) (sym c.self.view_is) ∙ c.in-Some.is in
    let begun : c.new-effects.result ≡ no_effects c.args.self.now.order = c.new-effects.ensures ∙ ap (λ (k : Kept). no_effects k.order) c.self.view_is in
    let told : c.take_call.new.effects ≡ effects_after (no_effects c.args.self.now.order) r (steps.Client call) = c.in-Ok.ensures.told ∙ ap (λ (d : EventEffects). effects_after d r (steps.Client call)) begun in
    let lines : c.take_call.new.effects.lines ≡ told_by r (steps.Client call) = ap (λ (d : EventEffects). d.lines) told in
    let done : IsDone r c.take_call.new.opened call (g.M.Disk.images c.args.disk.now) (g.M.Disk.images c.take_call.new.disk) c.take_call.new.effects.lines = record { kept = c.in-Ok.ensures.kept.same; alike = c.in-Ok.ensures.kept.front; stands = c.in-Ok.ensures.stands; lines = lines; fits = c.requires.fits } in
    let serves = client_done c.args.self.now c.args.number r c.take_call.new.opened call (g.M.Disk.images c.args.disk.now) (g.M.Disk.images c.take_call.new.disk) c.take_call.new.effects.lines booted some c.requires.ready.rising done in
    let then : c.finish.new.self ≡ kept c.args.self.now c.args.number (Some c.take_call.new.opened) (max c.args.self.now.order (outcome r (steps.Client call)).shown) =
    c.finish.ensures.kept ∙ (ap (λ k. kept k c.args.number (Some c.take_call.new.opened) c.take_call.new.effects.order) c.self.view_is ∙ ap (λ (d : EventEffects). kept c.args.self.now c.args.number (Some c.take_call.new.opened) d.order) told) in
    let served : Serves c.args.self.now c.finish.new.self (g.M.Disk.images c.args.disk.now) (g.M.Disk.images c.take_call.new.disk) (Client 0 call) (Ok c.take_call.new.effects.lines) =
    λ m s. let v = serves m s in (v.0, subst (λ (k : Kept). StandsFor k (g.M.Disk.images c.take_call.new.disk) (moved m (Client 0 call) c.take_call.new.effects.lines)) (sym then) v.1, v.2) in
    subst (λ (ls : List Observation). Handles g.M.Disk.images g.M.Disk.faults g.M.Disk.marks c.args.self.now c.finish.new.self c.args.disk.now c.take_call.new.disk c.args.number (Client 0 call) (Ok ls)) (sym c.finish.ensures.lines)
    (record {
      serves = served;
      servable = λ m s. servable m (Client 0 call) refl;
      last = ap (λ (k : Kept). k.last) then;
      others = subst TellsZero (sym lines) (others_told r call);
      counted = rose_none _ _ c.in-Ok.ensures.cause.later (faults_in 0 c.take_call.new.effects.lines) (ap (faults_in 0) lines ∙ told_faultless 0 r call);
      armed = c.in-Ok.ensures.marks ∙ marks_same (Client 0 call) c.take_call.new.effects.lines (g.M.Disk.marks c.args.disk.now) refl;
    })

pub returns-in-Err-Disk : goal.returns-in-Err-Disk
returns-in-Err-Disk g c =
    let r = c.in-Some.open in
    let call = c.args.call.now in
    let k = c.args.self.now in
    let effects = c.take_call.new.effects in
    let booted : has_booted k ≡ true = (unrefused_once k None c.requires.allowed).0 in
    let some : k.replica ≡ Some r = ap (λ k. k.replica) (sym c.self.view_is) ∙ c.in-Some.is in
    let begun : c.new-effects.result ≡ no_effects k.order = c.new-effects.ensures ∙ ap (λ (k : Kept). no_effects k.order) c.self.view_is in
    let cut : (log : Log) → IsOpen r log (g.M.Disk.images c.args.disk.now) → IsCutOff r (steps.Client call) log (no_effects k.order) effects (g.M.Disk.images c.take_call.new.disk) = λ log o. subst (λ (d : EventEffects). IsCutOff r (steps.Client call) log d effects (g.M.Disk.images c.take_call.new.disk)) begun (c.in-Err-Disk.ensures.cut (search rules) log o) in
    let told = subst (λ n. IfOk c.faulted.result (λ lines. lines ≡ effects.lines ++ says.Fault n ∷ [])) c.requires.first c.faulted.ensures.lines in
    let closed = subst (λ (x : Kept). OnOk c.faulted.result (c.faulted.new.self ≡ kept x c.args.number None effects.order)) c.self.view_is c.faulted.ensures.closed in
    let there = (client_there k r _ c.requires.ready.stands.0 booted some c.requires.ready.stands.1).0 in
    record {
      serves = client_result k c.faulted.new.self (kept k c.args.number None effects.order) (g.M.Disk.images c.args.disk.now) (g.M.Disk.images c.take_call.new.disk) call (effects.lines ++ says.Fault 0 ∷ []) c.faulted.result told closed c.faulted.ensures.memory
          (λ m s. client_cut_still k c.args.number r call (g.M.Disk.images c.args.disk.now) (g.M.Disk.images c.take_call.new.disk) effects booted some c.requires.ready.rising c.requires.fits cut m s)
          (client_cut k c.args.number r call (g.M.Disk.images c.args.disk.now) (g.M.Disk.images c.take_call.new.disk) effects booted some c.requires.ready.rising c.requires.fits cut);
      servable = on_ok c.faulted.result (λ m s. servable m (Client 0 call) refl);
      last = last_of_kept c.faulted.new.self (kept k c.args.number None effects.order) c.args.number c.faulted.result closed refl;
      others = others_cut r call there.0 k.order effects (g.M.Disk.images c.take_call.new.disk) c.faulted.result (cut there.0 there.1) told;
      counted = faulted_rise r call there.0 k.order effects (g.M.Disk.images c.take_call.new.disk) _ _ c.faulted.result (cut there.0 there.1) c.in-Err-Disk.ensures.cause.later (c.in-Err-Disk.ensures.cause.rose (search rules)) told;
      armed = c.in-Err-Disk.ensures.marks ∙ marks_same_after (Client 0 call) c.faulted.result (g.M.Disk.marks c.args.disk.now) refl;
    }

pub returns-in-Err-NoMemory : goal.returns-in-Err-NoMemory
returns-in-Err-NoMemory g c =
    let booted : has_booted c.args.self.now ≡ true = (unrefused_once c.args.self.now None c.requires.allowed).0 in
    let some : c.args.self.now.replica ≡ Some c.in-Some.open = ap (λ k. k.replica) (sym c.self.view_is) ∙ c.in-Some.is in
    short_handles g.M.Disk.images g.M.Disk.faults g.M.Disk.marks c.args.self.now _ c.args.disk.now c.take_call.new.disk c.args.number (Client 0 c.args.call.now) c.in-Err-NoMemory.ensures.cause.later c.in-Err-NoMemory.ensures.marks
    (λ m s. client_short c.args.self.now c.in-Some.open c.args.call.now (g.M.Disk.images c.args.disk.now) (g.M.Disk.images c.take_call.new.disk) booted some c.requires.fits (c.in-Err-NoMemory.ensures.memory (search rules)) m s)
