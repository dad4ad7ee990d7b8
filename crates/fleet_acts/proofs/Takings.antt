-- The lines of a step are those that a fleet has for it.
use Rattle.std.proofs.Common.{◌≡◌, ◌≢◌, ◌∙◌, sym, refl, ap, subst, ℕ, ◌-◌, Bool, true, false, List, [], ◌∷◌, ◌++◌, map, drop, Option, Some, None, option_map, if◌then◌else◌, ◌⊎◌, inl, inr, arith}
use Rattle.std.specs.Option.{option_map_or}
use Rattle.rc_base.specs.declared.ids.Epoch.{Epoch}
use Rattle.rc_base.specs.Ids.{no_epoch, epoch_lt, is_epoch}
use Rattle.coll_model.specs.Effect.{State}
use Rattle.events.specs.declared.call.Call.{Call}
use Rattle.log_records.specs.declared.record.Physical.{Physical}
use Rattle.txn_front.specs.Front.{nothing}
use Rattle.replica_model.specs.Quorums.{looked}
use Rattle.disk_model.specs.Disk.{Areas}
use Rattle.order_machine.specs.declared.observation.Observation.{Observation}
use Rattle.order_machine.specs.declared.observation.Observation.TheVariants as says
use Rattle.order_machine.specs.Machine.{Machine, order_of}
use Rattle.order_machine.specs.Order.{length_of}
use Rattle.replica_model.specs.declared.step.StepEvent.{StepEvent}
use Rattle.replica_model.specs.declared.step.StepEvent.TheVariants as steps
use Rattle.replica_model.specs.declared.step.Outcome.{Outcome}
use Rattle.replica_model.specs.OpenReplica.{OpenReplica, Leading, view_of, contents_of, is_active}
use Rattle.replica_model.specs.Records.{step_block}
use Rattle.replica_model.specs.Steps.{written, dropping, step_outcome, step_result, with_block, front_behind, cut_off}
use Rattle.replica.specs.Open.{Open}
use Rattle.replica.specs.Step as replica
use Rattle.replica_laws.specs.Agreement.{AgreesOn, HoldsOneOf}
use Rattle.replica_laws.specs.Modelled.{StandsIn, Took}
use Rattle.replica_laws.proofs.Shown.{view_is, contents_is, active_is}
use Rattle.fleet_run.specs.Scenes.{FleetReplica, Scene, held_by}
use Rattle.fleet_run.specs.Scenes.FleetReplica.{Open as Running, Closed}
use Rattle.fleet_run.specs.Acts.{Does, order_line, answer_lines, active_line, inspection_lines, lines_of_step, changed_at}
use Rattle.fleet_run.specs.Acts.Act.{Takes}
use Rattle.fleet_run.specs.Acts.How.{Fine, Failed}
use Rattle.fleet_run.specs.Acts.Does.{took, failed}
use Rattle.fleet_acts.specs.Standing.{Done, Cut, Ready}
use Rattle.fleet_acts.specs.Standing.Cut.{before, behind}
use Rattle.fleet_acts.specs.Lines.{told_lines, view_lines, active_lines, contents_lines, stays_active}

either : (b : Bool) (p q : OpenReplica) → is_active p ≡ is_active q → is_active q ≡ is_active (if b then p else q)
either true p q e = sym e
either false p q e = refl

active_of_call : (o : OpenReplica) (call : Call) → is_active o ≡ is_active (written o (steps.Client call))
active_of_call o call = either (is_active o) (record (with_block o (steps.Client call)) { front = front_behind o call }) o refl

-- a survey that isn't refused leaves no primary
active_of_survey : (o : OpenReplica) (epoch : Epoch) → (is_active o ≡ is_active (written o (steps.Survey epoch))) ⊎ (is_active (looked (written o (steps.Survey epoch))) ≡ false)
active_of_survey o epoch = by (epoch_lt epoch o.disk.fence)
  where
    by : (b : Bool) → let p = if b then o else record (with_block o (steps.Survey epoch)) { leading = None; front = nothing no_epoch } in (is_active o ≡ is_active p) ⊎ (is_active (looked p) ≡ false)
    by true = inl refl
    by false = inr refl

drops : (epoch : Epoch) (b : Bool) (l : Leading) → l.active ≡ (if b then record l { previous = None } else l).active
drops epoch true l = refl
drops epoch false l = refl

dropped : (epoch : Epoch) (m : Option Leading) → option_map_or (λ (l : Leading). l.active) m false ≡ option_map_or (λ (l : Leading). l.active) (option_map (dropping epoch) m) false
dropped epoch None = refl
dropped epoch (Some l) = drops epoch (is_epoch l.epoch epoch) l

was_active : (o : OpenReplica) (event : StepEvent) → (stays_active event (is_active o) ≡ is_active (written o event)) ⊎ (is_active (looked (written o event)) ≡ false)
was_active o (steps.Client call) = inl (active_of_call o call)
was_active o (steps.Survey e) = active_of_survey o e
was_active o (steps.Appoint a) = inl refl
was_active o (steps.Activate e) = inl (dropped e o.leading)
was_active o steps.Barrier = inl refl
was_active o steps.Inspect = inl refl

by_now : (o : OpenReplica) (event : StepEvent) (now : Bool) → (stays_active event (is_active o) ≡ is_active (written o event)) ⊎ (now ≡ false) → active_lines o.id (stays_active event (is_active o)) now ≡ active_lines o.id (is_active (written o event)) now
by_now o event now (inl e) = ap (λ (b : Bool). active_lines o.id b now) e
by_now o event now (inr f) = ap (λ (b : Bool). active_lines o.id (stays_active event (is_active o)) b) f ∙ sym (ap (λ (b : Bool). active_lines o.id (is_active (written o event)) b) f)

same_active : (o : OpenReplica) (event : StepEvent) → active_lines o.id (stays_active event (is_active o)) (step_outcome o event).active ≡ active_line o event (step_outcome o event)
unfolding step_outcome
same_active o event = by_now o event (is_active (looked (written o event))) (was_active o event)

same_contents : (o : OpenReplica) (event : StepEvent) → contents_lines o.id (contents_of o) event ≡ inspection_lines o event
same_contents o (steps.Client call) = refl
same_contents o (steps.Survey e) = refl
same_contents o (steps.Appoint a) = refl
same_contents o (steps.Activate e) = refl
same_contents o steps.Barrier = refl
same_contents o steps.Inspect = refl

same_lines : (m : Machine) (o : OpenReplica) (event : StepEvent) (closing : List Observation)
    → told_lines (length_of (order_of m o.id) - view_of o) o.id (view_of o) (stays_active event (is_active o)) (step_outcome o event) (contents_lines o.id (contents_of o) event) closing ≡ lines_of_step m o event closing
unfolding lines_of_step
same_lines m o event closing =
    let told = step_outcome o event in
    let orders = map order_line (drop (length_of (order_of m o.id) - view_of o) told.commits) in
    ap (λ (a : List Observation). orders ++ view_lines o.id (view_of o) told.shown ++ a ++ map says.Committed told.acknowledged ++ answer_lines told.answer ++ contents_lines o.id (contents_of o) event ++ closing) (same_active o event)
    ∙ ap (λ (c : List Observation). orders ++ view_lines o.id (view_of o) told.shown ++ active_line o event told ++ map says.Committed told.acknowledged ++ answer_lines told.answer ++ c ++ closing) (same_contents o event)

-- ---- a step that was done

pub takes_so : (s : Scene) (r : ℕ) (o : OpenReplica) (x new : Open) (event : StepEvent) (closing : List Observation) (told : Outcome) (images images' : Areas → Type 0) (old now : List Observation)
    (order known id shown : ℕ) (was : Bool) (contents : List Observation) → AgreesOn x o images → Ready s r event o → order ≡ length_of (order_of s.position.machine r) → Took new o event told images'
    → id ≡ x.id → shown ≡ x.shown → was ≡ stays_active event (replica.is_active x.role) → contents ≡ contents_lines x.id x.contents event → known ≡ order - shown
    → now ≡ old ++ told_lines known id shown was told contents closing → Done s (Takes r event closing) (Fine told.barrier_due) r (Some new) images' old now
takes_so s r o x new event closing told images images' old now order known id shown was contents a ready is_order done is_id is_shown is_was is_contents is_known lines =
    let m : Machine = s.position.machine in
    let all = lines_of_step m o event closing in
    let e_id : id ≡ o.id = is_id ∙ sym a.id in
    let e_shown : shown ≡ view_of o = is_shown ∙ sym (view_is x o images a) in
    let e_known : known ≡ length_of (order_of m o.id) - view_of o =
    is_known ∙ (ap (λ (n : ℕ). n - shown) (is_order ∙ ap (λ (q : ℕ). length_of (order_of m q)) (sym ready.number)) ∙ ap (λ (n : ℕ). length_of (order_of m o.id) - n) e_shown) in
    let e_was : was ≡ stays_active event (is_active o) = is_was ∙ ap (λ (b : Bool). stays_active event b) (sym (active_is x o images a)) in
    let e_contents : contents ≡ contents_lines o.id (contents_of o) event =
    is_contents ∙ (ap (λ (n : ℕ). contents_lines n x.contents event) (sym a.id) ∙ ap (λ (c : State). contents_lines o.id c event) (sym (contents_is x o images a))) in
    let same : told_lines known id shown was told contents closing ≡ all =
    ap (λ (n : ℕ). told_lines n id shown was told contents closing) e_known
    ∙ (ap (λ (n : ℕ). told_lines (length_of (order_of m o.id) - view_of o) n shown was told contents closing) e_id
    ∙ (ap (λ (n : ℕ). told_lines (length_of (order_of m o.id) - view_of o) o.id n was told contents closing) e_shown
    ∙ (ap (λ (b : Bool). told_lines (length_of (order_of m o.id) - view_of o) o.id (view_of o) b told contents closing) e_was
    ∙ (ap (λ (t : Outcome). told_lines (length_of (order_of m o.id) - view_of o) o.id (view_of o) (stays_active event (is_active o)) t contents closing) done.outcome
    ∙ (ap (λ (c : List Observation). told_lines (length_of (order_of m o.id) - view_of o) o.id (view_of o) (stays_active event (is_active o)) (step_outcome o event) c closing) e_contents
    ∙ same_lines m o event closing))))) in
    record {
      told = all;
      scene = changed_at s r (Running (step_result o event)) all;
      lines = lines ∙ ap (λ (ls : List Observation). old ++ ls) same;
      does = subst (λ (t : Outcome). Does s (Takes r event closing) (Fine t.barrier_due) all (changed_at s r (Running (step_result o event)) all)) (sym done.outcome) (took r o event closing ready.there ready.may);
      replica = Running (step_result o event);
      changes = refl;
      stands = done.agrees;
    }

-- ---- a step that failed, or was cut off

pub fails_so : (s : Scene) (r : ℕ) (o : OpenReplica) (x : Open) (event : StepEvent) (closing : List Observation) (images images' : Areas → Type 0) (old now : List Observation) (id : ℕ)
    → AgreesOn x o images → Ready s r event o → step_block o event ≢ [] → StandsIn (cut_off o event) images' → id ≡ x.id → now ≡ old ++ says.Fault id ∷ [] → Done s (Takes r event closing) Failed r None images' old now
fails_so s r o x event closing images images' old now id a ready logs stands is_id lines = record {
  told = says.Fault r ∷ [];
  scene = changed_at s r (Closed (cut_off o event)) (says.Fault r ∷ []);
  lines = lines ∙ ap (λ (n : ℕ). old ++ says.Fault n ∷ []) (is_id ∙ (sym a.id ∙ ready.number));
  does = failed r o event closing ready.there ready.may logs;
  replica = Closed (cut_off o event);
  changes = refl;
  stands = stands;
}

-- the disk of an open replica holds its log
pub open_holds : (x : Open) (o : OpenReplica) (images : Areas → Type 0) → AgreesOn x o images → StandsIn (o.disk ∷ []) images
open_holds x o images a c is =
    let held : HoldsOneOf (o.disk ∷ []) c = record { kept = a.kept; is = a.stands c is; one = (0, omega arith, a.disk) } in
    held

pub cuts_so : (s : Scene) (r : ℕ) (o : OpenReplica) (x : Open) (event : StepEvent) (closing : List Observation) (images images' : Areas → Type 0) → AgreesOn x o images → Ready s r event o
    → StandsIn (cut_off o event) images' → (step_block o event ≡ [] → images' ≡ images) → Cut s (Takes r event closing) r images'
cuts_so s r o x event closing images images' a ready stands untouched = by (step_block o event) refl
  where
    by : (b : List Physical) → step_block o event ≡ b → Cut s (Takes r event closing) r images'
    by [] none = before
        (subst (λ (f : FleetReplica). StandsIn (held_by f) images') (sym ready.there)
        (subst (λ (i : Areas → Type 0). StandsIn (o.disk ∷ []) i) (sym (untouched none)) (open_holds x o images a)))
    by (c ∷ cs) some = behind Failed (says.Fault r ∷ []) (changed_at s r (Closed (cut_off o event)) (says.Fault r ∷ [])) (Closed (cut_off o event))
        (failed r o event closing ready.there ready.may (λ none. let e : [] ≡ c ∷ cs = sym none ∙ some in cc)) refl stands
