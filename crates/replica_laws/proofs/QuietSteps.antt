-- Steps behind which a replica has nothing to look at.
use Rattle.std.proofs.Common.{◌≡◌, ◌∙◌, refl, sym, ap, subst, ℕ, max, Bool, true, false, cond, List, [], ◌∷◌, arith, Option, Some, None, inl}
use Rattle.std.specs.Prelude.{option_map}
use Rattle.rc_base.specs.declared.ids.Epoch.{Epoch}
use Rattle.rc_base.specs.Ids.{is_epoch}
use Rattle.disk_model.specs.Disk.{Areas}
use Rattle.events.specs.declared.answer.Answer.{Answer}
use Rattle.log_records.specs.declared.record.Physical.{Physical}
use Rattle.log_records.specs.declared.record.Physical.TheVariants.{Logical, Fence, TruncateTail, CheckpointDone, Reset, Head}
use Rattle.txn_table.specs.Whole.{Whole, stable_in}
use Rattle.log_store.specs.declared.kept.Kept.{Kept}
use Rattle.log_store.specs.Growth.{after, after_one}
use Rattle.txn_front.specs.Front.{AreAlike}
use Rattle.txn_front.proofs.Fronts.{AreAlike-trans, AreAlike-from_same}
use Rattle.replica_model.specs.declared.role.Role.{Role}
use Rattle.replica_model.specs.declared.role.Role.TheVariants.{Other, Primary}
use Rattle.replica_model.specs.declared.step.StepEvent.{StepEvent}
use Rattle.replica_model.specs.declared.step.StepEvent.TheVariants as steps
use Rattle.replica_model.specs.declared.step.Outcome.{Outcome}
use Rattle.replica_model.specs.OpenReplica.{OpenReplica, Leading, opened_over}
use Rattle.replica_model.specs.Quorums.{looked}
use Rattle.replica_model.specs.Records.{step_block, with_record, appended}
use Rattle.replica_model.specs.Steps.{dropping, written, step_result, step_outcome, step_answer, outcome_of}
use Rattle.replica.specs.Open.{Open}
use Rattle.replica.specs.Step.{block, stepped, quiet, outcome}
use Rattle.replica_laws.specs.Agreement.{AgreesOn, IsRoleOf, LeadsAlone, IsStep, StepAgrees, whole_of}
use Rattle.replica_laws.specs.Laws.{MountsAgree, InspectionsAgree, ActivationsAgree}
use Rattle.replica_laws.proofs.Resting.{rests, quiet_is}

-- ---- what the disk holds then

one_appended : (v : Kept) (item : Physical) → with_record (whole_of v) item ≡ whole_of (after_one v item)
one_appended v (Fence epoch) = refl
one_appended v (Logical lsn epoch body) = refl
one_appended v (TruncateTail lsn) = refl
one_appended v (CheckpointDone slot at len) = refl
one_appended v (Reset slot at len) = refl
one_appended v (Head generation partition) = refl

pub all_appended : (v : Kept) (items : List Physical) → appended (whole_of v) items ≡ whole_of (after v items)
all_appended v [] = refl
all_appended v (item ∷ items) = ap (λ (w : Whole). appended w items) (one_appended v item) ∙ all_appended (after_one v item) items

-- ---- another value of the model's

-- a replica behind a step agrees with this value of the model's
pub agrees_then : (x new : Open) (o p : OpenReplica) (event : StepEvent) (before now : Areas → Type 0) (a : AgreesOn x o before) → IsStep x new event before now
    → p.id ≡ o.id → p.disk ≡ appended o.disk (block x event) → p.stable ≡ (stepped x event).stable.0 → (stepped x event).id ≡ x.id → IsRoleOf x.id (stepped x event).role p.leading → AreAlike (stepped x event).front p.front → AgreesOn new p now
agrees_then x new o p event before now a s id disk stable stays role front =
    let done = s.agrees a.kept a.stands a.agrees in
    let same = s.kept.same in
    record {
      kept = after a.kept (block x event);
      stands = done.0;
      opened = s.opened;
      not_closed = s.not_closed;
      agrees = done.1;
      id = id ∙ (a.id ∙ (sym stays ∙ sym (ap (λ (r : Open). r.id) same)));
      disk = disk ∙ (ap (λ (w : Whole). appended w (block x event)) a.disk ∙ all_appended a.kept (block x event));
      stable = stable ∙ sym (ap (λ (r : Open). r.stable.0) same);
      role = subst (λ (r : Open). IsRoleOf r.id r.role p.leading) (sym same) (subst (λ (n : ℕ). IsRoleOf n (stepped x event).role p.leading) (sym stays) role);
      front = AreAlike-trans new.front (stepped x event).front p.front s.kept.front front;
    }

-- the same, where this is the replica behind the step
pub agrees_at : (x y new : Open) (o p : OpenReplica) (event : StepEvent) (before now : Areas → Type 0) (a : AgreesOn x o before) → IsStep x new event before now → stepped x event ≡ y
    → p.id ≡ o.id → p.disk ≡ appended o.disk (block x event) → p.stable ≡ y.stable.0 → y.id ≡ x.id → IsRoleOf x.id y.role p.leading → AreAlike y.front p.front → AgreesOn new p now
agrees_at x y new o p event before now a s is id disk stable stays role front =
    agrees_then x new o p event before now a s id disk (stable ∙ sym (ap (λ (r : Open). r.stable.0) is)) (ap (λ (r : Open). r.id) is ∙ stays)
    (subst (λ (r : Open). IsRoleOf x.id r.role p.leading) (sym is) role) (subst (λ (r : Open). AreAlike r.front p.front) (sym is) front)

-- where there is nothing to look at, what is told is what is told of a step that shows nothing more
pub told_quiet : (x new : Open) (p : OpenReplica) (event : StepEvent) (before now : Areas → Type 0) (answer : Option Answer) → IsStep x new event before now → AgreesOn new p now → quiet (stepped x event) answer ≡ outcome_of answer p (looked p)
told_quiet x new p event before now answer s a =
    sym (ap (λ (r : Open). quiet r answer) s.kept.same) ∙ (sym (quiet_is new p now answer a) ∙ ap (outcome_of answer p) (sym (rests new p now a)))

-- ---- a mount

pub mounts_agree : (now : Areas → Type 0) → MountsAgree now
mounts_agree now x id kept m =
    let o : OpenReplica = opened_over id (whole_of kept) in
    let most : max 0 (stable_in kept.records) ≡ stable_in kept.records = grind arith in
    let a : AgreesOn x o now = record {
      kept = kept;
      stands = m.stands;
      opened = m.opened;
      not_closed = m.not_closed;
      agrees = m.agrees;
      id = sym m.id;
      disk = refl;
      stable = most ∙ sym m.stable;
      role = subst (λ (role : Role). IsRoleOf x.id role None) (sym m.role) tt;
      front = AreAlike-from_same x.front o.front m.front;
    } in
    record { agrees = a; outcome = sym (quiet_is x o now None a) }

-- ---- an inspection

pub result_of : (o : OpenReplica) (event : StepEvent) → step_result o event ≡ looked (written o event)
unfolding step_result
result_of o event = refl

pub outcome_then : (o : OpenReplica) (event : StepEvent) → step_outcome o event ≡ outcome_of (step_answer o event) (written o event) (looked (written o event))
unfolding step_outcome
outcome_then o event = refl

-- a step that shows nothing more and leaves nothing to look at
pub quiet_agrees : (x new : Open) (o p : OpenReplica) (event : StepEvent) (before now : Areas → Type 0) (answer : Option Answer) → IsStep x new event before now → AgreesOn new p now
    → block x event ≡ step_block o event → written o event ≡ p → outcome x event ≡ quiet (stepped x event) answer → answer ≡ step_answer o event → StepAgrees x new o event now
quiet_agrees x new o p event before now answer s there logs leaves tells answers =
    let looks : OpenReplica → Outcome = λ q. outcome_of (step_answer o event) q (looked q) in
    record {
      block = logs;
      outcome = tells ∙ (told_quiet x new p event before now answer s there
          ∙ (ap (λ (given : Option Answer). outcome_of given p (looked p)) answers ∙ (ap looks (sym leaves) ∙ sym (outcome_then o event))));
      then = subst (λ (q : OpenReplica). AgreesOn new q now) (sym (result_of o event ∙ (ap looked leaves ∙ rests new p now there))) there;
    }

pub inspections_agree : (before now : Areas → Type 0) → InspectionsAgree before now
inspections_agree before now x new o a may s =
    let there : AgreesOn new o now = agrees_then x new o o steps.Inspect before now a s refl refl a.stable refl a.role a.front in
    quiet_agrees x new o o steps.Inspect before now None s there refl refl refl refl

-- ---- an activation

alone_still : (id : ℕ) (e epoch : Epoch) (serves : Bool) (l : Leading) → LeadsAlone id epoch serves l → LeadsAlone id epoch serves (dropping e l)
alone_still id e epoch serves l h = by (is_epoch l.epoch e)
  where
    by : (b : Bool) → LeadsAlone id epoch serves (cond b (record l { previous = None }) l)
    by true = record { epoch = h.epoch; active = h.active; current = h.current; previous = inl refl }
    by false = h

role_still : (id : ℕ) (e : Epoch) (role : Role) (m : Option Leading) → IsRoleOf id role m → IsRoleOf id role (option_map (dropping e) m)
role_still id e Other None r = tt
role_still id e Other (Some l) r = absurd r
role_still id e (Primary epoch active) None r = absurd r
role_still id e (Primary epoch active) (Some l) r = alone_still id e epoch active l r

pub activations_agree : (before now : Areas → Type 0) → ActivationsAgree before now
activations_agree before now e x new o a may s =
    let p : OpenReplica = written o (steps.Activate e) in
    let there : AgreesOn new p now = agrees_then x new o p (steps.Activate e) before now a s refl refl a.stable refl (role_still x.id e x.role o.leading a.role) a.front in
    quiet_agrees x new o p (steps.Activate e) before now None s there refl refl refl refl
