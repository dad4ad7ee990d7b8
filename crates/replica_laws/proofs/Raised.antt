-- A primary alone comes to its own end by a look behind a step.
use Rattle.std.proofs.Common.{◌≡◌, ◌∙◌, refl, sym, ap, subst, ℕ, ◌+◌, ◌-◌, ◌≤◌, max, Bool, true, false, cond, List, [], ◌∷◌, ◌++◌, length, map, take, drop, arith, Option, Some, None, ◌⊎◌}
use Rattle.std.specs.Prelude.{nat_lt, ◌&&◌, ◌||◌, not}
use Rattle.std.specs.Option.{option_map_or}
use Rattle.std.proofs.lemmas.List.{append-nil, take_all, take-append-le, length-append}
use Rattle.rc_base.specs.declared.ids.Epoch.{Epoch}
use Rattle.rc_base.specs.declared.ids.Lsn.{Lsn}
use Rattle.disk_model.specs.Disk.{Areas}
use Rattle.events.specs.declared.answer.Answer.{Answer}
use Rattle.log_records.specs.declared.record.Record.{Record}
use Rattle.txn_table.specs.declared.committed.Committed.{Committed}
use Rattle.txn_table.specs.Log.{Items, commits_in}
use Rattle.txn_table.specs.Whole.{Whole, last_position}
use Rattle.log_store.specs.declared.kept.Kept.{Kept}
use Rattle.log_store.specs.Growth.{after}
use Rattle.replica_model.specs.declared.role.Role.{Role}
use Rattle.replica_model.specs.declared.role.Role.TheVariants.{Other, Primary}
use Rattle.replica_model.specs.declared.step.StepEvent.{StepEvent}
use Rattle.replica_model.specs.declared.step.Outcome.{Outcome}
use Rattle.replica_model.specs.OpenReplica as model
use Rattle.replica_model.specs.OpenReplica.{OpenReplica, Leading, shown_commits, view_of}
use Rattle.replica_model.specs.Quorums.{quorum_number, is_of_epoch, stable_at, txns_of, unlocked_all, acknowledging, looked}
use Rattle.replica_model.specs.Records.{step_block}
use Rattle.replica_model.specs.Steps.{written, step_answer, outcome_of}
use Rattle.replica.specs.Open.{Open, HasRole}
use Rattle.replica.specs.Step.{MayStep, is_active, block, logged, epoch_in, stepped, outcome, committed_by, quiet}
use Rattle.replica.proofs.Lengthened.{records_after, commits_after}
use Rattle.replica_laws.specs.Agreement.{AgreesOn, IsRoleOf, IsStep, StepAgrees, whole_of}
use Rattle.replica_laws.proofs.Resting.{number_alone, acknowledges_none, quiet_is}
use Rattle.replica_laws.proofs.QuietSteps.{result_of, outcome_then}

-- ---- a primary alone

-- it is active, all of its log is stable, and no other replica counts
pub record ServesAlone (x : Open) (o : OpenReplica) : Type 0 where
  pub leading : Leading
  pub is : o.leading ≡ Some leading
  pub epoch : leading.epoch ≡ x.epoch
  pub active : leading.active ≡ true
  pub current : leading.current ≡ o.id ∷ []
  pub previous : (leading.previous ≡ None) ⊎ (leading.previous ≡ Some (o.id ∷ []))
  pub role : x.role ≡ Primary x.epoch true
  pub stable : x.stable ≡ x.last
  pub ahead : x.ahead ≡ []

pub serves_alone : (x : Open) (o : OpenReplica) (images : Areas → Type 0) → AgreesOn x o images → is_active x.role ≡ true → ServesAlone x o
serves_alone x o images a on = by x.role refl o.leading refl a.role a.agrees.role on
  where
    by : (role : Role) → x.role ≡ role → (m : Option Leading) → o.leading ≡ m → IsRoleOf x.id role m → HasRole x a.kept.records role → is_active role ≡ true → ServesAlone x o
    by Other was None is r h on = absurd (let e : false ≡ true = on in cc)
    by Other was (Some l) is r h on = absurd r
    by (Primary epoch active) was None is r h on = absurd r
    by (Primary epoch active) was (Some l) is r h on = record {
      leading = l;
      is = is;
      epoch = r.epoch ∙ h.last_one;
      active = r.active ∙ h.active;
      current = r.current ∙ ap (λ (n : ℕ). n ∷ []) (sym a.id);
      previous = subst (λ (n : ℕ). (l.previous ≡ None) ⊎ (l.previous ≡ Some (n ∷ []))) (sym a.id) r.previous;
      role = was ∙ (ap (λ (e : Epoch). Primary e active) h.last_one ∙ ap (Primary x.epoch) h.active);
      stable = h.stable;
      ahead = h.shown;
    }

-- ---- what it shows behind its records

-- at its own end
abbrev pub at_end : OpenReplica → OpenReplica
at_end p = record p { stable = last_position p.disk }

-- the commits that it shows before the look, where it logged this behind these records
pub shown_before : (p : OpenReplica) (v w : Kept) (items : Items) → p.disk ≡ whole_of w → w.records ≡ v.records ++ items → p.stable ≡ length v.records → shown_commits p ≡ commits_in v.records
shown_before p v w items disk records stable =
    let e : length v.records - 0 ≡ length v.records = omega arith in
    ap (λ (d : Whole). shown_commits (record p { disk = d })) disk
    ∙ (ap (λ (n : ℕ). commits_in (take (n - 0) w.records)) stable
    ∙ (ap (λ (n : ℕ). commits_in (take n w.records)) e
    ∙ (ap (λ (l : Items). commits_in (take (length v.records) l)) records
    ∙ (ap commits_in (take-append-le (length v.records) v.records items (omega arith)) ∙ ap commits_in (take_all (length v.records) v.records (omega arith))))))

pub shown_behind : (p : OpenReplica) (w : Kept) → p.disk ≡ whole_of w → shown_commits (at_end p) ≡ commits_in w.records
shown_behind p w disk =
    let e : 0 + length w.records - 0 ≡ length w.records = omega arith in
    ap (λ (d : Whole). shown_commits (at_end (record p { disk = d }))) disk
    ∙ (ap (λ (n : ℕ). commits_in (take n w.records)) e ∙ ap commits_in (take_all (length w.records) w.records (omega arith)))

-- ---- the look

-- it is at its end then, but for the locks of what is acknowledged
pub looks_up : (p : OpenReplica) (l : Leading) → p.leading ≡ Some l → l.active ≡ true → l.current ≡ p.id ∷ [] → (l.previous ≡ None) ⊎ (l.previous ≡ Some (p.id ∷ [])) → p.stable ≤ last_position p.disk → looked p ≡ acknowledging p (at_end p)
looks_up p l some active current previous low =
    let most : max p.stable (last_position p.disk) ≡ last_position p.disk = grind (arith, low) in
    let made : record l { active = true } ≡ l = ap (λ (b : Bool). record l { active = b }) (sym active) in
    let to_end : stable_at p l (last_position p.disk) ≡ at_end p =
    ap (λ (b : Bool). cond (b || is_of_epoch p.disk l.epoch (last_position p.disk)) (record p { stable = max p.stable (last_position p.disk); leading = Some (record l { active = true }) }) p) active
    ∙ (ap (λ (n : ℕ). record p { stable = n; leading = Some (record l { active = true }) }) most
    ∙ ap (λ (m : Option Leading). record p { stable = last_position p.disk; leading = m }) (ap Some made ∙ sym some)) in
    ap (λ (m : Option Leading). option_map_or (λ (k : Leading). acknowledging p (stable_at p k (quorum_number p k))) m p) some
    ∙ (ap (λ (n : ℕ). acknowledging p (stable_at p l n)) (number_alone p l current previous) ∙ ap (acknowledging p) to_end)

-- what is told of it and what it acknowledges hang on the commits that were shown before
abbrev told_from : Option Answer → OpenReplica → List Committed → Outcome
told_from answer q cs = record {
  answer = answer;
  commits = drop (length cs) (shown_commits q);
  acknowledged = option_map_or (λ (l : Leading). txns_of l.epoch (drop (length cs) (shown_commits q))) q.leading [];
  shown = view_of q;
  active = model.is_active q;
  barrier_due = nat_lt (q.disk.start.count + length cs) (view_of q) || (model.is_active q && not (model.is_active q));
}

abbrev released_from : OpenReplica → List Committed → OpenReplica
released_from q cs = record q { front = unlocked_all q.front (option_map_or (λ (l : Leading). txns_of l.epoch (drop (length cs) (shown_commits q))) q.leading []) }

-- where nothing more is shown
pub told_same : (answer : Option Answer) (p : OpenReplica) → shown_commits p ≡ shown_commits (at_end p) → outcome_of answer p (at_end p) ≡ outcome_of answer (at_end p) (at_end p)
told_same answer p same = ap (told_from answer (at_end p)) same

pub releases_none : (p : OpenReplica) → shown_commits p ≡ shown_commits (at_end p) → acknowledging p (at_end p) ≡ at_end p
releases_none p same = ap (released_from (at_end p)) same ∙ acknowledges_none (at_end p)

-- ---- a step that logs and shows nothing more

pub raised_agrees : (x new : Open) (o p : OpenReplica) (event : StepEvent) (before now : Areas → Type 0) (answer : Option Answer) (a : AgreesOn x o before) → MayStep x event → IsStep x new event before now → AgreesOn new (at_end p) now
    → (l : Leading) → p.leading ≡ Some l → l.active ≡ true → l.current ≡ p.id ∷ [] → (l.previous ≡ None) ⊎ (l.previous ≡ Some (p.id ∷ [])) → x.stable ≡ x.last → p.stable ≡ x.stable.0 → p.disk ≡ whole_of (after a.kept (block x event))
    → committed_by x event ≡ [] → block x event ≡ step_block o event → written o event ≡ p → outcome x event ≡ quiet (stepped x event) answer → answer ≡ step_answer o event → StepAgrees x new o event now
raised_agrees x new o p event before now answer a may s there l some active current previous rests stable disk none logs leaves tells answers =
    let v : Kept = a.kept in
    let w : Kept = after v (block x event) in
    let records = records_after v x event in
    let at : p.stable ≡ length v.records = stable ∙ (ap (λ (n : Lsn). n.0) rests ∙ sym a.agrees.last) in
    let long : last_position p.disk ≡ length w.records = let e : 0 + length w.records ≡ length w.records = omega arith in ap last_position disk ∙ e in
    let low : p.stable ≤ last_position p.disk = omega (arith, at, long, ap length records, length-append v.records (map (λ (body : Record). (epoch_in x event, body)) (logged x event))) in
    let same : shown_commits p ≡ shown_commits (at_end p) =
    shown_before p v w _ disk records at ∙ (sym (append-nil (commits_in v.records)) ∙ (ap (λ cs. commits_in v.records ++ cs) (sym none) ∙ (sym (commits_after x v event a.agrees may) ∙ sym (shown_behind p w disk)))) in
    let up : looked p ≡ at_end p = looks_up p l some active current previous low ∙ releases_none p same in
    record {
      block = logs;
      outcome = tells ∙ (sym (ap (λ (r : Open). quiet r answer) s.kept.same) ∙ (sym (quiet_is new (at_end p) now answer there)
          ∙ (sym (told_same answer p same) ∙ (ap (outcome_of answer p) (sym up) ∙ (ap (λ (given : Option Answer). outcome_of given p (looked p)) answers
          ∙ (ap (λ (q : OpenReplica). outcome_of (step_answer o event) q (looked q)) (sym leaves) ∙ sym (outcome_then o event)))))));
      then = subst (λ (q : OpenReplica). AgreesOn new q now) (sym (result_of o event ∙ (ap looked leaves ∙ up))) there;
    }
