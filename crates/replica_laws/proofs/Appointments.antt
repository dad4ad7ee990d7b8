-- An appointment of a replica alone: it is active at once, and shows all that its log commits.
use Rattle.std.proofs.Common.{◌≡◌, ◌∙◌, refl, sym, ap, subst, ℕ, ◌+◌, ◌-◌, ◌≤◌, max, Bool, true, cond, List, [], ◌∷◌, ◌++◌, length, map, take, drop, arith, Option, Some, None, inr}
use Rattle.std.specs.Prelude.{nat_lt, ◌||◌}
use Rattle.std.specs.Option.{option_map_or}
use Rattle.std.proofs.Math.Bool.{or-true}
use Rattle.std.proofs.Math.Seq.{drop-append_seam}
use Rattle.std.proofs.lemmas.List.{append-nil, take_all, take-append-le, length-append}
use Rattle.rc_base.specs.declared.ids.Epoch.{Epoch}
use Rattle.rc_base.specs.declared.ids.TxnId.{TxnId}
use Rattle.rc_base.specs.Ids.{is_epoch}
use Rattle.rc_base.proofs.SameIds.{is_epoch_same}
use Rattle.config_rule.specs.declared.appointments.Appointment.{Appointment}
use Rattle.disk_model.specs.Disk.{Areas}
use Rattle.log_records.specs.declared.record.Record.{Record}
use Rattle.log_records.specs.declared.record.Record.TheVariants.{EpochStart}
use Rattle.txn_table.specs.declared.committed.Committed.{Committed}
use Rattle.txn_table.specs.Log.{Items, last_epoch, commits_in}
use Rattle.txn_table.specs.Whole.{Whole, last_position}
use Rattle.log_store.specs.declared.kept.Kept.{Kept}
use Rattle.log_store.specs.Growth.{after}
use Rattle.txn_front.specs.Front.{nothing}
use Rattle.txn_front.proofs.Fronts.{AreAlike-itself}
use Rattle.replica_model.specs.declared.step.StepEvent.{StepEvent}
use Rattle.replica_model.specs.declared.step.StepEvent.TheVariants as steps
use Rattle.replica_model.specs.OpenReplica.{OpenReplica, Leading, shown_commits, view_of}
use Rattle.replica_model.specs.Quorums.{quorum_number, is_of_epoch, stable_at, newly_shown, acknowledged_by, txns_of, unlocked_all, acknowledging, looked}
use Rattle.replica_model.specs.Records.{placed, step_block, appended}
use Rattle.replica_model.specs.Steps.{appointed_to, written, outcome_of}
use Rattle.replica.specs.Open.{Open, AgreesWith, commits_to}
use Rattle.replica.specs.Step.{block, logged, epoch_in, outcome}
use Rattle.replica.proofs.Lengthened.{records_after, commits_after}
use Rattle.replica_laws.specs.Agreement.{AgreesOn, whole_of}
use Rattle.replica_laws.specs.Laws.{AppointsAgree}
use Rattle.replica_laws.proofs.Shown.{last_is, view_is}
use Rattle.replica_laws.proofs.Resting.{number_alone}
use Rattle.replica_laws.proofs.QuietSteps.{agrees_then, result_of, outcome_then}
use Rattle.replica_laws.proofs.Raised.{shown_behind}
use Rattle.replica_laws.proofs.Calls.{ends_there, holds_then}
use Rattle.replica_laws.proofs.CommitEpochs.{AreTo, AreTo-back, commits_to_last, holds_log, none_later}

-- it logs the same
pub appoint_logs : (x : Open) (o : OpenReplica) (images : Areas → Type 0) (appointment : Appointment) → AgreesOn x o images → block x (steps.Appoint appointment) ≡ step_block o (steps.Appoint appointment)
appoint_logs x o images appointment a = ap (λ (n : ℕ). placed n appointment.epoch (EpochStart appointment.epoch ∷ [])) (sym (last_is x o images a))

-- what it shows of a log that goes on behind its records, at a place among these
shown_at : (p : OpenReplica) (v w : Kept) (items : Items) (place : ℕ) → p.disk ≡ whole_of w → w.records ≡ v.records ++ items → p.stable ≡ place → place ≤ length v.records → shown_commits p ≡ commits_to place v.records
shown_at p v w items place disk records stable low =
    let e : place - 0 ≡ place = omega arith in
    ap (λ (d : Whole). shown_commits (record p { disk = d })) disk
    ∙ (ap (λ (n : ℕ). commits_in (take (n - 0) w.records)) stable
    ∙ (ap (λ (n : ℕ). commits_in (take n w.records)) e
    ∙ (ap (λ (l : Items). commits_in (take place l)) records
    ∙ ap commits_in (take-append-le place v.records items low))))

-- the last record of a log is of its last epoch
ends_in : (p : OpenReplica) (w : Kept) (e : Epoch) → p.disk ≡ whole_of w → last_epoch w.records ≡ e → is_of_epoch p.disk e (last_position p.disk) ≡ true
ends_in p w e disk last =
    let n : 0 + length w.records - 0 ≡ length w.records = omega arith in
    ap (λ (d : Whole). is_of_epoch d e (last_position d)) disk
    ∙ (ap (λ (k : ℕ). is_epoch (last_epoch (take k w.records)) e) n
    ∙ (ap (λ (l : Items). is_epoch (last_epoch l) e) (take_all (length w.records) w.records (omega arith))
    ∙ (ap (λ (f : Epoch). is_epoch f e) last ∙ is_epoch_same e)))

-- the value that it comes to
abbrev active_at_end : OpenReplica → Leading → OpenReplica
active_at_end p l = record p { stable = last_position p.disk; leading = Some (record l { active = true }) }

rises : (p : OpenReplica) (l : Leading) → p.leading ≡ Some l → l.current ≡ p.id ∷ [] → l.previous ≡ Some (p.id ∷ []) → is_of_epoch p.disk l.epoch (last_position p.disk) ≡ true → p.stable ≤ last_position p.disk
    → acknowledged_by p (active_at_end p l) ≡ [] → looked p ≡ active_at_end p l
rises p l leads current previous own low none =
    let q : OpenReplica = active_at_end p l in
    let most : max p.stable (last_position p.disk) ≡ last_position p.disk = grind (arith, low) in
    let up : OpenReplica = record p { stable = max p.stable (last_position p.disk); leading = Some (record l { active = true }) } in
    let to_end : stable_at p l (last_position p.disk) ≡ q =
    ap (λ (b : Bool). cond (l.active || b) up p) own ∙ (ap (λ (b : Bool). cond b up p) (or-true l.active) ∙ ap (λ (n : ℕ). record p { stable = n; leading = Some (record l { active = true }) }) most) in
    ap (λ (m : Option Leading). option_map_or (λ (k : Leading). acknowledging p (stable_at p k (quorum_number p k))) m p) leads
    ∙ (ap (λ (n : ℕ). acknowledging p (stable_at p l n)) (number_alone p l current (inr previous))
    ∙ (ap (acknowledging p) to_end ∙ ap (λ (ts : List TxnId). record q { front = unlocked_all q.front ts }) none))

pub appoints_agree : (before now : Areas → Type 0) (c : Areas) → before c → AppointsAgree before now
appoints_agree before now c some appointment x new o a may s =
    let event : StepEvent = steps.Appoint appointment in
    let l : Leading = appointed_to appointment in
    let p : OpenReplica = written o event in
    let q : OpenReplica = active_at_end p l in
    let v : Kept = a.kept in
    let w : Kept = after v (block x event) in
    let done : AgreesWith new w = (s.agrees v a.stands a.agrees).1 in
    let same = appoint_logs x o before appointment a in
    let disk : p.disk ≡ whole_of w = holds_then x o event before a same in
    let records = records_after v x event in
    let e : 0 + length w.records ≡ length w.records = omega arith in
    let long : last_position p.disk ≡ length w.records = ap last_position disk ∙ e in
    let low : x.stable.0 ≤ length v.records = omega (arith, a.agrees.stable_there, a.agrees.last) in
    let below : p.stable ≤ last_position p.disk = omega (arith, a.stable, low, long, ap length records, length-append v.records (map (λ (body : Record). (epoch_in x event, body)) (logged x event))) in
    let last : last_epoch w.records ≡ appointment.epoch = done.epoch ∙ ap (λ (r : Open). r.epoch) s.kept.same in
    let shown_p : shown_commits p ≡ commits_to x.stable.0 v.records = shown_at p v w _ x.stable.0 disk records a.stable low in
    let shown_q : shown_commits q ≡ commits_to x.stable.0 v.records ++ x.ahead =
    shown_behind p w disk ∙ (commits_after x v event a.agrees may ∙ (append-nil (commits_in v.records) ∙ a.agrees.commits)) in
    let newly : newly_shown p q ≡ x.ahead =
    ap (λ (ds : List Committed). drop (length ds) (shown_commits q)) shown_p ∙ (ap (drop (length (commits_to x.stable.0 v.records))) shown_q ∙ drop-append_seam (commits_to x.stable.0 v.records) x.ahead) in
    let all : AreTo x.epoch (commits_in v.records) = subst (λ (f : Epoch). AreTo f (commits_in v.records)) a.agrees.epoch (commits_to_last v.records (holds_log v before a.stands c some)) in
    let ahead : AreTo x.epoch x.ahead = AreTo-back x.epoch (commits_to x.stable.0 v.records) x.ahead (subst (AreTo x.epoch) a.agrees.commits all) in
    let none : acknowledged_by p q ≡ [] = ap (txns_of appointment.epoch) newly ∙ none_later x.epoch appointment.epoch x.ahead may.above ahead in
    let me : x.id ≡ o.id = sym a.id in
    let up : looked p ≡ q =
    rises p l refl (may.alone ∙ ap (λ (n : ℕ). n ∷ []) me) (ap Some (may.alone_before ∙ ap (λ (n : ℕ). n ∷ []) me)) (ends_in p w appointment.epoch disk last) below none in
    let there : AgreesOn new q now =
    agrees_then x new o q event before now a s refl (ap (appended o.disk) (sym same)) (ap last_position disk ∙ (e ∙ ends_there x new o event before now a s refl)) refl
    (record { epoch = refl; active = refl; current = may.alone; previous = inr (ap Some may.alone_before) }) (AreAlike-itself (nothing appointment.epoch)) in
    let views : view_of q ≡ x.shown + length x.ahead = view_is new q now there ∙ ap (λ (r : Open). r.shown) s.kept.same in
    let tells : outcome_of None p q ≡ outcome x event =
    ap (λ (ds : List Committed). record (outcome_of None p q) { commits = ds }) newly
    ∙ (ap (λ (ts : List TxnId). record (outcome_of None p q) { commits = x.ahead; acknowledged = ts }) none
    ∙ (ap (λ (n : ℕ). record (outcome_of None p q) { commits = x.ahead; acknowledged = []; shown = n }) views
    ∙ ap (λ (b : Bool). record (outcome x event) { barrier_due = b }) (or-true (nat_lt (view_of p) (view_of q))))) in
    record {
      block = same;
      outcome = sym tells ∙ (ap (outcome_of None p) (sym up) ∙ sym (outcome_then o event));
      then = subst (λ (r : OpenReplica). AgreesOn new r now) (sym (result_of o event ∙ up)) there;
    }
