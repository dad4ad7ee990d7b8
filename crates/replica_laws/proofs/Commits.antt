-- The commit of a transaction that goes on: it is shown and acknowledged at once.
use Rattle.std.proofs.Common.{◌≡◌, ◌∙◌, refl, sym, ap, subst, ℕ, ◌+◌, ◌≤◌, Bool, true, false, cond, List, [], ◌∷◌, ◌++◌, length, map, drop, arith, Option, Some, None}
use Rattle.std.specs.Prelude.{option_map, nat_lt, ◌&&◌, ◌||◌, not}
use Rattle.std.specs.Option.{option_map_or}
use Rattle.std.specs.Ordering.{nat_cmp}
use Rattle.std.specs.Map.{remove_entry}
use Rattle.std.specs.BTreeMap.{is_at}
use Rattle.std.proofs.Math.Seq.{drop-append_seam}
use Rattle.std.proofs.lemmas.Bool.Decides.{nat_tests}
use Rattle.std.proofs.lemmas.List.{append-nil, length-append}
use Rattle.rc_base.specs.declared.ids.Lsn.{Lsn}
use Rattle.rc_base.specs.declared.ids.TxnId.{TxnId}
use Rattle.rc_base.specs.Ids.{is_epoch}
use Rattle.key_locks.specs.Grants.{released}
use Rattle.disk_model.specs.Disk.{Areas}
use Rattle.coll_model.specs.Effect.{folded}
use Rattle.events.specs.declared.call.Call.TheVariants as calls
use Rattle.events.specs.declared.answer.Answer.{Answer}
use Rattle.events.specs.declared.answer.Answer.TheVariants as answers
use Rattle.events.specs.declared.answer.Reply.{Reply}
use Rattle.events.specs.Answers.{plain}
use Rattle.log_records.specs.declared.record.Record.{Record}
use Rattle.txn_table.specs.declared.committed.Committed.{Committed}
use Rattle.txn_table.specs.Log.{commits_in}
use Rattle.txn_table.specs.Whole.{Whole, last_position}
use Rattle.log_store.specs.declared.kept.Kept.{Kept}
use Rattle.log_store.specs.Growth.{after}
use Rattle.txn_front.specs.Front as front
use Rattle.txn_front.specs.Front.{Fronted, Going, AreAlike, going_of, done, ended, unlocked}
use Rattle.txn_front.proofs.Fronts.{found_live, told_live, ended-alike}
use Rattle.replica_model.specs.declared.step.StepEvent.{StepEvent}
use Rattle.replica_model.specs.declared.step.StepEvent.TheVariants as steps
use Rattle.replica_model.specs.OpenReplica as model
use Rattle.replica_model.specs.OpenReplica.{OpenReplica, Leading, view_of}
use Rattle.replica_model.specs.OpenReplica.{shown_commits as model_shown}
use Rattle.replica_model.specs.Quorums.{newly_shown, txns_of, unlocked_all, acknowledged_by, looked}
use Rattle.replica_model.specs.Steps.{written, with_block, step_answer, outcome_of}
use Rattle.replica.specs.Open.{Open, commits_to}
use Rattle.replica.specs.Step.{MayStep, is_active, reply, going_in, logged_by, logged, epoch_in, lengthened, block, stepped, outcome, quiet, shown_commits, committed_by}
use Rattle.replica.proofs.Lengthened.{records_after, commits_after}
use Rattle.replica.proofs.OneRecord.{active_primary}
use Rattle.replica.proofs.Puts.{alike_going}
use Rattle.replica_laws.specs.Agreement.{AgreesOn, IsStep, StepAgrees, whole_of}
use Rattle.replica_laws.proofs.Shown.{view_is, active_is}
use Rattle.replica_laws.proofs.QuietSteps.{result_of, outcome_then}
use Rattle.replica_laws.proofs.Raised.{at_end, serves_alone, shown_before, shown_behind, looks_up}
use Rattle.replica_laws.proofs.CallBlocks.{reply_is, call_logs}
use Rattle.replica_laws.proofs.Calls.{is_then, holds_then, call_there}

-- where it goes on no more, its locks go
done_then : (f : Fronted) (t : TxnId) (going : Going) → going_of f t ≡ Some going → unlocked (done f t) t ≡ ended f t
done_then f t going is =
    ap (λ (m : Option Going). unlocked (option_map_or (λ g. record f { live = remove_entry (is_at (nat_cmp t.n)) f.live }) m f) t) is
    ∙ sym (ap (λ (m : Option Going). option_map_or (λ g. record f { live = remove_entry (is_at (nat_cmp t.n)) f.live; grants = released f.grants t }) m f) is)

one_more : (n m : ℕ) → n + 1 ≡ m → nat_lt n m ≡ true
one_more n m h = grind (arith, nat_tests)

-- what is told of a replica that comes from one value to another, part by part
told_as : (p q : OpenReplica) (cs : List Committed) (ts : List TxnId) (shown : ℕ) → newly_shown p q ≡ cs → acknowledged_by p q ≡ ts → view_of q ≡ shown → model.is_active q ≡ true → nat_lt (view_of p) (view_of q) ≡ true
    → outcome_of None p q ≡ record { answer = None; commits = cs; acknowledged = ts; shown = shown; active = true; barrier_due = true }
told_as p q cs ts shown commits acknowledged views active rises =
    ap (λ (ds : List Committed). record (outcome_of None p q) { commits = ds }) commits
    ∙ (ap (λ (us : List TxnId). record (outcome_of None p q) { commits = cs; acknowledged = us }) acknowledged
    ∙ (ap (λ (n : ℕ). record (outcome_of None p q) { commits = cs; acknowledged = ts; shown = n }) views
    ∙ (ap (λ (b : Bool). record (outcome_of None p q) { commits = cs; acknowledged = ts; shown = shown; active = b }) active
    ∙ ap (λ (b : Bool). record (outcome_of None p q) { commits = cs; acknowledged = ts; shown = shown; active = true; barrier_due = b || (model.is_active q && not (model.is_active p)) }) rises)))

pub commits_agree : (before now : Areas → Type 0) (t : TxnId) (x new : Open) (o : OpenReplica) → AgreesOn x o before → MayStep x (steps.Client (calls.Commit t)) → is_active x.role ≡ true
    → IsStep x new (steps.Client (calls.Commit t)) before now → (going : Going) → going_of x.front t ≡ Some going → StepAgrees x new o (steps.Client (calls.Commit t)) now
commits_agree before now t x new o a may on s going is =
    let event : StepEvent = steps.Client (calls.Commit t) in
    let serves = serves_alone x o before a on in
    let l : Leading = serves.leading in
    let v : Kept = a.kept in
    let w : Kept = after v (block x event) in
    let one : Committed = record { txn = t; ops = going.ops } in
    let cs : List Committed = one ∷ [] in
    let p : OpenReplica = record (with_block o event) { front = front.done o.front t } in
    let q : OpenReplica = record (at_end p) { front = front.ended o.front t } in
    let same = call_logs x o before (calls.Commit t) a in
    let disk : p.disk ≡ whole_of w = holds_then x o event before a same in
    let away : going_of o.front t ≡ Some going = sym (alike_going x.front o.front t a.front) ∙ is in
    let here : going_in x t ≡ Some going = ap (λ (b : Bool). cond b (going_of x.front t) None) on ∙ is in
    let commits : committed_by x event ≡ cs = ap (λ (m : Option Going). option_map_or (λ g. record { txn = t; ops = g.ops } ∷ []) m []) here in
    let records = records_after v x event in
    let at : p.stable ≡ length v.records = a.stable ∙ (ap (λ (n : Lsn). n.0) serves.stable ∙ sym a.agrees.last) in
    let e : 0 + length w.records ≡ length w.records = omega arith in
    let long : last_position p.disk ≡ length w.records = ap last_position disk ∙ e in
    let low : p.stable ≤ last_position p.disk = omega (arith, at, long, ap length records, length-append v.records (map (λ (body : Record). (epoch_in x event, body)) (logged x event))) in
    let shown_p : model_shown p ≡ commits_in v.records = shown_before p v w _ disk records at in
    let shown_q : model_shown (at_end p) ≡ commits_in v.records ++ cs = shown_behind p w disk ∙ (commits_after x v event a.agrees may ∙ ap (λ ds. commits_in v.records ++ ds) commits) in
    let newly : newly_shown p (at_end p) ≡ cs =
    ap (λ (ds : List Committed). drop (length ds) (model_shown (at_end p))) shown_p ∙ (ap (drop (length (commits_in v.records))) shown_q ∙ drop-append_seam (commits_in v.records) cs) in
    let primary = active_primary x v.records x.role refl a.agrees.role on in
    let own : is_epoch t.epoch l.epoch ≡ true = ap (is_epoch t.epoch) (serves.epoch ∙ sym primary.1.begins_in) ∙ (found_live x.front t going is).0 in
    let named : txns_of l.epoch cs ≡ t ∷ [] = ap (λ (b : Bool). map (λ (c : Committed). c.txn) (cond b (one ∷ []) [])) own in
    let acknowledged : acknowledged_by p (at_end p) ≡ t ∷ [] =
    ap (λ (m : Option Leading). option_map_or (λ k. txns_of k.epoch (newly_shown p (at_end p))) m []) serves.is ∙ (ap (txns_of l.epoch) newly ∙ named) in
    let locks : unlocked_all p.front (acknowledged_by p (at_end p)) ≡ front.ended o.front t = ap (unlocked_all p.front) acknowledged ∙ done_then o.front t going away in
    let up : looked p ≡ q = looks_up p l serves.is serves.active serves.current serves.previous low ∙ ap (λ (f : Fronted). record (at_end p) { front = f }) locks in
    let then : Option Going → Open = λ (m : Option Going). option_map_or (λ g. record (lengthened (length (logged_by x (calls.Commit t))) x.epoch x) { shown = x.shown + 1; contents = folded x.contents g.ops; front = front.ended x.front t }) m x in
    let leads : stepped x event ≡ then (Some going) = is_then x (calls.Commit t) on ∙ ap then is in
    let there : AgreesOn new q now = call_there before now (calls.Commit t) x new o q a on s refl refl refl refl
    (subst (λ (r : Open). AreAlike r.front (front.ended o.front t)) (sym leads) (ended-alike x.front o.front t a.front)) in
    let views : view_of q ≡ x.shown + 1 = view_is new q now there ∙ (ap (λ (r : Open). r.shown) s.kept.same ∙ ap (λ (r : Open). r.shown) leads) in
    let start : p.disk.start.count ≡ 0 = ap (λ (d : Whole). d.start.count) disk in
    let all : commits_in v.records ≡ commits_to x.stable.0 v.records = a.agrees.commits ∙ (ap (λ ds. commits_to x.stable.0 v.records ++ ds) serves.ahead ∙ append-nil (commits_to x.stable.0 v.records)) in
    let viewed : view_of p ≡ x.shown = omega (arith, start, ap length shown_p, ap length all, a.agrees.shown) in
    let serving : model.is_active q ≡ true = ap (λ (m : Option Leading). option_map_or (λ k. k.active) m false) serves.is ∙ serves.active in
    let model_tells : outcome_of None p q ≡ shown_commits x cs = told_as p q cs (t ∷ []) (x.shown + 1) newly acknowledged views serving (one_more (view_of p) (view_of q) (omega (arith, viewed, views))) in
    let replies : reply x (calls.Commit t) ≡ None = ap (λ (b : Bool). cond b (front.told x.front x.contents (calls.Commit t)) (Some (plain (answers.NotActive x.id)))) on ∙ told_live x.front x.contents (calls.Commit t) t going refl is in
    let tells : outcome x event ≡ shown_commits x cs =
    ap (λ (r : Option Reply). option_map_or (λ given. quiet x (Some given.answer)) r (shown_commits x (committed_by x event))) replies ∙ ap (shown_commits x) commits in
    let answer : step_answer o event ≡ None = ap (option_map (λ (r : Reply). r.answer)) (sym (reply_is x o before (calls.Commit t) a) ∙ replies) in
    let leaves : written o event ≡ p = ap (λ (b : Bool). cond b p o) (active_is x o before a ∙ on) in
    record {
      block = same;
      outcome = tells ∙ (sym model_tells ∙ (ap (outcome_of None p) (sym up) ∙ (ap (λ (given : Option Answer). outcome_of given p (looked p)) (sym answer)
          ∙ (ap (λ (r : OpenReplica). outcome_of (step_answer o event) r (looked r)) (sym leaves) ∙ sym (outcome_then o event)))));
      then = subst (λ (r : OpenReplica). AgreesOn new r now) (sym (result_of o event ∙ (ap looked leaves ∙ up))) there;
    }
