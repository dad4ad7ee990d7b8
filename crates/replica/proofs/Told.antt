-- What a step tells, and the words of its records.
use Rattle.std.proofs.Common.{◌≡◌, ℕ, ◌+◌, ◌==◌, Bool, true, false, cond, List, [], ◌∷◌, ◌++◌, Option, Some, None, refl, sym, ap, subst, ◌∙◌}
use Rattle.std.specs.Prelude.{IsTrue}
use Rattle.std.specs.Option.{option_map, option_map_or, option_and_then}
use Rattle.std.proofs.lemmas.Option.{none-some}
use Rattle.rc_base.specs.declared.ids.Lsn.{Lsn}
use Rattle.rc_base.specs.declared.ids.TxnId.{TxnId}
use Rattle.rc_base.specs.Ids.{epoch_lt, no_epoch}
use Rattle.coll_model.specs.declared.op.Kind.{Kind}
use Rattle.coll_model.specs.declared.op.Op.{Op}
use Rattle.coll_model.specs.declared.contents.Contents.{Contents}
use Rattle.coll_model.specs.declared.contents.Contents.TheVariants.{Dict, Queue}
use Rattle.coll_model.specs.Effect.{State, at_key, folded}
use Rattle.events.specs.declared.call.Call.{Call}
use Rattle.events.specs.declared.call.Call.TheVariants as calls
use Rattle.events.specs.declared.call.KeyCall.{KeyCall}
use Rattle.events.specs.declared.call.KeyCall.TheVariants as key_calls
use Rattle.events.specs.declared.answer.Answer.TheVariants as answers
use Rattle.events.specs.declared.answer.Reply.{Reply}
use Rattle.events.specs.Locking.{locks_at, against}
use Rattle.events.specs.Answers.{plain, make_reply, added, deleted, reply_to, locked_or, live_reply, key_reply, dictionary_reply}
use Rattle.events.specs.Calls.{txn_named}
use Rattle.log_records.specs.declared.record.Record.{Record}
use Rattle.log_records.specs.declared.record.Record.TheVariants.{Begin, End}
use Rattle.rc_base.specs.Names.{is_name}
use Rattle.log_records.specs.Spelling.{OpFits, is_key, is_value}
use Rattle.txn_table.specs.Epochs.{later}
use Rattle.log_store.specs.Store.{Store}
use Rattle.txn_front.specs.Front as front
use Rattle.txn_front.specs.Front.{Fronted, Going, AreAlike, going_of, txn_at}
use Rattle.replica_model.specs.declared.role.Role.TheVariants.{Other}
use Rattle.replica_model.specs.declared.step.StepEvent.{StepEvent}
use Rattle.replica_model.specs.declared.step.StepEvent.TheVariants as steps
use Rattle.replica_model.specs.declared.step.Outcome.{Outcome}
use Rattle.replica.specs.Logging.{IsReplyTo, AllFit, asked, last_named, logged_to, answer_of, shown_one, told_commit, told_then}
use Rattle.replica.specs.Open.{Open}
use Rattle.replica_model.specs.Records.{logged_op, logged_call}
use Rattle.replica_model.specs.Steps.{KeyCallFits, CallFits}
use Rattle.replica.specs.Step.{is_active, reply, going_in, logged_by, logged, quiet, shown_commits, committed_at, survey_answer, outcome, MayStep}
use Rattle.replica.proofs.Calls.{IsLive, reply_live, replies_live, logs_live, logs_none}
use Rattle.replica.proofs.Lengthened.{by_call}
use Rattle.replica.proofs.Puts.{alike_going}
use Rattle.replica.proofs.Stepped.{kept_in, commit_changes_none}

-- ---- a reply

-- each call but a commit has one
record HasReply (r : Open) (call : Call) : Type 0 where
  told : Reply
  is : reply r call ≡ Some told

locked_has : (by : Option TxnId) (told : Reply) → (x : Reply) × (locked_or by (Some told) ≡ Some x)
locked_has None told = (told, refl)
locked_has (Some holder) told = (plain (answers.Locked holder), refl)

live_has : (f : Fronted) (state : State) (t : TxnId) (call : Call) → ((seen : State) → (x : Reply) × (reply_to seen call ≡ Some x)) → (o : Option Going)
    → (x : Reply) × (option_map_or (λ going. live_reply f.grants (folded state going.ops) t call) o (Some (plain (answers.Ended t))) ≡ Some x)
live_has f state t call has None = (plain (answers.Ended t), refl)
live_has f state t call has (Some going) =
    let seen : State = folded state going.ops in
    let own = has seen in
    let any = locked_has (against f.grants t (locks_at seen call)) own.0 in
    (any.0, ap (locked_or (against f.grants t (locks_at seen call))) own.1 ∙ any.1)

told_has : (f : Fronted) (state : State) (call : Call) → ((seen : State) → (x : Reply) × (reply_to seen call ≡ Some x)) → (o : Option TxnId)
    → (x : Reply) × (option_map_or (λ t. option_map_or (λ going. live_reply f.grants (folded state going.ops) t call) (going_of f t) (Some (plain (answers.Ended t)))) o (Some (plain (answers.Txn (txn_at f (f.begins + 1))))) ≡ Some x)
told_has f state call has None = (plain (answers.Txn (txn_at f (f.begins + 1))), refl)
told_has f state call has (Some t) = live_has f state t call has (going_of f t)

has_reply : (r : Open) (call : Call) → ((seen : State) → (x : Reply) × (reply_to seen call ≡ Some x)) → HasReply r call
has_reply r call has = by (is_active r.role) refl
  where
    by : (b : Bool) → is_active r.role ≡ b → HasReply r call
    by true on = let some = told_has r.front r.contents call has (txn_named call) in record { told = some.0; is = ap (λ (b : Bool). cond b (front.told r.front r.contents call) (Some (plain (answers.NotActive r.id)))) on ∙ some.1 }
    by false off = record { told = plain (answers.NotActive r.id); is = ap (λ (b : Bool). cond b (front.told r.front r.contents call) (Some (plain (answers.NotActive r.id)))) off }

begin_reply : (r : Open) → HasReply r calls.Begin
begin_reply r = by (is_active r.role) refl
  where
    by : (b : Bool) → is_active r.role ≡ b → HasReply r calls.Begin
    by true on = record { told = plain (answers.Txn (txn_at r.front (r.front.begins + 1))); is = ap (λ (b : Bool). cond b (front.told r.front r.contents calls.Begin) (Some (plain (answers.NotActive r.id)))) on }
    by false off = record { told = plain (answers.NotActive r.id); is = ap (λ (b : Bool). cond b (front.told r.front r.contents calls.Begin) (Some (plain (answers.NotActive r.id)))) off }

-- ---- what a step tells

-- an answer is told as it is
answer_told : (r : Open) (log : Store) (f : Fronted) (call : Call) (told : Option Reply) (cs : Outcome) → told ≡ reply r call → HasReply r call → quiet (kept_in log f r) (answer_of told) ≡ option_map_or (λ told. quiet r (Some told.answer)) (reply r call) cs
answer_told r log f call told cs is has =
    ap (λ (o : Option Reply). quiet (kept_in log f r) (answer_of o)) (is ∙ has.is) ∙ sym (ap (λ (o : Option Reply). option_map_or (λ told. quiet r (Some told.answer)) o cs) has.is)

commit_told : (r : Open) (log : Store) (f : Fronted) (t : TxnId) (told : Option Reply) → AreAlike f r.front → (b : Bool) → is_active r.role ≡ b → (o : Option Going) → going_of r.front t ≡ o → told ≡ reply r (calls.Commit t)
    → cond b (told_commit (kept_in log f r) t (answer_of told)) (quiet (kept_in log f r) (answer_of told))
    ≡ option_map_or (λ told. quiet r (Some told.answer)) (reply r (calls.Commit t)) (shown_commits r (committed_at r t))
commit_told r log f t told alike false off o is same =
    let no : Option Reply = Some (plain (answers.NotActive r.id)) in
    answer_told r log f (calls.Commit t) told (shown_commits r (committed_at r t)) same (record { told = plain (answers.NotActive r.id); is = ap (λ (b : Bool). cond b (front.told r.front r.contents (calls.Commit t)) no) off })
commit_told r log f t told alike true on None is same =
    let no : Option Reply = Some (plain (answers.NotActive r.id)) in
    let gone : Option Reply = Some (plain (answers.Ended t)) in
    let has : reply r (calls.Commit t) ≡ gone = ap (λ (b : Bool). cond b (front.told r.front r.contents (calls.Commit t)) no) on ∙ ap (λ (o : Option Going). option_map_or (λ going. live_reply r.front.grants (folded r.contents going.ops) t (calls.Commit t)) o gone) is in
    ap (λ (o : Option Going). option_map_or (λ going. shown_one (r.shown + 1) t going.ops) o (quiet (kept_in log f r) (answer_of told))) (alike_going f r.front t alike ∙ is)
    ∙ answer_told r log f (calls.Commit t) told (shown_commits r (committed_at r t)) same (record { told = plain (answers.Ended t); is = has })
commit_told r log f t told alike true on (Some going) is same =
    let no : Option Reply = Some (plain (answers.NotActive r.id)) in
    let gone : Option Reply = Some (plain (answers.Ended t)) in
    let has : reply r (calls.Commit t) ≡ None = ap (λ (b : Bool). cond b (front.told r.front r.contents (calls.Commit t)) no) on ∙ ap (λ (o : Option Going). option_map_or (λ going. live_reply r.front.grants (folded r.contents going.ops) t (calls.Commit t)) o gone) is in
    let here : going_in r t ≡ Some going = ap (λ (b : Bool). cond b (going_of r.front t) None) on ∙ is in
    ap (λ (o : Option Going). option_map_or (λ going. shown_one (r.shown + 1) t going.ops) o (quiet (kept_in log f r) (answer_of told))) (alike_going f r.front t alike ∙ is)
    ∙ sym (ap (λ (o : Option Reply). option_map_or (λ told. quiet r (Some told.answer)) o (shown_commits r (committed_at r t))) has
    ∙ ap (λ (o : Option Going). shown_commits r (option_map_or (λ going. record { txn = t; ops = going.ops } ∷ []) o [])) here)

asked_commit : (r : Open) (f : Fronted) (t : TxnId) → AreAlike f (asked r (steps.Client (calls.Commit t))) → AreAlike f r.front
asked_commit r f t h = by (is_active r.role) h
  where
    by : (b : Bool) → AreAlike f (cond b (front.called r.front r.contents (calls.Commit t)) r.front) → AreAlike f r.front
    by true h = subst (AreAlike f) (commit_changes_none r.front r.contents t) h
    by false h = h

told_in : (r : Open) (log : Store) (f : Fronted) (event : StepEvent) (told : Option Reply) → AreAlike f (asked r event) → IsReplyTo r event told → told_then (kept_in log f r) event told ≡ outcome r event
told_in r log f (steps.Client calls.Begin) told h is = answer_told r log f calls.Begin told _ is (begin_reply r)
told_in r log f (steps.Client (calls.Make t name kind)) told h is = answer_told r log f (calls.Make t name kind) told _ is (has_reply r (calls.Make t name kind) (λ seen. (make_reply name kind (at_key name seen), refl)))
told_in r log f (steps.Client (calls.OnKey t name key asked)) told h is = answer_told r log f (calls.OnKey t name key asked) told _ is (has_reply r (calls.OnKey t name key asked) (λ seen. (dictionary_reply name key asked (at_key name seen), refl)))
told_in r log f (steps.Client (calls.Commit t)) told h is = commit_told r log f t told (asked_commit r f t h) (is_active r.role) refl (going_of r.front t) refl is
told_in r log f (steps.Client (calls.Abort t)) told h is = answer_told r log f (calls.Abort t) told _ is (has_reply r (calls.Abort t) (λ seen. (plain answers.Done, refl)))
told_in r log f (steps.Survey epoch) told h is = by (epoch_lt epoch r.fence)
  where
    by : (b : Bool) → quiet (cond b (kept_in log f r) (record (kept_in log f r) { fence = later r.fence epoch; role = Other; front = front.nothing no_epoch })) (Some (survey_answer r epoch))
        ≡ quiet (cond b r (record r { fence = later r.fence epoch; role = Other; front = front.nothing no_epoch })) (Some (survey_answer r epoch))
    by true = refl
    by false = refl
told_in r log f (steps.Appoint a) told h is = refl
told_in r log f (steps.Activate epoch) told h is = refl
told_in r log f steps.Barrier told h is = refl
told_in r log f steps.Inspect told h is = refl

-- what is told of a step is its outcome
pub parts_told : (r m : Open) (event : StepEvent) (told : Option Reply) → m ≡ kept_in m.log m.front r → AreAlike m.front (asked r event) → IsReplyTo r event told → told_then m event told ≡ outcome r event
parts_told r m event told others alike is = ap (λ (o : Open). told_then o event told) others ∙ told_in r m.log m.front event told alike is

-- ---- the records

-- they hang on the position of the transaction's last record alone
op_last : (last : Lsn) (t : TxnId) (going : Going) (op : Option Op) → logged_op last t (logged_to going.last) op ≡ logged_op last t going op
op_last last t going None = refl
op_last last t going (Some op) = refl

pub logged_last : (last : Lsn) (t : TxnId) (going : Going) (call : Call) (told : Option Reply) → logged_call last t (logged_to going.last) call told ≡ logged_call last t going call told
logged_last last t going calls.Begin told = op_last last t going (option_and_then (λ reply. reply.op) told)
logged_last last t going (calls.Make u name kind) told = op_last last t going (option_and_then (λ reply. reply.op) told)
logged_last last t going (calls.OnKey u name key asked) told = op_last last t going (option_and_then (λ reply. reply.op) told)
logged_last last t going (calls.Commit u) told = refl
logged_last last t going (calls.Abort u) told = refl

-- the transaction with the position of its last record
abbrev with_last : TxnId → Going → TxnId × Lsn
with_last t going = (t, going.last)

some_pair : (t u : TxnId) (last : Lsn) (o : Option Going) → option_map (with_last u) o ≡ Some (t, last) → (going : Going) × (o ≡ Some going) × (u ≡ t) × (going.last ≡ last)
some_pair t u last None h = absurd (none-some (t, last) h)
some_pair t u last (Some going) h = (going, refl, ap (λ (o : Option (TxnId × Lsn)). option_map_or (λ p. p.0) o u) h, ap (λ (o : Option (TxnId × Lsn)). option_map_or (λ p. p.1) o last) h)

-- the records of a call from the position of its transaction's last record
pub named_logs : (r : Open) (call : Call) (t : TxnId) (last : Lsn) (told : Option Reply) (bodies : List Record) → is_active r.role ≡ true → last_named r.front call ≡ Some (t, last) → told ≡ front.told r.front r.contents call
    → bodies ≡ logged_call r.last t (logged_to last) call told → bodies ≡ logged_by r call
named_logs r call t last told bodies on is told_is are = by (txn_named call) refl is
  where
    by : (o : Option TxnId) → txn_named call ≡ o → option_and_then (λ t. option_map (with_last t) (going_of r.front t)) o ≡ Some (t, last) → bodies ≡ logged_by r call
    by None named h = absurd (none-some (t, last) h)
    by (Some u) named h =
        let found = some_pair t u last (going_of r.front u) h in
        let live : IsLive r u = record { going = found.0; is = found.1; active = on } in
        let answered : told ≡ reply_live r u found.0 call = told_is ∙ sym (ap (λ (b : Bool). cond b (front.told r.front r.contents call) (Some (plain (answers.NotActive r.id)))) on) ∙ replies_live r u call named live in
        are ∙ ap (λ (w : TxnId). logged_call r.last w (logged_to last) call told) (sym found.2) ∙ ap (λ (l : Lsn). logged_call r.last u (logged_to l) call told) (sym found.3)
        ∙ logged_last r.last u found.0 call told ∙ ap (logged_call r.last u found.0 call) answered ∙ sym (logs_live r u call named live)

pub none_logs : (r : Open) (call : Call) → last_named r.front call ≡ None → logged_by r call ≡ []
none_logs r call is = by (txn_named call) refl is
  where
    off : (t : TxnId) (o : Option Going) → going_of r.front t ≡ o → option_map (with_last t) o ≡ None → going_in r t ≡ None
    off t None gone h = elim (is_active r.role) as (λ b. cond b (going_of r.front t) None ≡ None) [ true ↦ gone | false ↦ refl ]
    off t (Some going) gone h = absurd (none-some (t, going.last) (sym h))

    by : (o : Option TxnId) → txn_named call ≡ o → option_and_then (λ t. option_map (with_last t) (going_of r.front t)) o ≡ None → logged_by r call ≡ []
    by None named h = ap (λ (o : Option TxnId). option_map_or (λ t. option_map_or (λ going. logged_call r.last t going call (reply r call)) (going_in r t) []) o []) named
    by (Some t) named h = logs_none r t call named (off t (going_of r.front t) refl h)

-- ---- words

-- what a reply logs has a spelling
abbrev OpSpelled : Option Op → Type 0
OpSpelled None = Unit {0}
OpSpelled (Some op) = OpFits op

abbrev ReplySpelled : Option Reply → Type 0
ReplySpelled None = Unit {0}
ReplySpelled (Some told) = OpSpelled told.op

op_of : (told : Option Reply) → ReplySpelled told → OpSpelled (option_and_then (λ reply. reply.op) told)
op_of None h = tt
op_of (Some told) h = h

make_spelled : (name : List ℕ) (kind : Kind) (o : Option Contents) → IsTrue (is_name name) → OpSpelled (make_reply name kind o).op
make_spelled name kind None h = h
make_spelled name kind (Some contents) h = tt

added_spelled : (name key value : List ℕ) (o : Option (List ℕ)) → IsTrue (is_name name) × IsTrue (is_key key) × IsTrue (is_value value) → OpSpelled (added name key value o).op
added_spelled name key value None h = h
added_spelled name key value (Some present) h = tt

deleted_spelled : (name key : List ℕ) (o : Option (List ℕ)) → IsTrue (is_name name) × IsTrue (is_key key) → OpSpelled (deleted name key o).op
deleted_spelled name key None h = tt
deleted_spelled name key (Some present) h = h

key_spelled : (name key : List ℕ) (call : KeyCall) (o : Option (List ℕ)) → KeyCallFits name key call → OpSpelled (key_reply name key call o).op
key_spelled name key key_calls.Get o h = tt
key_spelled name key key_calls.GetForUpdate o h = tt
key_spelled name key (key_calls.Set value) o h = h
key_spelled name key (key_calls.Add value) o h = added_spelled name key value o h
key_spelled name key key_calls.Delete o h = deleted_spelled name key o h

dictionary_spelled : (name key : List ℕ) (call : KeyCall) (o : Option Contents) → KeyCallFits name key call → OpSpelled (dictionary_reply name key call o).op
dictionary_spelled name key call None h = tt
dictionary_spelled name key call (Some (Queue values)) h = tt
dictionary_spelled name key call (Some (Dict pairs)) h = key_spelled name key call (at_key key pairs) h

reply_spelled : (state : State) (call : Call) → CallFits call → ReplySpelled (reply_to state call)
reply_spelled state calls.Begin h = tt
reply_spelled state (calls.Make t name kind) h = make_spelled name kind (at_key name state) h
reply_spelled state (calls.OnKey t name key call) h = dictionary_spelled name key call (at_key name state) h
reply_spelled state (calls.Commit t) h = tt
reply_spelled state (calls.Abort t) h = tt

locked_spelled : (by : Option TxnId) (told : Option Reply) → ReplySpelled told → ReplySpelled (locked_or by told)
locked_spelled None told h = h
locked_spelled (Some holder) told h = tt

live_spelled : (f : Fronted) (state : State) (t : TxnId) (call : Call) → CallFits call → (o : Option Going) → ReplySpelled (option_map_or (λ going. live_reply f.grants (folded state going.ops) t call) o (Some (plain (answers.Ended t))))
live_spelled f state t call h None = tt
live_spelled f state t call h (Some going) =
    let seen : State = folded state going.ops in
    locked_spelled (against f.grants t (locks_at seen call)) (reply_to seen call) (reply_spelled seen call h)

told_spelled : (r : Open) (call : Call) → CallFits call → ReplySpelled (reply r call)
told_spelled r call h = by (is_active r.role)
  where
    served : (o : Option TxnId) → ReplySpelled (option_map_or (λ t. option_map_or (λ going. live_reply r.front.grants (folded r.contents going.ops) t call) (going_of r.front t) (Some (plain (answers.Ended t)))) o (Some (plain (answers.Txn (txn_at r.front (r.front.begins + 1))))))
    served None = tt
    served (Some t) = live_spelled r.front r.contents t call h (going_of r.front t)

    by : (b : Bool) → ReplySpelled (cond b (front.told r.front r.contents call) (Some (plain (answers.NotActive r.id))))
    by true = served (txn_named call)
    by false = tt

due_fits : (b : Bool) (t : TxnId) (bodies : List Record) → AllFit bodies → AllFit (cond b (Begin t ∷ []) [] ++ bodies)
due_fits true t bodies h = (tt, h)
due_fits false t bodies h = h

op_fits : (last : Lsn) (t : TxnId) (going : Going) (op : Option Op) → OpSpelled op → AllFit (logged_op last t going op)
op_fits last t going None h = tt
op_fits last t going (Some op) h = due_fits (going.last.0 == 0) t _ (h, tt)

call_fits : (last : Lsn) (t : TxnId) (going : Going) (call : Call) (told : Option Reply) → ReplySpelled told → AllFit (logged_call last t going call told)
call_fits last t going calls.Begin told h = op_fits last t going (option_and_then (λ reply. reply.op) told) (op_of told h)
call_fits last t going (calls.Make u name kind) told h = op_fits last t going (option_and_then (λ reply. reply.op) told) (op_of told h)
call_fits last t going (calls.OnKey u name key asked) told h = op_fits last t going (option_and_then (λ reply. reply.op) told) (op_of told h)
call_fits last t going (calls.Commit u) told h = due_fits (going.last.0 == 0) t _ (tt, tt)
call_fits last t going (calls.Abort u) told h = elim (going.last.0 == 0) as (λ b. AllFit (cond b [] (End t going.last false ∷ []))) [ true ↦ tt | false ↦ (tt, tt) ]

-- the records of a step have a spelling
pub logged_fits : (r : Open) (event : StepEvent) → MayStep r event → AllFit (logged r event)
logged_fits r (steps.Client call) may = by_call AllFit r call tt (λ t going. call_fits r.last t going call (reply r call) (told_spelled r call may))
logged_fits r (steps.Survey epoch) may = tt
logged_fits r (steps.Appoint a) may = (tt, tt)
logged_fits r (steps.Activate epoch) may = tt
logged_fits r steps.Barrier may = (tt, tt)
logged_fits r steps.Inspect may = tt
