-- The calls of a transaction that reads and writes under its locks: their answers stay, whatever others commit.
use Rattle.std.proofs.Common.{◌≡◌, ◌∙◌, ℕ, Bool, true, false, List, [], ◌∷◌, ◌++◌, Option, Some, None, MatchBool, is_some, filter_map, refl, sym, ap, subst}
use Rattle.std.specs.List.{cons_option}
use Rattle.std.proofs.lemmas.Option.{none-some, same_Some}
use Rattle.std.proofs.lemmas.List.Elements.{All-nil, All-cons, All-weaker}
use Rattle.rc_base.specs.declared.ids.TxnId.{TxnId}
use Rattle.rc_base.specs.Ids.{is_txn}
use Rattle.coll_model.specs.declared.op.Kind.{Kind}
use Rattle.coll_model.specs.declared.op.Op.{Op}
use Rattle.coll_model.specs.declared.contents.Contents.{Contents}
use Rattle.coll_model.specs.declared.contents.Contents.TheVariants.{Dict, Queue}
use Rattle.coll_model.specs.Effect.{State, at_key, folded}
use Rattle.key_locks.specs.declared.lock_name.LockName.{LockName}
use Rattle.key_locks.specs.declared.lock_mode.LockMode.{LockMode}
use Rattle.key_locks.specs.Grants.{Grant, granted, released, Alike}
use Rattle.events.specs.declared.call.Call.{Call}
use Rattle.events.specs.declared.call.Call.TheVariants.{Begin, Make, OnKey, Commit, Abort}
use Rattle.events.specs.declared.call.KeyCall.{KeyCall}
use Rattle.events.specs.declared.call.KeyCall.TheVariants.{Get, GetForUpdate, Set, Add, Delete}
use Rattle.events.specs.declared.answer.Answer.TheVariants as answers
use Rattle.events.specs.declared.answer.Reply.{Reply}
use Rattle.events.specs.Calls.{CallRecord}
use Rattle.events.specs.Locking.{Lock, locks_at, against, taken}
use Rattle.events.specs.Answers.{plain, found, added, deleted, key_reply, make_reply, dictionary_reply, reply_at, reply_to, locked_or, live_reply}
use Rattle.events.specs.Replay.{is_refusal, is_replayed, Replays}
use Rattle.lock_laws.specs.Protected.{HasLocks, AreExclusive, LooksSame, locks_of, AreLocked, IsCallProtected, AreProtected}
use Rattle.lock_laws.specs.OrderedStates.{IsOrdered}
use Rattle.lock_laws.proofs.ProtectedGrants.{HasLocks-granted, HasLocks-taken, HasLocks-taken_own, HasLocks-released, HasLocks-alike}
use Rattle.lock_laws.proofs.ProtectedStates.{IsOrdered-folded, LooksSame-folded, LooksSame-foreign_folded}
use Rattle.lock_laws.proofs.ProtectedReplies.{IsLogged, logged_at, locks_at_same, reply_at_same, locks_of_logged}

-- ---- the operations of calls

pub folded_cons : (state : State) (op : Option Op) (ops : List Op) → folded state (cons_option op ops) ≡ folded (folded state (cons_option op [])) ops
folded_cons state None ops = refl
folded_cons state (Some op) ops = refl

-- ---- replay

protected_replays_one : (gs : List Grant) (t : TxnId) (state : State) (call : CallRecord) (b : Bool)
    → MatchBool b (HasLocks gs t (locks_at state call.call) × (reply_at state call.call ≡ Some (record { answer = call.answer; op = call.op }))) (call.op ≡ None)
    → MatchBool b (reply_at state call.call ≡ Some (record { answer = call.answer; op = call.op })) (Unit {0})
protected_replays_one gs t state call true h = h.1
protected_replays_one gs t state call false h = tt

pub Replays-from_protected : (gs : List Grant) (t : TxnId) (state : State) (calls : List CallRecord) → AreProtected gs t state calls → Replays state calls
Replays-from_protected gs t state [] all = tt
Replays-from_protected gs t state (call ∷ calls) all =
    (protected_replays_one gs t state call (is_replayed call) all.0, Replays-from_protected gs t (folded state (cons_option call.op [])) calls all.1)

-- ---- other grants

call_by_locks : (gs hs : List Grant) (t : TxnId) → ((locks : List Lock) → HasLocks gs t locks → HasLocks hs t locks) → (state : State) (call : CallRecord) → IsCallProtected gs t state call → IsCallProtected hs t state call
call_by_locks gs hs t keeps state call h = by (is_replayed call) h
  where
    by : (b : Bool) → MatchBool b (HasLocks gs t (locks_at state call.call) × (reply_at state call.call ≡ Some (record { answer = call.answer; op = call.op }))) (call.op ≡ None)
        → MatchBool b (HasLocks hs t (locks_at state call.call) × (reply_at state call.call ≡ Some (record { answer = call.answer; op = call.op }))) (call.op ≡ None)
    by true e = (keeps (locks_at state call.call) e.0, e.1)
    by false e = e

-- under which the transaction has all the locks that it had
pub AreProtected-by_locks : (gs hs : List Grant) (t : TxnId) → ((locks : List Lock) → HasLocks gs t locks → HasLocks hs t locks) → (state : State) (calls : List CallRecord) → AreProtected gs t state calls → AreProtected hs t state calls
AreProtected-by_locks gs hs t keeps state [] all = tt
AreProtected-by_locks gs hs t keeps state (call ∷ calls) all =
    (call_by_locks gs hs t keeps state call all.0, AreProtected-by_locks gs hs t keeps (folded state (cons_option call.op [])) calls all.1)

pub AreProtected-granted : (gs : List Grant) (u : TxnId) (name : LockName) (mode : LockMode) (t : TxnId) (state : State) (calls : List CallRecord) → AreProtected gs t state calls → AreProtected (granted gs u name mode) t state calls
AreProtected-granted gs u name mode t state calls all = AreProtected-by_locks gs (granted gs u name mode) t (HasLocks-granted gs u name mode t) state calls all

pub AreProtected-taken : (gs : List Grant) (u : TxnId) (asked : List Lock) (t : TxnId) (state : State) (calls : List CallRecord) → AreProtected gs t state calls → AreProtected (taken gs u asked) t state calls
AreProtected-taken gs u asked t state calls all = AreProtected-by_locks gs (taken gs u asked) t (HasLocks-taken gs u asked t) state calls all

pub AreProtected-released : (gs : List Grant) (u t : TxnId) (state : State) (calls : List CallRecord) → is_txn u t ≡ false → AreProtected gs t state calls → AreProtected (released gs u) t state calls
AreProtected-released gs u t state calls apart all = AreProtected-by_locks gs (released gs u) t (λ locks has. HasLocks-released gs u t locks apart has) state calls all

pub AreProtected-alike : (a b : List Grant) → Alike a b → (t : TxnId) (state : State) (calls : List CallRecord) → AreProtected a t state calls → AreProtected b t state calls
AreProtected-alike a b alike t state calls all = AreProtected-by_locks a b t (HasLocks-alike a b alike t) state calls all

-- so do operations keep theirs
pub AreLocked-by_locks : (gs hs : List Grant) (t : TxnId) → ((locks : List Lock) → HasLocks gs t locks → HasLocks hs t locks) → (ops : List Op) → AreLocked gs t ops → AreLocked hs t ops
AreLocked-by_locks gs hs t keeps ops locked = All-weaker (λ op. HasLocks gs t (locks_of op)) (λ op. HasLocks hs t (locks_of op)) (λ op has. keeps (locks_of op) has) ops locked

pub AreLocked-taken : (gs : List Grant) (u : TxnId) (asked : List Lock) (t : TxnId) (ops : List Op) → AreLocked gs t ops → AreLocked (taken gs u asked) t ops
AreLocked-taken gs u asked t ops locked = AreLocked-by_locks gs (taken gs u asked) t (HasLocks-taken gs u asked t) ops locked

pub AreLocked-released : (gs : List Grant) (u t : TxnId) (ops : List Op) → is_txn u t ≡ false → AreLocked gs t ops → AreLocked (released gs u) t ops
AreLocked-released gs u t ops apart locked = AreLocked-by_locks gs (released gs u) t (λ locks has. HasLocks-released gs u t locks apart has) ops locked

pub AreLocked-alike : (a b : List Grant) → Alike a b → (t : TxnId) (ops : List Op) → AreLocked a t ops → AreLocked b t ops
AreLocked-alike a b alike t ops locked = AreLocked-by_locks a b t (HasLocks-alike a b alike t) ops locked

-- ---- other states

IsCallProtected-looks_same : (gs : List Grant) (t : TxnId) (a b : State) → LooksSame gs t a b → (call : CallRecord) → IsCallProtected gs t a call → IsCallProtected gs t b call
IsCallProtected-looks_same gs t a b looks call h = by (is_replayed call) h
  where
    by : (c : Bool) → MatchBool c (HasLocks gs t (locks_at a call.call) × (reply_at a call.call ≡ Some (record { answer = call.answer; op = call.op }))) (call.op ≡ None)
        → MatchBool c (HasLocks gs t (locks_at b call.call) × (reply_at b call.call ≡ Some (record { answer = call.answer; op = call.op }))) (call.op ≡ None)
    by true e = (subst (HasLocks gs t) (locks_at_same gs t a b looks call.call e.0) e.0, sym (reply_at_same gs t a b looks call.call e.0) ∙ e.1)
    by false e = e

-- one that looks the same
pub AreProtected-looks_same : (gs : List Grant) (t : TxnId) (a b : State) → IsOrdered a → IsOrdered b → LooksSame gs t a b → (calls : List CallRecord) → AreProtected gs t a calls → AreProtected gs t b calls
AreProtected-looks_same gs t a b in_a in_b looks [] all = tt
AreProtected-looks_same gs t a b in_a in_b looks (call ∷ calls) all =
    let one = cons_option call.op [] in (
      IsCallProtected-looks_same gs t a b looks call all.0,
      AreProtected-looks_same gs t (folded a one) (folded b one) (IsOrdered-folded a one in_a) (IsOrdered-folded b one in_b) (LooksSame-folded gs t a b one in_a in_b looks) calls all.1,
    )

-- ---- the operations are locked

pub call_logged : (gs : List Grant) (t : TxnId) (state : State) (call : CallRecord) (op : Op) → call.op ≡ Some op → IsCallProtected gs t state call → IsLogged state call.call op
call_logged gs t state call op is h = by (is_replayed call) h
  where
    by : (b : Bool) → MatchBool b (HasLocks gs t (locks_at state call.call) × (reply_at state call.call ≡ Some (record { answer = call.answer; op = call.op }))) (call.op ≡ None) → IsLogged state call.call op
    by true e = logged_at state call.call (record { answer = call.answer; op = call.op }) op e.1 is
    by false e = absurd (none-some op (sym e ∙ is))

pub op_locked : (gs : List Grant) (t : TxnId) (state : State) (call : CallRecord) (op : Op) → call.op ≡ Some op → IsCallProtected gs t state call → HasLocks gs t (locks_of op)
op_locked gs t state call op is h = by (is_replayed call) h
  where
    by : (b : Bool) → MatchBool b (HasLocks gs t (locks_at state call.call) × (reply_at state call.call ≡ Some (record { answer = call.answer; op = call.op }))) (call.op ≡ None) → HasLocks gs t (locks_of op)
    by true e = locks_of_logged gs t state call.call (record { answer = call.answer; op = call.op }) op e.1 is e.0
    by false e = absurd (none-some op (sym e ∙ is))

pub AreLocked-from_protected : (gs : List Grant) (t : TxnId) (state : State) (calls : List CallRecord) → AreProtected gs t state calls → AreLocked gs t (filter_map (λ c. c.op) calls)
AreLocked-from_protected gs t state [] all = All-nil (λ op. HasLocks gs t (locks_of op))
AreLocked-from_protected gs t state (call ∷ calls) all = by call.op refl (AreLocked-from_protected gs t (folded state (cons_option call.op [])) calls all.1)
  where
    by : (o : Option Op) → call.op ≡ o → AreLocked gs t (filter_map (λ c. c.op) calls) → AreLocked gs t (cons_option o (filter_map (λ c. c.op) calls))
    by None is later = later
    by (Some op) is later = All-cons (λ op. HasLocks gs t (locks_of op)) op (filter_map (λ c. c.op) calls) (op_locked gs t state call op is all.0) later

-- ---- a commit of another transaction

pub AreProtected-behind_commit : (gs : List Grant) (t u : TxnId) (state : State) (calls others : List CallRecord) → AreExclusive gs → is_txn t u ≡ false → IsOrdered state → AreProtected gs u state others
    → AreProtected gs t state calls → AreProtected gs t (folded state (filter_map (λ c. c.op) others)) calls
AreProtected-behind_commit gs t u state calls others exclusive apart ordered theirs mine =
    let ops = filter_map (λ c. c.op) others in
    AreProtected-looks_same gs t state (folded state ops) ordered (IsOrdered-folded state ops ordered)
    (LooksSame-foreign_folded gs t u exclusive apart state ops (AreLocked-from_protected gs u state others theirs)) calls mine

-- ---- one more call

pub AreProtected-push : (gs : List Grant) (t : TxnId) (state : State) (calls : List CallRecord) (last : CallRecord) → AreProtected gs t state calls → IsCallProtected gs t (folded state (filter_map (λ c. c.op) calls)) last
    → AreProtected gs t state (calls ++ last ∷ [])
AreProtected-push gs t state [] last all one = (one, tt)
AreProtected-push gs t state (call ∷ calls) last all one = (
  all.0,
  AreProtected-push gs t (folded state (cons_option call.op [])) calls last all.1
      (subst (λ (s : State). IsCallProtected gs t s last) (folded_cons state call.op (filter_map (λ c. c.op) calls)) one),
)

-- ---- what is noted of a call of a transaction that goes on

make_no_refusal : (name : List ℕ) (kind : Kind) (o : Option Contents) → is_refusal (make_reply name kind o).answer ≡ false
make_no_refusal name kind None = refl
make_no_refusal name kind (Some c) = refl

found_no_refusal : (v : Option (List ℕ)) → is_refusal (found v) ≡ false
found_no_refusal None = refl
found_no_refusal (Some value) = refl

added_no_refusal : (name key value : List ℕ) (v : Option (List ℕ)) → is_refusal (added name key value v).answer ≡ false
added_no_refusal name key value None = refl
added_no_refusal name key value (Some present) = refl

deleted_no_refusal : (name key : List ℕ) (v : Option (List ℕ)) → is_refusal (deleted name key v).answer ≡ false
deleted_no_refusal name key None = refl
deleted_no_refusal name key (Some present) = refl

key_no_refusal : (name key : List ℕ) (call : KeyCall) (v : Option (List ℕ)) → is_refusal (key_reply name key call v).answer ≡ false
key_no_refusal name key Get v = found_no_refusal v
key_no_refusal name key GetForUpdate v = found_no_refusal v
key_no_refusal name key (Set value) v = refl
key_no_refusal name key (Add value) v = added_no_refusal name key value v
key_no_refusal name key Delete v = deleted_no_refusal name key v

dictionary_no_refusal : (name key : List ℕ) (call : KeyCall) (o : Option Contents) → is_refusal (dictionary_reply name key call o).answer ≡ false
dictionary_no_refusal name key call None = refl
dictionary_no_refusal name key call (Some (Queue values)) = refl
dictionary_no_refusal name key call (Some (Dict pairs)) = key_no_refusal name key call (at_key key pairs)

reply_of : (x reply : Reply) → Some x ≡ Some reply → is_refusal x.answer ≡ false → is_refusal reply.answer ≡ false
reply_of x reply e f = subst (λ (r : Reply). is_refusal r.answer ≡ false) (same_Some x reply e) f

-- what a collection answers is no refusal
pub reply_no_refusal : (state : State) (call : Call) (reply : Reply) → reply_at state call ≡ Some reply → is_refusal reply.answer ≡ false
reply_no_refusal state Begin reply e = absurd (none-some reply e)
reply_no_refusal state (Make t name kind) reply e = reply_of (make_reply name kind (at_key name state)) reply e (make_no_refusal name kind (at_key name state))
reply_no_refusal state (OnKey t name key call) reply e = reply_of (dictionary_reply name key call (at_key name state)) reply e (dictionary_no_refusal name key call (at_key name state))
reply_no_refusal state (Commit t) reply e = absurd (none-some reply e)
reply_no_refusal state (Abort t) reply e = absurd (none-some reply e)

-- whether a call names a collection doesn't depend on the state
pub names_collection : (state : State) (call : Call) (reply : Reply) → reply_at state call ≡ Some reply → is_some (reply_at [] call) ≡ true
names_collection state Begin reply e = absurd (none-some reply e)
names_collection state (Make t name kind) reply e = refl
names_collection state (OnKey t name key call) reply e = refl
names_collection state (Commit t) reply e = absurd (none-some reply e)
names_collection state (Abort t) reply e = absurd (none-some reply e)

abbrev pub note_of : Call → Reply → CallRecord
note_of call reply = record { call = call; answer = reply.answer; op = reply.op }

pub answered_replayed : (state : State) (call : Call) (reply : Reply) → reply_at state call ≡ Some reply → is_replayed (note_of call reply) ≡ true
answered_replayed state call reply e = rw (reply_no_refusal state call reply e) (names_collection state call reply e)

replayed_protected : (gs : List Grant) (t : TxnId) (state : State) (call : CallRecord) → is_replayed call ≡ true → HasLocks gs t (locks_at state call.call) → reply_at state call.call ≡ Some (record { answer = call.answer; op = call.op })
    → IsCallProtected gs t state call
replayed_protected gs t state call is has e = rw is (has, e)

pub unlogged_protected : (gs : List Grant) (t : TxnId) (state : State) (call : CallRecord) → is_replayed call ≡ false → call.op ≡ None → IsCallProtected gs t state call
unlogged_protected gs t state call is e = rw is e

-- one that was refused
pub refused_protected : (gs : List Grant) (t : TxnId) (state : State) (call : CallRecord) → is_refusal call.answer ≡ true → call.op ≡ None → IsCallProtected gs t state call
refused_protected gs t state call is e = unlogged_protected gs t state call (rw is refl) e

-- any call of a transaction that goes on, with the locks that it has then; a commit has no such answer
pub IsCallProtected-live : (gs : List Grant) (t : TxnId) (state : State) (call : Call) (reply : Reply) → live_reply gs state t call ≡ Some reply → IsCallProtected (taken gs t (locks_at state call)) t state (note_of call reply)
IsCallProtected-live gs t state call reply e = by (against gs t (locks_at state call)) refl e
  where
    now : List Grant
    now = taken gs t (locks_at state call)

    answered : reply_at state call ≡ Some reply → against gs t (locks_at state call) ≡ None → IsCallProtected now t state (note_of call reply)
    answered is free = replayed_protected now t state (note_of call reply) (answered_replayed state call reply is) (HasLocks-taken_own gs t (locks_at state call) free) is

    free_call : (c : Call) → c ≡ call → reply_to state c ≡ Some reply → against gs t (locks_at state call) ≡ None → IsCallProtected now t state (note_of call reply)
    free_call (Abort u) same is free =
        let done : plain answers.Done ≡ reply = same_Some (plain answers.Done) reply is in
        unlogged_protected now t state (note_of call reply)
        (subst (λ (c : Call). is_replayed (note_of c reply) ≡ false) same (subst (λ (r : Reply). is_replayed (note_of (Abort u) r) ≡ false) done refl)) (ap (λ (r : Reply). r.op) (sym done))
    free_call Begin same is free = absurd (none-some reply is)
    free_call (Commit u) same is free = absurd (none-some reply is)
    free_call (Make u name kind) same is free = answered (subst (λ (c : Call). reply_at state c ≡ Some reply) same is) free
    free_call (OnKey u name key call) same is free = answered (subst (λ (c : Call). reply_at state c ≡ Some reply) same is) free

    by : (o : Option TxnId) → against gs t (locks_at state call) ≡ o → locked_or o (reply_to state call) ≡ Some reply → IsCallProtected now t state (note_of call reply)
    by None free is = free_call call refl is free
    by (Some holder) held is =
        let refused : plain (answers.Locked holder) ≡ reply = same_Some (plain (answers.Locked holder)) reply is in
        refused_protected now t state (note_of call reply) (ap (λ (r : Reply). is_refusal r.answer) (sym refused)) (ap (λ (r : Reply). r.op) (sym refused))

-- an operation that it logs finds what it is for, and has its locks
pub live_logged : (gs : List Grant) (t : TxnId) (state : State) (call : Call) (reply : Reply) (op : Op) → live_reply gs state t call ≡ Some reply → reply.op ≡ Some op → IsLogged state call op
live_logged gs t state call reply op e is = call_logged (taken gs t (locks_at state call)) t state (note_of call reply) op is (IsCallProtected-live gs t state call reply e)

pub live_locked : (gs : List Grant) (t : TxnId) (state : State) (call : Call) (reply : Reply) (op : Op) → live_reply gs state t call ≡ Some reply → reply.op ≡ Some op → HasLocks (taken gs t (locks_at state call)) t (locks_of op)
live_locked gs t state call reply op e is = op_locked (taken gs t (locks_at state call)) t state (note_of call reply) op is (IsCallProtected-live gs t state call reply e)
