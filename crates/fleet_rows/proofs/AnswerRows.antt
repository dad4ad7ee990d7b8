-- The answer to a call is the one line of its event.
use Rattle.std.proofs.Common.{◌≡◌, ℕ, Bool, true, false, not, cond, List, [], ◌∷◌, Option, Some, None, refl, sym, ap, subst}
use Rattle.std.specs.Option.{option_map_or}
use Rattle.std.proofs.lemmas.Bool.{false≢true}
use Rattle.std.proofs.lemmas.Option.{none-some, same_Some}
use Rattle.rc_base.specs.declared.ids.TxnId.{TxnId}
use Rattle.coll_model.specs.declared.op.Kind.{Kind}
use Rattle.coll_model.specs.declared.op.Op.{Op}
use Rattle.coll_model.specs.declared.contents.Contents.{Contents}
use Rattle.coll_model.specs.declared.contents.Contents.TheVariants.{Dict, Queue}
use Rattle.coll_model.specs.Effect.{State, at_key}
use Rattle.key_locks.specs.Grants.{Grant}
use Rattle.events.specs.declared.event.Event.TheVariants.{Client}
use Rattle.events.specs.declared.call.Call.{Call}
use Rattle.events.specs.declared.call.Call.TheVariants.{Begin, Make, OnKey, Commit, Abort}
use Rattle.events.specs.declared.call.KeyCall.{KeyCall}
use Rattle.events.specs.declared.call.KeyCall.TheVariants.{Get, GetForUpdate, Set, Add, Delete}
use Rattle.events.specs.declared.answer.Answer.{Answer}
use Rattle.events.specs.declared.answer.Answer.TheVariants as answers
use Rattle.events.specs.declared.answer.Reply.{Reply}
use Rattle.events.specs.Calls.{txn_named}
use Rattle.events.specs.Locking.{locks_at, against}
use Rattle.events.specs.Answers.{plain, found, make_reply, added, deleted, key_reply, dictionary_reply, reply_to, locked_or, live_reply}
use Rattle.order_machine.specs.AnswerLines.{line_of_answer}
use Rattle.order_machine.specs.Machine.{Machine, Txn, replica, role_of, grants_of, is_active, live_txn}
use Rattle.order_machine.specs.Clients.{answer, served, seen, next_txn}
use Rattle.order_machine.specs.Transitions.{Position, May, IsComplete, HoldsBehind, at_start, answering, after, asking, opened}
use Rattle.order_machine.specs.Legal.{IsServed, behind}
use Rattle.history_laws.specs.Laws.{after_call}

-- whether a client's call may be answered so
abbrev pub is_answer : Answer → Bool
is_answer (answers.Refused part) = false
is_answer answers.IgnoredUp = false
is_answer (answers.IgnoredOldEpoch fence e) = false
is_answer (answers.Progress r e last) = false
is_answer _ = true

abbrev pub start : Machine → ℕ → Call → Answer → Option Op → Position
start m r call told op = at_start m (Client r call) r (Some (record { answer = told; op = op })) []

-- its line may come first
answer_may : (m : Machine) (r : ℕ) (call : Call) (told : Answer) (op : Option Op) → is_answer told ≡ true → May (start m r call told op) (line_of_answer told)
answer_may m r call (answers.Refused part) op is = absurd (false≢true is)
answer_may m r call answers.IgnoredUp op is = absurd (false≢true is)
answer_may m r call (answers.IgnoredOldEpoch f e) op is = absurd (false≢true is)
answer_may m r call (answers.Progress q e l) op is = absurd (false≢true is)
answer_may m r call (answers.Txn t) op is = record { named = refl; in_rank = refl; next = refl; goes_on = refl; row = (refl, refl) }
answer_may m r call answers.Done op is = record { named = refl; in_rank = refl; next = refl; goes_on = refl; row = (refl, refl) }
answer_may m r call (answers.Down q) op is = record { named = refl; in_rank = refl; next = refl; goes_on = refl; row = (refl, refl) }
answer_may m r call (answers.NotActive q) op is = record { named = refl; in_rank = refl; next = refl; goes_on = refl; row = (refl, refl) }
answer_may m r call (answers.Ended t) op is = record { named = refl; in_rank = refl; next = refl; goes_on = refl; row = (refl, refl) }
answer_may m r call (answers.Locked t) op is = record { named = refl; in_rank = refl; next = refl; goes_on = refl; row = (refl, refl) }
answer_may m r call answers.True op is = record { named = refl; in_rank = refl; next = refl; goes_on = refl; row = (refl, refl) }
answer_may m r call answers.False op is = record { named = refl; in_rank = refl; next = refl; goes_on = refl; row = (refl, refl) }
answer_may m r call (answers.Value value) op is = record { named = refl; in_rank = refl; next = refl; goes_on = refl; row = (refl, refl) }
answer_may m r call answers.Missing op is = record { named = refl; in_rank = refl; next = refl; goes_on = refl; row = (refl, refl) }
answer_may m r call answers.Absent op is = record { named = refl; in_rank = refl; next = refl; goes_on = refl; row = (refl, refl) }
answer_may m r call answers.WrongKind op is = record { named = refl; in_rank = refl; next = refl; goes_on = refl; row = (refl, refl) }

-- and then the event is answered
answer_after : (m : Machine) (r : ℕ) (call : Call) (told : Answer) (op : Option Op) → is_answer told ≡ true → after (start m r call told op) (line_of_answer told) ≡ record (answering (start m r call told op)) { rank = 6 }
answer_after m r call (answers.Refused part) op is = absurd (false≢true is)
answer_after m r call answers.IgnoredUp op is = absurd (false≢true is)
answer_after m r call (answers.IgnoredOldEpoch f e) op is = absurd (false≢true is)
answer_after m r call (answers.Progress q e l) op is = absurd (false≢true is)
answer_after m r call (answers.Txn t) op is = refl
answer_after m r call answers.Done op is = refl
answer_after m r call (answers.Down q) op is = refl
answer_after m r call (answers.NotActive q) op is = refl
answer_after m r call (answers.Ended t) op is = refl
answer_after m r call (answers.Locked t) op is = refl
answer_after m r call answers.True op is = refl
answer_after m r call answers.False op is = refl
answer_after m r call (answers.Value value) op is = refl
answer_after m r call answers.Missing op is = refl
answer_after m r call answers.Absent op is = refl
answer_after m r call answers.WrongKind op is = refl

-- ---- the answers of calls on collections

found_is : (o : Option (List ℕ)) → is_answer (found o) ≡ true
found_is None = refl
found_is (Some value) = refl

make_is : (name : List ℕ) (kind : Kind) (o : Option Contents) → is_answer (make_reply name kind o).answer ≡ true
make_is name kind None = refl
make_is name kind (Some contents) = refl

added_is : (name key value : List ℕ) (o : Option (List ℕ)) → is_answer (added name key value o).answer ≡ true
added_is name key value None = refl
added_is name key value (Some present) = refl

deleted_is : (name key : List ℕ) (o : Option (List ℕ)) → is_answer (deleted name key o).answer ≡ true
deleted_is name key None = refl
deleted_is name key (Some present) = refl

key_is : (name key : List ℕ) (call : KeyCall) (o : Option (List ℕ)) → is_answer (key_reply name key call o).answer ≡ true
key_is name key Get o = found_is o
key_is name key GetForUpdate o = found_is o
key_is name key (Set value) o = refl
key_is name key (Add value) o = added_is name key value o
key_is name key Delete o = deleted_is name key o

dictionary_is : (name key : List ℕ) (call : KeyCall) (o : Option Contents) → is_answer (dictionary_reply name key call o).answer ≡ true
dictionary_is name key call None = refl
dictionary_is name key call (Some (Dict pairs)) = key_is name key call (at_key key pairs)
dictionary_is name key call (Some (Queue values)) = refl

by_reply : (given reply : Reply) → Some given ≡ Some reply → is_answer given.answer ≡ true → is_answer reply.answer ≡ true
by_reply given reply e is = subst (λ x. is_answer x.answer ≡ true) (same_Some given reply e) is

reply_is : (state : State) (call : Call) (reply : Reply) → reply_to state call ≡ Some reply → is_answer reply.answer ≡ true
reply_is state Begin reply e = absurd (none-some reply e)
reply_is state (Make t name kind) reply e = by_reply (make_reply name kind (at_key name state)) reply e (make_is name kind (at_key name state))
reply_is state (OnKey t name key call) reply e = by_reply (dictionary_reply name key call (at_key name state)) reply e (dictionary_is name key call (at_key name state))
reply_is state (Commit t) reply e = absurd (none-some reply e)
reply_is state (Abort t) reply e = by_reply (plain answers.Done) reply e refl

-- also where another transaction stands against it
pub live_reply_is : (grants : List Grant) (state : State) (t : TxnId) (call : Call) (reply : Reply) → live_reply grants state t call ≡ Some reply → is_answer reply.answer ≡ true
live_reply_is grants state t call reply = by (against grants t (locks_at state call))
  where
    by : (o : Option TxnId) → locked_or o (reply_to state call) ≡ Some reply → is_answer reply.answer ≡ true
    by None e = reply_is state call reply e
    by (Some held_by) e = by_reply (plain (answers.Locked held_by)) reply e refl

-- ---- the answer of the machine

served_is : (m : Machine) (r : ℕ) (call : Call) (reply : Reply) → served m r call ≡ Some reply → is_answer reply.answer ≡ true
served_is m r call reply = by (txn_named call)
  where
    live : (t : TxnId) (o : Option Txn) → option_map_or (λ x. live_reply (grants_of m r) (seen m r x) t call) o (Some (plain (answers.Ended t))) ≡ Some reply → is_answer reply.answer ≡ true
    live t None e = by_reply (plain (answers.Ended t)) reply e refl
    live t (Some x) e = live_reply_is (grants_of m r) (seen m r x) t call reply e

    by : (o : Option TxnId) → option_map_or (λ t. option_map_or (λ x. live_reply (grants_of m r) (seen m r x) t call) (live_txn m r t) (Some (plain (answers.Ended t)))) o (Some (plain (answers.Txn (next_txn (role_of m r))))) ≡ Some reply
        → is_answer reply.answer ≡ true
    by None e = by_reply (plain (answers.Txn (next_txn (role_of m r)))) reply e refl
    by (Some t) e = live t (live_txn m r t) e

pub answer_is : (m : Machine) (r : ℕ) (call : Call) (reply : Reply) → answer m r call ≡ Some reply → is_answer reply.answer ≡ true
answer_is m r call reply = by (replica m r).up (is_active m r)
  where
    by : (up active : Bool) → cond (not up) (Some (plain (answers.Down r))) (cond (not active) (Some (plain (answers.NotActive r))) (served m r call)) ≡ Some reply → is_answer reply.answer ≡ true
    by false active e = by_reply (plain (answers.Down r)) reply e refl
    by true false e = by_reply (plain (answers.NotActive r)) reply e refl
    by true true e = served_is m r call reply e

-- ---- the event

pub answered_all : (m : Machine) (r : ℕ) (call : Call) (reply : Reply) → answer m r call ≡ Some reply → HoldsBehind (after_call m r call reply)
    → IsServed (opened m (Client r call)) (line_of_answer reply.answer ∷ []) × ((behind (opened m (Client r call)) (line_of_answer reply.answer ∷ [])).machine ≡ after_call m r call reply)
answered_all m r call reply is holds =
    let told = reply.answer in
    let op = reply.op in
    let asked = asking m r call in
    let ok = answer_is m r call reply is in
    let begins : opened m (Client r call) ≡ start asked r call told op = ap (λ client. at_start asked (Client r call) r client []) is in
    let then : after (start asked r call told op) (line_of_answer told) ≡ record (answering (start asked r call told op)) { rank = 6 } = answer_after asked r call told op ok in
    subst (λ (p : Position). IsServed p (line_of_answer told ∷ []) × ((behind p (line_of_answer told ∷ [])).machine ≡ after_call m r call reply)) (sym begins) (
      record {
        may = (answer_may asked r call told op ok, tt);
        complete = subst IsComplete (sym then) (record { opened = refl; grown = refl; mounted = refl; told = refl; answered = refl });
        holds = subst (λ p. HoldsBehind p.machine) (sym then) holds;
      },
      ap (λ (p : Position). p.machine) then,
    )
