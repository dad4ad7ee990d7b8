-- A client event whose one line is its answer.
use Rattle.std.proofs.Common.{◌≡◌, ◌∙◌, sym, ap, subst, ℕ, List, [], ◌∷◌, Bool, true, false, Option, Some, None, refl}
use Rattle.std.proofs.lemmas.Bool.{false≢true}
use Rattle.std.proofs.lemmas.Option.{none-some, same_Some}
use Rattle.coll_model.specs.declared.op.Kind.{Kind}
use Rattle.coll_model.specs.declared.op.Op.{Op}
use Rattle.coll_model.specs.declared.contents.Contents.{Contents}
use Rattle.coll_model.specs.declared.contents.Contents.TheVariants.{Dict, Queue}
use Rattle.coll_model.specs.Effect.{State, at_key}
use Rattle.events.specs.declared.event.Event.TheVariants.{Client}
use Rattle.events.specs.declared.call.Call.{Call}
use Rattle.events.specs.declared.call.Call.TheVariants.{Begin, Make, OnKey, Commit, Abort}
use Rattle.events.specs.declared.call.KeyCall.{KeyCall}
use Rattle.events.specs.declared.call.KeyCall.TheVariants.{Get, GetForUpdate, Set, Add, Delete}
use Rattle.events.specs.declared.answer.Answer.{Answer}
use Rattle.order_machine.specs.AnswerLines.{line_of_answer}
use Rattle.events.specs.declared.answer.Reply.{Reply}
use Rattle.order_machine.specs.Machine.{Machine}
use Rattle.rc_base.specs.declared.ids.TxnId.{TxnId}
use Rattle.key_locks.specs.Grants.{Grant}
use Rattle.events.specs.Locking.{locks_at, against}
use Rattle.order_machine.specs.Clients.{answer, answered_at}
use Rattle.events.specs.Answers.{reply_to, make_reply, dictionary_reply, key_reply, added, deleted, found, plain, locked_or, live_reply}
use Rattle.order_machine.specs.Transitions.{Position, May, refusal, opened, at_start, asking, after, answering, IsComplete, HoldsBehind}
use Rattle.order_machine.specs.Legal.{IsWhole, moved}
use Rattle.world.proofs.States.Beginnings.{served_from}
use Rattle.events.specs.declared.answer.Answer.TheVariants as answers

-- whether a client's call may be answered so
abbrev pub is_answer : Answer → Bool
is_answer (answers.Refused part) = false
is_answer answers.IgnoredUp = false
is_answer (answers.IgnoredOldEpoch fence e) = false
is_answer (answers.Progress r e last) = false
is_answer _ = true

abbrev pub start : Machine → ℕ → Call → Answer → Option Op → Position
start m r call told op = at_start m (Client r call) r (Some (record { answer = told; op = op })) []

-- its line may come first
answer_may : (m : Machine) (r : ℕ) (call : Call) (told : Answer) (op : Option Op) → is_answer told ≡ true → May (start m r call told op) (line_of_answer told)
answer_may m r call (answers.Refused part) op is = absurd (false≢true is)
answer_may m r call answers.IgnoredUp op is = absurd (false≢true is)
answer_may m r call (answers.IgnoredOldEpoch f e) op is = absurd (false≢true is)
answer_may m r call (answers.Progress q e l) op is = absurd (false≢true is)
answer_may m r call (answers.Txn t) op is = record { named = refl; in_rank = refl; next = refl; goes_on = refl; row = (refl, refl) }
answer_may m r call answers.Done op is = record { named = refl; in_rank = refl; next = refl; goes_on = refl; row = (refl, refl) }
answer_may m r call (answers.Down q) op is = record { named = refl; in_rank = refl; next = refl; goes_on = refl; row = (refl, refl) }
answer_may m r call (answers.NotActive q) op is = record { named = refl; in_rank = refl; next = refl; goes_on = refl; row = (refl, refl) }
answer_may m r call (answers.Ended t) op is = record { named = refl; in_rank = refl; next = refl; goes_on = refl; row = (refl, refl) }
answer_may m r call (answers.Locked t) op is = record { named = refl; in_rank = refl; next = refl; goes_on = refl; row = (refl, refl) }
answer_may m r call answers.True op is = record { named = refl; in_rank = refl; next = refl; goes_on = refl; row = (refl, refl) }
answer_may m r call answers.False op is = record { named = refl; in_rank = refl; next = refl; goes_on = refl; row = (refl, refl) }
answer_may m r call (answers.Value value) op is = record { named = refl; in_rank = refl; next = refl; goes_on = refl; row = (refl, refl) }
answer_may m r call answers.Missing op is = record { named = refl; in_rank = refl; next = refl; goes_on = refl; row = (refl, refl) }
answer_may m r call answers.Absent op is = record { named = refl; in_rank = refl; next = refl; goes_on = refl; row = (refl, refl) }
answer_may m r call answers.WrongKind op is = record { named = refl; in_rank = refl; next = refl; goes_on = refl; row = (refl, refl) }

-- and then the event is answered
answer_after : (m : Machine) (r : ℕ) (call : Call) (told : Answer) (op : Option Op) → is_answer told ≡ true → after (start m r call told op) (line_of_answer told) ≡ record (answering (start m r call told op)) { rank = 6 }
answer_after m r call (answers.Refused part) op is = absurd (false≢true is)
answer_after m r call answers.IgnoredUp op is = absurd (false≢true is)
answer_after m r call (answers.IgnoredOldEpoch f e) op is = absurd (false≢true is)
answer_after m r call (answers.Progress q e l) op is = absurd (false≢true is)
answer_after m r call (answers.Txn t) op is = refl
answer_after m r call answers.Done op is = refl
answer_after m r call (answers.Down q) op is = refl
answer_after m r call (answers.NotActive q) op is = refl
answer_after m r call (answers.Ended t) op is = refl
answer_after m r call (answers.Locked t) op is = refl
answer_after m r call answers.True op is = refl
answer_after m r call answers.False op is = refl
answer_after m r call (answers.Value value) op is = refl
answer_after m r call answers.Missing op is = refl
answer_after m r call answers.Absent op is = refl
answer_after m r call answers.WrongKind op is = refl

-- The event of a call that isn't refused, which has this machine once it was asked, is answered so.
pub answer_serves : (m asked : Machine) (r : ℕ) (call : Call) (told : Answer) (op : Option Op) (Q : Machine → Type 0) → refusal m (Client r call) ≡ None → asking m r call ≡ asked → answer m r call ≡ Some (record { answer = told; op = op }) → is_answer told ≡ true
    → HoldsBehind (answered_at asked r call (record { answer = told; op = op })) → Q (answered_at asked r call (record { answer = told; op = op })) → IsWhole m (Client r call) (line_of_answer told ∷ []) × Q (moved m (Client r call) (line_of_answer told ∷ []))
answer_serves m asked r call told op Q none is_asked has is holds q =
    let begins : opened m (Client r call) ≡ start asked r call told op = ap (λ n. at_start n (Client r call) r (answer m r call) []) is_asked ∙ ap (λ client. at_start asked (Client r call) r client []) has in
    let then : after (start asked r call told op) (line_of_answer told) ≡ record (answering (start asked r call told op)) { rank = 6 } = answer_after asked r call told op is in
    served_from m (Client r call) (line_of_answer told ∷ []) (start asked r call told op) Q none begins
    (record {
      may = (answer_may asked r call told op is, tt);
      complete = subst IsComplete (sym then) (record { opened = refl; grown = refl; mounted = refl; told = refl; answered = refl });
      holds = subst (λ p. HoldsBehind p.machine) (sym then) holds;
    })
    (subst (λ p. Q p.machine) (sym then) q)

-- ---- the answers of calls on collections

found_is : (o : Option (List ℕ)) → is_answer (found o) ≡ true
found_is None = refl
found_is (Some value) = refl

make_is : (name : List ℕ) (kind : Kind) (o : Option Contents) → is_answer (make_reply name kind o).answer ≡ true
make_is name kind None = refl
make_is name kind (Some contents) = refl

added_is : (name key value : List ℕ) (o : Option (List ℕ)) → is_answer (added name key value o).answer ≡ true
added_is name key value None = refl
added_is name key value (Some present) = refl

deleted_is : (name key : List ℕ) (o : Option (List ℕ)) → is_answer (deleted name key o).answer ≡ true
deleted_is name key None = refl
deleted_is name key (Some present) = refl

key_is : (name key : List ℕ) (call : KeyCall) (o : Option (List ℕ)) → is_answer (key_reply name key call o).answer ≡ true
key_is name key Get o = found_is o
key_is name key GetForUpdate o = found_is o
key_is name key (Set value) o = refl
key_is name key (Add value) o = added_is name key value o
key_is name key Delete o = deleted_is name key o

dictionary_is : (name key : List ℕ) (call : KeyCall) (o : Option Contents) → is_answer (dictionary_reply name key call o).answer ≡ true
dictionary_is name key call None = refl
dictionary_is name key call (Some (Dict pairs)) = key_is name key call (at_key key pairs)
dictionary_is name key call (Some (Queue values)) = refl

by_reply : (given reply : Reply) → Some given ≡ Some reply → is_answer given.answer ≡ true → is_answer reply.answer ≡ true
by_reply given reply e is = subst (λ x. is_answer x.answer ≡ true) (same_Some given reply e) is

reply_is : (state : State) (call : Call) (reply : Reply) → reply_to state call ≡ Some reply → is_answer reply.answer ≡ true
reply_is state Begin reply e = absurd (none-some reply e)
reply_is state (Make t name kind) reply e = by_reply (make_reply name kind (at_key name state)) reply e (make_is name kind (at_key name state))
reply_is state (OnKey t name key call) reply e = by_reply (dictionary_reply name key call (at_key name state)) reply e (dictionary_is name key call (at_key name state))
reply_is state (Commit t) reply e = absurd (none-some reply e)
reply_is state (Abort t) reply e = by_reply (plain answers.Done) reply e refl

-- also where another transaction stands against it
pub live_reply_is : (grants : List Grant) (state : State) (t : TxnId) (call : Call) (reply : Reply) → live_reply grants state t call ≡ Some reply → is_answer reply.answer ≡ true
live_reply_is grants state t call reply = by (against grants t (locks_at state call))
  where
    by : (o : Option TxnId) → locked_or o (reply_to state call) ≡ Some reply → is_answer reply.answer ≡ true
    by None e = reply_is state call reply e
    by (Some held_by) e = by_reply (plain (answers.Locked held_by)) reply e refl
