-- The replay of a transaction's calls at a state.
use Rattle.std.specs.Prelude.{◌≡◌, Bool, true, false, if◌then◌else◌, List, [], ◌∷◌, Some, MatchBool, is_some}
use Rattle.std.specs.List.{cons_option}
use Rattle.coll_model.specs.Effect.{State, folded}
use Rattle.events.specs.declared.answer.Answer.{Answer}
use Rattle.events.specs.declared.answer.Answer.TheVariants as answers
use Rattle.events.specs.Calls.{CallRecord}
use Rattle.events.specs.Answers.{reply_at}

-- an answer that says nothing of the collections
abbrev pub is_refusal : Answer → Bool
is_refusal (answers.Down r) = true
is_refusal (answers.NotActive r) = true
is_refusal (answers.Ended t) = true
is_refusal (answers.Locked t) = true
is_refusal _ = false

-- whether a replay answers the call anew: it names a collection, and was answered by what stood there
abbrev pub is_replayed : CallRecord → Bool
is_replayed call = if is_refusal call.answer then false else is_some (reply_at [] call.call)

-- The calls that name a collection, answered anew, have the answers that they had, and log what they logged: each at
-- the state with the operations of those before it, without locks.
abbrev pub Replays : State → List CallRecord → Type 0
Replays state [] = Unit {0}
Replays state (call ∷ calls) =
    MatchBool (is_replayed call) (reply_at state call.call ≡ Some (record { answer = call.answer; op = call.op })) (Unit {0})
    × Replays (folded state (cons_option call.op [])) calls
