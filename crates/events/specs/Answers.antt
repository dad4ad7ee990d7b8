-- The one answer that a client's call has at a state, and the operation that it logs.
use Rattle.std.specs.Prelude.{ℕ, List, Option, Some, None}
use Rattle.rc_base.specs.declared.ids.TxnId.{TxnId}
use Rattle.coll_model.specs.declared.op.Kind.{Kind}
use Rattle.coll_model.specs.declared.op.Op.TheVariants as ops
use Rattle.coll_model.specs.declared.contents.Contents.{Contents}
use Rattle.coll_model.specs.declared.contents.Contents.TheVariants.{Dict, Queue}
use Rattle.coll_model.specs.Effect.{State, at_key}
use Rattle.key_locks.specs.Grants.{Grant}
use Rattle.events.specs.declared.call.Call.{Call}
use Rattle.events.specs.declared.call.Call.TheVariants.{Begin, Make, OnKey, Commit, Abort}
use Rattle.events.specs.declared.call.KeyCall.{KeyCall}
use Rattle.events.specs.declared.call.KeyCall.TheVariants.{Get, GetForUpdate, Set, Add, Delete}
use Rattle.events.specs.declared.answer.Answer.{Answer}
use Rattle.events.specs.declared.answer.Answer.TheVariants as answers
use Rattle.events.specs.declared.answer.Reply.{Reply}
use Rattle.events.specs.Locking.{locks_at, against}

-- an answer that logs nothing
abbrev pub plain : Answer → Reply
plain answer = record { answer = answer; op = None }

-- ---- calls on a key, by its value

-- a value that may be missing
abbrev pub found : Option (List ℕ) → Answer
found None = answers.Missing
found (Some value) = answers.Value value

-- a value for a key that has none
abbrev pub added : List ℕ → List ℕ → List ℕ → Option (List ℕ) → Reply
added name key value None = record { answer = answers.True; op = Some (ops.Put name key value) }
added name key value (Some present) = plain answers.False

-- the end of a key that is there
abbrev pub deleted : List ℕ → List ℕ → Option (List ℕ) → Reply
deleted name key None = plain answers.False
deleted name key (Some present) = record { answer = answers.True; op = Some (ops.Del name key) }

abbrev pub key_reply : List ℕ → List ℕ → KeyCall → Option (List ℕ) → Reply
key_reply name key Get present = plain (found present)
key_reply name key GetForUpdate present = plain (found present)
key_reply name key (Set value) present = record { answer = answers.Done; op = Some (ops.Put name key value) }
key_reply name key (Add value) present = added name key value present
key_reply name key Delete present = deleted name key present

-- ---- calls on a collection, by what stands under its name

-- a new name is made, and nothing happens to one that is there
abbrev pub make_reply : List ℕ → Kind → Option Contents → Reply
make_reply name kind None = record { answer = answers.True; op = Some (ops.Make name kind) }
make_reply name kind (Some contents) = plain answers.False

-- a dictionary alone has keys
abbrev pub dictionary_reply : List ℕ → List ℕ → KeyCall → Option Contents → Reply
dictionary_reply name key call None = plain answers.Absent
dictionary_reply name key call (Some (Queue values)) = plain answers.WrongKind
dictionary_reply name key call (Some (Dict pairs)) = key_reply name key call (at_key key pairs)

-- ---- the answer

-- the answer at a state to a call that names a collection, locks apart
abbrev pub reply_at : State → Call → Option Reply
reply_at state Begin = None
reply_at state (Make t name kind) = Some (make_reply name kind (at_key name state))
reply_at state (OnKey t name key call) = Some (dictionary_reply name key call (at_key name state))
reply_at state (Commit t) = None
reply_at state (Abort t) = None

-- the answer to a call of a live transaction, at what it sees, locks apart: an abort is done, and a commit has none of its own
abbrev pub reply_to : State → Call → Option Reply
reply_to state (Abort t) = Some (plain answers.Done)
reply_to state call = reply_at state call

-- where another transaction stands against a lock that the call asks for, that one is named
abbrev pub locked_or : Option TxnId → Option Reply → Option Reply
locked_or None reply = reply
locked_or (Some by) reply = Some (plain (answers.Locked by))

-- the answer to a call of a live transaction, at what it sees and beside these grants
abbrev pub live_reply : List Grant → State → TxnId → Call → Option Reply
live_reply grants state t call = locked_or (against grants t (locks_at state call)) (reply_to state call)
