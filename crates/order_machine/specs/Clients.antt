-- Client calls at a replica: their answers, and what an answer changes.
use Rattle.std.specs.Prelude.{ℕ, ◌+◌, true, false, not, if◌then◌else◌, [], ◌∷◌, ◌++◌, Option, Some, option_map}
use Rattle.std.specs.Option.{option_map_or}
use Rattle.rc_base.specs.declared.ids.TxnId.{TxnId}
use Rattle.rc_base.specs.Ids.{no_epoch}
use Rattle.coll_model.specs.Effect.{State, folded}
use Rattle.events.specs.declared.call.Call.{Call}
use Rattle.events.specs.declared.answer.Answer.{Answer}
use Rattle.events.specs.declared.answer.Answer.TheVariants as answers
use Rattle.events.specs.declared.answer.Reply.{Reply}
use Rattle.events.specs.Calls.{CallRecord, txn_named}
use Rattle.events.specs.Answers.{plain, live_reply}
use Rattle.order_machine.specs.Order.{state_at}
use Rattle.order_machine.specs.Machine.{Machine, Role, Txn, replica, order_of, role_of, put_role, txn_of, put_txn, grants_of, is_active, live_txn, ops_of}

-- ---- the answer

-- the transaction that the next begin of a primary starts: the begins of an epoch count from 1
abbrev pub next_txn : Option Role → TxnId
next_txn role = option_map_or (λ held. record { epoch = held.epoch; n = held.begins + 1 }) role (record { epoch = no_epoch; n = 0 })

-- what a transaction sees at r: the state that r shows, with its own operations on it
abbrev pub seen : Machine → ℕ → Txn → State
seen m r x = folded (state_at (order_of m r) (replica m r).show) (ops_of x)

-- What an open, active primary answers: to a begin its next transaction; else by what the transaction sees and by the
-- locks that others hold, where it is live there.
abbrev pub served : Machine → ℕ → Call → Option Reply
served m r call =
    option_map_or (λ t. option_map_or (λ x. live_reply (grants_of m r) (seen m r x) t call) (live_txn m r t) (Some (plain (answers.Ended t))))
    (txn_named call) (Some (plain (answers.Txn (next_txn (role_of m r)))))

-- The one answer to a call at r, by the order of refusals: not open, not active, ended, and then the lock on the name, what
-- the collection refuses, and the lock on the key.
abbrev pub answer : Machine → ℕ → Call → Option Reply
answer m r call =
    if not (replica m r).up then Some (plain (answers.Down r))
    else (if not (is_active m r) then Some (plain (answers.NotActive r)) else served m r call)

-- ---- what an answer changes

abbrev pub new_txn : Machine → ℕ → Txn
new_txn m r = record { home = r; shown_at_begin = (replica m r).show; calls = []; live = true; asked = false }

abbrev pub one_more_begun : Role → Role
one_more_begun role = record role { begins = role.begins + 1 }

-- a begin was answered by a transaction: it counts, and the transaction starts
abbrev pub begun : Machine → ℕ → TxnId → Machine
begun m r t =
    put_txn (put_role m r (option_map one_more_begun (role_of m r))) t (new_txn m r)

abbrev pub begun_by : Machine → ℕ → Answer → Machine
begun_by m r (answers.Txn t) = begun m r t
begun_by m r _ = m

-- a call was answered: it is noted with its transaction, if that was ever begun
abbrev pub noted : Machine → TxnId → CallRecord → Machine
noted m t call = option_map_or (λ x. put_txn m t (record x { calls = x.calls ++ call ∷ [] })) (txn_of m t) m

-- the machine after the answer to a client call of the replica
abbrev pub answered_at : Machine → ℕ → Call → Reply → Machine
answered_at m r call reply =
    option_map_or (λ t. noted m t (record { call = call; answer = reply.answer; op = reply.op })) (txn_named call) (begun_by m r reply.answer)
