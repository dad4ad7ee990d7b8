-- Client calls, and the record of one with its answer.
use Rattle.std.specs.Prelude.{List, Option, Some, None, filter_map}
use Rattle.rc_base.specs.declared.ids.TxnId.{TxnId}
use Rattle.coll_model.specs.declared.op.Op.{Op}
use Rattle.events.specs.declared.call.Call.{Call}
use Rattle.events.specs.declared.call.Call.TheVariants.{Begin, Make, OnKey, Commit, Abort}
use Rattle.events.specs.declared.answer.Answer.{Answer}

-- the transaction that a call names
abbrev pub txn_named : Call → Option TxnId
txn_named Begin = None
txn_named (Make t name kind) = Some t
txn_named (OnKey t name key call) = Some t
txn_named (Commit t) = Some t
txn_named (Abort t) = Some t

-- a client call with its answer, and the operation that it logged
pub record CallRecord : Type 0 where
  pub call : Call
  pub answer : Answer
  pub op : Option Op

-- the operations that the calls logged, in order
abbrev pub ops_in : List CallRecord → List Op
ops_in calls = filter_map (λ c. c.op) calls
