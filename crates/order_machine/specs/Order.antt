-- The order of committed transactions: a start, and the entries that were added to it.
use Rattle.std.specs.Prelude.{ℕ, ◌+◌, ◌-◌, Bool, List, [], ◌∷◌, length, take, flat_map, if◌then◌else◌}
use Rattle.std.specs.List.{list_any}
use Rattle.rc_base.specs.declared.ids.TxnId.{TxnId}
use Rattle.coll_model.specs.declared.op.Op.{Op}
use Rattle.coll_model.specs.Effect.{State, folded}
use Rattle.rc_base.specs.Ids.{is_txn}

-- a committed transaction, and its operations in order
pub record Entry : Type 0 where
  pub txn : TxnId
  pub ops : List Op

-- The first `base` transactions left the state `start`, and the entries follow them.
pub record Order : Type 0 where
  pub base : ℕ
  pub start : State
  pub entries : List Entry

abbrev pub empty_order : Order
empty_order = record { base = 0; start = []; entries = [] }

-- how many transactions were committed
abbrev pub length_of : Order → ℕ
length_of o = o.base + length o.entries

-- the entries among the first n transactions
abbrev pub first_of : Order → ℕ → List Entry
first_of o n = take (n - o.base) o.entries

-- the state after the first n transactions, for n from the base to the length
abbrev pub state_at : Order → ℕ → State
state_at o n = folded o.start (flat_map (λ e. e.ops) (first_of o n))

-- whether the transaction is among the entries
abbrev pub holds : List Entry → TxnId → Bool
holds entries t = list_any (λ e. is_txn t e.txn) entries

-- the entries before that of the transaction
abbrev pub before : TxnId → List Entry → List Entry
before t [] = []
before t (e ∷ entries) = if is_txn t e.txn then [] else e ∷ before t entries
