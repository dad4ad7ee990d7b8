-- Quiet calls: what is noted of a transaction that doesn't go on where a call names it.
use Rattle.std.specs.Prelude.{◌≡◌, ℕ, true, false, List, ◌++◌, All, None, Some}
use Rattle.std.specs.Map.{lookup}
use Rattle.rc_base.specs.declared.ids.TxnId.{TxnId}
use Rattle.rc_base.specs.Ids.{is_txn}
use Rattle.events.specs.Calls.{CallRecord}
use Rattle.events.specs.Replay.{is_replayed}
use Rattle.order_machine.specs.Machine.{Txn}

-- a call that a replay passes over, and that logged no operation
pub record QuietCall (call : CallRecord) : Type 0 where
  pub passed : is_replayed call ≡ false
  pub unlogged : call.op ≡ None

-- the second is the first with nothing but quiet calls noted since
pub record QuietSuffix (before after : Txn) : Type 0 where
  pub quiet : List CallRecord
  pub each : All QuietCall quiet
  pub is : after ≡ record before { calls = before.calls ++ quiet }

-- of each transaction whose commit was requested and which has ended, nothing but quiet calls was noted since
abbrev pub SettledStay : List (TxnId × Txn) → List (TxnId × Txn) → Type 0
SettledStay old new =
    (t : TxnId) (x : Txn) → lookup (is_txn t) old ≡ Some x → x.asked ≡ true → x.live ≡ false → (y : Txn) × (lookup (is_txn t) new ≡ Some y) × QuietSuffix x y

-- so it is of each transaction of home r, also of the live ones; and no other one of home r was begun
pub record HomeStays (r : ℕ) (old new : List (TxnId × Txn)) : Type 0 where
  pub kept : (t : TxnId) (x : Txn) → lookup (is_txn t) old ≡ Some x → x.home ≡ r → (y : Txn) × (lookup (is_txn t) new ≡ Some y) × QuietSuffix x y
  pub known : (t : TxnId) (y : Txn) → lookup (is_txn t) new ≡ Some y → y.home ≡ r → (x : Txn) × (lookup (is_txn t) old ≡ Some x) × QuietSuffix x y
