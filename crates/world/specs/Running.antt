-- The states of the machine in which replica 0 is the active primary of the latest epoch and shows all of the order.
use Rattle.std.specs.Prelude.{◌≡◌, ℕ, ◌≤◌, true, false, List, [], length, flat_map, Some, is_some}
use Rattle.std.specs.List.{list_any}
use Rattle.std.specs.Map.{lookup}
use Rattle.rc_base.specs.declared.ids.TxnId.{TxnId}
use Rattle.rc_base.specs.Ids.{is_txn, epoch_le}
use Rattle.coll_model.specs.Effect.{State, folded}
use Rattle.key_locks.specs.Grants.{Grant, Alike}
use Rattle.order_machine.specs.Order.{Entry, holds}
use Rattle.order_machine.specs.Machine.{Machine, Txn, ops_of}
use Rattle.lock_laws.specs.Protected.{AreExclusive, AreProtected}
use Rattle.txn_front.specs.Front.{Fronted, Going, going_of}
use Rattle.world.specs.Standing.{Course, standing, serving}

abbrev pub running : List Entry → List TxnId → List (TxnId × Txn) → ℕ → List Grant → Course → Machine
running entries acknowledged txns begins grants course = standing entries acknowledged (serving course (length entries) begins grants) txns course

-- the state after the entries
abbrev pub state_of : List Entry → State
state_of entries = folded [] (flat_map (λ e. e.ops) entries)

-- A transaction that was begun: it was begun here, in the latest epoch or in one before it. Where its commit was asked in
-- the latest one it is acknowledged. One that goes on was begun in the latest epoch, and isn't in the order; it has logged
-- these operations, and its calls were answered under its locks.
pub record IsKept (course : Course) (front : Fronted) (grants : List Grant) (entries : List Entry) (acknowledged : List TxnId) (t : TxnId) (x : Txn) : Type 0 where
  pub home : x.home ≡ 0
  pub within : epoch_le t.epoch course.latest ≡ true
  pub begun : t.epoch ≡ course.latest → t.n ≤ front.begins
  pub on : x.live ≡ is_some (going_of front t)
  pub here : x.live ≡ true → t.epoch ≡ course.latest
  pub asked : t.epoch ≡ course.latest → x.asked ≡ true → list_any (is_txn t) acknowledged ≡ true
  pub not_held : x.live ≡ true → holds entries t ≡ false
  pub not_acknowledged : x.live ≡ true → list_any (is_txn t) acknowledged ≡ false
  pub logged : (going : Going) → going_of front t ≡ Some going → ops_of x ≡ going.ops
  pub protected : x.live ≡ true → AreProtected grants t (state_of entries) x.calls

-- The machine of a booted world over what goes on there, which shows so many transactions, with these contents. Its grants
-- are those of the front, whatever the order between grants of different names is.
pub record Runs (front : Fronted) (shown : ℕ) (contents : State) (m : Machine) : Type 0 where
  pub entries : List Entry
  pub acknowledged : List TxnId
  pub txns : List (TxnId × Txn)
  pub grants : List Grant
  pub course : Course
  pub is : m ≡ running entries acknowledged txns front.begins grants course
  pub epoch : front.epoch ≡ course.latest
  pub alike : Alike grants front.grants
  pub exclusive : AreExclusive grants
  pub all_shown : shown ≡ length entries
  pub sees : contents ≡ state_of entries
  pub each : (t : TxnId) (x : Txn) → lookup (is_txn t) txns ≡ Some x → IsKept course front grants entries acknowledged t x
  pub live_known : (t : TxnId) (going : Going) → going_of front t ≡ Some going → (x : Txn) × (lookup (is_txn t) txns ≡ Some x)
  pub held : (t : TxnId) → list_any (is_txn t) acknowledged ≡ true → holds entries t ≡ true
  pub held_within : (t : TxnId) → holds entries t ≡ true → epoch_le t.epoch course.latest ≡ true
  pub held_begun : (t : TxnId) → holds entries t ≡ true → t.epoch ≡ course.latest → t.n ≤ front.begins

-- the same, with these entries and decisions
abbrev pub RunsWith : List Entry → Course → Fronted → ℕ → State → Machine → Type 0
RunsWith entries course front shown contents m = (runs : Runs front shown contents m) × ((runs.entries ≡ entries) × (runs.course ≡ course))
