-- What the disks hold of the order.
use Rattle.std.specs.Prelude.{◌≡◌, ℕ, ◌+◌, ◌≤◌, true, ◌==◌, List, [], ◌∷◌, length, map, Ok, None, if◌then◌else◌}
use Rattle.std.specs.List.{list_any, AllByRecursion}
use Rattle.rc_base.specs.declared.ids.TxnId.{TxnId}
use Rattle.rc_base.specs.Ids.{is_txn}
use Rattle.rc_base.specs.Quorum.{write_quorum}
use Rattle.rc_base.specs.Members.{first_twice}
use Rattle.disk_model.specs.Disk.{Areas, Each}
use Rattle.txn_table.specs.declared.committed.Committed.{Committed}
use Rattle.txn_table.specs.Held.{CommitOrder, HoldsOrder}
use Rattle.txn_table.specs.Log.{no_base}
use Rattle.log_store.specs.declared.kept.Kept.{Kept as Log}
use Rattle.log_store.specs.Durable.{durable}
use Rattle.order_machine.specs.Order.{Entry, Order}
use Rattle.order_machine.specs.Machine.{Machine, order_of, is_booted}

-- a commit of a log that is this entry of the order
abbrev pub as_commit : Entry → Committed
as_commit e = record { txn = e.txn; ops = e.ops }

-- the greatest place of an acknowledged transaction among the entries, 0 where there is none
abbrev pub acknowledged_to : List TxnId → List Entry → ℕ
acknowledged_to acknowledged [] = 0
acknowledged_to acknowledged (e ∷ entries) =
    let behind = acknowledged_to acknowledged entries in
    if behind == 0 then (if list_any (is_txn e.txn) acknowledged then 1 else 0) else behind + 1

-- the entries of an order as commits, from its start on
abbrev pub commits_of : Order → CommitOrder
commits_of order = record { count = order.base; contents = order.start; commits = map as_commit order.entries }

-- a log, which has nothing before it, holds an order to a place
abbrev pub HoldsTo : Order → ℕ → Log → Type 0
HoldsTo order place log = HoldsOrder no_base log.records (commits_of order) place

-- each image of a disk holds what was acknowledged of the order that replica r shows a beginning of
abbrev pub DiskHolds : Machine → ℕ → (Areas → Type 0) → Type 0
DiskHolds m r images =
    let order = order_of m r in
    Each images (λ c. (log : Log) × (durable c ≡ Ok log) × HoldsTo order (acknowledged_to m.acknowledged order.entries) log)

-- Once it was booted, a write quorum of the configuration that was last activated holds what was acknowledged, in each
-- image of their disks.
pub record QuorumHolds (m : Machine) (images : ℕ → Areas → Type 0) : Type 0 where
  pub members : List ℕ
  pub distinct : first_twice members ≡ None
  pub of_config : AllByRecursion (λ r. list_any (λ member. member == r) m.config ≡ true) members
  pub quorum : write_quorum (length m.config) ≤ length members
  pub hold : (r : ℕ) → list_any (λ member. member == r) members ≡ true → DiskHolds m r (images r)

abbrev pub DisksHold : Machine → (ℕ → Areas → Type 0) → Type 0
DisksHold m images = is_booted m ≡ true → QuorumHolds m images
