-- What a disk holds of a replica, with its whole log, and what of that it tells as stable.
use Rattle.std.specs.Prelude.{ℕ, ◌+◌, ◌-◌, ◌≤◌, max, List, [], ◌∷◌, length, take, drop, IsTrue}
use Rattle.rc_base.specs.declared.ids.Epoch.{Epoch}
use Rattle.rc_base.specs.Ids.{epoch_le}
use Rattle.coll_model.specs.Effect.{State}
use Rattle.log_records.specs.declared.record.Record.{Record}
use Rattle.log_records.specs.declared.record.Record.TheVariants.{Begin, Operation, End, Barrier, EpochStart}
use Rattle.txn_table.specs.declared.base.Base.{Base}
use Rattle.txn_table.specs.declared.committed.Committed.{Committed}
use Rattle.txn_table.specs.declared.known.Known.{Known}
use Rattle.txn_table.specs.Log.{Items, last_epoch_from, known_from, commits_from, IsLogFrom}
use Rattle.txn_table.specs.Held.{contents_after}

-- ---- what Barriers tell

-- what a Barrier tells as stable
abbrev pub stable_told : Record → ℕ
stable_told (Begin txn) = 0
stable_told (Operation txn prev op) = 0
stable_told (End txn prev committed) = 0
stable_told (Barrier stable) = stable.0
stable_told (EpochStart epoch) = 0

-- the greatest position that a Barrier of the log tells
abbrev pub stable_in : Items → ℕ
stable_in [] = 0
stable_in (item ∷ items) = max (stable_told item.1) (stable_in items)

-- ---- what a disk holds

-- A replica's whole log, also what its disk has no more of it: where it starts, before which nothing is known; its
-- records; the position behind which the disk still has them; the position of its base, the checkpoint that it would be
-- opened from; and the fence, below which it accepts no epoch.
pub record Whole : Type 0 where
  pub start : Base
  pub log : Items
  pub head : ℕ
  pub base : ℕ
  pub fence : Epoch

-- the position of its last record, that of the start where there is none
abbrev pub last_position : Whole → ℕ
last_position w = w.start.at.0 + length w.log

-- the epoch of its last record, that at the start where there is none
abbrev pub epoch_of : Whole → Epoch
epoch_of w = last_epoch_from w.start w.log

-- its records up to a position
abbrev pub log_to : Whole → ℕ → Items
log_to w lsn = take (lsn - w.start.at.0) w.log

-- the commits behind the start, up to a position
abbrev pub commits_to : Whole → ℕ → List Committed
commits_to w lsn = commits_from w.start (log_to w lsn)

-- how many transactions committed up to a position
abbrev pub count_to : Whole → ℕ → ℕ
count_to w lsn = w.start.count + length (commits_to w lsn)

-- the collections behind the commits up to a position
abbrev pub contents_to : Whole → ℕ → State
contents_to w lsn = contents_after w.start.contents (commits_to w lsn)

-- what it says of the transactions that are pending at the start or begin behind it
abbrev pub transactions_of : Whole → List Known
transactions_of w = known_from w.start w.log

-- what it tells as stable itself: its base, or more by a Barrier behind that
abbrev pub stable_of : Whole → ℕ
stable_of w = max w.base (stable_in (drop (w.base - w.start.at.0) w.log))

-- Its places are in order, its records are a log, and no epoch in it is above the fence.
pub record IsWhole (w : Whole) : Type 0 where
  pub head : w.start.at.0 ≤ w.head
  pub base : w.head ≤ w.base
  pub last : w.base ≤ last_position w
  pub rules : IsLogFrom w.start w.log
  pub fence : IsTrue (epoch_le (epoch_of w) w.fence)
