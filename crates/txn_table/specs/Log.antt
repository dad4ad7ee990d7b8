-- The rules of a log that starts at a base: which record may stand after the others, and what the records commit.
use Rattle.std.specs.Prelude.{◌≡◌, ℕ, ◌+◌, Bool, true, ◌&&◌, nat_lt, List, [], ◌∷◌, ◌++◌, length, None, IsTrue}
use Rattle.rc_base.specs.declared.ids.Epoch.{Epoch}
use Rattle.rc_base.specs.Ids.{epoch_lt, is_epoch}
use Rattle.log_records.specs.declared.record.Record.{Record}
use Rattle.log_records.specs.declared.record.Record.TheVariants.{Begin, Operation, End, Barrier, EpochStart}
use Rattle.progress_vector.specs.Vectors.{epoch_at}
use Rattle.txn_table.specs.declared.base.Base.{Base}
use Rattle.txn_table.specs.declared.committed.Committed.{Committed}
use Rattle.txn_table.specs.declared.known.Known.{Known}
use Rattle.txn_table.specs.Commits.{Logged, known, commits, fault_in}

-- the records of a log with the epochs in which they were logged
abbrev pub Items : Type 0
Items = List (Epoch × Record)

-- nothing is before a log that starts here: its first record has the position 1
abbrev pub no_base : Base
no_base = record { at = record { 0 = 0 }; count = 0; entries = []; pending = []; contents = [] }

-- ---- what may follow

-- the epoch of the last record, or this one where there is none
abbrev pub last_from : Epoch → Items → Epoch
last_from epoch [] = epoch
last_from epoch (item ∷ items) = last_from item.0 items

-- the epoch of the last record, that at the start where there is none
abbrev pub last_epoch_from : Base → Items → Epoch
last_epoch_from start log = last_from (epoch_at start.entries start.at.0) log

-- A record of this epoch may stand after one of the last epoch: epochs don't fall, and an EpochStart, which names the new
-- epoch, stands exactly where the epoch rises.
abbrev pub may_follow : Epoch → Epoch → Record → Bool
may_follow last epoch (Begin txn) = is_epoch epoch last
may_follow last epoch (Operation txn prev op) = is_epoch epoch last
may_follow last epoch (End txn prev committed) = is_epoch epoch last
may_follow last epoch (Barrier stable) = is_epoch epoch last
may_follow last epoch (EpochStart named) = is_epoch named epoch && epoch_lt last epoch

-- a record at this position may stand in the tail: a transaction begins in its own epoch, and a Barrier tells of what
-- stands before it
abbrev pub may_stand : ℕ → Epoch → Record → Bool
may_stand lsn epoch (Begin txn) = is_epoch txn.epoch epoch
may_stand lsn epoch (Operation txn prev op) = true
may_stand lsn epoch (End txn prev committed) = true
may_stand lsn epoch (Barrier stable) = nat_lt stable.0 lsn
may_stand lsn epoch (EpochStart named) = true

-- ---- transactions

-- the records with their positions, the first of which has this one
abbrev pub numbered : ℕ → Items → List Logged
numbered lsn [] = []
numbered lsn (item ∷ items) = (record { 0 = lsn }, item.1) ∷ numbered (lsn + 1) items

-- the transactions that are pending at the start or begin in the log, and what the log says of them
abbrev pub known_from : Base → Items → List Known
known_from start log = known start.pending (numbered (start.at.0 + 1) log)

-- the transactions that a log commits, in order
abbrev pub commits_from : Base → Items → List Committed
commits_from start log = commits start.pending (numbered (start.at.0 + 1) log)

-- ---- the rules

-- A record may stand after a log: its epoch may follow, its position, which is the next one, and its transaction's epoch
-- are in order, and it names the record of its transaction before it.
pub record MayStandAfter (start : Base) (log : Items) (epoch : Epoch) (body : Record) : Type 0 where
  pub follows : IsTrue (may_follow (last_epoch_from start log) epoch body)
  pub stands : IsTrue (may_stand (length log + (start.at.0 + 1)) epoch body)
  pub linked : fault_in (known_from start log) body ≡ None

-- each record may stand after these and the ones before it
abbrev pub IsLogAfter : Base → Items → Items → Type 0
IsLogAfter start before [] = Unit {0}
IsLogAfter start before (item ∷ items) = MayStandAfter start before item.0 item.1 × IsLogAfter start (before ++ item ∷ []) items

-- the records are a log that starts at this base
abbrev pub IsLogFrom : Base → Items → Type 0
IsLogFrom start log = IsLogAfter start [] log

-- ---- a whole log, with nothing before it

-- the epoch of its last record, 0.0 where there is none
abbrev pub last_epoch : Items → Epoch
last_epoch log = last_epoch_from no_base log

-- the transactions that begin in it, and what it says of them
abbrev pub known_in : Items → List Known
known_in log = known_from no_base log

-- the transactions that it commits, in order
abbrev pub commits_in : Items → List Committed
commits_in log = commits_from no_base log

-- the records are a whole log
abbrev pub IsLog : Items → Type 0
IsLog log = IsLogFrom no_base log
