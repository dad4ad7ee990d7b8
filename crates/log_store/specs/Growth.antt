-- What records change that go on with a log.
use Rattle.std.specs.Prelude.{◌≡◌, ℕ, ◌+◌, List, [], ◌∷◌, ◌++◌, length, Some}
use Rattle.log_records.specs.declared.record.Physical.{Physical}
use Rattle.log_records.specs.declared.record.Physical.TheVariants.{Logical, Fence, TruncateTail, CheckpointDone, Reset, Head}
use Rattle.txn_table.specs.Log.{MayStandAfter, no_base}
use Rattle.log_store.specs.declared.kept.Kept.{Kept}
use Rattle.txn_table.specs.Epochs.{later}
use Rattle.rc_base.specs.Ids.{no_epoch}

-- A Fence may always come. A logical record has the next position, and may stand behind the records.
abbrev pub MayCome : Kept → Physical → Type 0
MayCome v (Fence epoch) = Unit {0}
MayCome v (Logical lsn epoch body) = (lsn.0 ≡ length v.records + 1) × MayStandAfter no_base v.records epoch body
MayCome v (TruncateTail lsn) = ⊥
MayCome v (CheckpointDone slot at len) = ⊥
MayCome v (Reset slot at len) = ⊥
MayCome v (Head generation partition) = ⊥

abbrev pub after_one : Kept → Physical → Kept
after_one v (Fence epoch) = record { identity = v.identity; fence = later v.fence epoch; records = v.records }
after_one v (Logical lsn epoch body) = record { identity = v.identity; fence = later v.fence epoch; records = v.records ++ (epoch, body) ∷ [] }
after_one v (TruncateTail lsn) = v
after_one v (CheckpointDone slot at len) = v
after_one v (Reset slot at len) = v
after_one v (Head generation partition) = v

-- what is held once these records were appended
abbrev pub after : Kept → List Physical → Kept
after v [] = v
after v (item ∷ items) = after (after_one v item) items

-- these records go on with the log
abbrev pub GoesOn : Kept → List Physical → Type 0
GoesOn v [] = Unit {0}
GoesOn v (item ∷ items) = MayCome v item × GoesOn (after_one v item) items

-- a log with an identity and nothing else
abbrev pub new_log : ℕ → Kept
new_log identity = record { identity = Some identity; fence = no_epoch; records = [] }
