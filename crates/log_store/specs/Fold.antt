-- The fold of a log area: its blocks are read from the front, and each record may change what the area holds.
use Rattle.std.specs.Prelude.{ℕ, ◌+◌, Bool, ◌&&◌, nat_le, List, [], ◌∷◌, ◌++◌, length, Option, Some, None, Result, Ok, Err, if◌then◌else◌, ◌==◌}
use Rattle.std.specs.Option.{option_and_then, is_none}
use Rattle.gated_log.specs.declared.block.Block.{Block}
use Rattle.log_records.specs.declared.record.Physical.{Physical}
use Rattle.log_records.specs.declared.record.Physical.TheVariants.{Logical, Fence, TruncateTail, CheckpointDone, Reset, Head}
use Rattle.log_store.specs.declared.kept.Kept.{Kept}
use Rattle.log_store.specs.declared.kept.Row.{Row}
use Rattle.log_store.specs.declared.fold.Standing.{Standing}
use Rattle.txn_table.specs.Epochs.{later}
use Rattle.rc_base.specs.Ids.{no_epoch}
use Rattle.txn_table.specs.Commits.{fault_in}
use Rattle.txn_table.specs.Log.{Items, last_epoch, may_follow, may_stand, known_in}
use Rattle.log_store.specs.Payload.{records_of}

-- where an area is wrong: its number and the place of a block
pub record Place : Type 0 where
  pub area : ℕ
  pub at : ℕ

-- wrong at this place where there is no result
abbrev pub told : {X : Type 0} → ℕ → ℕ → Option X → Result X Place
told area at None = Err (record { area = area; at = at })
told area at (Some x) = Ok x

abbrev pub and_then : {X Y : Type 0} → (X → Result Y Place) → Result X Place → Result Y Place
and_then f (Ok x) = f x
and_then f (Err p) = Err p

-- ---- rows

-- the rows without their places
abbrev pub items_of : List Row → Items
items_of [] = []
items_of (row ∷ rows) = (row.epoch, row.body) ∷ items_of rows

-- ---- one block

-- what stands once a head was read
abbrev pub opening : ℕ → Standing
opening partition = record { identity = partition; fenced = no_epoch; rows = [] }

-- What stands behind one more record of the block at this place, None where it breaks the fold.
abbrev pub step : ℕ → Standing → Physical → Option Standing
step place s (Fence epoch) = Some (record { identity = s.identity; fenced = later s.fenced epoch; rows = s.rows })
step place s (Logical lsn epoch body) =
    if (lsn.0 == length s.rows + 1) && may_follow (last_epoch (items_of s.rows)) epoch body
    then Some (record { identity = s.identity; fenced = s.fenced; rows = s.rows ++ (record { place = place; epoch = epoch; body = body }) ∷ [] })
    else None
-- these three have no rule yet
step place s (TruncateTail lsn) = None
step place s (CheckpointDone slot at len) = None
step place s (Reset slot at len) = None
-- a head stands first alone
step place s (Head generation partition) = None

-- what stands behind these records of the block
abbrev pub folded : ℕ → Standing → List Physical → Option Standing
folded place s [] = Some s
folded place s (item ∷ items) = option_and_then (λ t. folded place t items) (step place s item)

-- the position of the first Reset, 0 where there is none
abbrev pub reset_at : List Physical → ℕ
reset_at [] = 0
reset_at (Reset slot at len ∷ items) = at.0
reset_at (Logical lsn epoch body ∷ items) = reset_at items
reset_at (Fence epoch ∷ items) = reset_at items
reset_at (TruncateTail lsn ∷ items) = reset_at items
reset_at (CheckpointDone slot at len ∷ items) = reset_at items
reset_at (Head generation partition ∷ items) = reset_at items

-- The first block begins with a head, whose generation is at least 1 and at most 1 plus the position of the first Reset.
abbrev pub opened : ℕ → List Physical → Option Standing
opened place [] = None
opened place (Head generation partition ∷ items) = if nat_le 1 generation && nat_le generation (1 + reset_at items) then folded place (opening partition) items else None
opened place (Logical lsn epoch body ∷ items) = None
opened place (Fence epoch ∷ items) = None
opened place (TruncateTail lsn ∷ items) = None
opened place (CheckpointDone slot at len ∷ items) = None
opened place (Reset slot at len ∷ items) = None

-- What stands behind these records of a block. Nothing stands before the first block.
abbrev pub behind_items : ℕ → Option Standing → List Physical → Option Standing
behind_items place None items = opened place items
behind_items place (Some s) items = folded place s items

-- what stands behind a block
abbrev pub behind_block : Option Standing → Block → Option Standing
behind_block s block = option_and_then (behind_items block.place s) (records_of block.payload)

-- ---- an area

-- what stands behind these blocks of an area
abbrev pub behind_blocks : ℕ → Option Standing → List Block → Result (Option Standing) Place
behind_blocks area s [] = Ok s
behind_blocks area s (block ∷ blocks) = and_then (λ t. behind_blocks area (Some t) blocks) (told area block.place (behind_block s block))

-- whether a row may stand in the tail, behind these records
abbrev pub is_in_place : Items → Row → Bool
is_in_place before row = may_stand (length before + 1) row.epoch row.body && is_none (fault_in (known_in before) row.body)

-- the place of the first row that may not stand in the tail, where these records stand before the rows
abbrev pub first_wrong : Items → List Row → Option ℕ
first_wrong before [] = None
first_wrong before (row ∷ rows) = if is_in_place before row then first_wrong (before ++ (row.epoch, row.body) ∷ []) rows else Some row.place

-- what a disk holds on which there is no log
abbrev pub no_log : Kept
no_log = record { identity = None; fence = no_epoch; records = [] }

-- The fence is the greatest epoch among the Fence records and the records of the log, whose epochs don't fall.
abbrev pub kept_of : Standing → Kept
kept_of s = record { identity = Some s.identity; fence = later s.fenced (last_epoch (items_of s.rows)); records = items_of s.rows }

-- once the whole area was folded, its tail is judged
abbrev pub judged : ℕ → Option ℕ → Kept → Result Kept Place
judged area None kept = Ok kept
judged area (Some at) kept = Err (record { area = area; at = at })

abbrev pub kept_behind : ℕ → Option Standing → Result Kept Place
kept_behind area None = Ok no_log
kept_behind area (Some s) = judged area (first_wrong [] s.rows) (kept_of s)

-- what these blocks of an area hold
abbrev pub held_by : ℕ → List Block → Result Kept Place
held_by area blocks = and_then (kept_behind area) (behind_blocks area None blocks)
