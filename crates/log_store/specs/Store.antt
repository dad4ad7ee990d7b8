-- An open log, as its callers see it.
use Rattle.std.specs.Prelude.{◌≡◌, ◌≢◌, ◌⊎◌, ℕ, ◌<◌, ◌≤◌, [], Some, Ok, Option}
use Rattle.std.specs.Option.{option_map}
use Rattle.disk_model.specs.Disk.{Areas, Each}
use Rattle.gated_log.specs.Blocks.{open_blocks}
use Rattle.gated_log.specs.Log.{Log, IsSettled}
use Rattle.log_store.specs.declared.durable.Durable.{Durable}
use Rattle.log_store.specs.declared.kept.Kept.{Kept}
use Rattle.log_store.specs.Durable.{durable, holder, KeepsSlots}
use Rattle.log_store.specs.Fold.{no_log}
use Rattle.log_store.specs.Growth.{new_log}

-- the log area that is appended to, and the identity
pub record Store : Type 0 where
  pub log : Log
  pub identity : ℕ

-- this log area is taken, and it has a first block
pub record IsTaken (area : ℕ) (areas : Areas) : Type 0 where
  pub taken : holder areas ≡ area
  pub some : open_blocks (areas area) ≢ []

-- The store's log is over a log area and settled on the disk, and in each image that area is the one that is taken.
pub record IsOpenOn (store : Store) (images : Areas → Type 0) : Type 0 where
  pub low : store.log.area < 2
  pub settled : IsSettled images store.log
  pub taken : Each images (IsTaken store.log.area)

-- what was told of a log with this identity
abbrev pub kept_as : ℕ → Durable → Kept
kept_as identity told = record { identity = Some identity; fence = told.fence; records = told.records }

-- What a disk holds stays, or it held no log and holds a new one of this identity.
abbrev pub KeepsOrBegins : ℕ → Areas → Areas → Type 0
KeepsOrBegins identity old new = ((durable new ≡ durable old) ⊎ ((durable old ≡ Ok no_log) × (durable new ≡ Ok (new_log identity)))) × KeepsSlots old new

-- what reads of the slots give stays
abbrev pub SlotsStay : Option Areas → Option Areas → Type 0
SlotsStay old new = (b : ℕ) → 2 ≤ b → option_map (λ s. s b) new ≡ option_map (λ s. s b) old
