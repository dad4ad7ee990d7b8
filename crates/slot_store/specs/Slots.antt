-- The slots of a disk, and what was put into the one that is being written.
use Rattle.std.specs.Prelude.{◌≡◌, ℕ, ◌+◌, List, length, Option, Some, None}
use Rattle.std.specs.Option.{ForSome}
use Rattle.disk_model.specs.Disk.{Areas, Changes, Follows, Within, Each}
use Rattle.disk_model.specs.declared.disk.DiskError.{DiskError}
use Rattle.disk_model.specs.declared.disk.DiskError.TheVariants.{Failed, NoMemory as NoMemoryOfDisk}
use Rattle.gated_log.specs.Log.{StaysElsewhere}
use Rattle.slot_store.specs.declared.store.Writing.{Writing}
use Rattle.slot_store.specs.declared.error.SlotError.{SlotError}
use Rattle.slot_store.specs.declared.error.SlotError.TheVariants.{Disk, NoMemory}

-- what a read of a slot answers where its disk answered this
abbrev pub slot_error : DiskError → SlotError
slot_error Failed = Disk
slot_error NoMemoryOfDisk = NoMemory

-- slots 0 and 1 are areas 2 and 3
abbrev pub slot_area : ℕ → ℕ
slot_area slot = 2 + slot

-- whatever becomes of an area
abbrev pub Anything : List ℕ → List ℕ → Type 0
Anything old new = Unit {0}

-- so many bytes more were put
abbrev pub more_put : ℕ → Writing → Writing
more_put count w = record { area = w.area; count = w.count + count }

-- What reads give of the slot that is being written is what was put into it since it was begun.
abbrev pub HasPut : Option Writing → Option Areas → List ℕ → Type 0
HasPut None seen bytes = Unit {0}
HasPut (Some w) seen bytes = (w.count ≡ length bytes) × ForSome seen (λ s. s w.area ≡ bytes)

-- no other area changes than the slot that is being written, and none where none is
abbrev pub ChangesSlot : Option Writing → (Areas → Type 0) → (Areas → Type 0) → Type 0
ChangesSlot None old new = Within old new
ChangesSlot (Some w) old new = Follows (Changes w.area Anything) old new

-- what reads of the other areas give stays
abbrev pub StaysBeside : Option Writing → Option Areas → Option Areas → Type 0
StaysBeside None old new = new ≡ old
StaysBeside (Some w) old new = StaysElsewhere w.area old new

-- in each image the slot that was being written has these bytes
abbrev pub SlotHas : Option Writing → List ℕ → (Areas → Type 0) → Type 0
SlotHas None bytes images = Unit {0}
SlotHas (Some w) bytes images = Each images (λ c. c w.area ≡ bytes)
