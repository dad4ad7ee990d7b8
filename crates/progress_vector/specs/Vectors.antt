-- The epochs of a log's positions, as a progress vector tells them.
use Rattle.std.specs.Prelude.{◌≡◌, ℕ, ◌+◌, ◌<◌, ◌≤◌, ◌⊎◌, List, [], ◌∷◌, ◌++◌, nat_le, if◌then◌else◌}
use Rattle.std.specs.List.{AllByRecursion, filter}
use Rattle.rc_base.specs.declared.ids.Epoch.{Epoch}
use Rattle.rc_base.specs.declared.ids.Lsn.{Lsn}
use Rattle.progress_vector.specs.declared.vector.Vector.{Vector}

-- an epoch and the position at which it starts
abbrev pub Entry : Type 0
Entry = Epoch × Lsn

-- what stands before every entry: position 0 has epoch 0.0
abbrev pub origin : Entry
origin = (record { loss = 0; number = 0 }, record { 0 = 0 })

-- the last of the entries that starts at or below the position, or the one given where none does
abbrev pub last_at : Entry → List Entry → ℕ → Entry
last_at before [] lsn = before
last_at before (entry ∷ entries) lsn = last_at (if nat_le entry.1.0 lsn then entry else before) entries lsn

-- the epoch at a position
abbrev pub epoch_at : List Entry → ℕ → Epoch
epoch_at entries lsn = (last_at origin entries lsn).0

-- an epoch is below another: by losses, and then by number
abbrev pub IsEpochBelow : Epoch → Epoch → Type 0
IsEpochBelow a b = (a.loss < b.loss) ⊎ ((a.loss ≡ b.loss) × (a.number < b.number))

-- an entry is below another, by epoch and by position
abbrev pub IsEntryBelow : Entry → Entry → Type 0
IsEntryBelow a b = IsEpochBelow a.0 b.0 × (a.1.0 < b.1.0)

-- each entry is below those behind it
abbrev pub Rise : List Entry → Type 0
Rise [] = Unit {0}
Rise (entry ∷ entries) = AllByRecursion (IsEntryBelow entry) entries × Rise entries

-- the vector's form: epochs and positions rise, and each epoch starts at 1 or above and not above the last position
pub record HasForm (vector : Vector) : Type 0 where
  pub rise : Rise vector.entries
  pub within : AllByRecursion (λ entry. (1 ≤ entry.1.0) × (entry.1.0 ≤ vector.last.0)) vector.entries

-- the vector of the log's beginning to a position
abbrev pub cut : Vector → Lsn → Vector
cut vector lsn = record { base = vector.base; entries = filter (λ entry. nat_le entry.1.0 lsn.0) vector.entries; last = lsn }

-- the vector of the log that is kept from a position on
abbrev pub trimmed : Vector → Lsn → Vector
trimmed vector lsn = record { base = lsn; entries = vector.entries; last = vector.last }

-- the vector after one more record of the last epoch
abbrev pub advanced : Vector → Vector
advanced vector = record { base = vector.base; entries = vector.entries; last = record { 0 = vector.last.0 + 1 } }

-- the vector after one more record, with which the epoch starts
abbrev pub started : Vector → Epoch → Vector
started vector epoch = let next : Lsn = record { 0 = vector.last.0 + 1 } in record { base = vector.base; entries = vector.entries ++ (epoch, next) ∷ []; last = next }
