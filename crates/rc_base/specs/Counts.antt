-- What it means that a count of faults rose. A count stands still at the end of its type.
use Rattle.std.specs.Prelude.{ℕ, ◌+◌, ◌-◌, ◌^◌, ◌≤◌, min}

abbrev pub Rose : ℕ → ℕ → Type 0
Rose before now = min (before + 1) (2 ^ 64 - 1) ≤ now

-- The count never falls, and where this was told it rose.
pub record Counted (before now : ℕ) (told : Type 0) : Type 0 where
  pub later : before ≤ now
  pub rose : told → Rose before now
