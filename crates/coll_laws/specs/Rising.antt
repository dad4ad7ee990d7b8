-- Entries in the order of their keys, each key once, as operations make them.
use Rattle.std.specs.Prelude.{ℕ, List}
use Rattle.std.specs.Ordering.{nat_cmp}
use Rattle.std.specs.Cmp.Lexicographic.{slice_cmp}
use Rattle.std.specs.Map.{keys_of}
use Rattle.std.specs.List.Sorted.{IsStrictlySortedBy}

abbrev pub AreRising : {X : Type 0} → List (List ℕ × X) → Type 0
AreRising entries = IsStrictlySortedBy (slice_cmp nat_cmp) (keys_of entries)
