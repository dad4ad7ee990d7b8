-- The members of a configuration, and the first of a list of replicas that stands in it twice.
use Rattle.std.specs.Prelude.{◌==◌, ℕ, List, [], ◌∷◌, Option, Some, None, if◌then◌else◌, IsPermutation}
use Rattle.std.specs.List.{list_any}
use Rattle.std.specs.List.Sorted.{IsStrictlyIncreasing}

-- the first that stands again behind its place
abbrev pub first_twice : List ℕ → Option ℕ
first_twice [] = None
first_twice (id ∷ ids) = if list_any (λ other. other == id) ids then Some id else first_twice ids

-- the same replicas, by rising number, each once
pub record AreMembers (ids members : List ℕ) : Type 0 where
  pub rising : IsStrictlyIncreasing members
  pub same : IsPermutation ids members
