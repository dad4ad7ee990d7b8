-- What a reader takes from its source in one piece.
use Rattle.std.specs.Prelude.{◌≡◌, ℕ, List, [], ◌++◌, take, drop, Option, Some}

-- This many bytes went from the front of the source to the end of what is held: none only at the end.
pub record Takes (count : ℕ) (bytes : List ℕ) (left' : Option (List ℕ)) (old new : List ℕ) : Type 0 where
  pub held : new ≡ old ++ take count bytes
  pub left : left' ≡ Some (drop count bytes)
  pub end : count ≡ 0 → bytes ≡ []
