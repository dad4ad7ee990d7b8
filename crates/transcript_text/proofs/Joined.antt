-- Words with a separator before each, and between each two.
use Rattle.std.proofs.Common.{◌≡◌, ℕ, List, [], ◌∷◌, ◌++◌, flat_map, ap}
use Rattle.std.proofs.lemmas.List.{append-nil}
use Rattle.std.specs.List.{join_with_byte}

-- between each two is before each but the first
pub join-flat_map : (byte : ℕ) (word : List ℕ) (words : List (List ℕ)) → word ++ flat_map (λ w. byte ∷ w) words ≡ join_with_byte byte (word ∷ words)
join-flat_map byte word [] = append-nil word
join-flat_map byte word (next ∷ words) = ap (λ rest. word ++ byte ∷ rest) (join-flat_map byte next words)
