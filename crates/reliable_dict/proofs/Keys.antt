-- On the keys of pairs, by place.
use Rattle.std.proofs.Common.{◌≡◌, ℕ, zero, suc, ◌<◌, List, [], ◌∷◌, length, get_or, refl, arith}
use Rattle.std.specs.Map.{keys_of}

pub key_at : {X : Type 0} (pairs : List (List ℕ × X)) (k : ℕ) (d : List ℕ) (e : List ℕ × X) → k < length pairs → get_or (keys_of pairs) k d ≡ (get_or pairs k e).0
key_at [] k d e lt = absurd (omega (arith, lt))
key_at (pair ∷ pairs) zero d e lt = refl
key_at (pair ∷ pairs) (suc k) d e lt = key_at pairs k d e (omega (arith, lt))
