-- A read of as many bytes as there are behind a place.
use Rattle.std.proofs.Common.{◌≡◌, ◌∙◌, ℕ, ◌+◌, ◌-◌, ◌≤◌, List, [], ◌∷◌, ◌++◌, length, take, drop, refl, ap, ap₂, arith}
use Rattle.std.proofs.Math.Nat.{min-eq_left}
use Rattle.std.proofs.lemmas.List.{length-drop, append-nil}
use Rattle.disk_model.specs.Disk.{IsRead}

drop_whole : (xs : List ℕ) → drop (length xs) xs ≡ []
drop_whole [] = refl
drop_whole (x ∷ xs) = drop_whole xs

module _ (at count : ℕ) (bytes old new : List ℕ) (read : IsRead (drop at bytes) count old new) (within : at + length old ≤ length bytes) where
  -- it fills the buffer
  pub reads_all : count ≡ length old
  reads_all =
      let behind : length (drop at bytes) ≡ length bytes - at = length-drop at bytes in
      read.reach ∙ min-eq_left (omega (arith, behind, within))

  -- with these bytes
  pub reads_these : new ≡ take (length old) (drop at bytes)
  unfolding reads_all
  reads_these =
      read.filled ∙ ap₂ (λ (n : ℕ) (rest : List ℕ). take n (drop at bytes) ++ rest) reads_all (ap (λ (n : ℕ). drop n old) reads_all ∙ drop_whole old) ∙ append-nil (take (length old) (drop at bytes))
