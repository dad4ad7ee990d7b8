-- The members of a configuration of one.
use Rattle.std.proofs.Common.{◌≡◌, ap, ℕ, List, [], ◌∷◌, length, arith}
use Rattle.std.specs.List.{sum_by}
use Rattle.std.proofs.lemmas.List.Sorted.{length_permutation, sum_by-IsPermutation}
use Rattle.rc_base.specs.Members.{AreMembers}

one_of : (x : ℕ) (ys : List ℕ) → length ys ≡ length (x ∷ []) → sum_by (λ n. n) ys ≡ sum_by (λ n. n) (x ∷ []) → ys ≡ x ∷ []
one_of x [] counts sums = absurd (omega (arith, counts))
one_of x (y ∷ []) counts sums = let same : y ≡ x = omega (arith, sums) in ap (λ n. n ∷ []) same
one_of x (y ∷ z ∷ ys) counts sums = absurd (omega (arith, counts))

pub alone_members : (x : ℕ) (members : List ℕ) → AreMembers (x ∷ []) members → members ≡ x ∷ []
alone_members x members are = one_of x members (length_permutation (x ∷ []) members are.same) (sum_by-IsPermutation (λ n. n) (x ∷ []) members are.same)
