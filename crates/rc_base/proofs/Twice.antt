-- On the first of a list that stands in it twice.
use Rattle.std.proofs.Common.{◌≡◌, ◌∙◌, ℕ, List, [], ◌∷◌, Bool, true, false, cond, Option, Some, None, refl, arith, eqb}
use Rattle.std.specs.List.{list_any, IsDistinct, AllByRecursion}
use Rattle.std.specs.List.Sorted.{IsPermutation, IsNonDecreasing, IsStrictlyIncreasing}
use Rattle.std.proofs.lemmas.Bool.{or_parts}
use Rattle.std.proofs.lemmas.Bool.Decides.{nat_tests}
use Rattle.std.proofs.lemmas.Map.Keys.{IsStrictlyIncreasing-from_distinct, IsDistinct-IsPermutation}
use Rattle.rc_base.specs.Members.{first_twice}

eqb_flip : (a b : ℕ) → eqb b a ≡ eqb a b
eqb_flip a b = grind (arith, nat_tests)

none_equal : (id : ℕ) (ids : List ℕ) → list_any (λ other. eqb other id) ids ≡ false → AllByRecursion (λ other. eqb id other ≡ false) ids
none_equal id [] h = tt
none_equal id (x ∷ xs) h = let s = or_parts (eqb x id) (list_any (λ other. eqb other id) xs) h in (eqb_flip x id ∙ s.0, none_equal id xs s.1)

step : (b : Bool) (x : ℕ) (r : Option ℕ) → cond b (Some x) r ≡ None → (b ≡ false) × (r ≡ None)
step true x r h = absurd (cc)
step false x r h = (refl, h)

-- where there is none, no two are equal
pub distinct_from_none : (ids : List ℕ) → first_twice ids ≡ None → IsDistinct eqb ids
unfolding IsDistinct
distinct_from_none [] h = tt
distinct_from_none (x ∷ xs) h = let s = step _ x (first_twice xs) h in (none_equal x xs s.0, distinct_from_none xs s.1)

-- the same replicas in order rise, where none stands twice
pub rising_from_none : (ids sorted : List ℕ) → first_twice ids ≡ None → IsPermutation ids sorted → IsNonDecreasing sorted → IsStrictlyIncreasing sorted
rising_from_none ids sorted h p o = IsStrictlyIncreasing-from_distinct sorted o (IsDistinct-IsPermutation eqb (λ x y. eqb_flip y x) ids sorted p (distinct_from_none ids h))
