-- On versions that rise, and how many of them are at or below one.
use Rattle.std.proofs.Common.{◌≡◌, ℕ, zero, suc, ◌-◌, ◌<◌, ◌≤◌, min, List, [], ◌∷◌, ◌++◌, length, take, drop, get_or, All, Bool, cond, leb, refl, sym, ap, subst, inl, inr, arith}
use Rattle.std.specs.List.{AllByRecursion}
use Rattle.std.specs.List.Sorted.{IsPartitionedBy, IsNonDecreasingBy}
use Rattle.std.proofs.lemmas.Bool.{cases_lt, lt-leb, le-leb, leb-true}
use Rattle.rc_base.specs.declared.ids.Lsn.{Lsn}
use Rattle.reliable_queue.specs.Queues.{up_to}

-- each version is at or below those behind it
abbrev pub Rise : List Lsn → Type 0
Rise [] = Unit {0}
Rise (at ∷ ats) = AllByRecursion (λ (later : Lsn). at.0 ≤ later.0) ats × Rise ats

abbrev pub Reach : ℕ → List Lsn → Type 0
Reach w ats = AllByRecursion (λ (at : Lsn). at.0 ≤ w) ats

-- ---- how many there are

pub up_to_most : (w : ℕ) (ats : List Lsn) → up_to w ats ≤ length ats
up_to_most w [] = omega arith
up_to_most w (at ∷ ats) =
    elim (cases_lt w at.0) [
      | inl lt ↦ rw (lt-leb at.0 w lt) (omega arith)
      | inr ge ↦ rw (le-leb at.0 w ge) (omega (arith, up_to_most w ats))
    ]

-- all of them, where they reach no further
pub all_to : (w : ℕ) (ats : List Lsn) → Reach w ats → up_to w ats ≡ length ats
all_to w [] h = refl
all_to w (at ∷ ats) h = rw (le-leb at.0 w h.0) (ap suc (all_to w ats h.1))

-- a greater version has at least as many
pub up_to_rises : (w x : ℕ) (ats : List Lsn) → w ≤ x → up_to w ats ≤ up_to x ats
up_to_rises w x [] le = omega arith
up_to_rises w x (at ∷ ats) le =
    elim (cases_lt w at.0) [
      | inl lt ↦ rw (lt-leb at.0 w lt) (omega arith)
      | inr ge ↦ let above : at.0 ≤ x = omega arith in rw (le-leb at.0 w ge, le-leb at.0 x above) (omega (arith, up_to_rises w x ats le))
    ]

-- ---- one more

pub one_above : (w : ℕ) (ats : List Lsn) (v : Lsn) → w < v.0 → up_to w (ats ++ v ∷ []) ≡ up_to w ats
one_above w [] v lt = rw (lt-leb v.0 w lt) refl
one_above w (at ∷ ats) v lt = ap (λ (n : ℕ). cond (leb at.0 w) (suc n) zero) (one_above w ats v lt)

pub one_within : (w : ℕ) (ats : List Lsn) (v : Lsn) → Reach w ats → v.0 ≤ w → up_to w (ats ++ v ∷ []) ≡ suc (length ats)
one_within w [] v h le = rw (le-leb v.0 w le) refl
one_within w (at ∷ ats) v h le = rw (le-leb at.0 w h.0) (ap suc (one_within w ats v h.1 le))

pub reach_more : (a b : ℕ) (ats : List Lsn) → a ≤ b → Reach a ats → Reach b ats
reach_more a b [] le h = tt
reach_more a b (at ∷ ats) le h = (omega (arith, h.0), reach_more a b ats le h.1)

pub reach_one : (w : ℕ) (ats : List Lsn) (v : Lsn) → Reach w ats → v.0 ≤ w → Reach w (ats ++ v ∷ [])
reach_one w [] v h le = (le, tt)
reach_one w (at ∷ ats) v h le = (h.0, reach_one w ats v h.1 le)

below_one : (a : Lsn) (ats : List Lsn) (v : Lsn) → AllByRecursion (λ (later : Lsn). a.0 ≤ later.0) ats → a.0 ≤ v.0 → AllByRecursion (λ (later : Lsn). a.0 ≤ later.0) (ats ++ v ∷ [])
below_one a [] v h le = (le, tt)
below_one a (at ∷ ats) v h le = (h.0, below_one a ats v h.1 le)

pub rise_one : (ats : List Lsn) (v : Lsn) → Rise ats → Reach v.0 ats → Rise (ats ++ v ∷ [])
rise_one [] v h r = (tt, tt)
rise_one (at ∷ ats) v h r = (below_one at ats v h.0 r.0, rise_one ats v h.1 r.1)

-- ---- the first few

pub all_take : (P : Lsn → Type 0) (n : ℕ) (ats : List Lsn) → AllByRecursion P ats → AllByRecursion P (take n ats)
all_take P zero ats h = tt
all_take P (suc n) [] h = tt
all_take P (suc n) (at ∷ ats) h = (h.0, all_take P n ats h.1)

pub rise_take : (n : ℕ) (ats : List Lsn) → Rise ats → Rise (take n ats)
rise_take zero ats h = tt
rise_take (suc n) [] h = tt
rise_take (suc n) (at ∷ ats) h = (all_take (λ (later : Lsn). at.0 ≤ later.0) n ats h.0, rise_take n ats h.1)

-- those up to a version reach no further
pub reach_take : (v : ℕ) (ats : List Lsn) → Reach v (take (up_to v ats) ats)
reach_take v [] = tt
reach_take v (at ∷ ats) =
    elim (cases_lt v at.0) [
      | inl lt ↦ subst (λ (b : Bool). Reach v (take (cond b (suc (up_to v ats)) zero) (at ∷ ats))) (sym (lt-leb at.0 v lt)) tt
      | inr ge ↦ subst (λ (b : Bool). Reach v (take (cond b (suc (up_to v ats)) zero) (at ∷ ats))) (sym (le-leb at.0 v ge)) (ge, reach_take v ats)
    ]

-- of those up to a version, another one has as many as the lesser of the two
pub up_to_take : (w v : ℕ) (ats : List Lsn) → up_to w (take (up_to v ats) ats) ≡ up_to (min w v) ats
up_to_take w v [] = refl
up_to_take w v (at ∷ ats) =
    elim (cases_lt v at.0) [
      | inl lt ↦ let above : min w v < at.0 = omega arith in rw (lt-leb at.0 v lt, lt-leb at.0 (min w v) above) refl
      | inr ge ↦ elim (cases_lt w at.0) [
        | inl lt ↦ let above : min w v < at.0 = omega arith in rw (le-leb at.0 v ge, lt-leb at.0 w lt, lt-leb at.0 (min w v) above) refl
        | inr le ↦ let within : at.0 ≤ min w v = omega arith in rw (le-leb at.0 v ge, le-leb at.0 w le, le-leb at.0 (min w v) within) (ap suc (up_to_take w v ats))
      ]
    ]

-- ---- without the first few

pub all_drop : (P : Lsn → Type 0) (n : ℕ) (ats : List Lsn) → AllByRecursion P ats → AllByRecursion P (drop n ats)
all_drop P zero ats h = h
all_drop P (suc n) [] h = tt
all_drop P (suc n) (at ∷ ats) h = all_drop P n ats h.1

pub rise_drop : (n : ℕ) (ats : List Lsn) → Rise ats → Rise (drop n ats)
rise_drop zero ats h = h
rise_drop (suc n) [] h = tt
rise_drop (suc n) (at ∷ ats) h = rise_drop n ats h.1

pub up_to_drop : (w k : ℕ) (ats : List Lsn) → k ≤ up_to w ats → up_to w (drop k ats) ≡ up_to w ats - k
up_to_drop w zero ats le = omega arith
up_to_drop w (suc k) [] le = omega arith
up_to_drop w (suc k) (at ∷ ats) le =
    elim (cases_lt w at.0) [
      | inl lt ↦ absurd (let no_more : suc k ≤ 0 = subst (λ (b : Bool). suc k ≤ cond b (suc (up_to w ats)) zero) (lt-leb at.0 w lt) le in omega (arith, no_more))
      | inr ge ↦
          let few : suc k ≤ suc (up_to w ats) = subst (λ (b : Bool). suc k ≤ cond b (suc (up_to w ats)) zero) (le-leb at.0 w ge) le in
          let fewer : k ≤ up_to w ats = omega (arith, few) in
          rw (le-leb at.0 w ge) (omega (arith, up_to_drop w k ats fewer))
    ]

-- nothing at or below a version is left without those up to it
pub none_left : (w v : ℕ) (ats : List Lsn) → w ≤ v → up_to w (drop (up_to v ats) ats) ≡ 0
none_left w v [] le = refl
none_left w v (at ∷ ats) le =
    elim (cases_lt v at.0) [
      | inl lt ↦ let above : w < at.0 = omega arith in rw (lt-leb at.0 v lt, lt-leb at.0 w above) refl
      | inr ge ↦ rw (le-leb at.0 v ge) (none_left w v ats le)
    ]

-- ---- found by a search

all_at : (P : Lsn → Type 0) (ats : List Lsn) → AllByRecursion P ats → (j : ℕ) (d : Lsn) → j < length ats → P (get_or ats j d)
all_at P [] h j d lt = absurd (omega (arith, lt))
all_at P (at ∷ ats) h zero d lt = h.0
all_at P (at ∷ ats) h (suc j) d lt = all_at P ats h.1 j d (omega (arith, lt))

rising_at : (ats : List Lsn) → Rise ats → (i j : ℕ) (d : Lsn) → i ≤ j → j < length ats → (get_or ats i d).0 ≤ (get_or ats j d).0
rising_at [] h i j d le lt = absurd (omega (arith, lt))
rising_at (at ∷ ats) h zero zero d le lt = omega arith
rising_at (at ∷ ats) h zero (suc j) d le lt = all_at (λ (later : Lsn). at.0 ≤ later.0) ats h.0 j d (omega (arith, lt))
rising_at (at ∷ ats) h (suc i) zero d le lt = absurd (omega (arith, le))
rising_at (at ∷ ats) h (suc i) (suc j) d le lt = rising_at ats h.1 i j d (omega (arith, le)) (omega (arith, lt))

-- what is at or below a version comes before what isn't
pub rise_parted : (w : ℕ) (ats : List Lsn) → Rise ats → IsPartitionedBy (λ (at : Lsn). leb at.0 w) ats
rise_parted w ats h i j d le lt passes = le-leb (get_or ats i d).0 w (omega (arith, rising_at ats h i j d le lt, leb-true (get_or ats j d).0 w passes))

-- the place where they part is how many there are
pub up_to_point : (w : ℕ) (ats : List Lsn) (i : ℕ) → i ≤ length ats → ((k : ℕ) (d : Lsn) → k < i → (get_or ats k d).0 ≤ w) → ((d : Lsn) → i < length ats → w < (get_or ats i d).0) → up_to w ats ≡ i
up_to_point w [] zero most low high = refl
up_to_point w [] (suc i) most low high = absurd (omega (arith, most))
up_to_point w (at ∷ ats) zero most low high = rw (lt-leb at.0 w (high at (omega arith))) refl
up_to_point w (at ∷ ats) (suc i) most low high =
    rw (le-leb at.0 w (low 0 at (omega arith)))
    (ap suc (up_to_point w ats i (omega (arith, most)) (λ k d lt. low (suc k) d (omega (arith, lt))) (λ d lt. high d (omega (arith, lt)))))

-- ---- by places, and one after another

pub all_from : (P : Lsn → Type 0) (ats : List Lsn) → All P ats → AllByRecursion P ats
all_from P [] h = tt
all_from P (at ∷ ats) h = (h 0 at (omega arith), all_from P ats (λ k d lt. h (suc k) d (omega (arith, lt))))

pub all_by_place : (P : Lsn → Type 0) (ats : List Lsn) → AllByRecursion P ats → All P ats
all_by_place P ats h k d lt = all_at P ats h k d lt

pub rise_from : (ats : List Lsn) → IsNonDecreasingBy (λ (at : Lsn). at.0) ats → Rise ats
rise_from [] h = tt
rise_from (at ∷ ats) h =
    (all_from (λ (later : Lsn). at.0 ≤ later.0) ats (λ k d lt. h 0 (suc k) d (omega arith) (omega (arith, lt))), rise_from ats (λ i j d le lt. h (suc i) (suc j) d (omega (arith, le)) (omega (arith, lt))))

pub rise_by_place : (ats : List Lsn) → Rise ats → IsNonDecreasingBy (λ (at : Lsn). at.0) ats
rise_by_place ats h i j d le lt = rising_at ats h i j d le lt
