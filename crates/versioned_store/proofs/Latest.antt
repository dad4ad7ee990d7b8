-- On items that stand at versions: in which order they do, and what the last one up to a version has.
use Rattle.std.proofs.Common.{◌≡◌, ℕ, zero, suc, ◌<◌, ◌≤◌, List, [], ◌∷◌, ◌++◌, length, take, get_or, All, cond, leb, refl, arith}
use Rattle.std.specs.List.{AllByRecursion}
use Rattle.std.specs.List.Sorted.{IsPartitionedBy, IsNonDecreasingBy}
use Rattle.std.proofs.lemmas.Bool.{lt-leb, le-leb, leb-true}
use Rattle.versioned_store.specs.Chains.{latest}

module _ {A : Type 0} (at : A → ℕ) where
  -- each stands at or below those after it
  abbrev pub Rise : List A → Type 0
  Rise [] = Unit {0}
  Rise (item ∷ items) = AllByRecursion (λ (later : A). at item ≤ at later) items × Rise items

  abbrev pub Reach : ℕ → List A → Type 0
  Reach w items = AllByRecursion (λ (item : A). at item ≤ w) items

  pub reach_more : (a b : ℕ) (items : List A) → a ≤ b → Reach a items → Reach b items
  reach_more a b [] le h = tt
  reach_more a b (item ∷ items) le h = (omega (arith, h.0), reach_more a b items le h.1)

  pub reach_one : (w : ℕ) (items : List A) (item : A) → Reach w items → at item ≤ w → Reach w (items ++ item ∷ [])
  reach_one w [] item h le = (le, tt)
  reach_one w (x ∷ xs) item h le = (h.0, reach_one w xs item h.1 le)

  below_one : (a : ℕ) (items : List A) (item : A) → AllByRecursion (λ (later : A). a ≤ at later) items → a ≤ at item → AllByRecursion (λ (later : A). a ≤ at later) (items ++ item ∷ [])
  below_one a [] item h le = (le, tt)
  below_one a (x ∷ xs) item h le = (h.0, below_one a xs item h.1 le)

  pub rise_one : (items : List A) (item : A) → Rise items → Reach (at item) items → Rise (items ++ item ∷ [])
  rise_one [] item h r = (tt, tt)
  rise_one (x ∷ xs) item h r = (below_one (at x) xs item h.0 r.0, rise_one xs item h.1 r.1)

  pub all_take : (P : A → Type 0) (n : ℕ) (items : List A) → AllByRecursion P items → AllByRecursion P (take n items)
  all_take P zero items h = tt
  all_take P (suc n) [] h = tt
  all_take P (suc n) (item ∷ items) h = (h.0, all_take P n items h.1)

  pub rise_take : (n : ℕ) (items : List A) → Rise items → Rise (take n items)
  rise_take zero items h = tt
  rise_take (suc n) [] h = tt
  rise_take (suc n) (item ∷ items) h = (all_take (λ (later : A). at item ≤ at later) n items h.0, rise_take n items h.1)

  -- ---- by places, and one after another

  all_at : (P : A → Type 0) (items : List A) → AllByRecursion P items → (j : ℕ) (d : A) → j < length items → P (get_or items j d)
  all_at P [] h j d lt = absurd (omega (arith, lt))
  all_at P (item ∷ items) h zero d lt = h.0
  all_at P (item ∷ items) h (suc j) d lt = all_at P items h.1 j d (omega (arith, lt))

  rising_at : (items : List A) → Rise items → (i j : ℕ) (d : A) → i ≤ j → j < length items → at (get_or items i d) ≤ at (get_or items j d)
  rising_at [] h i j d le lt = absurd (omega (arith, lt))
  rising_at (item ∷ items) h zero zero d le lt = omega arith
  rising_at (item ∷ items) h zero (suc j) d le lt = all_at (λ (later : A). at item ≤ at later) items h.0 j d (omega (arith, lt))
  rising_at (item ∷ items) h (suc i) zero d le lt = absurd (omega (arith, le))
  rising_at (item ∷ items) h (suc i) (suc j) d le lt = rising_at items h.1 i j d (omega (arith, le)) (omega (arith, lt))

  pub all_from : (P : A → Type 0) (items : List A) → All P items → AllByRecursion P items
  all_from P [] h = tt
  all_from P (item ∷ items) h = (h 0 item (omega arith), all_from P items (λ k d lt. h (suc k) d (omega (arith, lt))))

  pub all_by_place : (P : A → Type 0) (items : List A) → AllByRecursion P items → All P items
  all_by_place P items h k d lt = all_at P items h k d lt

  pub rise_from : (items : List A) → IsNonDecreasingBy at items → Rise items
  rise_from [] h = tt
  rise_from (item ∷ items) h =
      (all_from (λ (later : A). at item ≤ at later) items (λ k d lt. h 0 (suc k) d (omega arith) (omega (arith, lt))), rise_from items (λ i j d le lt. h (suc i) (suc j) d (omega (arith, le)) (omega (arith, lt))))

  pub rise_by_place : (items : List A) → Rise items → IsNonDecreasingBy at items
  rise_by_place items h i j d le lt = rising_at items h i j d le lt

  -- what is at or below a version comes before what isn't
  pub rise_parted : (w : ℕ) (items : List A) → IsNonDecreasingBy at items → IsPartitionedBy (λ (item : A). leb (at item) w) items
  rise_parted w items h i j d le lt passes = le-leb (at (get_or items i d)) w (omega (arith, h i j d le lt, leb-true (at (get_or items j d)) w passes))

  -- ---- what the last one up to a version has

  module _ {X : Type 0} (has : A → X) where
    pub latest_above : (w : ℕ) (before : X) (items : List A) (item : A) → w < at item → latest at has w before (items ++ item ∷ []) ≡ latest at has w before items
    latest_above w before [] item lt = rw (lt-leb (at item) w lt) refl
    latest_above w before (x ∷ xs) item lt = latest_above w (cond (leb (at x) w) (has x) before) xs item lt

    pub latest_within : (w : ℕ) (before : X) (items : List A) (item : A) → at item ≤ w → latest at has w before (items ++ item ∷ []) ≡ has item
    latest_within w before [] item le = rw (le-leb (at item) w le) refl
    latest_within w before (x ∷ xs) item le = latest_within w (cond (leb (at x) w) (has x) before) xs item le

    -- from where all of them reach on
    pub latest_rests : (m w : ℕ) (before : X) (items : List A) → Reach m items → m ≤ w → latest at has w before items ≡ latest at has m before items
    latest_rests m w before [] h le = refl
    latest_rests m w before (x ∷ xs) h le =
        let within : at x ≤ w = omega (arith, h.0, le) in
        rw (le-leb (at x) w within, le-leb (at x) m h.0) (latest_rests m w (has x) xs h.1 le)

    -- where all stand above the version
    pub latest_none : (w : ℕ) (before : X) (items : List A) → ((k : ℕ) (d : A) → k < length items → w < at (get_or items k d)) → latest at has w before items ≡ before
    latest_none w before [] high = refl
    latest_none w before (x ∷ xs) high = rw (lt-leb (at x) w (high 0 x (omega arith))) (latest_none w before xs (λ k d lt. high (suc k) d (omega (arith, lt))))

    pub latest_point : (w : ℕ) (before : X) (items : List A) (i : ℕ) (d : A) → i < length items → ((k : ℕ) (e : A) → k ≤ i → at (get_or items k e) ≤ w) → ((k : ℕ) (e : A) → i < k → k < length items → w < at (get_or items k e))
        → latest at has w before items ≡ has (get_or items i d)
    latest_point w before [] i d lt low high = absurd (omega (arith, lt))
    latest_point w before (x ∷ xs) zero d lt low high = rw (le-leb (at x) w (low 0 x (omega arith))) (latest_none w (has x) xs (λ k e less. high (suc k) e (omega arith) (omega (arith, less))))
    latest_point w before (x ∷ xs) (suc i) d lt low high =
        rw (le-leb (at x) w (low 0 x (omega arith)))
        (latest_point w (has x) xs i d (omega (arith, lt)) (λ k e le. low (suc k) e (omega (arith, le))) (λ k e less within. high (suc k) e (omega (arith, less)) (omega (arith, within))))
