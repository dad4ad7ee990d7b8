-- Entries by rising number: what is written over an entry that is there, and what stands there afterwards.
use Rattle.std.proofs.Common.{◌≡◌, ◌∙◌, ◌≢◌, ℕ, List, [], ◌∷◌, Bool, true, false, cond, Some, None, refl, sym, ap}
use Rattle.std.specs.List.{AllByRecursion}
use Rattle.std.specs.List.Sorted.{IsStrictlySortedBy}
use Rattle.std.specs.Cmp.{nat_cmp_total, eq_by_cmp_equiv, tied_itself, ranked, Equal-is}
use Rattle.std.specs.Ordering.{nat_cmp, match_ordering, ordering_reverse, is_eq}
use Rattle.std.specs.declared.cmp.Ordering.{Ordering}
use Rattle.std.specs.declared.cmp.Ordering.TheVariants.{Less, Equal, Greater}
use Rattle.std.specs.Map.{lookup, keys_of, set_value, remove_entry}
use Rattle.std.specs.BTreeMap.{insert_entry, is_at}
use Rattle.std.proofs.lemmas.Bool.{cond-true, cond-false}
use Rattle.std.proofs.lemmas.Option.{none-some}
use Rattle.std.proofs.lemmas.Map.{lookup-none, lookup-remove_entry}
use Rattle.std.proofs.lemmas.Map.Keys.{IsDistinct-from_sorted, sorted_head, sorted_tail}
use Rattle.std.proofs.lemmas.Map.Entries.{none_below_head}
use Rattle.events.proofs.Lists.{AllByRecursion-weaker}

abbrev pub AreRising : {X : Type 0} → List (ℕ × X) → Type 0
AreRising entries = IsStrictlySortedBy nat_cmp (keys_of entries)

-- what is written over an entry that is there takes its place
pub insert_entry-there : {X : Type 0} (n : ℕ) (w v : X) (es : List (ℕ × X)) → IsStrictlySortedBy nat_cmp (keys_of es) → lookup (is_at (nat_cmp n)) es ≡ Some v
    → insert_entry nat_cmp es n w ≡ set_value (is_at (nat_cmp n)) es w
unfolding IsStrictlySortedBy
insert_entry-there n w v [] sorted there = absurd (none-some v there)
insert_entry-there {X} n w v (e ∷ es) sorted there = by (λ later. insert_entry-there n w v es sorted.1 later) (nat_cmp n e.0) refl
  where
    by : (lookup (is_at (nat_cmp n)) es ≡ Some v → insert_entry nat_cmp es n w ≡ set_value (is_at (nat_cmp n)) es w)
        → (o : Ordering) → nat_cmp n e.0 ≡ o → insert_entry nat_cmp (e ∷ es) n w ≡ set_value (is_at (nat_cmp n)) (e ∷ es) w
    by rest Less at = absurd (none-some v (sym (lookup-none (is_at (nat_cmp n)) (e ∷ es) (none_below_head nat_cmp_total n e es sorted at)) ∙ there))
    by rest Equal at = rw at refl
    by rest Greater at = rw at (ap (λ (others : List (ℕ × X)). e ∷ others) (rest (rw at at there)))

pub entry_there : {X : Type 0} (n : ℕ) (w v : X) (es : List (ℕ × X)) → IsStrictlySortedBy nat_cmp (keys_of es) → Some v ≡ lookup (is_at (nat_cmp n)) es
    → set_value (is_at (nat_cmp n)) es w ≡ insert_entry nat_cmp es n w
entry_there n w v es sorted there = sym (insert_entry-there n w v es sorted (sym there))

-- ---- what a look-up finds after a change

at_itself : (k : ℕ) → is_at (nat_cmp k) k ≡ true
at_itself k = ap is_eq (tied_itself nat_cmp_total k)

pub equal_same : (a b : ℕ) → nat_cmp a b ≡ Equal → a ≡ b
equal_same a b e = ranked a b Equal (sym e)

at_same : (a b : ℕ) → is_at (nat_cmp a) b ≡ true → a ≡ b
at_same a b e = equal_same a b ((Equal-is (nat_cmp a b)).0 e)

at_apart : (a b : ℕ) → a ≢ b → is_at (nat_cmp a) b ≡ false
at_apart a b apart = by (is_at (nat_cmp a) b) refl
  where
    by : (q : Bool) → is_at (nat_cmp a) b ≡ q → is_at (nat_cmp a) b ≡ false
    by true e = absurd (apart (at_same a b e))
    by false e = e

module _ {X : Type 0} where
  pub look_at_inserted : (k : ℕ) (v : X) (es : List (ℕ × X)) → lookup (is_at (nat_cmp k)) (insert_entry nat_cmp es k v) ≡ Some v
  look_at_inserted k v [] = cond-true (is_at (nat_cmp k) k) (Some v) None (at_itself k)
  look_at_inserted k v (e ∷ es) = by (nat_cmp k e.0) refl (look_at_inserted k v es)
    where
      by : (r : Ordering) → nat_cmp k e.0 ≡ r → lookup (is_at (nat_cmp k)) (insert_entry nat_cmp es k v) ≡ Some v → lookup (is_at (nat_cmp k)) (match_ordering r ((k, v) ∷ e ∷ es) ((e.0, v) ∷ es) (e ∷ insert_entry nat_cmp es k v)) ≡ Some v
      by Less p later = cond-true (is_at (nat_cmp k) k) (Some v) (lookup (is_at (nat_cmp k)) (e ∷ es)) (at_itself k)
      by Equal p later = cond-true (is_at (nat_cmp k) e.0) (Some v) (lookup (is_at (nat_cmp k)) es) (ap is_eq p)
      by Greater p later = cond-false (is_at (nat_cmp k) e.0) (Some e.1) (lookup (is_at (nat_cmp k)) (insert_entry nat_cmp es k v)) (ap is_eq p) ∙ later

  pub look_beside_inserted : (q k : ℕ) (v : X) (es : List (ℕ × X)) → q ≢ k → lookup (is_at (nat_cmp q)) (insert_entry nat_cmp es k v) ≡ lookup (is_at (nat_cmp q)) es
  look_beside_inserted q k v [] apart = cond-false (is_at (nat_cmp q) k) (Some v) None (at_apart q k apart)
  look_beside_inserted q k v (e ∷ es) apart = by (nat_cmp k e.0) refl (look_beside_inserted q k v es apart)
    where
      by : (r : Ordering) → nat_cmp k e.0 ≡ r → lookup (is_at (nat_cmp q)) (insert_entry nat_cmp es k v) ≡ lookup (is_at (nat_cmp q)) es → lookup (is_at (nat_cmp q)) (match_ordering r ((k, v) ∷ e ∷ es) ((e.0, v) ∷ es) (e ∷ insert_entry nat_cmp es k v)) ≡ lookup (is_at (nat_cmp q)) (e ∷ es)
      by Less p later = cond-false (is_at (nat_cmp q) k) (Some v) (lookup (is_at (nat_cmp q)) (e ∷ es)) (at_apart q k apart)
      by Equal p later =
          let off : is_at (nat_cmp q) e.0 ≡ false = at_apart q e.0 (λ same. apart (same ∙ sym (equal_same k e.0 p))) in
          cond-false (is_at (nat_cmp q) e.0) (Some v) (lookup (is_at (nat_cmp q)) es) off ∙ sym (cond-false (is_at (nat_cmp q) e.0) (Some e.1) (lookup (is_at (nat_cmp q)) es) off)
      by Greater p later = ap (cond (is_at (nat_cmp q) e.0) (Some e.1)) later

  pub look_at_removed : (k : ℕ) (es : List (ℕ × X)) → AreRising es → lookup (is_at (nat_cmp k)) (remove_entry (is_at (nat_cmp k)) es) ≡ None
  look_at_removed k es rising =
      lookup-remove_entry (eq_by_cmp_equiv nat_cmp_total) (is_at (nat_cmp k)) (λ x y e. ap (λ (z : ℕ). is_at (nat_cmp z) y) (at_same k x e)) k es
      (IsDistinct-from_sorted nat_cmp (keys_of es) rising) ∙ cond-true (is_at (nat_cmp k) k) None (lookup (is_at (nat_cmp k)) es) (at_itself k)

  pub look_beside_removed : (q k : ℕ) (es : List (ℕ × X)) → q ≢ k → lookup (is_at (nat_cmp q)) (remove_entry (is_at (nat_cmp k)) es) ≡ lookup (is_at (nat_cmp q)) es
  look_beside_removed q k [] apart = refl
  look_beside_removed q k (e ∷ es) apart = by (is_at (nat_cmp k) e.0) refl (look_beside_removed q k es apart)
    where
      by : (b : Bool) → is_at (nat_cmp k) e.0 ≡ b → lookup (is_at (nat_cmp q)) (remove_entry (is_at (nat_cmp k)) es) ≡ lookup (is_at (nat_cmp q)) es → lookup (is_at (nat_cmp q)) (cond b es (e ∷ remove_entry (is_at (nat_cmp k)) es)) ≡ lookup (is_at (nat_cmp q)) (e ∷ es)
      by true p later = sym (cond-false (is_at (nat_cmp q) e.0) (Some e.1) (lookup (is_at (nat_cmp q)) es) (at_apart q e.0 (λ same. apart (same ∙ sym (at_same k e.0 p)))))
      by false p later = ap (cond (is_at (nat_cmp q) e.0) (Some e.1)) later

-- ---- in order

pub rising-nil : (X : Type 0) → AreRising {X = X} []
unfolding IsStrictlySortedBy
rising-nil X = tt

rising-cons : {X : Type 0} (k : ℕ) (v : X) (es : List (ℕ × X)) → AllByRecursion (λ y. nat_cmp k y ≡ Less) (keys_of es) → AreRising es → AreRising ((k, v) ∷ es)
unfolding IsStrictlySortedBy
rising-cons k v es below rising = (below, rising)

module _ {X : Type 0} where
  rising_below : (k : ℕ) (e : ℕ × X) (es : List (ℕ × X)) → nat_cmp k e.0 ≡ Less → AreRising (e ∷ es) → AllByRecursion (λ y. nat_cmp k y ≡ Less) (keys_of (e ∷ es))
  rising_below k e es p rising =
      (p, AllByRecursion-weaker (λ y. nat_cmp e.0 y ≡ Less) (λ y. nat_cmp k y ≡ Less) (keys_of es) (λ y less. nat_cmp_total.trans k e.0 y p less) (sorted_head nat_cmp e.0 (keys_of es) rising))

  below_inserted : (x k : ℕ) (v : X) (es : List (ℕ × X)) → nat_cmp x k ≡ Less → AllByRecursion (λ y. nat_cmp x y ≡ Less) (keys_of es) → AllByRecursion (λ y. nat_cmp x y ≡ Less) (keys_of (insert_entry nat_cmp es k v))
  below_inserted x k v [] p h = (p, tt)
  below_inserted x k v (e ∷ es) p h = by (nat_cmp k e.0) (below_inserted x k v es p h.1)
    where
      by : (r : Ordering) → AllByRecursion (λ y. nat_cmp x y ≡ Less) (keys_of (insert_entry nat_cmp es k v)) → AllByRecursion (λ y. nat_cmp x y ≡ Less) (keys_of (match_ordering r ((k, v) ∷ e ∷ es) ((e.0, v) ∷ es) (e ∷ insert_entry nat_cmp es k v)))
      by Less later = (p, h)
      by Equal later = h
      by Greater later = (h.0, later)

  pub rising_inserted : (k : ℕ) (v : X) (es : List (ℕ × X)) → AreRising es → AreRising (insert_entry nat_cmp es k v)
  rising_inserted k v [] rising = rising-cons k v [] tt rising
  rising_inserted k v (e ∷ es) rising = by (nat_cmp k e.0) refl (rising_inserted k v es (sorted_tail nat_cmp e.0 (keys_of es) rising))
    where
      by : (r : Ordering) → nat_cmp k e.0 ≡ r → AreRising (insert_entry nat_cmp es k v) → AreRising (match_ordering r ((k, v) ∷ e ∷ es) ((e.0, v) ∷ es) (e ∷ insert_entry nat_cmp es k v))
      by Less p later = rising-cons k v (e ∷ es) (rising_below k e es p rising) rising
      by Equal p later = rising-cons e.0 v es (sorted_head nat_cmp e.0 (keys_of es) rising) (sorted_tail nat_cmp e.0 (keys_of es) rising)
      by Greater p later =
          let less : nat_cmp e.0 k ≡ Less = nat_cmp_total.antisymm e.0 k ∙ ap ordering_reverse p in
          rising-cons e.0 e.1 (insert_entry nat_cmp es k v) (below_inserted e.0 k v es less (sorted_head nat_cmp e.0 (keys_of es) rising)) later

  below_removed : (x k : ℕ) (es : List (ℕ × X)) → AllByRecursion (λ y. nat_cmp x y ≡ Less) (keys_of es) → AllByRecursion (λ y. nat_cmp x y ≡ Less) (keys_of (remove_entry (is_at (nat_cmp k)) es))
  below_removed x k [] h = tt
  below_removed x k (e ∷ es) h = by (is_at (nat_cmp k) e.0) (below_removed x k es h.1)
    where
      by : (b : Bool) → AllByRecursion (λ y. nat_cmp x y ≡ Less) (keys_of (remove_entry (is_at (nat_cmp k)) es)) → AllByRecursion (λ y. nat_cmp x y ≡ Less) (keys_of (cond b es (e ∷ remove_entry (is_at (nat_cmp k)) es)))
      by true later = h.1
      by false later = (h.0, later)

  pub rising_removed : (k : ℕ) (es : List (ℕ × X)) → AreRising es → AreRising (remove_entry (is_at (nat_cmp k)) es)
  rising_removed k [] rising = rising
  rising_removed k (e ∷ es) rising =
      let rest = sorted_tail nat_cmp e.0 (keys_of es) rising in
      by (is_at (nat_cmp k) e.0) rest (rising_removed k es rest)
    where
      by : (b : Bool) → AreRising es → AreRising (remove_entry (is_at (nat_cmp k)) es) → AreRising (cond b es (e ∷ remove_entry (is_at (nat_cmp k)) es))
      by true rest later = rest
      by false rest later = rising-cons e.0 e.1 (remove_entry (is_at (nat_cmp k)) es) (below_removed e.0 k es (sorted_head nat_cmp e.0 (keys_of es) rising)) later
