-- Entries by rising key: what a look-up finds after a change, and that they stay in order.
use Rattle.std.proofs.Common.{◌≡◌, ◌∙◌, ◌≢◌, ◌⊎◌, inl, inr, ap₂, ℕ, Bool, true, false, cond, nat_eq, List, [], ◌∷◌, Option, Some, None, option_map, IsSome, is_some, nat_cmp, is_eq, Ordering, Less, Equal, Greater, refl, sym, ap, subst}
use Rattle.std.specs.Ordering.{match_ordering, ordering_reverse}
use Rattle.std.specs.Option.{option_map_or}
use Rattle.std.specs.Cmp.{eq_by_cmp_equiv, tied_itself}
use Rattle.std.specs.Cmp.Lexicographic.{pointwise, slice_cmp, nat_list_cmp_total, texts_ties, same_text, other_text}
use Rattle.std.specs.Map.{keys_of, set_value}
use Rattle.std.specs.List.{AllByRecursion}
use Rattle.std.specs.List.Sorted.{IsStrictlySortedBy}
use Rattle.std.specs.BTreeMap.{is_at}
use Rattle.std.proofs.lemmas.Bool.{cond-true, cond-false}
use Rattle.std.proofs.lemmas.Option.{none-some, same_Some}
use Rattle.std.proofs.lemmas.Map.{lookup-set_value, lookup-remove_entry, keys-set_value}
use Rattle.std.proofs.lemmas.Map.Keys.{IsDistinct-from_sorted, sorted_head, sorted_tail}
use Rattle.coll_model.specs.Effect.{at_key, with_key, without_key, changed_at}
use Rattle.coll_laws.specs.Rising.{AreRising}

abbrev order : List ℕ → List ℕ → Ordering
order = slice_cmp nat_cmp

-- ---- keys

pub cases_text : (a b : List ℕ) → (a ≡ b) ⊎ (a ≢ b)
cases_text a b = by (pointwise nat_eq a b) refl
  where
    by : (q : Bool) → pointwise nat_eq a b ≡ q → (a ≡ b) ⊎ (a ≢ b)
    by true e = inl (same_text a b (sym e))
    by false e = inr (other_text a b (sym e))

order_itself : (k : List ℕ) → order k k ≡ Equal
order_itself k = tied_itself nat_list_cmp_total k

at_itself : (k : List ℕ) → is_at (order k) k ≡ true
at_itself k = ap is_eq (order_itself k)

pub at_same : (a b : List ℕ) → is_at (order a) b ≡ true → a ≡ b
at_same a b e = same_text a b (sym (texts_ties a b ∙ e))

at_apart : (a b : List ℕ) → a ≢ b → is_at (order a) b ≡ false
at_apart a b apart = by (is_at (order a) b) refl
  where
    by : (q : Bool) → is_at (order a) b ≡ q → is_at (order a) b ≡ false
    by true e = absurd (apart (at_same a b e))
    by false e = e

equal_same : (a b : List ℕ) → order a b ≡ Equal → a ≡ b
equal_same a b e = at_same a b (ap is_eq e)

-- ---- what a look-up finds after a change

module _ {X : Type 0} where
  pub at_with_same : (k : List ℕ) (v : X) (es : List (List ℕ × X)) → at_key k (with_key k v es) ≡ Some v
  at_with_same k v [] = cond-true (is_at (order k) k) (Some v) None (at_itself k)
  at_with_same k v (e ∷ es) = by (order k e.0) refl (at_with_same k v es)
    where
      by : (r : Ordering) → order k e.0 ≡ r → at_key k (with_key k v es) ≡ Some v → at_key k (match_ordering r ((k, v) ∷ e ∷ es) ((e.0, v) ∷ es) (e ∷ with_key k v es)) ≡ Some v
      by Less p later = cond-true (is_at (order k) k) (Some v) (at_key k (e ∷ es)) (at_itself k)
      by Equal p later = cond-true (is_at (order k) e.0) (Some v) (at_key k es) (ap is_eq p)
      by Greater p later = cond-false (is_at (order k) e.0) (Some e.1) (at_key k (with_key k v es)) (ap is_eq p) ∙ later

  pub at_with_other : (q k : List ℕ) (v : X) (es : List (List ℕ × X)) → q ≢ k → at_key q (with_key k v es) ≡ at_key q es
  at_with_other q k v [] apart = cond-false (is_at (order q) k) (Some v) None (at_apart q k apart)
  at_with_other q k v (e ∷ es) apart = by (order k e.0) refl (at_with_other q k v es apart)
    where
      by : (r : Ordering) → order k e.0 ≡ r → at_key q (with_key k v es) ≡ at_key q es → at_key q (match_ordering r ((k, v) ∷ e ∷ es) ((e.0, v) ∷ es) (e ∷ with_key k v es)) ≡ at_key q (e ∷ es)
      by Less p later = cond-false (is_at (order q) k) (Some v) (at_key q (e ∷ es)) (at_apart q k apart)
      by Equal p later =
          let off : is_at (order q) e.0 ≡ false = at_apart q e.0 (λ same. apart (same ∙ sym (equal_same k e.0 p))) in
          cond-false (is_at (order q) e.0) (Some v) (at_key q es) off ∙ sym (cond-false (is_at (order q) e.0) (Some e.1) (at_key q es) off)
      by Greater p later = ap (cond (is_at (order q) e.0) (Some e.1)) later

  pub at_without_same : (k : List ℕ) (es : List (List ℕ × X)) → AreRising es → at_key k (without_key k es) ≡ None
  at_without_same k es rising =
      lookup-remove_entry (eq_by_cmp_equiv nat_list_cmp_total) (is_at (order k)) (λ x y e. ap (λ (z : List ℕ). is_at (order z) y) (at_same k x e)) k es
      (IsDistinct-from_sorted order (keys_of es) rising) ∙ cond-true (is_at (order k) k) None (at_key k es) (at_itself k)

  pub at_without_other : (q k : List ℕ) (es : List (List ℕ × X)) → q ≢ k → at_key q (without_key k es) ≡ at_key q es
  at_without_other q k [] apart = refl
  at_without_other q k (e ∷ es) apart = by (is_at (order k) e.0) refl (at_without_other q k es apart)
    where
      by : (b : Bool) → is_at (order k) e.0 ≡ b → at_key q (without_key k es) ≡ at_key q es → at_key q (cond b es (e ∷ without_key k es)) ≡ at_key q (e ∷ es)
      by true p later = sym (cond-false (is_at (order q) e.0) (Some e.1) (at_key q es) (at_apart q e.0 (λ same. apart (same ∙ sym (at_same k e.0 p)))))
      by false p later = ap (cond (is_at (order q) e.0) (Some e.1)) later

  -- the same by the test of equal keys
  pub at_with : (q k : List ℕ) (v : X) (es : List (List ℕ × X)) → at_key q (with_key k v es) ≡ cond (pointwise nat_eq q k) (Some v) (at_key q es)
  at_with q k v es = by (pointwise nat_eq q k) refl
    where
      by : (b : Bool) → pointwise nat_eq q k ≡ b → at_key q (with_key k v es) ≡ cond b (Some v) (at_key q es)
      by true e = subst (λ (z : List ℕ). at_key z (with_key k v es) ≡ Some v) (sym (same_text q k (sym e))) (at_with_same k v es)
      by false e = at_with_other q k v es (other_text q k (sym e))

  pub at_without : (q k : List ℕ) (es : List (List ℕ × X)) → AreRising es → at_key q (without_key k es) ≡ cond (pointwise nat_eq q k) None (at_key q es)
  at_without q k es rising = by (pointwise nat_eq q k) refl
    where
      by : (b : Bool) → pointwise nat_eq q k ≡ b → at_key q (without_key k es) ≡ cond b None (at_key q es)
      by true e = subst (λ (z : List ℕ). at_key z (without_key k es) ≡ None) (sym (same_text q k (sym e))) (at_without_same k es rising)
      by false e = at_without_other q k es (other_text q k (sym e))

  pub set_other : (q k : List ℕ) (w : X) (es : List (List ℕ × X)) → q ≢ k → at_key q (set_value (is_at (order k)) es w) ≡ at_key q es
  set_other q k w [] apart = refl
  set_other q k w (e ∷ es) apart = by (is_at (order k) e.0) refl (set_other q k w es apart)
    where
      by : (b : Bool) → is_at (order k) e.0 ≡ b → at_key q (set_value (is_at (order k)) es w) ≡ at_key q es → at_key q (cond b ((e.0, w) ∷ es) (e ∷ set_value (is_at (order k)) es w)) ≡ at_key q (e ∷ es)
      by true p later =
          let off : is_at (order q) e.0 ≡ false = at_apart q e.0 (λ same. apart (same ∙ sym (at_same k e.0 p))) in
          cond-false (is_at (order q) e.0) (Some w) (at_key q es) off ∙ sym (cond-false (is_at (order q) e.0) (Some e.1) (at_key q es) off)
      by false p later = ap (cond (is_at (order q) e.0) (Some e.1)) later

  pub set_same : (k : List ℕ) (w : X) (es : List (List ℕ × X)) → IsSome (at_key k es) → at_key k (set_value (is_at (order k)) es w) ≡ Some w
  set_same k w es there =
      lookup-set_value (eq_by_cmp_equiv nat_list_cmp_total) (is_at (order k)) (λ x y e. ap (λ (z : List ℕ). is_at (order z) y) (at_same k x e)) k w es there
      ∙ cond-true (is_at (order k) k) (Some w) (at_key k es) (at_itself k)

  pub at_changed_same : (k : List ℕ) (change : X → X) (es : List (List ℕ × X)) → at_key k (changed_at k change es) ≡ option_map change (at_key k es)
  at_changed_same k change es = by (at_key k es) refl
    where
      by : (o : Option X) → at_key k es ≡ o → at_key k (option_map_or (λ v. set_value (is_at (order k)) es (change v)) o es) ≡ option_map change o
      by None e = e
      by (Some v) e = set_same k (change v) es (ap is_some e)

  pub at_changed_other : (q k : List ℕ) (change : X → X) (es : List (List ℕ × X)) → q ≢ k → at_key q (changed_at k change es) ≡ at_key q es
  at_changed_other q k change es apart = by (at_key k es)
    where
      by : (o : Option X) → at_key q (option_map_or (λ v. set_value (is_at (order k)) es (change v)) o es) ≡ at_key q es
      by None = refl
      by (Some v) = set_other q k (change v) es apart

-- ---- in order

AllByRecursion-same : {K : Type 0} (P Q : K → Type 0) (ks : List K) → ((k : K) → P k → Q k) → AllByRecursion P ks → AllByRecursion Q ks
AllByRecursion-same P Q [] f h = tt
AllByRecursion-same P Q (k ∷ ks) f h = (f k h.0, AllByRecursion-same P Q ks f h.1)

pub rising-nil : (X : Type 0) → AreRising {X = X} []
unfolding IsStrictlySortedBy
rising-nil X = tt

pub rising-cons : {X : Type 0} (k : List ℕ) (v : X) (es : List (List ℕ × X)) → AllByRecursion (λ y. order k y ≡ Less) (keys_of es) → AreRising es → AreRising ((k, v) ∷ es)
unfolding IsStrictlySortedBy
rising-cons k v es below rising = (below, rising)

module _ {X : Type 0} where
  rising_below : (k : List ℕ) (e : List ℕ × X) (es : List (List ℕ × X)) → order k e.0 ≡ Less → AreRising (e ∷ es) → AllByRecursion (λ y. order k y ≡ Less) (keys_of (e ∷ es))
  rising_below k e es p rising =
      (p, AllByRecursion-same (λ y. order e.0 y ≡ Less) (λ y. order k y ≡ Less) (keys_of es) (λ y less. nat_list_cmp_total.trans k e.0 y p less) (sorted_head order e.0 (keys_of es) rising))

  below_with : (x k : List ℕ) (v : X) (es : List (List ℕ × X)) → order x k ≡ Less → AllByRecursion (λ y. order x y ≡ Less) (keys_of es) → AllByRecursion (λ y. order x y ≡ Less) (keys_of (with_key k v es))
  below_with x k v [] p h = (p, tt)
  below_with x k v (e ∷ es) p h = by (order k e.0) (below_with x k v es p h.1)
    where
      by : (r : Ordering) → AllByRecursion (λ y. order x y ≡ Less) (keys_of (with_key k v es)) → AllByRecursion (λ y. order x y ≡ Less) (keys_of (match_ordering r ((k, v) ∷ e ∷ es) ((e.0, v) ∷ es) (e ∷ with_key k v es)))
      by Less later = (p, h)
      by Equal later = h
      by Greater later = (h.0, later)

  pub rising_with : (k : List ℕ) (v : X) (es : List (List ℕ × X)) → AreRising es → AreRising (with_key k v es)
  rising_with k v [] rising = rising-cons k v [] tt rising
  rising_with k v (e ∷ es) rising = by (order k e.0) refl (rising_with k v es (sorted_tail order e.0 (keys_of es) rising))
    where
      by : (r : Ordering) → order k e.0 ≡ r → AreRising (with_key k v es) → AreRising (match_ordering r ((k, v) ∷ e ∷ es) ((e.0, v) ∷ es) (e ∷ with_key k v es))
      by Less p later = rising-cons k v (e ∷ es) (rising_below k e es p rising) rising
      by Equal p later = rising-cons e.0 v es (sorted_head order e.0 (keys_of es) rising) (sorted_tail order e.0 (keys_of es) rising)
      by Greater p later =
          let less : order e.0 k ≡ Less = nat_list_cmp_total.antisymm e.0 k ∙ ap ordering_reverse p in
          rising-cons e.0 e.1 (with_key k v es) (below_with e.0 k v es less (sorted_head order e.0 (keys_of es) rising)) later

  below_without : (x k : List ℕ) (es : List (List ℕ × X)) → AllByRecursion (λ y. order x y ≡ Less) (keys_of es) → AllByRecursion (λ y. order x y ≡ Less) (keys_of (without_key k es))
  below_without x k [] h = tt
  below_without x k (e ∷ es) h = by (is_at (order k) e.0) (below_without x k es h.1)
    where
      by : (b : Bool) → AllByRecursion (λ y. order x y ≡ Less) (keys_of (without_key k es)) → AllByRecursion (λ y. order x y ≡ Less) (keys_of (cond b es (e ∷ without_key k es)))
      by true later = h.1
      by false later = (h.0, later)

  pub rising_without : (k : List ℕ) (es : List (List ℕ × X)) → AreRising es → AreRising (without_key k es)
  rising_without k [] rising = rising
  rising_without k (e ∷ es) rising =
      let rest = sorted_tail order e.0 (keys_of es) rising in
      by (is_at (order k) e.0) rest (rising_without k es rest)
    where
      by : (b : Bool) → AreRising es → AreRising (without_key k es) → AreRising (cond b es (e ∷ without_key k es))
      by true rest later = rest
      by false rest later = rising-cons e.0 e.1 (without_key k es) (below_without e.0 k es (sorted_head order e.0 (keys_of es) rising)) later

  pub rising_changed : (k : List ℕ) (change : X → X) (es : List (List ℕ × X)) → AreRising es → AreRising (changed_at k change es)
  rising_changed k change es rising = by (at_key k es)
    where
      by : (o : Option X) → AreRising (option_map_or (λ v. set_value (is_at (order k)) es (change v)) o es)
      by None = rising
      by (Some v) = subst (λ (ks : List (List ℕ)). IsStrictlySortedBy order ks) (sym (keys-set_value (is_at (order k)) es (change v))) rising

-- ---- entries whose look-ups are alike are the same

module _ {X : Type 0} where
  -- a key below all others isn't there
  pub below_absent : (k : List ℕ) (es : List (List ℕ × X)) → AllByRecursion (λ y. order k y ≡ Less) (keys_of es) → at_key k es ≡ None
  below_absent k [] h = refl
  below_absent k (e ∷ es) h = cond-false (is_at (order k) e.0) (Some e.1) (at_key k es) (ap is_eq h.0) ∙ below_absent k es h.1

  pub at_head : (e : List ℕ × X) (es : List (List ℕ × X)) → at_key e.0 (e ∷ es) ≡ Some e.1
  at_head e es = cond-true (is_at (order e.0) e.0) (Some e.1) (at_key e.0 es) (at_itself e.0)

  pub at_behind : (k : List ℕ) (e : List ℕ × X) (es : List (List ℕ × X)) → k ≢ e.0 → at_key k (e ∷ es) ≡ at_key k es
  at_behind k e es apart = cond-false (is_at (order k) e.0) (Some e.1) (at_key k es) (at_apart k e.0 apart)

  -- the first key of one is not below the other's
  not_below : (d e : List ℕ × X) (ds es : List (List ℕ × X)) → order d.0 e.0 ≡ Less → AreRising (e ∷ es) → at_key d.0 (d ∷ ds) ≡ at_key d.0 (e ∷ es) → ⊥
  not_below d e ds es less rising same =
      none-some d.1 (sym (below_absent d.0 (e ∷ es) (rising_below d.0 e es less rising)) ∙ sym same ∙ at_head d ds)

  same_tails : (d e : List ℕ × X) (ds es : List (List ℕ × X)) → d.0 ≡ e.0 → AreRising (d ∷ ds) → AreRising (e ∷ es) → ((k : List ℕ) → at_key k (d ∷ ds) ≡ at_key k (e ∷ es)) → (k : List ℕ) → at_key k ds ≡ at_key k es
  same_tails d e ds es head in_d in_e same k = by (cases_text k d.0)
    where
      off_d : at_key d.0 ds ≡ None
      off_d = below_absent d.0 ds (sorted_head order d.0 (keys_of ds) in_d)

      off_e : at_key e.0 es ≡ None
      off_e = below_absent e.0 es (sorted_head order e.0 (keys_of es) in_e)

      by : (k ≡ d.0) ⊎ (k ≢ d.0) → at_key k ds ≡ at_key k es
      by (inl here) =
          subst (λ (x : List ℕ). at_key x ds ≡ at_key x es) (sym here) (off_d ∙ sym (subst (λ (x : List ℕ). at_key x es ≡ None) (sym head) off_e))
      by (inr apart) = sym (at_behind k d ds apart) ∙ same k ∙ at_behind k e es (λ there. apart (there ∙ sym head))

  pub same_rising : (a b : List (List ℕ × X)) → AreRising a → AreRising b → ((k : List ℕ) → at_key k a ≡ at_key k b) → a ≡ b
  same_rising [] [] in_a in_b same = refl
  same_rising [] (e ∷ es) in_a in_b same = absurd (none-some e.1 (same e.0 ∙ at_head e es))
  same_rising (d ∷ ds) [] in_a in_b same = absurd (none-some d.1 (sym (same d.0) ∙ at_head d ds))
  same_rising (d ∷ ds) (e ∷ es) in_a in_b same =
      by (order d.0 e.0) refl (λ rest. same_rising ds es (sorted_tail order d.0 (keys_of ds) in_a) (sorted_tail order e.0 (keys_of es) in_b) rest)
    where
      by : (r : Ordering) → order d.0 e.0 ≡ r → (((k : List ℕ) → at_key k ds ≡ at_key k es) → ds ≡ es) → (d ∷ ds) ≡ (e ∷ es)
      by Less p rest = absurd (not_below d e ds es p in_b (same d.0))
      by Greater p rest = absurd (not_below e d es ds (nat_list_cmp_total.antisymm e.0 d.0 ∙ ap ordering_reverse p) in_a (sym (same e.0)))
      by Equal p rest =
          let head : d.0 ≡ e.0 = equal_same d.0 e.0 p in
          let value : d.1 ≡ e.1 =
          same_Some d.1 e.1 (sym (at_head d ds) ∙ same d.0 ∙ subst (λ (x : List ℕ). at_key x (e ∷ es) ≡ Some e.1) (sym head) (at_head e es)) in
          ap₂ (λ (x : List ℕ × X) (xs : List (List ℕ × X)). x ∷ xs) (ap₂ (λ (k : List ℕ) (v : X). (k, v)) head value) (rest (same_tails d e ds es head in_a in_b same))
