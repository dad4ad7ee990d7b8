-- On entries by rising key: what is found in them after a key is set or taken away, and how many they are.
use Rattle.std.proofs.Common.{◌≡◌, ◌∙◌, ℕ, suc, ◌+◌, Bool, true, false, cond, T, ◌&&◌, List, [], ◌∷◌, length, Option, None, Some, is_some, refl, sym, ap, ap₂, subst, arith}
use Rattle.std.specs.declared.cmp.Ordering.{Ordering}
use Rattle.std.specs.declared.cmp.Ordering.TheVariants.{Less, Equal, Greater}
use Rattle.std.specs.Ordering.{nat_cmp, is_eq, is_lt, eq_by_cmp}
use Rattle.std.specs.Cmp.{IsTotalOrder, Equal-is}
use Rattle.std.specs.Cmp.Lexicographic.{slice_cmp}
use Rattle.std.specs.List.{AllByRecursion}
use Rattle.std.specs.List.Sorted.{IsStrictlySortedBy}
use Rattle.std.specs.Map.{keys_of, lookup, remove_entry}
use Rattle.std.specs.BTreeMap.{is_at, insert_entry}
use Rattle.std.specs.FinMap.Entries.{put, find, below_all, is_sorted, is_sorted-put, find-put, length-put, same_entries}
use Rattle.std.proofs.lemmas.Cmp.{nat_list_cmp_total, eq_by_cmp_equiv}
use Rattle.std.proofs.lemmas.Map.{lookup-remove_entry}
use Rattle.std.proofs.lemmas.Map.Keys.{IsDistinct-from_sorted}
use Rattle.std.proofs.lemmas.Map.Lookups.{exact_bytes}
use Rattle.coll_model.specs.Effect.{at_key, with_key, without_key}
use Rattle.versioned_store.specs.Stores.{same_key}

abbrev pub order : List ℕ → List ℕ → Ordering
order = slice_cmp nat_cmp

both : (a b : Bool) → T a → T b → T (a && b)
both true b p q = q
both false b p q = p

first : (a b : Bool) → T (a && b) → T a
first true b p = tt
first false b p = p

second : (a b : Bool) → T (a && b) → T b
second true b p = p
second false b p = absurd p

-- by rising key
abbrev pub Rising : {X : Type 0} → List (List ℕ × X) → Type 0
Rising entries = IsStrictlySortedBy (slice_cmp nat_cmp) (keys_of entries)

pub key_is : (key other : List ℕ) → same_key key other ≡ true → key ≡ other
key_is key other e = exact_bytes key other ((Equal-is (order key other)).0 e)

module _ {X : Type 0} where
  find_lookup : (q : List ℕ) (es : List (List ℕ × X)) → find order q es ≡ at_key q es
  find_lookup q [] = refl
  find_lookup q (e ∷ es) = ap (cond (is_eq (order q e.0)) (Some e.1)) (find_lookup q es)

  put_insert : (k : List ℕ) (v : X) (es : List (List ℕ × X)) → put order k v es ≡ with_key k v es
  put_insert k v [] = refl
  put_insert k v (e ∷ es) =
      elim (order k e.0) as (λ r. Rattle.std.specs.FinMap.Entries.by_order r ((k, v) ∷ e ∷ es) ((e.0, v) ∷ es) (e ∷ put order k v es) ≡ Rattle.std.specs.Ordering.match_ordering r ((k, v) ∷ e ∷ es) ((e.0, v) ∷ es) (e ∷ with_key k v es)) [
        | Less ↦ refl
        | Equal ↦ refl
        | Greater ↦ ap (λ (l : List (List ℕ × X)). e ∷ l) (put_insert k v es)
      ]

  -- ---- keys that rise, as a test

  below_test : (x : List ℕ) (es : List (List ℕ × X)) → AllByRecursion (λ (y : List ℕ). order x y ≡ Less) (keys_of es) → T (below_all order x es)
  below_test x [] h = tt
  below_test x (e ∷ es) h = subst (λ (r : Ordering). T (is_lt r && below_all order x es)) (sym h.0) (below_test x es h.1)

  rising_test : (es : List (List ℕ × X)) → Rising es → T (is_sorted order es)
  unfolding IsStrictlySortedBy
  rising_test [] h = tt
  rising_test (e ∷ es) h = both (below_all order e.0 es) (is_sorted order es) (below_test e.0 es h.0) (rising_test es h.1)

  below_remove : (test : List ℕ → Bool) (x : List ℕ) (es : List (List ℕ × X)) → T (below_all order x es) → T (below_all order x (remove_entry test es))
  below_remove test x [] h = tt
  below_remove test x (e ∷ es) h =
      elim (test e.0) as (λ (b : Bool). T (below_all order x (cond b es (e ∷ remove_entry test es)))) [
        | true ↦ second (is_lt (order x e.0)) (below_all order x es) h
        | false ↦ both (is_lt (order x e.0)) (below_all order x (remove_entry test es)) (first (is_lt (order x e.0)) (below_all order x es) h) (below_remove test x es (second (is_lt (order x e.0)) (below_all order x es) h))
      ]

  remove_test : (test : List ℕ → Bool) (es : List (List ℕ × X)) → T (is_sorted order es) → T (is_sorted order (remove_entry test es))
  remove_test test [] h = tt
  remove_test test (e ∷ es) h =
      elim (test e.0) as (λ (b : Bool). T (is_sorted order (cond b es (e ∷ remove_entry test es)))) [
        | true ↦ second (below_all order e.0 es) (is_sorted order es) h
        | false ↦ both (below_all order e.0 (remove_entry test es)) (is_sorted order (remove_entry test es)) (below_remove test e.0 es (first (below_all order e.0 es) (is_sorted order es) h)) (remove_test test es (second (below_all order e.0 es) (is_sorted order es) h))
      ]

  -- ---- what is found

  pub found_put : (q k : List ℕ) (v : X) (es : List (List ℕ × X)) → at_key q (with_key k v es) ≡ cond (same_key k q) (Some v) (at_key q es)
  found_put q k v es =
      ap (at_key q) (sym (put_insert k v es)) ∙ sym (find_lookup q (put order k v es)) ∙ find-put order nat_list_cmp_total q k v es
      ∙ ap₂ (λ (b : Bool) (x : Option X). cond b (Some v) x) ((eq_by_cmp_equiv nat_list_cmp_total).symm q k) (find_lookup q es)

  pub found_del : (q k : List ℕ) (es : List (List ℕ × X)) → Rising es → at_key q (without_key k es) ≡ cond (same_key k q) None (at_key q es)
  found_del q k es rising = lookup-remove_entry (eq_by_cmp_equiv nat_list_cmp_total) (is_at (order k)) (λ x y e. ap (λ (z : List ℕ). same_key z y) (key_is k x e)) q es (IsDistinct-from_sorted order (keys_of es) rising)

  -- ---- entries in which the same is found are the same

  pub same_found : (es fs : List (List ℕ × X)) → Rising es → Rising fs → ((q : List ℕ) → at_key q es ≡ at_key q fs) → es ≡ fs
  same_found es fs s t h = same_entries order nat_list_cmp_total exact_bytes es fs (rising_test es s) (rising_test fs t) (λ q. find_lookup q es ∙ h q ∙ sym (find_lookup q fs))

  pub is_put : (k : List ℕ) (v : X) (es fs : List (List ℕ × X)) → Rising es → Rising fs → ((q : List ℕ) → at_key q fs ≡ cond (same_key k q) (Some v) (at_key q es)) → fs ≡ with_key k v es
  is_put k v es fs s t h =
      let sorted = subst (λ (l : List (List ℕ × X)). T (is_sorted order l)) (put_insert k v es) (is_sorted-put order nat_list_cmp_total k v es (rising_test es s)) in
      same_entries order nat_list_cmp_total exact_bytes fs (with_key k v es) (rising_test fs t) sorted
      (λ q. find_lookup q fs ∙ h q ∙ sym (found_put q k v es) ∙ sym (find_lookup q (with_key k v es)))

  pub is_del : (k : List ℕ) (es fs : List (List ℕ × X)) → Rising es → Rising fs → ((q : List ℕ) → at_key q fs ≡ cond (same_key k q) None (at_key q es)) → fs ≡ without_key k es
  is_del k es fs s t h =
      same_entries order nat_list_cmp_total exact_bytes fs (without_key k es) (rising_test fs t) (remove_test (is_at (order k)) es (rising_test es s))
      (λ q. find_lookup q fs ∙ h q ∙ sym (found_del q k es s) ∙ sym (find_lookup q (without_key k es)))

  -- ---- how many they are

  pub length_put : (k : List ℕ) (v : X) (es : List (List ℕ × X)) → Rising es → length (with_key k v es) ≡ cond (is_some (at_key k es)) (length es) (length es + 1)
  length_put k v es s =
      ap (λ (l : List (List ℕ × X)). length l) (sym (put_insert k v es)) ∙ length-put order nat_list_cmp_total k v es (rising_test es s)
      ∙ ap (λ (x : Option X). cond (is_some x) (length es) (length es + 1)) (find_lookup k es)

  pub length_del : (test : List ℕ → Bool) (es : List (List ℕ × X)) → length (remove_entry test es) + cond (is_some (lookup test es)) 1 0 ≡ length es
  length_del test [] = refl
  length_del test (e ∷ es) =
      elim (test e.0) as (λ (b : Bool). length (cond b es (e ∷ remove_entry test es)) + cond (is_some (cond b (Some e.1) (lookup test es))) 1 0 ≡ suc (length es)) [
        | true ↦ omega arith
        | false ↦ omega (arith, length_del test es)
      ]
