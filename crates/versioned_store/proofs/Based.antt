-- On pairs at the floor.
use Rattle.std.proofs.Common.{Bool, true, false, cond, ◌≡◌, ◌∙◌, ℕ, ◌+◌, ◌<◌, List, [], ◌∷◌, ◌++◌, length, map, take, drop, get_or, Some, refl, sym, ap, subst, arith}
use Rattle.std.specs.declared.cmp.Ordering.{Ordering}
use Rattle.std.specs.declared.cmp.Ordering.TheVariants.{Less}
use Rattle.std.specs.Ordering.{match_ordering, ordering_reverse}
use Rattle.std.specs.List.{AllByRecursion}
use Rattle.std.specs.Map.{keys_of}
use Rattle.std.proofs.lemmas.Cmp.{nat_list_cmp_total}
use Rattle.std.proofs.lemmas.List.{map-append, take-append-drop, drop_more, take_more}
use Rattle.std.proofs.lemmas.Map.Keys.{sorted_head, sorted_tail}
use Rattle.rc_base.specs.declared.ids.Lsn.{Lsn}
use Rattle.std.specs.Option.{unwrap_or}
use Rattle.coll_model.specs.Effect.{at_key, with_key}
use Rattle.versioned_store.specs.declared.chain.Change.{Change}
use Rattle.versioned_store.specs.Chains.{History, no_history}
use Rattle.versioned_store.specs.Stores.{Chains, IsStore, pairs_at, same_key, Tells, based}
use Rattle.versioned_store.proofs.Entries.{order, Rising}

abbrev Pair : Type 0
Pair = List ℕ × List ℕ

pub pairs_based : (pairs : List Pair) (w : ℕ) → pairs_at (map based pairs) w ≡ pairs
pairs_based [] w = refl
pairs_based (pair ∷ pairs) w = ap (λ (l : List Pair). pair ∷ l) (pairs_based pairs w)

tells_based : (pairs : List Pair) → Tells [] (map based pairs)
tells_based [] key = refl
tells_based (pair ∷ pairs) key =
    elim (same_key key pair.0) as (λ (b : Bool). map (λ (change : Change). change.at) (unwrap_or (cond b (Some (based pair).1) (at_key key (map based pairs))) no_history).changes ≡ []) [
      | true ↦ refl
      | false ↦ tells_based pairs key
    ]

pub based_keeps : (pairs : List Pair) (v : Lsn) → IsStore (record { chains = map based pairs; journal = []; base_count = length pairs; floor = v; top = v })
based_keeps pairs v = record {
  in_order = omega arith;
  rises = λ i j d le lt. absurd (omega (arith, lt));
  reaches = λ k d lt. absurd (omega (arith, lt));
  tells = tells_based pairs;
  rests = λ w le. pairs_based pairs w ∙ sym (pairs_based pairs v.0);
  counted = λ w le. ap (λ (l : List Pair). length l) (sym (pairs_based pairs w));
}

-- ---- a key above all others comes last

greatest_last : (es : Chains) (key : List ℕ) (h : History) → AllByRecursion (λ (k : List ℕ). order k key ≡ Less) (keys_of es) → with_key key h es ≡ es ++ (key, h) ∷ []
greatest_last [] key h all = refl
greatest_last (e ∷ es) key h all =
    ap (λ (r : Ordering). match_ordering r ((key, h) ∷ e ∷ es) ((e.0, h) ∷ es) (e ∷ with_key key h es)) (nat_list_cmp_total.antisymm key e.0 ∙ ap ordering_reverse all.0)
    ∙ ap (λ (l : Chains). e ∷ l) (greatest_last es key h all.1)

at_middle : (P : List ℕ → Type 0) (xs : List Pair) (y : Pair) (ys : List Pair) → AllByRecursion P (keys_of (xs ++ y ∷ ys)) → P y.0
at_middle P [] y ys h = h.0
at_middle P (x ∷ xs) y ys h = at_middle P xs y ys h.1

below_middle : (xs : List Pair) (y : Pair) (ys : List Pair) → Rising (xs ++ y ∷ ys) → AllByRecursion (λ (k : List ℕ). order k y.0 ≡ Less) (keys_of (map based xs))
below_middle [] y ys h = tt
below_middle (x ∷ xs) y ys h =
    (at_middle (λ (k : List ℕ). order x.0 k ≡ Less) xs y ys (sorted_head order x.0 (keys_of (xs ++ y ∷ ys)) h), below_middle xs y ys (sorted_tail order x.0 (keys_of (xs ++ y ∷ ys)) h))

-- one pair more
pub based_more : (pairs : List Pair) (i : ℕ) (d : Pair) → i < length pairs → Rising pairs → with_key (get_or pairs i d).0 (record { base = Some (get_or pairs i d).1; changes = [] }) (map based (take i pairs)) ≡ map based (take (i + 1) pairs)
based_more pairs i d lt rising =
    let y = get_or pairs i d in
    let split : pairs ≡ take i pairs ++ y ∷ drop (i + 1) pairs = sym (take-append-drop i pairs) ∙ ap (λ (l : List Pair). take i pairs ++ l) (drop_more pairs i d lt) in
    greatest_last (map based (take i pairs)) y.0 (record { base = Some y.1; changes = [] }) (below_middle (take i pairs) y (drop (i + 1) pairs) (subst Rising split rising))
    ∙ sym (map-append based (take i pairs) (y ∷ []))
    ∙ ap (map based) (sym (take_more pairs i d lt))
