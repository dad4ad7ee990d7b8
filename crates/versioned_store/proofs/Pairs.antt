-- On the pairs at a version: what is found in them, and what changes of the chains make of them.
use Rattle.std.proofs.Common.{◌≡◌, ◌∙◌, ℕ, suc, ◌+◌, ◌≤◌, Bool, true, false, cond, List, [], ◌∷◌, length, Option, None, Some, is_some, refl, sym, ap, arith}
use Rattle.std.specs.declared.cmp.Ordering.TheVariants.{Less}
use Rattle.std.specs.List.{AllByRecursion}
use Rattle.std.specs.List.Sorted.{IsStrictlySortedBy}
use Rattle.std.specs.Map.{keys_of}
use Rattle.std.specs.Option.{unwrap_or}
use Rattle.std.proofs.lemmas.Cmp.{nat_list_cmp_total, eq_by_cmp_equiv}
use Rattle.std.proofs.lemmas.Map.{NonePasses, lookup-none}
use Rattle.std.proofs.lemmas.Map.Entries.{none_past_head}
use Rattle.std.proofs.lemmas.Map.Keys.{IsDistinct-from_sorted, sorted_tail}
use Rattle.coll_model.specs.Effect.{at_key, with_key, without_key}
use Rattle.versioned_store.specs.Chains.{History, no_history, value_in}
use Rattle.versioned_store.specs.Stores.{Chains, same_key, history_at, with_value, pairs_at, changed}
use Rattle.versioned_store.proofs.Entries.{order, Rising, same_found, is_put, is_del, length_put, length_del}

-- ---- their keys are among those of the chains

keys_within : (P : List ℕ → Type 0) (es : Chains) (w : ℕ) → AllByRecursion P (keys_of es) → AllByRecursion P (keys_of (pairs_at es w))
keys_within P [] w h = tt
keys_within P (e ∷ es) w h =
    elim (value_in e.1 w) as (λ (o : Option (List ℕ)). AllByRecursion P (keys_of (with_value e.0 o (pairs_at es w)))) [
      | None ↦ keys_within P es w h.1
      | Some value ↦ (h.0, keys_within P es w h.1)
    ]

pub pairs_rising : (es : Chains) (w : ℕ) → Rising es → Rising (pairs_at es w)
unfolding IsStrictlySortedBy
pairs_rising [] w h = tt
pairs_rising (e ∷ es) w h =
    elim (value_in e.1 w) as (λ (o : Option (List ℕ)). Rising (with_value e.0 o (pairs_at es w))) [
      | None ↦ pairs_rising es w h.1
      | Some value ↦ (keys_within (λ (y : List ℕ). order e.0 y ≡ Less) es w h.0, pairs_rising es w h.1)
    ]

none_within : (test : List ℕ → Bool) (es : Chains) (w : ℕ) → NonePasses test es → NonePasses test (pairs_at es w)
none_within test [] w h = tt
none_within test (e ∷ es) w h =
    elim (value_in e.1 w) as (λ (o : Option (List ℕ)). NonePasses test (with_value e.0 o (pairs_at es w))) [
      | None ↦ none_within test es w h.1
      | Some value ↦ (h.0, none_within test es w h.1)
    ]

-- ---- what is found in them

found_here : (q : List ℕ) (e : List ℕ × History) (es : Chains) (w : ℕ) → Rising (e ∷ es) → same_key q e.0 ≡ true → (o : Option (List ℕ)) → at_key q (with_value e.0 o (pairs_at es w)) ≡ o
found_here q e es w h same None = lookup-none (same_key q) (pairs_at es w) (none_within (same_key q) es w (none_past_head (eq_by_cmp_equiv nat_list_cmp_total) q e es (IsDistinct-from_sorted order (keys_of (e ∷ es)) h) same))
found_here q e es w h same (Some value) = rw same refl

found_later : (q : List ℕ) (key : List ℕ) (pairs : List (List ℕ × List ℕ)) → same_key q key ≡ false → (o : Option (List ℕ)) → at_key q (with_value key o pairs) ≡ at_key q pairs
found_later q key pairs other None = refl
found_later q key pairs other (Some value) = rw other refl

-- the value in the key's chain
pub found_pairs : (q : List ℕ) (es : Chains) (w : ℕ) → Rising es → at_key q (pairs_at es w) ≡ value_in (history_at q es) w
found_pairs q [] w h = refl
found_pairs q (e ∷ es) w h =
    elim (same_key q e.0) as (λ (b : Bool). same_key q e.0 ≡ b → at_key q (with_value e.0 (value_in e.1 w) (pairs_at es w)) ≡ value_in (unwrap_or (cond b (Some e.1) (at_key q es)) no_history) w) [
      | true ↦ λ same. found_here q e es w h same (value_in e.1 w)
      | false ↦ λ other. found_later q e.0 (pairs_at es w) other (value_in e.1 w) ∙ found_pairs q es w (sorted_tail order e.0 (keys_of es) h)
    ] refl

-- ---- the same pairs

pub same_pairs : (es fs : Chains) (w x : ℕ) → Rising es → Rising fs → ((q : List ℕ) → value_in (history_at q es) w ≡ value_in (history_at q fs) x) → pairs_at es w ≡ pairs_at fs x
same_pairs es fs w x s t h =
    same_found (pairs_at es w) (pairs_at fs x) (pairs_rising es w s) (pairs_rising fs x t)
    (λ q. found_pairs q es w s ∙ h q ∙ sym (found_pairs q fs x t))

-- the pairs after a put
pub put_pairs : (es fs : Chains) (w x : ℕ) (key : List ℕ) (value : Option (List ℕ)) → Rising es → Rising fs → ((q : List ℕ) → value_in (history_at q fs) w ≡ cond (same_key key q) value (value_in (history_at q es) x))
    → pairs_at fs w ≡ changed key value (pairs_at es x)
put_pairs es fs w x key None s t h =
    is_del key (pairs_at es x) (pairs_at fs w) (pairs_rising es x s) (pairs_rising fs w t)
    (λ q. found_pairs q fs w t ∙ h q ∙ ap (cond (same_key key q) None) (sym (found_pairs q es x s)))
put_pairs es fs w x key (Some value) s t h =
    is_put key value (pairs_at es x) (pairs_at fs w) (pairs_rising es x s) (pairs_rising fs w t)
    (λ q. found_pairs q fs w t ∙ h q ∙ ap (cond (same_key key q) (Some value)) (sym (found_pairs q es x s)))

-- ---- how many they are

pub length_pairs : (es : Chains) (w : ℕ) → length (pairs_at es w) ≤ length es
length_pairs [] w = omega arith
length_pairs (e ∷ es) w =
    elim (value_in e.1 w) as (λ (o : Option (List ℕ)). length (with_value e.0 o (pairs_at es w)) ≤ suc (length es)) [
      | None ↦ omega (arith, length_pairs es w)
      | Some value ↦ omega (arith, length_pairs es w)
    ]

pub count_with : (key value : List ℕ) (pairs : List (List ℕ × List ℕ)) (had : Bool) → Rising pairs → is_some (at_key key pairs) ≡ had → length (with_key key value pairs) ≡ cond had (length pairs) (length pairs + 1)
count_with key value pairs had rising e = length_put key value pairs rising ∙ ap (λ (b : Bool). cond b (length pairs) (length pairs + 1)) e

pub count_without : (key : List ℕ) (pairs : List (List ℕ × List ℕ)) (had : Bool) → is_some (at_key key pairs) ≡ had → length (without_key key pairs) + cond had 1 0 ≡ length pairs
count_without key pairs had e = ap (λ (b : Bool). length (without_key key pairs) + cond b 1 0) (sym e) ∙ length_del (same_key key) pairs
