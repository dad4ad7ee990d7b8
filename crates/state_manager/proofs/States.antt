-- The state at a version, by what is seen under each name.
use Rattle.std.proofs.Common.{◌≡◌, ◌∙◌, ◌≢◌, ◌⊎◌, inl, inr, ℕ, List, [], ◌∷◌, Option, Some, None, option_map, filter_map, is_some, nat_cmp, Ordering, Less, refl, sym, ap, subst}
use Rattle.std.specs.Option.{option_map_or}
use Rattle.std.specs.List.{AllByRecursion, cons_option}
use Rattle.std.specs.Cmp.Lexicographic.{slice_cmp}
use Rattle.std.specs.Map.{keys_of, set_value}
use Rattle.std.specs.BTreeMap.{is_at}
use Rattle.std.proofs.lemmas.Map.{keys-set_value}
use Rattle.std.proofs.lemmas.Map.Keys.{sorted_head, sorted_tail}
use Rattle.std.specs.List.Sorted.{IsStrictlySortedBy}
use Rattle.coll_model.specs.declared.contents.Contents.{Contents}
use Rattle.coll_model.specs.Effect.{at_key, with_key}
use Rattle.coll_laws.specs.Rising.{AreRising}
use Rattle.coll_laws.proofs.Entries.{cases_text, at_with_same, at_with_other, rising-nil, rising-cons, set_same, set_other, below_absent, at_head, at_behind, same_rising}
use Rattle.state_manager.specs.declared.slot.Slot.{Slot}
use Rattle.coll_model.specs.Rows.{image, collection_of}
use Rattle.state_manager.specs.Chains.{standing, seen}
use Rattle.state_manager.specs.Managed.{chain_of}

abbrev order : List ℕ → List ℕ → Ordering
order = slice_cmp nat_cmp

module _ {P : Type 0} where
  -- ---- the collections of a name after a change

  pub chain_of-with_same : (name : List ℕ) (chain : List (Slot P)) (chains : List (List ℕ × List (Slot P))) → chain_of name (with_key name chain chains) ≡ chain
  chain_of-with_same name chain chains = ap (λ (o : Option (List (Slot P))). option_map_or (λ c. c) o []) (at_with_same name chain chains)

  pub chain_of-with_other : (q name : List ℕ) (chain : List (Slot P)) (chains : List (List ℕ × List (Slot P))) → q ≢ name → chain_of q (with_key name chain chains) ≡ chain_of q chains
  chain_of-with_other q name chain chains apart = ap (λ (o : Option (List (Slot P))). option_map_or (λ c. c) o []) (at_with_other q name chain chains apart)

module _ {P : Type 0} (view : P → ℕ → Contents) (w : ℕ) where
  abbrev pub shown : List ℕ × List (Slot P) → Option (List ℕ × Contents)
  shown entry = option_map (λ contents. (entry.0, contents)) (seen view w entry.1)

  below_shown : (k : List ℕ) (chains : List (List ℕ × List (Slot P))) → AllByRecursion (λ y. order k y ≡ Less) (keys_of chains) → AllByRecursion (λ y. order k y ≡ Less) (keys_of (filter_map shown chains))
  below_shown k [] h = tt
  below_shown k (e ∷ chains) h = by (seen view w e.1) (below_shown k chains h.1)
    where
      by : (o : Option Contents) → AllByRecursion (λ y. order k y ≡ Less) (keys_of (filter_map shown chains))
          → AllByRecursion (λ y. order k y ≡ Less) (keys_of (cons_option (option_map (λ contents. (e.0, contents)) o) (filter_map shown chains)))
      by None later = later
      by (Some c) later = (h.0, later)

  pub rising_shown : (chains : List (List ℕ × List (Slot P))) → AreRising chains → AreRising (filter_map shown chains)
  rising_shown [] rising = rising-nil Contents
  rising_shown (e ∷ chains) rising = by (seen view w e.1) (rising_shown chains (sorted_tail order e.0 (keys_of chains) rising))
    where
      by : (o : Option Contents) → AreRising (filter_map shown chains) → AreRising (cons_option (option_map (λ contents. (e.0, contents)) o) (filter_map shown chains))
      by None later = later
      by (Some c) later = rising-cons e.0 c (filter_map shown chains) (below_shown e.0 chains (sorted_head order e.0 (keys_of chains) rising)) later

  -- what stands under a name in the state is what is seen of its collections
  pub at_shown : (name : List ℕ) (chains : List (List ℕ × List (Slot P))) → AreRising chains → at_key name (filter_map shown chains) ≡ seen view w (chain_of name chains)
  at_shown name [] rising = refl
  at_shown name (e ∷ chains) rising = by (at_shown name chains (sorted_tail order e.0 (keys_of chains) rising)) (seen view w e.1) refl (cases_text name e.0)
    where
      own : name ≡ e.0 → chain_of name (e ∷ chains) ≡ e.1
      own same = subst (λ (n : List ℕ). chain_of n (e ∷ chains) ≡ e.1) (sym same) (ap (λ (o : Option (List (Slot P))). option_map_or (λ c. c) o []) (at_head e chains))

      off : name ≢ e.0 → chain_of name (e ∷ chains) ≡ chain_of name chains
      off apart = ap (λ (o : Option (List (Slot P))). option_map_or (λ c. c) o []) (at_behind name e chains apart)

      below : at_key e.0 (filter_map shown chains) ≡ None
      below = below_absent e.0 (filter_map shown chains) (below_shown e.0 chains (sorted_head order e.0 (keys_of chains) rising))

      by : at_key name (filter_map shown chains) ≡ seen view w (chain_of name chains) → (o : Option Contents) → seen view w e.1 ≡ o → (name ≡ e.0) ⊎ (name ≢ e.0) → at_key name (cons_option (option_map (λ contents. (e.0, contents)) o) (filter_map shown chains)) ≡ seen view w (chain_of name (e ∷ chains))
      by rest None is (inl same) =
          subst (λ (n : List ℕ). at_key n (filter_map shown chains) ≡ None) (sym same) below ∙ sym (ap (seen view w) (own same) ∙ is)
      by rest None is (inr apart) = rest ∙ sym (ap (seen view w) (off apart))
      by rest (Some c) is (inl same) =
          subst (λ (n : List ℕ). at_key n ((e.0, c) ∷ filter_map shown chains) ≡ Some c) (sym same) (at_head (e.0, c) (filter_map shown chains)) ∙ sym (ap (seen view w) (own same) ∙ is)
      by rest (Some c) is (inr apart) = at_behind name (e.0, c) (filter_map shown chains) apart ∙ rest ∙ sym (ap (seen view w) (off apart))

-- two that show the same under each name show the same state
pub same_shown : {P : Type 0} (view : P → ℕ → Contents) (v w : ℕ) (a b : List (List ℕ × List (Slot P))) → AreRising a → AreRising b → ((name : List ℕ) → seen view v (chain_of name a) ≡ seen view w (chain_of name b))
    → filter_map (shown view v) a ≡ filter_map (shown view w) b
same_shown view v w a b in_a in_b same =
    same_rising (filter_map (shown view v) a) (filter_map (shown view w) b) (rising_shown view v a in_a) (rising_shown view w b in_b)
    (λ name. at_shown view v name a in_a ∙ same name ∙ sym (at_shown view w name b in_b))

-- ---- in the steps of the code

module _ {P : Type 0} (name : List ℕ) (old new : List (Slot P)) (chains : List (List ℕ × List (Slot P))) where
  pub chain_of-set_same : at_key name chains ≡ Some old → chain_of name (set_value (is_at (order name)) chains new) ≡ new
  chain_of-set_same e = ap (λ (o : Option (List (Slot P))). option_map_or (λ c. c) o []) (set_same name new chains (ap is_some e))

  pub chain_of-set_other : (q : List ℕ) → q ≢ name → chain_of q (set_value (is_at (order name)) chains new) ≡ chain_of q chains
  chain_of-set_other q apart = ap (λ (o : Option (List (Slot P))). option_map_or (λ c. c) o []) (set_other q name new chains apart)

  pub chain_of_found : at_key name chains ≡ Some old → chain_of name chains ≡ old
  chain_of_found e = ap (λ (o : Option (List (Slot P))). option_map_or (λ c. c) o []) e

  pub chain_of_none : at_key name chains ≡ None → chain_of name chains ≡ []
  chain_of_none e = ap (λ (o : Option (List (Slot P))). option_map_or (λ c. c) o []) e

  pub rising_set : AreRising chains → AreRising (set_value (is_at (order name)) chains new)
  rising_set rising = subst (λ (ks : List (List ℕ)). IsStrictlySortedBy order ks) (sym (keys-set_value (is_at (order name)) chains new)) rising

module _ {P : Type 0} (e : List ℕ × List (Slot P)) (chains : List (List ℕ × List (Slot P))) where
  pub rising_tail : AreRising (e ∷ chains) → AreRising chains
  rising_tail rising = sorted_tail order e.0 (keys_of chains) rising

  pub chain_of_head : chain_of e.0 (e ∷ chains) ≡ e.1
  chain_of_head = ap (λ (o : Option (List (Slot P))). option_map_or (λ c. c) o []) (at_head e chains)

  -- what is of each name's collections is so of those behind the first
  pub kept_tail_of : (Q : List (Slot P) → Type 0) → Q [] → AreRising (e ∷ chains) → (name : List ℕ) → Q (chain_of name (e ∷ chains)) → Q (chain_of name chains)
  kept_tail_of Q nothing rising name h = by (cases_text name e.0)
    where
      by : (name ≡ e.0) ⊎ (name ≢ e.0) → Q (chain_of name chains)
      by (inl same) =
          let none : at_key e.0 chains ≡ None = below_absent e.0 chains (sorted_head order e.0 (keys_of chains) rising) in
          subst (λ (n : List ℕ). Q (chain_of n chains)) (sym same) (subst Q (sym (ap (λ (o : Option (List (Slot P))). option_map_or (λ c. c) o []) none)) nothing)
      by (inr apart) = subst Q (ap (λ (o : Option (List (Slot P))). option_map_or (λ c. c) o []) (at_behind name e chains apart)) h

-- a collection more that stands
pub image_more : {P : Type 0} (view : P → ℕ → Contents) (v : ℕ) (name : List ℕ) (chain : List (Slot P)) (rest : List (List ℕ × List (Slot P))) (slot : Slot P) → standing v chain ≡ Some slot
    → image (filter_map (shown view v) ((name, chain) ∷ rest)) ≡ collection_of (name, view slot.provider v) ∷ image (filter_map (shown view v) rest)
image_more {P} view v name chain rest slot e =
    ap (λ (o : Option (Slot P)). image (cons_option (option_map (λ contents. (name, contents)) (option_map (λ s. view s.provider v) o)) (filter_map (shown view v) rest))) e
