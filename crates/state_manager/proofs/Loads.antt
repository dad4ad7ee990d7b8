-- What is loaded of an image.
use Rattle.std.proofs.Common.{◌≡◌, ◌∙◌, ◌≢◌, ◌⊎◌, inl, inr, ℕ, ◌+◌, ◌≤◌, ◌<◌, List, [], ◌∷◌, ◌++◌, length, take, drop, get_or, Some, nat_cmp, Ordering, Less, refl, sym, ap, ap₂, subst, arith}
use Rattle.std.specs.Ordering.{match_ordering, ordering_reverse}
use Rattle.std.specs.List.{AllByRecursion}
use Rattle.std.specs.Cmp.Lexicographic.{slice_cmp, nat_list_cmp_total}
use Rattle.std.specs.Map.{keys_of}
use Rattle.std.proofs.lemmas.List.{take-append-drop, drop_more, map-append, map_more}
use Rattle.std.proofs.lemmas.List.Elements.{All-nil}
use Rattle.std.proofs.lemmas.Map.Keys.{sorted_head, sorted_tail}
use Rattle.rc_base.specs.declared.ids.Lsn.{Lsn}
use Rattle.coll_model.specs.declared.contents.Contents.{Contents}
use Rattle.coll_model.specs.declared.rows.Collection.{Collection}
use Rattle.coll_model.specs.declared.contents.Contents.TheVariants.{Dict, Queue}
use Rattle.coll_model.specs.Effect.{State, at_key, with_key}
use Rattle.coll_model.specs.Rows.{image, rows_of}
use Rattle.coll_laws.specs.Rising.{AreRising}
use Rattle.coll_laws.proofs.Entries.{cases_text, at_with_same, at_with_other, rising_with, rising-nil, same_rising}
use Rattle.provider_law.specs.Replies.{contents_of}
use Rattle.state_manager.specs.declared.slot.Slot.{Slot}
use Rattle.state_manager.specs.Chains.{seen, AreKept}
use Rattle.state_manager.specs.Managed.{state_at, told_by, chain_of, IsLoaded, IsManaged}
use Rattle.state_manager.proofs.States.{chain_of-with_same, chain_of-with_other, rising_shown, at_shown}

abbrev order : List ℕ → List ℕ → Ordering
order = slice_cmp nat_cmp

-- ---- a name above all others comes last

greatest_last : (state : State) (k : List ℕ) (c : Contents) → AllByRecursion (λ (y : List ℕ). order y k ≡ Less) (keys_of state) → with_key k c state ≡ state ++ (k, c) ∷ []
greatest_last [] k c all = refl
greatest_last (e ∷ state) k c all =
    ap (λ (r : Ordering). match_ordering r ((k, c) ∷ e ∷ state) ((e.0, c) ∷ state) (e ∷ with_key k c state)) (nat_list_cmp_total.antisymm k e.0 ∙ ap ordering_reverse all.0)
    ∙ ap (λ (l : State). e ∷ l) (greatest_last state k c all.1)

at_middle : (P : List ℕ → Type 0) (xs : State) (y : List ℕ × Contents) (ys : State) → AllByRecursion P (keys_of (xs ++ y ∷ ys)) → P y.0
at_middle P [] y ys h = h.0
at_middle P (x ∷ xs) y ys h = at_middle P xs y ys h.1

below_middle : (xs : State) (y : List ℕ × Contents) (ys : State) → AreRising (xs ++ y ∷ ys) → AllByRecursion (λ (k : List ℕ). order k y.0 ≡ Less) (keys_of xs)
below_middle [] y ys h = tt
below_middle (x ∷ xs) y ys h =
    (at_middle (λ (k : List ℕ). order x.0 k ≡ Less) xs y ys (sorted_head order x.0 (keys_of (xs ++ y ∷ ys)) h), below_middle xs y ys (sorted_tail order x.0 (keys_of (xs ++ y ∷ ys)) h))

abbrev entry_of : Collection → List ℕ × Contents
entry_of one = (one.name, contents_of one.rows)

told_more : (image : List Collection) (i : ℕ) (d : Collection) → i < length image → AreRising (told_by image) → with_key (get_or image i d).name (contents_of (get_or image i d).rows) (told_by (take i image)) ≡ told_by (take (i + 1) image)
told_more image i d lt rising =
    let y = get_or image i d in
    let rest = drop (i + 1) image in
    let split : image ≡ take i image ++ y ∷ rest = sym (take-append-drop i image) ∙ ap (λ (l : List Collection). take i image ++ l) (drop_more image i d lt) in
    let parts : told_by image ≡ told_by (take i image) ++ entry_of y ∷ told_by rest = ap told_by split ∙ map-append entry_of (take i image) (y ∷ rest) in
    greatest_last (told_by (take i image)) y.name (contents_of y.rows) (below_middle (told_by (take i image)) (entry_of y) (told_by rest) (subst AreRising parts rising))
    ∙ sym (map_more entry_of image i d lt)

module _ {P : Type 0} (least : P → ℕ) (view : P → ℕ → Contents) (v : ℕ) where
  pub nothing_loaded : IsLoaded least view v [] []
  nothing_loaded = record {
    rising = rising-nil (List (Slot P));
    kept = λ name. All-nil (λ (s : Slot P). least s.provider ≤ v);
    views = λ name w le. refl;
  }

  -- one collection more
  loaded_with : (state : State) (chains : List (List ℕ × List (Slot P))) (k : List ℕ) (c : Contents) (chain : List (Slot P)) → IsLoaded least view v state chains → AreKept least v chain → ((w : ℕ) → v ≤ w → seen view w chain ≡ Some c)
      → IsLoaded least view v (with_key k c state) (with_key k chain chains)
  loaded_with state chains k c chain loaded kept views = record {
    rising = rising_with k chain chains loaded.rising;
    kept = λ name. keeps name (cases_text name k);
    views = λ name w le. looks name w le (cases_text name k);
  }
    where
      keeps : (name : List ℕ) → (name ≡ k) ⊎ (name ≢ k) → AreKept least v (chain_of name (with_key k chain chains))
      keeps name (inl same) = subst (λ (n : List ℕ). AreKept least v (chain_of n (with_key k chain chains))) (sym same) (subst (AreKept least v) (sym (chain_of-with_same k chain chains)) kept)
      keeps name (inr apart) = subst (AreKept least v) (sym (chain_of-with_other name k chain chains apart)) (loaded.kept name)

      looks : (name : List ℕ) (w : ℕ) → v ≤ w → (name ≡ k) ⊎ (name ≢ k) → seen view w (chain_of name (with_key k chain chains)) ≡ at_key name (with_key k c state)
      looks name w le (inl same) =
          subst (λ (n : List ℕ). seen view w (chain_of n (with_key k chain chains)) ≡ at_key n (with_key k c state)) (sym same)
          (ap (seen view w) (chain_of-with_same k chain chains) ∙ views w le ∙ sym (at_with_same k c state))
      looks name w le (inr apart) = ap (seen view w) (chain_of-with_other name k chain chains apart) ∙ loaded.views name w le ∙ sym (at_with_other name k c state apart)

  pub loaded_more : (image : List Collection) (i : ℕ) (d : Collection) (chains : List (List ℕ × List (Slot P))) (chain : List (Slot P)) → i < length image → AreRising (told_by image) → IsLoaded least view v (told_by (take i image)) chains
      → AreKept least v chain → ((w : ℕ) → v ≤ w → seen view w chain ≡ Some (contents_of (get_or image i d).rows))
      → IsLoaded least view v (told_by (take (i + 1) image)) (with_key (get_or image i d).name chain chains)
  loaded_more image i d chains chain lt rising loaded kept views =
      let y = get_or image i d in
      subst (λ (state : State). IsLoaded least view v state (with_key y.name chain chains)) (told_more image i d lt rising)
      (loaded_with (told_by (take i image)) chains y.name (contents_of y.rows) chain loaded kept views)

-- what is saved tells the state
pub told_image : (state : State) → told_by (image state) ≡ state
told_image [] = refl
told_image (e ∷ state) = ap₂ (λ (c : Contents) (l : State). (e.0, c) ∷ l) (same_contents e.1) (told_image state)
  where
    same_contents : (c : Contents) → contents_of (rows_of c) ≡ c
    same_contents (Dict pairs) = refl
    same_contents (Queue values) = refl

-- the manager of what was loaded
module _ {P : Type 0} (least : P → ℕ) (view : P → ℕ → Contents) (v : Lsn) (state : State) (chains : List (List ℕ × List (Slot P))) (loaded : IsLoaded least view v.0 state chains) where
  pub loaded_managed : IsManaged least view (record { chains = chains; changes = []; floor = v; top = v })
  loaded_managed = record {
    in_order = omega arith;
    rising = loaded.rising;
    noted = λ name. record {
      kept = loaded.kept name;
      rests = λ n le e. loaded.views name (n + 1) (omega (arith, le)) ∙ sym (loaded.views name n le);
    };
    recent = λ k d lt. absurd (omega (arith, lt));
    falling = tt;
  }

  pub loaded_states : AreRising state → (w : ℕ) → v.0 ≤ w → state_at view (record { chains = chains; changes = []; floor = v; top = v }) w ≡ state
  loaded_states rising w le = same_rising (state_at view (record { chains = chains; changes = []; floor = v; top = v }) w) state (rising_shown view w chains loaded.rising) rising
      (λ name. at_shown view w name chains loaded.rising ∙ loaded.views name w le)
