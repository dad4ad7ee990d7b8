-- What a merge of all names leaves.
use Rattle.std.proofs.Common.{◌≡◌, ◌∙◌, ◌≢◌, ◌⊎◌, inl, inr, ℕ, ◌+◌, ◌≤◌, nat_eq, nat_lt, Bool, true, false, cond, ◌&&◌, ◌||◌, List, [], ◌∷◌, ◌++◌, Option, nat_cmp, Ordering, Less, refl, sym, ap, subst, arith}
use Rattle.std.specs.Prelude.{All, filter}
use Rattle.std.specs.Option.{option_map_or}
use Rattle.std.specs.List.{AllByRecursion}
use Rattle.std.specs.Cmp.Lexicographic.{slice_cmp, pointwise}
use Rattle.std.specs.Map.{keys_of}
use Rattle.std.specs.Map.Calls.{RetainsPairs}
use Rattle.std.proofs.lemmas.Bool.{ltb-false}
use Rattle.std.proofs.lemmas.Bool.Decides.{eqb_tells}
use Rattle.std.proofs.lemmas.List.Elements.{All-nil, All-cons, All-head, All-tail}
use Rattle.std.proofs.lemmas.Map.Keys.{sorted_head, sorted_tail}
use Rattle.rc_base.specs.declared.ids.Lsn.{Lsn}
use Rattle.coll_model.specs.declared.contents.Contents.{Contents}
use Rattle.coll_laws.specs.Rising.{AreRising}
use Rattle.coll_laws.proofs.Entries.{cases_text, below_absent, at_head, at_behind, rising-cons}
use Rattle.state_manager.specs.declared.change.Change.{Change}
use Rattle.state_manager.specs.declared.slot.Slot.{Slot}
use Rattle.state_manager.specs.Chains.{AreSame, AreKept, IsMergedTo}
use Rattle.state_manager.specs.Managed.{Managed, state_at, chain_of, is_changed, AreFalling, IsManaged}
use Rattle.state_manager.proofs.States.{same_shown}

abbrev order : List ℕ → List ℕ → Ordering
order = slice_cmp nat_cmp

-- ---- the changes above a version

abbrev above_of : ℕ → List Change → List Change
above_of v changes = filter (λ change. nat_lt v change.at.0) changes

module _ (v : ℕ) where
  -- what is above the version is noted still
  pub noted_above : (name : List ℕ) (n : ℕ) → v ≤ n → (changes : List Change) → is_changed name (n + 1) (above_of v changes) ≡ is_changed name (n + 1) changes
  noted_above name n le [] = refl
  noted_above name n le (change ∷ changes) = by (nat_lt v change.at.0) refl (eqb_tells change.at.0 (n + 1)) (noted_above name n le changes)
    where
      by : (b : Bool) → nat_lt v change.at.0 ≡ b → ((nat_eq change.at.0 (n + 1) ≡ true) × (change.at.0 ≡ n + 1)) ⊎ ((nat_eq change.at.0 (n + 1) ≡ false) × (change.at.0 ≢ n + 1)) → is_changed name (n + 1) (above_of v changes) ≡ is_changed name (n + 1) changes
          → is_changed name (n + 1) (cond b (change ∷ above_of v changes) (above_of v changes)) ≡ is_changed name (n + 1) (change ∷ changes)
      by true e h later = ap (λ (b : Bool). (nat_eq change.at.0 (n + 1) && pointwise nat_eq name change.name) || b) later
      by false e (inl same) later = let at : change.at.0 ≡ n + 1 = same.1 in let under : change.at.0 ≤ v = ltb-false v change.at.0 e in absurd (omega (arith, at, under, le))
      by false e (inr apart) later = later ∙ sym (ap (λ (b : Bool). (b && pointwise nat_eq name change.name) || is_changed name (n + 1) changes) apart.0)

  pub all_above : (Q : Change → Type 0) (changes : List Change) → All Q changes → All Q (above_of v changes)
  all_above Q [] all = All-nil Q
  all_above Q (change ∷ changes) all = by (nat_lt v change.at.0) (all_above Q changes (All-tail Q change changes all))
    where
      by : (b : Bool) → All Q (above_of v changes) → All Q (cond b (change ∷ above_of v changes) (above_of v changes))
      by true later = All-cons Q change (above_of v changes) (All-head Q change changes all) later
      by false later = later

  pub falling_above : (changes : List Change) → AreFalling changes → AreFalling (above_of v changes)
  falling_above [] falling = tt
  falling_above (change ∷ changes) falling = by (nat_lt v change.at.0) (falling_above changes falling.1)
    where
      by : (b : Bool) → AreFalling (above_of v changes) → AreFalling (cond b (change ∷ above_of v changes) (above_of v changes))
      by true later = (all_above (λ earlier. earlier.at.0 ≤ change.at.0) changes falling.0, later)
      by false later = later

-- ---- the manager

module _ {P : Type 0} (least : P → ℕ) (view : P → ℕ → Contents) (m : Managed P) (managed : IsManaged least view m) (v : Lsn) (from : m.floor.0 ≤ v.0) (to : v.0 ≤ m.top.0) (chains : List (List ℕ × List (Slot P))) (rising : AreRising chains)
    (each : (name : List ℕ) → IsMergedTo least view v.0 (chain_of name m.chains) (chain_of name chains)) where
  pub merged : IsManaged least view (record { chains = chains; changes = above_of v.0 m.changes; floor = v; top = m.top })
  merged = record {
    in_order = to;
    rising = rising;
    noted = λ name. record {
      kept = (each name).kept;
      rests = λ n le e.
          (each name).views (n + 1) (omega (arith, le)) ∙ (managed.noted name).rests n (omega (arith, from, le)) (sym (noted_above v.0 name n le m.changes) ∙ e)
          ∙ sym ((each name).views n le);
    };
    recent = all_above v.0 (λ c. c.at.0 ≤ m.top.0) m.changes managed.recent;
    falling = falling_above v.0 m.changes managed.falling;
  }

  pub merged_states : (changes : List Change) → AreSame v.0 (state_at view m) (state_at view (record { chains = chains; changes = changes; floor = v; top = m.top }))
  merged_states changes = λ w le. same_shown view w w chains m.chains rising managed.rising (λ name. (each name).views w le)

-- ---- the collections of all names

module _ {P F : Type 0} (least : P → ℕ) (view : P → ℕ → Contents) (v : ℕ) (T : F → List ℕ → List (Slot P) → Bool → List (Slot P) → F → Type 0) (I : F → Type 0)
    (told : (f : F) (k : List ℕ) (chain : List (Slot P)) (b : Bool) (now : List (Slot P)) (g : F) → I f → T f k chain b now g → IsMergedTo least view v chain now × (b ≡ false → now ≡ []) × I g) where
  -- keys that are above a key stay so
  below_left : (k : List ℕ) (f : F) (es kept : List (List ℕ × List (Slot P))) → RetainsPairs T f es kept → AllByRecursion (λ y. order k y ≡ Less) (keys_of es) → AllByRecursion (λ y. order k y ≡ Less) (keys_of kept)
  below_left k f [] kept s h = subst (λ (l : List (List ℕ × List (Slot P))). AllByRecursion (λ y. order k y ≡ Less) (keys_of l)) (sym s) tt
  below_left k f (e ∷ es) kept s h = subst (λ (l : List (List ℕ × List (Slot P))). AllByRecursion (λ y. order k y ≡ Less) (keys_of l)) (sym s.6) (by s.0 (below_left k s.2 es s.3 s.5 h.1))
    where
      by : (b : Bool) → AllByRecursion (λ y. order k y ≡ Less) (keys_of s.3) → AllByRecursion (λ y. order k y ≡ Less) (keys_of (cond b ((e.0, s.1) ∷ s.3) s.3))
      by true later = (h.0, later)
      by false later = later

  pub rising_left : (f : F) (es kept : List (List ℕ × List (Slot P))) → RetainsPairs T f es kept → AreRising es → AreRising kept
  rising_left f [] kept s rising = subst AreRising (sym s) rising
  rising_left f (e ∷ es) kept s rising = subst AreRising (sym s.6) (by s.0 (rising_left s.2 es s.3 s.5 (sorted_tail order e.0 (keys_of es) rising)))
    where
      by : (b : Bool) → AreRising s.3 → AreRising (cond b ((e.0, s.1) ∷ s.3) s.3)
      by true later = rising-cons e.0 s.1 s.3 (below_left e.0 s.2 es s.3 s.5 (sorted_head order e.0 (keys_of es) rising)) later
      by false later = later

  nothing : IsMergedTo least view v [] []
  nothing = record { kept = All-nil (λ (s : Slot P). least s.provider ≤ v); views = λ w le. refl }

  pub merged_each : (f : F) (es kept : List (List ℕ × List (Slot P))) → I f → RetainsPairs T f es kept → AreRising es → (name : List ℕ) → IsMergedTo least view v (chain_of name es) (chain_of name kept)
  merged_each f [] kept i s rising name = subst (λ (l : List (List ℕ × List (Slot P))). IsMergedTo least view v (chain_of name []) (chain_of name l)) (sym s) nothing
  merged_each f (e ∷ es) kept i s rising name =
      subst (λ (l : List (List ℕ × List (Slot P))). IsMergedTo least view v (chain_of name (e ∷ es)) (chain_of name l)) (sym s.6)
      (by (merged_each s.2 es s.3 (told f e.0 e.1 s.0 s.1 s.2 i s.4).2 s.5 (sorted_tail order e.0 (keys_of es) rising) name) s.0 (told f e.0 e.1 s.0 s.1 s.2 i s.4).1 (cases_text name e.0))
    where
      one : IsMergedTo least view v e.1 s.1
      one = (told f e.0 e.1 s.0 s.1 s.2 i s.4).0

      above : AllByRecursion (λ y. order e.0 y ≡ Less) (keys_of s.3)
      above = below_left e.0 s.2 es s.3 s.5 (sorted_head order e.0 (keys_of es) rising)

      found : (x : List ℕ × List (Slot P)) (l : List (List ℕ × List (Slot P))) → name ≡ x.0 → chain_of name (x ∷ l) ≡ x.1
      found x l same = subst (λ (n : List ℕ). chain_of n (x ∷ l) ≡ x.1) (sym same) (ap (λ (o : Option (List (Slot P))). option_map_or (λ c. c) o []) (at_head x l))

      behind : (x : List ℕ × List (Slot P)) (l : List (List ℕ × List (Slot P))) → name ≢ x.0 → chain_of name (x ∷ l) ≡ chain_of name l
      behind x l apart = ap (λ (o : Option (List (Slot P))). option_map_or (λ c. c) o []) (at_behind name x l apart)

      gone : name ≡ e.0 → chain_of name s.3 ≡ []
      gone same = subst (λ (n : List ℕ). chain_of n s.3 ≡ []) (sym same) (ap (λ (o : Option (List (Slot P))). option_map_or (λ c. c) o []) (below_absent e.0 s.3 above))

      both : (a b x y : List (Slot P)) → a ≡ x → b ≡ y → IsMergedTo least view v x y → IsMergedTo least view v a b
      both a b x y p q h = subst (λ (l : List (Slot P)). IsMergedTo least view v l b) (sym p) (subst (IsMergedTo least view v x) (sym q) h)

      by : IsMergedTo least view v (chain_of name es) (chain_of name s.3) → (b : Bool) → (b ≡ false → s.1 ≡ []) → (name ≡ e.0) ⊎ (name ≢ e.0) → IsMergedTo least view v (chain_of name (e ∷ es)) (chain_of name (cond b ((e.0, s.1) ∷ s.3) s.3))
      by others true empty (inl same) = both (chain_of name (e ∷ es)) (chain_of name ((e.0, s.1) ∷ s.3)) e.1 s.1 (found e es same) (found (e.0, s.1) s.3 same) one
      by others true empty (inr apart) = both (chain_of name (e ∷ es)) (chain_of name ((e.0, s.1) ∷ s.3)) (chain_of name es) (chain_of name s.3) (behind e es apart) (behind (e.0, s.1) s.3 apart) others
      by others false empty (inl same) = both (chain_of name (e ∷ es)) (chain_of name s.3) e.1 s.1 (found e es same) (gone same ∙ sym (empty refl)) one
      by others false empty (inr apart) = both (chain_of name (e ∷ es)) (chain_of name s.3) (chain_of name es) (chain_of name s.3) (behind e es apart) refl others

-- what is of each entry is of one in the middle
pub kept_within : {P : Type 0} (least : P → ℕ) (v : ℕ) (before rest : List (List ℕ × List (Slot P))) (k : List ℕ) (chain : List (Slot P)) (es : List (List ℕ × List (Slot P))) → es ≡ before ++ (k, chain) ∷ rest
    → All (λ entry. AreKept least v entry.1) es → AreKept least v chain
kept_within {P} least v before rest k chain es e all = by before (subst (All (λ (entry : List ℕ × List (Slot P)). AreKept least v entry.1)) e all)
  where
    by : (before : List (List ℕ × List (Slot P))) → All (λ entry. AreKept least v entry.1) (before ++ (k, chain) ∷ rest) → AreKept least v chain
    by [] all = All-head (λ (entry : List ℕ × List (Slot P)). AreKept least v entry.1) (k, chain) rest all
    by (x ∷ before) all = by before (All-tail (λ (entry : List ℕ × List (Slot P)). AreKept least v entry.1) x (before ++ (k, chain) ∷ rest) all)
