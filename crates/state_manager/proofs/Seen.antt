-- What is seen of the collections of a name after each step.
use Rattle.std.proofs.Common.{◌≡◌, ◌∙◌, ◌⊎◌, inl, inr, ℕ, ◌≤◌, ◌<◌, nat_le, min, Bool, true, false, cond, List, [], ◌∷◌, ◌++◌, Option, Some, None, option_map, refl, sym, ap, ap₂, subst, arith}
use Rattle.std.specs.Prelude.{IfSome, slice_index_or, slice_set, length}
use Rattle.std.specs.Option.{option_map_or}
use Rattle.std.proofs.lemmas.Bool.{cases_lt, le-leb, leb-true, leb-false, lt-leb, cond-true, cond-false}
use Rattle.std.proofs.Math.Nat.{min-eq_left, min-eq_right}
use Rattle.std.proofs.lemmas.List.Elements.{All-cons, All-head, All-tail}
use Rattle.rc_base.specs.declared.ids.Lsn.{Lsn}
use Rattle.coll_model.specs.declared.contents.Contents.{Contents}
use Rattle.state_manager.specs.declared.slot.Slot.{Slot}
use Rattle.state_manager.specs.Chains.{AreCut, is_dropped, standing, seen, own, dropped_by, made_by, AreKept, HasNewest, IsSlotReset, IsSettled, KeepsAll, IsCut}

-- ---- the lesser of two versions

pub min_split : (w v : ℕ) → ((w ≤ v) × (min w v ≡ w)) ⊎ ((v ≤ w) × (min w v ≡ v))
min_split w v = by (cases_lt w v)
  where
    by : (w < v) ⊎ (v ≤ w) → ((w ≤ v) × (min w v ≡ w)) ⊎ ((v ≤ w) × (min w v ≡ v))
    by (inl less) = let le : w ≤ v = omega (arith, less) in inl (le, min-eq_left le)
    by (inr le) = inr (le, min-eq_right le)

pub min_below : (w v : ℕ) → min w v ≤ v
min_below w v = elim (min_split w v) [ inl h ↦ subst (λ (n : ℕ). n ≤ v) (sym h.1) h.0 | inr h ↦ subst (λ (n : ℕ). n ≤ v) (sym h.1) (omega arith) ]

pub min_over : (w v f : ℕ) → f ≤ w → f ≤ v → f ≤ min w v
min_over w v f a b = elim (min_split w v) [ inl h ↦ subst (λ (n : ℕ). f ≤ n) (sym h.1) a | inr h ↦ subst (λ (n : ℕ). f ≤ n) (sym h.1) b ]

-- ---- by one collection and the older ones

module _ {P : Type 0} (view : P → ℕ → Contents) where
  seen_cons : (w : ℕ) (slot : Slot P) (older : List (Slot P)) → seen view w (slot ∷ older) ≡ cond (nat_le slot.made.0 w) (own view w slot) (seen view w older)
  seen_cons w slot older = by (nat_le slot.made.0 w) (is_dropped w slot)
    where
      by : (b d : Bool) → option_map (λ s. view s.provider w) (cond b (cond d None (Some slot)) (standing w older)) ≡ cond b (cond d None (Some (view slot.provider w))) (seen view w older)
      by true true = refl
      by true false = refl
      by false d = refl

  -- one that was made by then tells
  pub seen_own : (w : ℕ) (slot : Slot P) (older : List (Slot P)) → slot.made.0 ≤ w → seen view w (slot ∷ older) ≡ own view w slot
  seen_own w slot older le = seen_cons w slot older ∙ cond-true (nat_le slot.made.0 w) (own view w slot) (seen view w older) (le-leb slot.made.0 w le)

  -- one that was made later doesn't
  pub seen_older : (w : ℕ) (slot : Slot P) (older : List (Slot P)) → w < slot.made.0 → seen view w (slot ∷ older) ≡ seen view w older
  seen_older w slot older less = seen_cons w slot older ∙ cond-false (nat_le slot.made.0 w) (own view w slot) (seen view w older) (lt-leb slot.made.0 w less)

  -- what is seen behind newer ones, by what is seen there
  pub seen_newer : (w : ℕ) (newer a b : List (Slot P)) → seen view w a ≡ seen view w b → seen view w (newer ++ a) ≡ seen view w (newer ++ b)
  seen_newer w [] a b same = same
  seen_newer w (slot ∷ newer) a b same =
      seen_cons w slot (newer ++ a) ∙ ap (cond (nat_le slot.made.0 w) (own view w slot)) (seen_newer w newer a b same) ∙ sym (seen_cons w slot (newer ++ b))

  seen_made_by : (v w : ℕ) → w ≤ v → (chain : List (Slot P)) → seen view w (made_by v chain) ≡ seen view w chain
  seen_made_by v w le [] = refl
  seen_made_by v w le (slot ∷ older) = by (nat_le slot.made.0 v) refl (seen_made_by v w le older)
    where
      by : (b : Bool) → nat_le slot.made.0 v ≡ b → seen view w (made_by v older) ≡ seen view w older → seen view w (cond b (slot ∷ older) (made_by v older)) ≡ seen view w (slot ∷ older)
      by true e later = refl
      by false e later =
          let less : v < slot.made.0 = leb-false slot.made.0 v e in
          later ∙ sym (seen_older w slot older (omega (arith, less, le)))

-- the newest, where there is one, was made by the version
abbrev pub IsMadeBy : {P : Type 0} → ℕ → List (Slot P) → Type 0
IsMadeBy v [] = Unit {0}
IsMadeBy v (slot ∷ older) = slot.made.0 ≤ v

module _ {P : Type 0} where
  pub made_by_newest : (v : ℕ) (chain : List (Slot P)) → IsMadeBy v (made_by v chain)
  made_by_newest v [] = tt
  made_by_newest v (slot ∷ older) = by (nat_le slot.made.0 v) refl (made_by_newest v older)
    where
      by : (b : Bool) → nat_le slot.made.0 v ≡ b → IsMadeBy v (made_by v older) → IsMadeBy v (cond b (slot ∷ older) (made_by v older))
      by true e later = leb-true slot.made.0 v e
      by false e later = later

  pub kept_made_by : (least : P → ℕ) (v : ℕ) → (chain : List (Slot P)) → KeepsAll least chain (made_by v chain)
  kept_made_by least v [] = λ floor all. all
  kept_made_by least v (slot ∷ older) = by (nat_le slot.made.0 v) (kept_made_by least v older)
    where
      by : (b : Bool) → KeepsAll least older (made_by v older) → KeepsAll least (slot ∷ older) (cond b (slot ∷ older) (made_by v older))
      by true later = λ floor all. all
      by false later = λ floor all. later floor (All-tail (λ s. least s.provider ≤ floor) slot older all)

  -- the older ones are as they were
  pub kept_newest : (least : P → ℕ) (steps : Slot P → Slot P → Type 0) → ((slot now : Slot P) → steps slot now → least now.provider ≡ least slot.provider) → (old new : List (Slot P)) → HasNewest steps old new → KeepsAll least old new
  kept_newest least steps same [] new e = λ floor all. subst (AreKept least floor) (sym e) all
  kept_newest least steps same (slot ∷ older) new h = λ floor all.
      let first : least h.0.provider ≤ floor = subst (λ (n : ℕ). n ≤ floor) (sym (same slot h.0 h.1)) (All-head (λ s. least s.provider ≤ floor) slot older all) in
      subst (AreKept least floor) (sym h.2) (All-cons (λ s. least s.provider ≤ floor) h.0 older first (All-tail (λ s. least s.provider ≤ floor) slot older all))

-- ---- an undo

le_min : (at w v : ℕ) → at ≤ v → nat_le at w ≡ nat_le at (min w v)
le_min at w v le = by (min_split w v)
  where
    by : ((w ≤ v) × (min w v ≡ w)) ⊎ ((v ≤ w) × (min w v ≡ v)) → nat_le at w ≡ nat_le at (min w v)
    by (inl h) = ap (nat_le at) (sym h.1)
    by (inr h) = let under : at ≤ w = omega (arith, le, h.0) in le-leb at w under ∙ sym (ap (nat_le at) h.1 ∙ le-leb at v le)

dropped_cut : (w v : ℕ) (o : Option Lsn) → option_map_or (λ at. nat_le at.0 w) (dropped_by v o) false ≡ option_map_or (λ at. nat_le at.0 (min w v)) o false
dropped_cut w v None = refl
dropped_cut w v (Some at) = by (nat_le at.0 v) refl
  where
    later : v < at.0 → min w v < at.0
    later less = elim (min_split w v) [ inl h ↦ subst (λ (n : ℕ). n < at.0) (sym h.1) (omega (arith, less, h.0)) | inr h ↦ subst (λ (n : ℕ). n < at.0) (sym h.1) less ]

    by : (b : Bool) → nat_le at.0 v ≡ b → option_map_or (λ a. nat_le a.0 w) (cond b (Some at) None) false ≡ nat_le at.0 (min w v)
    by true e = le_min at.0 w v (leb-true at.0 v e)
    by false e = sym (lt-leb at.0 (min w v) (later (leb-false at.0 v e)))

dropped_by_settled : (v : ℕ) (o : Option Lsn) → IfSome (dropped_by v o) (λ at. at.0 ≤ v)
dropped_by_settled v None = tt
dropped_by_settled v (Some at) = by (nat_le at.0 v) refl
  where
    by : (b : Bool) → nat_le at.0 v ≡ b → IfSome (cond b (Some at) None) (λ a. a.0 ≤ v)
    by true e = leb-true at.0 v e
    by false e = tt

module _ {P : Type 0} (least greatest : P → ℕ) (view : P → ℕ → Contents) where
  own_reset : (v w : ℕ) (slot now : Slot P) → IsSlotReset least greatest view v slot now → least slot.provider ≤ w → own view w now ≡ own view (min w v) slot
  own_reset v w slot now reset from =
      ap₂ (λ (d : Bool) (c : Contents). cond d None (Some c)) (ap (λ (o : Option Lsn). option_map_or (λ at. nat_le at.0 w) o false) reset.dropped ∙ dropped_cut w v slot.dropped) (reset.views w from)

  seen_reset : (v floor : ℕ) (old new : List (Slot P)) → HasNewest (IsSlotReset least greatest view v) old new → IsMadeBy v old → AreKept least floor old → floor ≤ v
      → AreCut v floor (λ w. seen view w old) (λ w. seen view w new)
  seen_reset v floor [] new e made kept under = λ w from. ap (seen view w) e
  seen_reset v floor (slot ∷ older) new h made kept under = λ w from. ap (seen view w) h.2 ∙ by w from (cases_lt w slot.made.0)
    where
      now : Slot P
      now = h.0

      now_made : now.made.0 ≡ slot.made.0
      now_made = ap (λ (at : Lsn). at.0) h.1.made

      by : (w : ℕ) → floor ≤ w → (w < slot.made.0) ⊎ (slot.made.0 ≤ w) → seen view w (now ∷ older) ≡ seen view (min w v) (slot ∷ older)
      by w from (inl less) =
          let whole : min w v ≡ w = min-eq_left (omega (arith, less, made)) in
          seen_older view w now older (subst (λ (n : ℕ). w < n) (sym now_made) less) ∙ sym (ap (λ (n : ℕ). seen view n (slot ∷ older)) whole ∙ seen_older view w slot older less)
      by w from (inr le) =
          let under_min : slot.made.0 ≤ min w v = elim (min_split w v) [ inl m ↦ subst (λ (n : ℕ). slot.made.0 ≤ n) (sym m.1) le | inr m ↦ subst (λ (n : ℕ). slot.made.0 ≤ n) (sym m.1) made ] in
          let first : least slot.provider ≤ floor = All-head (λ s. least s.provider ≤ floor) slot older kept in
          seen_own view w now older (subst (λ (n : ℕ). n ≤ w) (sym now_made) le)
          ∙ own_reset v w slot now h.1 (omega (arith, first, from))
          ∙ sym (seen_own view (min w v) slot older under_min)

  pub settled_reset : (v : ℕ) (old new : List (Slot P)) → HasNewest (IsSlotReset least greatest view v) old new → IsMadeBy v old → IsSettled greatest v new
  settled_reset v [] new e made = subst (IsSettled greatest v) (sym e) tt
  settled_reset v (slot ∷ older) new h made = subst (IsSettled greatest v) (sym h.2) (record {
    made = subst (λ (at : Lsn). at.0 ≤ v) (sym h.1.made) made;
    to = h.1.to;
    dropped = subst (λ (o : Option Lsn). IfSome o (λ at. at.0 ≤ v)) (sym h.1.dropped) (dropped_by_settled v slot.dropped);
  })

  pub cut_reset : (v : ℕ) (old new : List (Slot P)) → HasNewest (IsSlotReset least greatest view v) (made_by v old) new → IsCut least view v old new
  cut_reset v old new h = record {
    kept = λ floor all. kept_newest least (IsSlotReset least greatest view v) (λ slot now reset. reset.floor) (made_by v old) new h floor (kept_made_by least v old floor all);
    views = λ floor all under w from.
        seen_reset v floor (made_by v old) new h (made_by_newest v old) (kept_made_by least v old floor all) under w from
        ∙ seen_made_by view v (min w v) (elim (min_split w v) [ inl m ↦ subst (λ (n : ℕ). n ≤ v) (sym m.1) m.0 | inr m ↦ subst (λ (n : ℕ). n ≤ v) (sym m.1) (omega arith) ]) old;
  }

-- ---- the newest, in the steps of the code

module _ {P : Type 0} (steps : Slot P → Slot P → Type 0) where
  pub newest_set : (items : List (Slot P)) (slot now : Slot P) → 0 < length items → slot ≡ slice_index_or items 0 slot → steps slot now → HasNewest steps items (slice_set items 0 now)
  newest_set [] slot now more e h = absurd (omega (arith, more))
  newest_set (first ∷ older) slot now more e h = (now, subst (λ (s : Slot P). steps s now) e h, refl)

  pub newest_none : (items : List (Slot P)) → length items ≡ 0 → HasNewest steps items items
  newest_none [] e = refl
  newest_none (first ∷ older) e = absurd (omega (arith, e))
