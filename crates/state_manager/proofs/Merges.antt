-- What a merge leaves of what is seen.
use Rattle.std.proofs.Common.{◌≡◌, ◌∙◌, ℕ, ◌+◌, ◌≤◌, ◌<◌, nat_le, Bool, true, false, cond, List, [], ◌∷◌, ◌++◌, take, drop, length, Option, Some, None, get_or, sym, ap, ap₂, subst, arith}
use Rattle.std.specs.Option.{option_map_or}
use Rattle.std.specs.List.{position}
use Rattle.std.proofs.lemmas.Bool.{le-leb, leb-true}
use Rattle.std.proofs.lemmas.List.{length-append, length-take-le, get_or-take, take-append-drop, append_assoc, append-nil}
use Rattle.std.proofs.lemmas.List.Elements.{All-nil, All-cons, All-head, All-tail}
use Rattle.std.proofs.lemmas.List.Quantifiers.{position-Some}
use Rattle.std.proofs.Math.Seq.{get_or-append_seam}
use Rattle.rc_base.specs.declared.ids.Lsn.{Lsn}
use Rattle.coll_model.specs.declared.contents.Contents.{Contents}
use Rattle.state_manager.specs.declared.slot.Slot.{Slot}
use Rattle.state_manager.specs.Chains.{is_made, is_dropped, seen, own, AreKept, IsMerged}
use Rattle.state_manager.proofs.Seen.{seen_own, seen_newer}

dropped_later : (v w : ℕ) → v ≤ w → (o : Option Lsn) → option_map_or (λ at. nat_le at.0 v) o false ≡ true → option_map_or (λ at. nat_le at.0 w) o false ≡ true
dropped_later v w le None e = e
dropped_later v w le (Some at) e = le-leb at.0 w (omega (arith, leb-true at.0 v e, le))

module _ {P : Type 0} where
  -- the last of those up to the place is the one that is there, and the others are behind it
  pub merged_split : (v place : ℕ) (chain kept : List (Slot P)) (slot : Slot P) → position (is_made v) chain ≡ Some place → take (place + 1) chain ≡ kept ++ slot ∷ []
      → (slot.made.0 ≤ v) × (chain ≡ kept ++ slot ∷ drop (place + 1) chain)
  merged_split v place chain kept slot e cut = (
    leb-true slot.made.0 v (subst (λ (s : Slot P). is_made v s ≡ true) there here.1),
    sym (take-append-drop (place + 1) chain) ∙ ap (λ (l : List (Slot P)). l ++ drop (place + 1) chain) cut ∙ append_assoc kept (slot ∷ []) (drop (place + 1) chain),
  )
    where
      here : (place < length chain) × (is_made v (get_or chain place slot) ≡ true) × ((k : ℕ) → k < place → is_made v (get_or chain k slot) ≡ false)
      here = position-Some (is_made v) chain place slot e

      long : length kept ≡ place
      long =
          let less : place < length chain = here.0 in
          let all : length (take (place + 1) chain) ≡ place + 1 = length-take-le (place + 1) chain (omega (arith, less)) in
          let two : length (take (place + 1) chain) ≡ length kept + 1 = ap (λ (l : List (Slot P)). length l) cut ∙ length-append kept (slot ∷ []) in
          omega (arith, all, two)

      there : get_or chain place slot ≡ slot
      there =
          sym (get_or-take (place + 1) chain place slot (omega arith)) ∙ ap (λ (l : List (Slot P)). get_or l place slot) cut
          ∙ subst (λ (n : ℕ). get_or (kept ++ slot ∷ []) n slot ≡ slot) long (get_or-append_seam kept slot [] slot)

  pub kept_prefix : (least : P → ℕ) (floor : ℕ) (kept rest : List (Slot P)) → AreKept least floor (kept ++ rest) → AreKept least floor kept
  kept_prefix least floor [] rest all = All-nil (λ s. least s.provider ≤ floor)
  kept_prefix least floor (slot ∷ kept) rest all =
      All-cons (λ s. least s.provider ≤ floor) slot kept (All-head (λ s. least s.provider ≤ floor) slot (kept ++ rest) all)
      (kept_prefix least floor kept rest (All-tail (λ s. least s.provider ≤ floor) slot (kept ++ rest) all))

  -- with one more at the end
  pub kept_with : (least : P → ℕ) (floor : ℕ) (kept rest : List (Slot P)) (now : Slot P) → AreKept least floor (kept ++ rest) → least now.provider ≤ floor → AreKept least floor (kept ++ now ∷ [])
  kept_with least floor [] rest now all le = All-cons (λ s. least s.provider ≤ floor) now [] le (All-nil (λ s. least s.provider ≤ floor))
  kept_with least floor (slot ∷ kept) rest now all le =
      All-cons (λ s. least s.provider ≤ floor) slot (kept ++ now ∷ []) (All-head (λ s. least s.provider ≤ floor) slot (kept ++ rest) all)
      (kept_with least floor kept rest now (All-tail (λ s. least s.provider ≤ floor) slot (kept ++ rest) all) le)

  module _ (view : P → ℕ → Contents) where
    -- one that was dropped by the version goes with all behind it
    pub seen_gone : (v : ℕ) (kept rest : List (Slot P)) (slot : Slot P) → slot.made.0 ≤ v → is_dropped v slot ≡ true → (w : ℕ) → v ≤ w → seen view w kept ≡ seen view w (kept ++ slot ∷ rest)
    seen_gone v kept rest slot made gone w le =
        let none : seen view w (slot ∷ rest) ≡ None =
        seen_own view w slot rest (omega (arith, made, le)) ∙ ap (λ (d : Bool). cond d None (Some (view slot.provider w))) (dropped_later v w le slot.dropped gone) in
        ap (seen view w) (sym (append-nil kept)) ∙ seen_newer view w kept [] (slot ∷ rest) (sym none)

    -- one that wasn't is merged, and all behind it go
    pub seen_merged : (least : P → ℕ) (v : ℕ) (kept rest : List (Slot P)) (slot now : Slot P) → slot.made.0 ≤ v → IsMerged least view v slot now → (w : ℕ) → v ≤ w → seen view w (kept ++ now ∷ []) ≡ seen view w (kept ++ slot ∷ rest)
    seen_merged least v kept rest slot now made merged w le =
        let now_made : now.made.0 ≤ v = subst (λ (at : Lsn). at.0 ≤ v) (sym merged.made) made in
        let same : own view w now ≡ own view w slot =
        ap₂ (λ (o : Option Lsn) (c : Contents). cond (option_map_or (λ at. nat_le at.0 w) o false) None (Some c)) merged.dropped (merged.views w le) in
        seen_newer view w kept (now ∷ []) (slot ∷ rest) (seen_own view w now [] (omega (arith, now_made, le)) ∙ same ∙ sym (seen_own view w slot rest (omega (arith, made, le))))
