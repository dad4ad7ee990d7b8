-- What a stop may leave of a disk in memory.
use Rattle.std.proofs.Common.{◌≡◌, ◌≢◌, inl, inr, ℕ, ◌+◌, ◌-◌, ◌≤◌, ◌/◌, ◌%◌, min, max, List, [], ◌∷◌, ◌++◌, length, take, drop, replicate, refl, sym, ◌∙◌, ap, subst, arith}
use Rattle.std.proofs.lemmas.List.{append_assoc, length-append, length-take, length-drop, length-replicate, take-take, take-append-le, take_min, drop_at, drop_all, take_all, length-take-le}
use Rattle.std.proofs.lemmas.Bool.{cases_eq, cases_lt}
use Rattle.std.proofs.lemmas.Bool.Decides.{nat_tests}
use Rattle.disk_model.specs.Disk.{Areas, written, with_area, Torn, Cut, Changes, Follows}
use Rattle.disk_model.specs.Changes.{padded, left_of, left_by, done, MayLeave, MayLeaveOf, images_of, end_of, reach}
use Rattle.disk_model.specs.declared.change.Change.{Change}
use Rattle.disk_model.specs.declared.change.Edit.{Edit}
use Rattle.disk_model.specs.declared.change.Edit.TheVariants.{Write, Shorten}
use Rattle.disk_model.proofs.Areas.{same_areas, with_area_there, with_area_elsewhere}
use Rattle.disk_model.proofs.Bytes.{padded_none}

pub length-padded : (at : ℕ) (old : List ℕ) → length (padded at old) ≡ max at (length old)
length-padded at old = omega (arith, length-append old (replicate (at - length old) 165), length-replicate {A = ℕ} (at - length old) 165)

pub length-written : (at : ℕ) (bytes old : List ℕ) → at ≤ length old → length (written at bytes old) ≡ max (length old) (at + length bytes)
length-written at bytes old within = omega (arith, length-append (take at old ++ bytes) (drop (at + length bytes) old), length-append (take at old) bytes, length-take-le at old within, length-drop (at + length bytes) old)

pub torn_same : (at n : ℕ) (old : List ℕ) → Torn at n old old
torn_same at n old = record { before = take_min at old; after = refl; no_shorter = omega arith }

pub torn_written : (at : ℕ) (bytes old : List ℕ) → Torn at (length bytes) old (written at bytes (padded at old))
torn_written at bytes old =
    let whole = padded at old in
    let size : length whole ≡ max at (length old) = length-padded at old in
    let front : length (take at whole) ≡ at = length-take-le at whole (omega arith) in
    let both : length (take at whole ++ bytes) ≡ at + length bytes = omega (arith, length-append (take at whole) bytes, front) in
    let m = min at (length old) in
    record {
      before = ap (λ (l : List ℕ). take m l) (append_assoc (take at whole) bytes (drop (at + length bytes) whole))
          ∙ take-append-le m (take at whole) (bytes ++ drop (at + length bytes) whole) (omega arith)
          ∙ take-take m at whole (omega arith)
          ∙ take-append-le m old (replicate (at - length old) 165) (omega arith)
          ∙ take_min at old;
      after = drop_at (take at whole ++ bytes) (drop (at + length bytes) whole) (at + length bytes) both ∙ behind;
      no_shorter = omega (arith, length-written at bytes whole (omega arith));
    }
  where
    behind : drop (at + length bytes) (padded at old) ≡ drop (at + length bytes) old
    behind = elim (cases_lt (length old) at) [
      | inl short ↦ drop_all (at + length bytes) (padded at old) (omega (arith, length-padded at old)) ∙ sym (drop_all (at + length bytes) old (omega arith))
      | inr long ↦ ap (λ (l : List ℕ). drop (at + length bytes) l) (padded_none old at long)
    ]

pub cut_same : (len : ℕ) (old : List ℕ) → Cut len old old
cut_same len old = record { no_shorter = omega arith; front = take_all (length old) old (omega arith) }

pub cut_done : (len : ℕ) (old : List ℕ) → Cut len old (take len old)
cut_done len old = record {
  no_shorter = omega (arith, length-take len old);
  front = ap (λ (n : ℕ). take n old) (length-take len old) ∙ take_min len old;
}

-- whatever the digit, what is left is what a stop may leave
pub left_of_may : (edit : Edit) (digit : ℕ) (old : List ℕ) → MayLeave edit old (left_of edit digit old)
left_of_may (Write at bytes) digit old = elim (cases_eq digit 0) [
  | inl none ↦ subst (Torn at (length bytes) old) (sym (at_none none)) (torn_same at (length bytes) old)
  | inr some ↦ elim (cases_eq digit 1) [
    | inl all ↦ subst (Torn at (length bytes) old) (sym (at_all all)) (torn_written at bytes old)
    | inr other ↦ subst (Torn at (length bytes) old) (sym (at_other some other)) (let torn = torn_written at (replicate (length bytes) 165) old in subst (λ (n : ℕ). Torn at n old (written at (replicate (length bytes) 165) (padded at old))) (length-replicate {A = ℕ} (length bytes) 165) torn)
  ]
]
  where
    at_none : digit ≡ 0 → left_of (Write at bytes) digit old ≡ old
    at_none e = grind (arith, nat_tests)

    at_all : digit ≡ 1 → left_of (Write at bytes) digit old ≡ written at bytes (padded at old)
    at_all e = grind (arith, nat_tests)

    at_other : digit ≢ 0 → digit ≢ 1 → left_of (Write at bytes) digit old ≡ written at (replicate (length bytes) 165) (padded at old)
    at_other e f = grind (arith, nat_tests)
left_of_may (Shorten len) digit old = elim (cases_eq digit 0) [
  | inl none ↦ subst (Cut len old) (sym (at_none none)) (cut_same len old)
  | inr some ↦ subst (Cut len old) (sym (at_some some)) (cut_done len old)
]
  where
    at_none : digit ≡ 0 → left_of (Shorten len) digit old ≡ old
    at_none e = grind (arith, nat_tests)

    at_some : digit ≢ 0 → left_of (Shorten len) digit old ≡ take len old
    at_some e = grind (arith, nat_tests)

-- nothing may be left of a change
pub may_leave_same : (edit : Edit) (old : List ℕ) → MayLeave edit old old
may_leave_same (Write at bytes) old = torn_same at (length bytes) old
may_leave_same (Shorten len) old = cut_same len old

pub changes_same : (area : ℕ) (edit : Edit) (areas : Areas) → Changes area (MayLeave edit) areas areas
changes_same area edit areas = record { there = may_leave_same edit (areas area); elsewhere = λ b other. refl }

pub changes_with : (area : ℕ) (edit : Edit) (digit : ℕ) (areas : Areas) → Changes area (MayLeave edit) areas (with_area area (left_of edit digit) areas)
changes_with area edit digit areas = record {
  there = subst (λ (l : List ℕ). MayLeave edit (areas area) l) (sym (with_area_there area (left_of edit digit) areas)) (left_of_may edit digit (areas area));
  elsewhere = λ b other. with_area_elsewhere area b (left_of edit digit) areas other;
}

-- what a stop leaves is one of the images
pub left_by_may : (pick : ℕ) (changes : List Change) (synced : Areas) → MayLeaveOf changes synced (left_by pick changes synced)
left_by_may pick [] synced = refl
left_by_may pick (change ∷ changes) synced = (
  with_area change.area (left_of change.edit (pick % 3)) synced,
  changes_with change.area change.edit (pick % 3) synced,
  left_by_may (pick / 3) changes (with_area change.area (left_of change.edit (pick % 3)) synced),
)

-- one change more is one step more
pub may_leave_push : (changes : List Change) (change : Change) (synced areas : Areas) → MayLeaveOf (changes ++ change ∷ []) synced areas → (d : Areas) × MayLeaveOf changes synced d × Changes change.area (MayLeave change.edit) d areas
may_leave_push [] change synced areas (d, step, is) = (synced, refl, subst (λ (a : Areas). Changes change.area (MayLeave change.edit) synced a) (sym is) step)
may_leave_push (first ∷ changes) change synced areas (d, step, rest) =
    let after = may_leave_push changes change d areas rest in
    (after.0, (d, step, after.1), after.2)

pub done_push : (changes : List Change) (change : Change) (synced : Areas) → done (changes ++ change ∷ []) synced ≡ with_area change.area (left_of change.edit 1) (done changes synced)
done_push [] change synced = refl
done_push (first ∷ changes) change synced = done_push changes change (with_area first.area (left_of first.edit 1) synced)

pub reach_push : (a bound : ℕ) (changes : List Change) (change : Change) → reach a changes ≤ bound → (change.area ≡ a → end_of change.edit ≤ bound) → reach a (changes ++ change ∷ []) ≤ bound
reach_push a bound [] change fits new = elim (cases_eq change.area a) [
  | inl same ↦ let e : end_of change.edit ≤ bound = new same in grind (arith, nat_tests)
  | inr other ↦ grind (arith, nat_tests)
]
reach_push a bound (first ∷ changes) change fits new =
    let rest : reach a (changes ++ change ∷ []) ≤ bound = reach_push a bound changes change (omega arith) new in
    omega arith

pub within_same : (changes changes' : List Change) (synced synced' shown shown' : Areas) → changes' ≡ changes → synced' ≡ synced → shown' ≡ shown → (c : Areas) → images_of changes' synced' shown' c → images_of changes synced shown c
within_same changes changes' synced synced' shown shown' e1 e2 e3 c image =
    subst (λ (l : List Change). images_of l synced shown c) e1 (subst (λ (s : Areas). images_of changes' s shown c) e2 (subst (λ (s : Areas). images_of changes' synced' s c) e3 image))

-- each image after a change was asked is one from before, or what the change may leave of it
pub follows_change : (changes changes' : List Change) (change : Change) (synced synced' shown shown' : Areas) → changes' ≡ changes ++ change ∷ [] → synced' ≡ synced → Changes change.area (MayLeave change.edit) shown shown' → Follows (Changes change.area (MayLeave change.edit)) (images_of changes synced shown) (images_of changes' synced' shown')
follows_change changes changes' change synced synced' shown shown' grows same step c (inl is) = (shown, inl refl, subst (λ (a : Areas). Changes change.area (MayLeave change.edit) shown a) (sym is) step)
follows_change changes changes' change synced synced' shown shown' grows same step c (inr left) =
    let left' : MayLeaveOf (changes ++ change ∷ []) synced c = subst (λ (s : Areas). MayLeaveOf (changes ++ change ∷ []) s c) same (subst (λ (l : List Change). MayLeaveOf l synced' c) grows left) in
    let before = may_leave_push changes change synced c left' in
    (before.0, inr before.1, before.2)

-- a change that was not asked after all: the images are as they were
pub follows_same : (area : ℕ) (edit : Edit) (changes changes' : List Change) (synced synced' shown shown' : Areas) → changes' ≡ changes → synced' ≡ synced → shown' ≡ shown → Follows (Changes area (MayLeave edit)) (images_of changes synced shown) (images_of changes' synced' shown')
follows_same area edit changes changes' synced synced' shown shown' e1 e2 e3 c image =
    (c, within_same changes changes' synced synced' shown shown' e1 e2 e3 c image, changes_same area edit c)

length-left_of : (edit : Edit) (digit bound : ℕ) (old : List ℕ) → length old ≤ bound → end_of edit ≤ bound → length (left_of edit digit old) ≤ bound
length-left_of (Write at bytes) digit bound old fits new =
    let size = length-padded at old in
    let all = length-written at bytes (padded at old) (omega arith) in
    let other = length-written at (replicate (length bytes) 165) (padded at old) (omega arith) in
    let count = length-replicate {A = ℕ} (length bytes) 165 in
    elim (cases_eq digit 0) [
      | inl none ↦ grind (arith, nat_tests)
      | inr some ↦ elim (cases_eq digit 1) [ inl e ↦ grind (arith, nat_tests) | inr e ↦ grind (arith, nat_tests) ]
    ]
length-left_of (Shorten len) digit bound old fits new =
    let size = length-take len old in
    elim (cases_eq digit 0) [ inl e ↦ grind (arith, nat_tests) | inr e ↦ grind (arith, nat_tests) ]

-- no image that a stop leaves is longer than the room that was taken
pub length-left_by : (a bound pick : ℕ) (changes : List Change) (synced : Areas) → length (synced a) ≤ bound → reach a changes ≤ bound → length (left_by pick changes synced a) ≤ bound
length-left_by a bound pick [] synced fits reaches = fits
length-left_by a bound pick (change ∷ changes) synced fits reaches =
    length-left_by a bound (pick / 3) changes (with_area change.area (left_of change.edit (pick % 3)) synced) here (omega arith)
  where
    here : length (with_area change.area (left_of change.edit (pick % 3)) synced a) ≤ bound
    here = elim (cases_eq change.area a) [
      | inl same ↦
          let long : end_of change.edit ≤ bound = grind (arith, nat_tests) in
          subst (λ (l : List ℕ). length l ≤ bound) (sym (ap (λ (b : ℕ). with_area change.area (left_of change.edit (pick % 3)) synced b) (sym same) ∙ with_area_there change.area (left_of change.edit (pick % 3)) synced))
          (length-left_of change.edit (pick % 3) bound (synced change.area) (subst (λ (b : ℕ). length (synced b) ≤ bound) (sym same) fits) long)
      | inr other ↦ subst (λ (l : List ℕ). length l ≤ bound) (sym (with_area_elsewhere change.area a (left_of change.edit (pick % 3)) synced (λ e. other (sym e)))) fits
    ]

-- a write within its area leaves no gap
pub filled_is_written : (area at : ℕ) (copy bytes : List ℕ) (areas : Areas) → copy ≡ bytes → at ≤ length (areas area) → with_area area (left_of (Write at copy) 1) areas ≡ with_area area (written at bytes) areas
filled_is_written area at copy bytes areas same within = same_areas _ _ (λ b. elim (cases_eq b area) [
  | inl here ↦ subst (λ (n : ℕ). with_area area (left_of (Write at copy) 1) areas n ≡ with_area area (written at bytes) areas n) (sym here)
      (with_area_there area (left_of (Write at copy) 1) areas
      ∙ ap (λ (l : List ℕ). written at copy l) (padded_none (areas area) at within)
      ∙ ap (λ (l : List ℕ). written at l (areas area)) same
      ∙ sym (with_area_there area (written at bytes) areas))
  | inr other ↦ with_area_elsewhere area b (left_of (Write at copy) 1) areas other ∙ sym (with_area_elsewhere area b (written at bytes) areas other)
])
