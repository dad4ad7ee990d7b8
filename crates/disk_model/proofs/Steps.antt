-- The changes since a sync, one after the other.
use Rattle.std.proofs.Common.{◌≡◌, ℕ, ◌+◌, ◌≤◌, ◌<◌, ◌/◌, ◌%◌, List, ◌∷◌, length, drop, get_or, sym, ◌∙◌, ap, subst, arith}
use Rattle.std.proofs.lemmas.List.{at_drop_more}
use Rattle.disk_model.specs.Disk.{Areas, with_area}
use Rattle.disk_model.specs.Changes.{left_of, left_by, done, reach}
use Rattle.disk_model.specs.declared.change.Change.{Change}

-- a function of the changes that are left, at the next of them
pub at_next : {Y : Type 0} (F : List Change → Y) (changes : List Change) (i : ℕ) (change : Change) → i < length changes → change ≡ get_or changes i change → F (drop i changes) ≡ F (change ∷ drop (i + 1) changes)
at_next F changes i change within is = at_drop_more F changes i change within ∙ ap (λ (x : Change). F (x ∷ drop (i + 1) changes)) (sym is)

pub done_more : (changes : List Change) (i : ℕ) (change : Change) (now later : Areas) → i < length changes → change ≡ get_or changes i change → later ≡ with_area change.area (left_of change.edit 1) now → done (drop (i + 1) changes) later ≡ done (drop i changes) now
done_more changes i change now later within is step = ap (done (drop (i + 1) changes)) step ∙ sym (at_next (λ (cs : List Change). done cs now) changes i change within is)

pub left_by_more : (pick : ℕ) (changes : List Change) (i : ℕ) (change : Change) (now later : Areas) → i < length changes → change ≡ get_or changes i change → later ≡ with_area change.area (left_of change.edit (pick % 3)) now → left_by (pick / 3) (drop (i + 1) changes) later ≡ left_by pick (drop i changes) now
left_by_more pick changes i change now later within is step = ap (left_by (pick / 3) (drop (i + 1) changes)) step ∙ sym (at_next (λ (cs : List Change). left_by pick cs now) changes i change within is)

pub reach_more : (a : ℕ) (changes : List Change) (i : ℕ) (change : Change) → i < length changes → change ≡ get_or changes i change → reach a (drop (i + 1) changes) ≤ reach a (drop i changes)
reach_more a changes i change within is = subst (λ (n : ℕ). reach a (drop (i + 1) changes) ≤ n) (sym (at_next (reach a) changes i change within is)) (omega arith)
