-- Vectors as areas.
use Rattle.std.proofs.Common.{◌≡◌, ◌≢◌, inl, inr, ℕ, zero, suc, ◌≤◌, ◌<◌, List, [], ◌∷◌, length, get_or, set, refl, sym, ◌∙◌, ap, subst, arith, rules, Vec, vec_capacity, Result, Ok, Err, IsOk, is_ok, if◌then◌else◌}
use Rattle.std.proofs.lemmas.Bool.{cases_eq}
use Rattle.std.proofs.lemmas.Bool.Decides.{nat_tests}
use Rattle.std.specs.declared.alloc.Global.{Global}
use Rattle.disk_model.specs.Disk.{Areas, with_area}
use Rattle.disk_model.specs.Changes.{held, room}

pub with_area_there : (area : ℕ) (f : List ℕ → List ℕ) (areas : Areas) → with_area area f areas area ≡ f (areas area)
with_area_there area f areas = grind (arith, nat_tests)

pub with_area_elsewhere : (area b : ℕ) (f : List ℕ → List ℕ) (areas : Areas) → b ≢ area → with_area area f areas b ≡ areas b
with_area_elsewhere area b f areas other = grind (arith, nat_tests)

-- areas that agree everywhere are the same
pub same_areas : (a b : Areas) → ((n : ℕ) → a n ≡ b n) → a ≡ b
same_areas a b h = λ i n. h n i

pub held_set_same : (vs : List (Vec ℕ Global)) (i : ℕ) (v : Vec ℕ Global) → i < length vs → held (set vs i v) i ≡ v.items
held_set_same [] i v within = absurd (omega arith)
held_set_same (w ∷ vs) zero v within = refl
held_set_same (w ∷ vs) (suc i) v within = held_set_same vs i v (omega arith)

pub held_set_other : (vs : List (Vec ℕ Global)) (i a : ℕ) (v : Vec ℕ Global) → a ≢ i → held (set vs i v) a ≡ held vs a
held_set_other [] i a v other = refl
held_set_other (w ∷ vs) zero zero v other = absurd (other refl)
held_set_other (w ∷ vs) zero (suc a) v other = refl
held_set_other (w ∷ vs) (suc i) zero v other = refl
held_set_other (w ∷ vs) (suc i) (suc a) v other = held_set_other vs i a v (λ e. other (ap suc e))

pub held_get : (vs : List (Vec ℕ Global)) (i : ℕ) (v : Vec ℕ Global) → i < length vs → v ≡ get_or vs i v → held vs i ≡ v.items
held_get [] i v within is = absurd (omega arith)
held_get (w ∷ vs) zero v within is = ap (λ (u : Vec ℕ Global). u.items) (sym is)
held_get (w ∷ vs) (suc i) v within is = held_get vs i v (omega arith) is

-- one vector is changed
pub held_set : (vs : List (Vec ℕ Global)) (i : ℕ) (old new : Vec ℕ Global) (f : List ℕ → List ℕ) → i < length vs → old ≡ get_or vs i old → new.items ≡ f old.items → held (set vs i new) ≡ with_area i f (held vs)
held_set vs i old new f within is changed = same_areas _ _ (λ a. elim (cases_eq a i) [
  | inl same ↦ ap (λ (b : ℕ). held (set vs i new) b) same ∙ held_set_same vs i new within ∙ changed ∙ ap f (sym (held_get vs i old within is)) ∙ sym (with_area_there i f (held vs)) ∙ ap (λ (b : ℕ). with_area i f (held vs) b) (sym same)
  | inr other ↦ held_set_other vs i a new other ∙ sym (with_area_elsewhere i a f (held vs) other)
])

pub room_get : (vs : List (Vec ℕ Global)) (i : ℕ) (v : Vec ℕ Global) → i < length vs → v ≡ get_or vs i v → room vs i ≡ vec_capacity v
room_get [] i v within is = absurd (omega arith)
room_get (w ∷ vs) zero v within is = ap (λ (u : Vec ℕ Global). vec_capacity u) (sym is)
room_get (w ∷ vs) (suc i) v within is = room_get vs i v (omega arith) is

-- room is not lost where one vector is changed and keeps its own
pub room_set : (vs : List (Vec ℕ Global)) (i : ℕ) (old new : Vec ℕ Global) (a : ℕ) → old ≡ get_or vs i old → vec_capacity old ≤ vec_capacity new → room vs a ≤ room (set vs i new) a
room_set [] i old new a is grown = omega arith
room_set (w ∷ vs) zero old new zero is grown = subst (λ (u : Vec ℕ Global). vec_capacity u ≤ vec_capacity new) is grown
room_set (w ∷ vs) zero old new (suc a) is grown = omega arith
room_set (w ∷ vs) (suc i) old new zero is grown = omega arith
room_set (w ∷ vs) (suc i) old new (suc a) is grown = room_set vs i old new a is grown

-- no bytes without room
pub held_fits : (vs : List (Vec ℕ Global)) (a : ℕ) → length (held vs a) ≤ room vs a
held_fits [] a = omega arith
held_fits (v ∷ vs) zero = omega (arith, v.ok.0, v.ok.1)
held_fits (v ∷ vs) (suc a) = held_fits vs a

pub held_past : (vs : List (Vec ℕ Global)) (a : ℕ) → length vs ≤ a → held vs a ≡ []
held_past [] a past = refl
held_past (v ∷ vs) zero past = absurd (omega arith)
held_past (v ∷ vs) (suc a) past = held_past vs a (omega arith)

pub where_ok : {T E X : Type 0} (r : Result T E) (x a b : List X) → IsOk r → x ≡ (if is_ok r then a else b) → x ≡ a
where_ok (Ok v) x a b ok is = is
where_ok (Err e) x a b ok is = absurd (search rules)
