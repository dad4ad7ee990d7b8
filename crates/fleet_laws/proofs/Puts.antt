-- Functions with a new value at one place, and tests of acknowledgements.
use Rattle.std.proofs.Common.{◌≡◌, ℕ, zero, suc, ◌<◌, ◌≤◌, true, false, not, ◌==◌, ltb, ◌⊎◌, List, [], ◌∷◌, length, refl, ap, sym, ◌∙◌, subst, arith, inl, inr}
use Rattle.std.specs.Prelude.{Contains, All, slice_index_or}
use Rattle.std.proofs.lemmas.Bool.{cond-true, cond-false, cases_eq, eq-eqb, ne_eqb, leb-true, le-leb, ltb-true, lt-ltb, and_parts, and_from, or_cases, or_left, or_right, not-true, not_from_false, both_ways, cases_Bool}
use Rattle.fleet_laws.specs.Fleets.{Fleet, Value, put, IsValueOf}
use Rattle.fleet_laws.specs.Choice.{reaches, all_above, frozen, may_reach}

pub put_same : {A : Type 0} (n : ℕ) (x : A) (f : ℕ → A) (m : ℕ) → m ≡ n → put n x f m ≡ x
put_same n x f m e = cond-true (m == n) x (f m) (eq-eqb m n e)

pub put_other : {A : Type 0} (n : ℕ) (x : A) (f : ℕ → A) (m : ℕ) → (m ≡ n → ⊥) → put n x f m ≡ f m
put_other n x f m ne = cond-false (m == n) x (f m) (ne_eqb m n ne)

-- what is known of the function at m
pub put_split : {A : Type 0} (Q : A → Type 0) (n : ℕ) (x : A) (f : ℕ → A) (m : ℕ) → Q (put n x f m) → ((m ≡ n) × Q x) ⊎ ((m ≡ n → ⊥) × Q (f m))
put_split Q n x f m q = elim (cases_eq m n) [
  | inl e ↦ inl (e, subst Q (put_same n x f m e) q)
  | inr ne ↦ inr (ne, subst Q (put_other n x f m ne) q)
]

-- a function of two places with a new value at one of them
pub put_at : {A : Type 0} (n k : ℕ) (x : A) (f : ℕ → ℕ → A) (m l : ℕ) → ((m ≡ n) × (l ≡ k) × (put n (put k x (f n)) f m l ≡ x)) ⊎ ((m ≡ n → l ≡ k → ⊥) × (put n (put k x (f n)) f m l ≡ f m l))
put_at n k x f m l = elim (cases_eq m n) [
  | inl e ↦ elim (cases_eq l k) [
    | inl d ↦ inl (e, d, ap (λ h. h l) (put_same n (put k x (f n)) f m e) ∙ put_same k x (f n) l d)
    | inr ne ↦ inr (λ a b. ne b, ap (λ h. h l) (put_same n (put k x (f n)) f m e) ∙ (put_other k x (f n) l ne ∙ ap (λ z. f z l) (sym e)))
  ]
  | inr ne ↦ inr (λ a b. ne a, ap (λ h. h l) (put_other n (put k x (f n)) f m ne))
]

-- to show something of the function at m
pub put_both : {A : Type 0} (Q : A → Type 0) (n : ℕ) (x : A) (f : ℕ → A) (m : ℕ) → (m ≡ n → Q x) → ((m ≡ n → ⊥) → Q (f m)) → Q (put n x f m)
put_both Q n x f m a b = elim (cases_eq m n) [
  | inl e ↦ subst Q (sym (put_same n x f m e)) (a e)
  | inr ne ↦ subst Q (sym (put_other n x f m ne)) (b ne)
]

pub first_member : {A : Type 0} (x : A) (xs : List A) → Contains (x ∷ xs) x
first_member x xs = (0, omega arith, refl)

-- the members of a list with one element
pub only_member : {A : Type 0} (x y : A) → Contains (x ∷ []) y → y ≡ x
only_member x y c = let z : c.0 ≡ 0 = omega (arith, c.1) in sym (subst (λ (k : ℕ). slice_index_or (x ∷ []) k y ≡ y) z c.2)

pub some_member : {A : Type 0} (xs : List A) → 1 ≤ length xs → (x : A) × Contains xs x
some_member [] h = absurd (omega arith)
some_member (x ∷ xs) h = (x, first_member x xs)

pub all_one : {A : Type 0} (P : A → Type 0) (x : A) → P x → All P (x ∷ [])
all_one P x h zero d lt = h
all_one P x h (suc k) d lt = absurd (omega arith)

pub all_member : {A : Type 0} (P : A → Type 0) (xs : List A) (x : A) → All P xs → Contains xs x → P x
all_member P xs x h c = subst P c.2 (h c.0 x c.1)

above_step : {R : Type 0} (e : ℕ) (v : Value R) (vs : List (Value R)) (w : Value R) (k : ℕ) → (all_above e vs ≡ true → Contains vs w → e < w.fence) → all_above e (v ∷ vs) ≡ true
    → k < suc (length vs) → slice_index_or (v ∷ vs) k w ≡ w → e < w.fence
above_step e v vs w zero rest h lt is = omega (arith, ltb-true e v.fence (and_parts (ltb e v.fence) (all_above e vs) h).0, ap (λ x. x.fence) is)
above_step e v vs w (suc k) rest h lt is = rest (and_parts (ltb e v.fence) (all_above e vs) h).1 (k, omega arith, is)

pub above : {R : Type 0} (e : ℕ) (vs : List (Value R)) (w : Value R) → all_above e vs ≡ true → Contains vs w → e < w.fence
above e [] w h c = absurd (omega (arith, c.1))
above e (v ∷ vs) w h c = above_step e v vs w c.0 (above e vs w) h c.1 c.2

pub from_above : {R : Type 0} (e : ℕ) (vs : List (Value R)) → ((w : Value R) → Contains vs w → e < w.fence) → all_above e vs ≡ true
from_above e [] h = refl
from_above e (v ∷ vs) h = and_from (ltb e v.fence) (all_above e vs) (lt-ltb e v.fence (h v (first_member v vs))) (from_above e vs (λ w c. h w (suc c.0, omega (arith, c.1), c.2)))

-- a frozen replica isn't the primary, and all its values have fences above
pub frozen_role : {R : Type 0} (f : Fleet R) (e r : ℕ) → frozen f e r ≡ true → f.role r ≡ e → ⊥
frozen_role f e r h is = both_ways (f.role r == e) (not-true (f.role r == e) (and_parts (not (f.role r == e)) (all_above e (f.values r)) h).0) (eq-eqb (f.role r) e is)

pub frozen_above : {R : Type 0} (f : Fleet R) (e r : ℕ) (w : Value R) → frozen f e r ≡ true → IsValueOf f r w → e < w.fence
frozen_above f e r w h c = above e (f.values r) w (and_parts (not (f.role r == e)) (all_above e (f.values r)) h).1 c

pub is_frozen : {R : Type 0} (f : Fleet R) (e r : ℕ) → (f.role r ≡ e → ⊥) → ((w : Value R) → IsValueOf f r w → e < w.fence) → frozen f e r ≡ true
is_frozen f e r ne h = and_from (not (f.role r == e)) (all_above e (f.values r)) (not_from_false (f.role r == e) (ne_eqb (f.role r) e ne)) (from_above e (f.values r) h)

-- whoever may reach a place has reached it, or isn't frozen
pub may_cases : {R : Type 0} (f : Fleet R) (e l r : ℕ) → may_reach f e l r ≡ true → (l ≤ f.acknowledged r e) ⊎ (frozen f e r ≡ false)
may_cases f e l r h = elim (or_cases (reaches f.acknowledged e l r) (not (frozen f e r)) h) [
  | inl x ↦ inl (leb-true l (f.acknowledged r e) x)
  | inr x ↦ inr (not-true (frozen f e r) x)
]

pub may_reached : {R : Type 0} (f : Fleet R) (e l r : ℕ) → l ≤ f.acknowledged r e → may_reach f e l r ≡ true
may_reached f e l r h = or_left (reaches f.acknowledged e l r) (not (frozen f e r)) (le-leb l (f.acknowledged r e) h)

pub may_open : {R : Type 0} (f : Fleet R) (e l r : ℕ) → frozen f e r ≡ false → may_reach f e l r ≡ true
may_open f e l r h = or_right (reaches f.acknowledged e l r) (not (frozen f e r)) (not_from_false (frozen f e r) h)

-- who may reach a place after, may before, if acknowledgements came only from replicas that weren't frozen and frozen ones stay so
pub may_before : {R : Type 0} (f g : Fleet R) (e l r : ℕ) → (l ≤ g.acknowledged r e → (l ≤ f.acknowledged r e) ⊎ (frozen f e r ≡ false)) → (frozen f e r ≡ true → frozen g e r ≡ true)
    → may_reach g e l r ≡ true → may_reach f e l r ≡ true
may_before f g e l r acks stays h = elim (may_cases g e l r h) [
  | inl x ↦ elim (acks x) [ inl y ↦ may_reached f e l r y | inr y ↦ may_open f e l r y ]
  | inr x ↦ elim (cases_Bool (frozen f e r)) [
    | inl y ↦ absurd (both_ways (frozen g e r) x (stays y))
    | inr y ↦ may_open f e l r y
  ]
]
