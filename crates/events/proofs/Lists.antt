-- On tests of the elements of a list, of its beginnings, and of one that was added to.
use Rattle.std.proofs.Common.{◌≡◌, ◌∙◌, ℕ, zero, suc, ◌≤◌, Bool, true, false, ◌||◌, List, [], ◌∷◌, ◌++◌, map, take, set, get_or, length, Option, Some, None, is_some, refl, sym, ap, subst, inl, inr, arith}
use Rattle.std.specs.List.{list_any, AllByRecursion}
use Rattle.std.specs.Option.{option_map_or}
use Rattle.std.proofs.lemmas.Bool.{false≢true, or_cases, or_left, or_right, cases_lt, cases_eq}
use Rattle.std.proofs.lemmas.List.{get_or-set_same, get_or-set_other, get_or_past, set_past}

-- ---- one that passes

-- what a longer beginning has
pub list_any-take_more : {X : Type 0} (p : X → Bool) (n m : ℕ) (xs : List X) → n ≤ m → list_any p (take n xs) ≡ true → list_any p (take m xs) ≡ true
list_any-take_more p zero m xs l h = absurd (false≢true h)
list_any-take_more p (suc n) zero xs l h = absurd (omega arith)
list_any-take_more p (suc n) (suc m) [] l h = absurd (false≢true h)
list_any-take_more p (suc n) (suc m) (x ∷ xs) l h =
    elim (or_cases (p x) (list_any p (take n xs)) h) [
      | inl here ↦ or_left (p x) (list_any p (take m xs)) here
      | inr later ↦ or_right (p x) (list_any p (take m xs)) (list_any-take_more p n m xs (omega arith) later)
    ]

-- what the whole list has
pub list_any-from_take : {X : Type 0} (p : X → Bool) (n : ℕ) (xs : List X) → list_any p (take n xs) ≡ true → list_any p xs ≡ true
list_any-from_take p zero xs h = absurd (false≢true h)
list_any-from_take p (suc n) [] h = absurd (false≢true h)
list_any-from_take p (suc n) (x ∷ xs) h =
    elim (or_cases (p x) (list_any p (take n xs)) h) [
      | inl here ↦ or_left (p x) (list_any p xs) here
      | inr later ↦ or_right (p x) (list_any p xs) (list_any-from_take p n xs later)
    ]

-- what a list that was added to has
pub list_any-take_added : {X : Type 0} (p : X → Bool) (n : ℕ) (xs ys : List X) → list_any p (take n xs) ≡ true → list_any p (take n (xs ++ ys)) ≡ true
list_any-take_added p zero xs ys h = absurd (false≢true h)
list_any-take_added p (suc n) [] ys h = absurd (false≢true h)
list_any-take_added p (suc n) (x ∷ xs) ys h =
    elim (or_cases (p x) (list_any p (take n xs)) h) [
      | inl here ↦ or_left (p x) (list_any p (take n (xs ++ ys))) here
      | inr later ↦ or_right (p x) (list_any p (take n (xs ++ ys))) (list_any-take_added p n xs ys later)
    ]

pub list_any-map : {X Y : Type 0} (p : Y → Bool) (f : X → Y) (xs : List X) → list_any p (map f xs) ≡ list_any (λ x. p (f x)) xs
list_any-map p f [] = refl
list_any-map p f (x ∷ xs) = ap (λ rest. p (f x) || rest) (list_any-map p f xs)

-- ---- all

pub AllByRecursion-push : {X : Type 0} (P : X → Type 0) (xs : List X) (y : X) → AllByRecursion P xs → P y → AllByRecursion P (xs ++ y ∷ [])
AllByRecursion-push P [] y all here = (here, tt)
AllByRecursion-push P (x ∷ xs) y all here = (all.0, AllByRecursion-push P xs y all.1 here)

pub AllByRecursion-weaker : {X : Type 0} (P Q : X → Type 0) (xs : List X) → ((x : X) → P x → Q x) → AllByRecursion P xs → AllByRecursion Q xs
AllByRecursion-weaker P Q [] f all = tt
AllByRecursion-weaker P Q (x ∷ xs) f all = (f x all.0, AllByRecursion-weaker P Q xs f all.1)

-- ---- places

-- where one was written: it, or what stands past the end
pub at_written : {X : Type 0} (P : X → Type 0) (xs : List X) (i : ℕ) (new d : X) → P d → P new → P (get_or (set xs i new) i d)
at_written P xs i new d past here =
    elim (cases_lt i (length xs)) [
      | inl lt ↦ subst P (sym (get_or-set_same xs i new d lt)) here
      | inr le ↦ subst P (sym (ap (λ ys. get_or ys i d) (set_past xs i new le) ∙ get_or_past xs i d le)) past
    ]

-- what holds at each place, behind a write that keeps it
pub at_each : {X : Type 0} (P : ℕ → X → Type 0) (xs : List X) (i : ℕ) (new d : X) → ((k : ℕ) → P k (get_or xs k d)) → P i new → (k : ℕ) → P k (get_or (set xs i new) k d)
at_each P xs i new d all here k =
    elim (cases_eq k i) [
      | inl e ↦ subst (λ j. P j (get_or (set xs i new) j d)) (sym e)
          (elim (cases_lt i (length xs)) [
            | inl lt ↦ subst (P i) (sym (get_or-set_same xs i new d lt)) here
            | inr le ↦ subst (λ ys. P i (get_or ys i d)) (sym (set_past xs i new le)) (all i)
          ])
      | inr ne ↦ subst (P k) (sym (get_or-set_other xs i k new d ne)) (all k)
    ]

-- ---- options

pub some_of : {X : Type 0} (o : Option X) → is_some o ≡ true → (x : X) × (o ≡ Some x)
some_of None h = absurd (false≢true h)
some_of (Some x) h = (x, refl)

pub none_of : {X : Type 0} (o : Option X) → is_some o ≡ false → o ≡ None
none_of None h = refl
none_of (Some x) h = absurd (false≢true (sym h))

-- an option that passes a test isn't none
pub passed : {X : Type 0} (p : X → Bool) (o : Option X) → option_map_or p o false ≡ true → (x : X) × (o ≡ Some x) × (p x ≡ true)
passed p None h = absurd (false≢true h)
passed p (Some x) h = (x, refl, h)

-- the same where the others change too: at each other place, past the end, and where one was written
pub at_each_other : {X : Type 0} (P : ℕ → X → Type 0) (xs : List X) (i : ℕ) (new d : X) → ((k : ℕ) → (k ≡ i → ⊥) → P k (get_or xs k d)) → (get_or xs i d ≡ d → P i d) → P i new → (k : ℕ) → P k (get_or (set xs i new) k d)
at_each_other P xs i new d others past here k =
    elim (cases_eq k i) [
      | inl e ↦ subst (λ j. P j (get_or (set xs i new) j d)) (sym e)
          (elim (cases_lt i (length xs)) [
            | inl lt ↦ subst (P i) (sym (get_or-set_same xs i new d lt)) here
            | inr le ↦ subst (P i) (sym (ap (λ ys. get_or ys i d) (set_past xs i new le) ∙ get_or_past xs i d le)) (past (get_or_past xs i d le))
          ])
      | inr ne ↦ subst (P k) (sym (get_or-set_other xs i k new d ne)) (others k ne)
    ]
