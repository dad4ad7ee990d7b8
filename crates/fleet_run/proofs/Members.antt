-- Members in order are the same members.
use Rattle.std.proofs.Common.{◌≡◌, ◌∙◌, ℕ, zero, suc, ◌+◌, ◌<◌, ◌≤◌, true, false, Bool, cond, List, [], ◌∷◌, length, refl, sym, ap, subst, arith, Option, Some, None, is_some}
use Rattle.std.specs.Prelude.{All, Contains, ◌&&◌, ◌||◌, ◌==◌, filter}
use Rattle.std.specs.List.{list_any}
use Rattle.std.proofs.lemmas.Bool.{false≢true, eqb-true, both_ways}
use Rattle.rc_base.specs.Members.{first_twice}
use Rattle.order_machine.specs.Transitions.{in_order}
use Rattle.fleet_laws.specs.Counting.{count}
use Rattle.fleet_laws.proofs.Counts.{count_yes, count_no, meet}
use Rattle.fleet_run.specs.Sound.{SameMembers}
use Rattle.fleet_run.proofs.Writing.{all_first, all_rest}

nine : List ℕ
nine = 0 ∷ 1 ∷ 2 ∷ 3 ∷ 4 ∷ 5 ∷ 6 ∷ 7 ∷ 8 ∷ []

filter_step : (q p : ℕ → Bool) (x : ℕ) (xs : List ℕ) (b : Bool) → q x ≡ b → count p (filter q xs) ≡ count (λ r. q r && p r) xs → count p (cond b (x ∷ filter q xs) (filter q xs)) ≡ count (λ r. q r && p r) (x ∷ xs)
filter_step q p x xs true is rest = rw (is) (ap (λ (k : ℕ). cond (p x) (suc k) k) rest)
filter_step q p x xs false is rest = rw (is) rest

count_filter : (q p : ℕ → Bool) (xs : List ℕ) → count p (filter q xs) ≡ count (λ r. q r && p r) xs
count_filter q p [] = refl
count_filter q p (x ∷ xs) = filter_step q p x xs (q x) refl (count_filter q p xs)

split_one : (a b c : Bool) (k l : ℕ) → (a ≡ true → b ≡ true → ⊥) → cond ((a || b) && c) (suc (k + l)) (k + l) ≡ cond (a && c) (suc k) k + cond (b && c) (suc l) l
split_one true true c k l apart = absurd (apart refl refl)
split_one true false true k l apart = omega arith
split_one true false false k l apart = refl
split_one false true true k l apart = omega arith
split_one false true false k l apart = refl
split_one false false c k l apart = refl

count_split : (q1 q2 p : ℕ → Bool) (xs : List ℕ) → ((r : ℕ) → q1 r ≡ true → q2 r ≡ true → ⊥) → count (λ r. (q1 r || q2 r) && p r) xs ≡ count (λ r. q1 r && p r) xs + count (λ r. q2 r && p r) xs
count_split q1 q2 p [] apart = refl
count_split q1 q2 p (x ∷ xs) apart =
    ap (λ (k : ℕ). cond ((q1 x || q2 x) && p x) (suc k) k) (count_split q1 q2 p xs apart) ∙ split_one (q1 x) (q2 x) (p x) (count (λ r. q1 r && p r) xs) (count (λ r. q2 r && p r) xs) (apart x)

one_in : (m : ℕ) (p : ℕ → Bool) → m < 9 → count (λ r. (m == r) && p r) nine ≡ cond (p m) 1 0
unfolding nine
one_in zero p lt = refl
one_in (suc zero) p lt = refl
one_in (suc (suc zero)) p lt = refl
one_in (suc (suc (suc zero))) p lt = refl
one_in (suc (suc (suc (suc zero)))) p lt = refl
one_in (suc (suc (suc (suc (suc zero))))) p lt = refl
one_in (suc (suc (suc (suc (suc (suc zero)))))) p lt = refl
one_in (suc (suc (suc (suc (suc (suc (suc zero))))))) p lt = refl
one_in (suc (suc (suc (suc (suc (suc (suc (suc zero)))))))) p lt = refl
one_in (suc (suc (suc (suc (suc (suc (suc (suc (suc m))))))))) p lt = absurd (omega (arith, lt))

add_one : (b : Bool) (k : ℕ) → cond b 1 0 + k ≡ cond b (suc k) k
add_one true k = omega arith
add_one false k = omega arith

abbrev is_in : List ℕ → ℕ → Bool
is_in members r = list_any (λ member. member == r) members

none_some : (b : Bool) (m : ℕ) (x : Option ℕ) → cond b (Some m) x ≡ None → (b ≡ false) × (x ≡ None)
none_some true m x is = absurd (false≢true (sym (ap is_some is)))
none_some false m x is = (refl, is)

empty_filter : filter (λ r. false) nine ≡ []
unfolding nine
empty_filter = refl

count_members : (members : List ℕ) (p : ℕ → Bool) → first_twice members ≡ None → All (λ r. r < 9) members → count p (filter (is_in members) nine) ≡ count p members
count_members [] p once within = ap (count p) empty_filter
count_members (m ∷ ms) p once within =
    let parts = none_some (list_any (λ other. other == m) ms) m (first_twice ms) once in
    let apart : (r : ℕ) → (m == r) ≡ true → is_in ms r ≡ true → ⊥ = λ r a b. both_ways (list_any (λ other. other == m) ms) parts.0 (subst (λ (k : ℕ). is_in ms k ≡ true) (sym (eqb-true m r a)) b) in
    let rest = count_members ms p parts.1 (all_rest (λ r. r < 9) m ms within) in
    count_filter (is_in (m ∷ ms)) p nine
    ∙ count_split (λ r. m == r) (is_in ms) p nine apart
    ∙ ap (λ (k : ℕ). k + count (λ r. is_in ms r && p r) nine) (one_in m p (all_first (λ r. r < 9) m ms within))
    ∙ ap (λ (k : ℕ). cond (p m) 1 0 + k) (sym (count_filter (is_in ms) p nine) ∙ rest)
    ∙ add_one (p m) (count p ms)

count_all : (xs : List ℕ) → count (λ r. true) xs ≡ length xs
count_all [] = refl
count_all (x ∷ xs) = ap suc (count_all xs)

pub ordered_members : (members : List ℕ) → first_twice members ≡ None → All (λ r. r < 9) members → SameMembers (in_order members) members
unfolding nine
ordered_members members once within = record {
  sizes = sym (count_all (in_order members)) ∙ count_members members (λ r. true) once within ∙ count_all members;
  counts = λ p. count_members members p once within;
}

any_step : (q : ℕ → Bool) (x : ℕ) (xs : List ℕ) (b : Bool) → q x ≡ b → (list_any q xs ≡ true → 1 ≤ count q xs) → b || list_any q xs ≡ true → 1 ≤ count q (x ∷ xs)
any_step q x xs true is rest h = omega (arith, count_yes q x xs is)
any_step q x xs false is rest h = omega (arith, count_no q x xs is, rest h)

any_counts : (q : ℕ → Bool) (xs : List ℕ) → list_any q xs ≡ true → 1 ≤ count q xs
any_counts q [] h = absurd (false≢true h)
any_counts q (x ∷ xs) h = any_step q x xs (q x) refl (any_counts q xs) h

-- a member is one in order too
pub member_in_order : (members : List ℕ) (p : ℕ) → first_twice members ≡ None → All (λ r. r < 9) members → list_any (λ m. m == p) members ≡ true → Contains (in_order members) p
member_in_order members p once within there =
    let is = ordered_members members once within in
    let some : 1 ≤ count (λ m. m == p) (in_order members) = omega (arith, is.counts (λ m. m == p), any_counts (λ m. m == p) members there) in
    let found = meet (λ m. m == p) (λ m. true) (in_order members) (omega (arith, some, count_all (in_order members))) in
    subst (λ (k : ℕ). Contains (in_order members) k) (eqb-true found.0 p found.2) found.1
