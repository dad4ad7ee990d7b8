-- Beginnings of lists.
use Rattle.std.proofs.Common.{◌≡◌, ℕ, ◌≤◌, List, [], ◌∷◌, ◌++◌, length, take, drop, refl, ap, sym, ◌∙◌, subst, arith, append_assoc}
use Rattle.std.proofs.lemmas.List.{take-take, take-append-drop, append-nil}
use mathlib.Core.List.{IsPrefix}
use Rattle.fleet_laws.specs.Logs.{Entry, Agree}

pub prefix_none : {A : Type 0} (xs : List A) → IsPrefix [] xs
prefix_none xs = (xs, refl)

pub prefix_trans : {A : Type 0} (xs ys zs : List A) → IsPrefix xs ys → IsPrefix ys zs → IsPrefix xs zs
prefix_trans xs ys zs p q = (p.0 ++ q.0, sym (append_assoc xs p.0 q.0) ∙ (ap (λ w. w ++ q.0) p.1 ∙ q.1))

-- of two beginnings of one list the one that isn't longer begins the other
pub prefix_shorter : {A : Type 0} (xs ys zs : List A) → IsPrefix xs zs → IsPrefix ys zs → length xs ≤ length ys → IsPrefix xs ys
prefix_shorter [] ys zs p q le = (ys, refl)
prefix_shorter (x ∷ xs) [] zs p q le = absurd (omega arith)
prefix_shorter (x ∷ xs) (y ∷ ys) [] p q le = absurd (cc (p.1))
prefix_shorter (x ∷ xs) (y ∷ ys) (z ∷ zs) p q le =
    let heads : x ≡ y = cc (p.1, q.1) in
    let rest = prefix_shorter xs ys zs (p.0, cc (p.1)) (q.0, cc (q.1)) (omega arith) in
    (rest.0, cc (heads, rest.1))

pub prefix_self : {A : Type 0} (xs : List A) → IsPrefix xs xs
prefix_self xs = ([], append-nil xs)

-- a list that isn't longer than a beginning of it is one of that
pub prefix_back : {A : Type 0} (xs ys : List A) → IsPrefix xs ys → length ys ≤ length xs → IsPrefix ys xs
prefix_back xs ys p le = prefix_shorter ys xs ys (prefix_self ys) p le

pub take_begins : {A : Type 0} (n m : ℕ) (xs : List A) → n ≤ m → IsPrefix (take n xs) (take m xs)
take_begins n m xs le = (drop n (take m xs), ap (λ w. w ++ drop n (take m xs)) (sym (take-take n m xs le)) ∙ take-append-drop n (take m xs))

pub front_begins : {A : Type 0} (n : ℕ) (xs : List A) → IsPrefix (take n xs) xs
front_begins n xs = (drop n xs, take-append-drop n xs)

pub agree_begins : {R : Type 0} (n m : ℕ) (a b : List (Entry R)) → n ≤ m → Agree n a b → IsPrefix (take n a) (take m b)
agree_begins n m a b le g = subst (λ x. IsPrefix x (take m b)) (sym g.same) (take_begins n m b le)
