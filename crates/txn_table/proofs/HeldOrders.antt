-- What a whole log holds of an order with nothing before it.
use Rattle.std.proofs.Common.{◌≡◌, ℕ, zero, suc, ◌-◌, ◌<◌, ◌≤◌, List, [], ◌∷◌, length, take, refl, sym, ap, ◌∙◌, arith}
use Rattle.std.specs.Prelude.{◌↔◌, slice_get, Option, Some}
use Rattle.std.proofs.lemmas.List.{take-take}
use Rattle.std.proofs.lemmas.Option.{none-some}
use Rattle.std.proofs.Math.Nat.{zero-max}
use Rattle.txn_table.specs.declared.committed.Committed.{Committed}
use Rattle.txn_table.specs.Log.{Items, no_base, commits_in}
use Rattle.txn_table.specs.Held.{CommitOrder, contents_after, HoldsOrder}

-- ---- elements of lists that begin alike

take_below : {X : Type 0} (n m : ℕ) (xs ys : List X) → n ≤ m → take m xs ≡ take m ys → take n xs ≡ take n ys
take_below n m xs ys le same = sym (take-take n m xs le) ∙ ap (take n) same ∙ take-take n m ys le

get_take : {X : Type 0} (n i : ℕ) (xs : List X) → i < n → slice_get (take n xs) i ≡ slice_get xs i
get_take zero i xs lt = absurd (omega arith)
get_take (suc n) i [] lt = refl
get_take (suc n) zero (x ∷ xs) lt = refl
get_take (suc n) (suc i) (x ∷ xs) lt = get_take n i xs (omega arith)

some_same : {X : Type 0} (x y : X) → ◌≡◌ {A = Option X} (Some x) (Some y) → x ≡ y
some_same x y e = cc

take_same : {X : Type 0} (n : ℕ) (xs ys : List X) → ((i : ℕ) → i < n → slice_get xs i ≡ slice_get ys i) → take n xs ≡ take n ys
take_same zero xs ys same = refl
take_same (suc n) [] [] same = refl
take_same (suc n) [] (y ∷ ys) same = absurd (none-some y (same 0 (omega arith)))
take_same (suc n) (x ∷ xs) [] same = absurd (none-some x (sym (same 0 (omega arith))))
take_same (suc n) (x ∷ xs) (y ∷ ys) same =
    ap (λ (l : List _). x ∷ l) (take_same n xs ys (λ i lt. same (suc i) (omega arith))) ∙ ap (λ z. z ∷ take n ys) (some_same x y (same 0 (omega arith)))

-- ---- the order

-- these commits, with nothing before them
abbrev pub whole_order : List Committed → CommitOrder
whole_order commits = record { count = 0; contents = []; commits = commits }

-- the first commits of a log are those of an order
pub record BeginsAlike (log : Items) (commits : List Committed) (place : ℕ) : Type 0 where
  pub enough : place ≤ length (commits_in log)
  pub same : take place (commits_in log) ≡ take place commits

begins_alike : (log : Items) (commits : List Committed) (place : ℕ) → HoldsOrder no_base log (whole_order commits) place → BeginsAlike log commits place
begins_alike log commits place holds = record {
  enough = omega (arith, holds.enough);
  same = take_same place (commits_in log) commits (λ i lt.
      let here : suc i - 1 ≡ i = omega arith in
      ap (λ (n : ℕ). slice_get (commits_in log) n) (sym here) ∙ holds.commits (suc i) (omega arith) (omega (arith, lt)) ∙ ap (λ (n : ℕ). slice_get commits n) here);
}

holds_order : (log : Items) (commits : List Committed) (place : ℕ) → BeginsAlike log commits place → HoldsOrder no_base log (whole_order commits) place
holds_order log commits place alike = record {
  enough = omega (arith, alike.enough);
  contents = λ k from to.
      let within : k - 0 ≤ place = omega (arith, zero-max place, to) in
      ap (contents_after []) (take_below (k - 0) place (commits_in log) commits within alike.same);
  commits = λ k after to.
      let within : k - 1 < place = omega (arith, after, to) in
      sym (get_take place (k - 1) (commits_in log) within) ∙ ap (λ (l : List Committed). slice_get l (k - 1)) alike.same ∙ get_take place (k - 1) commits within;
}

-- where neither has anything before it, this is all that it means that the one holds the other
pub whole_holds : (log : Items) (commits : List Committed) (place : ℕ) → HoldsOrder no_base log (whole_order commits) place ↔ BeginsAlike log commits place
whole_holds log commits place = (begins_alike log commits place, holds_order log commits place)
