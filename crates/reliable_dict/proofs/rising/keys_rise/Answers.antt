use Rattle.std.proofs.Common.{rules, ◌≡◌, ◌∙◌, ℕ, ◌+◌, ◌-◌, ◌<◌, ◌≤◌, List, [], length, get_or, refl, sym, ap, ap₂, subst, inl, inr, arith}
use Rattle.std.specs.declared.cmp.Ordering.TheVariants.{Less}
use Rattle.std.specs.Ordering.{nat_cmp}
use Rattle.std.specs.Cmp.Lexicographic.{slice_cmp}
use Rattle.std.specs.List.Sorted.{IsStrictlySortedBy}
use Rattle.std.specs.Map.{keys_of}
use Rattle.std.proofs.lemmas.Bool.{cases_lt}
use Rattle.std.proofs.lemmas.Cmp.{nat_list_cmp_total}
use Rattle.std.proofs.lemmas.Map.Keys.{Less-from_sorted, sorted_from_all_adjacent}
use Rattle.std.proofs.lemmas.Map.Entries.{length-keys_of}
use Rattle.reliable_dict.proofs.Keys.{key_at}
use Rattle.reliable_dict.proofs.rising.keys_rise.Goals as goal

-- the keys at two places that are read
compared : (pairs : List (List ℕ × List ℕ)) (i j : ℕ) (d : List ℕ) (x y : List ℕ × List ℕ) → i < length pairs → j < length pairs → x ≡ get_or pairs i x → y ≡ get_or pairs j y → slice_cmp nat_cmp (get_or (keys_of pairs) i d) (get_or (keys_of pairs) j d) ≡ slice_cmp nat_cmp x.0 y.0
compared pairs i j d x y lt less xs ys =
    ap₂ (λ (a b : List ℕ). slice_cmp nat_cmp a b) (key_at pairs i d x lt ∙ ap (λ (p : List ℕ × List ℕ). p.0) (sym xs)) (key_at pairs j d y less ∙ ap (λ (p : List ℕ × List ℕ). p.0) (sym ys))

pub returns-then-ge : goal.returns-then-ge
returns-then-ge c =
    let pairs = c.args.pairs.now in
    let place = c.loop-place.place in
    let a = c.index-pairs-place.result in
    let b = c.index-pairs-place-in-loop-place.result in
    let from : 0 < place = c.loop-place.invariant.from in
    let lt : place < length pairs = c.loop-place-test.true in
    let not_less : slice_cmp nat_cmp a.0 b.0 ≡ Less → ⊥ = search rules in (
      λ h. cc,
      λ (rising : IsStrictlySortedBy (slice_cmp nat_cmp) (keys_of pairs)).
          let less = Less-from_sorted (slice_cmp nat_cmp) (keys_of pairs) (place - 1) place [] rising (omega arith) (omega (arith, length-keys_of pairs, lt)) in
          absurd (not_less (sym (compared pairs (place - 1) place [] a b (omega arith) lt c.index-pairs-place.is c.index-pairs-place-in-loop-place.is) ∙ less)),
    )

pub loop-place-preserved : goal.loop-place-preserved
loop-place-preserved c =
    let pairs = c.args.pairs.now in
    let place = c.loop-place.place in
    let a = c.index-pairs-place.result in
    let b = c.index-pairs-place-in-loop-place.result in
    let from : 0 < place = c.loop-place.invariant.from in
    let lt : place < length pairs = c.loop-place-test.true in
    let less : slice_cmp nat_cmp a.0 b.0 ≡ Less = search rules in
    record {
      from = omega arith;
      rising = λ k d low within.
          elim (cases_lt (k + 1) place) [
            | inl before ↦ c.loop-place.invariant.rising k d before within
            | inr here ↦
                let last : place - 1 ≡ k = omega arith in
                let at : place ≡ k + 1 = omega arith in
                compared pairs k (k + 1) d a b (omega arith) within (subst (λ (n : ℕ). a ≡ get_or pairs n a) last c.index-pairs-place.is) (subst (λ (n : ℕ). b ≡ get_or pairs n b) at c.index-pairs-place-in-loop-place.is) ∙ less
          ];
    }

pub returns : goal.returns
returns c =
    let pairs = c.args.pairs.now in
    let end : length pairs ≤ c.loop-place.place = c.loop-place-test.false in
    let same = length-keys_of pairs in (
      λ h. sorted_from_all_adjacent nat_list_cmp_total (keys_of pairs) [] (λ k lt. c.loop-place.invariant.rising k [] (omega (arith, same, lt, end)) (omega (arith, same, lt))),
      λ rising. refl,
    )
