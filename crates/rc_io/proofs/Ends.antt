-- On what a reader holds where more comes or the input ends.
use Rattle.std.proofs.Common.{◌≡◌, ◌∙◌, ◌==◌, ℕ, suc, false, cond, ◌+◌, ◌<◌, ◌≤◌, min, List, [], ◌∷◌, ◌++◌, length, take, drop, None, refl, sym, ap, subst, arith, append-nil}
use Rattle.std.proofs.lemmas.List.{take_all, drop_all}
use Rattle.std.proofs.lemmas.Bool.Decides.{nat_tests}
use Rattle.rc_io.specs.Lines.{raw_lines}
use Rattle.rc_io.specs.Limits.{before_end, limit_at, limit_in}
use Rattle.rc_io.specs.Ready.{HoldsLine, Holds, Is, IsOpen, at_end}
use Rattle.rc_io.specs.declared.look.Ready.{Ready}
use Rattle.rc_io.specs.declared.look.Ready.TheVariants.{Line, End}
use Rattle.rc_io.proofs.RawLines.{first_line, before_end-take, limit_of-first}

pub before_end-grown : (lines given : ℕ) (xs ys : List ℕ) → IsOpen lines given xs → take (length xs) ys ≡ xs → length xs ≤ before_end ys
before_end-grown lines given xs ys o h =
    let e : before_end xs ≡ min (length xs) (before_end ys) = ap before_end (sym h) ∙ before_end-take (length xs) ys in
    omega (arith, e, o.no_end)

whole_line : (lines given : ℕ) (xs : List ℕ) → 0 < length xs → IsOpen lines given xs → HoldsLine lines given xs (length xs)
whole_line lines given xs h o =
    let n : ℕ = length xs in
    let m : min (before_end xs + 1) n ≡ n = omega (arith, o.no_end) in
    let t : limit_at lines given (before_end xs) n ≡ None = ap (limit_at lines given (before_end xs)) (sym m) ∙ (sym (limit_of-first lines given xs h) ∙ o.within) in
    record {
      held = omega arith;
      one = omega (arith, o.no_end);
      within = ap (limit_in lines given) (take_all n xs (omega arith)) ∙ t;
    }

whole_first : (xs : List ℕ) → 0 < length xs → before_end xs ≡ length xs → raw_lines (xs ++ []) ≡ take (length xs) xs ∷ raw_lines (drop (length xs) xs ++ [])
whole_first xs h e =
    let n : ℕ = length xs in
    let first : raw_lines xs ≡ take (n + 1) xs ∷ raw_lines (drop (n + 1) xs) = first_line xs h ∙ ap (λ k. take (k + 1) xs ∷ raw_lines (drop (k + 1) xs)) e in
    let t : take (n + 1) xs ≡ take n xs = take_all (n + 1) xs (omega arith) ∙ sym (take_all n xs (omega arith)) in
    let d : drop (n + 1) xs ≡ drop n xs ++ [] = drop_all (n + 1) xs (omega arith) ∙ (sym (drop_all n xs (omega arith)) ∙ sym (append-nil (drop n xs))) in
    ap raw_lines (append-nil xs) ∙ (first ∙ (ap (λ q. q ∷ raw_lines (drop (n + 1) xs)) t ∙ ap (λ q. take n xs ∷ raw_lines q) d))

at_end_more : (n : ℕ) → at_end (suc n) ≡ Line (suc n)
at_end_more n = let t : (suc n == 0) ≡ false = grind (arith, nat_tests) in ap (λ b. cond b End (Line (suc n))) t

holds_at_end : (lines given : ℕ) (xs : List ℕ) → IsOpen lines given xs → Holds lines given xs (at_end (length xs))
holds_at_end lines given [] o = tt
holds_at_end lines given (x ∷ xs) o = let P : Ready → Type 0 = Holds lines given (x ∷ xs) in subst P (sym (at_end_more (length xs))) (whole_line lines given (x ∷ xs) (omega arith) o)

is_at_end : (lines given : ℕ) (xs : List ℕ) → IsOpen lines given xs → Is lines given xs [] (at_end (length xs))
is_at_end lines given [] o = refl
is_at_end lines given (x ∷ xs) o = let P : Ready → Type 0 = Is lines given (x ∷ xs) [] in subst P (sym (at_end_more (length xs))) (whole_first (x ∷ xs) (omega arith) o.no_end)

pub ends_holds : (lines lines' given given' seen : ℕ) (xs ys : List ℕ) (r : Ready) → IsOpen lines given xs → lines ≡ lines' → given ≡ given' → seen ≡ length xs → ys ≡ xs → r ≡ at_end seen → Holds lines' given' ys r
ends_holds lines lines' given given' seen xs ys r o a b s y e =
    let E : r ≡ at_end (length xs) = e ∙ ap at_end s in
    let P : ℕ → Type 0 = λ k. Holds k given' ys r in
    let Q : ℕ → Type 0 = λ k. Holds lines k ys r in
    let U : List ℕ → Type 0 = λ k. Holds lines given k r in
    let V : Ready → Type 0 = λ k. Holds lines given xs k in
    subst P a (subst Q b (subst U (sym y) (subst V (sym E) (holds_at_end lines given xs o))))

pub ends_is : (lines lines' given given' seen : ℕ) (xs ys rest : List ℕ) (r : Ready) → IsOpen lines given xs → lines ≡ lines' → given ≡ given' → seen ≡ length xs → ys ≡ xs → r ≡ at_end seen → rest ≡ [] → Is lines' given' ys rest r
ends_is lines lines' given given' seen xs ys rest r o a b s y e z =
    let E : r ≡ at_end (length xs) = e ∙ ap at_end s in
    let P : ℕ → Type 0 = λ k. Is k given' ys rest r in
    let Q : ℕ → Type 0 = λ k. Is lines k ys rest r in
    let U : List ℕ → Type 0 = λ k. Is lines given k rest r in
    let W : List ℕ → Type 0 = λ k. Is lines given xs k r in
    let V : Ready → Type 0 = λ k. Is lines given xs [] k in
    subst P a (subst Q b (subst U (sym y) (subst W (sym z) (subst V (sym E) (is_at_end lines given xs o)))))

pub is_same : (lines lines' given given' : ℕ) (xs rest : List ℕ) (r : Ready) → lines ≡ lines' → given ≡ given' → Is lines given xs rest r → Is lines' given' xs rest r
is_same lines lines' given given' xs rest r a b h =
    let P : ℕ → Type 0 = λ k. Is k given' xs rest r in
    let Q : ℕ → Type 0 = λ k. Is lines k xs rest r in
    subst P a (subst Q b h)
