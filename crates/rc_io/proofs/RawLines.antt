-- On the lines of an input: the first of them, and the limit that is reached in it.
use Rattle.std.proofs.Common.{◌≡◌, ◌∙◌, ◌==◌, ℕ, zero, suc, ◌+◌, ◌-◌, ◌<◌, ◌≤◌, min, List, [], ◌∷◌, ◌++◌, length, take, drop, Bool, true, false, not, cond, Option, Some, None, refl, sym, ap, subst, arith, length-append, length-take, nat_lt, position, length-drop, get_or, inl, inr}
use Rattle.std.specs.List.{onto_first}
use Rattle.std.proofs.lemmas.List.{take-append-le, drop-append-le, length-take-le}
use Rattle.std.proofs.lemmas.List.Folds.{prefix_len-append}
use Rattle.std.proofs.lemmas.List.Sums.{prefix_len-le-length, passes_at_first}
use Rattle.std.proofs.lemmas.Bool.Decides.{nat_tests}
use Rattle.rc_base.specs.declared.limit_name.LimitName.{LimitName}
use Rattle.std.proofs.lemmas.Bool.{false≢true, cases_lt}
use Rattle.std.specs.Str.Lines.{strip_carriage_return}
use Rattle.rc_io.specs.Lines.{raw_lines, line_text}
use Rattle.rc_io.specs.Limits.{before_end, limit_at, limit_of}
use Rattle.rc_io.specs.Ready.{HoldsLine, Found, IsOpen}
use Rattle.rc_io.specs.declared.look.Ready.TheVariants as ready

at_nil : (t : Bool) (b : ℕ) → cond t ((b ∷ []) ∷ []) ((b ∷ []) ∷ []) ≡ take (cond (not t) (1 + 0) 0 + 1) (b ∷ []) ∷ raw_lines (drop (cond (not t) (1 + 0) 0 + 1) (b ∷ []))
at_nil true b = refl
at_nil false b = refl

at_cons : (t : Bool) (b k : ℕ) (bs : List ℕ) → raw_lines bs ≡ take (k + 1) bs ∷ raw_lines (drop (k + 1) bs) → cond t ((b ∷ []) ∷ raw_lines bs) (onto_first b (raw_lines bs)) ≡ take (cond (not t) (1 + k) 0 + 1) (b ∷ bs) ∷ raw_lines (drop (cond (not t) (1 + k) 0 + 1) (b ∷ bs))
at_cons true b k bs h = refl
at_cons false b k bs h = let e : 1 + k + 1 ≡ suc (k + 1) = omega arith in rw e (ap (onto_first b) h)

-- The first line goes to the first LF, or to the end.
raw_lines-cons : (b : ℕ) (bs : List ℕ) → raw_lines (b ∷ bs) ≡ take (before_end (b ∷ bs) + 1) (b ∷ bs) ∷ raw_lines (drop (before_end (b ∷ bs) + 1) (b ∷ bs))
raw_lines-cons b [] = at_nil (b == 10) b
raw_lines-cons b (c ∷ cs) = at_cons (b == 10) b (before_end (c ∷ cs)) (c ∷ cs) (raw_lines-cons c cs)

pub first_line : (xs : List ℕ) → 0 < length xs → raw_lines xs ≡ take (before_end xs + 1) xs ∷ raw_lines (drop (before_end xs + 1) xs)
first_line [] h = absurd (omega arith)
first_line (b ∷ bs) h = raw_lines-cons b bs

pub before_end-le : (xs : List ℕ) → before_end xs ≤ length xs
before_end-le xs = prefix_len-le-length _ xs

take_step : (t : Bool) (n e m : ℕ) → m ≡ min n e → cond (not t) (1 + m) 0 ≡ min (suc n) (cond (not t) (1 + e) 0)
take_step true n e m h = omega arith
take_step false n e m h = omega arith

pub before_end-take : (n : ℕ) (xs : List ℕ) → before_end (take n xs) ≡ min n (before_end xs)
before_end-take zero xs = omega arith
before_end-take (suc n) [] = omega arith
before_end-take (suc n) (b ∷ bs) = take_step (b == 10) n (before_end bs) (before_end (take n bs)) (before_end-take n bs)

pub before_end-append : (xs ys : List ℕ) → before_end (xs ++ ys) ≡ cond (before_end xs == length xs) (length xs + before_end ys) (before_end xs)
before_end-append xs ys = prefix_len-append _ xs ys

drop_step : (t : Bool) (n e m : ℕ) → (n ≤ e → e ≡ n + m) → suc n ≤ cond (not t) (1 + e) 0 → cond (not t) (1 + e) 0 ≡ suc n + m
drop_step true n e m h l = absurd (omega arith)
drop_step false n e m h l = let le : n ≤ e = omega arith in let i : e ≡ n + m = h le in omega arith

pub before_end-drop : (n : ℕ) (xs : List ℕ) → n ≤ before_end xs → before_end xs ≡ n + before_end (drop n xs)
before_end-drop zero xs l = omega arith
before_end-drop (suc n) [] l = absurd (omega arith)
before_end-drop (suc n) (b ∷ bs) l = drop_step (b == 10) n (before_end bs) (before_end (drop n bs)) (before_end-drop n bs) l

pub some_place : (t : Bool) (place e : ℕ) → Some place ≡ cond t (Some e) None → (place ≡ e) × (t ≡ true)
some_place true place e h = (cc, refl)
some_place false place e h = absurd (cc)

pub none_place : (t : Bool) (e : ℕ) → None ≡ cond t (Some e) None → t ≡ false
none_place true e h = absurd (cc)
none_place false e h = refl

-- what the place of the first LF behind the first n bytes says
pub before_end-from_place : (n place : ℕ) (xs : List ℕ) → n ≤ before_end xs → Some place ≡ position (λ byte. byte == 10) (drop n xs) → n + place ≡ before_end xs
before_end-from_place n place xs l h = let s = some_place _ place (before_end (drop n xs)) h in omega (arith, s.0, before_end-drop n xs l)

pub before_end-from_none : (n : ℕ) (xs : List ℕ) → n ≤ before_end xs → None ≡ position (λ byte. byte == 10) (drop n xs) → length xs ≡ before_end xs
before_end-from_none n xs l h =
    let ys : List ℕ = drop n xs in
    let t = none_place (nat_lt (before_end ys) (length ys)) (before_end ys) h in
    let past : length ys ≤ before_end ys = grind (arith, nat_tests) in
    omega (arith, before_end-drop n xs l, length-drop n xs, before_end-le xs, past)

-- A limit that is reached in a part of a line is reached in all of it: `e` of the `n` bytes that are held stand before
-- the LF, and `e'` of the `n'` bytes of the input.
pub limit_at-more : (lines given e n e' n' : ℕ) (which : LimitName) → 0 < n → e ≤ n → n ≤ n' → e' ≤ n' → (e < n → e' ≡ e) → (e ≡ n → n ≤ e') → limit_at lines given e (min (e + 1) n) ≡ Some which → limit_at lines given e' (min (e' + 1) n') ≡ Some which
unfolding limit_at
limit_at-more lines given e n e' n' which z a b b' c d h = grind (arith, nat_tests)

-- the limit that is reached in the first line of an input
pub limit_of-first : (lines given : ℕ) (xs : List ℕ) → 0 < length xs → limit_of lines given (raw_lines xs) ≡ limit_at lines given (before_end xs) (min (before_end xs + 1) (length xs))
limit_of-first lines given xs h =
    let e : ℕ = before_end xs in
    let m : min (e + 1) e ≡ e = omega arith in
    ap (limit_of lines given) (first_line xs h) ∙ (ap (λ k. limit_at lines given k (length (take (e + 1) xs))) (before_end-take (e + 1) xs) ∙ (ap (λ k. limit_at lines given k (length (take (e + 1) xs))) m ∙ ap (limit_at lines given e) (length-take (e + 1) xs)))

-- the same where only a part of the input is held
pub limit_of-part : (lines given : ℕ) (xs rest : List ℕ) (which : LimitName) → 0 < length xs → limit_at lines given (before_end xs) (min (before_end xs + 1) (length xs)) ≡ Some which → limit_of lines given (raw_lines (xs ++ rest)) ≡ Some which
limit_of-part lines given xs rest which h t =
    let n = length-append xs rest in
    let le = before_end-le xs in
    let le' = before_end-le (xs ++ rest) in
    let a = before_end-append xs rest in
    limit_of-first lines given (xs ++ rest) (omega (arith, n, h)) ∙ limit_at-more lines given (before_end xs) (length xs) (before_end (xs ++ rest)) (length (xs ++ rest)) which h le (omega (arith, n)) le' (λ l. grind (arith, nat_tests)) (λ l. grind (arith, nat_tests)) t

-- the first line of an input that is held whole
pub first_line-part : (xs rest : List ℕ) → before_end xs < length xs → raw_lines (xs ++ rest) ≡ take (before_end xs + 1) xs ∷ raw_lines (drop (before_end xs + 1) xs ++ rest)
first_line-part xs rest h =
    let n = length-append xs rest in
    let a = before_end-append xs rest in
    let e : before_end (xs ++ rest) ≡ before_end xs = grind (arith, nat_tests) in
    let l : before_end xs + 1 ≤ length xs = omega arith in
    let first = first_line (xs ++ rest) (omega (arith, n, h)) in
    first ∙ (ap (λ k. take (k + 1) (xs ++ rest) ∷ raw_lines (drop (k + 1) (xs ++ rest))) e ∙ rw (take-append-le, drop-append-le) refl)

-- a line that reaches no limit: how many stand before it, and how long it is
pub record IsWithin (lines given before count : ℕ) : Type 0 where
  pub few : lines < 1000000
  pub short : before ≤ 4096
  pub fits : given + count ≤ 16777216

pub within-from_none : (lines given before count : ℕ) → before ≤ count → limit_at lines given before count ≡ None → IsWithin lines given before count
unfolding limit_at
within-from_none lines given before count b h = record { few = grind (arith, nat_tests); short = grind (arith, nat_tests); fits = grind (arith, nat_tests) }

-- what is held has no LF and reaches no limit
pub open_line : (lines given : ℕ) (xs : List ℕ) → 0 < length xs → before_end xs ≡ length xs → limit_at lines given (before_end xs) (min (before_end xs + 1) (length xs)) ≡ None → IsOpen lines given xs
open_line lines given xs h e t =
    let w = within-from_none lines given (before_end xs) (min (before_end xs + 1) (length xs)) (omega arith) t in
    record { no_end = e; short = omega (arith, w.short); within = limit_of-first lines given xs h ∙ t }

pub holds_line : (lines given : ℕ) (xs : List ℕ) → before_end xs < length xs → limit_at lines given (before_end xs) (min (before_end xs + 1) (length xs)) ≡ None → HoldsLine lines given xs (before_end xs + 1)
holds_line lines given xs h t =
    let e : ℕ = before_end xs in
    let m : min (e + 1) e ≡ e = omega arith in
    record { held = omega arith; one = omega arith; within = ap (λ k. limit_at lines given k (length (take (e + 1) xs))) (before_end-take (e + 1) xs ∙ m) ∙ (ap (limit_at lines given e) (length-take (e + 1) xs) ∙ t) }

same_limit : (lines given e count : ℕ) (xs : List ℕ) (r : Option LimitName) → e ≡ before_end xs → count ≡ min (e + 1) (length xs) → r ≡ limit_at lines given e count → limit_at lines given (before_end xs) (min (before_end xs + 1) (length xs)) ≡ r
same_limit lines given e count xs r a b h = ap (λ k. limit_at lines given k (min (k + 1) (length xs))) (sym a) ∙ (ap (limit_at lines given e) (sym b) ∙ sym h)

pub found_limit : (lines given e count : ℕ) (xs : List ℕ) (which : LimitName) → 0 < length xs → e ≡ before_end xs → count ≡ min (e + 1) (length xs) → Some which ≡ limit_at lines given e count → Found lines given xs (ready.Limit which)
found_limit lines given e count xs which h a b t = record { holds = tt; is = λ rest. limit_of-part lines given xs rest which h (same_limit lines given e count xs (Some which) a b t) }

pub found_line : (lines given e count : ℕ) (xs : List ℕ) → e < length xs → e ≡ before_end xs → count ≡ min (e + 1) (length xs) → None ≡ limit_at lines given e count → Found lines given xs (ready.Line count)
found_line lines given e count xs h a b t =
    let k : before_end xs + 1 ≡ count = omega arith in
    let l : before_end xs < length xs = omega arith in
    let P : ℕ → Type 0 = λ n. Found lines given xs (ready.Line n) in
    subst P k (record { holds = holds_line lines given xs l (same_limit lines given e count xs None a b t); is = λ rest. first_line-part xs rest l })

pub found_open : (lines given e count : ℕ) (xs : List ℕ) → 0 < length xs → length xs ≤ e → e ≡ before_end xs → count ≡ min (e + 1) (length xs) → None ≡ limit_at lines given e count → IsOpen lines given xs
found_open lines given e count xs z h a b t = open_line lines given xs z (omega (arith, before_end-le xs)) (same_limit lines given e count xs None a b t)

-- A line that is held whole and reaches no limit.
pub holds-within : (lines given : ℕ) (xs : List ℕ) (count : ℕ) → HoldsLine lines given xs count → IsWithin lines given (before_end (take count xs)) count
holds-within lines given xs count h =
    let raw : List ℕ = take count xs in
    let l : length raw ≡ count = length-take-le count xs h.held in
    let P : ℕ → Type 0 = λ n. IsWithin lines given (before_end raw) n in
    subst P l (within-from_none lines given (before_end raw) (length raw) (before_end-le raw) h.within)

strip_step : (t : Bool) (n : ℕ) (xs : List ℕ) → length (cond t (take n xs) xs) ≤ length xs
strip_step true n xs = omega (arith, length-take n xs)
strip_step false n xs = omega arith

text_step : (t : Bool) (raw : List ℕ) → (t ≡ false → length raw ≤ before_end raw) → length raw ≤ before_end raw + 1 → length (cond t (strip_carriage_return (take (length raw - 1) raw)) raw) ≤ before_end raw
text_step true raw h l =
    let line : List ℕ = take (length raw - 1) raw in
    omega (arith, strip_step (get_or line (length line - 1) 0 == 13) (length line - 1) line, length-take (length raw - 1) raw)
text_step false raw h l = h refl

last_is_end : (raw : List ℕ) → length raw ≤ before_end raw + 1 → (get_or raw (length raw - 1) 0 == 10) ≡ false → length raw ≤ before_end raw
last_is_end raw l t = by_contra (length raw) (before_end raw) (λ lt.
    let e : before_end raw ≡ length raw - 1 = omega arith in
    let p : (get_or raw (before_end raw) 0 == 10) ≡ true = passes_at_first (λ byte. byte == 10) raw 0 lt in
    let q : (get_or raw (length raw - 1) 0 == 10) ≡ true = rw (← e) p in
    absurd (false≢true (sym t ∙ q)))
  where
    by_contra : (a b : ℕ) → (b < a → ⊥) → a ≤ b
    by_contra a b h = elim (cases_lt b a) [ inl x ↦ absurd (h x) | inr y ↦ y ]

-- The text of a line is no longer than what stands before its LF.
pub length-line_text : (raw : List ℕ) → length raw ≤ before_end raw + 1 → length (line_text raw) ≤ before_end raw
unfolding line_text
length-line_text raw l = text_step (get_or raw (length raw - 1) 0 == 10) raw (last_is_end raw l) l

pub holds-short : (lines given : ℕ) (xs : List ℕ) (count : ℕ) → HoldsLine lines given xs count → length (line_text (take count xs)) ≤ 4096
holds-short lines given xs count h =
    let raw : List ℕ = take count xs in
    let l : length raw ≡ count = length-take-le count xs h.held in
    let m = before_end-take count xs in
    let w = holds-within lines given xs count h in
    let t : length (line_text raw) ≤ before_end raw = length-line_text raw (omega (arith, h.one)) in
    omega (arith, t, w.short)
