-- Decimal texts: the bytes that they hold, and that each is read as its number.
use Rattle.std.proofs.Common.{◌≡◌, ℕ, ◌<◌, ◌≤◌, ◌^◌, List, [], ◌∷◌, decimal, Option, Some, None, IsSome, IfNone, Result, Ok, Err, true, false, eqb, refl, sym, ap, subst, ◌∙◌, arith}
use Rattle.std.specs.List.{AllByRecursion}
use Rattle.std.specs.Result.{OkIff, result_ok}
use Rattle.std.specs.Str.{IsUtf8, bytes_eq}
use Rattle.std.specs.Str.Parse.{AllDigits, ParsesUnsigned}
use Rattle.std.proofs.lemmas.Bool.{ne_eqb}
use Rattle.std.proofs.lemmas.Fmt.{IsAscii-decimal, decimal_injective, decimal_is_IsNumeral, parse-decimal}
use Rattle.std.proofs.lemmas.Slice.Eq.{bytes_eq-Decides}
use Rattle.std.proofs.lemmas.Str.{IsUtf8-from_ascii}
use Rattle.std.proofs.lemmas.Str.Parse.{digit_from_value}

-- no byte is c
abbrev pub Lacks : ℕ → List ℕ → Type 0
Lacks c bytes = AllByRecursion (λ b. eqb b c ≡ false) bytes

Lacks-digits : (c : ℕ) (digits : List ℕ) → c < 48 → AllDigits 10 digits → Lacks c digits
Lacks-digits c [] low all = tt
Lacks-digits c (b ∷ bytes) low all =
    (ne_eqb b c (λ e. omega (arith, digit_from_value b all.0)), Lacks-digits c bytes low all.1)

-- a separator stands before the digits
pub Lacks-decimal : (c n : ℕ) → c < 48 → n < 2 ^ 64 → Lacks c (decimal n)
Lacks-decimal c n low small = Lacks-digits c (decimal n) low (decimal_is_IsNumeral n small).0.1

pub IsUtf8-number : (text : List ℕ) (n : ℕ) → n < 2 ^ 64 → text ≡ decimal n → IsUtf8 text
IsUtf8-number text n small e = subst IsUtf8 (sym e) (IsUtf8-from_ascii (decimal n) (IsAscii-decimal n small))

-- a number's text is read
pub number_is_read : {E : Type 0} (text : List ℕ) (n : ℕ) (error : E) → n < 2 ^ 64 → text ≡ decimal n → ParsesUnsigned 64 10 text (Err error) → ⊥
number_is_read {E} text n error small e parses = apart (Err error) refl (parse-decimal 64 n text (Err error) small small e parses) where
  apart : (r : Result ℕ E) → r ≡ Err error → r ≡ Ok n → ⊥
  apart r fails reads = cc

-- and printed again
pub number_is_printed : {E : Type 0} (text : List ℕ) (n read : ℕ) (r : Result ℕ E) → n < 2 ^ 64 → text ≡ decimal n → r ≡ Ok read → ParsesUnsigned 64 10 text r → bytes_eq (decimal read) text ≡ true
number_is_printed text n read r small e reads parses =
    let same = parse-decimal 64 n text r small small e parses in
    let equal : read ≡ n = cc in
    (bytes_eq-Decides (decimal read) text).1 (ap decimal equal ∙ sym e)

pub same_number : (text : List ℕ) (m n : ℕ) → text ≡ decimal m → text ≡ decimal n → m < 2 ^ 64 → n < 2 ^ 64 → m ≡ n
same_number text m n one other small little = decimal_injective m n small little (sym one ∙ other)

-- a narrower type takes the number just where it is in range
pub narrow_number : {E : Type 0} (bound : ℕ) (text : List ℕ) (m : ℕ) (r : Result ℕ E) (o : Option ℕ) → bound ≤ 2 ^ 64 → text ≡ decimal m → m < 2 ^ 64 → OkIff r (m < bound) m → o ≡ result_ok r
    → IfNone o ((n : ℕ) → n < bound → text ≡ decimal n → ⊥)
narrow_number bound text m (Ok x) o low is small h e = rw e tt
narrow_number bound text m (Err x) o low is small h e = rw e (λ n fits other.
    let same = same_number text m n is other small (omega arith) in h (omega arith))

pub narrowed : {E : Type 0} (P : Type 0) (m x : ℕ) (r : Result ℕ E) → OkIff r P m → Some x ≡ result_ok r → x ≡ m
narrowed P m x (Ok y) h e = let same : x ≡ y = cc in same ∙ h.1
narrowed P m x (Err y) h e = cc

pub replica_of_number : (text : List ℕ) (m : ℕ) (o : Option ℕ) → text ≡ decimal m → m < 2 ^ 64 → (m < 9 → IsSome o) → IfNone o ((r : ℕ) → r < 9 → text ≡ decimal r → ⊥)
replica_of_number text m (Some x) is small some = tt
replica_of_number text m None is small some = λ r fits other.
    let same = same_number text m r is other small (omega arith) in (let none = some (omega arith) in cc)
