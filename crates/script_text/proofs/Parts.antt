-- Parts that hold no separator are joined by it, and cut at it again.
use Rattle.std.proofs.Common.{◌≡◌, ℕ, ◌<◌, List, [], ◌∷◌, ◌++◌, length, false, eqb, refl, sym, ap, ◌∙◌, arith}
use Rattle.std.specs.List.{slice_split, join_with_byte, AllByRecursion}
use Rattle.std.proofs.lemmas.Bool.{eq-eqb}
use Rattle.std.proofs.lemmas.List.Elements.{All-from_recursion}
use Rattle.std.proofs.lemmas.List.Splits.{slice_split_none, slice_split_at, join_with_byte-slice_split}
use Rattle.script_text.proofs.Numbers.{Lacks}

-- no part holds c
abbrev pub AllLack : ℕ → List (List ℕ) → Type 0
AllLack c parts = AllByRecursion (Lacks c) parts

parts_again : (c : ℕ) (parts : List (List ℕ)) → 0 < length parts → AllLack c parts → slice_split (λ b. eqb b c) (join_with_byte c parts) ≡ parts
parts_again c [] some lack = absurd (omega arith)
parts_again c (part ∷ []) some lack = slice_split_none (λ b. eqb b c) part (All-from_recursion (λ b. eqb b c ≡ false) part lack.0)
parts_again c (part ∷ next ∷ parts) some lack =
    slice_split_at (λ b. eqb b c) part c (join_with_byte c (next ∷ parts)) (All-from_recursion (λ b. eqb b c ≡ false) part lack.0) (eq-eqb c c refl)
    ∙ ap (λ more. part ∷ more) (parts_again c (next ∷ parts) (omega arith) lack.1)

Lacks-append : (c : ℕ) (xs ys : List ℕ) → Lacks c xs → Lacks c ys → Lacks c (xs ++ ys)
Lacks-append c [] ys left right = right
Lacks-append c (x ∷ xs) ys left right = (left.0, Lacks-append c xs ys left.1 right)

-- what lacks c in each part lacks it when the parts are joined by another byte
pub Lacks-joined : (c d : ℕ) (parts : List (List ℕ)) → eqb d c ≡ false → AllLack c parts → Lacks c (join_with_byte d parts)
Lacks-joined c d [] other lack = tt
Lacks-joined c d (part ∷ []) other lack = lack.0
Lacks-joined c d (part ∷ next ∷ parts) other lack =
    Lacks-append c part (d ∷ join_with_byte d (next ∷ parts)) lack.0 (other, Lacks-joined c d (next ∷ parts) other lack.1)

-- a text's parts are these, just where these are joined to the text
pub joined_from_parts : (c : ℕ) (text : List ℕ) (parts : List (List ℕ)) → slice_split (λ b. eqb b c) text ≡ parts → text ≡ join_with_byte c parts
joined_from_parts c text parts e = sym (join_with_byte-slice_split c text) ∙ ap (join_with_byte c) e

pub parts_from_joined : (c : ℕ) (text : List ℕ) (parts : List (List ℕ)) → 0 < length parts → AllLack c parts → text ≡ join_with_byte c parts → slice_split (λ b. eqb b c) text ≡ parts
parts_from_joined c text parts some lack e = ap (slice_split (λ b. eqb b c)) e ∙ parts_again c parts some lack
