use Rattle.std.proofs.Common.{◌≡◌, ◌∙◌, sym, ap, ℕ, suc, ◌≤◌, ◌<◌, List, [], ◌∷◌, length, map, get_or, string_bytes, IsTrue, Bool, true, false, arith, refl, String, Global}
use Rattle.std.specs.Cmp.Lexicographic.{bytes_decides}
use Rattle.shell.proofs.command.is_world.Goals as goal

one_word : (xs : List (String Global)) (w : String Global) → 1 ≤ length xs → length xs < 2 → w ≡ get_or xs 0 w → map string_bytes xs ≡ string_bytes w ∷ []
one_word [] w a b e = absurd (omega arith)
one_word (x ∷ []) w a b e = ap (λ (v : String Global). string_bytes v ∷ []) (sym e)
one_word (x ∷ y ∷ ys) w a b e = absurd (two_words (length ys) b)
  where
    two_words : (n : ℕ) → suc (suc n) < 2 → ⊥
    two_words n h = omega arith

head_same : (a b : List ℕ) → a ∷ [] ≡ b ∷ [] → a ≡ b
head_same a b e = cc

pub returns-in-len1 : goal.returns-in-len1
returns-in-len1 c =
    let world : List ℕ = 119 ∷ 111 ∷ 114 ∷ 108 ∷ 100 ∷ [] in
    let words = one_word c.args.words.now c.word-item.result c.in-len1.len_at_least c.in-len1.len_below c.word-item.is in
    let tells = bytes_decides c.as_str.result.now world in (
      λ yes. words ∙ ap (λ (b : List ℕ). b ∷ []) (sym c.as_str.ensures.value ∙ tells.0 (sym c.eq.ensures ∙ is_true _ yes)),
      λ same. true_is _ (c.eq.ensures ∙ tells.1 (c.as_str.ensures.value ∙ head_same _ _ (sym words ∙ same))),
    )
  where
    is_true : (b : Bool) → IsTrue b → b ≡ true
    is_true true h = refl
    is_true false h = h

    true_is : (b : Bool) → b ≡ true → IsTrue b
    true_is true h = refl
    true_is false h = h
