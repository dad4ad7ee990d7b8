-- Words that are read from left to right, one and then those after it.
use Rattle.std.proofs.Common.{◌≡◌, ◌∙◌, ℕ, suc, ◌-◌, ◌<◌, ◌≤◌, List, [], ◌∷◌, ◌++◌, take, drop, get_or, length, Result, Err, refl, sym, ap, subst, arith}
use Rattle.std.specs.Borrow.{Bor}
use Rattle.std.proofs.Math.Seq.{take-length}
use Rattle.std.proofs.lemmas.List.{length-map}
use Rattle.script_text.specs.Reading.{texts}
use Rattle.transcript_text.specs.declared.word_error.WordError.{WordError}
use Rattle.transcript_text.specs.declared.word_error.WordError.TheVariants.{Wrong, NoMemory}
use Rattle.transcript_text.specs.ReadBack.{Spells, IsWrongAfter}
use Rattle.transcript_text.specs.WordReading.{IsWrong, Reads}

-- ---- texts

-- the texts of slices are that of the first and those after it
pub texts_first : (words : List (Bor (List ℕ))) (other : Bor (List ℕ)) → 1 ≤ length words → texts words ≡ (get_or words 0 other).now ∷ texts (take (length words - 1) (drop 1 words))
texts_first [] other some = absurd (omega arith)
texts_first (word ∷ words) other some =
    let one : suc (length words) - 1 ≡ length words = omega arith in
    ap (λ ws. word.now ∷ texts ws) (sym (take-length words) ∙ ap (λ n. take n words) (sym one))

pub same_first : (word other : List ℕ) (words others : List (List ℕ)) → word ∷ words ≡ other ∷ others → word ≡ other
same_first word other words others e = cc

pub same_rest : (word other : List ℕ) (words others : List (List ℕ)) → word ∷ words ≡ other ∷ others → words ≡ others
same_rest word other words others e = cc

-- ---- lists of words

-- the first word is wrong, or there is none
at_first : {X : Type 0} (spelling : X → List (List ℕ)) (Fits : X → Type 0) (x : X) (words : List (List ℕ)) → Fits x → IsWrongAfter spelling Fits [] words → IsWrong spelling Fits words (length words)
at_first spelling Fits x words fits wrong = record {
  front = [];
  back = words;
  parts = refl;
  count = refl;
  right = (spelling x, (x, fits, refl));
  wrong = wrong;
}

-- what is wrong after a first word
after_first : {X Y : Type 0} (spelling : X → List (List ℕ)) (Fits : X → Type 0) (spelling' : Y → List (List ℕ)) (Fits' : Y → Type 0) (word : List ℕ)
    → ((words : List (List ℕ)) → Spells spelling' Fits' words → Spells spelling Fits (word ∷ words))
    → ((words : List (List ℕ)) → Spells spelling Fits (word ∷ words) → Spells spelling' Fits' words)
    → (words : List (List ℕ)) (left : ℕ) → IsWrong spelling' Fits' words left → IsWrong spelling Fits (word ∷ words) left
after_first spelling Fits spelling' Fits' word to from words left is = record {
  front = word ∷ is.front;
  back = is.back;
  parts = ap (λ ws. word ∷ ws) is.parts;
  count = is.count;
  right = (is.right.0, to (is.front ++ is.right.0) is.right.1);
  wrong = next is.back is.wrong;
} where
  next : (back : List (List ℕ)) → IsWrongAfter spelling' Fits' is.front back → IsWrongAfter spelling Fits (word ∷ is.front) back
  next [] none = λ spells. none (from is.front spells)
  next (other ∷ back) none = λ begins. none (begins.0, from ((is.front ++ other ∷ []) ++ begins.0) begins.1)

pub error_after : {X Y : Type 0} (spelling : X → List (List ℕ)) (Fits : X → Type 0) (spelling' : Y → List (List ℕ)) (Fits' : Y → Type 0) (word : List ℕ)
    → ((words : List (List ℕ)) → Spells spelling' Fits' words → Spells spelling Fits (word ∷ words))
    → ((words : List (List ℕ)) → Spells spelling Fits (word ∷ words) → Spells spelling' Fits' words)
    → (words : List (List ℕ)) (e : WordError) → Reads spelling' Fits' words (Err e) → Reads spelling Fits (word ∷ words) (Err e)
error_after spelling Fits spelling' Fits' word to from words (Wrong left) is = after_first spelling Fits spelling' Fits' word to from words left is
error_after spelling Fits spelling' Fits' word to from words NoMemory is = tt

-- ---- slices

pub none_there : {X : Type 0} (spelling : X → List (List ℕ)) (Fits : X → Type 0) (x : X) → Fits x → ((y : X) → Fits y → [] ≡ spelling y → ⊥)
    → (words : List (Bor (List ℕ))) (e : WordError) → length words < 1 → e ≡ Wrong (length words) → Reads spelling Fits (texts words) (Err e)
none_there spelling Fits x fits some [] e few is =
    rw is (at_first spelling Fits x [] fits (λ spells. some spells.0 spells.1 spells.2))
none_there spelling Fits x fits some (word ∷ words) e few is = absurd (omega arith)

pub wrong_there : {X : Type 0} (spelling : X → List (List ℕ)) (Fits : X → Type 0) (x : X) → Fits x → (words : List (Bor (List ℕ))) (other : Bor (List ℕ)) (e : WordError)
    → 1 ≤ length words → e ≡ Wrong (length words) → ((y : X) (more : List (List ℕ)) → Fits y → (get_or words 0 other).now ∷ more ≡ spelling y → ⊥) → Reads spelling Fits (texts words) (Err e)
wrong_there spelling Fits x fits [] other e some is none = absurd (omega arith)
wrong_there spelling Fits x fits (word ∷ words) other e some is none =
    let count : suc (length (texts words)) ≡ suc (length words) = ap suc (length-map words (λ slice. slice.now)) in
    rw is (subst (λ left. IsWrong spelling Fits (word.now ∷ texts words) left) count (at_first spelling Fits x (word.now ∷ texts words) fits (λ begins. none begins.1.0 begins.0 begins.1.1 begins.1.2)))

pub wrong_after : {X Y : Type 0} (spelling : X → List (List ℕ)) (Fits : X → Type 0) (spelling' : Y → List (List ℕ)) (Fits' : Y → Type 0) (words : List (Bor (List ℕ))) (other : Bor (List ℕ))
    → ((more : List (List ℕ)) → Spells spelling' Fits' more → Spells spelling Fits ((get_or words 0 other).now ∷ more))
    → ((more : List (List ℕ)) → Spells spelling Fits ((get_or words 0 other).now ∷ more) → Spells spelling' Fits' more)
    → (e : WordError) (r : Result X WordError) → 1 ≤ length words → r ≡ Err e → Reads spelling' Fits' (texts (take (length words - 1) (drop 1 words))) (Err e) → Reads spelling Fits (texts words) r
wrong_after {X} {Y} spelling Fits spelling' Fits' words other to from e r some is wrong =
    subst (λ (q : Result X WordError). Reads spelling Fits (texts words) q) (sym is) (subst (λ ws. Reads spelling Fits ws (Err e)) (sym (texts_first words other some)) (error_after spelling Fits spelling' Fits' (get_or words 0 other).now to from (texts (take (length words - 1) (drop 1 words))) e wrong))
