-- A line and its words: where its first wrong word begins.
use Rattle.std.proofs.Common.{◌≡◌, ◌∙◌, ℕ, ◌+◌, ◌-◌, ◌<◌, ◌≤◌, ◌^◌, List, [], ◌∷◌, ◌++◌, length, min, take, decimal, Result, Err, IsErrOf, eqb, refl, sym, ap, subst, lit<, arith}
use Rattle.std.specs.Borrow.{Bor}
use Rattle.std.specs.List.{slice_split, join_with_byte}
use Rattle.std.proofs.lemmas.Fmt.{decimal_injective}
use Rattle.std.proofs.lemmas.List.{length-append, length-map, take_at, append-nil}
use Rattle.std.proofs.lemmas.List as lists
use Rattle.std.proofs.lemmas.List.Splits.{join_with_byte-slice_split}
use Rattle.log_records.specs.declared.error.CodecError.{CodecError}
use Rattle.log_records.specs.declared.error.CodecError.TheVariants as errors
use Rattle.script_text.specs.Reading.{texts}
use Rattle.script_text.proofs.Numbers.{Lacks-decimal}
use Rattle.script_text.proofs.Parts.{joined_from_parts, parts_from_joined}
use Rattle.order_machine.specs.declared.observation.Observation.{Observation}
use Rattle.transcript_text.specs.Lines.{words_of, line_text}
use Rattle.transcript_text.specs.Said.{IsSaid, Tells}
use Rattle.transcript_text.specs.ReadBack.{Spells, IsWrongAfter, line_words, IsLine, place_after, IsWrongAt}
use Rattle.transcript_text.specs.WordReading.{IsWrong}
use Rattle.transcript_text.proofs.Wrongs.{same_first, same_rest}
use Rattle.transcript_text.proofs.Rows.{AllLack-words_of, same_observation}

-- ---- what a line tells

pub tells_from_words : (line : List ℕ) (words : List (List ℕ)) (n : ℕ) (o : Observation) → words ≡ slice_split (λ b. eqb b 32) line → n < 2 ^ 64 → IsSaid o → words ≡ line_words (n, o) → Tells line n o
tells_from_words line words n o cut small said spelled = record {
  text = joined_from_parts 32 line (decimal n ∷ words_of o) (sym cut ∙ spelled);
  small = small;
  said = said;
}

split-line_text : (n : ℕ) (o : Observation) → n < 2 ^ 64 → IsSaid o → slice_split (λ b. eqb b 32) (line_text n o) ≡ line_words (n, o)
split-line_text n o small said =
    parts_from_joined 32 (line_text n o) (decimal n ∷ words_of o) (omega arith) (Lacks-decimal 32 n (lit< tt) small, AllLack-words_of o said) refl

words_from_line : (line : List ℕ) (n : ℕ) (o : Observation) → Tells line n o → slice_split (λ b. eqb b 32) line ≡ line_words (n, o)
words_from_line line n o tells = ap (λ l. slice_split (λ b. eqb b 32) l) tells.text ∙ split-line_text n o tells.small tells.said

pub told_once : (line : List ℕ) (n k : ℕ) (a b : Observation) → Tells line n a → Tells line k b → (n ≡ k) × (a ≡ b)
told_once line n k a b one other =
    let words : line_words (n, a) ≡ line_words (k, b) = sym (words_from_line line n a one) ∙ words_from_line line k b other in (
      decimal_injective n k one.small other.small (same_first (decimal n) (decimal k) (words_of a) (words_of b) words),
      same_observation a b one.said other.said (same_rest (decimal n) (decimal k) (words_of a) (words_of b) words),
    )

-- words with a wrong one are no value's
not_wrong : {X : Type 0} (spelling : X → List (List ℕ)) (Fits : X → Type 0) (front back : List (List ℕ)) → IsWrongAfter spelling Fits front back → Spells spelling Fits (front ++ back) → ⊥
not_wrong spelling Fits front [] wrong spells = wrong (subst (Spells spelling Fits) (append-nil front) spells)
not_wrong spelling Fits front (word ∷ back) wrong spells = wrong (back, subst (Spells spelling Fits) (sym (lists.append_assoc front (word ∷ []) back)) spells)

pub tells_nothing : (line : List ℕ) (words : List (List ℕ)) (left : ℕ) → words ≡ slice_split (λ b. eqb b 32) line → IsWrong line_words IsLine words left → (n : ℕ) (o : Observation) → Tells line n o → ⊥
tells_nothing line words left cut is n o tells =
    not_wrong line_words IsLine is.front is.back is.wrong ((n, o), (tells.small, tells.said), sym is.parts ∙ (cut ∙ words_from_line line n o tells))

-- ---- places

place_after-append : (front back : List (List ℕ)) → place_after (front ++ back) ≡ place_after front + place_after back
place_after-append [] back = omega arith
place_after-append (word ∷ front) back = omega (arith, place_after-append front back)

place_after-joined : (words : List (List ℕ)) → place_after words ≤ length (join_with_byte 32 words) + 1
place_after-joined [] = omega arith
place_after-joined (word ∷ []) = omega arith
place_after-joined (word ∷ next ∷ words) = omega (arith, place_after-joined (next ∷ words), length-append word (32 ∷ join_with_byte 32 (next ∷ words)))

-- the words in front, as slices
front_texts : (words : List (Bor (List ℕ))) (count left : ℕ) (front back : List (List ℕ)) → texts words ≡ front ++ back → count ≡ length words → length back ≡ left → texts (take (count - left) words) ≡ front
front_texts words count left front back parts counted is =
    let whole : length words ≡ length front + length back = sym (length-map words (λ slice. slice.now)) ∙ (ap length parts ∙ length-append front back) in
    let size : length front ≡ count - left = omega arith in
    sym (lists.take-map (λ slice. slice.now) (count - left) words) ∙ (ap (take (count - left)) parts ∙ take_at front back (count - left) size)

pub place_within : (line : List ℕ) (words : List (Bor (List ℕ))) (count left : ℕ) → texts words ≡ slice_split (λ b. eqb b 32) line → count ≡ length words → IsWrong line_words IsLine (texts words) left
    → place_after (texts (take (count - left) words)) ≤ length line + 1
place_within line words count left cut counted is =
    let whole : place_after (is.front ++ is.back) ≤ length line + 1 =
    subst (λ ws. place_after ws ≤ length line + 1) (sym cut ∙ is.parts) (subst (λ l. place_after (slice_split (λ b. eqb b 32) line) ≤ length l + 1) (join_with_byte-slice_split 32 line) (place_after-joined (slice_split (λ b. eqb b 32) line))) in
    rw (front_texts words count left is.front is.back is.parts counted is.count) (omega (arith, whole, place_after-append is.front is.back))

-- what was answered
abbrev pub bad_at : ℕ → Result (ℕ × Observation) CodecError
bad_at place = Err (errors.Bad place)

pub wrong_at : (line : List ℕ) (words : List (Bor (List ℕ))) (count left place : ℕ) → texts words ≡ slice_split (λ b. eqb b 32) line → count ≡ length words → IsWrong line_words IsLine (texts words) left
    → place ≡ min (place_after (texts (take (count - left) words))) (length line) → (at : ℕ) → IsErrOf (bad_at place) (errors.Bad at) → IsWrongAt line at
wrong_at line words count left place cut counted is here at same =
    let equal : place ≡ at = cc same in record {
      front = is.front;
      back = is.back;
      parts = sym cut ∙ is.parts;
      place = sym equal ∙ (here ∙ ap (λ ws. min (place_after ws) (length line)) (front_texts words count left is.front is.back is.parts counted is.count));
      right = is.right;
      wrong = is.wrong;
    }
