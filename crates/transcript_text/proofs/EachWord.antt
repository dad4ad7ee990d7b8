-- Words that are read one after another, each as a value of its own.
use Rattle.std.proofs.Common.{◌≡◌, ◌∙◌, ℕ, suc, ◌+◌, ◌-◌, ◌<◌, List, [], ◌∷◌, ◌++◌, map, take, drop, get_or, length, Err, sym, ap, subst, drop-cons, length-drop}
use Rattle.std.specs.Borrow.{Bor}
use Rattle.std.specs.List.{AllByRecursion}
use Rattle.std.proofs.lemmas.List.{take_more, take-append-drop, take_rest, length-map, append-nil}
use Rattle.std.proofs.lemmas.List as lists
use Rattle.script_text.specs.Reading.{texts}
use Rattle.transcript_text.specs.declared.word_error.WordError.{WordError}
use Rattle.transcript_text.specs.declared.word_error.WordError.TheVariants.{Wrong}
use Rattle.transcript_text.specs.ReadBack.{IsWrongAfter}
use Rattle.transcript_text.specs.WordReading.{Reads}
use Rattle.transcript_text.proofs.Wrongs.{same_first, same_rest}

-- what holds of each word holds of one among them
pub among : (P : List ℕ → Type 0) (before : List (List ℕ)) (word : List ℕ) (more : List (List ℕ)) → AllByRecursion P ((before ++ word ∷ []) ++ more) → P word
among P [] word more all = all.0
among P (first ∷ before) word more all = among P before word more all.1

-- a word among those of values is one's
pub one_among : {X : Type 0} (text : X → List ℕ) (P : X → Type 0) (xs : List X) (before : List (List ℕ)) (word : List ℕ) (more : List (List ℕ))
    → AllByRecursion P xs → (before ++ word ∷ []) ++ more ≡ map text xs → (x : X) × P x × (word ≡ text x)
one_among text P [] [] word more all e = absurd (cc)
one_among text P [] (first ∷ before) word more all e = absurd (cc)
one_among text P (x ∷ xs) [] word more all e = (x, all.0, same_first word (text x) more (map text xs) e)
one_among text P (x ∷ xs) (first ∷ before) word more all e = one_among text P xs before word more all.1 (same_rest first (text x) ((before ++ word ∷ []) ++ more) (map text xs) e)

-- one word more
pub each_more : (words : List (Bor (List ℕ))) (i : ℕ) (other : Bor (List ℕ)) (before : List (List ℕ)) (word : List ℕ)
    → i < length words → take i (texts words) ≡ before → (get_or words i other).now ≡ word → take (i + 1) (texts words) ≡ before ++ word ∷ []
each_more words i other before word here read is =
    let within : i < length (texts words) = rw (length-map words (λ slice. slice.now)) here in
    take_more (texts words) i word within
    ∙ (ap (λ ws. ws ++ get_or (texts words) i word ∷ []) read ∙ ap (λ w. before ++ w ∷ []) (lists.get_or-map (λ slice. slice.now) words i other word here ∙ is))

-- the word at a place is wrong
pub each_wrong : {X : Type 0} (spelling : X → List (List ℕ)) (Fits : X → Type 0) (x : X) → Fits x → (words : List (Bor (List ℕ))) (i : ℕ) (other : Bor (List ℕ)) (e : WordError)
    → i < length words → take i (texts words) ≡ spelling x → e ≡ Wrong (length (take (length words - i) (drop i words)))
    → ((y : X) (more : List (List ℕ)) → Fits y → (spelling x ++ (get_or words i other).now ∷ []) ++ more ≡ spelling y → ⊥) → Reads spelling Fits (texts words) (Err e)
each_wrong {X} spelling Fits x fits words i other e here read is none = rw is (record {
  front = take i (texts words);
  back = drop i (texts words);
  parts = sym (take-append-drop i (texts words));
  count = count;
  right = ([], (x, fits, append-nil (take i (texts words)) ∙ read));
  wrong = subst (λ ws. IsWrongAfter spelling Fits (take i (texts words)) ws) (sym back) next;
}) where
  within : i < length (texts words)
  within = rw (length-map words (λ slice. slice.now)) here

  count : length (drop i (texts words)) ≡ length (take (length words - i) (drop i words))
  count = length-drop i (texts words) ∙ (ap (λ n. n - i) (length-map words (λ slice. slice.now)) ∙ (sym (length-drop i words) ∙ sym (ap length (take_rest words i))))

  word : List ℕ
  word = (get_or words i other).now

  back : drop i (texts words) ≡ word ∷ drop (suc i) (texts words)
  back = drop-cons (texts words) i word within ∙ ap (λ w. w ∷ drop (suc i) (texts words)) (lists.get_or-map (λ slice. slice.now) words i other word here)

  next : IsWrongAfter spelling Fits (take i (texts words)) (word ∷ drop (suc i) (texts words))
  next = λ begins. none begins.1.0 begins.0 begins.1.1 (ap (λ ws. (ws ++ word ∷ []) ++ begins.0) (sym read) ∙ begins.1.2)
