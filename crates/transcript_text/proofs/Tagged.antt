-- A word that tells a tag, and the words after it.
use Rattle.std.proofs.Common.{◌≡◌, ◌∙◌, ℕ, List, [], ◌∷◌, ◌++◌, Err, sym, ap, subst}
use Rattle.transcript_text.specs.declared.word_error.WordError.{WordError}
use Rattle.transcript_text.specs.declared.word_error.WordError.TheVariants.{Wrong, NoMemory}
use Rattle.transcript_text.specs.Forms.{Tagged, tagged, tagged_words, AreTagged}
use Rattle.transcript_text.specs.ReadBack.{Spells, IsWrongAfter}
use Rattle.transcript_text.specs.WordReading.{Reads}
use Rattle.transcript_text.proofs.Wrongs.{same_first, same_rest, error_after}

-- words are those of one tag and its fields, where each tag has a word of its own
pub same_tagged : {T : Type 0} (Of : T → Type 0) (word : T → List ℕ) (words : (tag : T) → Of tag → List (List ℕ)) (Are : (tag : T) → Of tag → Type 0)
    → ((s t : T) → word s ≡ word t → s ≡ t) → ((tag : T) (a b : Of tag) → Are tag a → Are tag b → words tag a ≡ words tag b → a ≡ b)
    → (x y : Tagged Of) → AreTagged Of Are x → AreTagged Of Are y → tagged_words Of word words x ≡ tagged_words Of word words y → x ≡ y
same_tagged {T} Of word words Are one_tag one_of (tagged s a) (tagged t b) are_a are_b same =
    subst Claim (one_tag s t (same_first (word s) (word t) (words s a) (words t b) same)) here b are_b (same_rest (word s) (word t) (words s a) (words t b) same) where
      Claim : T → Type 0
      Claim tag = (fields : Of tag) → Are tag fields → words s a ≡ words tag fields → ◌≡◌ {A = Tagged Of} (tagged s a) (tagged tag fields)

      here : Claim s
      here fields are e = ap (λ fs. tagged s fs) (one_of s a fields are_a are e)

pub no_tagged : {T : Type 0} (Of : T → Type 0) (word : T → List ℕ) (words : (tag : T) → Of tag → List (List ℕ)) (x : Tagged Of) → [] ≡ tagged_words Of word words x → ⊥
no_tagged Of word words (tagged tag fields) e = cc

-- the first word is that of a tag
pub no_tag : {T : Type 0} (Of : T → Type 0) (word : T → List ℕ) (words : (tag : T) → Of tag → List (List ℕ)) (first : List ℕ) → ((tag : T) → first ≡ word tag → ⊥)
    → (x : Tagged Of) (more : List (List ℕ)) → first ∷ more ≡ tagged_words Of word words x → ⊥
no_tag Of word words first none (tagged tag fields) more e = none tag (same_first first (word tag) more (words tag fields) e)

-- what is wrong after a tag's word
pub error_tagged : {T : Type 0} (Of : T → Type 0) (word : T → List ℕ) (words : (tag : T) → Of tag → List (List ℕ)) (Are : (tag : T) → Of tag → Type 0)
    → ((s t : T) → word s ≡ word t → s ≡ t) → (tag : T) (rest : List (List ℕ)) (e : WordError)
    → Reads (words tag) (Are tag) rest (Err e) → Reads (tagged_words Of word words) (AreTagged Of Are) (word tag ∷ rest) (Err e)
error_tagged {T} Of word words Are one_tag tag rest e wrong =
    error_after (tagged_words Of word words) (AreTagged Of Are) (words tag) (Are tag) (word tag) to (λ more spells. from more spells.0 spells.1 spells.2) rest e wrong where
      to : (more : List (List ℕ)) → Spells (words tag) (Are tag) more → Spells (tagged_words Of word words) (AreTagged Of Are) (word tag ∷ more)
      to more spells = (tagged tag spells.0, spells.1, ap (λ ws. word tag ∷ ws) spells.2)

      from : (more : List (List ℕ)) (x : Tagged Of) → AreTagged Of Are x → word tag ∷ more ≡ tagged_words Of word words x → Spells (words tag) (Are tag) more
      from more (tagged s fields) are e =
          let own : Spells (words s) (Are s) more = (fields, are, same_rest (word tag) (word s) more (words s fields) e) in
          subst (λ t. Spells (words t) (Are t) more) (sym (one_tag tag s (same_first (word tag) (word s) more (words s fields) e))) own

-- what is wrong for views is wrong for what has them
pub error_through : {X Y : Type 0} (view : Y → X) (built : X → Y) → ((x : X) → view (built x) ≡ x) → (spelling : X → List (List ℕ)) (Fits : X → Type 0)
    (words : List (List ℕ)) (e : WordError) → Reads spelling Fits words (Err e) → Reads (λ y. spelling (view y)) (λ y. Fits (view y)) words (Err e)
error_through view built back spelling Fits words NoMemory is = tt
error_through {X} {Y} view built back spelling Fits words (Wrong left) is = record {
  front = is.front;
  back = is.back;
  parts = is.parts;
  count = is.count;
  right = (is.right.0, spelled (is.front ++ is.right.0) is.right.1);
  wrong = none is.back is.wrong;
} where
  spelled : (ws : List (List ℕ)) → Spells spelling Fits ws → Spells (λ y. spelling (view y)) (λ y. Fits (view y)) ws
  spelled ws spells = (built spells.0, subst Fits (sym (back spells.0)) spells.1, spells.2 ∙ ap spelling (sym (back spells.0)))

  none : (rest : List (List ℕ)) → IsWrongAfter spelling Fits is.front rest → IsWrongAfter (λ y. spelling (view y)) (λ y. Fits (view y)) is.front rest
  none [] wrong = λ spells. wrong (view spells.0, spells.1, spells.2)
  none (word ∷ rest) wrong = λ begins. wrong (begins.0, (view begins.1.0, begins.1.1, begins.1.2))
