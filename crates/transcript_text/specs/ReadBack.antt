-- How a line is read back, from left to right: as the number and the observation that it tells, or up to its first wrong word.
use Rattle.std.specs.Prelude.{◌≡◌, ◌+◌, ◌<◌, ◌^◌, ◌==◌, ℕ, List, [], ◌∷◌, ◌++◌, length, min, decimal, Result, Ok, Err}
use Rattle.std.specs.List.{slice_split}
use Rattle.log_records.specs.declared.error.CodecError.{CodecError}
use Rattle.log_records.specs.declared.error.CodecError.TheVariants as codecs
use Rattle.order_machine.specs.declared.observation.Observation.{Observation}
use Rattle.transcript_text.specs.Lines.{words_of}
use Rattle.transcript_text.specs.Said.{IsSaid}

-- ---- words of values

-- they are the words of a value
abbrev pub Spells : {X : Type 0} → (X → List (List ℕ)) → (X → Type 0) → List (List ℕ) → Type 0
Spells {X} spelling Fits words = (x : X) × Fits x × (words ≡ spelling x)

-- the words of a value begin with them
abbrev pub Begins : {X : Type 0} → (X → List (List ℕ)) → (X → Type 0) → List (List ℕ) → Type 0
Begins spelling Fits words = (more : List (List ℕ)) × Spells spelling Fits (words ++ more)

-- After the words in front the next one is wrong: with it they begin no value's. Or there is none, where one must be.
abbrev pub IsWrongAfter : {X : Type 0} → (X → List (List ℕ)) → (X → Type 0) → List (List ℕ) → List (List ℕ) → Type 0
IsWrongAfter spelling Fits front [] = Spells spelling Fits front → ⊥
IsWrongAfter spelling Fits front (word ∷ words) = Begins spelling Fits (front ++ word ∷ []) → ⊥

-- ---- lines

-- the words of a number and an observation
abbrev pub line_words : ℕ × Observation → List (List ℕ)
line_words line = decimal line.0 ∷ words_of line.1

abbrev pub IsLine : ℕ × Observation → Type 0
IsLine line = (line.0 < 2 ^ 64) × IsSaid line.1

-- A line that tells a number and an observation is read as these, unless memory ran out.
abbrev pub IsReadAs : ℕ → Observation → Result (ℕ × Observation) CodecError → Type 0
IsReadAs n o (Ok read) = (read.0 ≡ n) × (read.1 ≡ o)
IsReadAs n o (Err error) = error ≡ codecs.NoMemory

-- the place after words, each with the space after it
abbrev pub place_after : List (List ℕ) → ℕ
place_after [] = 0
place_after (word ∷ words) = length word + 1 + place_after words

-- The line tells nothing: the words in front begin a line's, and the one after them, which begins at the place, is wrong. The place
-- is the line's end where it lacks a word.
pub record IsWrongAt (line : List ℕ) (at : ℕ) : Type 0 where
  pub front : List (List ℕ)
  pub back : List (List ℕ)
  pub parts : slice_split (λ b. b == 32) line ≡ front ++ back
  pub place : at ≡ min (place_after front) (length line)
  pub right : Begins line_words IsLine front
  pub wrong : IsWrongAfter line_words IsLine front back
