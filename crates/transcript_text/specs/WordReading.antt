-- What a function reads of words.
use Rattle.std.specs.Prelude.{◌≡◌, ℕ, List, ◌++◌, length, Option, MatchOption, Result, Ok, Err}
use Rattle.coll_model.specs.declared.op.Op.{Op}
use Rattle.transcript_text.specs.declared.word_error.WordError.{WordError}
use Rattle.transcript_text.specs.declared.word_error.WordError.TheVariants.{Wrong, NoMemory}
use Rattle.transcript_text.specs.Words.{op_parts, IsSaidOp}
use Rattle.transcript_text.specs.Forms.{Layout, Fields, fields_words, AreFields}
use Rattle.transcript_text.specs.ReadBack.{Begins, IsWrongAfter}

-- The words are no value's. Those in front begin one's, and so many are left from the first wrong one on.
pub record IsWrong {X : Type 0} (spelling : X → List (List ℕ)) (Fits : X → Type 0) (words : List (List ℕ)) (left : ℕ) : Type 0 where
  pub front : List (List ℕ)
  pub back : List (List ℕ)
  pub parts : words ≡ front ++ back
  pub count : length back ≡ left
  pub right : Begins spelling Fits front
  pub wrong : IsWrongAfter spelling Fits front back

-- what was read of words
abbrev pub Reads : {X : Type 0} → (X → List (List ℕ)) → (X → Type 0) → List (List ℕ) → Result X WordError → Type 0
Reads spelling Fits words (Ok x) = Fits x × (words ≡ spelling x)
Reads spelling Fits words (Err (Wrong left)) = IsWrong spelling Fits words left
Reads spelling Fits words (Err NoMemory) = Unit {0}

-- the same of the words of fields
abbrev pub ReadsFields : (layout : Layout) → List (List ℕ) → Result (Fields layout) WordError → Type 0
ReadsFields layout words result = Reads (fields_words layout) (AreFields layout) words result

-- the parts are this operation's
pub record IsOp (parts : List (List ℕ)) (op : Op) : Type 0 where
  pub spelled : parts ≡ op_parts op
  pub said : IsSaidOp op

-- parts are read as the operation whose they are, or as none where they are no operation's
abbrev pub AreReadAsOp : List (List ℕ) → Option Op → Type 0
AreReadAsOp parts read = MatchOption read ((op : Op) → IsOp parts op → ⊥) (IsOp parts)
