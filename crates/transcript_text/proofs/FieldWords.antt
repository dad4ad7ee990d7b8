-- Fields that are read from left to right, and the first wrong word among theirs.
use Rattle.std.proofs.Common.{◌≡◌, ◌∙◌, ℕ, ◌-◌, ◌<◌, ◌≤◌, List, [], ◌∷◌, take, drop, get_or, length, codes, Result, Err, refl, ap, lit<, arith}
use Rattle.std.specs.Borrow.{Bor}
use Rattle.script_text.specs.Reading.{texts}
use Rattle.transcript_text.specs.declared.word_error.WordError.{WordError}
use Rattle.transcript_text.specs.declared.word_error.WordError.TheVariants.{Wrong}
use Rattle.transcript_text.specs.Forms.{FieldKind, replica, number, part, txn, epoch, value, Field, field_text, IsField, Layout, nothing, one, first, ops, row_words, Fields, fields_words, AreFields}
use Rattle.transcript_text.specs.WordReading.{ReadsFields}
use Rattle.transcript_text.proofs.Wrongs.{same_first, same_rest, none_there, wrong_there, wrong_after}

-- ---- each layout has fields

abbrev some_field : (kind : FieldKind) → Field kind
some_field replica = 0
some_field number = 0
some_field part = 0
some_field txn = record { epoch = record { loss = 0; number = 0 }; n = 0 }
some_field epoch = record { loss = 0; number = 0 }
some_field value = codes "v"

IsField-some_field : (kind : FieldKind) → IsField kind (some_field kind)
IsField-some_field replica = lit< tt
IsField-some_field number = lit< tt
IsField-some_field part = lit< tt
IsField-some_field txn = ((lit< tt, lit< tt), lit< tt)
IsField-some_field epoch = (lit< tt, lit< tt)
IsField-some_field value = refl

abbrev some_fields : (layout : Layout) → Fields layout
some_fields nothing = tt
some_fields (one kind) = some_field kind
some_fields (first kind more) = (some_field kind, some_fields more)
some_fields ops = []
some_fields row_words = []

AreFields-some_fields : (layout : Layout) → AreFields layout (some_fields layout)
AreFields-some_fields nothing = tt
AreFields-some_fields (one kind) = IsField-some_field kind
AreFields-some_fields (first kind more) = (IsField-some_field kind, AreFields-some_fields more)
AreFields-some_fields ops = λ k d below. absurd (omega arith)
AreFields-some_fields row_words = λ k d below. absurd (omega arith)

-- ---- one field

pub one_none : (kind : FieldKind) (words : List (Bor (List ℕ))) (e : WordError) → length words < 1 → e ≡ Wrong (length words) → ReadsFields (one kind) (texts words) (Err e)
one_none kind = none_there (fields_words (one kind)) (AreFields (one kind)) (some_field kind) (IsField-some_field kind) (λ y f e. cc)

pub one_wrong : (kind : FieldKind) (words : List (Bor (List ℕ))) (other : Bor (List ℕ)) (e : WordError) → 1 ≤ length words → e ≡ Wrong (length words)
    → ((field : Field kind) → IsField kind field → (get_or words 0 other).now ≡ field_text kind field → ⊥) → ReadsFields (one kind) (texts words) (Err e)
one_wrong kind words other e some is none =
    wrong_there (fields_words (one kind)) (AreFields (one kind)) (some_field kind) (IsField-some_field kind) words other e some is (λ y more f same. none y f (cc))

pub one_more : (kind : FieldKind) (field : Field kind) → IsField kind field → (words : List (Bor (List ℕ))) (other : Bor (List ℕ)) (e : WordError) (result : Result (Field kind) WordError)
    → 1 ≤ length words → (get_or words 0 other).now ≡ field_text kind field → result ≡ Err e → ReadsFields nothing (texts (take (length words - 1) (drop 1 words))) (Err e) → ReadsFields (one kind) (texts words) result
one_more kind field fits words other e result some is same =
    wrong_after (fields_words (one kind)) (AreFields (one kind)) (fields_words nothing) (AreFields nothing) words other (λ more none. (field, fits, cc)) (λ more spells. (tt, tt, cc)) e result some same

-- ---- a field and those after it

pub first_none : (kind : FieldKind) (layout : Layout) (words : List (Bor (List ℕ))) (e : WordError) → length words < 1 → e ≡ Wrong (length words) → ReadsFields (first kind layout) (texts words) (Err e)
first_none kind layout =
    none_there (fields_words (first kind layout)) (AreFields (first kind layout)) (some_fields (first kind layout)) (AreFields-some_fields (first kind layout)) (λ y f e. cc)

pub first_wrong : (kind : FieldKind) (layout : Layout) (words : List (Bor (List ℕ))) (other : Bor (List ℕ)) (e : WordError) → 1 ≤ length words → e ≡ Wrong (length words)
    → ((field : Field kind) → IsField kind field → (get_or words 0 other).now ≡ field_text kind field → ⊥) → ReadsFields (first kind layout) (texts words) (Err e)
first_wrong kind layout words other e some is none =
    wrong_there (fields_words (first kind layout)) (AreFields (first kind layout)) (some_fields (first kind layout)) (AreFields-some_fields (first kind layout)) words other e some is
    (λ y more f same. none y.0 f.0 (same_first (get_or words 0 other).now (field_text kind y.0) more (fields_words layout y.1) same))

pub first_more : (kind : FieldKind) (layout : Layout) (field : Field kind) → IsField kind field → (words : List (Bor (List ℕ))) (other : Bor (List ℕ)) (e : WordError) (result : Result (Fields (first kind layout)) WordError)
    → 1 ≤ length words → (get_or words 0 other).now ≡ field_text kind field → result ≡ Err e → ReadsFields layout (texts (take (length words - 1) (drop 1 words))) (Err e) → ReadsFields (first kind layout) (texts words) result
first_more kind layout field fits words other e result some is same =
    let word = (get_or words 0 other).now in
    wrong_after (fields_words (first kind layout)) (AreFields (first kind layout)) (fields_words layout) (AreFields layout) words other
    (λ more spells. ((field, spells.0), (fits, spells.1), ap (λ w. w ∷ more) is ∙ ap (λ ws. field_text kind field ∷ ws) spells.2))
    (λ more spells. (spells.0.1, spells.1.1, same_rest word (field_text kind spells.0.0) more (fields_words layout spells.0.1) spells.2)) e result some same
