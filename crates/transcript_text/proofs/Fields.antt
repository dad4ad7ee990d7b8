-- Fields: their words hold no space, and tell them.
use Rattle.std.proofs.Common.{◌≡◌, ◌∙◌, ℕ, Bool, true, false, ◌&&◌, eqb, List, [], ◌∷◌, map, refl, sym, ap, ap₂, subst, lit<, arith}
use Rattle.std.specs.Prelude.{IsTrue}
use Rattle.std.specs.List.{AllByRecursion, slice_split}
use Rattle.std.proofs.lemmas.Bool.{false≢true}
use Rattle.std.proofs.lemmas.Fmt.{decimal_injective}
use Rattle.std.proofs.lemmas.List.Elements.{recursion_from_All}
use Rattle.std.proofs.lemmas.List.Splits.{join_with_byte-slice_split}
use Rattle.script_text.specs.Letters.{is_key_word, is_value_word}
use Rattle.script_text.specs.Sentence.{epoch_text, txn_text}
use Rattle.script_text.specs.Reading.{epoch_parts, txn_parts}
use Rattle.script_text.proofs.Numbers.{Lacks, Lacks-decimal}
use Rattle.script_text.proofs.Parts.{AllLack, Lacks-joined}
use Rattle.script_text.proofs.EventWords.{AllLack-epoch_parts, AllLack-txn_parts, same_epoch, same_txn, Lacks-key, Lacks-value}
use Rattle.transcript_text.specs.Words.{IsSaidOp, is_row, IsRowWord}
use Rattle.transcript_text.specs.Forms.{FieldKind, replica, number, part, txn, epoch, value, Field, field_text, IsField, Layout, nothing, one, first, ops, row_words, Fields, fields_words, AreFields}
use Rattle.transcript_text.proofs.Operations.{operation, operations-op_text, AllLack-op_texts}
use Rattle.transcript_text.proofs.Wrongs.{same_first, same_rest}

-- ---- one field

Lacks-field : (kind : FieldKind) (field : Field kind) → IsField kind field → Lacks 32 (field_text kind field)
Lacks-field replica r is = Lacks-decimal 32 r (lit< tt) (omega arith)
Lacks-field number n is = Lacks-decimal 32 n (lit< tt) is
Lacks-field part n is = Lacks-decimal 32 n (lit< tt) (omega arith)
Lacks-field txn t is = Lacks-joined 32 46 (txn_parts t) refl (AllLack-txn_parts 32 t (lit< tt) is)
Lacks-field epoch e is = Lacks-joined 32 46 (epoch_parts e) refl (AllLack-epoch_parts 32 e (lit< tt) is)
Lacks-field value word is = Lacks-value 32 word refl is

same_field : (kind : FieldKind) (a b : Field kind) → IsField kind a → IsField kind b → field_text kind a ≡ field_text kind b → a ≡ b
same_field replica a b is_a is_b same = decimal_injective a b (omega arith) (omega arith) same
same_field number a b is_a is_b same = decimal_injective a b is_a is_b same
same_field part a b is_a is_b same = decimal_injective a b (omega arith) (omega arith) same
same_field txn a b is_a is_b same = same_txn (txn_text a) a b is_a is_b refl same
same_field epoch a b is_a is_b same = same_epoch (epoch_text a) a b is_a is_b refl same
same_field value a b is_a is_b same = same

-- ---- the words of a row

both : (a b : Bool) → (a && b) ≡ true → (a ≡ true) × (b ≡ true)
both true b h = (refl, h)
both false b h = absurd (false≢true h)

AllLack-row_parts : (parts : List (List ℕ)) → IsTrue (is_row parts) → AllLack 32 parts
AllLack-row_parts [] none = tt
AllLack-row_parts (word ∷ []) is = (Lacks-value 32 word refl is, tt)
AllLack-row_parts (key ∷ word ∷ []) is =
    let each = both (is_key_word key) (is_value_word word) is in (Lacks-key 32 key refl each.0, (Lacks-value 32 word refl each.1, tt))
AllLack-row_parts (key ∷ word ∷ more ∷ parts) none = absurd (false≢true none)

Lacks-row_word : (word : List ℕ) → IsRowWord word → Lacks 32 word
Lacks-row_word word is =
    let parts = slice_split (λ b. eqb b 61) word in subst (Lacks 32) (join_with_byte-slice_split 61 word) (Lacks-joined 32 61 parts refl (AllLack-row_parts parts is))

AllLack-row_words : (words : List (List ℕ)) → AllByRecursion IsRowWord words → AllLack 32 words
AllLack-row_words [] all = tt
AllLack-row_words (word ∷ words) all = (Lacks-row_word word all.0, AllLack-row_words words all.1)

-- ---- layouts

pub AllLack-fields : (layout : Layout) (fields : Fields layout) → AreFields layout fields → AllLack 32 (fields_words layout fields)
AllLack-fields nothing fields are = tt
AllLack-fields (one kind) field are = (Lacks-field kind field are, tt)
AllLack-fields (first kind more) fields are = (Lacks-field kind fields.0 are.0, AllLack-fields more fields.1 are.1)
AllLack-fields ops list are = AllLack-op_texts list (recursion_from_All IsSaidOp list are)
AllLack-fields row_words words are = AllLack-row_words words (recursion_from_All IsRowWord words are)

pub same_fields : (layout : Layout) (a b : Fields layout) → AreFields layout a → AreFields layout b → fields_words layout a ≡ fields_words layout b → a ≡ b
same_fields nothing a b are_a are_b same = refl
same_fields (one kind) a b are_a are_b same = same_field kind a b are_a are_b (same_first (field_text kind a) (field_text kind b) [] [] same)
same_fields (first kind more) a b are_a are_b same =
    let firsts = same_field kind a.0 b.0 are_a.0 are_b.0 (same_first (field_text kind a.0) (field_text kind b.0) (fields_words more a.1) (fields_words more b.1) same) in
    let others = same_fields more a.1 b.1 are_a.1 are_b.1 (same_rest (field_text kind a.0) (field_text kind b.0) (fields_words more a.1) (fields_words more b.1) same) in
    ap₂ (λ (x : Field kind) (y : Fields more). let both : Fields (first kind more) = (x, y) in both) firsts others
same_fields ops a b are_a are_b same =
    sym (operations-op_text a (recursion_from_All IsSaidOp a are_a)) ∙ (ap (map operation) same ∙ operations-op_text b (recursion_from_All IsSaidOp b are_b))
same_fields row_words a b are_a are_b same = same
