use Rattle.std.proofs.Common.{◌≡◌, ◌∙◌, ℕ, List, Option, Some, None, Result, Ok, Err, IfOk, IfSome, IfNone, eqb, sym, ap}
use Rattle.std.specs.List.{slice_split}
use Rattle.coll_model.specs.declared.op.Op.{Op}
use Rattle.script_text.specs.Reading.{texts}
use Rattle.script_text.proofs.Parts.{joined_from_parts, parts_from_joined}
use Rattle.transcript_text.specs.Words.{op_parts, op_text}
use Rattle.transcript_text.specs.Words.{IsSaidOp}
use Rattle.transcript_text.specs.WordReading.{AreReadAsOp}
use Rattle.transcript_text.proofs.Operations.{AllLack-op_parts, some_parts}
use Rattle.transcript_text.proofs.op_words.op_of.Goals as goal

of_word : {E : Type 0} (word : List ℕ) (parts : List (List ℕ)) (read : Result (Option Op) E) → parts ≡ slice_split (λ b. eqb b 58) word → IfOk read (AreReadAsOp parts)
    → IfOk read (λ r. IfSome r (λ op. IsSaidOp op × (word ≡ op_text op)))
of_word word parts (Err e) cut h = tt
of_word word parts (Ok None) cut h = tt
of_word word parts (Ok (Some op)) cut h = (h.said, joined_from_parts 58 word (op_parts op) (sym cut ∙ h.spelled))

of_no_word : {E : Type 0} (word : List ℕ) (parts : List (List ℕ)) (read : Result (Option Op) E) → parts ≡ slice_split (λ b. eqb b 58) word → IfOk read (AreReadAsOp parts)
    → IfOk read (λ r. IfNone r ((op : Op) → IsSaidOp op → word ≡ op_text op → ⊥))
of_no_word word parts (Err e) cut h = tt
of_no_word word parts (Ok None) cut h = λ op is e.
    h op (record { spelled = cut ∙ parts_from_joined 58 word (op_parts op) (some_parts op) (AllLack-op_parts op is).1 e; said = is })
of_no_word word parts (Ok (Some op)) cut h = tt

pub returns-clause-some : goal.returns-clause-some
returns-clause-some c = of_word c.args.word.now (texts c.deref.result.now) c.op_of_parts.result (ap texts c.deref.ensures.value ∙ c.in_ok-parts.ensures) c.op_of_parts.ensures

pub returns-clause-none : goal.returns-clause-none
returns-clause-none c = of_no_word c.args.word.now (texts c.deref.result.now) c.op_of_parts.result (ap texts c.deref.ensures.value ∙ c.in_ok-parts.ensures) c.op_of_parts.ensures
