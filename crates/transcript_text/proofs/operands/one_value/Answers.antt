use Rattle.std.proofs.Common.{sym, subst, rules}
use Rattle.std.specs.Prelude.{IsTrue}
use Rattle.script_text.specs.Letters.{is_value_word}
use Rattle.transcript_text.specs.Forms.{value}
use Rattle.transcript_text.proofs.FieldWords.{one_none, one_wrong, one_more}
use Rattle.transcript_text.proofs.operands.one_value.Goals as goal

pub returns-in_default : goal.returns-in_default
returns-in_default c = one_none value c.args.words.now c.wrong.result c.in_default.len_below c.wrong.ensures

pub returns-in_default-2 : goal.returns-in_default-2
returns-in_default-2 c =
    let none = rw c.in_default-2.is at c.in_ok-value.ensures.none in
    one_wrong value c.args.words.now _ c.wrong-in_default-2.result c.in-len1-up.len_at_least c.wrong-in_default-2.ensures (λ y f same. none (subst (λ w. IsTrue (is_value_word w)) (sym same) f))

pub returns-in_err-nothing : goal.returns-in_err-nothing
returns-in_err-nothing c =
    let read = rw c.in-Some.is at c.in_ok-value.ensures.some in
    one_more value c.in-Some.value read.0 c.args.words.now _ c.in_err-nothing.field-0.0 c.from_residual-in_err-nothing.result c.in-len1-up.len_at_least read.1 (search rules) c.in_err-nothing.ensures
