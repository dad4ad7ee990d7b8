use Rattle.std.proofs.Common.{rules}
use Rattle.transcript_text.specs.Forms.{number}
use Rattle.transcript_text.proofs.FieldWords.{one_none, one_wrong, one_more}
use Rattle.transcript_text.proofs.operands.one_number.Goals as goal

pub returns-in_default : goal.returns-in_default
returns-in_default c = one_none number c.args.words.now c.wrong.result c.in_default.len_below c.wrong.ensures

pub returns-in_default-number : goal.returns-in_default-number
returns-in_default-number c =
    one_wrong number c.args.words.now _ c.wrong-in_default-number.result c.in-len1-up.len_at_least c.wrong-in_default-number.ensures c.in_default-number.ensures.none

pub returns-in_err-nothing : goal.returns-in_err-nothing
returns-in_err-nothing c =
    one_more number c.in-Some.n c.in-Some.ensures.some.0 c.args.words.now _ c.in_err-nothing.field-0.0 c.from_residual.result c.in-len1-up.len_at_least c.in-Some.ensures.some.1 (search rules) c.in_err-nothing.ensures
