use Rattle.std.proofs.Common.{rules}
use Rattle.transcript_text.specs.Forms.{part}
use Rattle.transcript_text.proofs.FieldWords.{one_none, one_wrong, one_more}
use Rattle.transcript_text.proofs.operands.one_part.Goals as goal

pub returns-in_default : goal.returns-in_default
returns-in_default c = one_none part c.args.words.now c.wrong.result c.in_default.len_below c.wrong.ensures

pub returns-in_default-part_of : goal.returns-in_default-part_of
returns-in_default-part_of c =
    one_wrong part c.args.words.now _ c.wrong-in_default-part_of.result c.in-len1-up.len_at_least c.wrong-in_default-part_of.ensures c.in_default-part_of.ensures.none

pub returns-in_err-nothing : goal.returns-in_err-nothing
returns-in_err-nothing c =
    one_more part c.in-Some.part c.in-Some.ensures.some.0 c.args.words.now _ c.in_err-nothing.field-0.0 c.from_residual.result c.in-len1-up.len_at_least c.in-Some.ensures.some.1 (search rules) c.in_err-nothing.ensures
