use Rattle.std.proofs.Common.{rules}
use Rattle.transcript_text.specs.Forms.{epoch}
use Rattle.transcript_text.proofs.FieldWords.{one_none, one_wrong, one_more}
use Rattle.transcript_text.proofs.operands.one_epoch.Goals as goal

pub returns-in_default : goal.returns-in_default
returns-in_default c = one_none epoch c.args.words.now c.wrong.result c.in_default.len_below c.wrong.ensures

pub returns-in_default-2 : goal.returns-in_default-2
returns-in_default-2 c =
    one_wrong epoch c.args.words.now _ c.wrong-in_default-2.result c.in-len1-up.len_at_least c.wrong-in_default-2.ensures (rw c.in_default-2.is at c.in_ok-e.ensures.none)

pub returns-in_err-nothing : goal.returns-in_err-nothing
returns-in_err-nothing c =
    let read = rw c.in-Some.is at c.in_ok-e.ensures.some in
    one_more epoch c.in-Some.e read.0 c.args.words.now _ c.in_err-nothing.field-0.0 c.from_residual-in_err-nothing.result c.in-len1-up.len_at_least read.1 (search rules) c.in_err-nothing.ensures
