use Rattle.std.proofs.Common.{rules}
use Rattle.transcript_text.specs.Forms.{epoch, one, number}
use Rattle.transcript_text.proofs.FieldWords.{first_none, first_wrong, first_more}
use Rattle.transcript_text.proofs.operands.log_end.Goals as goal

pub returns-in_default : goal.returns-in_default
returns-in_default c = first_none epoch (one number) c.args.words.now c.wrong.result c.in_default.len_below c.wrong.ensures

pub returns-in_default-2 : goal.returns-in_default-2
returns-in_default-2 c =
    let none = rw c.in_default-2.is at c.in_ok-e.ensures.none in
    first_wrong epoch (one number) c.args.words.now _ c.wrong-in_default-2.result c.in-len1-up.len_at_least c.wrong-in_default-2.ensures none

pub returns-in_err-last : goal.returns-in_err-last
returns-in_err-last c =
    let read = rw c.in-Some.is at c.in_ok-e.ensures.some in
    first_more epoch (one number) c.in-Some.e read.0 c.args.words.now _ c.in_err-last.field-0.0 c.from_residual-in_err-last.result c.in-len1-up.len_at_least read.1 (search rules) c.in_err-last.ensures
