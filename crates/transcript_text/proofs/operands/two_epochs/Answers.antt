use Rattle.std.proofs.Common.{rules}
use Rattle.transcript_text.specs.Forms.{epoch, one}
use Rattle.transcript_text.proofs.FieldWords.{first_none, first_wrong, first_more}
use Rattle.transcript_text.proofs.operands.two_epochs.Goals as goal

pub returns-in_default : goal.returns-in_default
returns-in_default c =
    first_none epoch (one epoch) c.args.words.now c.wrong.result c.in_default.len_below c.wrong.ensures

pub returns-in_default-2 : goal.returns-in_default-2
returns-in_default-2 c =
    let none = rw c.in_default-2.is at c.in_ok-fence.ensures.none in
    first_wrong epoch (one epoch) c.args.words.now _ c.wrong-in_default-2.result c.in-len1-up.len_at_least c.wrong-in_default-2.ensures none

pub returns-in_err-e : goal.returns-in_err-e
returns-in_err-e c =
    let read = rw c.in-Some.is at c.in_ok-fence.ensures.some in
    first_more epoch (one epoch) c.in-Some.fence read.0 c.args.words.now _ c.in_err-e.field-0.0 c.from_residual-in_err-e.result c.in-len1-up.len_at_least read.1 (search rules) c.in_err-e.ensures
