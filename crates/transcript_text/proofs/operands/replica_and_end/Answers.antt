use Rattle.std.proofs.Common.{rules}
use Rattle.transcript_text.specs.Forms.{replica, first, epoch, one, number}
use Rattle.transcript_text.proofs.FieldWords.{first_none, first_wrong, first_more}
use Rattle.transcript_text.proofs.operands.replica_and_end.Goals as goal

pub returns-in_default : goal.returns-in_default
returns-in_default c =
    first_none replica (first epoch (one number)) c.args.words.now c.wrong.result c.in_default.len_below c.wrong.ensures

pub returns-in_default-replica : goal.returns-in_default-replica
returns-in_default-replica c =
    first_wrong replica (first epoch (one number)) c.args.words.now _ c.wrong-in_default-replica.result c.in-len1-up.len_at_least c.wrong-in_default-replica.ensures c.in_default-replica.ensures.none

pub returns-in_err-end : goal.returns-in_err-end
returns-in_err-end c =
    first_more replica (first epoch (one number)) c.in-Some.r c.in-Some.ensures.some.0 c.args.words.now _ c.in_err-end.field-0.0 c.from_residual.result c.in-len1-up.len_at_least c.in-Some.ensures.some.1 (search rules) c.in_err-end.ensures
