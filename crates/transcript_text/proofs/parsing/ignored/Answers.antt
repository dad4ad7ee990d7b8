use Rattle.transcript_text.proofs.Rows.{no_cause, wrong_cause, with_cause}
use Rattle.transcript_text.proofs.parsing.ignored.Goals as goal

pub returns-in_default : goal.returns-in_default
returns-in_default c = no_cause c.args.words.now c.wrong.result c.in_default.len_below c.wrong.ensures

pub returns-in_default-cause_of : goal.returns-in_default-cause_of
returns-in_default-cause_of c =
    wrong_cause c.args.words.now _ c.wrong-in_default-cause_of.result c.in-len1-up.len_at_least c.wrong-in_default-cause_of.ensures c.in_default-cause_of.ensures.none

pub returns : goal.returns
returns c = with_cause c.args.words.now _ c.in-Some.cause c.of_cause.result c.in-len1-up.len_at_least c.in-Some.ensures.some c.of_cause.ensures
