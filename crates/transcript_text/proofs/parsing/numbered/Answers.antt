use Rattle.std.proofs.Common.{decimal, rules, lit<}
use Rattle.order_machine.specs.declared.observation.Observation.TheVariants as says
use Rattle.transcript_text.specs.Lines.{words_of}
use Rattle.transcript_text.specs.ReadBack.{line_words, IsLine}
use Rattle.transcript_text.proofs.Wrongs.{same_first, none_there, wrong_there}
use Rattle.transcript_text.proofs.Rows.{numbered_error}
use Rattle.transcript_text.proofs.parsing.numbered.Goals as goal

pub returns-in_default : goal.returns-in_default
returns-in_default c = none_there line_words IsLine (0, says.Done) (lit< tt, tt) (λ y f e. cc) c.args.words.now c.wrong.result c.in_default.len_below c.wrong.ensures

pub returns-in_default-number : goal.returns-in_default-number
returns-in_default-number c =
    wrong_there line_words IsLine (0, says.Done) (lit< tt, tt) c.args.words.now _ c.wrong-in_default-number.result c.in-len1-up.len_at_least c.wrong-in_default-number.ensures
    (λ y more f same. c.in_default-number.ensures.none y.0 f.0 (same_first _ (decimal y.0) more (words_of y.1) same))

pub returns-in_err-observation : goal.returns-in_err-observation
returns-in_err-observation c =
    numbered_error c.in-Some.n c.in-Some.ensures.some.0 c.args.words.now _ c.in_err-observation.field-0.0 c.from_residual.result c.in-len1-up.len_at_least c.in-Some.ensures.some.1 (search rules) c.in_err-observation.ensures
