use Rattle.order_machine.specs.declared.observation.Observation.TheVariants as says
use Rattle.transcript_text.specs.Lines.{words_of}
use Rattle.transcript_text.specs.Said.{IsSaid}
use Rattle.transcript_text.proofs.Wrongs.{none_there, wrong_there}
use Rattle.transcript_text.proofs.Rows.{no_words, no_form, with_form}
use Rattle.transcript_text.proofs.parsing.observation.Goals as goal

pub returns-in_default : goal.returns-in_default
returns-in_default c = none_there words_of IsSaid says.Done tt no_words c.args.words.now c.wrong.result c.in_default.len_below c.wrong.ensures

pub returns-in_default-form_of : goal.returns-in_default-form_of
returns-in_default-form_of c =
    wrong_there words_of IsSaid says.Done tt c.args.words.now _ c.wrong-in_default-form_of.result c.in-len1-up.len_at_least c.wrong-in_default-form_of.ensures (no_form _ c.in_default-form_of.ensures.none)

pub returns : goal.returns
returns c = with_form c.args.words.now _ c.in-Some.form c.of_form.result c.in-len1-up.len_at_least c.in-Some.ensures.some c.of_form.ensures
