use Rattle.std.proofs.Common.{sym, ap, ◌∙◌}
use Rattle.std.proofs.lemmas.Bool.{false≢true}
use Rattle.script_text.specs.Reading.{texts}
use Rattle.script_text.proofs.EventWords.{line_from_words, no_line_from_words}
use Rattle.script_text.proofs.read.read_event.Goals as goal

pub returns-in-Some-clause-event : goal.returns-in-Some-clause-event
returns-in-Some-clause-event c =
    line_from_words c.args.line.now (texts c.deref.result.now) c.in-Some.event (ap texts c.deref.ensures.value ∙ c.in_ok-words.ensures) (rw c.in-Some.is at c.in_ok-event.ensures)

pub returns-clause-bad : goal.returns-clause-bad
returns-clause-bad c = λ _. record {
  not_skipped = λ skipped. false≢true (sym c.if-is_skipped.false ∙ c.is_skipped.ensures.1 skipped);
  no_sentence = no_line_from_words c.args.line.now (texts c.deref.result.now) (ap texts c.deref.ensures.value ∙ c.in_ok-words.ensures) (rw c.in-None.is at c.in_ok-event.ensures);
}
