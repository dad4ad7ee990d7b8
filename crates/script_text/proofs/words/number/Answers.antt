use Rattle.std.proofs.Common.{sym, ap, ◌∙◌}
use Rattle.std.proofs.lemmas.Bool.{false≢true}
use Rattle.std.specs.Str.{bytes_eq}
use Rattle.script_text.proofs.Numbers.{IsUtf8-number, number_is_read, number_is_printed}
use Rattle.script_text.proofs.words.number.Goals as goal

pub returns-in_default-clause-none : goal.returns-in_default-clause-none
returns-in_default-clause-none c = λ n small e. c.in_default.ensures.cases.0 (IsUtf8-number c.args.word.now n small e)

pub returns-in_default-parse-clause-none : goal.returns-in_default-parse-clause-none
returns-in_default-parse-clause-none c = λ n small e.
    number_is_read c.in-Ok.text.now n c.in_default-parse.field-0 small (c.in-Ok.ensures.cases.0 ∙ e) c.in_default-parse.ensures.value.0

pub returns-else-eq-clause-none : goal.returns-else-eq-clause-none
returns-else-eq-clause-none c = λ n small e.
    let printed = number_is_printed c.in-Ok.text.now n c.in-Ok-parse.n c.parse.result small (c.in-Ok.ensures.cases.0 ∙ e) c.in-Ok-parse.is c.parse.ensures.value.0 in
    false≢true (sym c.if-eq.false ∙ c.eq.ensures ∙ ap (λ t. bytes_eq t c.in-Ok.text.now) c.format.ensures.text ∙ printed)
