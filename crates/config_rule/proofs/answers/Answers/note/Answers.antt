use Rattle.std.proofs.Common.{◌∙◌, ap, sym}
use Rattle.std.specs.List.{position}
use Rattle.config_rule.specs.Rule.{is_answer, with_answer}
use Rattle.config_rule.proofs.Places.{answer_in_place, answer_behind}
use Rattle.config_rule.proofs.answers.Answers.note.Goals as goal

pub returns-in-Some-clause-ok : goal.returns-in-Some-clause-ok
returns-in-Some-clause-ok c =
    answer_in_place c.args.answer c.self.inside.answers.items c.in-Some.place (ap (position (is_answer c.args.answer.epoch c.args.answer.from)) c.self.view_is ∙ sym c.in-Some.ensures)
    ∙ ap (with_answer c.args.answer) c.self.view_is

pub returns-in_ok-push-in-None-clause-ok : goal.returns-in_ok-push-in-None-clause-ok
returns-in_ok-push-in-None-clause-ok c =
    c.in_ok-push-in-None.ensures.items
    ∙ sym (answer_behind c.args.answer c.self.inside.answers.items (ap (position (is_answer c.args.answer.epoch c.args.answer.from)) c.self.view_is ∙ sym c.in-None.ensures))
    ∙ ap (with_answer c.args.answer) c.self.view_is
