use Rattle.std.proofs.Common.{ℕ, List, ◌∙◌, ap, sym, position}
use Rattle.config_rule.specs.Rule.{Known, after_active, made_active}
use Rattle.config_rule.specs.declared.answers.SurveyAnswer.{SurveyAnswer}
use Rattle.config_rule.specs.declared.appointments.Appointed.{Appointed}
use Rattle.config_rule.specs.Kept.{configuration_at}
use Rattle.config_rule.proofs.Places.{active_in_place, unchanged_without, of_epoch}
use Rattle.config_rule.proofs.rule.Rule.note_active.Goals as goal

pub returns-in-Some : goal.returns-in-Some
returns-in-Some c =
    active_in_place c.args.epoch c.self.inside.appointed.items c.self.inside.current c.self.inside.answers c.in-Some.place c.index_mut-appointed.result.now
    (ap (position (of_epoch c.args.epoch)) (sym c.deref.ensures.value) ∙ sym c.in-Some.ensures) c.index_mut-appointed.ensures.value
    ∙ ap (λ k. after_active k c.args.epoch) c.self.view_is

abbrev known_with : List ℕ → List SurveyAnswer → List Appointed → Known
known_with current answers appointed = record { appointed = appointed; current = current; answers = answers }

pub returns-in_default : goal.returns-in_default
returns-in_default c =
    let u = unchanged_without c.args.epoch made_active c.self.inside.appointed.items (ap (position (of_epoch c.args.epoch)) (sym c.deref.ensures.value) ∙ sym c.in_default.ensures) in
    sym c.self.view_is
    ∙ ap (known_with (configuration_at c.self.inside.appointed.items c.self.inside.current) c.self.inside.answers) (sym u.0)
    ∙ ap (λ k. after_active k c.args.epoch) c.self.view_is
