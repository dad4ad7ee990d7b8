use Rattle.std.proofs.Common.{◌≡◌, ◌∙◌, ap, sym, subst, position, Some, None, true, false}
use Rattle.config_rule.specs.Rule.{Known, after_activation, is_latest, broken_activation}
use Rattle.config_rule.specs.Kept.{configuration_at}
use Rattle.config_rule.proofs.Places.{activated_in_place, activation_of_none, activation_of, of_epoch}
use Rattle.config_rule.proofs.rule.Rule.activate.Goals as goal

pub returns-in_default-clause-broken : goal.returns-in_default-clause-broken
returns-in_default-clause-broken c =
    let P : Known → Type 0 = λ k. broken_activation k c.args.epoch ≡ Some 8 in
    subst P c.self.view_is (activation_of_none (record { appointed = c.self.inside.appointed.items; current = configuration_at c.self.inside.appointed.items c.self.inside.current; answers = c.self.inside.answers }) c.args.epoch (ap (λ xs. is_latest xs c.args.epoch) (sym c.deref.ensures.value) ∙ sym c.if-not-is_latest.ensures) (ap (position (of_epoch c.args.epoch)) (sym c.deref-2.ensures.value) ∙ sym c.in_default.ensures))

pub returns-then-not-appointed-clause-broken : goal.returns-then-not-appointed-clause-broken
returns-then-not-appointed-clause-broken c =
    let P : Known → Type 0 = λ k. broken_activation k c.args.epoch ≡ Some 8 in
    subst P c.self.view_is (activation_of (record { appointed = c.self.inside.appointed.items; current = configuration_at c.self.inside.appointed.items c.self.inside.current; answers = c.self.inside.answers }) c.args.epoch c.in-Some.place c.index_mut-appointed.result.now false (ap (λ xs. is_latest xs c.args.epoch) (sym c.deref.ensures.value) ∙ sym c.if-not-is_latest.ensures) (ap (position (of_epoch c.args.epoch)) (sym c.deref-2.ensures.value) ∙ sym c.in-Some.ensures) c.index_mut-appointed.ensures.value c.if-not-appointed.true)

pub returns-clause-ok : goal.returns-clause-ok
returns-clause-ok c =
    activated_in_place c.args.epoch c.self.inside.appointed.items _ c.self.inside.answers c.in-Some.place c.index_mut-appointed.result.now
    (ap (position (of_epoch c.args.epoch)) (sym c.deref-2.ensures.value) ∙ sym c.in-Some.ensures) c.index_mut-appointed.ensures.value
    ∙ ap (λ k. after_activation k c.args.epoch) c.self.view_is

pub returns-clause-lawful : goal.returns-clause-lawful
returns-clause-lawful c =
    let P : Known → Type 0 = λ k. broken_activation k c.args.epoch ≡ None in
    subst P c.self.view_is (activation_of (record { appointed = c.self.inside.appointed.items; current = configuration_at c.self.inside.appointed.items c.self.inside.current; answers = c.self.inside.answers }) c.args.epoch c.in-Some.place c.index_mut-appointed.result.now true (ap (λ xs. is_latest xs c.args.epoch) (sym c.deref.ensures.value) ∙ sym c.if-not-is_latest.ensures) (ap (position (of_epoch c.args.epoch)) (sym c.deref-2.ensures.value) ∙ sym c.in-Some.ensures) c.index_mut-appointed.ensures.value c.if-not-appointed.false)
