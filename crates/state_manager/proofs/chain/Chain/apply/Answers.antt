use Rattle.std.proofs.Common.{rules, sym, subst, length}
use Rattle.std.specs.Prelude.{OnOk, OnErr}
use Rattle.std.proofs.lemmas.Bool.{ltb-true}
use Rattle.std.proofs.lemmas.Result.{on_ok_weaker, on_err_weaker}
use Rattle.state_manager.specs.Chains.{HasNewest, IsApplied, IsSame}
use Rattle.state_manager.proofs.Seen.{newest_set, newest_none}
use Rattle.state_manager.proofs.chain.Chain.apply.Goals as goal
use Rattle.state_manager.proofs.chain.Chain.apply.Goals.{in-Some, in-None}

pub returns-clause-ok : goal.returns-clause-ok
returns-clause-ok g c =
    let steps = IsApplied g.P.StateProvider.least g.P.StateProvider.view c.args.v.0 c.args.op.now in
    let items = c.self.inside.slots.items in
    subst (λ old. OnOk c.match-front_mut.result (HasNewest steps old c.match-front_mut.self-inside.slots.items)) c.self.view_is (elim c.match-front_mut.branch [
      | in-Some w ↦ rw (w.self-inside-is, w.result-is) (on_ok_weaker w.apply.result (λ h. newest_set steps items w.in-Some.slot.now w.apply.new.self (ltb-true 0 (length items) (sym w.in-Some.ensures.item.0)) w.in-Some.ensures.item.1 h) w.apply.ensures.ok)
      | in-None w ↦ rw (w.self-inside-is, w.result-is) (newest_none steps items (search rules))
    ])

pub returns-clause-err : goal.returns-clause-err
returns-clause-err g c =
    let steps = IsSame g.P.StateProvider.least g.P.StateProvider.view in
    let items = c.self.inside.slots.items in
    subst (λ old. OnErr c.match-front_mut.result (HasNewest steps old c.match-front_mut.self-inside.slots.items)) c.self.view_is (elim c.match-front_mut.branch [
      | in-Some w ↦ rw (w.self-inside-is, w.result-is) (on_err_weaker w.apply.result (λ h. newest_set steps items w.in-Some.slot.now w.apply.new.self (ltb-true 0 (length items) (sym w.in-Some.ensures.item.0)) w.in-Some.ensures.item.1 h) w.apply.ensures.err)
      | in-None w ↦ rw (w.self-inside-is, w.result-is) tt
    ])
