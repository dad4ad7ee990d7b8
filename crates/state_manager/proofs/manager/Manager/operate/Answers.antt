use Rattle.std.proofs.Common.{◌∙◌, ◌≤◌, ◌∷◌, List, sym, ap, subst, arith}
use Rattle.coll_model.specs.Effect.{effect}
use Rattle.coll_laws.specs.Effects.{name_of}
use Rattle.state_manager.specs.declared.change.Change.{Change}
use Rattle.state_manager.specs.Chains.{AreSame, AreChanged}
use Rattle.state_manager.specs.Managed.{Managed, state_at, IsManaged}
use Rattle.state_manager.proofs.Steps.{operated, operated_states, failed, failed_states, kept_at, on_err_any}
use Rattle.state_manager.proofs.manager.Manager.operate.Goals as goal

pub operate_on-requires-clause-kept : goal.operate_on-requires-clause-kept
operate_on-requires-clause-kept g c =
    let S = g.P.StateProvider in
    let m : Managed g.row.P.Denot = record { chains = c.self.inside.chains.entries; changes = c.self.inside.changes.items; floor = c.self.inside.floor; top = c.self.inside.top } in
    let above : m.top.0 ≤ c.args.v.0 = subst (λ (x : Managed g.row.P.Denot). x.top.0 ≤ c.args.v.0) (sym c.self.view_is) c.requires.from in
    let order : m.floor.0 ≤ m.top.0 = c.self.invariant.in_order in
    kept_at S.least S.view m c.self.invariant c.args.v.0 (omega (arith, order, above)) (name_of c.args.op.now)

pub invariant_of-self-in_err-operate_on : goal.invariant_of-self-in_err-operate_on
invariant_of-self-in_err-operate_on g c =
    let S = g.P.StateProvider in
    let m : Managed g.row.P.Denot = record { chains = c.self.inside.chains.entries; changes = c.self.inside.changes.items; floor = c.self.inside.floor; top = c.self.inside.top } in
    let above : m.top.0 ≤ c.args.v.0 = subst (λ (x : Managed g.row.P.Denot). x.top.0 ≤ c.args.v.0) (sym c.self.view_is) c.requires.from in
    let order : m.floor.0 ≤ m.top.0 = c.self.invariant.in_order in
    let chains = c.operate_on.new.chains.entries in
    subst (λ (changes : List Change). IsManaged S.least S.view (record { chains = chains; changes = changes; floor = m.floor; top = m.top })) (sym c.reserve.ensures.items)
    (failed S.least S.view m c.self.invariant c.args.v.0 (omega (arith, order, above)) (name_of c.args.op.now) chains c.operate_on.ensures.rising c.operate_on.ensures.others c.in_err-operate_on.ensures.err)

pub returns-in_err-operate_on-clause-same_states : goal.returns-in_err-operate_on-clause-same_states
returns-in_err-operate_on-clause-same_states g c =
    let S = g.P.StateProvider in
    let m : Managed g.row.P.Denot = record { chains = c.self.inside.chains.entries; changes = c.self.inside.changes.items; floor = c.self.inside.floor; top = c.self.inside.top } in
    let above : m.top.0 ≤ c.args.v.0 = subst (λ (x : Managed g.row.P.Denot). x.top.0 ≤ c.args.v.0) (sym c.self.view_is) c.requires.from in
    let order : m.floor.0 ≤ m.top.0 = c.self.invariant.in_order in
    let chains = c.operate_on.new.chains.entries in
    let now : Managed g.row.P.Denot = record { chains = chains; changes = c.reserve.new.self.items; floor = m.floor; top = m.top } in
    on_err_any c.from_residual-in_err-operate_on.result
    (subst (λ (old : Managed g.row.P.Denot). AreSame old.floor.0 (state_at S.view old) (state_at S.view now)) c.self.view_is
    (failed_states S.least S.view m c.self.invariant c.args.v.0 (omega (arith, order, above)) (name_of c.args.op.now) chains c.operate_on.ensures.rising c.operate_on.ensures.others c.in_err-operate_on.ensures.err
    c.reserve.new.self.items m.top above))

pub invariant_of-self-2 : goal.invariant_of-self-2
invariant_of-self-2 g c =
    let S = g.P.StateProvider in
    let m : Managed g.row.P.Denot = record { chains = c.self.inside.chains.entries; changes = c.self.inside.changes.items; floor = c.self.inside.floor; top = c.self.inside.top } in
    let above : m.top.0 ≤ c.args.v.0 = subst (λ (x : Managed g.row.P.Denot). x.top.0 ≤ c.args.v.0) (sym c.self.view_is) c.requires.from in
    let chains = c.operate_on.new.chains.entries in
    let change : Change = record { at = c.args.v; name = c.in_ok-clone.field-0 } in
    let items = c.push_front_reserved.ensures.items ∙ ap (λ (changes : List Change). change ∷ changes) c.reserve.ensures.items
    ∙ ap (λ name. record { at = c.args.v; name = name } ∷ m.changes) (c.in_ok-clone.ensures.cases ∙ c.name_of.ensures) in
    subst (λ (changes : List Change). IsManaged S.least S.view (record { chains = chains; changes = changes; floor = m.floor; top = c.args.v })) (sym items)
    (operated S.least S.view m c.self.invariant c.args.v above c.args.op.now chains c.operate_on.ensures.rising c.operate_on.ensures.others c.in_ok-operate_on.ensures.ok)

pub returns-clause-states : goal.returns-clause-states
returns-clause-states g c =
    let S = g.P.StateProvider in
    let m : Managed g.row.P.Denot = record { chains = c.self.inside.chains.entries; changes = c.self.inside.changes.items; floor = c.self.inside.floor; top = c.self.inside.top } in
    let above : m.top.0 ≤ c.args.v.0 = subst (λ (x : Managed g.row.P.Denot). x.top.0 ≤ c.args.v.0) (sym c.self.view_is) c.requires.from in
    let chains = c.operate_on.new.chains.entries in
    let now : Managed g.row.P.Denot = record { chains = chains; changes = c.push_front_reserved.new.self.items; floor = m.floor; top = c.args.v } in
    subst (λ (old : Managed g.row.P.Denot). AreChanged c.args.v.0 old.floor.0 (state_at S.view old) (state_at S.view now) (effect (state_at S.view old old.top.0) c.args.op.now)) c.self.view_is
    (operated_states S.least S.view m c.self.invariant c.args.v above c.args.op.now chains c.operate_on.ensures.rising c.operate_on.ensures.others c.push_front_reserved.new.self.items c.in_ok-operate_on.ensures.ok)
