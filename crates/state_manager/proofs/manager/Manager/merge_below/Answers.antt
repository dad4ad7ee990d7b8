use Rattle.std.proofs.Common.{◌≤◌, List, sym, subst}
use Rattle.state_manager.specs.declared.change.Change.{Change}
use Rattle.state_manager.specs.Chains.{AreSame}
use Rattle.state_manager.specs.Managed.{Managed, IsManaged, state_at}
use Rattle.state_manager.proofs.Steps.{kept_at, all_kept}
use Rattle.state_manager.proofs.Forgetting.{merged, merged_states}
use Rattle.state_manager.proofs.manager.Manager.merge_below.Goals as goal

pub merge_in_all-requires-clause-kept : goal.merge_in_all-requires-clause-kept
merge_in_all-requires-clause-kept g c =
    let S = g.P.StateProvider in
    let m : Managed g.row.P.Denot = record { chains = c.self.inside.chains.entries; changes = c.self.inside.changes.items; floor = c.self.inside.floor; top = c.self.inside.top } in
    let from : m.floor.0 ≤ c.args.v.0 = subst (λ (x : Managed g.row.P.Denot). x.floor.0 ≤ c.args.v.0) (sym c.self.view_is) c.requires.from in
    all_kept S.least c.args.v.0 m.chains c.self.invariant.rising (λ name. kept_at S.least S.view m c.self.invariant c.args.v.0 from name)

pub invariant_of-self : goal.invariant_of-self
invariant_of-self g c =
    let S = g.P.StateProvider in
    let m : Managed g.row.P.Denot = record { chains = c.self.inside.chains.entries; changes = c.self.inside.changes.items; floor = c.self.inside.floor; top = c.self.inside.top } in
    let from : m.floor.0 ≤ c.args.v.0 = subst (λ (x : Managed g.row.P.Denot). x.floor.0 ≤ c.args.v.0) (sym c.self.view_is) c.requires.from in
    let to : c.args.v.0 ≤ m.top.0 = subst (λ (x : Managed g.row.P.Denot). c.args.v.0 ≤ x.top.0) (sym c.self.view_is) c.requires.to in
    let entries = c.merge_in_all.new.chains.entries in
    subst (λ (changes : List Change). IsManaged S.least S.view (record { chains = entries; changes = changes; floor = c.args.v; top = m.top })) (sym c.keep_above.ensures)
    (merged S.least S.view m c.self.invariant c.args.v from to entries c.merge_in_all.ensures.rising c.merge_in_all.ensures.each)

pub returns-clause-states : goal.returns-clause-states
returns-clause-states g c =
    let S = g.P.StateProvider in
    let m : Managed g.row.P.Denot = record { chains = c.self.inside.chains.entries; changes = c.self.inside.changes.items; floor = c.self.inside.floor; top = c.self.inside.top } in
    let from : m.floor.0 ≤ c.args.v.0 = subst (λ (x : Managed g.row.P.Denot). x.floor.0 ≤ c.args.v.0) (sym c.self.view_is) c.requires.from in
    let to : c.args.v.0 ≤ m.top.0 = subst (λ (x : Managed g.row.P.Denot). c.args.v.0 ≤ x.top.0) (sym c.self.view_is) c.requires.to in
    let entries = c.merge_in_all.new.chains.entries in
    let now : Managed g.row.P.Denot = record { chains = entries; changes = c.keep_above.new.changes.items; floor = c.args.v; top = m.top } in
    subst (λ (old : Managed g.row.P.Denot). AreSame c.args.v.0 (state_at S.view old) (state_at S.view now)) c.self.view_is
    (merged_states S.least S.view m c.self.invariant c.args.v from to entries c.merge_in_all.ensures.rising c.merge_in_all.ensures.each c.keep_above.new.changes.items)
