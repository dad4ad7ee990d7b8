use Rattle.std.proofs.Common.{◌≡◌, ◌∙◌, ◌≤◌, ◌<◌, ℕ, refl, sym, ap, subst}
use Rattle.state_manager.specs.Managed.{Managed, state_at, has_above}
use Rattle.state_manager.proofs.Steps.{newest_above, taken_back, taken_states, kept_at}
use Rattle.state_manager.proofs.manager.Manager.take_back.Goals as goal

pub undo_in-requires-clause-kept : goal.undo_in-requires-clause-kept
undo_in-requires-clause-kept g c =
    let S = g.P.StateProvider in
    let m : Managed g.row.P.Denot = record { chains = c.self.inside.chains.entries; changes = c.self.inside.changes.items; floor = c.self.inside.floor; top = c.self.inside.top } in
    kept_at S.least S.view m c.self.invariant c.args.v.0 (subst (λ (x : Managed g.row.P.Denot). x.floor.0 ≤ c.args.v.0) (sym c.self.view_is) c.requires.from) c.in-Some.change.name

pub invariant_of-self : goal.invariant_of-self
invariant_of-self g c =
    let S = g.P.StateProvider in
    let m : Managed g.row.P.Denot = record { chains = c.self.inside.chains.entries; changes = c.self.inside.changes.items; floor = c.self.inside.floor; top = c.self.inside.top } in
    let from : m.floor.0 ≤ c.args.v.0 = subst (λ (x : Managed g.row.P.Denot). x.floor.0 ≤ c.args.v.0) (sym c.self.view_is) c.requires.from in
    let above : c.args.v.0 < c.in-Some.change.at.0 =
    newest_above c.args.v.0 c.in-Some.change c.pop_front.new.self.items m.changes c.in-Some.ensures.items (ap (λ (x : Managed g.row.P.Denot). has_above c.args.v.0 x.changes) c.self.view_is ∙ c.requires.above) in
    taken_back S.least S.view m c.self.invariant c.args.v.0 from c.in-Some.change.name c.undo_in.new.chains.entries c.undo_in.ensures.rising c.undo_in.ensures.others c.undo_in.ensures.cut c.in-Some.change
    c.pop_front.new.self.items c.in-Some.ensures.items refl above

pub returns-in-Some-clause-states : goal.returns-in-Some-clause-states
returns-in-Some-clause-states g c =
    let S = g.P.StateProvider in
    let m : Managed g.row.P.Denot = record { chains = c.self.inside.chains.entries; changes = c.self.inside.changes.items; floor = c.self.inside.floor; top = c.self.inside.top } in
    let from : m.floor.0 ≤ c.args.v.0 = subst (λ (x : Managed g.row.P.Denot). x.floor.0 ≤ c.args.v.0) (sym c.self.view_is) c.requires.from in
    let now : Managed g.row.P.Denot = record { chains = c.undo_in.new.chains.entries; changes = c.pop_front.new.self.items; floor = m.floor; top = m.top } in
    subst (λ (old : Managed g.row.P.Denot). (w : ℕ) → old.floor.0 ≤ w → w ≤ c.args.v.0 → state_at S.view now w ≡ state_at S.view old w) c.self.view_is
    (taken_states S.least S.view m c.self.invariant c.args.v.0 from c.in-Some.change.name c.undo_in.new.chains.entries c.undo_in.ensures.rising c.undo_in.ensures.others c.undo_in.ensures.cut c.pop_front.new.self.items)
