use Rattle.std.proofs.Common.{◌≡◌, ◌≤◌, ◌∙◌, ℕ, sym, ap, subst}
use Rattle.state_manager.specs.Managed.{Managed, state_at, has_above}
use Rattle.state_manager.proofs.Steps.{lowered_states, none_above}
use Rattle.state_manager.proofs.manager.Manager.lower_top.Goals as goal

pub returns-then-v-self-clause-rests : goal.returns-then-v-self-clause-rests
returns-then-v-self-clause-rests g c =
    let S = g.P.StateProvider in
    let m : Managed g.row.P.Denot = record { chains = c.self.inside.chains.entries; changes = c.self.inside.changes.items; floor = c.self.inside.floor; top = c.self.inside.top } in
    let from : m.floor.0 ≤ c.args.v.0 = subst (λ (x : Managed g.row.P.Denot). x.floor.0 ≤ c.args.v.0) (sym c.self.view_is) c.requires.from in
    let none = none_above c.args.v.0 m.changes c.self.invariant.falling (ap (λ (x : Managed g.row.P.Denot). has_above c.args.v.0 x.changes) c.self.view_is ∙ c.requires.none) in
    λ w le. lowered_states S.least S.view m c.self.invariant c.args.v.0 from none w le ∙ ap (λ (x : Managed g.row.P.Denot). state_at S.view x c.args.v.0) c.self.view_is

pub returns-else-v-self-clause-rests : goal.returns-else-v-self-clause-rests
returns-else-v-self-clause-rests g c =
    let S = g.P.StateProvider in
    let m : Managed g.row.P.Denot = record { chains = c.self.inside.chains.entries; changes = c.self.inside.changes.items; floor = c.self.inside.floor; top = c.self.inside.top } in
    let from : m.floor.0 ≤ c.args.v.0 = subst (λ (x : Managed g.row.P.Denot). x.floor.0 ≤ c.args.v.0) (sym c.self.view_is) c.requires.from in
    let none = none_above c.args.v.0 m.changes c.self.invariant.falling (ap (λ (x : Managed g.row.P.Denot). has_above c.args.v.0 x.changes) c.self.view_is ∙ c.requires.none) in
    subst (λ (x : Managed g.row.P.Denot). (w : ℕ) → c.args.v.0 ≤ w → state_at S.view x w ≡ state_at S.view x c.args.v.0) c.self.view_is
    (λ w le. lowered_states S.least S.view m c.self.invariant c.args.v.0 from none w le)
