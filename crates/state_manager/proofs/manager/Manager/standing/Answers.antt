use Rattle.std.proofs.Common.{◌≡◌, ◌∙◌, ◌≤◌, [], sym, ap, subst}
use Rattle.coll_model.specs.Effect.{at_key}
use Rattle.state_manager.specs.Chains.{seen, AreKept}
use Rattle.state_manager.specs.Managed.{Managed, state_at, chain_of}
use Rattle.state_manager.proofs.States.{at_shown, chain_of_found, chain_of_none}
use Rattle.state_manager.proofs.Steps.{kept_at, standing_kept, standing_shown}
use Rattle.state_manager.proofs.manager.Manager.standing.Goals as goal

pub returns-in_err-get-clause-shown : goal.returns-in_err-get-clause-shown
returns-in_err-get-clause-shown g c =
    let S = g.P.StateProvider in
    let m : Managed g.row.P.Denot = record { chains = c.self.inside.chains.entries; changes = c.self.inside.changes.items; floor = c.self.inside.floor; top = c.self.inside.top } in
    let none : chain_of c.args.name.now m.chains ≡ [] = chain_of_none c.args.name.now [] [] m.chains (sym c.in_err-get.ensures.value) in
    rw c.from_residual.ensures
    (ap (seen S.view c.args.v.0) (sym none) ∙ sym (at_shown S.view c.args.v.0 c.args.name.now m.chains c.self.invariant.rising)
    ∙ ap (λ (x : Managed g.row.P.Denot). at_key c.args.name.now (state_at S.view x c.args.v.0)) c.self.view_is)

pub returns-clause-shown : goal.returns-clause-shown
returns-clause-shown g c =
    let S = g.P.StateProvider in
    let m : Managed g.row.P.Denot = record { chains = c.self.inside.chains.entries; changes = c.self.inside.changes.items; floor = c.self.inside.floor; top = c.self.inside.top } in
    let chain = c.in_ok-get.field-0.now in
    let found : chain_of c.args.name.now m.chains ≡ chain = chain_of_found c.args.name.now chain chain m.chains (sym c.in_ok-get.ensures.value) in
    standing_shown S.view c.args.v.0 chain c.standing.result c.standing.ensures
    ∙ ap (seen S.view c.args.v.0) (sym found) ∙ sym (at_shown S.view c.args.v.0 c.args.name.now m.chains c.self.invariant.rising)
    ∙ ap (λ (x : Managed g.row.P.Denot). at_key c.args.name.now (state_at S.view x c.args.v.0)) c.self.view_is

pub returns-clause-kept : goal.returns-clause-kept
returns-clause-kept g c =
    let S = g.P.StateProvider in
    let m : Managed g.row.P.Denot = record { chains = c.self.inside.chains.entries; changes = c.self.inside.changes.items; floor = c.self.inside.floor; top = c.self.inside.top } in
    let chain = c.in_ok-get.field-0.now in
    let found : chain_of c.args.name.now m.chains ≡ chain = chain_of_found c.args.name.now chain chain m.chains (sym c.in_ok-get.ensures.value) in
    let from : m.floor.0 ≤ c.args.v.0 = subst (λ (x : Managed g.row.P.Denot). x.floor.0 ≤ c.args.v.0) (sym c.self.view_is) c.requires in
    standing_kept S.least c.args.v.0 c.args.v.0 chain (subst (AreKept S.least c.args.v.0) found (kept_at S.least S.view m c.self.invariant c.args.v.0 from c.args.name.now)) c.standing.result c.standing.ensures
