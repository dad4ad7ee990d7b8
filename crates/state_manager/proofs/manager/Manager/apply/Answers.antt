use Rattle.std.proofs.Common.{◌≡◌, ◌∙◌, ◌≤◌, ◌<◌, min, refl, sym, ap, subst, arith}
use Rattle.state_manager.specs.Managed.{Managed, state_at, IsManaged}
use Rattle.state_manager.proofs.Seen.{min_below, min_over}
use Rattle.state_manager.proofs.Steps.{state_rests, state_min}
use Rattle.state_manager.proofs.manager.Manager.apply.Goals as goal

pub loop-op-init : goal.loop-op-init
loop-op-init g c =
    let S = g.P.StateProvider in
    let managed : IsManaged S.least S.view c.args.self.now = subst (IsManaged S.least S.view) c.self.view_is c.self.invariant in
    let above : c.args.self.now.top.0 < c.args.v.0 = c.requires.above in
    record {
      floor = refl;
      top = omega (arith, above);
      risen = λ le. absurd (omega (arith, le));
      untouched = λ e. refl;
      now = refl;
      changed = record { below = λ w from less. refl; from = λ w le. state_rests S.least S.view c.args.self.now managed w (omega (arith, above, le)) };
    }

pub returns-in-Err-clause-same_states : goal.returns-in-Err-clause-same_states
returns-in-Err-clause-same_states g c =
    let S = g.P.StateProvider in
    let m = c.args.self.now in
    let managed : IsManaged S.least S.view m = subst (IsManaged S.least S.view) c.self.view_is c.self.invariant in
    let above : m.top.0 < c.args.v.0 = c.requires.above in
    let order : m.floor.0 ≤ m.top.0 = managed.in_order in
    let floors : c.operate.new.self.floor ≡ m.floor = c.operate.ensures.floor ∙ c.loop-op.invariant.floor in
    λ w from.
    let least : m.floor.0 ≤ min w m.top.0 = min_over w m.top.0 m.floor.0 from order in
    let most : min w m.top.0 ≤ m.top.0 = min_below w m.top.0 in
    c.undo_above.ensures.states w (subst (λ f. f.0 ≤ w) (sym floors) from)
    ∙ ap (λ (x : Managed g.row.P.Denot). state_at S.view c.operate.new.self (min w x.top.0)) c.self.view_is
    ∙ c.in-Err.ensures.same_states (min w m.top.0) (subst (λ f. f.0 ≤ min w m.top.0) (sym c.loop-op.invariant.floor) least)
    ∙ c.loop-op.invariant.changed.below (min w m.top.0) least (omega (arith, most, above))
    ∙ state_min S.least S.view m managed w
