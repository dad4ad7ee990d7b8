use Rattle.std.proofs.Common.{◌≡◌, ◌≤◌, ℕ, length}
use Rattle.state_manager.specs.Managed.{state_at}
use Rattle.state_manager.proofs.manager.Manager.undo_above.Given as goal

abbrev pub invariant-loop-self : goal.invariant-loop-self
invariant-loop-self g l = record {
  floor : l.self.floor ≡ l.initial.self.floor;
  top : l.self.top ≡ l.initial.self.top;
  states : (w : ℕ) → l.initial.self.floor.0 ≤ w → w ≤ l.v.0 → state_at g.P.StateProvider.view l.self w ≡ state_at g.P.StateProvider.view l.initial.self w;
}

abbrev pub decreases-loop-self : goal.decreases-loop-self
decreases-loop-self g l = length l.self.changes
