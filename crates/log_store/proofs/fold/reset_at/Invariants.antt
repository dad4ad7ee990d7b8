use Rattle.std.proofs.Common.{◌≡◌, drop}
use Rattle.log_store.specs.Fold as spec
use Rattle.log_store.proofs.fold.reset_at.Given as goal

abbrev pub invariant-loop-item : goal.invariant-loop-item
invariant-loop-item l = spec.reset_at (drop l.item-index l.items) ≡ spec.reset_at l.items
