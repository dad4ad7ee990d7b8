use Rattle.fleet_laws.proofs.Runs.{reached_invariant}
use Rattle.fleet_laws.proofs.Derived.{undo_keeps_stable}
use Rattle.fleet_laws.proofs.undo_keeps_stable.Goals as goal

pub returns : goal.returns
returns g c = λ f run r e n k v a ae le w s g. undo_keeps_stable f (reached_invariant f run) r e n k v a ae le w s g
