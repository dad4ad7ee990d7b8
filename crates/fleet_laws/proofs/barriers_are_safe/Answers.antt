use Rattle.fleet_laws.proofs.Runs.{reached_invariant}
use Rattle.fleet_laws.proofs.Derived.{barrier_safe}
use Rattle.fleet_laws.proofs.barriers_are_safe.Goals as goal

pub returns : goal.returns
returns g c = λ f run r v a n s w is. barrier_safe f (reached_invariant f run) r v a n s w is
