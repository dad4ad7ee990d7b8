use Rattle.fleet_laws.proofs.Runs.{reached_invariant}
use Rattle.fleet_laws.proofs.Derived.{copy_keeps_stable}
use Rattle.fleet_laws.proofs.copy_keeps_stable.Goals as goal

pub returns : goal.returns
returns g c = λ f run r e n head p a v is. copy_keeps_stable f (reached_invariant f run) r e n head p a v is
