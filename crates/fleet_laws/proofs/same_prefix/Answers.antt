use Rattle.fleet_laws.proofs.Runs.{reached_invariant}
use Rattle.fleet_laws.proofs.Derived.{same_prefix_lem}
use Rattle.fleet_laws.proofs.same_prefix.Goals as goal

pub returns : goal.returns
returns g c = λ f run r q v w a b n x y is. same_prefix_lem f (reached_invariant f run) r q v w a b n x y is
