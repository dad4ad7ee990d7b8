use Rattle.fleet_laws.proofs.Runs.{reached_invariant}
use Rattle.fleet_laws.proofs.Derived.{marked}
use Rattle.fleet_laws.proofs.logs_are_marked.Goals as goal

pub returns : goal.returns
returns g c = λ f run r v a. marked f (reached_invariant f run) r v a
