use Rattle.fleet_laws.proofs.Runs.{reached_invariant}
use Rattle.fleet_laws.proofs.later_epochs_have_it.Goals as goal

pub returns : goal.returns
returns g c = λ f run. (reached_invariant f run).key
