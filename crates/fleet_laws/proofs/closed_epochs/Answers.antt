use Rattle.fleet_laws.proofs.Runs.{reached_invariant}
use Rattle.fleet_laws.proofs.Derived.{chosen_begins_later}
use Rattle.fleet_laws.proofs.closed_epochs.Goals as goal

pub returns : goal.returns
returns g c = λ f run d e l ad ae lt k. (chosen_begins_later f (reached_invariant f run) d e l ad ae lt k).0
