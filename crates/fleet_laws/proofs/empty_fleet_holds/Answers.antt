use Rattle.fleet_laws.proofs.Runs.{empty_invariant}
use Rattle.fleet_laws.proofs.empty_fleet_holds.Goals as goal

pub returns : goal.returns
returns g c = empty_invariant
