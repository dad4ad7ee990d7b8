use Rattle.fleet_laws.proofs.Runs.{reached_invariant}
use Rattle.fleet_laws.proofs.runs_keep.Goals as goal

pub returns : goal.returns
returns g c = reached_invariant
