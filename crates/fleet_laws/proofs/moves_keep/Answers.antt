use Rattle.fleet_laws.proofs.Runs.{move_keeps}
use Rattle.fleet_laws.proofs.moves_keep.Goals as goal

pub returns : goal.returns
returns g c = move_keeps
