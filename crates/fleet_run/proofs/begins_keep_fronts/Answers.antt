use Rattle.fleet_run.proofs.OwnEnds.{begins_keep_fronts as law}
use Rattle.fleet_run.proofs.begins_keep_fronts.Goals as goal

pub returns : goal.returns
returns c = law
