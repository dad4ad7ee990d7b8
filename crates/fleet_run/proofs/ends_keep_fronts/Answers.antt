use Rattle.fleet_run.proofs.OwnEnds.{ends_keep_fronts as law}
use Rattle.fleet_run.proofs.ends_keep_fronts.Goals as goal

pub returns : goal.returns
returns c = law
