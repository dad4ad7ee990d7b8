use Rattle.fleet_run.proofs.OwnEnds.{commits_keep_fronts as law}
use Rattle.fleet_run.proofs.commits_keep_fronts.Goals as goal

pub returns : goal.returns
returns c = law
