use Rattle.fleet_run.proofs.OwnLooks.{looks_keep_fronts as law}
use Rattle.fleet_run.proofs.looks_keep_fronts.Goals as goal

pub returns : goal.returns
returns c = law
