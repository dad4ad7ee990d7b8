use Rattle.fleet_run.proofs.Acknowledged.{acknowledgements_may_come as law}
use Rattle.fleet_run.proofs.acknowledgements_may_come.Goals as goal

pub returns : goal.returns
returns c = law
