use Rattle.fleet_run.proofs.Rising.{active_may_come as law}
use Rattle.fleet_run.proofs.active_may_come.Goals as goal

pub returns : goal.returns
returns c = law
