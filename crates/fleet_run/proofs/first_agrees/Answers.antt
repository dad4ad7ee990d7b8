use Rattle.fleet_run.proofs.FirstRows.{first_agrees as law}
use Rattle.fleet_run.proofs.first_agrees.Goals as goal

pub returns : goal.returns
returns c = law
