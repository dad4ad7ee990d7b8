use Rattle.fleet_run.proofs.Following.{logs_have_same_prefix as law}
use Rattle.fleet_run.proofs.logs_have_same_prefix.Goals as goal

pub returns : goal.returns
returns c = law
