use Rattle.fleet_run.proofs.Following.{stable_logs_are_one as law}
use Rattle.fleet_run.proofs.stable_logs_are_one.Goals as goal

pub returns : goal.returns
returns c = law
