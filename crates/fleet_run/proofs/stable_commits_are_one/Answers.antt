use Rattle.fleet_run.proofs.OrderLines.{stable_commits_are_one as law}
use Rattle.fleet_run.proofs.stable_commits_are_one.Goals as goal

pub returns : goal.returns
returns c = law
