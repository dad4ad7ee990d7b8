use Rattle.fleet_run.proofs.LostRun.{lost_commit}
use Rattle.fleet_run.proofs.lost_commits_return.Goals as goal

pub returns : goal.returns
returns c = lost_commit
