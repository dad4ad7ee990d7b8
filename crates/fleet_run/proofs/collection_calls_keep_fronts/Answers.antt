use Rattle.fleet_run.proofs.OwnCalls.{collection_calls_keep_fronts as law}
use Rattle.fleet_run.proofs.collection_calls_keep_fronts.Goals as goal

pub returns : goal.returns
returns c = law
