use Rattle.fleet_run.proofs.Answering.{calls_are_answered_alike as law}
use Rattle.fleet_run.proofs.calls_are_answered_alike.Goals as goal

pub returns : goal.returns
returns c = law
