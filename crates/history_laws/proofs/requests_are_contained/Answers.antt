use Rattle.history_laws.proofs.RequestSteps as steps
use Rattle.history_laws.proofs.requests_are_contained.Goals as goal

pub returns : goal.returns
returns c = steps.requests_are_contained
