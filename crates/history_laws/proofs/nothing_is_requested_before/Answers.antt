use Rattle.history_laws.proofs.RequestSteps as steps
use Rattle.history_laws.proofs.nothing_is_requested_before.Goals as goal

pub returns : goal.returns
returns c = steps.nothing_is_requested_before
