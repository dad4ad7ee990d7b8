use Rattle.history_laws.proofs.RequestSteps as steps
use Rattle.history_laws.proofs.calls_keep_requests.Goals as goal

pub returns : goal.returns
returns c = steps.calls_keep_requests
