use Rattle.history_laws.proofs.RequestSteps as steps
use Rattle.history_laws.proofs.role_ends_keep_requests.Goals as goal

pub returns : goal.returns
returns c = steps.role_ends_keep_requests
