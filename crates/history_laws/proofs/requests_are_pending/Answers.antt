use Rattle.history_laws.proofs.OwnGuards as steps
use Rattle.history_laws.proofs.requests_are_pending.Goals as goal

pub returns : goal.returns
returns c = steps.requests_are_pending
