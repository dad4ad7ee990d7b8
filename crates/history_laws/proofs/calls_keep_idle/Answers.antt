use Rattle.history_laws.proofs.IdleSteps as steps
use Rattle.history_laws.proofs.calls_keep_idle.Goals as goal

pub returns : goal.returns
returns c = steps.calls_keep_idle
