use Rattle.history_laws.proofs.OwnGuards as steps
use Rattle.history_laws.proofs.calls_keep_guards.Goals as goal

pub returns : goal.returns
returns c = steps.calls_keep_guards
