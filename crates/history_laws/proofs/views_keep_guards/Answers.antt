use Rattle.history_laws.proofs.OwnGuards as steps
use Rattle.history_laws.proofs.views_keep_guards.Goals as goal

pub returns : goal.returns
returns c = steps.views_keep_guards
