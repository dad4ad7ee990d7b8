use Rattle.history_laws.proofs.OwnGuards as steps
use Rattle.history_laws.proofs.acknowledgements_keep_guards.Goals as goal

pub returns : goal.returns
returns c = steps.acknowledgements_keep_guards
