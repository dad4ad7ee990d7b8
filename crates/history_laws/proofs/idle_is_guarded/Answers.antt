use Rattle.history_laws.proofs.OwnGuards as steps
use Rattle.history_laws.proofs.idle_is_guarded.Goals as goal

pub returns : goal.returns
returns c = steps.idle_is_guarded
