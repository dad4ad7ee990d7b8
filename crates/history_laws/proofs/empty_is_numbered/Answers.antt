use Rattle.history_laws.proofs.NumberingSteps as steps
use Rattle.history_laws.proofs.empty_is_numbered.Goals as goal

pub returns : goal.returns
returns c = steps.empty_is_numbered
