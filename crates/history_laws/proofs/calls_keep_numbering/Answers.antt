use Rattle.history_laws.proofs.NumberingSteps as steps
use Rattle.history_laws.proofs.calls_keep_numbering.Goals as goal

pub returns : goal.returns
returns c = steps.calls_keep_numbering
