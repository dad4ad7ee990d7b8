use Rattle.history_laws.proofs.NumberingLines as steps
use Rattle.history_laws.proofs.runs_keep_numbering.Goals as goal

pub returns : goal.returns
returns c = steps.runs_keep_numbering
