use Rattle.history_laws.proofs.SettledSteps as steps
use Rattle.history_laws.proofs.calls_keep_texts.Goals as goal

pub returns : goal.returns
returns c = steps.calls_keep_texts
