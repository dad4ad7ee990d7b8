use Rattle.history_laws.proofs.SettledSteps as steps
use Rattle.history_laws.proofs.requests_keep_texts.Goals as goal

pub returns : goal.returns
returns c = steps.requests_keep_texts
