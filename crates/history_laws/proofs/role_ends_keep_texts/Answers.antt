use Rattle.history_laws.proofs.SettledSteps as steps
use Rattle.history_laws.proofs.role_ends_keep_texts.Goals as goal

pub returns : goal.returns
returns c = steps.role_ends_keep_texts
