use Rattle.history_laws.proofs.SettledSteps as steps
use Rattle.history_laws.proofs.beginnings_are_texts.Goals as goal

pub returns : goal.returns
returns c = steps.beginnings_are_texts
