use Rattle.history_laws.proofs.RunTexts as steps
use Rattle.history_laws.proofs.runs_keep_texts.Goals as goal

pub returns : goal.returns
returns c = steps.runs_keep_texts
