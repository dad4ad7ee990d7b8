use Rattle.history_laws.proofs.OwnGuards as steps
use Rattle.history_laws.proofs.commits_lengthen_texts.Goals as goal

pub returns : goal.returns
returns c = steps.commits_lengthen_texts
