use Rattle.history_laws.proofs.Elsewhere as steps
use Rattle.history_laws.proofs.acknowledgements_keep_others.Goals as goal

pub returns : goal.returns
returns c = steps.acknowledgements_keep_others
