use Rattle.history_laws.proofs.Elsewhere as steps
use Rattle.history_laws.proofs.role_ends_keep_others.Goals as goal

pub returns : goal.returns
returns c = steps.role_ends_keep_others
