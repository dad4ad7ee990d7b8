use Rattle.history_laws.proofs.ShownStates as steps
use Rattle.history_laws.proofs.shown_is_ordered.Goals as goal

pub returns : goal.returns
returns c = steps.shown_is_ordered
