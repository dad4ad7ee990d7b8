use Rattle.history_laws.proofs.ShownStates as steps
use Rattle.history_laws.proofs.next_may_be_ordered.Goals as goal

pub returns : goal.returns
returns c = steps.next_may_be_ordered
