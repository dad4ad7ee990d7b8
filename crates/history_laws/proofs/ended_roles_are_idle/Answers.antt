use Rattle.history_laws.proofs.IdleSteps as steps
use Rattle.history_laws.proofs.ended_roles_are_idle.Goals as goal

pub returns : goal.returns
returns c = steps.ended_roles_are_idle
