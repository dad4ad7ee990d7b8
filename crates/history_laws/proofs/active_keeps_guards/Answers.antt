use Rattle.history_laws.proofs.LineGuards as lines
use Rattle.history_laws.proofs.active_keeps_guards.Goals as goal

pub returns : goal.returns
returns c = lines.active_keeps_guards
