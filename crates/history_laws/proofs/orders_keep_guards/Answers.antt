use Rattle.history_laws.proofs.LineGuards as lines
use Rattle.history_laws.proofs.orders_keep_guards.Goals as goal

pub returns : goal.returns
returns c = lines.orders_keep_guards
