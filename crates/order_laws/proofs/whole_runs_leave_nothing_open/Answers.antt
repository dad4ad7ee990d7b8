use Rattle.order_laws.proofs.Behind.{holds_world}
use Rattle.order_laws.proofs.whole_runs_leave_nothing_open.Goals as goal

pub returns : goal.returns
returns c = holds_world
