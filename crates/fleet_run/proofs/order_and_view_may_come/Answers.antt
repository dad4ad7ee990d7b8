use Rattle.fleet_run.proofs.OrderLines.{order_and_view_may_come as law}
use Rattle.fleet_run.proofs.order_and_view_may_come.Goals as goal

pub returns : goal.returns
returns c = law
