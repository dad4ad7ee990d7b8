use Rattle.order_laws.proofs.Grown.{grow_moved, grow_run}
use Rattle.order_laws.proofs.orders_grow.Goals as goal

pub returns-clause-event : goal.returns-clause-event
returns-clause-event c = grow_moved

pub returns-clause-run : goal.returns-clause-run
returns-clause-run c = grow_run
