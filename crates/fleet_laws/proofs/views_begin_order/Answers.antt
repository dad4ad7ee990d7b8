use Rattle.fleet_laws.proofs.Ordering.{view_begins}
use Rattle.fleet_laws.proofs.views_begin_order.Goals as goal

pub returns : goal.returns
returns g c = view_begins
