use Rattle.fleet_laws.proofs.Ordering.{order_held}
use Rattle.fleet_laws.proofs.order_is_held.Goals as goal

pub returns : goal.returns
returns g c = order_held
