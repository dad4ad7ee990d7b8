use Rattle.fleet_laws.proofs.Ordering.{order_grows}
use Rattle.fleet_laws.proofs.order_only_grows.Goals as goal

pub returns : goal.returns
returns g c = order_grows
