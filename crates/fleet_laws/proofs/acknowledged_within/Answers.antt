use Rattle.fleet_laws.proofs.Extents.{acknowledged_within}
use Rattle.fleet_laws.proofs.acknowledged_within.Goals as goal

pub returns : goal.returns
returns g c = acknowledged_within
