use Rattle.fleet_laws.proofs.Roles.{one_primary}
use Rattle.fleet_laws.proofs.one_primary.Goals as goal

pub returns : goal.returns
returns g c = one_primary
