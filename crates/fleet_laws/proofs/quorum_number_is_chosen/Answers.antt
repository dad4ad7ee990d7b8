use Rattle.fleet_laws.proofs.Numbering.{number_is_chosen}
use Rattle.fleet_laws.proofs.quorum_number_is_chosen.Goals as goal

pub returns : goal.returns
returns g c = number_is_chosen
