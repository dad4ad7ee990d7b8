use Rattle.fleet_laws.proofs.Numbering.{number_of_two}
use Rattle.fleet_laws.proofs.quorum_number_of_two.Goals as goal

pub returns : goal.returns
returns c = number_of_two
