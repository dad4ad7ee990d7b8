use Rattle.fleet_laws.proofs.Numbering.{quorum_number}
use Rattle.fleet_laws.proofs.quorum_number_exists.Goals as goal

pub returns : goal.returns
returns c = quorum_number
