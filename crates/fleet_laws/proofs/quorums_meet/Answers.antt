use Rattle.fleet_laws.proofs.Inheriting.{quorums_share}
use Rattle.fleet_laws.proofs.quorums_meet.Goals as goal

pub returns : goal.returns
returns c = quorums_share
