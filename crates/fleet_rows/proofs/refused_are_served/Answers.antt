use Rattle.fleet_rows.proofs.Serving as proof
use Rattle.fleet_rows.proofs.refused_are_served.Goals as goal

pub returns : goal.returns
returns c = proof.refused_are_served
