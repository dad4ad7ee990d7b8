use Rattle.fleet_run.proofs.Starting as start
use Rattle.fleet_rows.proofs.Starting as proof
use Rattle.fleet_rows.proofs.first_is_served.Goals as goal

pub returns : goal.returns
returns c = proof.first_is_served start.first_is_sound
