use Rattle.fleet_run.proofs.Starting as start
use Rattle.fleet_run.proofs.first_is_sound.Goals as goal

pub returns : goal.returns
returns c = start.first_is_sound
