use Rattle.fleet_run.proofs.EventRuns.{beginnings_keep_sound as law}
use Rattle.fleet_run.proofs.beginnings_keep_sound.Goals as goal

pub returns : goal.returns
returns c = law
