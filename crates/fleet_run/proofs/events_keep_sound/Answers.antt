use Rattle.fleet_run.proofs.EventRuns.{events_keep_sound as law}
use Rattle.fleet_run.proofs.events_keep_sound.Goals as goal

pub returns : goal.returns
returns c = law
