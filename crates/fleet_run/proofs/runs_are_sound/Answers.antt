use Rattle.fleet_run.proofs.EventRuns.{runs_are_sound as law}
use Rattle.fleet_run.proofs.runs_are_sound.Goals as goal

pub returns : goal.returns
returns c = law
