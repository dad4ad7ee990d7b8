use Rattle.fleet_run.proofs.Acting as acting
use Rattle.fleet_run.proofs.acts_keep_sound.Goals as goal

pub returns : goal.returns
returns c = acting.acts_keep_sound
