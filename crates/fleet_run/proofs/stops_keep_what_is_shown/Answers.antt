use Rattle.fleet_run.proofs.Stopping.{stops_keep_what_is_shown as law}
use Rattle.fleet_run.proofs.stops_keep_what_is_shown.Goals as goal

pub returns : goal.returns
returns c = law
