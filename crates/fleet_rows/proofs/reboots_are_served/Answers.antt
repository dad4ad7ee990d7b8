use Rattle.fleet_run.proofs.EventRuns.{events_keep_sound}
use Rattle.fleet_rows.proofs.Stops as proof
use Rattle.fleet_rows.proofs.reboots_are_served.Goals as goal

pub returns : goal.returns
returns c = proof.reboots_are_served events_keep_sound
