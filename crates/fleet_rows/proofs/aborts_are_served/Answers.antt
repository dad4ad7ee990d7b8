use Rattle.fleet_run.proofs.EventRuns.{events_keep_sound}
use Rattle.fleet_rows.proofs.AbortCalls as proof
use Rattle.fleet_rows.proofs.aborts_are_served.Goals as goal

pub returns : goal.returns
returns c = proof.aborts_are_served events_keep_sound
