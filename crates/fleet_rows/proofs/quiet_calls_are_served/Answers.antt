use Rattle.fleet_run.proofs.EventRuns.{events_keep_sound}
use Rattle.fleet_rows.proofs.CallLaws as proof
use Rattle.fleet_rows.proofs.quiet_calls_are_served.Goals as goal

pub returns : goal.returns
returns c = proof.quiet_calls_are_served events_keep_sound
