use Rattle.fleet_run.proofs.AsideRuns.{aside_events_are_whole as law}
use Rattle.fleet_run.proofs.aside_events_are_whole.Goals as goal

pub returns : goal.returns
returns c = law
