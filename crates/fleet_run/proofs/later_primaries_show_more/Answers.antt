use Rattle.fleet_run.proofs.Acknowledged.{later_primaries_show_more as law}
use Rattle.fleet_run.proofs.later_primaries_show_more.Goals as goal

pub returns : goal.returns
returns c = law
