use Rattle.fleet_run.proofs.Following.{what_is_shown_is_held as law}
use Rattle.fleet_run.proofs.what_is_shown_is_held.Goals as goal

pub returns : goal.returns
returns c = law
