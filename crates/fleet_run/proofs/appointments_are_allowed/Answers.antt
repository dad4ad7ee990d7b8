use Rattle.fleet_run.proofs.Allowed.{appointments_are_allowed as law}
use Rattle.fleet_run.proofs.appointments_are_allowed.Goals as goal

pub returns : goal.returns
returns c = law
