use Rattle.fleet_run.proofs.AsideLines.{lines_tell_machine as law}
use Rattle.fleet_run.proofs.lines_tell_machine.Goals as goal

pub returns : goal.returns
returns c = law
