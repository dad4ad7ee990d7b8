use Rattle.fleet_run.proofs.BootRun as run
use Rattle.fleet_run.proofs.three_are_booted.Goals as goal

pub returns : goal.returns
returns c = run.three_boot
