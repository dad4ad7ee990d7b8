use Rattle.fleet_laws.proofs.Running.{example}
use Rattle.fleet_laws.proofs.some_run_undoes.Goals as goal

pub returns : goal.returns
returns c = example
