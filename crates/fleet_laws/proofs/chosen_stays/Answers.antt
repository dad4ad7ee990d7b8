use Rattle.fleet_laws.proofs.Runs.{reached_invariant, run_after}
use Rattle.fleet_laws.proofs.chosen_stays.Goals as goal

pub returns : goal.returns
returns g c = λ f g run more. run_after f g (reached_invariant f run) more
