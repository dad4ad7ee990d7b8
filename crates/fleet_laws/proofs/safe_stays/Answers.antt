use Rattle.fleet_laws.proofs.Runs.{reached_invariant, run_after}
use Rattle.fleet_laws.proofs.After.{safe_after}
use Rattle.fleet_laws.proofs.safe_stays.Goals as goal

pub returns : goal.returns
returns g c = λ f h run more fence high log other s le same safe. safe_after f h (run_after f h (reached_invariant f run) more) fence high log other s le same safe
