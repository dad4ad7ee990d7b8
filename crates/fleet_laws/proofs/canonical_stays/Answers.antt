use Rattle.fleet_laws.proofs.Runs.{reached_invariant, run_after}
use Rattle.fleet_laws.proofs.After.{canonical_after}
use Rattle.fleet_laws.proofs.canonical_stays.Goals as goal

pub returns : goal.returns
returns g c = λ f h run more log is. canonical_after f h (run_after f h (reached_invariant f run) more) log is
