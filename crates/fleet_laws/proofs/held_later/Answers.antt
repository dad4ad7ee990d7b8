use Rattle.fleet_laws.proofs.Runs.{reached_invariant, run_keeps, run_after}
use Rattle.fleet_laws.proofs.Derived.{held_later}
use Rattle.fleet_laws.proofs.held_later.Goals as goal

pub returns : goal.returns
returns g c = λ f h run more e l a k. held_later f (reached_invariant f run) h (run_keeps f h (reached_invariant f run) more) (run_after f h (reached_invariant f run) more) e l a k
