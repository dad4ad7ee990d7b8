use Rattle.fleet_laws.proofs.Runs.{reached_invariant}
use Rattle.fleet_laws.proofs.Derived.{chosen_is_held}
use Rattle.fleet_laws.proofs.chosen_is_held.Goals as goal

pub returns : goal.returns
returns g c = λ f run e l a k. chosen_is_held f (reached_invariant f run) e l a k
