use Rattle.fleet_laws.proofs.Runs.{reached_invariant}
use Rattle.fleet_laws.proofs.Derived.{history_parts, value_parts}
use Rattle.fleet_laws.proofs.logs_are_of_histories.Goals as goal

pub returns : goal.returns
returns g c = λ f run. (λ e n a. history_parts f (reached_invariant f run) e n a, λ r n v a. value_parts f (reached_invariant f run) r n v a)
