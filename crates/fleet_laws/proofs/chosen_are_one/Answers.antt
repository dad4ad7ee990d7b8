use Rattle.fleet_laws.proofs.Runs.{reached_invariant}
use Rattle.fleet_laws.proofs.Derived.{chosen_are_one, chosen_begins_later}
use Rattle.fleet_laws.proofs.chosen_are_one.Goals as goal

pub returns : goal.returns
returns g c = λ f run d e l m ad ae c k. (chosen_are_one f (reached_invariant f run) d e l m ad ae c k, λ lt. chosen_begins_later f (reached_invariant f run) d e l ad ae lt c)
