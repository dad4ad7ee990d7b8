use Rattle.fleet_laws.proofs.Runs.{reached_invariant}
use Rattle.fleet_laws.proofs.Derived.{fenced_begins}
use Rattle.fleet_laws.proofs.fenced_is_beginning.Goals as goal

pub returns : goal.returns
returns g c = λ f run r e v is a le from at. fenced_begins f (reached_invariant f run) r e v is a le from at
