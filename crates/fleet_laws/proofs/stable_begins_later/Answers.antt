use Rattle.fleet_laws.proofs.Runs.{reached_invariant}
use Rattle.fleet_laws.proofs.Derived.{stable_begins_later}
use Rattle.fleet_laws.proofs.stable_begins_later.Goals as goal

pub returns : goal.returns
returns g c = λ f run r e v a ae le. stable_begins_later f (reached_invariant f run) r e v a ae le
