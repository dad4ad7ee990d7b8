use Rattle.fleet_laws.proofs.Runs.{reached_invariant}
use Rattle.fleet_laws.proofs.Inheriting.{has_what_may_be_chosen}
use Rattle.fleet_laws.proofs.primary_has_what_may_be_chosen.Goals as goal

pub returns : goal.returns
returns g c = λ f run e p v a d l ad may. has_what_may_be_chosen f (reached_invariant f run) e p v a d l ad may
