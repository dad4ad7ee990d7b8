use Rattle.fleet_laws.proofs.Runs.{reached_invariant}
use Rattle.fleet_laws.proofs.Derived.{turn_keeps_view}
use Rattle.fleet_laws.proofs.turns_keep_views.Goals as goal

pub returns : goal.returns
returns g c = λ f run r v w a t le. turn_keeps_view f (reached_invariant f run) r v w a t le
