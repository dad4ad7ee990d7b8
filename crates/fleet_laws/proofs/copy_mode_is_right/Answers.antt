use Rattle.fleet_laws.proofs.Runs.{reached_invariant}
use Rattle.fleet_laws.proofs.Copies.{mode_right}
use Rattle.fleet_laws.proofs.copy_mode_is_right.Goals as goal

pub returns : goal.returns
returns g c = λ f run low s t x y m is. mode_right f (reached_invariant f run) low s t x y m is
