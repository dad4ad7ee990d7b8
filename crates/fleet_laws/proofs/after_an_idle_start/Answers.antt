use Rattle.fleet_laws.proofs.Runs.{reached_invariant}
use Rattle.fleet_laws.proofs.Derived.{after_idle_start}
use Rattle.fleet_laws.proofs.after_an_idle_start.Goals as goal

pub returns : goal.returns
returns g c = λ f run d e ad ae lt k idle n past w. after_idle_start f (reached_invariant f run) d e ad ae lt k idle n past w
