use Rattle.progress_vector.proofs.Forks.{one_mode_holds}
use Rattle.progress_vector.proofs.copy.one_mode.Goals as goal

pub returns : goal.returns
returns c = one_mode_holds
