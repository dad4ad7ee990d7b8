use Rattle.order_laws.proofs.Runs.{legal_from_whole}
use Rattle.order_laws.proofs.whole_runs_are_legal.Goals as goal

pub returns : goal.returns
returns c = legal_from_whole
