use Rattle.order_laws.proofs.OneCommit as run
use Rattle.order_laws.proofs.one_commit_is_whole.Goals as goal

pub returns : goal.returns
returns c = run.one_commit_is_whole
