use Rattle.history_laws.proofs.EarlyReleaseRun as run
use Rattle.history_laws.proofs.early_release_is_refused.Goals as goal

pub returns : goal.returns
returns c = run.early_release_is_refused
