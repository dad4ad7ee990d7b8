use Rattle.std.proofs.Common.{◌+◌, ◌-◌, ◌≤◌, ℕ}
use Rattle.progress_vector.specs.Modes.{IsCommon}
use Rattle.progress_vector.proofs.Forks.{Agrees}
use Rattle.progress_vector.proofs.copy.fork.Given as goal

-- each common position is at or below the one that is looked at
abbrev pub invariant-loop-at : goal.invariant-loop-at
invariant-loop-at l = record {
  in_source : l.at ≤ l.source.last.0;
  in_target : l.at ≤ l.target.last.0;
  ours : Agrees l.ours l.source.entries l.at;
  theirs : Agrees l.theirs l.target.entries l.at;
  below : (lsn : ℕ) → IsCommon l.source l.target lsn → lsn ≤ l.at;
}

abbrev pub decreases-loop-at : goal.decreases-loop-at
decreases-loop-at l = l.at + 1 - l.low
