use Rattle.std.proofs.Common.{◌≡◌, ◌≤◌, ℕ, length}
use Rattle.progress_vector.specs.Vectors.{last_at, origin}
use Rattle.progress_vector.proofs.copy.up_to.Given as goal

-- what is left has the same last entries
abbrev pub invariant-loop-entry : goal.invariant-loop-entry
invariant-loop-entry l = (lsn : ℕ) → lsn ≤ l.at → last_at origin l.rest lsn ≡ last_at origin l.fn.entries lsn

abbrev pub decreases-loop-entry : goal.decreases-loop-entry
decreases-loop-entry l = length l.rest
