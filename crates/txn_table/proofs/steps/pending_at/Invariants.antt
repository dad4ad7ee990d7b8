use Rattle.std.proofs.Common.{◌≡◌, ◌++◌, drop}
use Rattle.txn_table.specs.Commits.{pending_in}
use Rattle.txn_table.specs.Tables.{cut}
use Rattle.txn_table.proofs.steps.pending_at.Given as goal

abbrev pub invariant-loop-known : goal.invariant-loop-known
invariant-loop-known l = l.pending ++ pending_in (cut l.lsn (drop l.known-index l.txns)) ≡ pending_in (cut l.lsn l.txns)
