use Rattle.std.proofs.Common.{◌≡◌, ◌++◌, [], map, drop}
use Rattle.txn_table.specs.Commits.{seen}
use Rattle.txn_table.proofs.steps.from_pending.Given as goal

abbrev pub invariant-loop-txn : goal.invariant-loop-txn
invariant-loop-txn l = l.txns.items ++ map (seen []) (drop l.txn-index l.pending) ≡ map (seen []) l.pending
