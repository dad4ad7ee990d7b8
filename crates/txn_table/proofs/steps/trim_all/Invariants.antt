use Rattle.std.proofs.Common.{◌≡◌, ◌++◌, map, take, drop}
use Rattle.txn_table.specs.Tables.{trimmed}
use Rattle.txn_table.proofs.steps.trim_all.Given as goal

abbrev pub invariant-loop-known : goal.invariant-loop-known
invariant-loop-known l = l.known-items ≡ map (trimmed l.lsn) (take l.known-index l.fn.txns.items) ++ drop l.known-index l.fn.txns.items
