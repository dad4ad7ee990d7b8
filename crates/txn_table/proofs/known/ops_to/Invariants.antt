use Rattle.std.proofs.Common.{◌≡◌, ◌++◌, filter, drop, nat_le}
use Rattle.txn_table.proofs.known.ops_to.Given as goal

abbrev pub invariant-loop-logged : goal.invariant-loop-logged
invariant-loop-logged l = l.out ++ filter (λ logged. nat_le logged.0.0 l.lsn.0) (drop l.logged-index l.ops) ≡ filter (λ logged. nat_le logged.0.0 l.lsn.0) l.ops
