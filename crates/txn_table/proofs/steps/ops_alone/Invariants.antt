use Rattle.std.proofs.Common.{◌≡◌, ◌++◌, map, drop}
use Rattle.txn_table.proofs.steps.ops_alone.Given as goal

abbrev pub invariant-loop-logged : goal.invariant-loop-logged
invariant-loop-logged l = l.out ++ map (λ logged. logged.1) (drop l.logged-index l.ops) ≡ map (λ logged. logged.1) l.ops
