use Rattle.std.proofs.Common.{◌≡◌, ◌++◌, map}
use Rattle.std.specs.Vec.Iter.{into_iter_items}
use Rattle.order_machine.specs.declared.observation.Observation.TheVariants as says
use Rattle.fleet_acts.proofs.lines.tell_acknowledged.Given as goal

-- the lines so far, and those of the transactions that are left, are all
abbrev pub invariant-loop-txn : goal.invariant-loop-txn
invariant-loop-txn l = l.lines ++ map says.Committed (into_iter_items l.txn-iterator) ≡ l.initial.lines ++ map says.Committed (into_iter_items l.initial.txn-iterator)
