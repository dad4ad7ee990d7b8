use Rattle.std.proofs.Common.{◌≡◌, ◌++◌, map}
use Rattle.order_machine.specs.Contents.{rows_of}
use Rattle.order_machine.specs.declared.observation.Observation.{Observation}
use Rattle.fleet_acts.proofs.rows.inspected.Given as goal

-- the lines so far, and those of the collections that are left, are all
abbrev pub invariant-loop-name : goal.invariant-loop-name
invariant-loop-name l = l.lines ++ map Observation.Rows (rows_of l.name-iterator) ≡ l.initial.lines ++ map Observation.Rows (rows_of l.initial.name-iterator)
