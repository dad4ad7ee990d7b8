use Rattle.std.proofs.Common.{◌≡◌, ◌++◌}
use Rattle.std.specs.Vec.Iter.{into_iter_items}
use Rattle.fleet_acts.proofs.lines.append.Given as goal

-- the lines so far, and those that are left, are all
abbrev pub invariant-loop-line : goal.invariant-loop-line
invariant-loop-line l = l.lines ++ into_iter_items l.line-iterator ≡ l.initial.lines ++ into_iter_items l.initial.line-iterator
