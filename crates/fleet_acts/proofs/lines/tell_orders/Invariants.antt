use Rattle.std.proofs.Common.{◌≡◌, ◌++◌, map}
use Rattle.fleet_run.specs.Acts.{order_line}
use Rattle.fleet_acts.proofs.lines.tell_orders.Given as goal

-- the lines of the commits so far stand behind those that stood there
abbrev pub invariant-loop-commit : goal.invariant-loop-commit
invariant-loop-commit l = l.lines ≡ l.initial.lines ++ map order_line l.yielded
