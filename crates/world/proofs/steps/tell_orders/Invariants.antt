use Rattle.std.proofs.Common.{◌≡◌, ◌++◌, map}
use Rattle.world.specs.Steps.{order_line}
use Rattle.world.proofs.steps.tell_orders.Given as goal

-- the lines of the commits so far stand behind those that stood there
abbrev pub invariant-loop-commit : goal.invariant-loop-commit
invariant-loop-commit l = l.lines ≡ l.initial.lines ++ map order_line l.yielded
