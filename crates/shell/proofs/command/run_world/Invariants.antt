use Rattle.std.proofs.Common.{◌≡◌, ℕ, ◌-◌, ◌≤◌, ◌++◌, List, Some, vec_len}
use Rattle.order_machine.specs.Machine.{Machine}
use Rattle.world.specs.Fleet.{images_of}
use Rattle.world.specs.World.{StandsFor}
use Rattle.shell.specs.Reached.{Reached}
use Rattle.shell.proofs.command.run_world.Given as goal

-- The lines that were read are done and written, and world and fleet stand for a state of the machine. No event's number
-- is past the lines, and the counts of faults haven't fallen.
abbrev pub invariant-loop-number : goal.invariant-loop-number
invariant-loop-number g l = record {
  nine : vec_len l.fleet ≡ 9;
  stands : (m : Machine) × StandsFor l.world (images_of g.M.Disk.images l.fleet.items 0) m;
  last : l.world.last ≤ l.reader.lines;
  source : g.S.Source.faults l.fn.source ≤ g.S.Source.faults l.source;
  sink : g.K.Sink.faults l.fn.sink ≤ g.K.Sink.faults l.sink;
  reached : (input held : List ℕ) → g.S.Source.left l.fn.source ≡ Some input → g.K.Sink.holds l.fn.sink ≡ Some held →
      (rest : List ℕ) × (now : List ℕ) × (g.S.Source.left l.source ≡ Some rest) × (g.K.Sink.holds l.sink ≡ Some now)
      × Reached g.M.Disk.images g.M.Disk.faults g.M.Disk.marks input held l.reader l.fn.fleet.items l.fleet.items l.world (l.reader.ahead ++ rest) now;
}

abbrev pub decreases-loop-number : goal.decreases-loop-number
decreases-loop-number g l = 1000000 - l.reader.lines
