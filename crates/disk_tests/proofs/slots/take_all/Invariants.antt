use Rattle.std.proofs.Common.{List, ℕ}
use Rattle.slot_store.specs.Slots.{HasPut}
use Rattle.disk_tests.proofs.slots.take_all.Given as goal

-- nobody else has written what is being written
abbrev pub invariant-loop-step : goal.invariant-loop-step
invariant-loop-step g l = (bytes : List ℕ) × HasPut l.store.writing (g.D.Disk.seen l.disk) bytes
