use Rattle.std.proofs.Common.{◌≡◌}
use Rattle.rc_io.proofs.std_streams.ReadSourceSource.read.Given as goal

abbrev pub invariant-loop-turn : goal.invariant-loop-turn
invariant-loop-turn g l = l.self.faults ≡ l.fn.self.faults
