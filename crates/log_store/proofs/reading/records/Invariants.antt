use Rattle.std.proofs.Common.{length, ◌-◌, ◌≤◌}
use Rattle.log_store.proofs.Payloads.{IsSoFar}
use Rattle.log_store.proofs.reading.records.Given as goal

abbrev pub invariant-loop-at : goal.invariant-loop-at
invariant-loop-at l = record { within : l.at ≤ length l.payload; so_far : IsSoFar l.payload l.at l.items.items }

abbrev pub decreases-loop-at : goal.decreases-loop-at
decreases-loop-at l = length l.payload - l.at
