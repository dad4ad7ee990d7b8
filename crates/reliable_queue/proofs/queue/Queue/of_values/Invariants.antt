use Rattle.std.proofs.Common.{◌≡◌, take}
use Rattle.reliable_queue.specs.Queues.{loaded}
use Rattle.reliable_queue.specs.SeenBy.{versioned}
use Rattle.reliable_queue.proofs.queue.Queue.of_values.Given as goal

abbrev pub invariant-loop-value : goal.invariant-loop-value
invariant-loop-value l = versioned l.queue ≡ loaded l.v (take l.value-index l.values)
