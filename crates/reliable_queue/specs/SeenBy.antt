-- A queue as its contracts see it.
use Rattle.reliable_queue.specs.Queues.{Versioned}
use Rattle.reliable_queue.specs.declared.queue.Queue.{Queue}

abbrev pub versioned : Queue → Versioned
versioned q = record { values = q.values.items; pushes = q.pushes.items; pops = q.pops.items; floor = q.floor; top = q.top }
