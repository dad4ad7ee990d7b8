use Rattle.std.proofs.Common.{◌≡◌, ◌≤◌, take, drop}
use Rattle.reliable_queue.specs.Queues.{up_to}
use Rattle.reliable_queue.proofs.queue.Queue.listed.Given as goal

abbrev pub invariant-loop-place : goal.invariant-loop-place
invariant-loop-place l = record {
  listed : l.listed ≡ drop (up_to l.fn.v.0 l.fn.self.pops.items) (take l.place l.fn.self.values.items);
  from : up_to l.fn.v.0 l.fn.self.pops.items ≤ l.place;
}
