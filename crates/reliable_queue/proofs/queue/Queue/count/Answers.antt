use Rattle.std.proofs.Common.{arith}
use Rattle.reliable_queue.specs.SeenBy.{versioned}
use Rattle.reliable_queue.proofs.Keeping.{count_at}
use Rattle.reliable_queue.proofs.queue.Queue.count.Goals as goal

pub returns : goal.returns
returns c = omega (arith, c.count_to.ensures, c.count_to-2.ensures, count_at (versioned c.args.self.now) c.args.v.0 c.args.self.now.sound)
