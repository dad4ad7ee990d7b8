use Rattle.std.proofs.Common.{rules, ◌≡◌, drop}
use Rattle.reliable_queue.specs.Queues.{up_to}
use Rattle.reliable_queue.specs.SeenBy.{versioned}
use Rattle.reliable_queue.proofs.Keeping.{merge_keeps}
use Rattle.reliable_queue.proofs.queue.Queue.merge.Goals as goal

pub invariant_of-self : goal.invariant_of-self
invariant_of-self c =
    let q = versioned c.args.self.now in
    let values : c.drop_first.new.items.items ≡ drop (up_to c.args.v.0 q.pops) q.values = search rules in
    let pushes : c.drop_first-2.new.items.items ≡ drop (up_to c.args.v.0 q.pops) q.pushes = search rules in
    let pops : c.drop_first-3.new.items.items ≡ drop (up_to c.args.v.0 q.pops) q.pops = search rules in
    record { sound = rw (values, pushes, pops) (merge_keeps q c.args.v c.args.self.now.sound c.requires.to) }
