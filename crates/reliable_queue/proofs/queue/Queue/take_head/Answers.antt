use Rattle.std.proofs.Common.{rules, ◌≡◌, ◌++◌, ◌∷◌, []}
use Rattle.reliable_queue.specs.SeenBy.{versioned}
use Rattle.reliable_queue.proofs.Keeping.{pop_keeps}
use Rattle.reliable_queue.proofs.queue.Queue.take_head.Goals as goal

pub invariant_of-self-2 : goal.invariant_of-self-2
invariant_of-self-2 c =
    let q = versioned c.args.self.now in
    let pops : c.push_back.new.self.items ≡ c.args.self.now.pops.items ++ c.args.v ∷ [] = search rules in
    record { sound = rw (pops) (pop_keeps q c.args.v c.args.self.now.sound c.requires.from c.requires.more) }
