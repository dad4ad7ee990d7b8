use Rattle.std.proofs.Common.{rules, ◌≡◌, ◌∷◌, ◌++◌, []}
use Rattle.reliable_queue.specs.SeenBy.{versioned}
use Rattle.reliable_queue.proofs.Keeping.{push_keeps}
use Rattle.reliable_queue.proofs.queue.Queue.push.Goals as goal

pub invariant_of-self-2 : goal.invariant_of-self-2
invariant_of-self-2 c =
    let q = versioned c.args.self.now in
    let values : c.push_back.new.self.items ≡ c.args.self.now.values.items ++ c.args.value.now ∷ [] = search rules in
    let pushes : c.push_back_reserved.new.self.items ≡ c.args.self.now.pushes.items ++ c.args.v ∷ [] = search rules in
    record { sound = rw (values, pushes) (push_keeps q c.args.v c.args.value.now c.args.self.now.sound c.requires) }
