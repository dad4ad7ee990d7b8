use Rattle.std.proofs.Common.{rules, ◌≡◌, ℕ, min, take, subst}
use Rattle.reliable_queue.specs.Queues.{IsQueue, cut_to, up_to}
use Rattle.reliable_queue.specs.SeenBy.{versioned}
use Rattle.reliable_queue.proofs.Keeping.{cut_keeps}
use Rattle.reliable_queue.proofs.queue.Queue.cut.Goals as goal

pub invariant_of-self : goal.invariant_of-self
invariant_of-self c =
    let q = versioned c.args.self.now in
    let values : c.truncate.new.self.items ≡ take (up_to c.args.v.0 q.pushes) q.values = search rules in
    let pushes : c.truncate-2.new.self.items ≡ take (up_to c.args.v.0 q.pushes) q.pushes = search rules in
    let pops : c.truncate-3.new.self.items ≡ take (up_to c.args.v.0 q.pops) q.pops = search rules in
    let top : min q.top.0 c.args.v.0 ≡ c.args.v.0 = search rules in
    record { sound = rw (values, pushes, pops) (subst (λ (n : ℕ). IsQueue (record (cut_to c.args.v q) { top = record { 0 = n } })) top (cut_keeps q c.args.v c.args.self.now.sound c.requires)) }

pub invariant_of-self-else-lt : goal.invariant_of-self-else-lt
invariant_of-self-else-lt c =
    let q = versioned c.args.self.now in
    let values : c.truncate.new.self.items ≡ take (up_to c.args.v.0 q.pushes) q.values = search rules in
    let pushes : c.truncate-2.new.self.items ≡ take (up_to c.args.v.0 q.pushes) q.pushes = search rules in
    let pops : c.truncate-3.new.self.items ≡ take (up_to c.args.v.0 q.pops) q.pops = search rules in
    let top : min q.top.0 c.args.v.0 ≡ q.top.0 = search rules in
    record { sound = rw (values, pushes, pops) (subst (λ (n : ℕ). IsQueue (record (cut_to c.args.v q) { top = record { 0 = n } })) top (cut_keeps q c.args.v c.args.self.now.sound c.requires)) }
