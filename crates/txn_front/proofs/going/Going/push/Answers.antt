use Rattle.txn_front.proofs.Indexed.{indexed_more}
use Rattle.txn_front.proofs.going.Going.push.Goals as goal

-- src/going.rt:74:5
pub invariant_of-self-2 : goal.invariant_of-self-2
invariant_of-self-2 c =
    indexed_more c.self.inside.ops c.push.new.self c.self.inside.places.entries c.reserve.new.self.entries c.insert.new.self.entries c.args.op c.in_ok-item.item c.len-place.result
    c.self.invariant (c.in_ok-push.ensures.ok) c.reserve.ensures.entries c.in_ok-item.ensures c.len-place.ensures (λ q. c.in_ok-insert.ensures.updates.0 q)
