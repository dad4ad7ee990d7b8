use Rattle.std.proofs.Common.{rules, ◌≡◌, ◌∷◌}
use Rattle.versioned_store.proofs.Turns.{front_turn}
use Rattle.versioned_store.proofs.steps.merge_front.Goals as goal

pub starts_within-requires : goal.starts_within-requires
starts_within-requires c = c.loop-v.invariant.agrees.rises

pub loop-v-preserved-in-Some : goal.loop-v-preserved-in-Some
loop-v-preserved-in-Some c =
    let rest = c.pop_front.new.self.items in
    let split : c.loop-v.journal.items ≡ c.in-Some.first ∷ rest = search rules in
    let within = c.starts_within.ensures.within c.loop-v-test.true c.in-Some.first rest split in
    record {
      agrees = front_turn c.args.v.0 c.args.base_count c.loop-v.count c.args.chains.now.entries c.args.journal.now.items c.loop-v.chains.entries c.merge_oldest.new.chains.entries c.loop-v.journal.items rest c.in-Some.first c.loop-v.invariant.agrees split within c.merge_oldest.ensures.chain;
      ordered = c.merge_oldest.ensures.ordered;
    }
