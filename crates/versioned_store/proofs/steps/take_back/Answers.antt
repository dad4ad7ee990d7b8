use Rattle.std.proofs.Common.{rules, ◌≡◌, ◌∷◌, [], ◌++◌}
use Rattle.versioned_store.proofs.Turns.{back_turn}
use Rattle.versioned_store.proofs.steps.take_back.Goals as goal

pub ends_above-requires : goal.ends_above-requires
ends_above-requires c = (c.loop-v.invariant.agrees 0).rises

pub loop-v-preserved-in-Some : goal.loop-v-preserved-in-Some
loop-v-preserved-in-Some c =
    let front = c.pop_back.new.self.items in
    let split : c.loop-v.journal.items ≡ front ++ c.in-Some.last ∷ [] = search rules in
    let above = c.ends_above.ensures.above c.loop-v-test.true front c.in-Some.last split in
    record {
      agrees = λ count. back_turn c.args.v.0 count c.args.chains.now.entries c.args.journal.now.items c.loop-v.chains.entries c.drop_newest.new.chains.entries c.loop-v.journal.items front c.in-Some.last (c.loop-v.invariant.agrees count) split above c.drop_newest.ensures.chain;
      ordered = c.drop_newest.ensures.ordered;
    }
