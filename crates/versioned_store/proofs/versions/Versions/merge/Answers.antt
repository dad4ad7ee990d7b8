use Rattle.std.proofs.Common.{rules, ◌≤◌, arith}
use Rattle.versioned_store.specs.SeenBy.{stored}
use Rattle.versioned_store.proofs.Keeping.{merge_keeps, merge_sees}
use Rattle.versioned_store.proofs.versions.Versions.merge.Goals as goal

pub invariant_of-self : goal.invariant_of-self
invariant_of-self c =
    let s = stored c.args.self.now in
    let e = c.merge_front-self.ensures in
    let more : s.top.0 ≤ c.args.v.0 = search rules in
    record { sound = merge_keeps s c.args.v c.merge_front-self.new.chains.entries c.merge_front-self.new.journal.items c.merge_front-self.result c.args.self.now.sound c.requires e.agrees e.was_ordered e.ordered c.args.v more (omega arith) }

pub invariant_of-self-else-lt : goal.invariant_of-self-else-lt
invariant_of-self-else-lt c =
    let s = stored c.args.self.now in
    let e = c.merge_front-self.ensures in
    let within : c.args.v.0 ≤ s.top.0 = search rules in
    record { sound = merge_keeps s c.args.v c.merge_front-self.new.chains.entries c.merge_front-self.new.journal.items c.merge_front-self.result c.args.self.now.sound c.requires e.agrees e.was_ordered e.ordered s.top (omega arith) within }

pub returns-then-lt-clause-pairs : goal.returns-then-lt-clause-pairs
returns-then-lt-clause-pairs c =
    let s = stored c.args.self.now in
    let e = c.merge_front-self.ensures in
    merge_sees s c.args.v c.merge_front-self.new.chains.entries c.merge_front-self.new.journal.items c.merge_front-self.result c.args.self.now.sound c.requires e.agrees e.was_ordered e.ordered

pub returns-else-lt-clause-pairs : goal.returns-else-lt-clause-pairs
returns-else-lt-clause-pairs c =
    let s = stored c.args.self.now in
    let e = c.merge_front-self.ensures in
    merge_sees s c.args.v c.merge_front-self.new.chains.entries c.merge_front-self.new.journal.items c.merge_front-self.result c.args.self.now.sound c.requires e.agrees e.was_ordered e.ordered
