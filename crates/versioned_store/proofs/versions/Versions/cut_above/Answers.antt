use Rattle.std.proofs.Common.{rules, ◌≡◌, min}
use Rattle.versioned_store.specs.SeenBy.{stored}
use Rattle.versioned_store.proofs.Keeping.{cut_keeps, cut_sees}
use Rattle.versioned_store.proofs.versions.Versions.cut_above.Goals as goal

pub invariant_of-self : goal.invariant_of-self
invariant_of-self c =
    let s = stored c.args.self.now in
    let e = c.take_back.ensures in
    let least : c.args.v.0 ≡ min s.top.0 c.args.v.0 = search rules in
    record { sound = cut_keeps s c.args.v c.take_back.new.chains.entries c.take_back.new.journal.items c.args.self.now.sound c.requires (e.agrees s.base_count) e.within e.was_ordered e.ordered c.args.v least }

pub invariant_of-self-else-lt : goal.invariant_of-self-else-lt
invariant_of-self-else-lt c =
    let s = stored c.args.self.now in
    let e = c.take_back.ensures in
    let least : s.top.0 ≡ min s.top.0 c.args.v.0 = search rules in
    record { sound = cut_keeps s c.args.v c.take_back.new.chains.entries c.take_back.new.journal.items c.args.self.now.sound c.requires (e.agrees s.base_count) e.within e.was_ordered e.ordered s.top least }

pub returns-then-lt-clause-pairs : goal.returns-then-lt-clause-pairs
returns-then-lt-clause-pairs c =
    let s = stored c.args.self.now in
    let e = c.take_back.ensures in
    cut_sees s c.args.v c.take_back.new.chains.entries c.take_back.new.journal.items c.args.self.now.sound c.requires (e.agrees s.base_count) e.within e.was_ordered e.ordered

pub returns-else-lt-clause-pairs : goal.returns-else-lt-clause-pairs
returns-else-lt-clause-pairs c =
    let s = stored c.args.self.now in
    let e = c.take_back.ensures in
    cut_sees s c.args.v c.take_back.new.chains.entries c.take_back.new.journal.items c.args.self.now.sound c.requires (e.agrees s.base_count) e.within e.was_ordered e.ordered
