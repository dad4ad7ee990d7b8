use Rattle.std.proofs.Common.{◌≡◌, ◌++◌}
use Rattle.std.specs.Vec.Iter.{into_iter_items}
use Rattle.fleet_acts.proofs.rows.push_items.Given as goal

-- the words so far, and the items that are left, are all
abbrev pub invariant-loop-item : goal.invariant-loop-item
invariant-loop-item l = l.words ++ into_iter_items l.item-iterator ≡ l.initial.words ++ into_iter_items l.initial.item-iterator
