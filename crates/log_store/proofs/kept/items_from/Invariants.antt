use Rattle.std.proofs.Common.{◌≡◌, ◌++◌}
use Rattle.std.specs.Vec.Iter.{into_iter_items}
use Rattle.log_store.specs.Fold.{items_of}
use Rattle.log_store.proofs.kept.items_from.Given as goal

abbrev pub invariant-loop-row : goal.invariant-loop-row
invariant-loop-row l = l.items.items ++ items_of (into_iter_items l.row-iterator) ≡ items_of l.fn.rows
