use Rattle.std.proofs.Common.{◌≡◌}
use Rattle.std.specs.Vec.Iter.{into_iter_items}
use Rattle.log_store.specs.Fold.{folded}
use Rattle.log_store.proofs.fold.fold.Given as goal

abbrev pub invariant-loop-item : goal.invariant-loop-item
invariant-loop-item l = folded l.place l.standing (into_iter_items l.item-iterator) ≡ folded l.fn.place l.fn.standing l.fn.items.items
