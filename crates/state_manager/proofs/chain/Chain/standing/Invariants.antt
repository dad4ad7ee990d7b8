use Rattle.std.proofs.Common.{◌≡◌, ◌++◌}
use Rattle.state_manager.specs.Chains.{standing}
use Rattle.state_manager.proofs.chain.Chain.standing.Given as goal

abbrev pub invariant-loop-slot : goal.invariant-loop-slot
invariant-loop-slot g l =
    (goal.iterator-loop-slot g).can_next l.slot-iterator × (goal.iterator-loop-slot g).is_finite l.slot-iterator ×
    (standing l.v.0 (l.slot-iterator.head.now ++ l.slot-iterator.wrapped.now) ≡ standing l.v.0 l.fn.self)
