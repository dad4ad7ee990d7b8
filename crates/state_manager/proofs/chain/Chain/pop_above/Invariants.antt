use Rattle.std.proofs.Common.{◌≡◌, length}
use Rattle.state_manager.specs.Chains.{made_by}
use Rattle.state_manager.proofs.chain.Chain.pop_above.Given as goal

abbrev pub invariant-loop-slot : goal.invariant-loop-slot
invariant-loop-slot g l = made_by l.v.0 l.self-inside.slots.items ≡ made_by l.v.0 l.initial.self-inside.slots.items

abbrev pub decreases-loop-slot : goal.decreases-loop-slot
decreases-loop-slot g l = length l.self-inside.slots.items
