use Rattle.std.proofs.Common.{◌≡◌, drop}
use Rattle.coll_model.specs.Effect.{folded}
use Rattle.replica.proofs.effects.apply_all.Given as goal

abbrev pub invariant-loop-op : goal.invariant-loop-op
invariant-loop-op l = folded l.state (drop l.op-index l.ops) ≡ folded l.fn.state l.ops
