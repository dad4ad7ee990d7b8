use Rattle.std.proofs.Common.{◌≡◌, drop, flat_map}
use Rattle.coll_model.specs.Effect.{folded}
use Rattle.replica.proofs.effects.apply_commits.Given as goal

abbrev pub invariant-loop-commit : goal.invariant-loop-commit
invariant-loop-commit l = folded l.state (flat_map (λ c. c.ops) (drop l.commit-index l.commits)) ≡ folded l.fn.state (flat_map (λ c. c.ops) l.commits)
