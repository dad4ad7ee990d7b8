use Rattle.std.proofs.Common.{◌≡◌, ◌++◌}
use Rattle.coll_model.specs.Rows as seen
use Rattle.coll_model.proofs.state.State.image.Given as goal

-- the collections so far, and those that are left, are all
abbrev pub invariant-loop-name : goal.invariant-loop-name
invariant-loop-name l = l.image ++ seen.image l.name-iterator ≡ l.initial.image ++ seen.image l.initial.name-iterator
