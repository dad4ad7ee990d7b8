use Rattle.std.proofs.Common.{◌≡◌, ◌++◌, filter_map}
use Rattle.std.specs.Prelude.{All}
use Rattle.coll_model.specs.Rows as seen
use Rattle.state_manager.specs.Chains.{AreKept}
use Rattle.state_manager.proofs.States.{shown}
use Rattle.state_manager.proofs.manager.Manager.save.Given as goal

-- the collections so far, and those that are left, are all; and each of these can be looked at
abbrev pub invariant-loop-name : goal.invariant-loop-name
invariant-loop-name g l =
    (l.saved ++ seen.image (filter_map (shown g.P.StateProvider.view l.v.0) l.name-iterator)
    ≡ l.initial.saved ++ seen.image (filter_map (shown g.P.StateProvider.view l.v.0) l.initial.name-iterator)) ×
    All (λ entry. AreKept g.P.StateProvider.least l.v.0 entry.1) l.name-iterator
