use Rattle.std.proofs.Common.{◌≡◌, ◌++◌, filter_map}
use Rattle.std.specs.Map.{keys_of}
use Rattle.state_manager.proofs.States.{shown}
use Rattle.state_manager.proofs.manager.Manager.names.Given as goal

-- the names so far, and those of what is left, are all
abbrev pub invariant-loop-name : goal.invariant-loop-name
invariant-loop-name g l =
    l.names ++ keys_of (filter_map (shown g.P.StateProvider.view l.v.0) l.name-iterator)
    ≡ l.initial.names ++ keys_of (filter_map (shown g.P.StateProvider.view l.v.0) l.initial.name-iterator)
