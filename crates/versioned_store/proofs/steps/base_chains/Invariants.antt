use Rattle.std.proofs.Common.{◌≡◌, map, take}
use Rattle.versioned_store.specs.Stores.{based}
use Rattle.versioned_store.proofs.steps.base_chains.Given as goal

abbrev pub invariant-loop-key : goal.invariant-loop-key
invariant-loop-key l = l.chains.entries ≡ map based (take l.key-index l.pairs)
