use Rattle.std.proofs.Common.{◌≡◌, ◌++◌}
use Rattle.versioned_store.specs.Stores.{pairs_at}
use Rattle.versioned_store.proofs.versions.Versions.rows_at.Given as goal

-- the pairs so far, and those of the keys that are left, are all
abbrev pub invariant-loop-key : goal.invariant-loop-key
invariant-loop-key l = l.listed ++ pairs_at l.key-iterator l.fn.v.0 ≡ pairs_at l.fn.self.chains.entries l.fn.v.0
