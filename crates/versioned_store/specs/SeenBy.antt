-- The versions as their contracts see them.
use Rattle.std.specs.Prelude.{ℕ, List}
use Rattle.versioned_store.specs.Stores.{Store, pairs_at}
use Rattle.versioned_store.specs.declared.versions.Versions.{Versions}

-- all of it
abbrev pub stored : Versions → Store
stored s = record { chains = s.chains.entries; journal = s.journal.items; base_count = s.base_count; floor = s.floor; top = s.top }

-- the pairs at a version, by rising key
abbrev pub pairs : Versions → ℕ → List (List ℕ × List ℕ)
pairs s w = pairs_at s.chains.entries w
