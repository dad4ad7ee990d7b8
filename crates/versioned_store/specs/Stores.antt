-- A dictionary's pairs at several versions: the chain of each key, and a journal of all changes.
use Rattle.std.specs.Prelude.{◌≡◌, ℕ, ◌≤◌, Bool, Option, None, Some, List, [], ◌∷◌, length, map, All, if◌then◌else◌}
use Rattle.std.specs.Option.{unwrap_or}
use Rattle.std.specs.Ordering.{nat_cmp}
use Rattle.std.specs.Cmp.Lexicographic.{slice_cmp}
use Rattle.std.specs.List.Sorted.{IsNonDecreasingBy}
use Rattle.std.specs.BTreeMap.{is_at}
use Rattle.rc_base.specs.declared.ids.Lsn.{Lsn}
use Rattle.coll_model.specs.Effect.{at_key, with_key, without_key}
use Rattle.versioned_store.specs.declared.chain.Change.{Change}
use Rattle.versioned_store.specs.declared.journal.JournalEntry.{JournalEntry}
use Rattle.versioned_store.specs.Chains.{History, no_history, value_in, latest}

-- keys by rising order, each with its chain
abbrev pub Chains : Type 0
Chains = List (List ℕ × History)

-- whether this key is that one
abbrev pub same_key : List ℕ → List ℕ → Bool
same_key key other = is_at (slice_cmp nat_cmp key) other

-- the chain of a key
abbrev pub history_at : List ℕ → Chains → History
history_at key chains = unwrap_or (at_key key chains) no_history

-- the pair of a key, where it has a value
abbrev pub with_value : List ℕ → Option (List ℕ) → List (List ℕ × List ℕ) → List (List ℕ × List ℕ)
with_value key None pairs = pairs
with_value key (Some value) pairs = (key, value) ∷ pairs

-- the pairs at a version: the keys that have a value there, by rising order
abbrev pub pairs_at : Chains → ℕ → List (List ℕ × List ℕ)
pairs_at [] w = []
pairs_at (entry ∷ entries) w = with_value entry.0 (value_in entry.1 w) (pairs_at entries w)

-- what a put makes of the pairs: the key has the value, or is absent
abbrev pub changed : List ℕ → Option (List ℕ) → List (List ℕ × List ℕ) → List (List ℕ × List ℕ)
changed key None pairs = without_key key pairs
changed key (Some value) pairs = with_key key value pairs

-- the versions at which a key changed
abbrev pub versions_of : List ℕ → List JournalEntry → List Lsn
versions_of key [] = []
versions_of key (entry ∷ entries) = if same_key entry.key key then entry.at ∷ versions_of key entries else versions_of key entries

-- the key has this chain, and each other key the one that it had
abbrev pub HasChain : Chains → Chains → List ℕ → History → Type 0
HasChain old new key history = (other : List ℕ) → history_at other new ≡ (if same_key key other then history else history_at other old)

-- the journal tells the changes of each chain
abbrev pub Tells : List JournalEntry → Chains → Type 0
Tells journal chains = (key : List ℕ) → map (λ (change : Change). change.at) (history_at key chains).changes ≡ versions_of key journal

-- how many pairs there are after the last change at or below a version; so many before the first change
abbrev pub count_at : ℕ → List JournalEntry → ℕ → ℕ
count_at before journal w = latest (λ (entry : JournalEntry). entry.at.0) (λ (entry : JournalEntry). entry.count) w before journal

-- a key that has a value from the floor on
abbrev pub based : List ℕ × List ℕ → List ℕ × History
based pair = (pair.0, record { base = Some pair.1; changes = [] })

-- All of it: the chains, the journal by rising version, how many pairs there are at the floor, the floor and the top.
pub record Store : Type 0 where
  pub chains : Chains
  pub journal : List JournalEntry
  pub base_count : ℕ
  pub floor : Lsn
  pub top : Lsn

pub record IsStore (s : Store) : Type 0 where
  pub in_order : s.floor.0 ≤ s.top.0
  pub rises : IsNonDecreasingBy (λ entry. entry.at.0) s.journal
  pub reaches : All (λ entry. entry.at.0 ≤ s.top.0) s.journal
  pub tells : Tells s.journal s.chains
  pub rests : (w : ℕ) → s.top.0 ≤ w → pairs_at s.chains w ≡ pairs_at s.chains s.top.0
  pub counted : (w : ℕ) → s.floor.0 ≤ w → count_at s.base_count s.journal w ≡ length (pairs_at s.chains w)
