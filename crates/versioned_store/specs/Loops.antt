-- What stays from change to change of an undo or a merge.
use Rattle.std.specs.Prelude.{◌≡◌, ℕ, ◌≤◌, List, All}
use Rattle.std.specs.List.Sorted.{IsNonDecreasingBy}
use Rattle.versioned_store.specs.declared.journal.JournalEntry.{JournalEntry}
use Rattle.versioned_store.specs.Chains.{value_in}
use Rattle.versioned_store.specs.Stores.{Chains, history_at, Tells, count_at}

-- At the versions in view each key has the value that it had, and the count is what it was. The journal still tells the chains.
pub record AgreesAt (InView : ℕ → Type 0) (old_count : ℕ) (old : Chains) (old_journal : List JournalEntry) (count : ℕ) (new : Chains) (journal : List JournalEntry) : Type 0 where
  pub values : (w : ℕ) → InView w → (key : List ℕ) → value_in (history_at key new) w ≡ value_in (history_at key old) w
  pub counts : (w : ℕ) → InView w → count_at count journal w ≡ count_at old_count old_journal w
  pub tells : Tells journal new
  pub rises : IsNonDecreasingBy (λ entry. entry.at.0) journal
  pub reaches : (m : ℕ) → All (λ entry. entry.at.0 ≤ m) old_journal → All (λ entry. entry.at.0 ≤ m) journal
