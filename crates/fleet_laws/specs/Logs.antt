-- Logs, and the places to which two of them are one.
use Rattle.std.specs.Prelude.{◌≡◌, ℕ, zero, suc, ◌<◌, ◌≤◌, ◌↔◌, List, length, get_or, take}

-- what an entry holds: the start of an epoch, a Barrier with the place that it names, or any other record, of which only its type R is known
pub data Record (R : Type 0) : Type 0 where
  EpochStart : Record R
  Barrier : ℕ → Record R
  Other : R → Record R

-- a record and the epoch in which it was logged
pub record Entry (R : Type 0) : Type 0 where
  pub epoch : ℕ
  pub content : Record R

-- stands for an entry where there is none
abbrev pub no_entry : {R : Type 0} → Entry R
no_entry = record { epoch = 0; content = EpochStart }

-- the epoch at a place of a log. Places are counted from 1, and place 0 has epoch 0
unfoldable pub epoch_at : {R : Type 0} → List (Entry R) → ℕ → ℕ
epoch_at log zero = 0
epoch_at log (suc n) = (get_or log n no_entry).epoch

-- the record at a place of a log. At place 0 there is none, and the start of epoch 0 stands for it
unfoldable pub content_at : {R : Type 0} → List (Entry R) → ℕ → Record R
content_at log zero = EpochStart
content_at log (suc n) = (get_or log n no_entry).content

-- the epoch of the last entry
abbrev pub last_epoch : {R : Type 0} → List (Entry R) → ℕ
last_epoch log = epoch_at log (length log)

-- both logs have n entries, and these are the same
pub record Agree {R : Type 0} (n : ℕ) (a b : List (Entry R)) : Type 0 where
  pub left : n ≤ length a
  pub right : n ≤ length b
  pub same : take n a ≡ take n b

-- an EpochStart stands exactly where the epoch rises
abbrev pub IsMarked : {R : Type 0} → List (Entry R) → Type 0
IsMarked log = (n : ℕ) → n < length log → (content_at log (suc n) ≡ EpochStart) ↔ (epoch_at log n < epoch_at log (suc n))

-- n is the last place to which the two logs agree
pub record LastAgreed {R : Type 0} (n : ℕ) (a b : List (Entry R)) : Type 0 where
  pub agreed : Agree n a b
  pub last : (m : ℕ) → Agree m a b → m ≤ n
