-- How a copy brings a target to what a source has, by the epochs at the places that both know.
use Rattle.std.specs.Prelude.{◌≡◌, ℕ, ◌<◌, ◌≤◌, List, length}
use Rattle.fleet_laws.specs.Logs.{Entry, Agree, LastAgreed, epoch_at}

-- the greatest place from low on at which both logs have one epoch
pub record IsFork {R : Type 0} (low : ℕ) (source target : List (Entry R)) (n : ℕ) : Type 0 where
  pub from : low ≤ n
  pub in_source : n ≤ length source
  pub in_target : n ≤ length target
  pub same : epoch_at source n ≡ epoch_at target n
  pub greatest : (m : ℕ) → n < m → m ≤ length source → m ≤ length target → epoch_at source m ≡ epoch_at target m → ⊥

-- nothing is to be done; the target gets what is behind its last place; it undoes what is above a place first; or it takes the whole state
pub data Mode : Type 0 where
  Nothing : Mode
  Partial : ℕ → Mode
  Undo : ℕ → Mode
  Full : Mode

-- the mode of a copy, low being the greater of the two heads. The logs before it aren't known
pub data IsMode {R : Type 0} (low : ℕ) (source target : List (Entry R)) : Mode → Type 0 where
  nothing : IsFork low source target (length source) → IsMode low source target Nothing
  partial : IsFork low source target (length target) → length target < length source → IsMode low source target (Partial (length target))
  undo : (n : ℕ) → IsFork low source target n → n < length source → n < length target → IsMode low source target (Undo n)
  full : ((n : ℕ) → low ≤ n → n ≤ length source → n ≤ length target → epoch_at source n ≡ epoch_at target n → ⊥) → IsMode low source target Full

-- what a mode is right for: all is there; all that the target has is the source's; the logs agree to the place and no further, and both go on; or every common place is below low
abbrev pub IsRightMode : {R : Type 0} → ℕ → List (Entry R) → List (Entry R) → Mode → Type 0
IsRightMode low source target Nothing = Agree (length source) source target
IsRightMode low source target (Partial n) = Agree (length target) source target × (n ≡ length target) × (n < length source)
IsRightMode low source target (Undo n) = LastAgreed n source target × (n < length source) × (n < length target)
IsRightMode low source target Full = (n : ℕ) → Agree n source target → n < low
