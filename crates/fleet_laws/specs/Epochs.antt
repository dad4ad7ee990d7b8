-- Epochs as numbers.
use Rattle.std.specs.Prelude.{◌≡◌, ℕ, ◌+◌, ◌*◌, ◌^◌, ◌<◌, ◌⊎◌}

-- the number that stands for the epoch of so many declared losses and so many reconfigurations since
abbrev pub epoch_code : ℕ → ℕ → ℕ
epoch_code loss number = loss * 2 ^ 32 + number

-- an epoch is below another by loss, and then by number
abbrev pub IsEpochBelow : ℕ → ℕ → ℕ → ℕ → Type 0
IsEpochBelow loss number later_loss later_number = (loss < later_loss) ⊎ ((loss ≡ later_loss) × (number < later_number))
