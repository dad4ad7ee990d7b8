-- One run: false progress of the first epoch is undone under the second.
use Rattle.std.specs.Prelude.{◌≡◌, ℕ, true, List, [], ◌∷◌}
use Rattle.fleet_laws.specs.Logs.{Entry}
use Rattle.fleet_laws.specs.Logs.Record.{EpochStart, Other}
use Rattle.fleet_laws.specs.Fleets.{Value, Fleet, IsValueOf}
use Rattle.fleet_laws.specs.Choice.{IsChosen}
use Rattle.fleet_laws.specs.Moves.{Run, IsReached}

abbrev pub first_start : Entry ℕ
first_start = record { epoch = 1; content = EpochStart }

abbrev pub false_progress : Entry ℕ
false_progress = record { epoch = 1; content = Other 7 }

abbrev pub second_start : Entry ℕ
second_start = record { epoch = 2; content = EpochStart }

-- some value of the replica has this log
abbrev pub HasLog : Fleet ℕ → ℕ → List (Entry ℕ) → Type 0
HasLog f r log = (v : Value ℕ) × record { is : IsValueOf f r v; log : v.log ≡ log }

-- three replicas, 0 the primary of epoch 1 and 1 that of epoch 2. First 0 alone has logged an entry behind the first EpochStart; in the end epoch 2 is activated,
-- and 0 has undone the entry and has the second EpochStart in its place
pub record UndoesFalseProgress (f g : Fleet ℕ) : Type 0 where
  pub reached : IsReached f
  pub run : Run f g
  pub first_chosen : IsChosen f 1 1
  pub progress : HasLog f 0 (first_start ∷ false_progress ∷ [])
  pub other : HasLog f 1 (first_start ∷ [])
  pub members : g.current 2 ≡ 0 ∷ 1 ∷ 2 ∷ []
  pub activated : g.activated 2 ≡ true
  pub chosen : IsChosen g 2 2
  pub undone : HasLog g 0 (first_start ∷ second_start ∷ [])
