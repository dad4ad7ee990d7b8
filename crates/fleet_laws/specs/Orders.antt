-- The one order: what primaries show, by a reading of logs that only grows with the log.
use Rattle.std.specs.Prelude.{ℕ, ◌≤◌, List, [], length, take}
use mathlib.Core.List.{IsPrefix}
use Rattle.fleet_laws.specs.Logs.{Entry}
use Rattle.fleet_laws.specs.Fleets.{Value, Fleet, IsAppointed, empty_fleet}
use Rattle.fleet_laws.specs.Choice.{IsChosen}
use Rattle.fleet_laws.specs.Moves.{Move}

-- what is read from a log only grows with the log, as the list of its committed transactions does
abbrev pub OnlyGrows : {R S : Type 0} → (List (Entry R) → List S) → Type 0
OnlyGrows {R} reading = (a b : List (Entry R)) → IsPrefix a b → IsPrefix (reading a) (reading b)

-- what a value shows: what is read from its log to its stable number
abbrev pub view : {R S : Type 0} → (List (Entry R) → List S) → Value R → List S
view reading v = reading (take v.stable v.log)

-- the order so far: what is read from something that was chosen, taken anew whenever that is no shorter
pub data IsOrder {R S : Type 0} (reading : List (Entry R) → List S) : Fleet R → List S → Type 0 where
  starts : IsOrder reading empty_fleet (reading [])
  stays : {f g : Fleet R} {order : List S} → IsOrder reading f order → Move f g → IsOrder reading g order
  grows : {f : Fleet R} {order : List S} (e l : ℕ) → IsOrder reading f order → IsAppointed f e → IsChosen f e l → length order ≤ length (reading (take l (f.history e)))
      → IsOrder reading f (reading (take l (f.history e)))
