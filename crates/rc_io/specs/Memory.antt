-- A source and a sink in memory.
use Rattle.std.specs.Prelude.{ℕ, ◌-◌, min, List, Option, Some, None}
use Rattle.rc_io.specs.Calls.{Turns}

-- what a source has left, and its calls
pub record Feed : Type 0 where
  pub left : List ℕ
  pub calls : Turns

-- what a sink holds, past how many bytes it takes none, and its calls
pub record Tank : Type 0 where
  pub holds : List ℕ
  pub room : Option ℕ
  pub calls : Turns

-- how many of so many bytes a sink takes that holds `held`
abbrev pub fitting : Option ℕ → ℕ → ℕ → ℕ
fitting None held count = count
fitting (Some room) held count = min count (room - held)
