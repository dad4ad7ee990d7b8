-- The calls of an object in memory, of which some are to fail.
use Rattle.std.specs.Prelude.{◌==◌, ℕ, ◌+◌, ◌-◌, ◌^◌, min, Bool, List, if◌then◌else◌}
use Rattle.std.specs.List.{list_any}

-- how many calls were made, the numbers of those that are to fail, and how many faults there were
pub record Turns : Type 0 where
  pub made : ℕ
  pub fails : List ℕ
  pub faults : ℕ

-- one more, up to the end of the type
abbrev pub counted_up : ℕ → ℕ
counted_up n = min (n + 1) (2 ^ 64 - 1)

-- whether the next call is to fail
abbrev pub is_listed : Turns → Bool
is_listed t = list_any (λ n. n == counted_up t.made) t.fails

-- one more fault
abbrev pub after_fault : Turns → Turns
after_fault t = record { made = t.made; fails = t.fails; faults = counted_up t.faults }

-- one more call
abbrev pub after_turn : Turns → Turns
after_turn t = record { made = counted_up t.made; fails = t.fails; faults = if is_listed t then counted_up t.faults else t.faults }
