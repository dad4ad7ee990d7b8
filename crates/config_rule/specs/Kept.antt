-- How the appointments are kept: the configuration last activated is that of one of them.
use Rattle.std.specs.Prelude.{ℕ, ◌<◌, ◌≤◌, List, [], length, All, slice_get}
use Rattle.std.specs.Option.{option_map_or}
use Rattle.config_rule.specs.declared.appointments.Appointed.{Appointed}

abbrev pub configuration_at : List Appointed → ℕ → List ℕ
configuration_at appointed place = option_map_or (λ a. a.cc) (slice_get appointed place) []

-- the place is one of the list, and no configuration is empty
pub record IsKept (appointed : List Appointed) (place : ℕ) : Type 0 where
  pub within : place < length appointed
  pub filled : All (λ a. 1 ≤ length a.cc) appointed
