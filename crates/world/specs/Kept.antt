-- What a world keeps between two events.
use Rattle.std.specs.Prelude.{ℕ, Bool, Option, None, is_some}
use Rattle.config_rule.specs.Rule.{Known}
use Rattle.replica.specs.Open.{Open}

-- The number of the last event; what the rule of reconfiguration knows, once the boot was done; how many transactions the
-- order has; and replica 0, where it is open.
pub record Kept : Type 0 where
  pub last : ℕ
  pub rule : Option Known
  pub order : ℕ
  pub replica : Option Open

-- before the first event
abbrev pub no_events : Kept
no_events = record { last = 0; rule = None; order = 0; replica = None }

-- whether the boot was done
abbrev pub has_booted : Kept → Bool
has_booted k = is_some k.rule
