-- Where a run has to end at an event, whatever its lines hold: the event reaches a limit of the machine, or isn't built yet.
use Rattle.std.specs.Prelude.{◌≡◌, ℕ, ◌-◌, ◌&&◌, length, Option, Some, None, is_none, nat_le, if◌then◌else◌}
use Rattle.rc_base.specs.declared.limit_name.LimitName.{LimitName}
use Rattle.rc_base.specs.declared.limit_name.LimitName.TheVariants.{Epochs}
use Rattle.events.specs.declared.event.Event.{Event}
use Rattle.events.specs.declared.event.Event.TheVariants.{Appoint}
use Rattle.order_machine.specs.Machine.{Machine}
use Rattle.order_machine.specs.Transitions.{refusal}

-- so many appointments a run has room for, that of the boot not among them
abbrev pub most_appointments : ℕ
most_appointments = 4096

-- how many lawful appointments there were, that of the boot not among them
abbrev pub appointments_made : Machine → ℕ
appointments_made m = length m.appointments - 1

-- a lawful appointment reaches `epochs` where there is no more room for one
abbrev pub limit_reached : Machine → Event → Option LimitName
limit_reached m (Appoint e p members) =
    if is_none (refusal m (Appoint e p members)) && nat_le most_appointments (appointments_made m) then Some Epochs else None
limit_reached m _ = None

-- the event is read, and isn't built yet at this machine: so far none is
abbrev pub IsUnbuilt : Machine → Event → Type 0
IsUnbuilt m event = ⊥

-- the run needn't end at it
pub record IsServable (m : Machine) (event : Event) : Type 0 where
  pub unlimited : limit_reached m event ≡ None
  pub is_built : IsUnbuilt m event → ⊥
