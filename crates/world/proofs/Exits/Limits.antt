-- Events at which the run needn't end.
use Rattle.std.proofs.Common.{◌≡◌, ap, refl, cond, ◌&&◌, Option, Some, None, Result, Ok, Err, OnOk}
use Rattle.std.specs.Prelude.{is_none, nat_le}
use Rattle.rc_base.specs.declared.limit_name.LimitName.TheVariants.{Epochs}
use Rattle.events.specs.declared.answer.Answer.{Answer}
use Rattle.events.specs.declared.event.Event.{Event}
use Rattle.events.specs.declared.event.Event.TheVariants.{Boot, Client, Arm, Crash, Reboot, Inspect, Survey, Appoint, Activate}
use Rattle.order_machine.specs.Machine.{Machine}
use Rattle.order_machine.specs.Transitions.{refusal}
use Rattle.world.specs.Limits.{limit_reached, most_appointments, appointments_made, IsServable}

-- one that reaches no limit
pub servable : (m : Machine) (event : Event) → limit_reached m event ≡ None → IsServable m event
servable m event none = record { unlimited = none; is_built = λ unbuilt. unbuilt }

refused_limit : (m : Machine) (event : Event) (told : Answer) → refusal m event ≡ Some told → limit_reached m event ≡ None
refused_limit m (Boot p members) told refused = refl
refused_limit m (Client r call) told refused = refl
refused_limit m (Arm r calls) told refused = refl
refused_limit m (Crash r pick) told refused = refl
refused_limit m (Reboot r) told refused = refl
refused_limit m (Inspect r) told refused = refl
refused_limit m (Survey r e) told refused = refl
refused_limit m (Appoint e p members) told refused = ap (λ (o : Option Answer). cond (is_none o && nat_le most_appointments (appointments_made m)) (Some Epochs) None) refused
refused_limit m (Activate e) told refused = refl

-- one that is refused
pub servable_refused : (m : Machine) (event : Event) (told : Answer) → refusal m event ≡ Some told → IsServable m event
servable_refused m event told refused = servable m event (refused_limit m event told refused)

-- what holds anyway holds of an event that was done
pub on_ok : {T E P : Type 0} (result : Result T E) → P → OnOk result P
on_ok (Ok x) p = p
on_ok (Err e) p = tt
