-- Which acts an event has, and the runs of a fleet.
use Rattle.std.specs.Prelude.{◌≡◌, ℕ, Bool, true, false, List, [], ◌∷◌, ◌++◌, map, MatchOption, if◌then◌else◌}
use Rattle.std.specs.Option.{option_map_or}
use Rattle.rc_base.specs.declared.ids.Epoch.{Epoch}
use Rattle.config_rule.specs.declared.appointments.Appointment.{Appointment}
use Rattle.events.specs.declared.event.Event.{Event}
use Rattle.events.specs.declared.event.Event.TheVariants.{Boot, Client, Arm, Crash, Reboot, Inspect, Survey, Appoint, Activate}
use Rattle.order_machine.specs.declared.observation.Observation.{Observation}
use Rattle.order_machine.specs.declared.observation.Observation.TheVariants as says
use Rattle.order_machine.specs.AnswerLines.{line_of_answer}
use Rattle.order_machine.specs.Machine.{Machine, latest_of, has_role}
use Rattle.order_machine.specs.Transitions.{refusal, first_epoch, in_order, latest_primary}
use Rattle.order_machine.specs.Legal.{Step}
use Rattle.replica_model.specs.declared.step.StepEvent.TheVariants as steps
use Rattle.fleet_run.specs.Scenes.{FleetReplica, FleetState, Scene, replica_at, first_state, entered, left}
use Rattle.fleet_run.specs.Scenes.FleetReplica.{Open, Closed}
use Rattle.fleet_run.specs.Acts.{Act, Goes}
use Rattle.fleet_run.specs.Acts.Act.{Opens, Takes, Closes, Says}

-- ---- plans

abbrev pub is_open : FleetReplica → Bool
is_open (Open o) = true
is_open (Closed ws) = false

abbrev pub done : List Observation
done = says.Done ∷ []

-- the appointment of a boot, whose members are both configurations, by rising number
abbrev pub boot_appointment : ℕ → List ℕ → Appointment
boot_appointment p members = record { epoch = first_epoch; primary = p; pc = in_order members; cc = in_order members }

-- a later one: its previous configuration is the one last activated
abbrev pub later_appointment : Machine → Epoch → ℕ → List ℕ → Appointment
later_appointment m e p members = record { epoch = e; primary = p; pc = m.config; cc = in_order members }

-- the primary of the latest appointment has that role still
abbrev pub leads : Machine → Bool
leads m = option_map_or (λ a. has_role m a.primary a.epoch) (latest_of m) false

-- the acts of an event that isn't refused
unfoldable pub plan : FleetState → Event → List Act
plan s (Boot p members) = map Opens (in_order members) ++ Takes p (steps.Appoint (boot_appointment p members)) done ∷ []
plan s (Client r call) = if is_open (replica_at s.replicas r) then Takes r (steps.Client call) [] ∷ [] else Says (says.Down r ∷ []) ∷ []
plan s (Arm r calls) = Says done ∷ []
plan s (Crash r pick) = Closes r ∷ Says done ∷ []
plan s (Reboot r) = Opens r ∷ []
plan s (Inspect r) = Takes r steps.Inspect [] ∷ []
plan s (Survey r e) = Takes r (steps.Survey e) [] ∷ []
plan s (Appoint e p members) = Takes p (steps.Appoint (later_appointment s.machine e p members)) done ∷ []
plan s (Activate e) = if leads s.machine then Takes (latest_primary s.machine) (steps.Activate e) done ∷ [] else Says done ∷ []

-- ---- runs

-- the event leads from one state to another with these lines: its acts, or the one line that refuses it
abbrev pub GoesBy : FleetState → Event → List Observation → FleetState → Type 0
GoesBy s event lines t =
    MatchOption (refusal s.machine event)
    ((scene : Scene) × Goes (entered s event) (plan s event) lines scene [] × (t ≡ left scene))
    (λ refused. (lines ≡ line_of_answer refused ∷ []) × (t ≡ s))

-- events lead from one state to another, one after the other
pub data FleetRun (s : FleetState) : List Step → FleetState → Type 0 where
  rests : FleetRun s [] s
  goes : (steps : List Step) (t : FleetState) (step : Step) (u : FleetState) → FleetRun s steps t → GoesBy t step.event step.lines u → FleetRun s (steps ++ step ∷ []) u

-- the events are those of a run of the fleet from its start
abbrev pub IsFleetRun : List Step → FleetState → Type 0
IsFleetRun steps t = FleetRun first_state steps t
