-- The laws of the runs of a fleet.
use Rattle.std.specs.Prelude.{◌≡◌, ◌≢◌, ℕ, ◌≤◌, ◌<◌, Bool, true, false, ◌⊎◌, List, [], ◌∷◌, length, map, take, All, Contains, None}
use mathlib.Core.List.{IsPrefix}
use Rattle.rc_base.specs.declared.ids.Epoch.{Epoch}
use Rattle.log_records.specs.declared.record.Record.{Record}
use Rattle.txn_table.specs.Log.{Items}
use Rattle.txn_table.specs.Whole.{Whole, stable_of}
use Rattle.txn_table.specs.Log.{last_from}
use Rattle.rc_base.specs.Ids.{no_epoch}
use Rattle.events.specs.declared.event.Event.{Event}
use Rattle.events.specs.declared.event.Event.TheVariants.{Boot, Survey, Appoint}
use Rattle.order_machine.specs.declared.observation.Observation.{Observation}
use Rattle.order_machine.specs.declared.observation.Observation.TheVariants as says
use Rattle.order_machine.specs.Machine.{Machine}
use Rattle.order_machine.specs.Transitions.{Position, refusal, is_boot, is_above_all, first_epoch}
use Rattle.order_machine.specs.Legal.{Step, behind}
use Rattle.replica_model.specs.declared.step.StepEvent.{StepEvent}
use Rattle.replica_model.specs.declared.step.StepEvent.TheVariants as steps
use Rattle.replica_model.specs.OpenReplica.{OpenReplica, is_active}
use Rattle.replica_model.specs.Steps.{MayStep, step_result, step_outcome}
use Rattle.fleet_laws.specs.Counting.{IsWriteQuorum}
use Rattle.fleet_laws.specs.Fleets.{Fleet, empty_fleet}
use Rattle.fleet_laws.specs.Moves.{Run}
use Rattle.fleet_run.specs.Scenes.{FleetReplica, FleetState, Scene, replica_at, held_by, first_state, entered}
use Rattle.fleet_run.specs.Scenes.FleetReplica.{Open, Closed}
use Rattle.fleet_run.specs.Acts.{Act, How, Does, Goes}
use Rattle.fleet_run.specs.Acts.Act.{Opens, Takes, Closes, Says}
use Rattle.fleet_run.specs.Plans.{plan, boot_appointment, later_appointment, GoesBy, IsFleetRun}
use Rattle.fleet_run.specs.Kernel.{IsCoded, Term, code, terms_of}
use Rattle.fleet_run.specs.Sound.{Sound}

-- ---- one line

-- every line leaves the terms that were appointed, and the configuration there is: an appointment and an activation change these before their lines
abbrev pub LinesKeepTerms : Type 0
LinesKeepTerms = (p : Position) (lines : List Observation) → (terms_of (behind p lines).machine ≡ terms_of p.machine) × ((behind p lines).machine.config ≡ p.machine.config)

-- ---- one act

-- The scene is sound; and in a boot the first epoch is the only one that was appointed.
pub record IsSoundScene (s : Scene) (f : Fleet Record) : Type 0 where
  pub sound : Sound s.position.machine s.replicas f
  pub boots : is_boot s.position.event ≡ true → (t : Term) × (terms_of s.position.machine ≡ t ∷ []) × (t.epoch ≡ first_epoch)

-- some moves of the replication laws lead from the abstract fleet to one that the scene stands for
abbrev pub MovesTo : Fleet Record → Scene → Type 0
MovesTo f t = (g : Fleet Record) × Run f g × IsSoundScene t g

abbrev pub is_survey : Event → Bool
is_survey (Survey r e) = true
is_survey _ = false

-- the line tells of no primary that became active, and of no survey
abbrev pub IsAside : Observation → Type 0
IsAside (says.Active r) = ⊥
IsAside (says.Progress r e last) = ⊥
IsAside _ = Unit {0}

-- What a step needs of its event: a survey is the event's, above each appointed epoch; what is activated in a step was activated as the event began. An
-- appointment has its law with the events.
abbrev pub IsReadyStep : Scene → Fleet Record → ℕ → StepEvent → Type 0
IsReadyStep s f r (steps.Client call) = is_survey s.position.event ≡ false
IsReadyStep s f r (steps.Survey e) = (s.position.event ≡ Survey r e) × IsCoded e × (is_above_all s.position.machine e ≡ true) × (terms_of s.position.machine ≢ [])
IsReadyStep s f r (steps.Appoint a) = ⊥
IsReadyStep s f r (steps.Activate e) = f.activated (code e) ≡ true
IsReadyStep s f r steps.Barrier = Unit {0}
IsReadyStep s f r steps.Inspect = Unit {0}

abbrev pub IsReady : Scene → Fleet Record → Act → Type 0
IsReady s f (Opens r) = Unit {0}
IsReady s f (Takes r event closing) = IsReadyStep s f r event × All IsAside closing
IsReady s f (Closes r) = Unit {0}
IsReady s f (Says lines) = All IsAside lines

-- Each act but an appointment, done or cut off by the disk, leads to a sound scene: a mount, a closing, a client's call of any answer, a
-- survey, an activation, a Barrier, an inspection, and lines that are said.
abbrev pub ActsKeepSound : Type 0
ActsKeepSound = (s t : Scene) (f : Fleet Record) (act : Act) (how : How) (lines : List Observation) → IsSoundScene s f → IsReady s f act → Does s act how lines t → MovesTo f t

-- ---- events and runs

-- before anything happened the fleet stands for the empty one
abbrev pub FirstIsSound : Type 0
FirstIsSound = Sound first_state.machine first_state.replicas empty_fleet

-- the epoch of a survey and of an appointment has a number that stands for it alone, and members are among the nine replicas
abbrev pub IsSpelled : Event → Type 0
IsSpelled (Boot p members) = All (λ r. r < 9) members
IsSpelled (Survey r e) = IsCoded e
IsSpelled (Appoint e p members) = IsCoded e × All (λ r. r < 9) members
IsSpelled _ = Unit {0}

-- whatever happens in an event, all of its acts, or the one line that refuses it, lead to a sound state
abbrev pub EventsKeepSound : Type 0
EventsKeepSound =
    (s t : FleetState) (f : Fleet Record) (event : Event) (lines : List Observation) → Sound s.machine s.replicas f → IsSpelled event → GoesBy s event lines t
    → (g : Fleet Record) × Run f g × Sound t.machine t.replicas g

-- and within an event, wherever it is left, the replicas are sound by the machine as it is there, or, where an appointment is still to come, as it was
abbrev pub BeginningsKeepSound : Type 0
BeginningsKeepSound =
    (s : FleetState) (t : Scene) (f : Fleet Record) (event : Event) (lines : List Observation) (acts : List Act) → Sound s.machine s.replicas f → IsSpelled event → refusal s.machine event ≡ None
    → Goes (entered s event) (plan s event) lines t acts → (m : Machine) × (g : Fleet Record) × Run f g × Sound m t.replicas g

-- so it is after each run
abbrev pub RunsAreSound : Type 0
RunsAreSound = (steps : List Step) (t : FleetState) → IsFleetRun steps t → All (λ step. IsSpelled step.event) steps → (f : Fleet Record) × Sound t.machine t.replicas f

-- ---- what the steps of a plan need

-- an open replica may take the appointment that its event plans
abbrev pub AppointmentsAreAllowed : Type 0
AppointmentsAreAllowed =
    (s : FleetState) (f : Fleet Record) (e : Epoch) (p : ℕ) (members : List ℕ) (o : OpenReplica) → Sound s.machine s.replicas f → replica_at s.replicas p ≡ Open o
    → ((refusal s.machine (Boot p members) ≡ None) → IsSpelled (Boot p members) → MayStep o (steps.Appoint (boot_appointment p members)))
    × ((refusal s.machine (Appoint e p members) ≡ None) → IsSpelled (Appoint e p members) → MayStep o (steps.Appoint (later_appointment s.machine e p members)))

-- and where a Barrier is due, an active primary is there for it
abbrev pub BarriersAreAllowed : Type 0
BarriersAreAllowed = (o : OpenReplica) (event : StepEvent) → (step_outcome o event).barrier_due ≡ true → is_active (step_result o event) ≡ true

-- ---- what follows

-- two logs that have one epoch at a place are one up to it
abbrev pub LogsHaveSamePrefix : Type 0
LogsHaveSamePrefix =
    (m : Machine) (replicas : List FleetReplica) (f : Fleet Record) → Sound m replicas f → (r q : ℕ) (w u : Whole) → Contains (held_by (replica_at replicas r)) w → Contains (held_by (replica_at replicas q)) u
    → (n : ℕ) → n ≤ length w.log → n ≤ length u.log → last_from no_epoch (take n w.log) ≡ last_from no_epoch (take n u.log) → take n w.log ≡ take n u.log

-- what a replica has as stable: an open one by the number that it keeps, a closed one, for each log that its disk may hold, by what that tells
abbrev pub stable_logs : FleetReplica → List Items
stable_logs (Open o) = take o.stable o.disk.log ∷ []
stable_logs (Closed ws) = map (λ w. take (stable_of w) w.log) ws

-- of what is stable anywhere, and of what is stable anywhere later in the run, one begins the other
abbrev pub StableLogsAreOne : Type 0
StableLogsAreOne =
    (m n : Machine) (replicas now : List FleetReplica) (f g : Fleet Record) → Sound m replicas f → Run f g → Sound n now g → (r q : ℕ) (a b : Items) → Contains (stable_logs (replica_at replicas r)) a → Contains (stable_logs (replica_at now q)) b
    → IsPrefix a b ⊎ IsPrefix b a

-- and each of a write quorum of the configuration that was the last activated holds what was stable, in whatever its disk may hold, then and later in the run
abbrev pub WhatIsShownIsHeld : Type 0
WhatIsShownIsHeld =
    (m n : Machine) (replicas now : List FleetReplica) (f g : Fleet Record) → Sound m replicas f → Run f g → Sound n now g → (r : ℕ) (shown : Items) → Contains (stable_logs (replica_at replicas r)) shown
    → (shown ≡ []) ⊎ ((p : ℕ → Bool) × IsWriteQuorum p m.config × ((q : ℕ) → p q ≡ true → (w : Whole) → Contains (held_by (replica_at now q)) w → IsPrefix shown w.log))
