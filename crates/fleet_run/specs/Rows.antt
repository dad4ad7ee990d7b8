-- What the machine and the replicas agree on between two events, and the events whose lines are whole by that.
use Rattle.std.specs.Prelude.{◌≡◌, ℕ, ◌≤◌, Bool, true, false, ◌⊎◌, List, [], ◌∷◌, length, map, Contains, None, Some, MatchOption}
use Rattle.rc_base.specs.Ids.{no_epoch}
use Rattle.log_records.specs.declared.record.Record.{Record}
use Rattle.txn_table.specs.declared.committed.Committed.{Committed}
use Rattle.txn_table.specs.Whole.{Whole, stable_of, commits_to, count_to}
use Rattle.events.specs.declared.event.Event.{Event}
use Rattle.events.specs.declared.event.Event.TheVariants.{Boot, Client, Arm, Crash, Reboot, Inspect, Survey, Appoint, Activate}
use Rattle.order_machine.specs.declared.observation.Observation.{Observation}
use Rattle.order_machine.specs.Order.{Order, Entry, length_of, first_of}
use Rattle.order_machine.specs.Machine.{Machine, Replica, Role, replica}
use Rattle.order_machine.specs.Transitions.{is_told, HoldsBehind}
use Rattle.order_machine.specs.Legal.{IsWhole, moved}
use Rattle.replica_model.specs.OpenReplica.{OpenReplica, view_of, is_active}
use Rattle.fleet_laws.specs.Fleets.{Fleet}
use Rattle.fleet_run.specs.Scenes.{FleetReplica, FleetState, replica_at, held_by, first_state}
use Rattle.fleet_run.specs.Scenes.FleetReplica.{Open, Closed}
use Rattle.fleet_run.specs.Plans.{GoesBy}
use Rattle.fleet_run.specs.Sound.{Sound}
use Rattle.fleet_run.specs.Laws.{IsSpelled}

-- ---- one replica

abbrev pub order_entry : Committed → Entry
order_entry c = record { txn = c.txn; ops = c.ops }

-- what the log commits up to the position begins the order
pub record BeginsOrder (order : Order) (w : Whole) (stable : ℕ) : Type 0 where
  pub within : count_to w stable ≤ length_of order
  pub entries : first_of order (count_to w stable) ≡ map order_entry (commits_to w stable)

-- An open replica is up, shows what it shows, and has the role that it has.
pub record AgreesOpen (x : Replica) (order : Order) (o : OpenReplica) : Type 0 where
  pub up : x.up ≡ true
  pub shows : x.show ≡ view_of o
  pub begins : BeginsOrder order o.disk o.stable
  pub role : MatchOption o.leading (x.role ≡ None) (λ l. (role : Role) × (x.role ≡ Some role) × (role.epoch ≡ l.epoch) × (role.active ≡ l.active))

-- A closed one is down, and what each log that its disk may hold tells as stable begins the order.
pub record AgreesClosed (x : Replica) (order : Order) (ws : List Whole) : Type 0 where
  pub down : x.up ≡ false
  pub role : x.role ≡ None
  pub begins : (w : Whole) → Contains ws w → BeginsOrder order w (stable_of w)

abbrev pub AgreesAt : Replica → Order → FleetReplica → Type 0
AgreesAt x order (Open o) = AgreesOpen x order o
AgreesAt x order (Closed ws) = AgreesClosed x order ws

-- ---- the fleet

-- There is one order, of all that was committed; the machine agrees with each replica; each fence on a disk was appointed or surveyed; and what
-- is to hold behind each event does.
pub record Agrees (m : Machine) (replicas : List FleetReplica) : Type 0 where
  pub order : Order
  pub orders : m.orders ≡ order ∷ []
  pub start : order.start ≡ []
  pub base : order.base ≡ 0
  pub losses : (r : ℕ) → (replica m r).loss ≡ 0
  pub nine : length m.replicas ≡ 9
  pub each : (r : ℕ) → AgreesAt (replica m r) order (replica_at replicas r)
  pub fences : (r : ℕ) (w : Whole) → Contains (held_by (replica_at replicas r)) w → (w.fence ≡ no_epoch) ⊎ (is_told m w.fence ≡ true)
  pub behind : HoldsBehind m

-- ---- laws

-- it serves clients
abbrev pub serves : FleetReplica → Bool
serves (Open o) = is_active o
serves (Closed ws) = false

-- the event neither appoints nor activates, and is no call at an active primary
abbrev pub IsAsideOf : FleetState → Event → Type 0
IsAsideOf s (Boot p members) = ⊥
IsAsideOf s (Client r call) = serves (replica_at s.replicas r) ≡ false
IsAsideOf s (Arm r calls) = Unit {0}
IsAsideOf s (Crash r pick) = Unit {0}
IsAsideOf s (Reboot r) = Unit {0}
IsAsideOf s (Inspect r) = Unit {0}
IsAsideOf s (Survey r e) = Unit {0}
IsAsideOf s (Appoint e p members) = ⊥
IsAsideOf s (Activate e) = ⊥

-- before anything happened they agree
abbrev pub FirstAgrees : Type 0
FirstAgrees = Agrees first_state.machine first_state.replicas

-- the machine behind an event, whichever it is, is the one that its lines tell
abbrev pub LinesTellMachine : Type 0
LinesTellMachine = (s t : FleetState) (event : Event) (lines : List Observation) → GoesBy s event lines t → t.machine ≡ moved s.machine event lines

-- Crashes, reboots, surveys, inspections, armings, and calls at replicas that serve no clients have lines that the machine's rows allow, done or
-- cut off by the disk, and leave the machine and the replicas in agreement.
abbrev pub AsideEventsAreWhole : Type 0
AsideEventsAreWhole =
    (s t : FleetState) (f : Fleet Record) (event : Event) (lines : List Observation) → Sound s.machine s.replicas f → Agrees s.machine s.replicas → IsAsideOf s event → IsSpelled event → GoesBy s event lines t
    → IsWhole s.machine event lines × Agrees t.machine t.replicas
