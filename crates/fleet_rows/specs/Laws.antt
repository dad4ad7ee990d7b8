-- The laws of the lines of a fleet's events.
use Rattle.std.specs.Prelude.{◌≡◌, ◌≢◌, ℕ, false, List, None, Some}
use Rattle.rc_base.specs.declared.ids.Epoch.{Epoch}
use Rattle.events.specs.declared.event.Event.{Event}
use Rattle.events.specs.declared.event.Event.TheVariants.{Client, Arm, Crash, Reboot, Inspect, Survey}
use Rattle.coll_model.specs.declared.op.Op.{Op}
use Rattle.rc_base.specs.declared.ids.TxnId.{TxnId}
use Rattle.events.specs.declared.call.Call.{Call}
use Rattle.events.specs.declared.call.Call.TheVariants.{Abort}
use Rattle.events.specs.declared.answer.Reply.{Reply}
use Rattle.order_machine.specs.declared.observation.Observation.{Observation}
use Rattle.order_machine.specs.Clients.{answer}
use Rattle.order_machine.specs.Transitions.{refusal, logs}
use Rattle.order_machine.specs.Legal.{IsWhole, moved}
use Rattle.fleet_run.specs.Scenes.{FleetState, first_state}
use Rattle.fleet_run.specs.Plans.{GoesBy}
use Rattle.fleet_run.specs.Laws.{IsSpelled}
use Rattle.fleet_rows.specs.Served.{Served}

-- ---- one event

-- Lines with which an event led from one state to another: they are whole by the rows of the machine, the machine of the second is the one behind them, and
-- it is served.
pub record AreServed (s : FleetState) (event : Event) (lines : List Observation) (t : FleetState) : Type 0 where
  pub whole : IsWhole s.machine event lines
  pub moved : t.machine ≡ moved s.machine event lines
  pub served : Served t

-- the event, however it goes from a state that is served, has such lines
abbrev pub Serves : Event → Type 0
Serves event = (s t : FleetState) (lines : List Observation) → Served s → GoesBy s event lines t → AreServed s event lines t

-- ---- the laws

-- before anything happened the fleet is served
abbrev pub FirstIsServed : Type 0
FirstIsServed = Served first_state

-- an event that the machine refuses has its one line
abbrev pub RefusedAreServed : Type 0
RefusedAreServed = (s t : FleetState) (event : Event) (lines : List Observation) → Served s → refusal s.machine event ≢ None → GoesBy s event lines t → AreServed s event lines t

abbrev pub ArmsAreServed : Type 0
ArmsAreServed = (r calls : ℕ) → Serves (Arm r calls)

abbrev pub InspectionsAreServed : Type 0
InspectionsAreServed = (r : ℕ) → Serves (Inspect r)

abbrev pub CrashesAreServed : Type 0
CrashesAreServed = (r pick : ℕ) → Serves (Crash r pick)

abbrev pub RebootsAreServed : Type 0
RebootsAreServed = (r : ℕ) → Serves (Reboot r)

abbrev pub SurveysAreServed : Type 0
SurveysAreServed = (r : ℕ) (e : Epoch) → IsSpelled (Survey r e) → Serves (Survey r e)

-- a call that is answered and logs nothing: a begin, a read, and whatever is refused
abbrev pub QuietCallsAreServed : Type 0
QuietCallsAreServed =
    (s t : FleetState) (r : ℕ) (call : Call) (lines : List Observation) → Served s → logs s.machine call (answer s.machine r call) ≡ false → GoesBy s (Client r call) lines t
    → AreServed s (Client r call) lines t

-- a call that logs an operation, where it is done and where the disk fails in it
abbrev pub OperationsAreServed : Type 0
OperationsAreServed =
    (s t : FleetState) (r : ℕ) (call : Call) (told : Reply) (op : Op) (lines : List Observation) → Served s → answer s.machine r call ≡ Some told → told.op ≡ Some op → GoesBy s (Client r call) lines t
    → AreServed s (Client r call) lines t

-- an abort, whatever its transaction has logged, where it is done and where the disk fails in it
abbrev pub AbortsAreServed : Type 0
AbortsAreServed = (s t : FleetState) (r : ℕ) (txn : TxnId) (lines : List Observation) → Served s → GoesBy s (Client r (Abort txn)) lines t → AreServed s (Client r (Abort txn)) lines t
