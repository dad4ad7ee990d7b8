-- The laws: a replica alone is the model's replica.
use Rattle.std.specs.Prelude.{◌≡◌, ℕ, None, false}
use Rattle.rc_base.specs.declared.ids.Epoch.{Epoch}
use Rattle.rc_base.specs.Ids.{no_epoch}
use Rattle.config_rule.specs.declared.appointments.Appointment.{Appointment}
use Rattle.disk_model.specs.Disk.{Areas, Each}
use Rattle.events.specs.declared.call.Call.{Call}
use Rattle.txn_table.specs.Whole.{stable_in}
use Rattle.log_store.specs.declared.kept.Kept.{Kept}
use Rattle.log_store.specs.Durable.{StandFor}
use Rattle.log_store.specs.Store.{IsOpenOn}
use Rattle.txn_front.specs.Front.{nothing}
use Rattle.replica_model.specs.declared.role.Role.TheVariants.{Other}
use Rattle.replica_model.specs.declared.step.StepEvent.{StepEvent}
use Rattle.replica_model.specs.declared.step.StepEvent.TheVariants as steps
use Rattle.replica_model.specs.OpenReplica.{OpenReplica, opened_over}
use Rattle.replica_model.specs.Steps as model
use Rattle.replica_model.specs.Steps.{mount_outcome, step_outcome, step_result, cut_off}
use Rattle.replica.specs.Open.{Open, AreSame, AgreesWith}
use Rattle.replica.specs.Step.{MayStep, stepped, outcome, quiet}
use Rattle.replica_laws.specs.Agreement.{AgreesOn, IsStep, StepAgrees, IsStop, HoldsOneOf, whole_of, kept_of}

-- ---- a mount

-- what `Replica::mount` promises of a replica that was opened over a log
pub record IsMounted (x : Open) (number : ℕ) (kept : Kept) (now : Areas → Type 0) : Type 0 where
  pub stands : StandFor kept now
  pub agrees : AgreesWith x kept
  pub stable : x.stable.0 ≡ stable_in kept.records
  pub id : x.id ≡ number
  pub role : x.role ≡ Other
  pub front : x.front ≡ nothing no_epoch
  pub opened : IsOpenOn x.log now
  pub not_closed : x.log.log.closed ≡ false

-- it agrees with the model's, and tells the same
pub record MountAgrees (x : Open) (id : ℕ) (kept : Kept) (now : Areas → Type 0) : Type 0 where
  pub agrees : AgreesOn x (opened_over id (whole_of kept)) now
  pub outcome : quiet x None ≡ mount_outcome (opened_over id (whole_of kept))

abbrev pub MountsAgree : (Areas → Type 0) → Type 0
MountsAgree now = (x : Open) (id : ℕ) (kept : Kept) → IsMounted x id kept now → MountAgrees x id kept now

-- ---- what a replica keeps

-- all that a replica keeps beside its store is told by the model's value that it agrees with
abbrev pub ViewsAgree : (Areas → Type 0) → Type 0
ViewsAgree images = (x : Open) (o : OpenReplica) → AgreesOn x o images → AreSame x (kept_of x.log o)

-- ---- which steps there are

-- a step that the replica may take is one that the model's may
abbrev pub AllowedAgree : (Areas → Type 0) → Type 0
AllowedAgree images = (event : StepEvent) (x : Open) (o : OpenReplica) → AgreesOn x o images → MayStep x event → model.MayStep o event

-- ---- steps, by what the disk holds before and behind them

-- a step of this event does what the model says, wherever the replica agrees with the model's before
abbrev pub Agrees : StepEvent → (before now : Areas → Type 0) → Type 0
Agrees event before now = (x new : Open) (o : OpenReplica) → AgreesOn x o before → MayStep x event → IsStep x new event before now → StepAgrees x new o event now

abbrev pub InspectionsAgree : (before now : Areas → Type 0) → Type 0
InspectionsAgree before now = Agrees steps.Inspect before now

abbrev pub ActivationsAgree : (before now : Areas → Type 0) → Type 0
ActivationsAgree before now = (e : Epoch) → Agrees (steps.Activate e) before now

abbrev pub SurveysAgree : (before now : Areas → Type 0) → Type 0
SurveysAgree before now = (e : Epoch) → Agrees (steps.Survey e) before now

abbrev pub BarriersAgree : (before now : Areas → Type 0) → Type 0
BarriersAgree before now = Agrees steps.Barrier before now

-- a client's call, whether the replica is an active primary or not
abbrev pub CallsAgree : (before now : Areas → Type 0) → Type 0
CallsAgree before now = (call : Call) → Agrees (steps.Client call) before now

-- an appointment
abbrev pub AppointsAgree : (before now : Areas → Type 0) → Type 0
AppointsAgree before now = (a : Appointment) → Agrees (steps.Appoint a) before now

-- every step
abbrev pub StepsAgree : (before now : Areas → Type 0) → Type 0
StepsAgree before now = (event : StepEvent) → Agrees event before now

-- Where a step was cut off, each image of the disk holds what the model says: what was held before, or what is held behind
-- the step.
abbrev pub CutOffAgrees : (before now : Areas → Type 0) → Type 0
CutOffAgrees before now = (event : StepEvent) (x : Open) (o : OpenReplica) → AgreesOn x o before → IsStop x event before now → Each now (HoldsOneOf (cut_off o event))

-- ---- what is computed, whatever the disk does

-- a replica that takes the step tells the outcome of the model, and computes what it keeps at the model's value behind it
pub record IsComputed (x : Open) (o : OpenReplica) (event : StepEvent) : Type 0 where
  pub outcome : outcome x event ≡ step_outcome o event
  pub then : AreSame (record (stepped x event) { log = x.log }) (kept_of x.log (step_result o event))

abbrev pub ComputedAgree : (Areas → Type 0) → Type 0
ComputedAgree before = (event : StepEvent) (x : Open) (o : OpenReplica) → AgreesOn x o before → MayStep x event → IsComputed x o event
