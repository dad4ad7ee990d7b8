-- The steps of an open replica: what each leaves, and what it tells.
use Rattle.std.specs.Prelude.{◌≡◌, ◌≢◌, ℕ, zero, suc, ◌+◌, Bool, true, false, not, ◌&&◌, ◌||◌, nat_lt, List, [], ◌∷◌, length, Contains, Option, Some, None, option_map, if◌then◌else◌, IsTrue}
use Rattle.std.specs.Option.{option_map_or}
use Rattle.rc_base.specs.declared.ids.Epoch.{Epoch}
use Rattle.rc_base.specs.declared.ids.Lsn.{Lsn}
use Rattle.rc_base.specs.Ids.{no_epoch, epoch_lt, is_epoch}
use Rattle.rc_base.specs.Names.{is_name}
use Rattle.config_rule.specs.declared.appointments.Appointment.{Appointment}
use Rattle.events.specs.declared.call.Call.{Call}
use Rattle.events.specs.declared.call.Call.TheVariants as calls
use Rattle.events.specs.declared.call.KeyCall.{KeyCall}
use Rattle.events.specs.declared.call.KeyCall.TheVariants as key_calls
use Rattle.events.specs.declared.answer.Answer.{Answer}
use Rattle.events.specs.declared.answer.Answer.TheVariants as answers
use Rattle.events.specs.Calls.{txn_named}
use Rattle.log_records.specs.Spelling.{is_key, is_value}
use Rattle.txn_table.specs.Whole.{Whole, epoch_of}
use Rattle.txn_front.specs.Front as front
use Rattle.txn_front.specs.Front.{Fronted, nothing}
use Rattle.replica_model.specs.declared.step.StepEvent.{StepEvent}
use Rattle.replica_model.specs.declared.step.StepEvent.TheVariants as steps
use Rattle.replica_model.specs.declared.step.Outcome.{Outcome}
use Rattle.replica_model.specs.OpenReplica.{OpenReplica, Leading, last_lsn, contents_of, view_of, is_active}
use Rattle.replica_model.specs.Quorums.{looked, newly_shown, acknowledged_by}
use Rattle.replica_model.specs.Records.{reply, logged_by, step_block, appended}

-- ---- behind the records of a step

-- the last of so many records of a call is the last one of its transaction
abbrev pub noted : ℕ → Call → Lsn → Fronted → Fronted
noted zero call lsn f = f
noted (suc n) call lsn f = option_map_or (λ t. front.logged f t lsn) (txn_named call) f

-- What goes on behind a call. A transaction whose commit is logged keeps its locks until that is shown; those of one that
-- is aborted go.
abbrev pub front_behind : OpenReplica → Call → Fronted
front_behind o (calls.Commit t) = front.done o.front t
front_behind o (calls.Abort t) = front.ended o.front t
front_behind o call =
    let count = length (logged_by o call) in
    noted count call (record { 0 = (last_lsn o).0 + count }) (front.called o.front (contents_of o) call)

-- the role that an appointment gives
abbrev pub appointed_to : Appointment → Leading
appointed_to a = record { epoch = a.epoch; active = false; previous = Some a.pc; current = a.cc; idle = []; reached = [] }

-- without the configuration before its own, where the role is of the epoch that was activated
abbrev pub dropping : Epoch → Leading → Leading
dropping epoch l = if is_epoch l.epoch epoch then record l { previous = None } else l

-- with what the step logs on its disk
abbrev pub with_block : OpenReplica → StepEvent → OpenReplica
with_block o event = record o { disk = appended o.disk (step_block o event) }

-- The replica behind what the step logs, before it looks at what has been reached. A survey of an epoch that isn't below the
-- fence ends its role, and with it all that goes on; so does an appointment, which gives it another.
abbrev pub written : OpenReplica → StepEvent → OpenReplica
written o (steps.Client call) = if is_active o then record (with_block o (steps.Client call)) { front = front_behind o call } else o
written o (steps.Survey epoch) =
    if epoch_lt epoch o.disk.fence then o else record (with_block o (steps.Survey epoch)) { leading = None; front = nothing no_epoch }
written o (steps.Appoint a) = record (with_block o (steps.Appoint a)) { leading = Some (appointed_to a); front = nothing a.epoch }
written o (steps.Activate epoch) = record o { leading = option_map (dropping epoch) o.leading }
written o steps.Barrier = with_block o steps.Barrier
written o steps.Inspect = o

-- ---- a step

-- A step: what it logs goes to the disk as one block, and then the replica looks at what has been reached.
unfoldable pub step_result : OpenReplica → StepEvent → OpenReplica
step_result o event = looked (written o event)

-- the answer to a survey: how far the log reaches, or the fence that the epoch is below
abbrev pub survey_answer : OpenReplica → Epoch → Answer
survey_answer o epoch =
    if epoch_lt epoch o.disk.fence then answers.IgnoredOldEpoch o.disk.fence epoch else answers.Progress o.id (epoch_of o.disk) (last_lsn o).0

-- what a step is answered: a commit of a transaction that goes on isn't, before it is shown
abbrev pub step_answer : OpenReplica → StepEvent → Option Answer
step_answer o (steps.Client call) = option_map (λ told. told.answer) (reply o call)
step_answer o (steps.Survey epoch) = Some (survey_answer o epoch)
step_answer o (steps.Appoint a) = None
step_answer o (steps.Activate epoch) = None
step_answer o steps.Barrier = None
step_answer o steps.Inspect = None

-- it became active, or shows more
abbrev pub has_risen : OpenReplica → OpenReplica → Bool
has_risen before now = nat_lt (view_of before) (view_of now) || (is_active now && not (is_active before))

-- what is told of a step that came from this to this, with an answer
abbrev pub outcome_of : Option Answer → OpenReplica → OpenReplica → Outcome
outcome_of answer before now = record {
  answer = answer;
  commits = newly_shown before now;
  acknowledged = acknowledged_by before now;
  shown = view_of now;
  active = is_active now;
  barrier_due = has_risen before now;
}

-- What a step tells: its answer, and what it came to show by looking.
unfoldable pub step_outcome : OpenReplica → StepEvent → Outcome
step_outcome o event = outcome_of (step_answer o event) (written o event) (looked (written o event))

-- what a replica tells as it is opened
abbrev pub mount_outcome : OpenReplica → Outcome
mount_outcome o = outcome_of None o o

-- What its disk may hold where a step is cut off: what it held before, or what it holds behind the step.
abbrev pub cut_off : OpenReplica → StepEvent → List Whole
cut_off o event = o.disk ∷ appended o.disk (step_block o event) ∷ []

-- ---- which steps there are

-- the words of what a call logs have a spelling
abbrev pub KeyCallFits : List ℕ → List ℕ → KeyCall → Type 0
KeyCallFits name key key_calls.Get = Unit {0}
KeyCallFits name key key_calls.GetForUpdate = Unit {0}
KeyCallFits name key (key_calls.Set value) = IsTrue (is_name name) × IsTrue (is_key key) × IsTrue (is_value value)
KeyCallFits name key (key_calls.Add value) = IsTrue (is_name name) × IsTrue (is_key key) × IsTrue (is_value value)
KeyCallFits name key key_calls.Delete = IsTrue (is_name name) × IsTrue (is_key key)

abbrev pub CallFits : Call → Type 0
CallFits calls.Begin = Unit {0}
CallFits (calls.Make t name kind) = IsTrue (is_name name)
CallFits (calls.OnKey t name key call) = KeyCallFits name key call
CallFits (calls.Commit t) = Unit {0}
CallFits (calls.Abort t) = Unit {0}

-- an appointment to an epoch above that of the last record, of this replica, which is one of the members
pub record MayLead (o : OpenReplica) (a : Appointment) : Type 0 where
  pub above : epoch_lt (epoch_of o.disk) a.epoch ≡ true
  pub own : a.primary ≡ o.id
  pub member : Contains a.cc o.id
  pub before : a.pc ≢ []

-- The conditions of a step: the words of a call fit, an appointment is one of this replica, and a Barrier comes to an active
-- primary.
abbrev pub MayStep : OpenReplica → StepEvent → Type 0
MayStep o (steps.Client call) = CallFits call
MayStep o (steps.Survey epoch) = Unit {0}
MayStep o (steps.Appoint a) = MayLead o a
MayStep o (steps.Activate epoch) = Unit {0}
MayStep o steps.Barrier = is_active o ≡ true
MayStep o steps.Inspect = Unit {0}
