-- A step of an open replica: what it logs, what it answers, and what it keeps then.
use Rattle.std.specs.Prelude.{◌≡◌, ℕ, zero, suc, ◌+◌, Bool, true, false, List, [], ◌∷◌, ◌++◌, length, flat_map, map, Option, Some, None, if◌then◌else◌}
use Rattle.std.specs.Option.{option_map_or}
use Rattle.rc_base.specs.declared.ids.Epoch.{Epoch}
use Rattle.rc_base.specs.declared.ids.Lsn.{Lsn}
use Rattle.rc_base.specs.declared.ids.TxnId.{TxnId}
use Rattle.rc_base.specs.Ids.{no_epoch, epoch_lt}
use Rattle.coll_model.specs.Effect.{folded}
use Rattle.config_rule.specs.declared.appointments.Appointment.{Appointment}
use Rattle.events.specs.declared.call.Call.{Call}
use Rattle.events.specs.declared.call.Call.TheVariants as calls
use Rattle.events.specs.declared.answer.Answer.{Answer}
use Rattle.events.specs.declared.answer.Answer.TheVariants as answers
use Rattle.events.specs.declared.answer.Reply.{Reply}
use Rattle.events.specs.Answers.{plain}
use Rattle.events.specs.Calls.{txn_named}
use Rattle.log_records.specs.declared.record.Record.{Record}
use Rattle.log_records.specs.declared.record.Record.TheVariants.{Barrier, EpochStart}
use Rattle.log_records.specs.declared.record.Physical.{Physical}
use Rattle.log_records.specs.declared.record.Physical.TheVariants.{Fence}
use Rattle.txn_table.specs.declared.committed.Committed.{Committed}
use Rattle.txn_front.specs.Front as front
use Rattle.txn_front.specs.Front.{Fronted, Going, going_of, nothing}
use Rattle.txn_table.specs.Epochs.{later}
use Rattle.replica_model.specs.declared.role.Role.{Role}
use Rattle.replica_model.specs.declared.role.Role.TheVariants.{Other, Primary}
use Rattle.replica_model.specs.declared.step.StepEvent.{StepEvent}
use Rattle.replica_model.specs.declared.step.StepEvent.TheVariants as steps
use Rattle.replica_model.specs.declared.step.Outcome.{Outcome}
use Rattle.replica_model.specs.Records.{logged_call, placed}
use Rattle.replica_model.specs.Steps.{CallFits, noted}
use Rattle.replica.specs.Open.{Open}

-- ---- the answer to a call

abbrev pub is_active : Role → Bool
is_active Other = false
is_active (Primary epoch active) = active

-- An active primary answers by what goes on over what it shows. The commit of a transaction that goes on has no answer of
-- its own.
abbrev pub reply : Open → Call → Option Reply
reply r call = if is_active r.role then front.told r.front r.contents call else Some (plain (answers.NotActive r.id))

-- ---- what a step logs

-- the transaction of the call, where it goes on at an active primary
abbrev pub going_in : Open → TxnId → Option Going
going_in r t = if is_active r.role then going_of r.front t else None

abbrev pub logged_by : Open → Call → List Record
logged_by r call = option_map_or (λ t. option_map_or (λ going. logged_call r.last t going call (reply r call)) (going_in r t) []) (txn_named call) []

abbrev pub logged : Open → StepEvent → List Record
logged r (steps.Client call) = logged_by r call
logged r (steps.Survey epoch) = []
logged r (steps.Appoint a) = EpochStart a.epoch ∷ []
logged r (steps.Activate epoch) = []
logged r steps.Barrier = Barrier r.stable ∷ []
logged r steps.Inspect = []

-- the epoch in which it logs
abbrev pub epoch_in : Open → StepEvent → Epoch
epoch_in r (steps.Appoint a) = a.epoch
epoch_in r _ = r.epoch

-- a survey raises the fence
abbrev pub fences : Open → StepEvent → List Physical
fences r (steps.Survey epoch) = if epoch_lt r.fence epoch then Fence epoch ∷ [] else []
fences r _ = []

-- the block of the step
abbrev pub block : Open → StepEvent → List Physical
block r event = fences r event ++ placed r.last.0 (epoch_in r event) (logged r event)

-- ---- what it keeps then

-- the position so many records behind another
abbrev pub behind : Lsn → ℕ → Lsn
behind last count = record { 0 = last.0 + count }

-- So many records were logged in an epoch. At a primary that is alone all of them are stable.
abbrev pub lengthened : ℕ → Epoch → Open → Open
lengthened zero epoch r = r
lengthened (suc n) epoch r =
    record r { fence = later r.fence epoch; epoch = epoch; last = behind r.last (suc n); stable = behind r.last (suc n) }

-- so many records of a commit: what the transaction did is shown
abbrev pub committed : ℕ → TxnId → Open → Open
committed count t r =
    option_map_or (λ going. record (lengthened count r.epoch r) { shown = r.shown + 1; contents = folded r.contents going.ops; front = front.ended r.front t })
    (going_of r.front t) r

-- so many records of a call, behind whose answer this goes on
abbrev pub finished : ℕ → Call → Fronted → Open → Open
finished count (calls.Commit t) f r = committed count t r
finished count (calls.Abort t) f r = record (lengthened count r.epoch r) { front = front.ended r.front t }
finished count call f r = record (lengthened count r.epoch r) { front = noted count call (behind r.last count) f }

-- a call that logged so many records
abbrev pub answered : ℕ → Call → Open → Open
answered count call r = finished count call (front.called r.front r.contents call) r

abbrev pub called : Open → Call → Open
called r call = if is_active r.role then answered (length (logged_by r call)) call r else r

-- a survey of an epoch that isn't below the fence ends the role, and with it what goes on
abbrev pub surveyed : Epoch → Open → Open
surveyed epoch r = if epoch_lt epoch r.fence then r else record r { fence = later r.fence epoch; role = Other; front = nothing no_epoch }

-- An epoch was started: the replica is its primary, and shows all that its log commits. It needs no quorum but itself.
abbrev pub started : Epoch → Open → Open
started epoch r = record (lengthened 1 epoch r) {
  shown = r.shown + length r.ahead;
  contents = folded r.contents (flat_map (λ c. c.ops) r.ahead);
  ahead = [];
  role = Primary epoch true;
  front = nothing epoch;
}

abbrev pub stepped : Open → StepEvent → Open
stepped r (steps.Client call) = called r call
stepped r (steps.Survey epoch) = surveyed epoch r
stepped r (steps.Appoint a) = started a.epoch r
stepped r (steps.Activate epoch) = r
stepped r steps.Barrier = lengthened 1 r.epoch r
stepped r steps.Inspect = r

-- ---- what it tells

-- the commits that the step logs
abbrev pub committed_at : Open → TxnId → List Committed
committed_at r t = option_map_or (λ going. record { txn = t; ops = going.ops } ∷ []) (going_in r t) []

abbrev pub committed_by : Open → StepEvent → List Committed
committed_by r (steps.Client (calls.Commit t)) = committed_at r t
committed_by r _ = []

-- a step that shows nothing more
abbrev pub quiet : Open → Option Answer → Outcome
quiet r answer = record { answer = answer; commits = []; acknowledged = []; shown = r.shown; active = is_active r.role; barrier_due = false }

-- commits are shown and acknowledged, and a Barrier is to follow
abbrev pub shown_commits : Open → List Committed → Outcome
shown_commits r commits = record { answer = None; commits = commits; acknowledged = map (λ c. c.txn) commits; shown = r.shown + length commits; active = true; barrier_due = true }

-- the answer to a survey: how far the log reaches, or the fence that the epoch is below
abbrev pub survey_answer : Open → Epoch → Answer
survey_answer r epoch = if epoch_lt epoch r.fence then answers.IgnoredOldEpoch r.fence epoch else answers.Progress r.id r.epoch r.last.0

abbrev pub outcome : Open → StepEvent → Outcome
outcome r (steps.Client call) = option_map_or (λ told. quiet r (Some told.answer)) (reply r call) (shown_commits r (committed_by r (steps.Client call)))
outcome r (steps.Survey epoch) = quiet (surveyed epoch r) (Some (survey_answer r epoch))
outcome r (steps.Appoint a) = record { answer = None; commits = r.ahead; acknowledged = []; shown = r.shown + length r.ahead; active = true; barrier_due = true }
outcome r (steps.Activate epoch) = quiet r None
outcome r steps.Barrier = quiet r None
outcome r steps.Inspect = quiet r None

-- ---- which steps there are

-- An appointment to an epoch above that of the last record, of this replica, which is the one member of it and of the
-- configuration before.
pub record MayLeadAlone (r : Open) (a : Appointment) : Type 0 where
  pub above : epoch_lt r.epoch a.epoch ≡ true
  pub own : a.primary ≡ r.id
  pub alone : a.cc ≡ r.id ∷ []
  pub alone_before : a.pc ≡ r.id ∷ []

-- The conditions of a step: the words of a call fit, an appointment is one of this replica alone, and a Barrier comes to an
-- active primary.
abbrev pub MayStep : Open → StepEvent → Type 0
MayStep r (steps.Client call) = CallFits call
MayStep r (steps.Survey epoch) = Unit {0}
MayStep r (steps.Appoint a) = MayLeadAlone r a
MayStep r (steps.Activate epoch) = Unit {0}
MayStep r steps.Barrier = is_active r.role ≡ true
MayStep r steps.Inspect = Unit {0}
