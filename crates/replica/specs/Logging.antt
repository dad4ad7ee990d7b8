-- The parts of a step: first its call is answered, then its records are logged, and then the rest changes.
use Rattle.std.specs.Prelude.{◌≡◌, ℕ, ◌+◌, true, List, [], ◌∷◌, Option, None, option_map, option_and_then, if◌then◌else◌}
use Rattle.std.specs.Option.{option_map_or}
use Rattle.rc_base.specs.declared.ids.Lsn.{Lsn}
use Rattle.rc_base.specs.declared.ids.TxnId.{TxnId}
use Rattle.coll_model.specs.declared.op.Op.{Op}
use Rattle.events.specs.declared.call.Call.{Call}
use Rattle.events.specs.declared.call.Call.TheVariants as calls
use Rattle.events.specs.declared.answer.Answer.{Answer}
use Rattle.events.specs.declared.answer.Reply.{Reply}
use Rattle.events.specs.Calls.{txn_named}
use Rattle.log_records.specs.declared.record.Record.{Record}
use Rattle.log_records.specs.Spelling.{LogicalFits}
use Rattle.txn_front.specs.Front as front
use Rattle.txn_front.specs.Front.{Fronted, Going, going_of}
use Rattle.replica_model.specs.declared.step.StepEvent.{StepEvent}
use Rattle.replica_model.specs.declared.step.StepEvent.TheVariants as steps
use Rattle.replica_model.specs.declared.step.Outcome.{Outcome}
use Rattle.replica.specs.Open.{Open}
use Rattle.replica.specs.Step.{is_active, reply, finished, stepped, quiet, outcome}

-- ---- the answer

-- This is what the call of a step is answered. A step that is no call may be told anything.
abbrev pub IsReplyTo : Open → StepEvent → Option Reply → Type 0
IsReplyTo r (steps.Client call) told = told ≡ reply r call
IsReplyTo r (steps.Survey epoch) told = Unit {0}
IsReplyTo r (steps.Appoint a) told = Unit {0}
IsReplyTo r (steps.Activate epoch) told = Unit {0}
IsReplyTo r steps.Barrier told = Unit {0}
IsReplyTo r steps.Inspect told = Unit {0}

-- what goes on once the call of a step was answered
abbrev pub asked : Open → StepEvent → Fronted
asked r (steps.Client call) = if is_active r.role then front.called r.front r.contents call else r.front
asked r _ = r.front

-- the transaction of a call with the position of its last record, where it goes on
abbrev pub last_named : Fronted → Call → Option (TxnId × Lsn)
last_named f call = option_and_then (λ t. option_map (λ going. (t, going.last)) (going_of f t)) (txn_named call)

-- a transaction whose last record stands here
abbrev pub logged_to : Lsn → Going
logged_to last = record { last = last; ops = [] }

-- each of the records has a spelling
abbrev pub AllFit : List Record → Type 0
AllFit [] = Unit {0}
AllFit (body ∷ bodies) = LogicalFits body × AllFit bodies

-- ---- behind the records

-- what a replica keeps behind so many records of a step, whose call it has answered
abbrev pub changed : ℕ → Open → StepEvent → Open
changed count r (steps.Client call) = if is_active r.role then finished count call r.front r else r
changed count r event = stepped r event

abbrev pub answer_of : Option Reply → Option Answer
answer_of told = option_map (λ reply. reply.answer) told

-- one commit was shown, and so many are shown with it
abbrev pub shown_one : ℕ → TxnId → List Op → Outcome
shown_one shown t ops = record { answer = None; commits = record { txn = t; ops = ops } ∷ []; acknowledged = t ∷ []; shown = shown; active = true; barrier_due = true }

-- what is told of a commit, and of one of a transaction that doesn't go on
abbrev pub told_commit : Open → TxnId → Option Answer → Outcome
told_commit r t answer = option_map_or (λ going. shown_one (r.shown + 1) t going.ops) (going_of r.front t) (quiet r answer)

-- what is told of a step whose call was answered
abbrev pub told_then : Open → StepEvent → Option Reply → Outcome
told_then r (steps.Client (calls.Commit t)) told = if is_active r.role then told_commit r t (answer_of told) else quiet r (answer_of told)
told_then r (steps.Client call) told = quiet r (answer_of told)
told_then r event told = outcome r event
