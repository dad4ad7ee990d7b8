-- What a step of an open replica logs, as one block.
use Rattle.std.specs.Prelude.{ℕ, ◌+◌, ◌==◌, true, false, List, [], ◌∷◌, ◌++◌, Option, Some, None, option_and_then, if◌then◌else◌}
use Rattle.std.specs.Option.{option_map_or}
use Rattle.rc_base.specs.declared.ids.Epoch.{Epoch}
use Rattle.rc_base.specs.declared.ids.Lsn.{Lsn}
use Rattle.rc_base.specs.declared.ids.TxnId.{TxnId}
use Rattle.rc_base.specs.Ids.{epoch_lt}
use Rattle.coll_model.specs.declared.op.Op.{Op}
use Rattle.events.specs.declared.call.Call.{Call}
use Rattle.events.specs.declared.call.Call.TheVariants as calls
use Rattle.events.specs.declared.answer.Answer.TheVariants as answers
use Rattle.events.specs.declared.answer.Reply.{Reply}
use Rattle.events.specs.Answers.{plain}
use Rattle.events.specs.Calls.{txn_named}
use Rattle.log_records.specs.declared.record.Record.{Record}
use Rattle.log_records.specs.declared.record.Record.TheVariants.{Begin, Operation, End, Barrier, EpochStart}
use Rattle.log_records.specs.declared.record.Physical.{Physical}
use Rattle.log_records.specs.declared.record.Physical.TheVariants.{Logical, Fence, TruncateTail, CheckpointDone, Reset, Head}
use Rattle.txn_table.specs.Epochs.{later}
use Rattle.txn_table.specs.Whole.{Whole, epoch_of}
use Rattle.txn_front.specs.Front as front
use Rattle.txn_front.specs.Front.{Going, going_of}
use Rattle.replica_model.specs.declared.step.StepEvent.{StepEvent}
use Rattle.replica_model.specs.declared.step.StepEvent.TheVariants as steps
use Rattle.replica_model.specs.OpenReplica.{OpenReplica, last_lsn, contents_of, is_active}

-- ---- the answer to a call

-- An active primary answers by what goes on over what it shows. The commit of a transaction that goes on has no answer of
-- its own.
abbrev pub reply : OpenReplica → Call → Option Reply
reply o call = if is_active o then front.told o.front (contents_of o) call else Some (plain (answers.NotActive o.id))

-- ---- the records of a call

-- a Begin precedes the first record of a transaction
abbrev pub begin_due : TxnId → Going → List Record
begin_due t going = if going.last.0 == 0 then Begin t ∷ [] else []

-- the record of the transaction before the one that a step logs, in a log with this last position
abbrev pub prev_of : Lsn → Going → Lsn
prev_of last going = if going.last.0 == 0 then record { 0 = last.0 + 1 } else going.last

-- an operation of what goes on; its end by a commit; and its end by an abort, where it has records
abbrev pub logged_op : Lsn → TxnId → Going → Option Op → List Record
logged_op last t going None = []
logged_op last t going (Some op) = begin_due t going ++ Operation t (prev_of last going) op ∷ []

abbrev pub logged_commit : Lsn → TxnId → Going → List Record
logged_commit last t going = begin_due t going ++ End t (prev_of last going) true ∷ []

abbrev pub logged_abort : TxnId → Going → List Record
logged_abort t going = if going.last.0 == 0 then [] else End t going.last false ∷ []

-- a call of a transaction that goes on, which was answered so
abbrev pub logged_call : Lsn → TxnId → Going → Call → Option Reply → List Record
logged_call last t going (calls.Commit u) told = logged_commit last t going
logged_call last t going (calls.Abort u) told = logged_abort t going
logged_call last t going call told = logged_op last t going (option_and_then (λ reply. reply.op) told)

-- the transaction of the call, where it goes on at an active primary
abbrev pub going_in : OpenReplica → TxnId → Option Going
going_in o t = if is_active o then going_of o.front t else None

abbrev pub logged_by : OpenReplica → Call → List Record
logged_by o call =
    option_map_or (λ t. option_map_or (λ going. logged_call (last_lsn o) t going call (reply o call)) (going_in o t) []) (txn_named call) []

-- ---- the block of a step

-- the records of a step that go into the log itself
abbrev pub logged : OpenReplica → StepEvent → List Record
logged o (steps.Client call) = logged_by o call
logged o (steps.Survey epoch) = []
logged o (steps.Appoint a) = EpochStart a.epoch ∷ []
logged o (steps.Activate epoch) = []
logged o steps.Barrier = Barrier (record { 0 = o.stable }) ∷ []
logged o steps.Inspect = []

-- the epoch in which it logs
abbrev pub epoch_in : OpenReplica → StepEvent → Epoch
epoch_in o (steps.Appoint a) = a.epoch
epoch_in o _ = epoch_of o.disk

-- the records at the positions behind this one
abbrev pub placed : ℕ → Epoch → List Record → List Physical
placed last epoch [] = []
placed last epoch (body ∷ bodies) = Logical (record { 0 = last + 1 }) epoch body ∷ placed (last + 1) epoch bodies

-- a survey raises the fence
abbrev pub fences : OpenReplica → StepEvent → List Physical
fences o (steps.Survey epoch) = if epoch_lt o.disk.fence epoch then Fence epoch ∷ [] else []
fences o _ = []

-- all that the step logs, as one block
abbrev pub step_block : OpenReplica → StepEvent → List Physical
step_block o event = fences o event ++ placed (last_lsn o).0 (epoch_in o event) (logged o event)

-- ---- what the disk holds then

-- with one record more: a Fence raises the fence, and so does a record of a later epoch
abbrev pub with_record : Whole → Physical → Whole
with_record w (Fence epoch) = record w { fence = later w.fence epoch }
with_record w (Logical lsn epoch body) = record w { log = w.log ++ (epoch, body) ∷ []; fence = later w.fence epoch }
with_record w (TruncateTail lsn) = w
with_record w (CheckpointDone slot at len) = w
with_record w (Reset slot at len) = w
with_record w (Head generation partition) = w

-- with all records of a block
abbrev pub appended : Whole → List Physical → Whole
appended w [] = w
appended w (item ∷ items) = appended (with_record w item) items
