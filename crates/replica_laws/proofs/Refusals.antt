-- A call at a replica that is no active primary.
use Rattle.std.proofs.Common.{◌≡◌, ◌∙◌, refl, sym, ap, ℕ, Bool, false, cond, List, [], length, Option, Some, None}
use Rattle.std.specs.Prelude.{option_map}
use Rattle.std.specs.Option.{option_map_or}
use Rattle.rc_base.specs.declared.ids.TxnId.{TxnId}
use Rattle.disk_model.specs.Disk.{Areas}
use Rattle.events.specs.declared.call.Call.{Call}
use Rattle.events.specs.declared.answer.Answer.TheVariants as answers
use Rattle.events.specs.declared.answer.Reply.{Reply}
use Rattle.events.specs.Answers.{plain}
use Rattle.events.specs.Calls.{txn_named}
use Rattle.log_records.specs.declared.record.Record.{Record}
use Rattle.txn_table.specs.Whole.{last_position, epoch_of}
use Rattle.txn_front.specs.Front as front
use Rattle.txn_front.specs.Front.{Going, going_of}
use Rattle.replica_model.specs.declared.step.StepEvent.TheVariants as steps
use Rattle.replica_model.specs.OpenReplica as model
use Rattle.replica_model.specs.OpenReplica.{OpenReplica, last_lsn, contents_of}
use Rattle.replica_model.specs.Records as records
use Rattle.replica_model.specs.Records.{placed, step_block, logged_call, appended}
use Rattle.replica_model.specs.Steps.{written, with_block, front_behind, step_answer}
use Rattle.replica.specs.Open.{Open}
use Rattle.replica.specs.Step.{MayStep, is_active, reply, going_in, logged_by, block, answered, stepped, outcome, quiet, shown_commits, committed_by}
use Rattle.replica_laws.specs.Agreement.{AgreesOn, IsStep, StepAgrees}
use Rattle.replica_laws.proofs.Shown.{active_is}
use Rattle.replica_laws.proofs.QuietSteps.{agrees_at, quiet_agrees}

-- neither logs anything
none_logged : (x : Open) (call : Call) → is_active x.role ≡ false → (o : Option TxnId) → option_map_or (λ t. option_map_or (λ going. logged_call x.last t going call (reply x call)) (going_in x t) []) o [] ≡ []
none_logged x call off None = refl
none_logged x call off (Some t) = ap (λ (b : Bool). option_map_or (λ going. logged_call x.last t going call (reply x call)) (cond b (going_of x.front t) None) []) off

none_logged_there : (o : OpenReplica) (call : Call) → model.is_active o ≡ false → (named : Option TxnId) → option_map_or (λ t. option_map_or (λ going. logged_call (last_lsn o) t going call (records.reply o call)) (records.going_in o t) []) named [] ≡ []
none_logged_there o call off None = refl
none_logged_there o call off (Some t) = ap (λ (b : Bool). option_map_or (λ going. logged_call (last_lsn o) t going call (records.reply o call)) (cond b (going_of o.front t) None) []) off

pub refusals_agree : (before now : Areas → Type 0) (call : Call) (x new : Open) (o : OpenReplica) → AgreesOn x o before → MayStep x (steps.Client call) → is_active x.role ≡ false → IsStep x new (steps.Client call) before now → StepAgrees x new o (steps.Client call) now
refusals_agree before now call x new o a may off s =
    let off_there : model.is_active o ≡ false = active_is x o before a ∙ off in
    let here : block x (steps.Client call) ≡ [] = ap (λ (bodies : List Record). placed x.last.0 x.epoch bodies) (none_logged x call off (txn_named call)) in
    let away : step_block o (steps.Client call) ≡ [] = ap (λ (bodies : List Record). placed (last_position o.disk) (epoch_of o.disk) bodies) (none_logged_there o call off_there (txn_named call)) in
    let is : stepped x (steps.Client call) ≡ x = ap (λ (b : Bool). cond b (answered (length (logged_by x call)) call x) x) off in
    let leaves : written o (steps.Client call) ≡ o = ap (λ (b : Bool). cond b (record (with_block o (steps.Client call)) { front = front_behind o call }) o) off_there in
    let told : reply x call ≡ Some (plain (answers.NotActive x.id)) = ap (λ (b : Bool). cond b (front.told x.front x.contents call) (Some (plain (answers.NotActive x.id)))) off in
    let told_there : records.reply o call ≡ Some (plain (answers.NotActive o.id)) = ap (λ (b : Bool). cond b (front.told o.front (contents_of o) call) (Some (plain (answers.NotActive o.id)))) off_there in
    let tells : outcome x (steps.Client call) ≡ quiet (stepped x (steps.Client call)) (Some (answers.NotActive x.id)) =
    ap (λ (r : Option Reply). option_map_or (λ given. quiet x (Some given.answer)) r (shown_commits x (committed_by x (steps.Client call)))) told ∙ sym (ap (λ (r : Open). quiet r (Some (answers.NotActive x.id))) is) in
    let same : Some (answers.NotActive x.id) ≡ step_answer o (steps.Client call) = ap (λ (n : ℕ). Some (answers.NotActive n)) (sym a.id) ∙ sym (ap (option_map (λ (r : Reply). r.answer)) told_there) in
    let there : AgreesOn new o now = agrees_at x x new o o (steps.Client call) before now a s is refl (ap (appended o.disk) (sym here)) a.stable refl a.role a.front in
    quiet_agrees x new o o (steps.Client call) before now (Some (answers.NotActive x.id)) s there (here ∙ sym away) leaves tells same
