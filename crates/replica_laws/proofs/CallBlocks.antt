-- What a call is answered, and what it logs, is what the model says.
use Rattle.std.proofs.Common.{◌≡◌, ◌∙◌, refl, sym, ap, ℕ, Bool, cond, List, [], Option, Some, None}
use Rattle.std.specs.Option.{option_map_or}
use Rattle.rc_base.specs.declared.ids.Epoch.{Epoch}
use Rattle.rc_base.specs.declared.ids.Lsn.{Lsn}
use Rattle.rc_base.specs.declared.ids.TxnId.{TxnId}
use Rattle.disk_model.specs.Disk.{Areas}
use Rattle.coll_model.specs.Effect.{State}
use Rattle.events.specs.declared.call.Call.{Call}
use Rattle.events.specs.declared.answer.Answer.TheVariants as answers
use Rattle.events.specs.declared.answer.Reply.{Reply}
use Rattle.events.specs.Answers.{plain}
use Rattle.events.specs.Calls.{txn_named}
use Rattle.log_records.specs.declared.record.Record.{Record}
use Rattle.txn_table.specs.Whole.{epoch_of}
use Rattle.txn_front.specs.Front as front
use Rattle.txn_front.specs.Front.{Going, going_of}
use Rattle.txn_front.proofs.Fronts.{told-alike}
use Rattle.replica_model.specs.declared.step.StepEvent.TheVariants as steps
use Rattle.replica_model.specs.OpenReplica.{OpenReplica, last_lsn, contents_of}
use Rattle.replica_model.specs.Records as records
use Rattle.replica_model.specs.Records.{placed, step_block, logged_call}
use Rattle.replica.specs.Open.{Open}
use Rattle.replica.specs.Step.{is_active, reply, going_in, logged_by, block}
use Rattle.replica.proofs.Puts.{alike_going}
use Rattle.replica_laws.specs.Agreement.{AgreesOn}
use Rattle.replica_laws.proofs.Shown.{last_is, lsn_is, epoch_is, contents_is, active_is}

-- it is answered the same
pub reply_is : (x : Open) (o : OpenReplica) (images : Areas → Type 0) (call : Call) → AgreesOn x o images → reply x call ≡ records.reply o call
reply_is x o images call a =
    ap (λ (r : Option Reply). cond (is_active x.role) r (Some (plain (answers.NotActive x.id)))) (told-alike x.front o.front x.contents call a.front)
    ∙ (ap (λ (s : State). cond (is_active x.role) (front.told o.front s call) (Some (plain (answers.NotActive x.id)))) (sym (contents_is x o images a))
    ∙ (ap (λ (n : ℕ). cond (is_active x.role) (front.told o.front (contents_of o) call) (Some (plain (answers.NotActive n)))) (sym a.id)
    ∙ ap (λ (b : Bool). cond b (front.told o.front (contents_of o) call) (Some (plain (answers.NotActive o.id)))) (sym (active_is x o images a))))

-- the same transactions go on
pub going_is : (x : Open) (o : OpenReplica) (images : Areas → Type 0) (t : TxnId) → AgreesOn x o images → going_in x t ≡ records.going_in o t
going_is x o images t a =
    ap (λ (g : Option Going). cond (is_active x.role) g None) (alike_going x.front o.front t a.front)
    ∙ ap (λ (b : Bool). cond b (going_of o.front t) None) (sym (active_is x o images a))

-- it has the same records
pub logged_is : (x : Open) (o : OpenReplica) (images : Areas → Type 0) (call : Call) → AgreesOn x o images → logged_by x call ≡ records.logged_by o call
logged_is x o images call a = by (txn_named call)
  where
    by : (named : Option TxnId) → option_map_or (λ t. option_map_or (λ going. logged_call x.last t going call (reply x call)) (going_in x t) []) named []
        ≡ option_map_or (λ t. option_map_or (λ going. logged_call (last_lsn o) t going call (records.reply o call)) (records.going_in o t) []) named []
    by None = refl
    by (Some t) =
        ap (λ (g : Option Going). option_map_or (λ going. logged_call x.last t going call (reply x call)) g []) (going_is x o images t a)
        ∙ (ap (λ (told : Option Reply). option_map_or (λ going. logged_call x.last t going call told) (records.going_in o t) []) (reply_is x o images call a)
        ∙ ap (λ (last : Lsn). option_map_or (λ going. logged_call last t going call (records.reply o call)) (records.going_in o t) []) (sym (lsn_is x o images a)))

-- it logs the same
pub call_logs : (x : Open) (o : OpenReplica) (images : Areas → Type 0) (call : Call) → AgreesOn x o images → block x (steps.Client call) ≡ step_block o (steps.Client call)
call_logs x o images call a =
    ap (λ (bodies : List Record). placed x.last.0 x.epoch bodies) (logged_is x o images call a)
    ∙ (ap (λ (e : Epoch). placed x.last.0 e (records.logged_by o call)) (sym (epoch_is x o images a))
    ∙ ap (λ (n : ℕ). placed n (epoch_of o.disk) (records.logged_by o call)) (sym (last_is x o images a)))
