-- A survey of a replica alone.
use Rattle.std.proofs.Common.{◌≡◌, ◌∙◌, refl, sym, ap, ℕ, Bool, true, false, cond, [], ◌∷◌, ◌++◌, Some, None}
use Rattle.rc_base.specs.declared.ids.Epoch.{Epoch}
use Rattle.rc_base.specs.Ids.{no_epoch, epoch_lt}
use Rattle.rc_base.proofs.EpochOrder.{epoch_le_not, epoch_lt_le}
use Rattle.disk_model.specs.Disk.{Areas}
use Rattle.events.specs.declared.answer.Answer.TheVariants as answers
use Rattle.log_records.specs.declared.record.Physical.TheVariants.{Fence}
use Rattle.txn_table.specs.Epochs.{later}
use Rattle.txn_table.specs.Whole.{epoch_of}
use Rattle.txn_front.specs.Front.{nothing}
use Rattle.txn_front.proofs.Fronts.{AreAlike-itself}
use Rattle.replica_model.specs.declared.role.Role.TheVariants.{Other}
use Rattle.replica_model.specs.declared.step.StepEvent.TheVariants as steps
use Rattle.replica_model.specs.OpenReplica.{OpenReplica}
use Rattle.replica_model.specs.Records.{step_block, appended}
use Rattle.replica_model.specs.Steps as model
use Rattle.replica_model.specs.Steps.{with_block, written}
use Rattle.replica.specs.Open.{Open}
use Rattle.replica.specs.Step.{block, stepped, survey_answer}
use Rattle.replica_laws.specs.Agreement.{AgreesOn, StepAgrees}
use Rattle.replica_laws.specs.Laws.{SurveysAgree}
use Rattle.replica_laws.proofs.Shown.{last_is, epoch_is, fence_is}
use Rattle.replica_laws.proofs.QuietSteps.{agrees_at, quiet_agrees}

-- it logs the same
pub logs : (x : Open) (o : OpenReplica) (images : Areas → Type 0) (e : Epoch) → AgreesOn x o images → block x (steps.Survey e) ≡ step_block o (steps.Survey e)
logs x o images e a = ap (λ (f : Epoch). cond (epoch_lt f e) (Fence e ∷ []) [] ++ []) (sym (fence_is x o images a))

-- it is answered the same
answer_is : (x : Open) (o : OpenReplica) (images : Areas → Type 0) (e : Epoch) → AgreesOn x o images → survey_answer x e ≡ model.survey_answer o e
answer_is x o images e a =
    ap (λ (f : Epoch). cond (epoch_lt e f) (answers.IgnoredOldEpoch f e) (answers.Progress x.id x.epoch x.last.0)) (sym (fence_is x o images a))
    ∙ (ap (λ (n : ℕ). cond (epoch_lt e o.disk.fence) (answers.IgnoredOldEpoch o.disk.fence e) (answers.Progress n x.epoch x.last.0)) (sym a.id)
    ∙ (ap (λ (f : Epoch). cond (epoch_lt e o.disk.fence) (answers.IgnoredOldEpoch o.disk.fence e) (answers.Progress o.id f x.last.0)) (sym (epoch_is x o images a))
    ∙ ap (λ (n : ℕ). cond (epoch_lt e o.disk.fence) (answers.IgnoredOldEpoch o.disk.fence e) (answers.Progress o.id (epoch_of o.disk) n)) (sym (last_is x o images a))))

-- the replica that it ends the role of
abbrev laid_down : Open → Epoch → Open
laid_down x e = record x { fence = later x.fence e; role = Other; front = nothing no_epoch }

pub surveys_agree : (before now : Areas → Type 0) → SurveysAgree before now
surveys_agree before now e x new o a may s = by (epoch_lt e x.fence) refl
  where
    fence : o.disk.fence ≡ x.fence
    fence = fence_is x o before a

    same_block : block x (steps.Survey e) ≡ step_block o (steps.Survey e)
    same_block = logs x o before e a

    -- the model's replica of which the role ends
    laid : OpenReplica
    laid = record (with_block o (steps.Survey e)) { leading = None; front = nothing no_epoch }

    empty : epoch_lt e x.fence ≡ true → (up : Bool) → epoch_lt x.fence e ≡ up → block x (steps.Survey e) ≡ []
    empty low true up = absurd (epoch_le_not e x.fence (epoch_lt_le e x.fence low) up)
    empty low false up = ap (λ (b : Bool). cond b (Fence e ∷ []) [] ++ []) up

    by : (low : Bool) → epoch_lt e x.fence ≡ low → StepAgrees x new o (steps.Survey e) now
    by true low =
        let is : stepped x (steps.Survey e) ≡ x = ap (λ (b : Bool). cond b x (laid_down x e)) low in
        let leaves : written o (steps.Survey e) ≡ o = ap (λ (b : Bool). cond b o laid) (ap (epoch_lt e) fence ∙ low) in
        let none : block x (steps.Survey e) ≡ [] = empty low (epoch_lt x.fence e) refl in
        let there : AgreesOn new o now = agrees_at x x new o o (steps.Survey e) before now a s is refl (ap (appended o.disk) (sym none)) a.stable refl a.role a.front in
        quiet_agrees x new o o (steps.Survey e) before now (Some (survey_answer x e)) s there same_block leaves refl (ap Some (answer_is x o before e a))
    by false low =
        let is : stepped x (steps.Survey e) ≡ laid_down x e = ap (λ (b : Bool). cond b x (laid_down x e)) low in
        let leaves : written o (steps.Survey e) ≡ laid = ap (λ (b : Bool). cond b o laid) (ap (epoch_lt e) fence ∙ low) in
        let there : AgreesOn new laid now = agrees_at x (laid_down x e) new o laid (steps.Survey e) before now a s is refl (ap (appended o.disk) (sym same_block)) a.stable refl tt (AreAlike-itself (nothing no_epoch)) in
        quiet_agrees x new o laid (steps.Survey e) before now (Some (survey_answer x e)) s there same_block leaves refl (ap Some (answer_is x o before e a))
