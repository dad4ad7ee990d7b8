-- A Barrier of a primary alone.
use Rattle.std.proofs.Common.{◌≡◌, ◌∙◌, refl, sym, ap, ℕ, ◌+◌, [], ◌∷◌, arith, None}
use Rattle.rc_base.specs.declared.ids.Epoch.{Epoch}
use Rattle.disk_model.specs.Disk.{Areas}
use Rattle.log_records.specs.declared.record.Record.TheVariants.{Barrier}
use Rattle.txn_table.specs.Whole.{Whole, last_position, epoch_of}
use Rattle.log_store.specs.Growth.{after}
use Rattle.replica_model.specs.declared.step.StepEvent.TheVariants as steps
use Rattle.replica_model.specs.OpenReplica.{OpenReplica}
use Rattle.replica_model.specs.Records.{placed, step_block, appended}
use Rattle.replica_model.specs.Steps.{with_block}
use Rattle.replica.specs.Open.{Open}
use Rattle.replica.specs.Step.{block}
use Rattle.replica_laws.specs.Agreement.{AgreesOn, whole_of}
use Rattle.replica_laws.specs.Laws.{BarriersAgree}
use Rattle.replica_laws.proofs.Shown.{last_is, epoch_is}
use Rattle.replica_laws.proofs.QuietSteps.{all_appended, agrees_then}
use Rattle.replica_laws.proofs.Raised.{at_end, serves_alone, raised_agrees}

-- it logs the same
pub logs : (x : Open) (o : OpenReplica) (images : Areas → Type 0) → AgreesOn x o images → block x steps.Barrier ≡ step_block o steps.Barrier
logs x o images a =
    ap (λ (n : ℕ). placed n x.epoch (Barrier x.stable ∷ [])) (sym (last_is x o images a))
    ∙ (ap (λ (e : Epoch). placed (last_position o.disk) e (Barrier x.stable ∷ [])) (sym (epoch_is x o images a))
    ∙ ap (λ (n : ℕ). placed (last_position o.disk) (epoch_of o.disk) (Barrier (record { 0 = n }) ∷ [])) (sym a.stable))

pub barriers_agree : (before now : Areas → Type 0) → BarriersAgree before now
barriers_agree before now x new o a may s =
    let p : OpenReplica = with_block o steps.Barrier in
    let same : block x steps.Barrier ≡ step_block o steps.Barrier = logs x o before a in
    let serves = serves_alone x o before a may in
    let there : AgreesOn new (at_end p) now = agrees_then x new o (at_end p) steps.Barrier before now a s refl (ap (appended o.disk) (sym same)) (ends a same) refl a.role a.front in
    raised_agrees x new o p steps.Barrier before now None a may s there serves.leading serves.is serves.active serves.current serves.previous serves.stable a.stable (disk_is a same) refl same refl refl refl
  where
    disk_is : (a : AgreesOn x o before) → block x steps.Barrier ≡ step_block o steps.Barrier → appended o.disk (step_block o steps.Barrier) ≡ whole_of (after a.kept (block x steps.Barrier))
    disk_is a same = ap (appended o.disk) (sym same) ∙ (ap (λ (w : Whole). appended w (block x steps.Barrier)) a.disk ∙ all_appended a.kept (block x steps.Barrier))

    ends : (a : AgreesOn x o before) → block x steps.Barrier ≡ step_block o steps.Barrier → last_position (appended o.disk (step_block o steps.Barrier)) ≡ x.last.0 + 1
    ends a same = ap last_position (disk_is a same) ∙ omega (arith, (s.agrees a.kept a.stands a.agrees).1.last, ap (λ (r : Open). r.last.0) s.kept.same)
