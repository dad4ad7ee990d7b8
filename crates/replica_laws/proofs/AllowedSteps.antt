-- A step that a replica alone may take is one that the model's may.
use Rattle.std.proofs.Common.{◌≡◌, ◌∙◌, refl, sym, ap, subst, ℕ, List, [], ◌∷◌, Contains, arith}
use Rattle.rc_base.specs.declared.ids.Epoch.{Epoch}
use Rattle.rc_base.specs.Ids.{epoch_lt}
use Rattle.config_rule.specs.declared.appointments.Appointment.{Appointment}
use Rattle.disk_model.specs.Disk.{Areas}
use Rattle.replica_model.specs.declared.step.StepEvent.TheVariants as steps
use Rattle.replica_model.specs.OpenReplica.{OpenReplica}
use Rattle.replica_model.specs.Steps.{MayLead}
use Rattle.replica.specs.Open.{Open}
use Rattle.replica.specs.Step.{MayLeadAlone}
use Rattle.replica_laws.specs.Agreement.{AgreesOn}
use Rattle.replica_laws.specs.Laws.{AllowedAgree}
use Rattle.replica_laws.proofs.Shown.{epoch_is, active_is}

some_one : (n : ℕ) (members : List ℕ) → members ≡ n ∷ [] → members ≡ [] → ⊥
some_one n members is none = absurd (let e : [] ≡ n ∷ [] = sym none ∙ is in cc)

may_lead : (x : Open) (o : OpenReplica) (images : Areas → Type 0) (appointment : Appointment) → AgreesOn x o images → MayLeadAlone x appointment → MayLead o appointment
may_lead x o images appointment a may = record {
  above = ap (λ (e : Epoch). epoch_lt e appointment.epoch) (epoch_is x o images a) ∙ may.above;
  own = may.own ∙ sym a.id;
  member = subst (λ (members : List ℕ). Contains members o.id) (sym (may.alone ∙ ap (λ (n : ℕ). n ∷ []) (sym a.id))) (0, omega arith, refl);
  before = some_one x.id appointment.pc may.alone_before;
}

pub allowed_agree : (images : Areas → Type 0) → AllowedAgree images
allowed_agree images (steps.Client call) x o a may = may
allowed_agree images (steps.Survey e) x o a may = tt
allowed_agree images (steps.Appoint appointment) x o a may = may_lead x o images appointment a may
allowed_agree images (steps.Activate e) x o a may = tt
allowed_agree images steps.Barrier x o a may = active_is x o images a ∙ may
allowed_agree images steps.Inspect x o a may = tt
