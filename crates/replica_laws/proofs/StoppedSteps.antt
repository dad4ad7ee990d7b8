-- What a step leaves of the disk that wasn't done.
use Rattle.std.proofs.Common.{◌≡◌, refl, inl, inr, ◌⊎◌, arith}
use Rattle.std.specs.Prelude.{Ok}
use Rattle.disk_model.specs.Disk.{Areas}
use Rattle.log_store.specs.declared.kept.Kept.{Kept}
use Rattle.log_store.specs.Durable.{durable}
use Rattle.log_store.specs.Growth.{after}
use Rattle.replica_model.specs.declared.step.StepEvent.{StepEvent}
use Rattle.replica_model.specs.declared.step.StepEvent.TheVariants as steps
use Rattle.replica_model.specs.OpenReplica.{OpenReplica}
use Rattle.replica_model.specs.Records.{step_block}
use Rattle.replica_model.specs.Steps.{cut_off}
use Rattle.replica.specs.Open.{Open}
use Rattle.replica.specs.Step.{block}
use Rattle.replica_laws.specs.Agreement.{AgreesOn, HoldsOneOf}
use Rattle.replica_laws.specs.Laws.{CutOffAgrees}
use Rattle.replica_laws.proofs.Surveys as surveys
use Rattle.replica_laws.proofs.Barriers as barriers
use Rattle.replica_laws.proofs.CallBlocks.{call_logs}
use Rattle.replica_laws.proofs.Calls.{holds_then}
use Rattle.replica_laws.proofs.Appointments.{appoint_logs}

-- each step logs the same
pub step_logs : (x : Open) (o : OpenReplica) (images : Areas → Type 0) (event : StepEvent) → AgreesOn x o images → block x event ≡ step_block o event
step_logs x o images (steps.Client call) a = call_logs x o images call a
step_logs x o images (steps.Survey e) a = surveys.logs x o images e a
step_logs x o images (steps.Appoint appointment) a = appoint_logs x o images appointment a
step_logs x o images (steps.Activate e) a = refl
step_logs x o images steps.Barrier a = barriers.logs x o images a
step_logs x o images steps.Inspect a = refl

pub cut_off_agrees : (before now : Areas → Type 0) → CutOffAgrees before now
cut_off_agrees before now event x o a stop c is = by (stop a.kept a.stands a.agrees c is)
  where
    then : Kept
    then = after a.kept (block x event)

    by : (durable c ≡ Ok a.kept) ⊎ (durable c ≡ Ok then) → HoldsOneOf (cut_off o event) c
    by (inl old) = record { kept = a.kept; is = old; one = (0, omega arith, a.disk) }
    by (inr new) = record { kept = then; is = new; one = (1, omega arith, holds_then x o event before a (step_logs x o before event a)) }
