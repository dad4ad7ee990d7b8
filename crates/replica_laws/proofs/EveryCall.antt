-- Every call.
use Rattle.std.proofs.Common.{◌≡◌, refl, Bool, true, false, Option, Some, None}
use Rattle.disk_model.specs.Disk.{Areas}
use Rattle.events.specs.declared.call.Call.{Call}
use Rattle.events.specs.declared.call.Call.TheVariants as calls
use Rattle.txn_front.specs.Front.{Going, going_of}
use Rattle.replica_model.specs.declared.step.StepEvent.TheVariants as steps
use Rattle.replica_model.specs.OpenReplica.{OpenReplica}
use Rattle.replica.specs.Open.{Open}
use Rattle.replica.specs.Step.{MayStep, is_active}
use Rattle.replica_laws.specs.Agreement.{AgreesOn, IsStep, StepAgrees}
use Rattle.replica_laws.specs.Laws.{CallsAgree}
use Rattle.replica_laws.proofs.Refusals.{refusals_agree}
use Rattle.replica_laws.proofs.Calls.{begins_agree, makes_agree, key_calls_agree, aborts_agree, late_commits_agree}
use Rattle.replica_laws.proofs.Commits.{commits_agree}

-- at an active primary
served : (before now : Areas → Type 0) (call : Call) (x new : Open) (o : OpenReplica) → AgreesOn x o before → MayStep x (steps.Client call) → is_active x.role ≡ true → IsStep x new (steps.Client call) before now → StepAgrees x new o (steps.Client call) now
served before now calls.Begin x new o a may on s = begins_agree before now x new o a may on s
served before now (calls.Make t name kind) x new o a may on s = makes_agree before now t name kind x new o a may on s
served before now (calls.OnKey t name key asked) x new o a may on s = key_calls_agree before now t name key asked x new o a may on s
served before now (calls.Commit t) x new o a may on s = by (going_of x.front t) refl
  where
    by : (m : Option Going) → going_of x.front t ≡ m → StepAgrees x new o (steps.Client (calls.Commit t)) now
    by None gone = late_commits_agree before now t x new o a may on s gone
    by (Some going) is = commits_agree before now t x new o a may on s going is
served before now (calls.Abort t) x new o a may on s = aborts_agree before now t x new o a may on s

pub calls_agree : (before now : Areas → Type 0) → CallsAgree before now
calls_agree before now call x new o a may s = by (is_active x.role) refl
  where
    by : (b : Bool) → is_active x.role ≡ b → StepAgrees x new o (steps.Client call) now
    by true on = served before now call x new o a may on s
    by false off = refusals_agree before now call x new o a may off s
