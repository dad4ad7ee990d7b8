-- A mount and a step of a replica, by the model alone.
use Rattle.std.specs.Prelude.{◌≡◌, ℕ, ◌+◌, ◌<◌, ◌^◌, List, [], ◌∷◌}
use Rattle.disk_model.specs.Disk.{Areas, Each}
use Rattle.txn_table.specs.Whole.{Whole, last_position}
use Rattle.replica_model.specs.declared.step.StepEvent.{StepEvent}
use Rattle.replica_model.specs.declared.step.StepEvent.TheVariants as steps
use Rattle.replica_model.specs.declared.step.Outcome.{Outcome}
use Rattle.replica_model.specs.OpenReplica.{OpenReplica, opened_over}
use Rattle.replica_model.specs.Steps.{MayStep, step_result, step_outcome, mount_outcome}
use Rattle.replica.specs.Open.{Open}
use Rattle.replica_laws.specs.Agreement.{AgreesOn, HoldsOneOf}

-- each image holds one of these logs
abbrev pub StandsIn : List Whole → (Areas → Type 0) → Type 0
StandsIn logs images = Each images (HoldsOneOf logs)

-- an appointment is one of this replica alone
abbrev pub IsAlone : OpenReplica → StepEvent → Type 0
IsAlone o (steps.Client call) = Unit {0}
IsAlone o (steps.Survey epoch) = Unit {0}
IsAlone o (steps.Appoint a) = (a.cc ≡ o.id ∷ []) × (a.pc ≡ o.id ∷ [])
IsAlone o (steps.Activate epoch) = Unit {0}
IsAlone o steps.Barrier = Unit {0}
IsAlone o steps.Inspect = Unit {0}

-- The replica and its disk stand for a value of the model that may take the step, and there is room for it.
pub record IsReady (x : Open) (event : StepEvent) (images : Areas → Type 0) : Type 0 where
  pub now : OpenReplica
  pub agrees : AgreesOn x now images
  pub may : MayStep now event
  pub alone : IsAlone now event
  pub room : last_position now.disk + 2 < 2 ^ 48
  pub counted : now.front.begins + 1 < 2 ^ 64

-- What a step that was done promises at a value of the model: its outcome, and that replica and disk stand for the value behind it.
pub record Took (new : Open) (o : OpenReplica) (event : StepEvent) (told : Outcome) (now : Areas → Type 0) : Type 0 where
  pub outcome : told ≡ step_outcome o event
  pub agrees : AgreesOn new (step_result o event) now

-- what a mount promises that opened a replica of this number
pub record Opened (new : Open) (id : ℕ) (told : Outcome) (now : Areas → Type 0) : Type 0 where
  pub log : Whole
  pub agrees : AgreesOn new (opened_over id log) now
  pub outcome : told ≡ mount_outcome (opened_over id log)
