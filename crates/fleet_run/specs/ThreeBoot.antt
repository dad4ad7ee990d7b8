-- A run of a fleet: three replicas are booted. Their primary isn't active, since nobody acknowledges its log yet.
use Rattle.std.specs.Prelude.{◌≡◌, ℕ, false, List, [], ◌∷◌, replicate}
use Rattle.events.specs.declared.event.Event.TheVariants.{Boot}
use Rattle.order_machine.specs.declared.observation.Observation.{Observation}
use Rattle.order_machine.specs.declared.observation.Observation.TheVariants as says
use Rattle.replica_model.specs.OpenReplica.{OpenReplica, opened_over, is_active}
use Rattle.replica_model.specs.Steps.{step_result}
use Rattle.replica_model.specs.declared.step.StepEvent.TheVariants as steps
use Rattle.fleet_run.specs.Scenes.{FleetState, empty_whole, first_state}
use Rattle.fleet_run.specs.Scenes.FleetReplica.{Open, Closed}
use Rattle.fleet_run.specs.Plans.{GoesBy, boot_appointment}

abbrev pub trio : List ℕ
trio = 0 ∷ 1 ∷ 2 ∷ []

abbrev pub boot_lines : List Observation
boot_lines = says.Up 0 ∷ says.View 0 0 ∷ says.Up 1 ∷ says.View 1 0 ∷ says.Up 2 ∷ says.View 2 0 ∷ says.Done ∷ []

-- the primary behind its step: it has logged the start of its epoch
abbrev pub primary_booted : OpenReplica
primary_booted = step_result (opened_over 0 empty_whole) (steps.Appoint (boot_appointment 0 trio))

-- the three are open behind these lines, and the primary isn't active
pub record ThreeBoot : Type 0 where
  pub state : FleetState
  pub goes : GoesBy first_state (Boot 0 trio) boot_lines state
  pub replicas : state.replicas ≡ Open primary_booted ∷ Open (opened_over 1 empty_whole) ∷ Open (opened_over 2 empty_whole) ∷ replicate 6 (Closed (empty_whole ∷ []))
  pub waits : is_active primary_booted ≡ false
