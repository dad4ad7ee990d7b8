-- How far an event has come, act by act, and where it was cut off.
use Rattle.std.specs.Prelude.{◌≡◌, List, length, Option}
use Rattle.events.specs.declared.event.Event.{Event}
use Rattle.order_machine.specs.declared.observation.Observation.{Observation}
use Rattle.replica.specs.Open.{Open}
use Rattle.fleet_run.specs.Scenes.{FleetState, Scene, entered}
use Rattle.fleet_run.specs.Acts.{Act, Goes}
use Rattle.fleet_run.specs.Plans.{plan}
use Rattle.fleet_acts.specs.Standing.{Images, StandsFor, DisksStand}

-- The event has come so far with these lines, and these acts are left; what is open then, with the disks, stands for the nine
-- replicas of the scene.
pub record Stage (s : FleetState) (event : Event) (replicas : List (Option Open)) (images : Images) (lines : List Observation) (acts : List Act) : Type 0 where
  pub scene : Scene
  pub goes : Goes (entered s event) (plan s event) lines scene acts
  pub nine : length scene.replicas ≡ 9
  pub stands : StandsFor replicas images scene.replicas

-- The event was cut off: the disks hold what they hold where it has come to some scene.
pub record Halted (s : FleetState) (event : Event) (images : Images) : Type 0 where
  pub lines : List Observation
  pub acts : List Act
  pub scene : Scene
  pub goes : Goes (entered s event) (plan s event) lines scene acts
  pub disks : DisksStand images scene
