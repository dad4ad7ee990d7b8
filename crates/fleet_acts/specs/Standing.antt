-- When open replicas and their disks stand for those of a fleet, and what an act of code leaves.
use Rattle.std.specs.Prelude.{◌≡◌, ℕ, ◌<◌, ◌+◌, ◌^◌, Bool, false, List, ◌++◌, set, get_or, Option, Some, None}
use Rattle.disk_model.specs.Disk.{Areas}
use Rattle.txn_table.specs.Whole.{last_position}
use Rattle.order_machine.specs.declared.observation.Observation.{Observation}
use Rattle.replica_model.specs.declared.step.StepEvent.{StepEvent}
use Rattle.replica_model.specs.OpenReplica.{OpenReplica}
use Rattle.replica_model.specs.Steps.{MayStep}
use Rattle.replica.specs.Open.{Open}
use Rattle.replica_laws.specs.Agreement.{AgreesOn}
use Rattle.replica_laws.specs.Modelled.{StandsIn, IsAlone}
use Rattle.fleet_run.specs.Scenes.{FleetReplica, Scene, replica_at, held_by}
use Rattle.fleet_run.specs.Scenes.FleetReplica.{Open as Running, Closed}
use Rattle.fleet_run.specs.Acts.{Act, How, Does}
use Rattle.fleet_run.specs.Acts.Act.{Says}
use Rattle.fleet_run.specs.Acts.How.{Fine, Failed}

-- ---- one replica

-- An open replica and its disk stand for an open one of the fleet; where none is open, each image of the disk holds one of the
-- logs that the disk of a closed one may hold.
abbrev pub StandsAt : Option Open → (Areas → Type 0) → FleetReplica → Type 0
StandsAt (Some x) images (Running o) = AgreesOn x o images
StandsAt (Some x) images (Closed logs) = ⊥
StandsAt None images (Running o) = ⊥
StandsAt None images (Closed logs) = StandsIn logs images

-- ---- nine replicas, over the images of nine disks

abbrev pub Images : Type 1
Images = ℕ → Areas → Type 0

-- replica r, if it is open
abbrev pub open_at : List (Option Open) → ℕ → Option Open
open_at replicas r = get_or replicas r None

abbrev pub StandsFor : List (Option Open) → Images → List FleetReplica → Type 0
StandsFor replicas images fleet = (r : ℕ) → r < 9 → StandsAt (open_at replicas r) (images r) (replica_at fleet r)

-- what the disks hold, whether replicas are open or not
abbrev pub DisksStand : Images → Scene → Type 0
DisksStand images s = (r : ℕ) → r < 9 → StandsIn (held_by (replica_at s.replicas r)) (images r)

-- ---- what an act leaves

-- The act was done so, with these lines behind those before it, and only replica r is another one: it stands for this.
pub record Done (s : Scene) (act : Act) (how : How) (r : ℕ) (x : Option Open) (images : Areas → Type 0) (before now : List Observation) : Type 0 where
  pub told : List Observation
  pub scene : Scene
  pub lines : now ≡ before ++ told
  pub does : Does s act how told scene
  pub replica : FleetReplica
  pub changes : scene.replicas ≡ set s.replicas r replica
  pub stands : StandsAt x images replica

-- These lines were said, behind those before them, and each replica is what it was.
pub record Said (s : Scene) (more before now : List Observation) : Type 0 where
  pub scene : Scene
  pub lines : now ≡ before ++ more
  pub does : Does s (Says more) (Fine false) more scene
  pub stays : scene.replicas ≡ s.replicas

-- The act was cut off: the disk holds what it held, or what it holds behind an act that went in some way.
pub data Cut (s : Scene) (act : Act) (r : ℕ) (images : Areas → Type 0) : Type 0 where
  before : StandsIn (held_by (replica_at s.replicas r)) images → Cut s act r images
  behind : (how : How) (told : List Observation) (scene : Scene) (replica : FleetReplica) → Does s act how told scene
      → scene.replicas ≡ set s.replicas r replica → StandsIn (held_by replica) images → Cut s act r images

-- how a mount went: a replica is open behind it, or the disk failed
abbrev pub how_opened : Option Open → How
how_opened (Some x) = Fine false
how_opened None = Failed

-- How a step went: it was done, and a Barrier is due or not; or the disk failed, and then the replica is closed.
abbrev pub how_taken : Option Bool → How
how_taken (Some due) = Fine due
how_taken None = Failed

abbrev pub left_open : Option Bool → Open → Option Open
left_open (Some due) x = Some x
left_open None x = None

-- ---- what a step asks

-- Replica r is open and may take the step, and there is room for it.
pub record Ready (s : Scene) (r : ℕ) (event : StepEvent) (o : OpenReplica) : Type 0 where
  pub there : replica_at s.replicas r ≡ Running o
  pub number : o.id ≡ r
  pub may : MayStep o event
  pub alone : IsAlone o event
  pub room : last_position o.disk + 2 < 2 ^ 48
  pub counted : o.front.begins + 1 < 2 ^ 64
