-- The disks of a fleet, by the numbers of their replicas.
use Rattle.std.specs.Prelude.{◌≡◌, ℕ, zero, suc, ◌+◌, ◌-◌, ◌^◌, ◌≤◌, min, Bool, true, false, ◌==◌, List, [], ◌∷◌, Result, Ok, Err, if◌then◌else◌}
use Rattle.disk_model.specs.Disk.{Areas, Marks, after_arm, after_stop}
use Rattle.events.specs.declared.event.Event.{Event}
use Rattle.events.specs.declared.event.Event.TheVariants.{Boot, Client, Arm, Crash, Reboot, Inspect, Survey, Appoint, Activate}
use Rattle.order_machine.specs.declared.observation.Observation.{Observation}
use Rattle.world.specs.declared.error.WorldError.{WorldError}
use Rattle.order_machine.specs.declared.observation.Observation.TheVariants as says

-- what a stop may leave of a replica's disk; nothing where there is none
abbrev pub images_of : {M : Type 0} → (M → Areas → Type 0) → List M → ℕ → Areas → Type 0
images_of images [] r = λ areas. ⊥
images_of images (disk ∷ disks) zero = images disk
images_of images (disk ∷ disks) (suc r) = images_of images disks r

-- how often it has failed
abbrev pub faults_of : {M : Type 0} → (M → ℕ) → List M → ℕ → ℕ
faults_of faults [] r = 0
faults_of faults (disk ∷ disks) zero = faults disk
faults_of faults (disk ∷ disks) (suc r) = faults_of faults disks r

-- its marks of arming and stopping
abbrev pub marks_of : {M : Type 0} → (M → Marks) → List M → ℕ → Marks
marks_of marks [] r = record { arms = 0; stops = 0; last = 0 }
marks_of marks (disk ∷ disks) zero = marks disk
marks_of marks (disk ∷ disks) (suc r) = marks_of marks disks r

-- ---- faults

abbrev pub is_fault_of : ℕ → Observation → Bool
is_fault_of r (says.Fault q) = q == r
is_fault_of r _ = false

-- how many of the lines say that the replica's disk failed
abbrev pub faults_in : ℕ → List Observation → ℕ
faults_in r [] = 0
faults_in r (o ∷ os) = if is_fault_of r o then faults_in r os + 1 else faults_in r os

-- the lines tell no fault of another replica than replica 0
abbrev pub TellsZero : List Observation → Type 0
TellsZero lines = (r : ℕ) → faults_in (suc r) lines ≡ 0

-- how many lines of an event say so
abbrev pub fault_lines : ℕ → Result (List Observation) WorldError → ℕ
fault_lines r (Ok lines) = faults_in r lines
fault_lines r (Err e) = 0

-- A count rose by so much at least; it stands still at 2^64 - 1.
pub record RoseBy (n before now : ℕ) : Type 0 where
  pub later : before ≤ now
  pub by : min (before + n) (2 ^ 64 - 1) ≤ now

-- ---- arming and stopping

abbrev pub is_done : List Observation → Bool
is_done (says.Done ∷ []) = true
is_done _ = false

-- what the event does to the marks of a replica's disk, where it was done
abbrev pub marked : Event → ℕ → Marks → Marks
marked (Boot p members) r marks = marks
marked (Client q call) r marks = marks
marked (Arm q calls) r marks = if q == r then after_arm calls marks else marks
marked (Crash q pick) r marks = if q == r then after_stop pick marks else marks
marked (Reboot q) r marks = marks
marked (Inspect q) r marks = marks
marked (Survey q e) r marks = marks
marked (Appoint e p members) r marks = marks
marked (Activate e) r marks = marks

-- the marks after an event with these lines: arming and stopping count where they were answered `ok`
abbrev pub marked_by : Event → List Observation → ℕ → Marks → Marks
marked_by event lines r marks = if is_done lines then marked event r marks else marks

-- the marks after an event that was done, or wasn't
abbrev pub marks_after : Event → Result (List Observation) WorldError → ℕ → Marks → Marks
marks_after event (Ok lines) r marks = marked_by event lines r marks
marks_after event (Err e) r marks = marks
