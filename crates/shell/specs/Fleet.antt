-- What a run does to the disks of its fleet.
use Rattle.std.specs.Prelude.{◌≡◌, ◌⊎◌, ℕ, ◌+◌, List, [], ◌∷◌, Option, None}
use Rattle.disk_model.specs.Disk.{Areas, Marks, Each}
use Rattle.events.specs.declared.event.Event.{Event}
use Rattle.order_machine.specs.Machine.{empty_machine}
use Rattle.order_machine.specs.Legal.{Step, moved_all}
use Rattle.world.specs.Disks.{DisksHold}
use Rattle.world.specs.Fleet.{images_of, faults_of, marks_of, faults_in, marked, marked_by, RoseBy}
use Rattle.shell.specs.Script.{BeginsWith, with_last}

-- ---- the fleet that a run is handed

-- every area is empty
abbrev pub no_bytes : Areas
no_bytes = λ area. []

abbrev pub no_marks : Marks
no_marks = record { arms = 0; stops = 0; last = 0 }

-- A disk that was never called: it is empty, unarmed, and has not failed.
pub record IsFresh {M : Type 0} (images : M → Areas → Type 0) (faults : M → ℕ) (marks : M → Marks) (calls_left : M → Option ℕ) (disk : M) : Type 0 where
  pub empty : Each (images disk) (λ c. c ≡ no_bytes)
  pub no_fault : faults disk ≡ 0
  pub unmarked : marks disk ≡ no_marks
  pub unarmed : calls_left disk ≡ None

-- ---- what the lines tell

-- how many lines of the run say that the replica's disk failed
abbrev pub faults_told : ℕ → List Step → ℕ
faults_told r [] = 0
faults_told r (s ∷ steps) = faults_in r s.lines + faults_told r steps

-- the marks of the replica's disk after the events: those that were answered `ok` count
abbrev pub marks_told : ℕ → List Step → Marks → Marks
marks_told r [] marks = marks
marks_told r (s ∷ steps) marks = marks_told r steps (marked_by s.event s.lines r marks)

-- ---- what a run promises of the fleet

-- the marks are those that the lines tell
abbrev pub AreTold : List Step → (ℕ → Marks) → (ℕ → Marks) → Type 0
AreTold steps before now = (r : ℕ) → now r ≡ marks_told r steps (before r)

-- where it is out of memory, the event of the next line may count without its line
pub record AreToldBut (steps : List Step) (left : List (List ℕ)) (status : ℕ) (before now : ℕ → Marks) : Type 0 where
  pub memory : status ≡ 8
  pub event : Event
  pub spelled : BeginsWith event left
  pub counts : (r : ℕ) → now r ≡ marked event r (marks_told r steps (before r))

-- However the run ends: the disks hold what was acknowledged; no more faults are told than came; and each disk was armed
-- and stopped as the lines tell. The lines of an event that was only begun are among them.
pub record Keeps {M : Type 0} (images : M → Areas → Type 0) (faults : M → ℕ) (marks : M → Marks) (before now : List M) (steps : List Step) (last : Option Step) (left : List (List ℕ)) (status : ℕ) : Type 0 where
  pub disks : DisksHold (moved_all empty_machine steps) (images_of images now)
  pub faulted : (r : ℕ) → RoseBy (faults_told r (with_last steps last)) (faults_of faults before r) (faults_of faults now r)
  pub armed : AreTold (with_last steps last) (marks_of marks before) (marks_of marks now) ⊎ AreToldBut steps left status (marks_of marks before) (marks_of marks now)
