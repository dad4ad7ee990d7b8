-- How far a run has come between two lines of its input.
use Rattle.std.specs.Prelude.{◌≡◌, ℕ, ◌≤◌, List, [], ◌++◌, length, take, sum_by, Option, Some, None, Result, Ok, Err}
use Rattle.std.specs.Io.KnownBytes.{append_known}
use Rattle.disk_model.specs.Disk.{Areas, Marks}
use Rattle.rc_io.specs.Lines.{raw_lines}
use Rattle.rc_io.specs.Reader.{Reading}
use Rattle.order_machine.specs.Machine.{empty_machine}
use Rattle.order_machine.specs.Legal.{Step, AreWhole, moved_all}
use Rattle.transcript_text.specs.Lines.{transcript_of}
use Rattle.world.specs.Fleet.{images_of, faults_of, marks_of, RoseBy}
use Rattle.world.specs.Kept.{Kept}
use Rattle.world.specs.World.{StandsFor}
use Rattle.shell.specs.Fleet.{faults_told, AreTold, Keeps}
use Rattle.shell.specs.Script.{AreSteps, AreWithin, AreServable}
use Rattle.shell.specs.Ran.{Ran, IsRead}
use Rattle.shell.specs.declared.lines.WriteError.{WriteError}
use Rattle.shell.specs.declared.lines.WriteError.TheVariants.{Failed, NoMemory}

-- These lines of the input are done and the others are left. The world and the fleet are where their events lead, and
-- the sink has all that they print after what it held.
pub record Done {M : Type 0} (images : M → Areas → Type 0) (faults : M → ℕ) (marks : M → Marks) (input held : List ℕ) (before left : List (List ℕ)) (first fleet : List M) (world : Kept) (holds : List ℕ) : Type 0 where
  pub steps : List Step
  pub cut : raw_lines input ≡ before ++ left
  pub within : AreWithin 0 0 before
  pub spelled : AreSteps 1 before steps
  pub whole : AreWhole [] empty_machine steps
  pub servable : AreServable empty_machine steps
  pub stands : StandsFor world (images_of images fleet 0) (moved_all empty_machine steps)
  pub faulted : (r : ℕ) → RoseBy (faults_told r steps) (faults_of faults first r) (faults_of faults fleet r)
  pub armed : AreTold steps (marks_of marks first) (marks_of marks fleet)
  pub text : holds ≡ held ++ transcript_of steps

-- the lines that the reader gave are done, and those of the bytes that are ahead are left
pub record Reached {M : Type 0} (images : M → Areas → Type 0) (faults : M → ℕ) (marks : M → Marks) (input held : List ℕ) (reader : Reading) (first fleet : List M) (world : Kept) (ahead holds : List ℕ) : Type 0 where
  pub before : List (List ℕ)
  pub counted : length before ≡ reader.lines
  pub given : sum_by length before ≡ reader.given
  pub done : Done images faults marks input held before (raw_lines ahead) first fleet world holds

-- The run ended with this status, with what it wrote after what the sink held, and with the fleet as it promises. At most
-- so many lines are done.
abbrev pub HasEnded : {M : Type 0} → (M → Areas → Type 0) → (M → ℕ) → (M → Marks) → List ℕ → List ℕ → ℕ → List M → List M → ℕ → Option (List ℕ) → Type 0
HasEnded images faults marks input held most first fleet status holds =
    (written : List ℕ) × (holds ≡ Some (held ++ written)) × (ran : Ran input status written) × Keeps images faults marks first fleet ran.steps ran.last ran.left status × (length ran.before ≤ most)

-- The same of a whole run, and the source has this left.
abbrev pub RunEnded : {M : Type 0} → (M → Areas → Type 0) → (M → ℕ) → (M → Marks) → List ℕ → List ℕ → List ℕ → List M → List M → ℕ → Option (List ℕ) → Type 0
RunEnded images faults marks input held unread first fleet status holds =
    (written : List ℕ) × (holds ≡ Some (held ++ written)) × (ran : Ran input status written) × Keeps images faults marks first fleet ran.steps ran.last ran.left status × IsRead status input ran.before unread

-- all of the text is written, or only a part from its front, or nothing where it is out of memory
abbrev pub Writes : {T : Type 0} → List ℕ → Option (List ℕ) → Option (List ℕ) → Result T WriteError → Type 0
Writes text old new (Ok done) = new ≡ append_known old text
Writes text old new (Err Failed) = (n : ℕ) × (new ≡ append_known old (take n text))
Writes text old new (Err NoMemory) = new ≡ old

-- after a line: it is done too, or the run has ended
abbrev pub GoesOn : {M : Type 0} → (M → Areas → Type 0) → (M → ℕ) → (M → Marks) → List ℕ → List ℕ → List (List ℕ) → List (List ℕ) → List M → List M → Kept → Option (List ℕ) → Option ℕ → Type 0
GoesOn images faults marks input held before left first fleet world holds None = (now : List ℕ) × (holds ≡ Some now) × Done images faults marks input held before left first fleet world now
GoesOn images faults marks input held before left first fleet world holds (Some status) = HasEnded images faults marks input held (length before) first fleet status holds

-- the status of a run whose last line was to be written
abbrev pub status_of : {T : Type 0} → Result T WriteError → ℕ → ℕ
status_of (Ok done) status = status
status_of (Err Failed) status = 5
status_of (Err NoMemory) status = 8
