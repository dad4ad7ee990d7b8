-- What a run of the command `world` does with an input, and what it writes.
use Rattle.std.specs.Prelude.{◌≡◌, ℕ, ◌+◌, List, [], ◌∷◌, ◌++◌, length, flat_map, sum_by, Option, Some, None, ◌⊎◌}
use Rattle.rc_base.specs.declared.limit_name.LimitName.{LimitName}
use Rattle.rc_io.specs.Lines.{raw_lines}
use Rattle.rc_io.specs.Limits.{before_end, limit_of}
use Rattle.events.specs.declared.event.Event.{Event}
use Rattle.order_machine.specs.Machine.{Machine, empty_machine}
use Rattle.order_machine.specs.Legal.{Step, AreWhole, IsBegun, moved_all}
use Rattle.transcript_text.specs.Lines.{transcript_of}
use Rattle.world.specs.Limits.{limit_reached, IsUnbuilt, IsServable}
use Rattle.shell.specs.Text.{bad_line_text, limit_line_text}
use Rattle.shell.specs.Script.{AreSteps, AreWithin, AreServable, BeginsBad, BeginsWith, with_last}

-- Why no more lines are done: none is left; the next one is bad; a limit of the lines is reached in it; its event reaches a
-- limit of the machine, or isn't built there; or the run is cut short, by a fault or where it is out of memory.
pub data Ending : Type 0 where
  AtEnd : Ending
  AtBadLine : Ending
  AtLimit : (which : LimitName) → Ending
  AtMachineLimit : (which : LimitName) → Ending
  AtUnbuilt : Ending
  CutShort : Ending

-- The event of the next line was begun, and not done: it has the number of that line, which spells it, and its lines are the
-- first of a whole event's at this machine. The line itself reaches no limit.
pub record IsLast (before left : List (List ℕ)) (m : Machine) (last : Step) : Type 0 where
  pub number : last.number ≡ length before + 1
  pub spelled : BeginsWith last.event left
  pub begun : IsBegun m last.event last.lines
  pub within : limit_of (length before) (sum_by length before) left ≡ None

-- The ending has its cause in the lines that are left, after these, and in the machine to which their events led. At a limit
-- of the machine the last event prints nothing.
abbrev pub Ends : Ending → List (List ℕ) → List (List ℕ) → Machine → Option Step → Type 0
Ends AtEnd before left m last = (left ≡ []) × (last ≡ None)
Ends AtBadLine before left m last = BeginsBad left × (limit_of (length before) (sum_by length before) left ≡ None) × (last ≡ None)
Ends (AtLimit which) before left m last = (limit_of (length before) (sum_by length before) left ≡ Some which) × (last ≡ None)
Ends (AtMachineLimit which) before left m last = (s : Step) × (last ≡ Some s) × IsLast before left m s × (limit_reached m s.event ≡ Some which) × (s.lines ≡ [])
Ends AtUnbuilt before left m last = (s : Step) × (last ≡ Some s) × IsLast before left m s × IsUnbuilt m s.event
Ends CutShort before left m last = last ≡ None

-- what is written after the lines of the events; the line has this number
abbrev pub closing : Ending → ℕ → List ℕ
closing AtEnd number = []
closing AtBadLine number = bad_line_text number
closing (AtLimit which) number = limit_line_text number which
closing (AtMachineLimit which) number = limit_line_text number which
closing AtUnbuilt number = bad_line_text number
closing CutShort number = []

-- The statuses of the endings: 4 is for a fault of the source, 8 where it is out of memory.
abbrev pub IsStatusOf : Ending → ℕ → Type 0
IsStatusOf AtEnd status = status ≡ 0
IsStatusOf AtBadLine status = status ≡ 3
IsStatusOf (AtLimit which) status = status ≡ 9
IsStatusOf (AtMachineLimit which) status = status ≡ 9
IsStatusOf AtUnbuilt status = status ≡ 3
IsStatusOf CutShort status = (status ≡ 4) ⊎ (status ≡ 8)

-- the first bytes of a text
abbrev pub Begins : List ℕ → List ℕ → Type 0
Begins part text = (more : List ℕ) × (part ++ more ≡ text)

-- Lines are done and printed one after the other: where the sink failed, it has all that the events before print; the last
-- event alone may be printed in part, or not at all.
abbrev pub ArePrinted : Ending → List Step → List ℕ → Type 0
ArePrinted CutShort steps written = (earlier : List Step) × (last : Step) × (steps ≡ earlier ++ last ∷ []) × Begins (transcript_of earlier) written
ArePrinted _ steps written = Begins (transcript_of steps) written

-- The sink failed: it has the first bytes of the text, with all that was to be printed before the last event, or before what
-- closes the run.
pub record IsPrintedInPart (ending : Ending) (steps : List Step) (status : ℕ) (written all : List ℕ) : Type 0 where
  pub failed : status ≡ 5
  pub part : Begins written all
  pub printed : ArePrinted ending steps written

-- What was read of the input: the lines that are done, and some of what is left. Where the source failed that is a part of
-- one line, without its LF.
abbrev pub IsRead : ℕ → List ℕ → List (List ℕ) → List ℕ → Type 0
IsRead status input before unread = (more : List ℕ) × ((flat_map (λ raw. raw) before ++ more) ++ unread ≡ input) × (status ≡ 4 → before_end more ≡ length more)

-- The first lines of the input are done: they reach no limit, and are skipped, or are events with all of their
-- lines, which are those of one run of the machine from its start. None of these reaches a limit of the machine. The ending
-- has its cause in what is left, of which one event may be begun. All of the text is written, or, with status 5, the first
-- bytes of it.
pub record Ran (input : List ℕ) (status : ℕ) (written : List ℕ) : Type 0 where
  pub before : List (List ℕ)
  pub left : List (List ℕ)
  pub steps : List Step
  pub last : Option Step
  pub ending : Ending
  pub lines : raw_lines input ≡ before ++ left
  pub within : AreWithin 0 0 before
  pub spelled : AreSteps 1 before steps
  pub whole : AreWhole [] empty_machine steps
  pub servable : AreServable empty_machine steps
  pub ended : Ends ending before left (moved_all empty_machine steps) last
  pub text : let all = transcript_of (with_last steps last) ++ closing ending (length before + 1) in
      (IsStatusOf ending status × (written ≡ all)) ⊎ IsPrintedInPart ending steps status written all

-- No line of the input reaches a limit or is bad, and no event of its lines reaches a limit of the machine or isn't built,
-- whatever the run that leads to it.
abbrev pub IsClean : List ℕ → Type 0
IsClean input =
    (before left : List (List ℕ)) → raw_lines input ≡ before ++ left → (limit_of (length before) (sum_by length before) left ≡ None)
    × ((steps : List Step) → AreSteps 1 before steps → AreWhole [] empty_machine steps →
    (BeginsBad left → ⊥) × ((event : Event) → BeginsWith event left → IsServable (moved_all empty_machine steps) event))
