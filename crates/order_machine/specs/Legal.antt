-- Legal transcripts: the lines are those of the events, from a start, nothing else held.
use Rattle.std.specs.Prelude.{◌≡◌, ℕ, List, [], ◌∷◌, ◌++◌, MatchOption, is_some, if◌then◌else◌}
use Rattle.events.specs.declared.event.Event.{Event}
use Rattle.order_machine.specs.declared.observation.Observation.{Observation}
use Rattle.order_machine.specs.AnswerLines.{line_of_answer}
use Rattle.order_machine.specs.Machine.{Machine}
use Rattle.order_machine.specs.Transitions.{Position, refusal, opened, May, after, IsComplete, HoldsBehind}

-- ---- one event

-- each line may come where it stands
abbrev pub Lines : Position → List Observation → Type 0
Lines p [] = Unit {0}
Lines p (o ∷ os) = May p o × Lines (after p o) os

abbrev pub behind : Position → List Observation → Position
behind p [] = p
behind p (o ∷ os) = behind (after p o) os

pub record IsServed (p : Position) (lines : List Observation) : Type 0 where
  pub may : Lines p lines
  pub complete : IsComplete (behind p lines)
  pub holds : HoldsBehind (behind p lines).machine

-- these are all lines of the event: the one line that refuses it, or those of its rows
abbrev pub IsWhole : Machine → Event → List Observation → Type 0
IsWhole m event lines = MatchOption (refusal m event) (IsServed (opened m event) lines) (λ refused. lines ≡ line_of_answer refused ∷ [])

-- some more lines follow with which the event is whole
abbrev pub IsBegun : Machine → Event → List Observation → Type 0
IsBegun m event lines = (more : List Observation) × IsWhole m event (lines ++ more)

-- the machine behind the event; a refused one changes nothing
abbrev pub moved : Machine → Event → List Observation → Machine
moved m event lines = if is_some (refusal m event) then m else (behind (opened m event) lines).machine

-- ---- a run

-- an event, the number of its line in the script, and its lines of the transcript
pub record Step : Type 0 where
  pub number : ℕ
  pub event : Event
  pub lines : List Observation

-- what a notice is for: a dictionary, and the keys from low on and below high; none is built yet
pub record Filter : Type 0 where
  pub name : List ℕ
  pub low : List ℕ
  pub high : List ℕ

-- each event is whole
abbrev pub AreWhole : List Filter → Machine → List Step → Type 0
AreWhole filters m [] = Unit {0}
AreWhole filters m (s ∷ steps) = IsWhole m s.event s.lines × AreWhole filters (moved m s.event s.lines) steps

-- each event is whole, but that the last may only be begun
abbrev pub IsLegal : List Filter → Machine → List Step → Type 0
IsLegal filters m [] = Unit {0}
IsLegal filters m (s ∷ []) = IsBegun m s.event s.lines
IsLegal filters m (s ∷ t ∷ steps) = IsWhole m s.event s.lines × IsLegal filters (moved m s.event s.lines) (t ∷ steps)

-- the machine behind the steps
abbrev pub moved_all : Machine → List Step → Machine
moved_all m [] = m
moved_all m (s ∷ steps) = moved_all (moved m s.event s.lines) steps
