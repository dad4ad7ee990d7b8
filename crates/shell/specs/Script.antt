-- The events of a script's lines.
use Rattle.std.specs.Prelude.{◌≡◌, ℕ, ◌+◌, List, [], ◌∷◌, ◌++◌, Option, Some, None, length, ◌⊎◌}
use Rattle.rc_io.specs.Lines.{line_text}
use Rattle.rc_io.specs.Limits.{limit_in}
use Rattle.events.specs.declared.event.Event.{Event}
use Rattle.script_text.specs.Sentence.{Spells, IsSkipped, IsBad}
use Rattle.order_machine.specs.Machine.{Machine}
use Rattle.order_machine.specs.Legal.{Step, moved}
use Rattle.world.specs.Limits.{IsServable}

-- The steps are the events of these lines, the first of which has this number: each line is skipped, or it spells the
-- event of a step with its number.
abbrev pub AreSteps : ℕ → List (List ℕ) → List Step → Type 0
AreSteps number [] [] = Unit {0}
AreSteps number [] (s ∷ steps) = ⊥
AreSteps number (raw ∷ raws) [] = IsSkipped (line_text raw) × AreSteps (number + 1) raws []
AreSteps number (raw ∷ raws) (s ∷ steps) =
    (IsSkipped (line_text raw) × AreSteps (number + 1) raws (s ∷ steps))
    ⊎ ((s.number ≡ number) × Spells (line_text raw) s.event × AreSteps (number + 1) raws steps)

-- No limit is reached in these lines, before which stand so many lines of so many bytes.
abbrev pub AreWithin : ℕ → ℕ → List (List ℕ) → Type 0
AreWithin lines given [] = Unit {0}
AreWithin lines given (raw ∷ raws) = (limit_in lines given raw ≡ None) × AreWithin (lines + 1) (given + length raw) raws

-- each of these events, done one after the other from this machine on, reaches no limit of the machine and is built
abbrev pub AreServable : Machine → List Step → Type 0
AreServable m [] = Unit {0}
AreServable m (s ∷ steps) = IsServable m s.event × AreServable (moved m s.event s.lines) steps

-- the first of these lines is bad
abbrev pub BeginsBad : List (List ℕ) → Type 0
BeginsBad [] = ⊥
BeginsBad (raw ∷ raws) = IsBad (line_text raw)

-- the first of them spells the event
abbrev pub BeginsWith : Event → List (List ℕ) → Type 0
BeginsWith event [] = ⊥
BeginsWith event (raw ∷ raws) = Spells (line_text raw) event

-- the events that were done, and one that was only begun behind them
abbrev pub with_last : List Step → Option Step → List Step
with_last steps None = steps
with_last steps (Some last) = steps ++ last ∷ []
