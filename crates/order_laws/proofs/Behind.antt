-- What holds behind each whole event.
use Rattle.std.proofs.Common.{◌≡◌, List, [], ◌∷◌, Option, Some, None, MatchOption, cond, ap}
use Rattle.std.specs.Prelude.{is_some}
use Rattle.std.proofs.lemmas.Bool.{false≢true}
use Rattle.events.specs.declared.event.Event.{Event}
use Rattle.events.specs.declared.answer.Answer.{Answer}
use Rattle.order_machine.specs.declared.observation.Observation.{Observation}
use Rattle.order_machine.specs.AnswerLines.{line_of_answer}
use Rattle.order_machine.specs.Machine.{Machine, empty_machine}
use Rattle.order_machine.specs.Transitions.{HoldsBehind, refusal, opened}
use Rattle.order_machine.specs.Legal.{Filter, Step, behind, IsServed, IsWhole, moved, AreWhole, moved_all}
use Rattle.order_machine.proofs.Machines.{never_put, not_alone}

holds_at_start : HoldsBehind empty_machine
holds_at_start = record {
  not_shown = λ r t h. absurd (false≢true h);
  alone = λ r h. absurd (not_alone empty_machine r (ap (λ x. x.role) (never_put r)) h);
}

holds_moved : (m : Machine) (event : Event) (lines : List Observation) → HoldsBehind m → IsWhole m event lines → HoldsBehind (moved m event lines)
holds_moved m event lines before whole = by_refusal (refusal m event) whole
  where
    by_refusal : (o : Option Answer) → MatchOption o (IsServed (opened m event) lines) (λ r. lines ≡ line_of_answer r ∷ []) → HoldsBehind (cond (is_some o) m (behind (opened m event) lines).machine)
    by_refusal None h = h.holds
    by_refusal (Some r) h = before

holds_run : (filters : List Filter) (m : Machine) (steps : List Step) → HoldsBehind m → AreWhole filters m steps → HoldsBehind (moved_all m steps)
holds_run filters m [] before h = before
holds_run filters m (s ∷ steps) before h = holds_run filters (moved m s.event s.lines) steps (holds_moved m s.event s.lines before h.0) h.1

pub holds_world : (filters : List Filter) (steps : List Step) → AreWhole filters empty_machine steps → HoldsBehind (moved_all empty_machine steps)
holds_world filters steps h = holds_run filters empty_machine steps holds_at_start h
