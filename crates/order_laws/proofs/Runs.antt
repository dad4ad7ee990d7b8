-- Each event and each legal run keeps what machines keep.
use Rattle.std.proofs.Common.{◌≡◌, cond, List, [], ◌∷◌, ◌++◌, append-nil, Option, Some, None, MatchOption, refl, sym, subst}
use Rattle.std.specs.Prelude.{is_some}
use Rattle.events.specs.declared.event.Event.{Event}
use Rattle.events.specs.declared.answer.Answer.{Answer}
use Rattle.order_machine.specs.declared.observation.Observation.{Observation}
use Rattle.order_machine.specs.AnswerLines.{line_of_answer}
use Rattle.order_machine.specs.Machine.{Machine, empty_machine}
use Rattle.order_machine.specs.Transitions.{Position, refusal, opened, after}
use Rattle.order_machine.specs.Legal.{Filter, Step, Lines, behind, IsServed, IsWhole, IsBegun, moved, AreWhole, IsLegal, moved_all}
use Rattle.order_laws.proofs.Kept.{Kept, kept_empty}
use Rattle.order_laws.proofs.Steps.{KeptAt, kept_line}
use Rattle.order_laws.proofs.Opened.{kept_opened}

-- ---- whole events and begun ones

-- the first lines of an event, each of which may come where it stands
pub Lines_front : (p : Position) (lines more : List Observation) → Lines p (lines ++ more) → Lines p lines
Lines_front p [] more h = tt
Lines_front p (o ∷ lines) more h = (h.0, Lines_front (after p o) lines more h.1)

pub begun_from_whole : (m : Machine) (event : Event) (lines : List Observation) → IsWhole m event lines → IsBegun m event lines
begun_from_whole m event lines h = ([], subst (IsWhole m event) (sym (append-nil lines)) h)

pub legal_from_whole : (filters : List Filter) (m : Machine) (steps : List Step) → AreWhole filters m steps → IsLegal filters m steps
legal_from_whole filters m [] h = tt
legal_from_whole filters m (s ∷ []) h = begun_from_whole m s.event s.lines h.0
legal_from_whole filters m (s ∷ t ∷ steps) h = (h.0, legal_from_whole filters (moved m s.event s.lines) (t ∷ steps) h.1)

-- what a refused event leaves, and what the lines of another do
pub moved_by : (P : Machine → Type 0) (m : Machine) (event : Event) (lines : List Observation) → IsBegun m event lines → P m → (refusal m event ≡ None → Lines (opened m event) lines → P (behind (opened m event) lines).machine) → P (moved m event lines)
moved_by P m event lines begun refused served = by_refusal (refusal m event) refl begun.1
  where
    by_refusal : (o : Option Answer) → refusal m event ≡ o → MatchOption o (IsServed (opened m event) (lines ++ begun.0)) (λ r. lines ++ begun.0 ≡ line_of_answer r ∷ []) → P (cond (is_some o) m (behind (opened m event) lines).machine)
    by_refusal None e h = served e (Lines_front (opened m event) lines begun.0 h.may)
    by_refusal (Some r) e h = refused

-- ---- runs

-- the first event of a legal run is begun at least, and the others are legal behind it
pub legal_next : (filters : List Filter) (m : Machine) (s : Step) (steps : List Step) → IsLegal filters m (s ∷ steps) → IsBegun m s.event s.lines × IsLegal filters (moved m s.event s.lines) steps
legal_next filters m s [] h = (h, tt)
legal_next filters m s (t ∷ steps) h = (begun_from_whole m s.event s.lines h.0, h.1)

-- what each event keeps, each legal run keeps
pub run_keeps : (P : Machine → Type 0) → ((m : Machine) (event : Event) (lines : List Observation) → P m → IsBegun m event lines → P (moved m event lines)) → (filters : List Filter) (m : Machine) (steps : List Step) → P m → IsLegal filters m steps → P (moved_all m steps)
run_keeps P keep filters m [] k h = k
run_keeps P keep filters m (s ∷ steps) k h = let next = legal_next filters m s steps h in run_keeps P keep filters (moved m s.event s.lines) steps (keep m s.event s.lines k next.0) next.1

-- ---- what is kept

kept_lines : (p : Position) (lines : List Observation) → KeptAt p → Lines p lines → KeptAt (behind p lines)
kept_lines p [] k h = k
kept_lines p (o ∷ lines) k h = kept_lines (after p o) lines (kept_line p o k h.0) h.1

kept_moved : (m : Machine) (event : Event) (lines : List Observation) → Kept m → IsBegun m event lines → Kept (moved m event lines)
kept_moved m event lines k h = moved_by Kept m event lines h k (λ none may. (kept_lines (opened m event) lines (kept_opened m k event none) may).machine)

pub kept_world : (filters : List Filter) (steps : List Step) → IsLegal filters empty_machine steps → Kept (moved_all empty_machine steps)
kept_world filters steps h = run_keeps Kept kept_moved filters empty_machine steps kept_empty h
