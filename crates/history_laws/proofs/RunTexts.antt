-- Texts over whole runs.
use Rattle.std.proofs.Common.{List, [], ◌∷◌, ◌++◌}
use Rattle.coll_model.specs.Effect.{State}
use Rattle.events.specs.declared.event.Event.{Event}
use Rattle.txn_table.specs.declared.committed.Committed.{Committed}
use Rattle.order_machine.specs.declared.observation.Observation.{Observation}
use Rattle.order_machine.specs.Machine.{Machine, empty_machine}
use Rattle.order_machine.specs.Legal.{Filter, Step, IsBegun, moved, IsLegal, moved_all}
use Rattle.order_laws.proofs.Runs.{moved_by, legal_next, run_keeps}
use Rattle.history_laws.specs.Texts.{IsText}
use Rattle.history_laws.specs.Laws.{RunsKeepTexts}
use Rattle.history_laws.specs.Invariant.Numbering.{Numbering}
use Rattle.history_laws.proofs.EventLines.{events_keep_texts}
use Rattle.history_laws.proofs.NumberingSteps.{empty_is_numbered}
use Rattle.history_laws.proofs.NumberingLines.{events_keep_numbering}

module _ (start : State) (commits : List Committed) where
  text_moved : (m : Machine) (event : Event) (lines : List Observation) → Numbering m × IsText m.txns start commits → IsBegun m event lines → Numbering (moved m event lines) × IsText (moved m event lines).txns start commits
  text_moved m event lines both begun = (
    events_keep_numbering m event lines both.0 begun,
    moved_by (λ now. IsText now.txns start commits) m event lines begun both.1 (λ none may. events_keep_texts m event lines both.0 may start commits both.1),
  )

  -- a text behind the first steps, from a machine whose names count on
  text_stays : (filters : List Filter) (m : Machine) (steps later : List Step) → Numbering m → IsLegal filters m (steps ++ later) → IsText (moved_all m steps).txns start commits → IsText (moved_all m (steps ++ later)).txns start commits
  text_stays filters m [] later n legal text = (run_keeps (λ now. Numbering now × IsText now.txns start commits) text_moved filters m later (n, text) legal).1
  text_stays filters m (s ∷ steps) later n legal text =
      let next = legal_next filters m s (steps ++ later) legal in
      text_stays filters (moved m s.event s.lines) steps later (events_keep_numbering m s.event s.lines n next.0) next.1 text

pub runs_keep_texts : RunsKeepTexts
runs_keep_texts filters steps later legal start commits text = text_stays start commits filters empty_machine steps later empty_is_numbered legal text
