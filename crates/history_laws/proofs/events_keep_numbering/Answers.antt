use Rattle.history_laws.proofs.NumberingLines as steps
use Rattle.history_laws.proofs.events_keep_numbering.Goals as goal

pub returns-clause-lines : goal.returns-clause-lines
returns-clause-lines c = steps.lines_keep_numbering

pub returns-clause-event : goal.returns-clause-event
returns-clause-event c = steps.events_keep_numbering
