use Rattle.history_laws.proofs.EventLines as lines
use Rattle.history_laws.proofs.events_keep_texts.Goals as goal

pub returns : goal.returns
returns c = lines.events_keep_texts
