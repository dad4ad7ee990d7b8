use Rattle.transcript_text.proofs.LineWords.{told_once}
use Rattle.transcript_text.proofs.laws.lines_read_once.Goals as goal

pub returns : goal.returns
returns c = told_once
