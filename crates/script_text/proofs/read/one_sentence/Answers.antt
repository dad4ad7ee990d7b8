use Rattle.script_text.proofs.EventWords.{same_from_line}
use Rattle.script_text.proofs.read.one_sentence.Goals as goal

pub returns-clause-one : goal.returns-clause-one
returns-clause-one c = same_from_line
