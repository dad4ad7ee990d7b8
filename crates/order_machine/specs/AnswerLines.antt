-- The line of an answer.
use Rattle.std.specs.Prelude.{[]}
use Rattle.events.specs.declared.answer.Answer.{Answer}
use Rattle.events.specs.declared.answer.Answer.TheVariants as answers
use Rattle.order_machine.specs.declared.observation.Observation.{Observation}
use Rattle.order_machine.specs.declared.observation.Observation.TheVariants as says

-- each answer so far has one line, with the same words
abbrev pub line_of_answer : Answer → Observation
line_of_answer (answers.Txn t) = says.Txn t
line_of_answer answers.Done = says.Done
line_of_answer answers.True = says.True
line_of_answer answers.False = says.False
line_of_answer (answers.Value value) = says.Value value
line_of_answer answers.Missing = says.Missing
line_of_answer answers.Absent = says.Absent
line_of_answer answers.WrongKind = says.WrongKind
line_of_answer (answers.Ended t) = says.Ended t
line_of_answer (answers.Locked t) = says.Locked t
line_of_answer (answers.NotActive r) = says.NotActive r
line_of_answer (answers.Down r) = says.Down r
line_of_answer (answers.Refused part) = says.Refused part
line_of_answer (answers.Progress r e last) = says.Progress r e last
line_of_answer answers.IgnoredUp = says.IgnoredUp
line_of_answer (answers.IgnoredOldEpoch fence e) = says.IgnoredOldEpoch fence e
