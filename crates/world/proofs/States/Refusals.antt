-- An event that the machine's state refuses.
use Rattle.std.proofs.Common.{◌≡◌, [], ◌∷◌, Some, refl}
use Rattle.events.specs.declared.event.Event.{Event}
use Rattle.order_machine.specs.Machine.{Machine}
use Rattle.order_machine.specs.Transitions.{refusal}
use Rattle.order_machine.specs.Legal.{IsWhole, moved}
use Rattle.order_machine.specs.AnswerLines.{line_of_answer}
use Rattle.events.specs.declared.answer.Answer.{Answer}

-- It has that one line, and changes nothing.
pub refused_serves : (m : Machine) (event : Event) (told : Answer) → refusal m event ≡ Some told → IsWhole m event (line_of_answer told ∷ []) × (moved m event (line_of_answer told ∷ []) ≡ m)
refused_serves m event told e = (rw e refl, rw e refl)
