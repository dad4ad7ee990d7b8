use Rattle.std.proofs.lemmas.List.Elements.{All-from_recursion}
use Rattle.order_machine.specs.Machine.{empty_machine}
use Rattle.order_machine.specs.Legal.{moved_all}
use Rattle.order_laws.specs.Laws.{IsAsked, entries_of}
use Rattle.order_laws.proofs.Kept.{asked_entries}
use Rattle.order_laws.proofs.Runs.{kept_world}
use Rattle.order_laws.proofs.asked_are_ordered.Goals as goal

pub returns : goal.returns
returns c filters steps legal loss =
    let m = moved_all empty_machine steps in
    All-from_recursion (IsAsked m) (entries_of m loss) (asked_entries m (kept_world filters steps legal) loss)
