use Rattle.std.proofs.Common.{◌∙◌, ap}
use Rattle.order_machine.specs.Order.{holds}
use Rattle.order_machine.specs.Machine.{empty_machine}
use Rattle.order_machine.specs.Legal.{moved_all}
use Rattle.order_laws.proofs.Kept.{first_entries, once_entries}
use Rattle.order_laws.proofs.Runs.{kept_world}
use Rattle.order_laws.proofs.acknowledged_are_ordered.Goals as goal

pub returns-clause-held : goal.returns-clause-held
returns-clause-held c filters steps legal t acknowledged =
    let m = moved_all empty_machine steps in
    let k = kept_world filters steps legal in
    ap (λ es. holds es t) (first_entries m k) ∙ k.held t acknowledged

pub returns-clause-once : goal.returns-clause-once
returns-clause-once c filters steps legal loss =
    once_entries (moved_all empty_machine steps) (kept_world filters steps legal) loss
