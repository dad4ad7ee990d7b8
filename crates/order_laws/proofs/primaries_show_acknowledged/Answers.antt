use Rattle.std.proofs.Common.{◌∙◌}
use Rattle.order_machine.specs.Machine.{empty_machine}
use Rattle.order_machine.specs.Legal.{moved_all}
use Rattle.order_laws.proofs.Kept.{shown_is}
use Rattle.order_laws.proofs.Runs.{kept_world}
use Rattle.order_laws.proofs.primaries_show_acknowledged.Goals as goal

pub returns : goal.returns
returns c filters steps legal r role is active t acknowledged epoch =
    let m = moved_all empty_machine steps in
    let k = kept_world filters steps legal in
    shown_is m k r t ∙ ((k.replicas r).role role is).shows active t acknowledged epoch
