use Rattle.std.proofs.Common.{◌≤◌, sym, subst}
use Rattle.order_machine.specs.Order.{length_of}
use Rattle.order_machine.specs.Machine.{empty_machine, replica}
use Rattle.order_machine.specs.Legal.{moved_all}
use Rattle.order_laws.proofs.Kept.{order_is}
use Rattle.order_laws.proofs.Runs.{kept_world}
use Rattle.order_laws.proofs.beginnings_are_shown.Goals as goal

pub returns : goal.returns
returns c filters steps legal r =
    let m = moved_all empty_machine steps in
    let k = kept_world filters steps legal in
    record {
      loss = (k.replicas r).loss;
      within = subst (λ o. (replica m r).show ≤ length_of o) (sym (order_is m k r)) (k.replicas r).within;
    }
