use Rattle.order_laws.proofs.Exclusive.{exclude_world}
use Rattle.order_laws.proofs.locks_exclude.Goals as goal

pub returns : goal.returns
returns c filters steps legal = exclude_world steps
