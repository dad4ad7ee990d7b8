use Rattle.fleet_laws.proofs.Numbering.{codes_keep_order}
use Rattle.fleet_laws.proofs.codes_keep_order.Goals as goal

pub returns : goal.returns
returns c = codes_keep_order
