use Rattle.std.proofs.Common.{◌-◌, ◌<◌, length, arith, sym}
use Rattle.txn_table.proofs.Writes.{last_is}
use Rattle.txn_table.proofs.known.last_position.Goals as goal

pub returns-in-Some : goal.returns-in-Some
returns-in-Some c =
    let some : 0 < length c.args.ops.now = c.in-Some.ensures.item.3.0 in
    last_is c.args.begin c.args.ops.now (length c.args.ops.now - 1) c.in-Some.logged.now (omega arith) (sym c.in-Some.ensures.value)
