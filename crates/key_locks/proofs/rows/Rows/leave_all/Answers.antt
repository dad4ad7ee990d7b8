use Rattle.key_locks.proofs.Flat.{left_more}
use Rattle.key_locks.proofs.rows.Rows.leave_all.Goals as goal

pub loop-name-preserved : goal.loop-name-preserved
loop-name-preserved c = record {
  rows = left_more c.args.self.now c.loop-name.self c.leave.new.self c.args.txn c.args.names.now c.loop-name.name-index c.name-item.result c.loop-name-test.true c.name-item.is c.loop-name.invariant.rows c.leave.ensures.row;
  unique = c.leave.ensures.unique;
}
