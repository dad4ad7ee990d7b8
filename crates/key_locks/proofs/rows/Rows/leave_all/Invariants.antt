use Rattle.std.proofs.Common.{take}
use Rattle.std.specs.List.{IsDistinct}
use Rattle.std.specs.Map.{keys_of}
use Rattle.key_locks.specs.Names.{is_name}
use Rattle.key_locks.specs.Table.{RowsLeft}
use Rattle.key_locks.proofs.rows.Rows.leave_all.Given as goal

abbrev pub invariant-loop-name : goal.invariant-loop-name
invariant-loop-name l = record {
  rows : RowsLeft l.fn.self l.self l.txn (take l.name-index l.names);
  unique : IsDistinct is_name (keys_of l.self);
}
