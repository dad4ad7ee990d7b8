use Rattle.std.proofs.Common.{◌≡◌, take}
use Rattle.txn_table.specs.Log.{known_in}
use Rattle.txn_table.specs.Whole as spec
use Rattle.replica.specs.Reading.{IsRead}
use Rattle.replica.proofs.mounting.read.Given as goal

abbrev pub invariant-loop-at : goal.invariant-loop-at
invariant-loop-at l = record {
  read : IsRead l.shown (take l.at l.records);
  stable : l.shown.stable.0 ≡ spec.stable_in l.records;
  txns : l.table.txns ≡ known_in (take l.at l.records);
  last : l.table.last.0 ≡ l.at;
}
