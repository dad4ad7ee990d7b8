use Rattle.std.proofs.Common.{◌≡◌, max, drop}
use Rattle.txn_table.specs.Whole as spec
use Rattle.replica.proofs.mounting.stable_in.Given as goal

abbrev pub invariant-loop-body : goal.invariant-loop-body
invariant-loop-body l = max l.stable.0 (spec.stable_in (drop l.body-index l.records)) ≡ spec.stable_in l.records
