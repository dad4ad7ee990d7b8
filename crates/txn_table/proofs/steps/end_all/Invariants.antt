use Rattle.std.proofs.Common.{◌≡◌, ◌++◌, [], ◌∷◌, map, take, drop}
use Rattle.rc_base.specs.declared.ids.Epoch.{Epoch}
use Rattle.log_records.specs.declared.record.Record.TheVariants.{EpochStart}
use Rattle.txn_table.specs.Tables.{followed}
use Rattle.txn_table.proofs.steps.end_all.Given as goal

abbrev pub invariant-loop-known : goal.invariant-loop-known
invariant-loop-known l = (epoch : Epoch) → l.known-items ≡ map (followed ((l.lsn, EpochStart epoch) ∷ [])) (take l.known-index l.fn.txns.items) ++ drop l.known-index l.fn.txns.items
