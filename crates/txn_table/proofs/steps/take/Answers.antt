use Rattle.std.proofs.Common.{◌≡◌, sym, subst, [], ◌∷◌}
use Rattle.log_records.specs.declared.record.Record.{Record}
use Rattle.txn_table.specs.Tables.{with_records}
use Rattle.txn_table.proofs.Records.{barrier_changes_none}
use Rattle.txn_table.proofs.steps.take.Goals as goal

pub returns-in-Barrier-clause-ok : goal.returns-in-Barrier-clause-ok
returns-in-Barrier-clause-ok c =
    subst (λ (body : Record). c.args.txns.now.items ≡ with_records c.args.txns.now.items ((c.args.lsn, body) ∷ [])) (sym c.in-Barrier.is)
    (sym (barrier_changes_none c.args.lsn c.in-Barrier.stable c.args.txns.now.items))
