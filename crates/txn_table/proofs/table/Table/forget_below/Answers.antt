use Rattle.std.proofs.Common.{sym, subst, rules}
use Rattle.txn_table.specs.Commits.{to, behind, pending}
use Rattle.txn_table.specs.Tables.{State, StandsFor}
use Rattle.txn_table.proofs.Logs.{stands_recent}
use Rattle.txn_table.proofs.table.Table.forget_below.Goals as goal

pub returns-clause-value : goal.returns-clause-value
returns-clause-value c = search rules

pub returns-clause-stands : goal.returns-clause-stands
returns-clause-stands c base records s lt = subst (λ (t : State). StandsFor t (pending base (to c.args.lsn records)) (behind c.args.lsn records)) (sym (returns-clause-value c lt)) (stands_recent c.args.self.now base records c.args.lsn lt s)
