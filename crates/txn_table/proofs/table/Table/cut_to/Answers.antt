use Rattle.std.proofs.Common.{sym, subst, rules}
use Rattle.txn_table.specs.Commits.{to}
use Rattle.txn_table.specs.Tables.{State, StandsFor}
use Rattle.txn_table.proofs.Logs.{stands_cut}
use Rattle.txn_table.proofs.table.Table.cut_to.Goals as goal

pub returns-clause-value : goal.returns-clause-value
returns-clause-value c = search rules

pub returns-clause-stands : goal.returns-clause-stands
returns-clause-stands c base records s = subst (λ (t : State). StandsFor t base (to c.args.lsn records)) (sym (returns-clause-value c)) (stands_cut c.args.self.now base records c.args.lsn c.requires s)
