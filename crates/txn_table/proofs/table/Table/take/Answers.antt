use Rattle.std.proofs.Common.{sym, subst, rules, [], ◌∷◌, ◌++◌, ◌∙◌, ap, List, Option}
use Rattle.txn_table.specs.declared.committed.Committed.{Committed}
use Rattle.txn_table.specs.declared.known.Known.{Known}
use Rattle.txn_table.specs.Commits.{commits, commit_in, one_or_none}
use Rattle.txn_table.specs.Tables.{State, StandsFor}
use Rattle.txn_table.proofs.Logs.{stands_taken, commits_push}
use Rattle.txn_table.proofs.table.Table.take.Goals as goal

pub returns-clause-value : goal.returns-clause-value
returns-clause-value c = search rules

pub returns-clause-stands : goal.returns-clause-stands
returns-clause-stands c base records s = subst (λ (t : State). StandsFor t base (records ++ (c.args.lsn, c.args.body.now) ∷ [])) (sym (returns-clause-value c)) (stands_taken c.args.self.now base records c.args.lsn c.args.body.now c.requires s)

pub returns-clause-commit : goal.returns-clause-commit
returns-clause-commit c = search rules

pub returns-clause-commits : goal.returns-clause-commits
returns-clause-commits c base records s =
    commits_push base records (c.args.lsn, c.args.body.now)
    ∙ ap (λ (o : Option Committed). commits base records ++ one_or_none o)
    (sym (returns-clause-commit c ∙ ap (λ (ks : List Known). commit_in ks c.args.body.now) s.txns))
