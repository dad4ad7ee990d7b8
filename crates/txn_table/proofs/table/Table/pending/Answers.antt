use Rattle.std.proofs.Common.{ap, ◌∙◌, List}
use Rattle.std.proofs.lemmas.Result.{IfOk-weaker}
use Rattle.txn_table.specs.Tables.{State, cut}
use Rattle.txn_table.specs.Commits.{pending_in}
use Rattle.txn_table.specs.declared.known.Known.{Known}
use Rattle.txn_table.proofs.Logs.{pending_is}
use Rattle.txn_table.proofs.table.Table.pending.Goals as goal

pub returns-clause-stands : goal.returns-clause-stands
returns-clause-stands c base records s =
    IfOk-weaker c.pending_at.result _ _
    (λ p h. h
    ∙ ap (λ (ks : List Known). pending_in (cut c.args.lsn ks)) (c.deref.ensures.value ∙ ap (λ (t : State). t.txns) c.self.view_is)
    ∙ pending_is c.args.self.now base records c.args.lsn c.requires.from_floor s)
    c.pending_at.ensures
