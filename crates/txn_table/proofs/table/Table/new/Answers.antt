use Rattle.std.proofs.Common.{sym, subst, rules, List, [], map, ap, ◌∙◌}
use Rattle.log_records.specs.declared.pending.PendingTxn.{PendingTxn}
use Rattle.txn_table.specs.Commits.{seen}
use Rattle.txn_table.specs.Tables.{State, StandsFor, Rise}
use Rattle.txn_table.proofs.Logs.{stands_new, rise_seen}
use Rattle.txn_table.proofs.table.Table.new.Goals as goal

pub invariant_of-result : goal.invariant_of-result
invariant_of-result c = subst Rise (sym (c.in_ok-from_pending.ensures ∙ ap (λ (ps : List PendingTxn). map (seen []) ps) c.as_slice.ensures)) (rise_seen c.args.pending.now c.requires.by_txn)

pub returns-clause-value : goal.returns-clause-value
returns-clause-value c = search rules

pub returns-clause-stands : goal.returns-clause-stands
returns-clause-stands c = subst (λ (t : State). StandsFor t c.args.pending.now []) (sym (returns-clause-value c)) (stands_new c.args.at c.args.pending.now c.requires.by_txn c.requires.below)
