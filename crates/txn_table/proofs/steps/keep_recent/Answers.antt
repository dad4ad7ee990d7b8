use Rattle.std.proofs.Common.{rules, sym, subst}
use Rattle.std.proofs.lemmas.Fn.{filter_same}
use Rattle.txn_table.specs.declared.known.Known.{Known}
use Rattle.txn_table.specs.Tables.{ends_above, Rise}
use Rattle.txn_table.proofs.Places.{rise_filter}
use Rattle.txn_table.proofs.steps.keep_recent.Goals as goal

pub returns-clause-recent : goal.returns-clause-recent
returns-clause-recent c = filter_same _ (λ (k : Known). ends_above c.args.lsn k.ending) _ (λ e b f h. search rules) _ _ c.retain.ensures.filtered

pub returns-clause-rise : goal.returns-clause-rise
returns-clause-rise c = subst Rise (sym (returns-clause-recent c)) (rise_filter (λ (k : Known). ends_above c.args.lsn k.ending) c.args.txns.now.items c.requires)
