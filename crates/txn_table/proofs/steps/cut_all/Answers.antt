use Rattle.std.proofs.Common.{ap, ◌∙◌, List, map, leb, sym, subst, refl}
use Rattle.txn_table.specs.declared.known.Known.{Known}
use Rattle.txn_table.specs.Tables.{trimmed, Rise}
use Rattle.txn_table.proofs.Places.{rise_map, rise_filter}
use Rattle.txn_table.proofs.steps.cut_all.Goals as goal

pub returns-clause-cut : goal.returns-clause-cut
returns-clause-cut c = c.trim_all.ensures ∙ ap (λ (ks : List Known). map (trimmed c.args.lsn) ks) c.keep_begun.ensures

pub returns-clause-rise : goal.returns-clause-rise
returns-clause-rise c = subst Rise (sym (returns-clause-cut c)) (rise_map (trimmed c.args.lsn) (λ k. refl) _ (rise_filter (λ (k : Known). leb k.begin.0 c.args.lsn.0) c.args.txns.now.items c.requires))
