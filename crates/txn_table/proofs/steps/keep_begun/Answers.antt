use Rattle.std.proofs.Common.{rules, leb}
use Rattle.std.proofs.lemmas.Fn.{filter_same}
use Rattle.txn_table.specs.declared.known.Known.{Known}
use Rattle.txn_table.proofs.steps.keep_begun.Goals as goal

pub returns : goal.returns
returns c = filter_same _ (λ (k : Known). leb k.begin.0 c.args.lsn.0) _ (λ e b f h. search rules) _ _ c.retain.ensures.filtered
