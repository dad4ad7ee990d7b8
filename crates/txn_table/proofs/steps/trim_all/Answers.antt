use Rattle.std.proofs.Common.{ap, ◌∙◌, length, arith, set, sym}
use Rattle.std.proofs.lemmas.List.Edits.{map_over_more}
use Rattle.txn_table.specs.declared.known.Known.{Known}
use Rattle.txn_table.specs.Tables.{trimmed}
use Rattle.txn_table.proofs.steps.trim_all.Goals as goal

pub loop-known-preserved : goal.loop-known-preserved
loop-known-preserved c =
    ap (λ (k : Known). set c.loop-known.known-items c.loop-known.known-index k) (c.trim_to.ensures ∙ ap (trimmed c.args.lsn) (sym c.known-item.is))
    ∙ map_over_more (trimmed c.args.lsn) c.args.txns.now.items c.loop-known.known-items c.loop-known.known-index c.known-item.result (omega (arith, ap length c.deref_mut-known-items.ensures.value)) c.loop-known.invariant c.known-item.is
