use Rattle.std.proofs.Common.{ap, ◌∙◌, [], ◌∷◌, length, arith, set, sym}
use Rattle.std.proofs.lemmas.List.Edits.{map_over_more}
use Rattle.log_records.specs.declared.record.Record.TheVariants.{EpochStart}
use Rattle.txn_table.specs.declared.known.Known.{Known}
use Rattle.txn_table.specs.Tables.{followed}
use Rattle.txn_table.proofs.steps.end_all.Goals as goal

pub loop-known-preserved : goal.loop-known-preserved
loop-known-preserved c epoch =
    ap (λ (k : Known). set c.loop-known.known-items c.loop-known.known-index k) (c.end_with_epoch.ensures epoch ∙ ap (followed ((c.args.lsn, EpochStart epoch) ∷ [])) (sym c.known-item.is))
    ∙ map_over_more (followed ((c.args.lsn, EpochStart epoch) ∷ [])) c.args.txns.now.items c.loop-known.known-items c.loop-known.known-index c.known-item.result (omega (arith, ap length c.deref_mut-known-items.ensures.value)) (c.loop-known.invariant epoch) c.known-item.is
