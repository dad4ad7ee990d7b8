use Rattle.std.proofs.Common.{◌∷◌, [], sym, subst, refl}
use Rattle.rc_base.specs.declared.ids.Epoch.{Epoch}
use Rattle.log_records.specs.declared.record.Record.TheVariants.{EpochStart}
use Rattle.txn_table.specs.Tables.{followed, Rise}
use Rattle.txn_table.proofs.Places.{rise_map}
use Rattle.txn_table.proofs.steps.take_epoch.Goals as goal

pub returns-clause-rise : goal.returns-clause-rise
returns-clause-rise c =
    let epoch : Epoch = record { loss = 0; number = 0 } in
    subst Rise (sym (c.end_all.ensures epoch)) (rise_map (followed ((c.args.lsn, EpochStart epoch) ∷ [])) (λ k. refl) c.args.txns.now.items c.requires)
