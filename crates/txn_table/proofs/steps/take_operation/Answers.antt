use Rattle.std.proofs.Common.{ap, ◌∙◌, List, [], ◌∷◌, ◌++◌, sym, subst, refl}
use Rattle.log_records.specs.declared.record.Record.TheVariants.{Operation}
use Rattle.coll_model.specs.declared.op.Op.{Op}
use Rattle.txn_table.specs.declared.known.Known.{Known}
use Rattle.txn_table.specs.Tables.{followed, Rise, IsLinkedAt}
use Rattle.txn_table.proofs.Places.{rise_map}
use Rattle.txn_table.proofs.Writes.{operation_written}
use Rattle.txn_table.proofs.steps.take_operation.Goals as goal

pub returns-clause-ok : goal.returns-clause-ok
returns-clause-ok c =
    let l = subst (λ (ks : List Known). IsLinkedAt ks c.args.txn c.args.prev c.in_ok-at.at) c.deref.ensures.value c.in_ok-at.ensures.ok in
    let r = c.index_mut-known.result.now in
    operation_written c.args.lsn c.args.prev c.args.txn c.args.op.now c.args.txns.now.items c.in_ok-at.at r c.push.new.self c.requires l c.index_mut-known.ensures.value
    (c.in_ok-push.ensures.ok ∙ ap (λ (op : Op). r.ops ++ (c.args.lsn, op) ∷ []) c.in_ok-op.ensures.cases)

pub returns-clause-rise : goal.returns-clause-rise
returns-clause-rise c = subst Rise (sym (returns-clause-ok c)) (rise_map (followed ((c.args.lsn, Operation c.args.txn c.args.prev c.args.op.now) ∷ [])) (λ k. refl) c.args.txns.now.items c.requires)
