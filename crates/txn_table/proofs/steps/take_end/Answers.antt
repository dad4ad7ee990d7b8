use Rattle.std.proofs.Common.{ap, ◌∙◌, List, [], ◌∷◌, sym, subst, refl}
use Rattle.log_records.specs.declared.record.Record.TheVariants.{End}
use Rattle.txn_table.specs.declared.known.Known.{Known}
use Rattle.txn_table.specs.Commits.{commit_of}
use Rattle.txn_table.specs.Tables.{followed, Rise, IsLinkedAt}
use Rattle.txn_table.proofs.Places.{rise_map}
use Rattle.txn_table.proofs.Writes.{linked_ops, end_written}
use Rattle.txn_table.proofs.steps.take_end.Goals as goal

pub returns-clause-commit : goal.returns-clause-commit
returns-clause-commit c =
    let l = subst (λ (ks : List Known). IsLinkedAt ks c.args.txn c.args.prev c.in_ok-at.at) c.deref.ensures.value c.in_ok-at.ensures.ok in
    c.in_ok-commit.ensures ∙ ap (commit_of c.args.committed c.args.txn) (sym (linked_ops c.args.txns.now.items c.args.txn c.args.prev c.in_ok-at.at c.index.result.now c.requires l c.index.ensures))

pub returns-clause-ok : goal.returns-clause-ok
returns-clause-ok c =
    let l = subst (λ (ks : List Known). IsLinkedAt ks c.args.txn c.args.prev c.in_ok-at.at) c.deref.ensures.value c.in_ok-at.ensures.ok in
    end_written c.args.lsn c.args.prev c.args.txn c.args.committed c.args.txns.now.items c.in_ok-at.at c.index_mut-known.result.now c.requires l c.index_mut-known.ensures.value

pub returns-clause-rise : goal.returns-clause-rise
returns-clause-rise c = subst Rise (sym (returns-clause-ok c)) (rise_map (followed ((c.args.lsn, End c.args.txn c.args.prev c.args.committed) ∷ [])) (λ k. refl) c.args.txns.now.items c.requires)
