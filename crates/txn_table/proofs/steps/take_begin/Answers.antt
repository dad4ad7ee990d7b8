use Rattle.std.proofs.Common.{◌≡◌, ap, ◌∙◌, List, sym, subst, arith, None}
use Rattle.rc_base.specs.declared.ids.Lsn.{Lsn}
use Rattle.coll_model.specs.declared.op.Op.{Op}
use Rattle.txn_table.specs.declared.known.Known.{Known}
use Rattle.txn_table.specs.Commits.{with_txn}
use Rattle.txn_table.specs.Tables.{Rise, place}
use Rattle.txn_table.proofs.Places.{place_within}
use Rattle.txn_table.proofs.Writes.{begin_written, rise_begun}
use Rattle.txn_table.proofs.steps.take_begin.Goals as goal

pub insert-requires : goal.insert-requires
insert-requires c = omega (arith, c.place_of-at.ensures, place_within c.args.txn c.deref.result.now, c.deref.ensures.len)

pub returns-clause-ok : goal.returns-clause-ok
returns-clause-ok c =
    let here : c.place_of-at.result ≡ place c.args.txn c.args.txns.now.items = c.place_of-at.ensures ∙ ap (place c.args.txn) c.deref.ensures.value in
    let none : with_txn c.args.txn c.args.txns.now.items ≡ None = ap (with_txn c.args.txn) (sym c.deref-2.ensures.value) ∙ c.in_default.ensures.none in
    c.in_ok-insert.ensures.items
    ∙ begin_written c.args.lsn c.args.txn c.args.txns.now.items c.place_of-at.result _
    (ap (λ (os : List (Lsn × Op)). let k : Known = record { txn = c.args.txn; begin = c.args.lsn; ops = os; ending = None } in k) c.new.ensures)
    here none

pub returns-clause-rise : goal.returns-clause-rise
returns-clause-rise c =
    let none : with_txn c.args.txn c.args.txns.now.items ≡ None = ap (with_txn c.args.txn) (sym c.deref-2.ensures.value) ∙ c.in_default.ensures.none in
    subst Rise (sym (returns-clause-ok c)) (rise_begun c.args.lsn c.args.txn c.args.txns.now.items c.requires none)
