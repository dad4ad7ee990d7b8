use Rattle.std.proofs.Common.{ap, ◌∙◌}
use Rattle.rc_base.specs.declared.ids.TxnId.{TxnId}
use Rattle.script_text.proofs.EventWords.{same_txn}
use Rattle.script_text.proofs.operands.built_txn.Goals as goal

pub returns-in_default-clause-none : goal.returns-in_default-clause-none
returns-in_default-clause-none c = λ t is text.
    let read = rw c.in-Some.is at c.in_ok-t.ensures.some in
    let same = same_txn c.args.word.now c.in-Some.t t read.0 is.0 read.1 text in
    c.if-t-eq0.false (ap (λ (u : TxnId). u.epoch.loss) same ∙ is.1)
