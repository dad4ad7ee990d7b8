use Rattle.std.proofs.Common.{ap, ◌∙◌}
use Rattle.rc_base.specs.declared.ids.Epoch.{Epoch}
use Rattle.script_text.proofs.EventWords.{same_epoch}
use Rattle.script_text.proofs.operands.built_epoch.Goals as goal

pub returns-in_default-clause-none : goal.returns-in_default-clause-none
returns-in_default-clause-none c = λ e is text.
    let read = rw c.in-Some.is at c.in_ok-e.ensures.some in
    let same = same_epoch c.args.word.now c.in-Some.e e read.0 is.0 read.1 text in
    c.if-e-eq0.false (ap (λ (d : Epoch). d.loss) same ∙ is.1)
