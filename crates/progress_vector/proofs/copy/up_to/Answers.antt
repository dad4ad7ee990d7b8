use Rattle.std.proofs.Common.{ap, sym, ◌∙◌, List, arith}
use Rattle.std.proofs.lemmas.Bool.{le-leb, lt-leb}
use Rattle.progress_vector.specs.Vectors.{Entry, last_at, origin}
use Rattle.progress_vector.proofs.Epochs.{last_at_push}
use Rattle.progress_vector.proofs.copy.up_to.Goals as goal

pub returns-then-entry-at-clause-last : goal.returns-then-entry-at-clause-last
returns-then-entry-at-clause-last c =
    let e = last_at_push origin c.in-Some.earlier.now c.in-Some.entry.now c.args.at in
    sym (rw (le-leb c.in-Some.entry.now.1.0 c.args.at c.if-entry-at.true) at e)
    ∙ ap (λ (es : List Entry). last_at origin es c.args.at) (sym c.in-Some.ensures.cases.0)
    ∙ c.loop-entry.invariant c.args.at (omega arith)

pub loop-entry-preserved : goal.loop-entry-preserved
loop-entry-preserved c lsn le =
    let e = last_at_push origin c.in-Some.earlier.now c.in-Some.entry.now lsn in
    sym (rw (lt-leb c.in-Some.entry.now.1.0 lsn (omega (arith, c.if-entry-at.false))) at e)
    ∙ ap (λ (es : List Entry). last_at origin es lsn) (sym c.in-Some.ensures.cases.0)
    ∙ c.loop-entry.invariant lsn le
