use Rattle.std.proofs.Common.{lit<, arith}
use Rattle.script_text.proofs.Numbers.{same_number}
use Rattle.script_text.proofs.operands.built_replica.Goals as goal

pub returns-else-number-eq0-clause-none : goal.returns-else-number-eq0-clause-none
returns-else-number-eq0-clause-none c = λ zero.
    let same = same_number c.args.word.now c.in_ok-r.r 0 c.in_ok-r.ensures.some.1 zero (omega (arith, c.in_ok-r.ensures.some.0)) (lit< tt) in
    c.if-number-eq0.false (omega arith)
