use Rattle.std.proofs.Common.{arith}
use Rattle.std.proofs.lemmas.Bool.Decides.{nat_tests}
use Rattle.rc_io.specs.Limits.{limit_at}
use Rattle.rc_io.proofs.look.limit_at.Goals as goal
use Rattle.rc_io.proofs.look.limit_at.Goals.{else-before-gt-LINE-via-then-before-gt-LINE+else-given-le-BYTES, else-before-gt-LINE-via-else-before-gt-LINE}

pub returns-then-lines-eq-LINES : goal.returns-then-lines-eq-LINES
unfolding limit_at
returns-then-lines-eq-LINES c = grind (arith, nat_tests)

pub returns-then-given-le-BYTES : goal.returns-then-given-le-BYTES
unfolding limit_at
returns-then-given-le-BYTES c = grind (arith, nat_tests)

pub returns-then-count-given : goal.returns-then-count-given
unfolding limit_at
returns-then-count-given c = elim c.else-before-gt-LINE.branch [ else-before-gt-LINE-via-then-before-gt-LINE+else-given-le-BYTES w ↦ grind (arith, nat_tests) | else-before-gt-LINE-via-else-before-gt-LINE w ↦ grind (arith, nat_tests) ]

pub returns-else-count-given : goal.returns-else-count-given
unfolding limit_at
returns-else-count-given c = elim c.else-before-gt-LINE.branch [ else-before-gt-LINE-via-then-before-gt-LINE+else-given-le-BYTES w ↦ grind (arith, nat_tests) | else-before-gt-LINE-via-else-before-gt-LINE w ↦ grind (arith, nat_tests) ]
