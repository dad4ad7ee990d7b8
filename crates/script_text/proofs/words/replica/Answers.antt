use Rattle.std.proofs.Common.{arith}
use Rattle.std.proofs.lemmas.Grind.{common_steps}
use Rattle.script_text.proofs.Numbers.{same_number, narrowed, replica_of_number}
use Rattle.script_text.proofs.words.replica.Goals as goal

pub returns-in_err-ok-clause-none : goal.returns-in_err-ok-clause-none
returns-in_err-ok-clause-none c = grind (arith, common_steps, same_number c.args.word.now c.in_ok-n.n)

pub returns-clause-none : goal.returns-clause-none
returns-clause-none c =
    let same = narrowed _ c.in_ok-n.n c.in_ok-ok.field-0 c.try_from.result c.try_from.ensures c.in_ok-ok.ensures.value in
    replica_of_number c.args.word.now c.in_ok-n.n c.new.result c.in_ok-n.ensures.some.1 c.in_ok-n.ensures.some.0 (λ fits. c.new.ensures.valid.1 (omega arith))
