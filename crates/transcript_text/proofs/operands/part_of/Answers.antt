use Rattle.std.proofs.Common.{◌^◌, arith}
use Rattle.script_text.proofs.Numbers.{narrow_number}
use Rattle.transcript_text.proofs.operands.part_of.Goals as goal

pub returns-clause-none : goal.returns-clause-none
returns-clause-none c = narrow_number (2 ^ 8) c.args.word.now c.in_ok-n.n c.try_from.result c.ok.result (omega arith) c.in_ok-n.ensures.some.1 c.in_ok-n.ensures.some.0 c.try_from.ensures c.ok.ensures.value
