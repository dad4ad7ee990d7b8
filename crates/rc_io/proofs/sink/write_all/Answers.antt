use Rattle.std.proofs.Common.{arith, ◌-◌, length, drop, length-take, length-drop}
use Rattle.std.proofs.lemmas.List.{take_rest}
use Rattle.rc_io.proofs.Pieces.{append_known_more}
use Rattle.rc_io.proofs.sink.write_all.Goals as goal

pub loop-at-preserved : goal.loop-at-preserved
loop-at-preserved g c = let bytes = c.args.bytes.now in record {
  within = omega (arith, c.in_ok-at.ensures.within, length-take (length bytes - c.loop-at.at) (drop c.loop-at.at bytes), length-drop c.loop-at.at bytes);
  written = append_known_more _ _ _ bytes _ c.loop-at.at c.in_ok-at.field-0 c.loop-at.invariant.written (take_rest bytes c.loop-at.at) c.in_ok-at.ensures.added;
  later = omega (arith, c.loop-at.invariant.later, c.write.ensures.cause.later);
}
