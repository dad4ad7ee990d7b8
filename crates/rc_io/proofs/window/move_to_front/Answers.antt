use Rattle.std.proofs.Common.{◌-◌, take, ap, ◌∙◌}
use Rattle.rc_io.proofs.Pieces.{take-copied}
use Rattle.rc_io.proofs.window.move_to_front.Goals as goal

pub returns : goal.returns
returns c = ap (take (c.args.end - c.args.at)) c.copy_within.ensures.after ∙ take-copied c.args.bytes.now c.args.at c.args.end c.requires.order c.requires.within
