use Rattle.std.proofs.Common.{ℕ, ◌≤◌, length, arith}
use Rattle.std.proofs.lemmas.Result.{IfOk-weaker}
use Rattle.rc_io.proofs.Pieces.{takes_behind}
use Rattle.rc_io.proofs.window.read_behind.Goals as goal

pub returns-clause-told : goal.returns-clause-told
returns-clause-told g c =
    let ys = c.read.new.buf in
    takes_behind c.read.result _ _ c.args.bytes.now ys c.args.end _ (omega arith) (IfOk-weaker c.read.result _ (λ (n : ℕ). n ≤ length ys) (λ n h. omega arith) c.read.ensures.within) c.read.ensures.taken c.read.ensures.left c.read.ensures.end
