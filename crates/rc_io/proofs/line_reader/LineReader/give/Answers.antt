use Rattle.std.proofs.Common.{ap, arith}
use Rattle.rc_io.specs.Reader.{Reading}
use Rattle.rc_io.proofs.RawLines.{holds-within}
use Rattle.rc_io.proofs.line_reader.LineReader.give.Goals as goal

pub invariant_of-self : goal.invariant_of-self
invariant_of-self c =
    let now = c.args.self.now in
    let w = holds-within now.lines now.given now.ahead c.args.count c.requires in
    let lines = ap (λ (r : Reading). r.lines) c.self.view_is in
    let given = ap (λ (r : Reading). r.given) c.self.view_is in
    (omega (arith, w.few, lines), omega (arith, w.fits, given))
