use Rattle.std.proofs.Common.{◌≡◌, ◌+◌, ◌<◌, min, length, arith, rules}
use Rattle.rc_io.proofs.RawLines.{found_limit, found_line, found_open, before_end-le}
use Rattle.rc_io.proofs.look.look.Goals as goal
use Rattle.rc_io.proofs.look.look.Goals.{then-is_whole, else-is_whole}

pub returns-in-Some : goal.returns-in-Some
returns-in-Some c =
    let xs = c.args.ahead.now in
    let z : 0 < length xs = search rules in
    let k : c.if-is_whole.count ≡ min (c.find_end-end.result + 1) (length xs) = elim c.if-is_whole.branch [ then-is_whole w ↦ omega arith | else-is_whole w ↦ omega (arith, before_end-le xs) ] in
    found_limit c.args.lines c.args.given _ _ xs c.in-Some.which z c.find_end-end.ensures k c.in-Some.ensures

pub returns-in-None : goal.returns-in-None
returns-in-None c =
    let xs = c.args.ahead.now in
    let k : c.if-is_whole.count ≡ min (c.find_end-end.result + 1) (length xs) = elim c.if-is_whole.branch [ then-is_whole w ↦ omega arith | else-is_whole w ↦ omega (arith, before_end-le xs) ] in
    found_line c.args.lines c.args.given _ _ xs c.if-is_whole-2.true c.find_end-end.ensures k c.in-None.ensures

pub returns-in-None-2 : goal.returns-in-None-2
returns-in-None-2 c =
    let xs = c.args.ahead.now in
    let z : 0 < length xs = search rules in
    let k : c.if-is_whole.count ≡ min (c.find_end-end.result + 1) (length xs) = elim c.if-is_whole.branch [ then-is_whole w ↦ omega arith | else-is_whole w ↦ omega (arith, before_end-le xs) ] in
    found_open c.args.lines c.args.given _ _ xs z c.if-is_whole-2.false c.find_end-end.ensures k c.in-None.ensures
