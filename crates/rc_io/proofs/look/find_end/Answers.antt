use Rattle.std.proofs.Common.{◌==◌, ◌∙◌, ◌≤◌, length, position, ap, arith, rules}
use Rattle.std.proofs.lemmas.List.{take_rest}
use Rattle.rc_io.proofs.RawLines.{before_end-le, before_end-from_place, before_end-from_none}
use Rattle.rc_io.proofs.look.find_end.Goals as goal

pub slice_bounds-place_of_end-count : goal.slice_bounds-place_of_end-count
slice_bounds-place_of_end-count c = omega (arith, c.requires, before_end-le c.args.bytes.now)

pub slice_bounds-place_of_end-start : goal.slice_bounds-place_of_end-start
slice_bounds-place_of_end-start c = let h : c.args.seen ≤ length c.args.bytes.now = omega (arith, c.requires, before_end-le c.args.bytes.now) in search rules

pub returns-in-Some : goal.returns-in-Some
returns-in-Some c = let xs = c.args.bytes.now in before_end-from_place c.args.seen c.in-Some.place xs c.requires (c.in-Some.ensures ∙ ap (position (λ byte. byte == 10)) (take_rest xs c.args.seen))

pub returns-in-None : goal.returns-in-None
returns-in-None c = let xs = c.args.bytes.now in before_end-from_none c.args.seen xs c.requires (c.in-None.ensures ∙ ap (position (λ byte. byte == 10)) (take_rest xs c.args.seen))
