use Rattle.rc_io.proofs.Given.{gives_numbers, gives_answers}
use Rattle.rc_io.proofs.line_reader.LineReader.next.Goals as goal

pub returns-in-Ok-Line-clause-told : goal.returns-in-Ok-Line-clause-told
returns-in-Ok-Line-clause-told g c = λ rest is.
    let h = rw c.in-Ok-Line.field-0-is at c.in-Ok-Line.ensures.holds in
    let t = c.in-Ok-Line.ensures.told rest is in
    let i = rw c.in-Ok-Line.field-0-is at t.3 in
    (t.0, t.1, gives_answers c.args.self.now c.seek.new.self c.give.new.self rest t.0 c.in-Ok-Line.count c.give.result h t.2 i c.seek.ensures.given c.give.ensures)

pub returns-in-Ok-Line-clause-numbers : goal.returns-in-Ok-Line-clause-numbers
returns-in-Ok-Line-clause-numbers g c =
    let h = rw c.in-Ok-Line.field-0-is at c.in-Ok-Line.ensures.holds in
    gives_numbers c.args.self.now c.seek.new.self c.give.new.self c.in-Ok-Line.count c.give.result h c.seek.ensures.lines c.give.ensures
