use Rattle.std.proofs.Common.{◌∙◌, sym, ap, subst, ◌+◌, [], ◌∷◌, ◌++◌, length, sum_by, refl, inr, arith}
use Rattle.rc_io.specs.Lines.{raw_lines}
use Rattle.rc_io.specs.Limits.{limit_of}
use Rattle.rc_io.specs.Reader.{Reading}
use Rattle.order_machine.specs.Machine.{empty_machine}
use Rattle.shell.specs.Ran.{AtEnd, CutShort}
use Rattle.world.specs.Fleet.{images_of}
use Rattle.world.specs.Kept.{Kept}
use Rattle.shell.specs.Reached.{Reached}
use Rattle.shell.proofs.Disks.{keeps, fresh_stands, first_stands}
use Rattle.shell.proofs.Reach.{at_first, nothing_done, at_line, line_within, next_reached, ends_at_limit, ended_read, failed_read, lines_read, done_at, eight_four, zero_four, limit_status, stops}
use Rattle.shell.proofs.command.run_world.Goals as goal

pub returns-in_default-clause-ran : goal.returns-in_default-clause-ran
returns-in_default-clause-ran g c = λ input held l h. (input, l, nothing_done input held _ h)

pub returns-in_default-new-clause-ran : goal.returns-in_default-new-clause-ran
returns-in_default-new-clause-ran g c = λ input held l h. (input, l, nothing_done input held _ h)

pub loop-number-init : goal.loop-number-init
loop-number-init g c =
    let fleet = c.args.fleet.now.items in
    let stands = first_stands (images_of g.M.Disk.images fleet 0) c.in-Ok-new.world (fresh_stands g.M.Disk.images g.M.Disk.faults g.M.Disk.marks g.M.Disk.calls_left fleet c.requires.fresh) c.in-Ok-new.ensures in
    let reader = sym c.in-Ok.ensures in
    record {
      nine = c.requires.nine;
      stands = (empty_machine, stands);
      last = let e = ap (λ (w : Kept). w.last) c.in-Ok-new.ensures in omega (arith, e);
      source = omega arith;
      sink = omega arith;
      reached = λ input held l h.
          let R : Reading → Type 0 = λ r. Reached g.M.Disk.images g.M.Disk.faults g.M.Disk.marks input held r fleet fleet c.in-Ok-new.world (r.ahead ++ input) held in
          (input, held, l, h, subst R reader (at_first input held c.in-Ok-new.world stands));
    }

pub returns-in-Some-clause-ran : goal.returns-in-Some-clause-ran
returns-in-Some-clause-ran g c = λ input held l h.
    let at = c.loop-number.invariant.reached input held l h in
    let r = at.4 in
    let told = c.in-Line.ensures.told at.0 at.2 in
    let n = c.in-Line.ensures.numbers in
    let ended = c.in-Some.ensures.done input held at.1 r.before (raw_lines (c.next.new.self.ahead ++ told.0)) told.2.raw c.args.fleet.now.items
    (c.as_slice.ensures ∙ told.2.text_is)
    (n.0 ∙ ap (λ k. k + 1) (sym r.counted))
    (line_within input held _ _ at.1 _ _ c.loop-number.world _ r told.2)
    (at_line input held _ _ at.1 _ _ c.loop-number.world _ r told.2) at.3 in
    (told.0, told.1, ended_read input held c.next.new.self.ahead told.0 (r.before ++ told.2.raw ∷ []) _ c.in-Some.status _ (lines_read input held _ _ at.1 _ _ c.loop-number.world _ r told.2) refl c.in-Some.ensures.status.2 ended)

pub loop-number-preserved : goal.loop-number-preserved
loop-number-preserved g c =
    let n = c.in-Line.ensures.numbers in
    let was = c.loop-number.invariant in
    let done = c.in_default-do_line.ensures in
    record {
      nine = done.nine;
      stands = done.stands;
      last = let k = done.last in let e = n.1 in omega arith;
      source = let later = c.in-Line.ensures.cause.later in let before = was.source in omega arith;
      sink = let later = done.sink_fault.later in let before = was.sink in omega arith;
      reached = λ input held l h.
          let at = was.reached input held l h in
          let r = at.4 in
          let told = c.in-Line.ensures.told at.0 at.2 in
          let went = done.done input held at.1 r.before (raw_lines (c.next.new.self.ahead ++ told.0)) told.2.raw c.args.fleet.now.items
          (c.as_slice.ensures ∙ told.2.text_is)
          (n.0 ∙ ap (λ k. k + 1) (sym r.counted))
          (line_within input held _ _ at.1 _ _ c.loop-number.world _ r told.2)
          (at_line input held _ _ at.1 _ _ c.loop-number.world _ r told.2) at.3 in
          (told.0, went.0, told.1, went.1, next_reached input held _ _ at.1 went.0 _ _ c.loop-number.world c.do_line.new.world _ r told.2 (n.1 ∙ n.0) went.2);
    }

pub returns-in-End-clause-ran : goal.returns-in-End-clause-ran
returns-in-End-clause-ran g c = λ input held l h.
    let at = c.loop-number.invariant.reached input held l h in
    let r = at.4 in
    let told = c.in-End.ensures.told at.0 at.2 in
    let ended = stops input held at.1 (length r.before) r.before _ c.loop-number.world _ AtEnd 0 (omega arith) r.done (keeps input held at.1 r.before _ c.loop-number.world r.done _ 0) (ap raw_lines told.2.0, refl) refl refl at.3 in
    (told.0, told.1, ended_read input held c.next.new.self.ahead told.0 r.before _ 0 _ (r.done.cut ∙ ap (λ xs. r.before ++ raw_lines xs) (sym told.2.1.same)) refl (λ four. zero_four four) ended)

pub returns-in-Limit-clause-ran : goal.returns-in-Limit-clause-ran
returns-in-Limit-clause-ran g c = λ input held l h.
    let at = c.loop-number.invariant.reached input held l h in
    let r = at.4 in
    let told = c.in-Limit.ensures.told at.0 at.2 in
    let n = c.in-Limit.ensures.numbers in
    let ahead = c.loop-number.reader.ahead ++ at.0 in
    let ended = ends_at_limit input held at.1 (length r.before) r.before (raw_lines ahead) c.loop-number.world _ _ c.in-Limit.number c.ended.result c.in-Limit.which c.write_limit.result r.done
    (ap (λ k. limit_of k (sum_by length r.before) (raw_lines ahead)) r.counted ∙ ap (λ k. limit_of c.loop-number.reader.lines k (raw_lines ahead)) r.given ∙ told.2.0) (omega arith)
    (n.0 ∙ ap (λ k. k + 1) (sym r.counted)) at.3 c.write_limit.ensures.writes c.ended.ensures in
    (told.0, told.1, ended_read input held c.next.new.self.ahead told.0 r.before _ c.ended.result _ (r.done.cut ∙ ap (λ xs. r.before ++ raw_lines xs) (sym told.2.1.same)) refl (limit_status c.write_limit.result c.ended.result c.ended.ensures) ended)

pub returns-in-Failed-clause-ran : goal.returns-in-Failed-clause-ran
returns-in-Failed-clause-ran g c = λ input held l h.
    let at = c.loop-number.invariant.reached input held l h in
    let r = at.4 in
    let told = c.in-Failed.ensures.told at.0 at.2 in
    let done = done_at input held at.1 r.before (c.loop-number.reader.ahead ++ at.0) (c.next.new.self.ahead ++ told.0) c.loop-number.world r.done (sym told.2.1.same) in
    (told.0, told.1, failed_read input held at.1 c.next.new.self.ahead told.0 r.before c.loop-number.world _ done told.2.0 at.3)

pub returns-in-NoMemory-clause-ran : goal.returns-in-NoMemory-clause-ran
returns-in-NoMemory-clause-ran g c = λ input held l h.
    let at = c.loop-number.invariant.reached input held l h in
    let r = at.4 in
    let told = c.in-NoMemory.ensures.told at.0 at.2 in
    let ended = stops input held at.1 (length r.before) r.before _ c.loop-number.world _ CutShort 8 (omega arith) r.done (keeps input held at.1 r.before _ c.loop-number.world r.done _ 8) refl (inr refl) refl at.3 in
    (told.0, told.1, ended_read input held c.next.new.self.ahead told.0 r.before _ 8 _ (r.done.cut ∙ ap (λ xs. r.before ++ raw_lines xs) (sym told.2.same)) refl (λ four. eight_four four) ended)
