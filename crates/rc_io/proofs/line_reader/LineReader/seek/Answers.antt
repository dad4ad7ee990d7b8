use Rattle.std.proofs.Common.{◌≡◌, ◌∙◌, [], drop, ap, arith}
use Rattle.rc_io.proofs.Pieces.{takes_same, same_from_front}
use Rattle.rc_io.proofs.Ends.{before_end-grown, ends_holds, ends_is, is_same}
use Rattle.rc_io.proofs.line_reader.LineReader.seek.Goals as goal

pub returns-in-Some-clause-told : goal.returns-in-Some-clause-told
returns-in-Some-clause-told g c = λ rest is.
    let t = c.reading.invariant.told rest is in
    (t.0, t.1, t.2, is_same _ _ _ _ c.reading.self.ahead t.0 c.in-Some.ready c.reading.invariant.lines c.reading.invariant.given (c.in-Some.ensures.is t.0))

pub returns-then-count-eq0-clause-told : goal.returns-then-count-eq0-clause-told
returns-then-count-eq0-clause-told g c = λ rest is.
    let t = c.reading.invariant.told rest is in
    let xs = c.reading.self.ahead in
    let ys = c.fill.new.self.ahead in
    let u = c.in_ok-count.ensures.told t.0 t.1 in
    let none : drop c.in_ok-count.count t.0 ≡ [] = ap (λ n. drop n t.0) c.if-count-eq0.true ∙ u.end c.if-count-eq0.true in
    let same : ys ≡ xs = same_from_front xs ys c.in_ok-count.count c.fill.ensures.front c.in_ok-count.ensures.grows c.if-count-eq0.true in
    (drop c.in_ok-count.count t.0, u.left, takes_same _ t.0 _ xs ys u ∙ t.2, ends_is _ _ _ _ c.held-seen.result xs ys _ c.at_end.result c.in_default.ensures c.reading.invariant.lines c.reading.invariant.given c.held-seen.ensures same c.at_end.ensures none)

pub returns-then-count-eq0-clause-holds : goal.returns-then-count-eq0-clause-holds
returns-then-count-eq0-clause-holds g c =
    let xs = c.reading.self.ahead in
    let ys = c.fill.new.self.ahead in
    let same : ys ≡ xs = same_from_front xs ys c.in_ok-count.count c.fill.ensures.front c.in_ok-count.ensures.grows c.if-count-eq0.true in
    ends_holds _ _ _ _ c.held-seen.result xs ys c.at_end.result c.in_default.ensures c.reading.invariant.lines c.reading.invariant.given c.held-seen.ensures same c.at_end.ensures

pub reading-preserved : goal.reading-preserved
reading-preserved g c = record {
  told = λ rest is.
      let t = c.reading.invariant.told rest is in
      let u = c.in_ok-count.ensures.told t.0 t.1 in
      (drop c.in_ok-count.count t.0, u.left, takes_same _ t.0 _ _ _ u ∙ t.2);
  seen = omega (arith, c.held-seen.ensures, before_end-grown _ _ c.reading.self.ahead c.fill.new.self.ahead c.in_default.ensures c.fill.ensures.front);
  lines = c.fill.ensures.lines ∙ c.reading.invariant.lines;
  given = c.fill.ensures.given ∙ c.reading.invariant.given;
  later = omega (arith, c.reading.invariant.later, c.fill.ensures.cause.later);
}
