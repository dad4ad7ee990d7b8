use Rattle.std.proofs.Common.{◌≡◌, ◌≤◌, ◌-◌, ◌++◌, ℕ, List, Some, length}
use Rattle.rc_io.specs.Limits.{before_end}
use Rattle.rc_io.proofs.line_reader.LineReader.seek.Given as goal

-- nothing that the source gave is lost
abbrev pub invariant-reading : goal.invariant-reading
invariant-reading g l = record {
  told : (rest : List ℕ) → g.S.Source.left l.fn.source ≡ Some rest → (rest' : List ℕ) × (g.S.Source.left l.source ≡ Some rest') × (l.self.ahead ++ rest' ≡ l.fn.self.ahead ++ rest);
  seen : l.seen ≤ before_end l.self.ahead;
  lines : l.self.lines ≡ l.fn.self.lines;
  given : l.self.given ≡ l.fn.self.given;
  later : g.S.Source.faults l.fn.source ≤ g.S.Source.faults l.source;
}

abbrev pub decreases-reading : goal.decreases-reading
decreases-reading g l = 4097 - length l.self.ahead
