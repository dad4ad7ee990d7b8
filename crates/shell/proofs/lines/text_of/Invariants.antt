use Rattle.std.proofs.Common.{◌≡◌, ◌++◌, drop}
use Rattle.transcript_text.specs.Lines.{lines_text}
use Rattle.shell.proofs.lines.text_of.Given as goal

-- what is written and what is left are the lines of all
abbrev pub invariant-loop-line : goal.invariant-loop-line
invariant-loop-line l = l.out.items ++ lines_text l.number (drop l.line-index l.lines) ≡ lines_text l.number l.lines
