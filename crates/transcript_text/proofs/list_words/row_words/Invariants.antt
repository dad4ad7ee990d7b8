use Rattle.std.proofs.Common.{◌≡◌, All, take}
use Rattle.script_text.specs.Reading.{texts}
use Rattle.transcript_text.specs.Words.{IsRowWord}
use Rattle.transcript_text.proofs.list_words.row_words.Given as goal

-- the words so far
abbrev pub invariant-loop-index : goal.invariant-loop-index
invariant-loop-index l = record { read : take l.index (texts l.words) ≡ l.row; rows : All IsRowWord l.row }
