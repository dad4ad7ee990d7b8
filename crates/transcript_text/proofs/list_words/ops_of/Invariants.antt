use Rattle.std.proofs.Common.{◌≡◌, All, take, map}
use Rattle.script_text.specs.Reading.{texts}
use Rattle.transcript_text.specs.Words.{op_text}
use Rattle.transcript_text.specs.Words.{IsSaidOp}
use Rattle.transcript_text.proofs.list_words.ops_of.Given as goal

-- the operations so far
abbrev pub invariant-loop-index : goal.invariant-loop-index
invariant-loop-index l = record { read : take l.index (texts l.words) ≡ map op_text l.ops; said : All IsSaidOp l.ops }
