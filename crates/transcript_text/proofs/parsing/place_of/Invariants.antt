use Rattle.std.proofs.Common.{◌≡◌, ◌+◌, drop}
use Rattle.script_text.specs.Reading.{texts}
use Rattle.transcript_text.specs.ReadBack.{place_after}
use Rattle.transcript_text.proofs.parsing.place_of.Given as goal

-- the place so far, and the words that are left, are all
abbrev pub invariant-loop-word : goal.invariant-loop-word
invariant-loop-word l = l.place + place_after (texts (drop l.word-index l.front)) ≡ place_after (texts l.front)
