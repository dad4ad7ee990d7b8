-- The lines of an input of bytes. An LF (10) ends a line, and a CR (13) right before an LF is no part of the line.
use Rattle.std.specs.Prelude.{◌==◌, ℕ, ◌-◌, List, [], ◌∷◌, length, take, slice_index, if◌then◌else◌}
use Rattle.std.specs.List.{onto_first}
use Rattle.std.specs.Str.Lines.{strip_carriage_return}

-- the input cut behind each LF: its lines as they stand there, of which the last may lack its LF
abbrev pub raw_lines : List ℕ → List (List ℕ)
raw_lines [] = []
raw_lines (byte ∷ bytes) = if byte == 10 then (byte ∷ []) ∷ raw_lines bytes else onto_first byte (raw_lines bytes)

-- a line without its LF, and without a CR before that. At an end with no LF a CR stays
unfoldable pub line_text : List ℕ → List ℕ
line_text raw = if slice_index raw (length raw - 1) == 10 then strip_carriage_return (take (length raw - 1) raw) else raw
