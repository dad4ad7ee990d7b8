-- The physical records that a block's payload spells.
use Rattle.std.specs.Prelude.{ℕ, zero, suc, ◌-◌, List, [], ◌∷◌, length, Option, Some, None, Result, Ok, Err}
use Rattle.std.specs.Option.{option_map}
use Rattle.rc_base.specs.Fields.{Reader}
use Rattle.log_records.specs.declared.record.Physical.{Physical}
use Rattle.log_records.specs.declared.record.Physical.TheVariants.{Logical, Fence, TruncateTail, CheckpointDone, Reset, Head}
use Rattle.log_records.specs.Reading.{start, read_physical}

-- The record that was read, and those of the rest: they begin behind as many of the n bytes as the record took of them.
abbrev pub with_rest : ℕ → (ℕ → Option (List Physical)) → Result (Physical × Reader) ℕ → Option (List Physical)
with_rest n rest (Ok front) = option_map (λ items. front.0 ∷ items) (rest (n - length front.1.rest))
with_rest n rest (Err at) = None

-- the records from k bytes on, None where the bytes there aren't spellings, one after another to the end
abbrev pub records_behind : ℕ → List ℕ → Option (List Physical)
records_behind zero [] = Some []
records_behind (suc k) [] = None
records_behind (suc k) (byte ∷ bytes) = records_behind k bytes
records_behind zero (byte ∷ bytes) = with_rest (length bytes) (λ k. records_behind k bytes) (read_physical (start (byte ∷ bytes)))

-- The records of a payload. It has at least one byte, so these are at least one.
abbrev pub records_of : List ℕ → Option (List Physical)
records_of payload = records_behind 0 payload

-- the generation that a Head names, 0 of any other record
abbrev pub generation_named : Physical → ℕ
generation_named (Logical lsn epoch body) = 0
generation_named (Fence epoch) = 0
generation_named (TruncateTail lsn) = 0
generation_named (CheckpointDone slot at len) = 0
generation_named (Reset slot at len) = 0
generation_named (Head generation partition) = generation

-- that of the record that was read, 0 where there was none
abbrev pub generation_read : Result (Physical × Reader) ℕ → ℕ
generation_read (Ok front) = generation_named front.0
generation_read (Err at) = 0

-- that of the Head with which a payload begins, 0 where it begins with none
abbrev pub generation_of : List ℕ → ℕ
generation_of payload = generation_read (read_physical (start payload))
