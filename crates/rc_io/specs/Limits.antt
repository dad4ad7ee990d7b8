-- The limits that the lines of an input may reach.
use Rattle.std.specs.Prelude.{◌==◌, ℕ, ◌+◌, List, [], ◌∷◌, length, Option, Some, None, if◌then◌else◌, nat_le, ◌&&◌}
use Rattle.std.specs.List.{position_or_len}
use Rattle.rc_base.specs.declared.limit_name.LimitName.{LimitName}
use Rattle.rc_base.specs.declared.limit_name.LimitName.TheVariants.{Lines, Line, Bytes}

-- how many bytes of a line stand before its LF, a CR among them
abbrev pub before_end : List ℕ → ℕ
before_end raw = position_or_len (λ byte. byte == 10) raw

-- The limit that is reached in a line, if one is: `lines` lines of together `given` bytes stand before it, `before`
-- bytes of it before its LF, and it has `count` bytes with that.
-- `Lines` is reached at its first byte where that is the first of line 1,000,001, `Line` at its byte 4,097 where that
-- stands before its LF, `Bytes` at byte 16,777,217 of the input. The earliest byte decides, and where it reaches two,
-- this order.
unfoldable pub limit_at : ℕ → ℕ → ℕ → ℕ → Option LimitName
limit_at lines given before count =
    if nat_le 1000000 lines then Some Lines
    else (if nat_le 4097 before && nat_le (given + 4097) 16777217 then Some Line
    else (if nat_le 16777217 (given + count) then Some Bytes
    else None))

-- the limit that is reached in a line
abbrev pub limit_in : ℕ → ℕ → List ℕ → Option LimitName
limit_in lines given raw = limit_at lines given (before_end raw) (length raw)

-- the same of the first of the lines that are left, if there is one
abbrev pub limit_of : ℕ → ℕ → List (List ℕ) → Option LimitName
limit_of lines given [] = None
limit_of lines given (raw ∷ raws) = limit_in lines given raw
