-- Fields of bytes: numbers, big-endian and of fixed width, and bytes behind their length, which is such a number.
use Rattle.std.specs.Prelude.{◌≡◌, ℕ, ◌+◌, ◌<◌, ◌^◌, List, ◌++◌, length, take, drop, Option, Some, None, Result, Ok, Err, IfOk, nat_lt, slice_index, if◌then◌else◌}
use Rattle.std.specs.Option.{option_and_then, option_map}
use Rattle.std.specs.Borrow.{Bor}
use Rattle.std.specs.Int.{Width, byte_len, to_be_bytes, from_be_bytes}
use Rattle.rc_base.specs.declared.fields.Bad.{Bad}

-- where a reader stands: its place, counted from the first byte, and the bytes from there on
pub record Reader : Type 0 where
  pub place : ℕ
  pub rest : List ℕ

-- the spelling of bytes behind their length
abbrev pub with_length : Width → List ℕ → List ℕ
with_length w bytes = to_be_bytes w (length bytes) ++ bytes

-- what a reader always is: its place and its bytes are within the memory's size
pub record IsReader (r : Reader) : Type 0 where
  pub within : r.place + length r.rest < 2 ^ 63
  pub bytes : (i : ℕ) → slice_index r.rest i < 256

-- the first n bytes and those behind them, or none where they are too short
abbrev pub front_at : ℕ → List ℕ → Option (List ℕ × List ℕ)
front_at n bytes = if nat_lt (length bytes) n then None else Some (take n bytes, drop n bytes)

-- the number at the front and the bytes behind it
abbrev pub number_at : Width → List ℕ → Option (ℕ × List ℕ)
number_at w bytes = option_map (λ front. (from_be_bytes w front.0, front.1)) (front_at (byte_len w) bytes)

-- as many bytes as the length says, or none where it exceeds max or they are too short
abbrev pub part_at : ℕ → ℕ → List ℕ → Option (List ℕ × List ℕ)
part_at max len bytes = if nat_lt max len then None else front_at len bytes

-- the bytes behind their length at the front, and the bytes behind these
abbrev pub bytes_at : Width → ℕ → List ℕ → Option (List ℕ × List ℕ)
bytes_at w max bytes = option_and_then (λ len. part_at max len.0 len.1) (number_at w bytes)

-- a result with the bytes that it points to
abbrev pub seen : Result (Bor (List ℕ)) Bad → Result (List ℕ) Bad
seen (Ok bytes) = Ok bytes.now
seen (Err bad) = Err bad

-- The reader gives the field and stands behind it; or where there is none, it tells the place where the field begins, and stays.
abbrev pub Takes : {X : Type 0} → Result X Bad → Reader → Reader → Option (X × List ℕ) → Type 0
Takes (Ok x) old new field = (field ≡ Some (x, new.rest)) × (new.place + length new.rest ≡ old.place + length old.rest)
Takes (Err bad) old new field = (field ≡ None) × (bad.at ≡ old.place) × (new ≡ old)

-- What is read is spelled so, and what is spelled so is read, whatever follows it.
pub record Reads {X : Type 0} (spelling : X → List ℕ) (Fits : X → Type 0) (result : Result X Bad) (old new : Reader) : Type 0 where
  pub spelled : IfOk result (λ x. Fits x × (old.rest ≡ spelling x ++ new.rest))
  pub again : (x : X) (rest : List ℕ) → Fits x → old.rest ≡ spelling x ++ rest → (result ≡ Ok x) × (new.rest ≡ rest)
