-- The blocks of a log area: a gate byte, the length of the payload as a big-endian number of 4 bytes, and the payload,
-- behind which stands the next block's gate.
use Rattle.std.specs.Prelude.{◌≡◌, ◌≢◌, ◌⊎◌, ℕ, zero, suc, ◌+◌, ◌<◌, ◌≤◌, Bool, ◌&&◌, List, [], ◌∷◌, ◌++◌, length, take, drop, nat_le, nat_lt, if◌then◌else◌, ◌==◌}
use Rattle.std.specs.Int.{w32, to_be_bytes, from_be_bytes}

-- the length that stands behind a gate
unfoldable pub length_at : List ℕ → ℕ
length_at bytes = from_be_bytes w32 bytes

-- behind a gate: the length is in its range, and the payload and the next gate lie there
unfoldable pub is_whole : List ℕ → Bool
is_whole bytes = nat_le 1 (length_at bytes) && nat_le (length_at bytes) 1048576 && nat_lt (4 + length_at bytes) (length bytes)

-- The payloads of the open blocks from the gate behind k bytes on. The list ends at the first block that isn't open.
abbrev pub blocks_behind : ℕ → List ℕ → List (List ℕ)
blocks_behind k [] = []
blocks_behind (suc k) (byte ∷ bytes) = blocks_behind k bytes
blocks_behind zero (gate ∷ bytes) = if (gate == 1) && is_whole bytes then take (length_at bytes) (drop 4 bytes) ∷ blocks_behind (4 + length_at bytes) bytes else []

-- the payloads of the open blocks of an area
abbrev pub open_blocks : List ℕ → List (List ℕ)
open_blocks bytes = blocks_behind 0 bytes

-- the first block is open and has a payload of this length
pub record OpensWith (bytes : List ℕ) (count : ℕ) : Type 0 where
  pub within : 5 + count < length bytes
  pub first : open_blocks bytes ≡ take count (drop 5 bytes) ∷ open_blocks (drop (5 + count) bytes)
  pub size : length (take count (drop 5 bytes)) ≡ count

-- what a block can hold: 1 to 1,048,576 bytes
pub record IsPayload (payload : List ℕ) : Type 0 where
  pub some : 1 ≤ length payload
  pub fits : length payload ≤ 1048576

-- each of them is one
abbrev pub AllPayloads : List (List ℕ) → Type 0
AllPayloads [] = Unit {0}
AllPayloads (payload ∷ payloads) = IsPayload payload × AllPayloads payloads

-- an open block
abbrev pub block : List ℕ → List ℕ
block payload = 1 ∷ to_be_bytes w32 (length payload) ++ payload

-- what stands behind the gate of the last block, with the closed gate behind it
abbrev pub behind_gate : List ℕ → List ℕ
behind_gate payload = to_be_bytes w32 (length payload) ++ payload ++ 0 ∷ []

abbrev pub spelling : List (List ℕ) → List ℕ
spelling [] = []
spelling (payload ∷ payloads) = block payload ++ spelling payloads

-- An area that is exactly its open blocks and a closed gate, which stands at this place.
pub record IsAtRest (bytes : List ℕ) (end : ℕ) : Type 0 where
  pub gate : ℕ
  pub shut : gate ≢ 1
  pub whole : bytes ≡ spelling (open_blocks bytes) ++ gate ∷ []
  pub payloads : AllPayloads (open_blocks bytes)
  pub end_is : end ≡ length (spelling (open_blocks bytes))

-- the open blocks stay
abbrev pub Keeps : List ℕ → List ℕ → Type 0
Keeps old new = open_blocks new ≡ open_blocks old

-- they gain one more at their end
abbrev pub Gains : List ℕ → List ℕ → List ℕ → Type 0
Gains payload old new = open_blocks new ≡ open_blocks old ++ payload ∷ []

abbrev pub KeepsOrGains : List ℕ → List ℕ → List ℕ → Type 0
KeepsOrGains payload old new = Keeps old new ⊎ Gains payload old new

-- a prefix of them is left, or none
abbrev pub KeepsPrefix : List ℕ → List ℕ → Type 0
KeepsPrefix old new = (n : ℕ) × (open_blocks new ≡ take n (open_blocks old))

-- there are exactly these
abbrev pub HasThese : List (List ℕ) → List ℕ → List ℕ → Type 0
HasThese payloads old new = open_blocks new ≡ payloads

abbrev pub HasNoneOrThese : List (List ℕ) → List ℕ → List ℕ → Type 0
HasNoneOrThese payloads old new = (open_blocks new ≡ []) ⊎ (open_blocks new ≡ payloads)
