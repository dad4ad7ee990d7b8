-- A log over an area, as its callers see it.
use Rattle.std.specs.Prelude.{◌≡◌, ◌≢◌, ℕ, ◌+◌, Bool, List, [], ◌∷◌, length, Option}
use Rattle.std.specs.Option.{option_map}
use Rattle.disk_model.specs.Disk.{Areas, Each}
use Rattle.gated_log.specs.Blocks.{IsAtRest}
use Rattle.gated_log.specs.declared.block.Block.{Block}

-- its area, the place of the closed gate behind its last block, and whether a call on it has failed
pub record Log : Type 0 where
  pub area : ℕ
  pub end : ℕ
  pub closed : Bool

-- each image of the disk is at rest in the log's area, and ends where the log knows
abbrev pub IsSettled : (Areas → Type 0) → Log → Type 0
IsSettled images log = Each images (λ c. IsAtRest (c log.area) log.end)

-- what reads of the other areas give stays
abbrev pub StaysElsewhere : ℕ → Option Areas → Option Areas → Type 0
StaysElsewhere area old new = (b : ℕ) → b ≢ area → option_map (λ s. s b) new ≡ option_map (λ s. s b) old

-- the blocks of these payloads with their places, the first of which is told
abbrev pub placed_from : ℕ → List (List ℕ) → List Block
placed_from place [] = []
placed_from place (payload ∷ payloads) = (record { place = place; payload = payload }) ∷ placed_from (place + 5 + length payload) payloads
