-- What a disk holds, told from the bytes of its areas.
use Rattle.std.specs.Prelude.{◌≡◌, ◌⊎◌, ℕ, ◌≤◌, Bool, true, false, nat_lt, List, [], ◌∷◌, Result, Ok, if◌then◌else◌}
use Rattle.disk_model.specs.Disk.{Areas, Each}
use Rattle.gated_log.specs.declared.block.Block.{Block}
use Rattle.gated_log.specs.Blocks.{open_blocks}
use Rattle.gated_log.specs.Log.{placed_from}
use Rattle.log_store.specs.declared.kept.Kept.{Kept}
use Rattle.log_store.specs.Fold.{Place, held_by}
use Rattle.log_store.specs.Payload.{generation_of}

-- the open blocks of an area with their places
abbrev pub blocks_in : List ℕ → List Block
blocks_in bytes = placed_from 0 (open_blocks bytes)

-- an area whose first block doesn't begin with a head has generation 0
abbrev pub generation : List Block → ℕ
generation [] = 0
generation (block ∷ blocks) = generation_of block.payload

-- The second log area is taken: it has an open first block, and a greater generation than the first, or the first has none.
abbrev pub second_holds : List Block → List Block → Bool
second_holds zero [] = false
second_holds [] (block ∷ blocks) = true
second_holds (first ∷ firsts) (block ∷ blocks) = nat_lt (generation (first ∷ firsts)) (generation (block ∷ blocks))

-- What the log areas with these blocks hold. Where no first block is open this is no log.
abbrev pub durable_of : List Block → List Block → Result Kept Place
durable_of zero one = if second_holds zero one then held_by 1 one else held_by 0 zero

-- what a disk holds
abbrev pub durable : Areas → Result Kept Place
durable areas = durable_of (blocks_in (areas 0)) (blocks_in (areas 1))

-- the number of the log area that is taken
abbrev pub holder : Areas → ℕ
holder areas = if second_holds (blocks_in (areas 0)) (blocks_in (areas 1)) then 1 else 0

-- each image of the disk holds this
abbrev pub StandFor : Kept → (Areas → Type 0) → Type 0
StandFor v images = Each images (λ c. durable c ≡ Ok v)

-- each image holds the one or the other
abbrev pub StandForOneOf : Kept → Kept → (Areas → Type 0) → Type 0
StandForOneOf v w images = Each images (λ c. (durable c ≡ Ok v) ⊎ (durable c ≡ Ok w))

-- the slots stay
abbrev pub KeepsSlots : Areas → Areas → Type 0
KeepsSlots old new = (b : ℕ) → 2 ≤ b → new b ≡ old b
