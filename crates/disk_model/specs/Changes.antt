-- The changes that a disk in memory keeps since its last sync, and what a stop leaves of them.
use Rattle.std.specs.Prelude.{◌≡◌, ◌⊎◌, ℕ, zero, suc, ◌+◌, ◌-◌, ◌/◌, ◌%◌, max, List, [], ◌∷◌, ◌++◌, length, take, replicate, if◌then◌else◌, ◌==◌, Vec, vec_capacity}
use Rattle.std.specs.declared.alloc.Global.{Global}
use Rattle.disk_model.specs.Disk.{Areas, written, with_area, Torn, Cut, Changes}
use Rattle.disk_model.specs.declared.change.Change.{Change}
use Rattle.disk_model.specs.declared.change.Edit.{Edit}
use Rattle.disk_model.specs.declared.change.Edit.TheVariants.{Write, Shorten}

-- the bytes of the vectors, by their places
abbrev pub held : List (Vec ℕ Global) → Areas
held [] area = []
held (v ∷ vs) zero = v.items
held (v ∷ vs) (suc area) = held vs area

-- the room that each of them has
abbrev pub room : List (Vec ℕ Global) → ℕ → ℕ
room [] area = 0
room (v ∷ vs) zero = vec_capacity v
room (v ∷ vs) (suc area) = room vs area

-- the bytes, with bytes 165 behind them up to a place
abbrev pub padded : ℕ → List ℕ → List ℕ
padded at old = old ++ replicate (at - length old) 165

-- What a stop leaves of one change, by a digit: 0 nothing of it, 1 all, and 2 of a write bytes 165 in its place.
abbrev pub left_of : Edit → ℕ → List ℕ → List ℕ
left_of (Write at bytes) digit old = if digit == 0 then old else (if digit == 1 then written at bytes (padded at old) else written at (replicate (length bytes) 165) (padded at old))
left_of (Shorten len) digit old = if digit == 0 then old else take len old

-- What a stop leaves of the changes since the last sync, in their order. The digits of the pick in base 3, the least
-- significant first, tell what becomes of each.
abbrev pub left_by : ℕ → List Change → Areas → Areas
left_by pick [] synced = synced
left_by pick (change ∷ changes) synced = left_by (pick / 3) changes (with_area change.area (left_of change.edit (pick % 3)) synced)

-- what reads give after these changes
abbrev pub done : List Change → Areas → Areas
done [] synced = synced
done (change ∷ changes) synced = done changes (with_area change.area (left_of change.edit 1) synced)

-- what a stop may leave of one change
abbrev pub MayLeave : Edit → List ℕ → List ℕ → Type 0
MayLeave (Write at bytes) = Torn at (length bytes)
MayLeave (Shorten len) = Cut len

-- what a stop may leave of the changes since the last sync, each a step of its own
abbrev pub MayLeaveOf : List Change → Areas → Areas → Type 0
MayLeaveOf [] synced areas = areas ≡ synced
MayLeaveOf (change ∷ changes) synced areas = (d : Areas) × Changes change.area (MayLeave change.edit) synced d × MayLeaveOf changes d areas

-- What a stop may leave where these changes are pending: what reads give, or what the changes may leave of the areas at
-- the last sync.
abbrev pub images_of : List Change → Areas → Areas → Areas → Type 0
images_of changes synced shown areas = (areas ≡ shown) ⊎ MayLeaveOf changes synced areas

-- the place behind a change's bytes
abbrev pub end_of : Edit → ℕ
end_of (Write at bytes) = at + length bytes
end_of (Shorten len) = 0

-- how far the changes of an area reach
abbrev pub reach : ℕ → List Change → ℕ
reach area [] = 0
reach area (change ∷ changes) = max (if change.area == area then end_of change.edit else 0) (reach area changes)
