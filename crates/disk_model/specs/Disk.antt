-- What the calls of a disk do to its areas, and what a stop may leave of them.
use Rattle.std.specs.Prelude.{◌≡◌, ◌≢◌, ℕ, ◌+◌, ◌-◌, ◌^◌, ◌≤◌, min, List, ◌++◌, length, take, drop, Option, Some, None, Result, IsErr, IsErrOf, if◌then◌else◌, ◌==◌}
use Rattle.std.specs.Option.{option_map}
use Rattle.disk_model.specs.declared.disk.DiskError.{DiskError}
use Rattle.disk_model.specs.declared.disk.DiskError.TheVariants.{NoMemory}

-- the bytes of each area
abbrev pub Areas : Type 0
Areas = ℕ → List ℕ

-- the bytes with others written over them from a place on, and past their end
abbrev pub written : ℕ → List ℕ → List ℕ → List ℕ
written at bytes old = take at old ++ bytes ++ drop (at + length bytes) old

-- the areas with one of them changed
abbrev pub with_area : ℕ → (List ℕ → List ℕ) → Areas → Areas
with_area area change areas = λ b. if b == area then change (areas b) else areas b

-- What a stop may leave of a write of n bytes: any bytes in the range and past the old end, the same elsewhere.
-- Where an earlier write that made the area longer was lost, this one lands past the end.
pub record Torn (at n : ℕ) (old new : List ℕ) : Type 0 where
  pub before : take (min at (length old)) new ≡ take at old
  pub after : drop (at + n) new ≡ drop (at + n) old
  pub no_shorter : length old ≤ length new

-- What a stop may leave of a cut: some length between the new and the old one.
pub record Cut (len : ℕ) (old new : List ℕ) : Type 0 where
  pub no_shorter : min len (length old) ≤ length new
  pub front : take (length new) old ≡ new

-- one area takes a step, and the others stay
pub record Changes (area : ℕ) (step : List ℕ → List ℕ → Type 0) (old new : Areas) : Type 0 where
  pub there : step (old area) (new area)
  pub elsewhere : (b : ℕ) → b ≢ area → new b ≡ old b

-- one area is changed so, and the others stay
abbrev pub Becomes : ℕ → (List ℕ → List ℕ) → Areas → Areas → Type 0
Becomes area change old new = new ≡ with_area area change old

-- each image now is an image from before after this step
abbrev pub Follows : (Areas → Areas → Type 0) → (Areas → Type 0) → (Areas → Type 0) → Type 0
Follows step old new = (c : Areas) → new c → (d : Areas) × old d × step d c

-- no image is new
abbrev pub Within : (Areas → Type 0) → (Areas → Type 0) → Type 0
Within old new = (c : Areas) → new c → old c

-- what a read gives is the only image
abbrev pub Only : Option Areas → (Areas → Type 0) → Type 0
Only seen images = (c : Areas) → images c → seen ≡ Some c

-- every image has the property
abbrev pub Each : (Areas → Type 0) → (Areas → Type 0) → Type 0
Each images P = (c : Areas) → images c → P c

-- What a read of these bytes leaves in a buffer, and how many it read: as far as both reach.
pub record IsRead (bytes : List ℕ) (count : ℕ) (old new : List ℕ) : Type 0 where
  pub reach : count ≡ min (length old) (length bytes)
  pub filled : new ≡ take count bytes ++ drop count old

-- the disk is as it was: what reads give, the images, and the count of faults
pub record Stays (seen seen' : Option Areas) (images images' : Areas → Type 0) (faults faults' : ℕ) : Type 0 where
  pub same_seen : seen' ≡ seen
  pub no_image_more : Within images images'
  pub no_image_less : Within images' images
  pub same_faults : faults' ≡ faults

-- What only the arming and the stopping of a disk change: how often each was done, and the number that the latest of
-- them was handed.
pub record Marks : Type 0 where
  pub arms : ℕ
  pub stops : ℕ
  pub last : ℕ

-- one more, up to the end of the type
abbrev pub counted_up : ℕ → ℕ
counted_up n = min (n + 1) (2 ^ 64 - 1)

abbrev pub after_arm : ℕ → Marks → Marks
after_arm calls m = record { arms = counted_up m.arms; stops = m.stops; last = calls }

abbrev pub after_stop : ℕ → Marks → Marks
after_stop pick m = record { arms = m.arms; stops = counted_up m.stops; last = pick }

-- How the number of calls that an armed disk still does goes on: at 0 each call fails. A call that finds no memory
-- doesn't count.
pub record Turns {T : Type 0} (before now : Option ℕ) (result : Result T DiskError) : Type 0 where
  pub fails : before ≡ Some 0 → IsErr result
  pub counts : ¬ IsErrOf result NoMemory → now ≡ option_map (λ n. n - 1) before
  pub stays : IsErrOf result NoMemory → now ≡ before

-- how many calls an armed disk still does, where it was told that the call with this number from now on fails
abbrev pub nearer : ℕ → Option ℕ → ℕ
nearer calls None = calls - 1
nearer calls (Some left) = min left (calls - 1)
