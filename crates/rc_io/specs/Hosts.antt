-- What a host lends.
use Rattle.std.specs.Prelude.{◌≡◌, ◌≢◌, ℕ, ◌≤◌, List, [], Option, Some, None}
use Rattle.std.specs.Option.{ForSome, option_map}
use Rattle.rc_base.specs.Counts.{Counted}
use Rattle.disk_model.specs.Disk.{Areas}
use Rattle.rc_io.specs.Calls.{Turns, after_turn}

-- The folder's disk ends as it was left when it was given back, and every other folder's disk stays. One call more was
-- made.
pub record Lent {H D : Type 0} (disk : H → List ℕ → Option D) (faults : H → ℕ) (calls : H → Option Turns) (folder : List ℕ) (old new : H) (last : D) : Type 0 where
  pub there : disk new folder ≡ Some last
  pub elsewhere : (other : List ℕ) → other ≢ folder → disk new other ≡ disk old other
  pub later : faults old ≤ faults new
  pub counted : calls new ≡ option_map after_turn (calls old)

-- Every disk stays, and one call more was made.
pub record Kept {H D : Type 0} (disk : H → List ℕ → Option D) (faults : H → ℕ) (calls : H → Option Turns) (failed : Type 0) (old new : H) : Type 0 where
  pub same : (folder : List ℕ) → disk new folder ≡ disk old folder
  pub cause : Counted (faults old) (faults new) failed
  pub counted : calls new ≡ option_map after_turn (calls old)

-- the disk that is lent for a folder: the one that it has, or an empty one where it is new
abbrev pub IsFolders : {D : Type 0} → (D → Option Areas) → Option D → D → Type 0
IsFolders seen (Some has) lent = lent ≡ has
IsFolders seen None lent = ForSome (seen lent) (λ areas. (area : ℕ) → areas area ≡ [])
