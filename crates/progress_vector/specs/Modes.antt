-- How a copy brings a target to what a source has, by the epochs at the positions that both know.
use Rattle.std.specs.Prelude.{◌≡◌, ℕ, ◌<◌, ◌≤◌, List, ◌++◌, ◌==◌, if◌then◌else◌, codes, decimal}
use Rattle.rc_base.specs.declared.ids.Lsn.{Lsn}
use Rattle.progress_vector.specs.declared.vector.Vector.{Vector}
use Rattle.progress_vector.specs.declared.mode.Mode.{Mode}
use Rattle.progress_vector.specs.declared.mode.Mode.TheVariants.{Same, Partial, Undo, Full}
use Rattle.progress_vector.specs.Vectors.{epoch_at}

-- both know the position, from the greater of the bases to the lesser of the lasts, and have one epoch there
pub record IsCommon (source target : Vector) (lsn : ℕ) : Type 0 where
  pub above_source : source.base.0 ≤ lsn
  pub above_target : target.base.0 ≤ lsn
  pub in_source : lsn ≤ source.last.0
  pub in_target : lsn ≤ target.last.0
  pub same : epoch_at source.entries lsn ≡ epoch_at target.entries lsn

-- the greatest common position
pub record IsFork (source target : Vector) (lsn : ℕ) : Type 0 where
  pub common : IsCommon source target lsn
  pub greatest : (other : ℕ) → IsCommon source target other → other ≤ lsn

-- The target has all of the source; or the source goes on behind all that the target has; or both go on behind the
-- fork; or there is no common position.
abbrev pub IsMode : Vector → Vector → Mode → Type 0
IsMode source target Same = IsFork source target source.last.0
IsMode source target (Partial from) = IsFork source target from.0 × (from ≡ target.last) × (target.last.0 < source.last.0)
IsMode source target (Undo fork) = IsFork source target fork.0 × (fork.0 < source.last.0) × (fork.0 < target.last.0)
IsMode source target Full = (lsn : ℕ) → IsCommon source target lsn → ⊥

-- the mode by the lasts of the source and of the target, where there is a fork
abbrev pub mode_of : Lsn → Lsn → Lsn → Mode
mode_of source target fork = if fork.0 == source.0 then Same else (if fork.0 == target.0 then Partial fork else Undo fork)

-- two vectors have at most one mode
abbrev pub OneMode : Type 0
OneMode = (source target : Vector) (a b : Mode) → IsMode source target a → IsMode source target b → a ≡ b

-- how a mode is printed
abbrev pub mode_text : Mode → List ℕ
mode_text Same = codes "none"
mode_text (Partial from) = codes "partial@" ++ decimal from.0
mode_text (Undo fork) = codes "undo@" ++ decimal fork.0
mode_text Full = codes "full"
