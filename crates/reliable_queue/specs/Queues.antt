-- A queue at versions: what was pushed, and at which versions the head was popped.
use Rattle.std.specs.Prelude.{◌≡◌, ℕ, zero, suc, ◌≤◌, nat_le, nat_lt, min, List, [], ◌∷◌, ◌++◌, take, drop, length, replicate, All, if◌then◌else◌}
use Rattle.std.specs.List.Sorted.{IsNonDecreasingBy}
use Rattle.rc_base.specs.declared.ids.Lsn.{Lsn}
use Rattle.coll_model.specs.declared.op.Op.{Op}
use Rattle.coll_model.specs.declared.op.Op.TheVariants.{Make, Unmake, Put, Del, Push, Pop}

-- The values in the order in which they were pushed; the version of each push; the versions of the pops, of which the first took the
-- first value, and so on; the floor and the top.
pub record Versioned : Type 0 where
  pub values : List (List ℕ)
  pub pushes : List Lsn
  pub pops : List Lsn
  pub floor : Lsn
  pub top : Lsn

-- how many of the versions, which rise, are at or below this one
abbrev pub up_to : ℕ → List Lsn → ℕ
up_to w [] = zero
up_to w (at ∷ ats) = if nat_le at.0 w then suc (up_to w ats) else zero

-- the values at a version: those that were pushed by then, without as many from the head as were popped by then
abbrev pub values_at : Versioned → ℕ → List (List ℕ)
values_at q w = drop (up_to w q.pops) (take (up_to w q.pushes) q.values)

-- The versions rise, up to the top, from where on the values rest; and no more was ever popped than pushed.
pub record IsQueue (q : Versioned) : Type 0 where
  pub in_order : q.floor.0 ≤ q.top.0
  pub each : length q.values ≡ length q.pushes
  pub pushes_rise : IsNonDecreasingBy (λ at. at.0) q.pushes
  pub pops_rise : IsNonDecreasingBy (λ at. at.0) q.pops
  pub pushes_reach : All (λ at. at.0 ≤ q.top.0) q.pushes
  pub pops_reach : All (λ at. at.0 ≤ q.top.0) q.pops
  pub rests : (w : ℕ) → q.top.0 ≤ w → values_at q w ≡ values_at q q.top.0
  pub enough : (w : ℕ) → up_to w q.pops ≤ up_to w q.pushes

-- ---- what each call makes of it

-- nothing is in it
abbrev pub empty_at : Lsn → Versioned
empty_at v = record { values = []; pushes = []; pops = []; floor = v; top = v }

-- a value comes after the tail
abbrev pub pushed : Versioned → Lsn → List ℕ → Versioned
pushed q v value = record q { values = q.values ++ value ∷ []; pushes = q.pushes ++ v ∷ []; top = v }

-- the head goes, which there is
abbrev pub head_taken : Versioned → Lsn → Versioned
head_taken q v = record q { pops = q.pops ++ v ∷ []; top = v }

-- nothing changes but the top
abbrev pub rested : Versioned → Lsn → Versioned
rested q v = record q { top = v }

-- the head goes, where there is one
abbrev pub popped : Versioned → Lsn → Versioned
popped q v = if nat_lt (length q.pops) (length q.pushes) then head_taken q v else rested q v

abbrev pub operated : Versioned → Lsn → Op → Versioned
operated q v (Make name kind) = rested q v
operated q v (Unmake name) = rested q v
operated q v (Put name key value) = rested q v
operated q v (Del name key) = rested q v
operated q v (Push name value) = pushed q v value
operated q v (Pop name) = popped q v

-- what came above the version goes
abbrev pub cut_to : Lsn → Versioned → Versioned
cut_to v q = record q {
  values = take (up_to v.0 q.pushes) q.values;
  pushes = take (up_to v.0 q.pushes) q.pushes;
  pops = take (up_to v.0 q.pops) q.pops;
  top = record { 0 = min q.top.0 v.0 };
}

-- what was popped at or below the version goes for good
abbrev pub merged : Lsn → Versioned → Versioned
merged v q = let gone = up_to v.0 q.pops in record q { values = drop gone q.values; pushes = drop gone q.pushes; pops = drop gone q.pops; floor = v }

-- these values, all of them pushed at the version
abbrev pub loaded : Lsn → List (List ℕ) → Versioned
loaded v values = record { values = values; pushes = replicate (length values) v; pops = []; floor = v; top = v }
