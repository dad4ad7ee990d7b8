-- The index of a transaction's operations: for each item the place of the newest operation on it.
use Rattle.std.specs.Prelude.{◌≡◌, ℕ, ◌<◌, max, List, [], ◌∷◌, ◌++◌, length, Option, Some, None, option_and_then, slice_get}
use Rattle.std.specs.Map.{lookup}
use Rattle.coll_model.specs.declared.op.Op.{Op}
use Rattle.key_locks.specs.declared.lock_name.LockName.{LockName}
use Rattle.key_locks.specs.Names.{is_name}
use Rattle.lock_laws.specs.OwnOperations as own
use Rattle.txn_front.specs.Front.{Going}

-- with one operation more, or none
abbrev pub noted : Going → Option Op → Going
noted going None = going
noted going (Some op) = record going { ops = going.ops ++ op ∷ [] }

-- the later of two places, where there is one
abbrev pub later_place : Option ℕ → Option ℕ → Option ℕ
later_place None b = b
later_place (Some a) None = Some a
later_place (Some a) (Some b) = Some (max a b)

-- where the newest operation stands that decides the item: on it, or on the name of its collection
abbrev pub place_of : List (LockName × ℕ) → LockName → Option ℕ
place_of places item = later_place (lookup (is_name item) places) (lookup (is_name (own.name_in item)) places)

pub record IsIndex (ops : List Op) (places : List (LockName × ℕ)) : Type 0 where
  pub newest : (item : LockName) → option_and_then (slice_get ops) (place_of places item) ≡ own.newest item ops
  pub within : (item : LockName) (place : ℕ) → lookup (is_name item) places ≡ Some place → place < length ops
