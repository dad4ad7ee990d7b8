-- When two locks have one name.
use Rattle.std.specs.Prelude.{ℕ, List, ◌++◌, Bool, false, ◌&&◌, nat_eq}
use Rattle.std.specs.Hash as fed
use Rattle.std.specs.Cmp.Lexicographic.{pointwise}
use Rattle.key_locks.specs.declared.lock_name.LockName.{LockName}
use Rattle.key_locks.specs.declared.lock_name.LockName.TheVariants.{Name, Key, Head, Tail}

abbrev pub is_name : LockName → LockName → Bool
is_name (Name a) (Name b) = pointwise nat_eq a b
is_name (Key a k) (Key b l) = pointwise nat_eq a b && pointwise nat_eq k l
is_name (Head a) (Head b) = pointwise nat_eq a b
is_name (Tail a) (Tail b) = pointwise nat_eq a b
is_name _ _ = false

-- what a name gives to a hasher: its kind, and then what it holds
abbrev pub hashed : LockName → List (List ℕ)
hashed (Name a) = fed.u8 0 ++ fed.slice fed.u8 a
hashed (Key a k) = fed.u8 1 ++ fed.slice fed.u8 a ++ fed.slice fed.u8 k
hashed (Head a) = fed.u8 2 ++ fed.slice fed.u8 a
hashed (Tail a) = fed.u8 3 ++ fed.slice fed.u8 a
