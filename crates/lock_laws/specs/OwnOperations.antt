-- The operations that a transaction has logged, and what it sees of them over a state.
use Rattle.std.specs.Prelude.{List, [], ◌∷◌, Bool, ◌||◌, Option, Some, None, if◌then◌else◌}
use Rattle.coll_model.specs.declared.op.Op.{Op}
use Rattle.coll_model.specs.declared.op.Op.TheVariants.{Make, Unmake, Put, Del, Push, Pop}
use Rattle.coll_model.specs.Effect.{State, effect}
use Rattle.coll_laws.specs.Effects.{name_of}
use Rattle.key_locks.specs.declared.lock_name.LockName.{LockName}
use Rattle.key_locks.specs.declared.lock_name.LockName.TheVariants.{Name, Key, Head, Tail}
use Rattle.key_locks.specs.Names.{is_name}
use Rattle.lock_laws.specs.Protected.{kind_at, Finds}

-- each operation, in order, finds what it is for
abbrev pub AreEffective : State → List Op → Type 0
AreEffective state [] = Unit {0}
AreEffective state (op ∷ ops) = Finds op (kind_at (name_of op) state) × AreEffective (effect state op) ops

-- what the operation changes, as the name of its lock
abbrev pub item_of : Op → LockName
item_of (Make name kind) = Name name
item_of (Unmake name) = Name name
item_of (Put name key value) = Key name key
item_of (Del name key) = Key name key
item_of (Push name value) = Tail name
item_of (Pop name) = Head name

-- the name of the collection that the item is in
abbrev pub name_in : LockName → LockName
name_in (Name name) = Name name
name_in (Key name key) = Name name
name_in (Head name) = Name name
name_in (Tail name) = Name name

-- An operation decides an item that it changes, and each item in the collection that it makes or ends.
abbrev pub decides : LockName → Op → Bool
decides item op = is_name item (item_of op) || is_name (name_in item) (item_of op)

abbrev pub or_earlier : Option Op → Op → Option Op
or_earlier None op = Some op
or_earlier (Some later) op = Some later

-- the last of the operations that decide this item
abbrev pub newest : LockName → List Op → Option Op
newest item [] = None
newest item (op ∷ ops) = if decides item op then or_earlier (newest item ops) op else newest item ops
