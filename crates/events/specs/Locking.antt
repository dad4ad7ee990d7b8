-- The locks of client calls: which a call asks for, and what the asking gives.
use Rattle.std.specs.Prelude.{ℕ, List, [], ◌∷◌, Option, Some, None}
use Rattle.std.specs.Option.{option_map_or}
use Rattle.rc_base.specs.declared.ids.TxnId.{TxnId}
use Rattle.coll_model.specs.declared.contents.Contents.{Contents}
use Rattle.coll_model.specs.declared.contents.Contents.TheVariants.{Dict, Queue}
use Rattle.coll_model.specs.Effect.{State, at_key}
use Rattle.key_locks.specs.declared.lock_name.LockName.{LockName}
use Rattle.key_locks.specs.declared.lock_name.LockName.TheVariants.{Name, Key}
use Rattle.key_locks.specs.declared.lock_mode.LockMode.{LockMode}
use Rattle.key_locks.specs.declared.lock_mode.LockMode.TheVariants.{Shared, Update, Exclusive}
use Rattle.key_locks.specs.Grants.{Grant, conflict, granted}
use Rattle.events.specs.declared.call.Call.{Call}
use Rattle.events.specs.declared.call.Call.TheVariants.{Begin, Make, OnKey, Commit, Abort}
use Rattle.events.specs.declared.call.KeyCall.{KeyCall}
use Rattle.events.specs.declared.call.KeyCall.TheVariants.{Get, GetForUpdate, Set, Add, Delete}

-- a lock that is asked for
pub record Lock : Type 0 where
  pub name : LockName
  pub mode : LockMode

-- ---- which locks a call asks for

-- the mode in which a call locks its key
abbrev pub key_mode : KeyCall → LockMode
key_mode Get = Shared
key_mode GetForUpdate = Update
key_mode (Set value) = Exclusive
key_mode (Add value) = Exclusive
key_mode Delete = Exclusive

-- on a key, in what stands under the name: a dictionary alone has keys
abbrev pub on_key : List ℕ → List ℕ → LockMode → Option Contents → List Lock
on_key name key mode None = []
on_key name key mode (Some (Queue values)) = []
on_key name key mode (Some (Dict pairs)) = record { name = Key name key; mode = mode } ∷ []

-- on the name of a dictionary, and then on a key in it
abbrev pub in_dictionary : List ℕ → List ℕ → LockMode → State → List Lock
in_dictionary name key mode state = record { name = Name name; mode = Shared } ∷ on_key name key mode (at_key name state)

-- The locks that a call asks for at the state that its transaction sees, in order. Where it sees no dictionary of the name it
-- asks for that of the name alone.
abbrev pub locks_at : State → Call → List Lock
locks_at state Begin = []
locks_at state (Make t name kind) = record { name = Name name; mode = Exclusive } ∷ []
locks_at state (OnKey t name key call) = in_dictionary name key (key_mode call) state
locks_at state (Commit t) = []
locks_at state (Abort t) = []

-- ---- what the asking gives

-- the first holder that stands against one of the locks, which are asked for in order
abbrev pub against : List Grant → TxnId → List Lock → Option TxnId
against grants t [] = None
against grants t (lock ∷ locks) =
    option_map_or (λ by. Some by) (conflict grants t lock.name lock.mode) (against (granted grants t lock.name lock.mode) t locks)

-- the grants after it: those before the first conflict are made, and stay
abbrev pub taken : List Grant → TxnId → List Lock → List Grant
taken grants t [] = grants
taken grants t (lock ∷ locks) =
    option_map_or (λ by. grants) (conflict grants t lock.name lock.mode) (taken (granted grants t lock.name lock.mode) t locks)
