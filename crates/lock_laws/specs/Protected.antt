-- What locks protect: a transaction that goes on has read and written under its own locks, so the commits of others leave
-- its answers as they are.
use Rattle.std.specs.Prelude.{◌≡◌, ℕ, Bool, true, false, List, [], ◌∷◌, All, Option, Some, None, IsSome, is_some, option_map, option_and_then, MatchBool}
use Rattle.std.specs.List.{cons_option}
use Rattle.rc_base.specs.declared.ids.TxnId.{TxnId}
use Rattle.rc_base.specs.Ids.{is_txn}
use Rattle.coll_model.specs.declared.op.Kind.{Kind}
use Rattle.coll_model.specs.declared.op.Kind.TheVariants as kinds
use Rattle.coll_model.specs.declared.op.Op.{Op}
use Rattle.coll_model.specs.declared.op.Op.TheVariants.{Make, Unmake, Put, Del, Push, Pop}
use Rattle.coll_model.specs.declared.contents.Contents.{Contents}
use Rattle.coll_model.specs.declared.contents.Contents.TheVariants.{Dict, Queue}
use Rattle.coll_model.specs.Effect.{State, at_key, kind_of, folded}
use Rattle.key_locks.specs.declared.lock_name.LockName.{LockName}
use Rattle.key_locks.specs.declared.lock_name.LockName.TheVariants.{Name, Key, Head, Tail}
use Rattle.key_locks.specs.declared.lock_mode.LockMode.{LockMode}
use Rattle.key_locks.specs.declared.lock_mode.LockMode.TheVariants.{Shared, Exclusive}
use Rattle.key_locks.specs.Grants.{Grant, mode_in, stronger}
use Rattle.events.specs.Locking.{Lock, locks_at}
use Rattle.events.specs.Calls.{CallRecord}
use Rattle.events.specs.Replay.{is_replayed}
use Rattle.events.specs.Answers.{reply_at}

-- ---- grants

-- the transaction holds the name in the lock's mode, or in a stronger one
pub record HasLock (grants : List Grant) (t : TxnId) (lock : Lock) : Type 0 where
  pub mode : LockMode
  pub held : mode_in grants t lock.name ≡ Some mode
  pub enough : stronger mode lock.mode ≡ mode

abbrev pub HasLocks : List Grant → TxnId → List Lock → Type 0
HasLocks grants t locks = All (HasLock grants t) locks

-- who holds a name exclusively holds it alone
abbrev pub AreExclusive : List Grant → Type 0
AreExclusive grants =
    (name : LockName) (t u : TxnId) (mode : LockMode) → is_txn t u ≡ false → mode_in grants t name ≡ Some Exclusive → mode_in grants u name ≡ Some mode → ⊥

-- ---- what a transaction sees through its locks

abbrev pub is_held : List Grant → TxnId → LockName → Bool
is_held grants t name = is_some (mode_in grants t name)

-- the kind of the collection of a name, where there is one
abbrev pub kind_at : List ℕ → State → Option Kind
kind_at name state = option_map kind_of (at_key name state)

abbrev pub value_in : List ℕ → Contents → Option (List ℕ)
value_in key (Dict pairs) = at_key key pairs
value_in key (Queue values) = None

-- the value of a key in the dictionary of a name, where there are both
abbrev pub value_at : List ℕ → List ℕ → State → Option (List ℕ)
value_at name key state = option_and_then (value_in key) (at_key name state)

-- two states have the same collections under the names that the transaction holds, and in these the same values of the keys
-- that it holds
pub record LooksSame (grants : List Grant) (t : TxnId) (a b : State) : Type 0 where
  pub kinds : (name : List ℕ) → is_held grants t (Name name) ≡ true → kind_at name a ≡ kind_at name b
  pub values : (name key : List ℕ) → is_held grants t (Name name) ≡ true → is_held grants t (Key name key) ≡ true → value_at name key a ≡ value_at name key b

-- ---- operations

-- the locks under which an operation is logged
abbrev pub on_item : List ℕ → LockName → List Lock
on_item name item = record { name = Name name; mode = Shared } ∷ record { name = item; mode = Exclusive } ∷ []

abbrev pub locks_of : Op → List Lock
locks_of (Make name kind) = record { name = Name name; mode = Exclusive } ∷ []
locks_of (Unmake name) = record { name = Name name; mode = Exclusive } ∷ []
locks_of (Put name key value) = on_item name (Key name key)
locks_of (Del name key) = on_item name (Key name key)
locks_of (Push name value) = on_item name (Tail name)
locks_of (Pop name) = on_item name (Head name)

abbrev pub AreLocked : List Grant → TxnId → List Op → Type 0
AreLocked grants t ops = All (λ op. HasLocks grants t (locks_of op)) ops

-- The operation finds what it is for, by the kind of what stands under its name: no collection where it makes one, one of
-- either kind where it ends it, and else one of its own kind.
abbrev pub Finds : Op → Option Kind → Type 0
Finds (Make name kind) there = there ≡ None
Finds (Unmake name) there = IsSome there
Finds (Put name key value) there = there ≡ Some kinds.Dict
Finds (Del name key) there = there ≡ Some kinds.Dict
Finds (Push name value) there = there ≡ Some kinds.Queue
Finds (Pop name) there = there ≡ Some kinds.Queue

-- ---- calls

-- a call that named a collection was answered by what stood there, under its locks, and another one logged nothing
abbrev pub IsCallProtected : List Grant → TxnId → State → CallRecord → Type 0
IsCallProtected grants t state call =
    MatchBool (is_replayed call)
    (HasLocks grants t (locks_at state call.call) × (reply_at state call.call ≡ Some (record { answer = call.answer; op = call.op })))
    (call.op ≡ None)

-- the calls of a transaction, each at the state with the operations of those before it
abbrev pub AreProtected : List Grant → TxnId → State → List CallRecord → Type 0
AreProtected grants t state [] = Unit {0}
AreProtected grants t state (call ∷ calls) =
    IsCallProtected grants t state call × AreProtected grants t (folded state (cons_option call.op [])) calls
