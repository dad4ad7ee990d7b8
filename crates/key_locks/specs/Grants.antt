-- Grants of locks: who holds which name, in which mode. A list of them has one for each holder of a name, in the order in which
-- each first got it.
use Rattle.std.specs.Prelude.{◌≡◌, Bool, true, false, not, ◌&&◌, List, [], ◌∷◌, Option, find, filter, if◌then◌else◌}
use Rattle.std.specs.Option.{option_map}
use Rattle.rc_base.specs.declared.ids.TxnId.{TxnId}
use Rattle.key_locks.specs.declared.lock_name.LockName.{LockName}
use Rattle.key_locks.specs.declared.lock_mode.LockMode.{LockMode}
use Rattle.key_locks.specs.declared.lock_mode.LockMode.TheVariants.{Shared, Update, Exclusive}
use Rattle.key_locks.specs.declared.holders.Holder.{Holder}
use Rattle.rc_base.specs.Ids.{is_txn}
use Rattle.key_locks.specs.Names.{is_name}

pub record Grant : Type 0 where
  pub txn : TxnId
  pub name : LockName
  pub mode : LockMode

-- ---- modes

-- whether a granted mode leaves room for another transaction's request
abbrev pub allows : LockMode → LockMode → Bool
allows Shared Shared = true
allows Shared Update = true
allows Shared Exclusive = false
allows Update asked = false
allows Exclusive asked = false

abbrev pub stronger : LockMode → LockMode → LockMode
stronger Shared mode = mode
stronger Update Shared = Update
stronger Update Update = Update
stronger Update Exclusive = Exclusive
stronger Exclusive mode = Exclusive

-- ---- the holders of one name

abbrev pub is_holder : TxnId → Holder → Bool
is_holder txn h = is_txn txn h.txn

-- whether the holder stands against a request of the transaction
abbrev pub stands_against : TxnId → LockMode → Holder → Bool
stands_against txn mode h = not (is_holder txn h) && not (allows h.mode mode)

-- ---- lists of grants

-- who holds the name, in order
abbrev pub holders : LockName → List Grant → List Holder
holders name [] = []
holders name (g ∷ gs) = if is_name name g.name then record { txn = g.txn; mode = g.mode } ∷ holders name gs else holders name gs

-- the first in order of grant that stands against the request
abbrev pub conflict : List Grant → TxnId → LockName → LockMode → Option TxnId
conflict grants txn name mode = option_map (λ h. h.txn) (find (stands_against txn mode) (holders name grants))

-- the mode in which the transaction holds the name
abbrev pub mode_in : List Grant → TxnId → LockName → Option LockMode
mode_in grants txn name = option_map (λ h. h.mode) (find (is_holder txn) (holders name grants))

-- The transaction holds the name in this mode, or in its old one where that is stronger. A new holder stands last.
abbrev pub granted : List Grant → TxnId → LockName → LockMode → List Grant
granted [] txn name mode = record { txn = txn; name = name; mode = mode } ∷ []
granted (g ∷ gs) txn name mode =
    if is_txn txn g.txn && is_name name g.name
    then record { txn = g.txn; name = g.name; mode = stronger g.mode mode } ∷ gs
    else g ∷ granted gs txn name mode

-- without the grants of the transaction
abbrev pub released : List Grant → TxnId → List Grant
released grants txn = filter (λ g. not (is_txn txn g.txn)) grants

-- the same holders of each name, in the same modes and the same order
abbrev pub Alike : List Grant → List Grant → Type 0
Alike a b = (name : LockName) → holders name a ≡ holders name b
