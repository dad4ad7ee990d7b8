-- The table of a lock table: for each name the row of its holders; and for each transaction the names that it may hold.
use Rattle.std.specs.Prelude.{◌≡◌, true, not, List, [], ◌∷◌, ◌++◌, filter, if◌then◌else◌, unwrap_or}
use Rattle.std.specs.List.{list_any, IsDistinct}
use Rattle.std.specs.Map.{lookup, keys_of}
use Rattle.rc_base.specs.declared.ids.TxnId.{TxnId}
use Rattle.key_locks.specs.declared.lock_name.LockName.{LockName}
use Rattle.key_locks.specs.declared.lock_mode.LockMode.{LockMode}
use Rattle.key_locks.specs.declared.holders.Holder.{Holder}
use Rattle.rc_base.specs.Ids.{is_txn}
use Rattle.key_locks.specs.Names.{is_name}
use Rattle.key_locks.specs.Grants.{Grant, stronger, is_holder}

-- ---- one row

-- the transaction holds in this mode, or in its old one where that is stronger
abbrev pub granted_in : List Holder → TxnId → LockMode → List Holder
granted_in [] txn mode = record { txn = txn; mode = mode } ∷ []
granted_in (h ∷ hs) txn mode =
    if is_holder txn h then record { txn = h.txn; mode = stronger h.mode mode } ∷ hs else h ∷ granted_in hs txn mode

abbrev pub others : TxnId → List Holder → List Holder
others txn hs = filter (λ h. not (is_holder txn h)) hs

-- ---- rows by name

-- the holders of the name
abbrev pub row : List (LockName × List Holder) → LockName → List Holder
row rows name = unwrap_or (lookup (is_name name) rows) []

-- the row of the name is this one, and all others are as before
abbrev pub RowChanges : List (LockName × List Holder) → List (LockName × List Holder) → LockName → List Holder → Type 0
RowChanges old new name now = (other : LockName) → row new other ≡ (if is_name name other then now else row old other)

-- the transaction no longer holds these names, and all else is as before
abbrev pub RowsLeft : List (LockName × List Holder) → List (LockName × List Holder) → TxnId → List LockName → Type 0
RowsLeft old new txn names = (other : LockName) → row new other ≡ (if list_any (is_name other) names then others txn (row old other) else row old other)

-- the grants of one row
abbrev pub grants_of : LockName → List Holder → List Grant
grants_of name [] = []
grants_of name (h ∷ hs) = record { txn = h.txn; name = name; mode = h.mode } ∷ grants_of name hs

-- the grants of all rows, one row behind the other
abbrev pub all_grants : List (LockName × List Holder) → List Grant
all_grants [] = []
all_grants (r ∷ rows) = grants_of r.0 r.1 ++ all_grants rows

-- ---- names by transaction

-- the names noted for the transaction
abbrev pub noted : List (TxnId × List LockName) → TxnId → List LockName
noted held txn = unwrap_or (lookup (is_txn txn) held) []

abbrev pub NotedChanges : List (TxnId × List LockName) → List (TxnId × List LockName) → TxnId → List LockName → Type 0
NotedChanges old new txn now = (other : TxnId) → noted new other ≡ (if is_txn txn other then now else noted old other)

-- each name that a transaction holds is noted for it
abbrev pub AllNoted : List (LockName × List Holder) → List (TxnId × List LockName) → Type 0
AllNoted rows held =
    (txn : TxnId) (name : LockName) → list_any (is_holder txn) (row rows name) ≡ true → list_any (is_name name) (noted held txn) ≡ true

-- what a lock table always is
pub record IsTable (rows : List (LockName × List Holder)) (held : List (TxnId × List LockName)) : Type 0 where
  pub unique : IsDistinct is_name (keys_of rows)
  pub noted : AllNoted rows held
