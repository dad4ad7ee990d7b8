-- Lists of grants that are alike can't be told apart by any call of a lock table.
use Rattle.std.specs.Prelude.{◌≡◌, List}
use Rattle.rc_base.specs.declared.ids.TxnId.{TxnId}
use Rattle.key_locks.specs.declared.lock_name.LockName.{LockName}
use Rattle.key_locks.specs.declared.lock_mode.LockMode.{LockMode}
use Rattle.key_locks.specs.Grants.{Grant, conflict, mode_in, granted, released, Alike}

-- they answer each request alike
abbrev pub AlikeAnswerAlike : Type 0
AlikeAnswerAlike =
    (a b : List Grant) → Alike a b → (txn : TxnId) (name : LockName) (mode : LockMode) → (conflict a txn name mode ≡ conflict b txn name mode) × (mode_in a txn name ≡ mode_in b txn name)

-- they stay alike by the same grant
abbrev pub AlikeAfterGrant : Type 0
AlikeAfterGrant = (a b : List Grant) → Alike a b → (txn : TxnId) (name : LockName) (mode : LockMode) → Alike (granted a txn name mode) (granted b txn name mode)

-- they stay alike by the same release
abbrev pub AlikeAfterRelease : Type 0
AlikeAfterRelease = (a b : List Grant) → Alike a b → (txn : TxnId) → Alike (released a txn) (released b txn)

-- to be alike is to be so each way round, and along a chain
abbrev pub AlikeIsEquivalence : Type 0
AlikeIsEquivalence = ((a : List Grant) → Alike a a) × ((a b : List Grant) → Alike a b → Alike b a) × ((a b c : List Grant) → Alike a b → Alike b c → Alike a c)
