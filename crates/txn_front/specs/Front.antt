-- The transactions that go on at a primary: what each has logged, the locks that they hold, and what their calls are answered.
use Rattle.std.specs.Prelude.{◌≡◌, ℕ, ◌+◌, ◌≤◌, List, [], ◌∷◌, ◌++◌, Option, Some, None, option_and_then, if◌then◌else◌}
use Rattle.std.specs.Option.{option_map_or}
use Rattle.std.specs.Ordering.{nat_cmp}
use Rattle.std.specs.List.Sorted.{IsStrictlySortedBy}
use Rattle.std.specs.Map.{lookup, remove_entry, keys_of}
use Rattle.std.specs.BTreeMap.{insert_entry, is_at}
use Rattle.rc_base.specs.declared.ids.Epoch.{Epoch}
use Rattle.rc_base.specs.declared.ids.Lsn.{Lsn}
use Rattle.rc_base.specs.declared.ids.TxnId.{TxnId}
use Rattle.rc_base.specs.Ids.{is_epoch}
use Rattle.coll_model.specs.declared.op.Op.{Op}
use Rattle.coll_model.specs.Effect.{State, folded}
use Rattle.key_locks.specs.Grants.{Grant, released, Alike}
use Rattle.events.specs.declared.call.Call.{Call}
use Rattle.events.specs.declared.answer.Answer.TheVariants as answers
use Rattle.events.specs.declared.answer.Reply.{Reply}
use Rattle.events.specs.Locking.{locks_at, taken}
use Rattle.events.specs.Answers.{plain, live_reply}
use Rattle.events.specs.Calls.{txn_named}
use Rattle.lock_laws.specs.Protected.{AreExclusive, AreLocked}
use Rattle.lock_laws.specs.OwnOperations.{AreEffective}
use Rattle.lock_laws.specs.OrderedStates.{IsOrdered}

-- ---- what goes on

-- what a transaction has done: the position of its last record in the log, 0 where it has none, and its operations in order
pub record Going : Type 0 where
  pub last : Lsn
  pub ops : List Op

-- The epoch of the primary; how many transactions it began; those that go on, by rising number; and who holds which lock.
pub record Fronted : Type 0 where
  pub epoch : Epoch
  pub begins : ℕ
  pub live : List (ℕ × Going)
  pub grants : List Grant

-- nothing goes on
abbrev pub nothing : Epoch → Fronted
nothing epoch = record { epoch = epoch; begins = 0; live = []; grants = [] }

-- the transaction of a number
abbrev pub txn_at : Fronted → ℕ → TxnId
txn_at f n = record { epoch = f.epoch; n = n }

abbrev pub numbered : ℕ → List (ℕ × Going) → Option Going
numbered n live = lookup (is_at (nat_cmp n)) live

abbrev pub going_of : Fronted → TxnId → Option Going
going_of f t = if is_epoch t.epoch f.epoch then numbered t.n f.live else None

-- the same, whatever the order between grants of different names is
pub record AreAlike (a b : Fronted) : Type 0 where
  pub same : a ≡ record b { grants = a.grants }
  pub grants : Alike a.grants b.grants

-- ---- what a call is answered, over the state that the primary shows

abbrev pub told : Fronted → State → Call → Option Reply
told f state call =
    option_map_or (λ t. option_map_or (λ going. live_reply f.grants (folded state going.ops) t call) (going_of f t) (Some (plain (answers.Ended t))))
    (txn_named call) (Some (plain (answers.Txn (txn_at f (f.begins + 1)))))

-- ---- what it changes

abbrev pub with_going : ℕ → Going → Fronted → Fronted
with_going n going f = record f { live = insert_entry nat_cmp f.live n going }

-- one more transaction begins
abbrev pub begun : Fronted → Fronted
begun f = with_going (f.begins + 1) (record { last = record { 0 = 0 }; ops = [] }) (record f { begins = f.begins + 1 })

-- a transaction has done one operation more, or none
abbrev pub operated : ℕ → Going → Option Op → Fronted → Fronted
operated n going None f = f
operated n going (Some op) f = with_going n (record going { ops = going.ops ++ op ∷ [] }) f

-- a call of a transaction that goes on: it has the locks that nobody stood against, and has done what was answered
abbrev pub asked : Fronted → State → TxnId → Going → Call → Fronted
asked f state t going call =
    let seen = folded state going.ops in
    operated t.n going (option_and_then (λ reply. reply.op) (live_reply f.grants seen t call)) (record f { grants = taken f.grants t (locks_at seen call) })

abbrev pub called : Fronted → State → Call → Fronted
called f state call = option_map_or (λ t. option_map_or (λ going. asked f state t going call) (going_of f t) f) (txn_named call) (begun f)

-- the last record of the transaction stands at this position
abbrev pub logged : Fronted → TxnId → Lsn → Fronted
logged f t lsn = option_map_or (λ going. with_going t.n (record going { last = lsn }) f) (going_of f t) f

-- the transaction goes on no more, and keeps its locks
abbrev pub done : Fronted → TxnId → Fronted
done f t = option_map_or (λ going. record f { live = remove_entry (is_at (nat_cmp t.n)) f.live }) (going_of f t) f

-- its locks go
abbrev pub unlocked : Fronted → TxnId → Fronted
unlocked f t = record f { grants = released f.grants t }

-- it goes on no more, and its locks go
abbrev pub ended : Fronted → TxnId → Fronted
ended f t = option_map_or (λ going. record f { live = remove_entry (is_at (nat_cmp t.n)) f.live; grants = released f.grants t }) (going_of f t) f

-- ---- over a state

-- a transaction that goes on was begun here, holds the locks of its operations, and each of these found what it is for
pub record IsOwn (f : Fronted) (state : State) (n : ℕ) (going : Going) : Type 0 where
  pub begun : n ≤ f.begins
  pub locked : AreLocked f.grants (txn_at f n) going.ops
  pub effective : AreEffective state going.ops

-- The primary shows this state: no lock stands beside an exclusive one, and the operations of each transaction take effect.
pub record IsOver (f : Fronted) (state : State) : Type 0 where
  pub ordered : IsOrdered state
  pub rising : IsStrictlySortedBy nat_cmp (keys_of f.live)
  pub exclusive : AreExclusive f.grants
  pub each : (n : ℕ) (going : Going) → numbered n f.live ≡ Some going → IsOwn f state n going
