-- Guards: what the locks at a replica keep true of the transactions that are live there, and of those whose commit is logged
-- and isn't shown yet.
use Rattle.std.specs.Prelude.{◌≡◌, ℕ, true, false, List, [], map, All, Some}
use Rattle.std.specs.Map.{lookup}
use Rattle.rc_base.specs.declared.ids.Epoch.{Epoch}
use Rattle.rc_base.specs.declared.ids.TxnId.{TxnId}
use Rattle.rc_base.specs.Ids.{is_txn}
use Rattle.coll_model.specs.Effect.{State}
use Rattle.key_locks.specs.Grants.{Grant}
use Rattle.lock_laws.specs.OrderedStates.{IsOrdered}
use Rattle.lock_laws.specs.Protected.{AreExclusive, AreProtected}
use Rattle.txn_table.specs.declared.committed.Committed.{Committed}
use Rattle.order_machine.specs.Order.{Order, Entry, first_of, state_at}
use Rattle.order_machine.specs.Machine.{Machine, Txn, replica, order_of, txn_of, grants_of, ops_of}
use Rattle.history_laws.specs.Texts.{has_commit, AreOnce}

-- ---- one replica

-- A commit that replica r has logged and doesn't show: its transaction is of home r, its commit was requested, and it has
-- ended; the operations are all that its calls logged; and its locks still protect what the calls were answered at the state that is shown.
pub record PendingCommit (txns : List (TxnId × Txn)) (grants : List Grant) (r : ℕ) (shown : State) (commit : Committed) : Type 0 where
  pub txn : Txn
  pub known : lookup (is_txn commit.txn) txns ≡ Some txn
  pub requested : txn.asked ≡ true
  pub ended : txn.live ≡ false
  pub home : txn.home ≡ r
  pub whole : commit.ops ≡ ops_of txn
  pub protected : AreProtected grants commit.txn shown txn.calls

-- The locks at replica r guard what goes on there: the entries of the state that is shown are in order; who holds a lock exclusively holds
-- it alone; each live transaction of home r is protected; so is each commit that isn't shown; and none of these is of a transaction twice.
pub record LockGuard (txns : List (TxnId × Txn)) (grants : List Grant) (r : ℕ) (shown : State) (pending : List Committed) : Type 0 where
  pub ordered : IsOrdered shown
  pub exclusive : AreExclusive grants
  pub live : (t : TxnId) (x : Txn) → lookup (is_txn t) txns ≡ Some x → x.home ≡ r → x.live ≡ true → AreProtected grants t shown x.calls
  pub unshown : All (PendingCommit txns grants r shown) pending
  pub once : AreOnce pending

-- Each transaction that replica r began in the epoch and whose commit was requested is among the commits. It is so between events, and not within one:
-- a commit is requested before it is logged.
abbrev pub ContainsRequests : List (TxnId × Txn) → ℕ → Epoch → List Committed → Type 0
ContainsRequests txns r e commits =
    (t : TxnId) (x : Txn) → lookup (is_txn t) txns ≡ Some x → x.home ≡ r → t.epoch ≡ e → x.asked ≡ true → has_commit commits t ≡ true

-- ---- a replica of the machine

-- the state that replica r shows
abbrev pub shown_at : Machine → ℕ → State
shown_at m r = state_at (order_of m r) (replica m r).show

-- the locks at replica r guard what goes on there, over the state that it shows
abbrev pub ReplicaGuard : Machine → ℕ → List Committed → Type 0
ReplicaGuard m r pending = LockGuard m.txns (grants_of m r) r (shown_at m r) pending

-- nothing goes on at replica r: no lock is granted there, and no transaction of home r is live
pub record IdleReplica (m : Machine) (r : ℕ) : Type 0 where
  pub free : grants_of m r ≡ []
  pub over : (t : TxnId) (x : Txn) → txn_of m t ≡ Some x → x.home ≡ r → x.live ≡ false

-- a commit as an entry of the order
abbrev pub entry_of : Committed → Entry
entry_of c = record { txn = c.txn; ops = c.ops }

-- the entries of the order are these commits, from the state on
pub record OrderCommits (order : Order) (start : State) (commits : List Committed) : Type 0 where
  pub start_is : order.start ≡ start
  pub entries : order.entries ≡ map entry_of commits

-- those that replica r shows are
pub record ShownCommits (m : Machine) (r : ℕ) (start : State) (commits : List Committed) : Type 0 where
  pub start_is : (order_of m r).start ≡ start
  pub entries : first_of (order_of m r) (replica m r).show ≡ map entry_of commits
