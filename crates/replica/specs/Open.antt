-- An open replica: what it keeps, and when that agrees with its log.
use Rattle.std.specs.Prelude.{◌≡◌, ℕ, ◌≤◌, Bool, true, List, [], ◌++◌, length, take, map, flat_map, Option, Some, None}
use Rattle.rc_base.specs.declared.ids.Epoch.{Epoch}
use Rattle.rc_base.specs.declared.ids.Lsn.{Lsn}
use Rattle.rc_base.specs.declared.ids.TxnId.{TxnId}
use Rattle.rc_base.specs.Ids.{epoch_le}
use Rattle.coll_model.specs.Effect.{State, folded}
use Rattle.txn_table.specs.declared.committed.Committed.{Committed}
use Rattle.txn_table.specs.declared.known.Known.{Known}
use Rattle.txn_table.specs.Commits.{with_txn, is_pending, last_of}
use Rattle.txn_table.specs.Log.{Items, last_epoch, known_in, commits_in}
use Rattle.txn_table.specs.Whole.{stable_in}
use Rattle.log_store.specs.declared.kept.Kept.{Kept}
use Rattle.log_store.specs.Store.{Store}
use Rattle.txn_front.specs.Front.{Fronted, Going, AreAlike, IsOver, numbered, txn_at}
use Rattle.replica_model.specs.declared.role.Role.{Role}
use Rattle.replica_model.specs.declared.role.Role.TheVariants.{Other, Primary}

-- ---- what it keeps

-- Its number; its log; its fence; the epoch and the position of the last record; the stable position, and how many
-- commits stand at or below it; their state, which is what the replica shows; the commits above the stable position; its
-- role; and what goes on in it.
pub record Open : Type 0 where
  pub id : ℕ
  pub log : Store
  pub fence : Epoch
  pub epoch : Epoch
  pub last : Lsn
  pub stable : Lsn
  pub shown : ℕ
  pub contents : State
  pub ahead : List Committed
  pub role : Role
  pub front : Fronted

-- the same, whatever the order between grants of different names is
pub record AreSame (a b : Open) : Type 0 where
  pub same : a ≡ record b { front = a.front }
  pub front : AreAlike a.front b.front

-- ---- what a log shows

-- the commits of the log at or below a position
abbrev pub commits_to : ℕ → Items → List Committed
commits_to lsn log = commits_in (take lsn log)

-- the commits that a replica shows once the log was opened
abbrev pub shown_in : Items → List Committed
shown_in log = commits_to (stable_in log) log

-- the state behind commits
abbrev pub state_of : List Committed → State
state_of commits = folded [] (flat_map (λ c. c.ops) commits)

-- ---- when it agrees with its log

-- The log knows what goes on as the replica does: not at all before its first record, and then as pending, with the same
-- last record and operations.
abbrev pub IsKnownAs : Going → Option Known → Type 0
IsKnownAs going None = (going.last.0 ≡ 0) × (going.ops ≡ [])
IsKnownAs going (Some known) = (1 ≤ going.last.0) × (is_pending known ≡ true) × (last_of known ≡ going.last) × (map (λ o. o.1) known.ops ≡ going.ops)

-- A primary that is alone is active. All of its log is stable, and it counts the transactions of its epoch.
pub record IsPrimary (r : Open) (log : Items) (epoch : Epoch) (serves : Bool) : Type 0 where
  pub last_one : epoch ≡ r.epoch
  pub active : serves ≡ true
  pub stable : r.stable ≡ r.last
  pub shown : r.ahead ≡ []
  pub begins_in : r.front.epoch ≡ r.epoch
  pub counted : (txn : TxnId) (known : Known) → with_txn txn (known_in log) ≡ Some known → txn.epoch ≡ r.epoch → txn.n ≤ r.front.begins

-- nothing goes on but at a primary
abbrev pub HasRole : Open → Items → Role → Type 0
HasRole r log Other = r.front.live ≡ []
HasRole r log (Primary epoch active) = IsPrimary r log epoch active

-- What an open replica keeps is told by its log.
pub record AgreesWith (r : Open) (kept : Kept) : Type 0 where
  pub identity : kept.identity ≡ Some r.log.identity
  pub fence : kept.fence ≡ r.fence
  pub epoch : last_epoch kept.records ≡ r.epoch
  pub last : length kept.records ≡ r.last.0
  pub stable_told : stable_in kept.records ≤ r.stable.0
  pub stable_there : r.stable.0 ≤ r.last.0
  pub shown : length (commits_to r.stable.0 kept.records) ≡ r.shown
  pub contents : state_of (commits_to r.stable.0 kept.records) ≡ r.contents
  pub commits : commits_in kept.records ≡ commits_to r.stable.0 kept.records ++ r.ahead
  pub epochs : (txn : TxnId) (known : Known) → with_txn txn (known_in kept.records) ≡ Some known → epoch_le txn.epoch r.epoch ≡ true
  pub role : HasRole r kept.records r.role
  pub over : IsOver r.front r.contents
  pub known : (n : ℕ) (going : Going) → numbered n r.front.live ≡ Some going → IsKnownAs going (with_txn (txn_at r.front n) (known_in kept.records))
