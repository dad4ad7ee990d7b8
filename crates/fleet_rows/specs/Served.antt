-- When a fleet is served: what its replicas keep, and what the machine knows that its lines tell, are one.
use Rattle.std.specs.Prelude.{◌≡◌, ◌⊎◌, ◌≤◌, ℕ, ◌==◌, Bool, true, false, List, [], ◌∷◌, ◌++◌, map, length, take, Contains, Option, Some, None, is_some, option_map, MatchOption, MatchBool}
use Rattle.std.specs.List.{list_any}
use Rattle.std.specs.List.Sorted.{IsStrictlySortedBy}
use Rattle.std.specs.Map.{keys_of}
use Rattle.std.specs.Ordering.{nat_cmp}
use Rattle.rc_base.specs.declared.ids.Epoch.{Epoch}
use Rattle.rc_base.specs.declared.ids.TxnId.{TxnId}
use Rattle.rc_base.specs.Ids.{no_epoch, is_epoch}
use Rattle.key_locks.specs.Grants.{Alike}
use Rattle.log_records.specs.declared.record.Record.{Record}
use Rattle.txn_table.specs.declared.committed.Committed.{Committed}
use Rattle.txn_table.specs.Log.{Items, commits_from, commits_in, IsLogFrom}
use Rattle.txn_table.specs.declared.known.Known.{Known}
use Rattle.txn_table.specs.Commits.{with_txn, is_pending, last_of}
use Rattle.txn_table.specs.Whole.{Whole, epoch_of, stable_of, commits_to, transactions_of}
use Rattle.order_machine.specs.Machine.{Machine, Role, empty_machine, replica, role_of, grants_of, live_txn, appointment_of, ops_of}
use Rattle.order_machine.specs.Legal.{Step, AreWhole, moved_all}
use Rattle.history_laws.specs.Texts.{IsText}
use Rattle.history_laws.specs.LockGuards.{ContainsRequests, ReplicaGuard, IdleReplica, ShownCommits, entry_of}
use Rattle.txn_front.specs.Front.{Fronted, Going, going_of}
use Rattle.replica_model.specs.OpenReplica.{OpenReplica, Leading, shown_commits, unshown_commits, view_of}
use Rattle.replica_model.specs.Quorums.{is_of_epoch}
use Rattle.fleet_laws.specs.Fleets.{Fleet, IsAppointed}
use Rattle.fleet_laws.specs.Choice.{IsChosen}
use Rattle.fleet_run.specs.Scenes.{FleetReplica, FleetState, replica_at, held_by}
use Rattle.fleet_run.specs.Scenes.FleetReplica.{Open, Closed}
use Rattle.fleet_run.specs.Kernel as kernel
use Rattle.fleet_run.specs.Sound.{Sound}

-- ---- the machine

-- it is behind events whose lines were whole, from the start of a world on
pub record IsBehindRun (m : Machine) : Type 0 where
  pub steps : List Step
  pub whole : AreWhole [] empty_machine steps
  pub is : moved_all empty_machine steps ≡ m

-- the epoch was appointed
abbrev pub is_appointed : Machine → Epoch → Bool
is_appointed m e = is_some (appointment_of m e)

-- a survey of the epoch came to replica r
abbrev pub is_surveyed : Machine → ℕ → Epoch → Bool
is_surveyed m r e = list_any (λ s. is_epoch e s.epoch) (replica m r).surveys

-- The commits were shown: they begin the one order.
pub record BeginsOrder (m : Machine) (commits : List Committed) : Type 0 where
  pub later : List Committed
  pub entries : List Committed
  pub one : m.orders ≡ record { base = 0; start = []; entries = map entry_of entries } ∷ []
  pub is : entries ≡ commits ++ later

-- Its one order is from nothing on, and has what commits in something that was chosen.
pub record IsOrderOf (m : Machine) (f : Fleet Record) : Type 0 where
  pub log : Items
  pub one : m.orders ≡ record { base = 0; start = []; entries = map entry_of (commits_in log) } ∷ []
  pub chosen : (log ≡ []) ⊎ ((e l : ℕ) × IsAppointed f e × IsChosen f e l × (map kernel.entry_of log ≡ take l (f.history e)))

-- ---- logs

-- all that a log commits, and what of that it tells as stable
abbrev pub commits_of : Whole → List Committed
commits_of w = commits_from w.start w.log

abbrev pub told_commits : Whole → List Committed
told_commits w = commits_to w (stable_of w)

-- What a disk may hold: its records are a log, whose commits are a text; what it tells as stable was shown; its last record is of an
-- epoch that was appointed; and its fence is of one that was appointed, or surveyed somewhere.
pub record IsLogOf (m : Machine) (w : Whole) : Type 0 where
  pub rules : IsLogFrom w.start w.log
  pub text : IsText m.txns [] (commits_of w)
  pub shown : BeginsOrder m (told_commits w)
  pub last : (w.log ≡ []) ⊎ (is_appointed m (epoch_of w) ≡ true)
  pub fence : (w.fence ≡ no_epoch) ⊎ ((is_appointed m w.fence ≡ true) ⊎ ((r : ℕ) × (is_surveyed m r w.fence ≡ true)))

-- ---- replicas

-- it is no primary, and nothing goes on there
pub record IsBystander (m : Machine) (r : ℕ) : Type 0 where
  pub no_role : role_of m r ≡ None
  pub idle : IdleReplica m r

-- What goes on at a primary is what is live there, each with the operations that its calls logged, under the same locks. It has records in the log
-- where it has operations.
pub record IsFrontOf (m : Machine) (r : ℕ) (f : Fronted) : Type 0 where
  pub grants : Alike (grants_of m r) f.grants
  pub going : (t : TxnId) → option_map (λ x. ops_of x) (live_txn m r t) ≡ option_map (λ g. g.ops) (going_of f t)
  pub rising : IsStrictlySortedBy nat_cmp (keys_of f.live)
  pub recorded : (t : TxnId) (g : Going) → going_of f t ≡ Some g → (g.last.0 == 0) ≡ (length g.ops == 0)

-- The log knows what goes on as the primary does: not at all before its first record, and then as pending, with the same last record and operations.
abbrev pub IsKnownAs : Going → Option Known → Type 0
IsKnownAs going None = (going.last.0 ≡ 0) × (going.ops ≡ [])
IsKnownAs going (Some known) = (1 ≤ going.last.0) × (is_pending known ≡ true) × (last_of known ≡ going.last) × (map (λ o. o.1) known.ops ≡ going.ops)

-- So it is with each transaction that goes on; and the begins count it, and those of the epoch that the log knows.
pub record IsLoggedBy (w : Whole) (f : Fronted) : Type 0 where
  pub begun : (t : TxnId) (g : Going) → going_of f t ≡ Some g → t.n ≤ f.begins
  pub each : (t : TxnId) (g : Going) → going_of f t ≡ Some g → IsKnownAs g (with_txn t (transactions_of w))
  pub counted : (t : TxnId) (k : Known) → with_txn t (transactions_of w) ≡ Some k → t.epoch ≡ f.epoch → t.n ≤ f.begins

-- Until a primary is active nothing goes on there, and what its log commits is all at each place that is of its epoch.
pub record IsWaiting (m : Machine) (r : ℕ) (o : OpenReplica) (l : Leading) : Type 0 where
  pub idle : IdleReplica m r
  pub all : (place : ℕ) → is_of_epoch o.disk l.epoch place ≡ true → commits_to o.disk place ≡ commits_of o.disk

-- A primary has one role in both: of the same epoch, as active, with the same begins. What was requested in its epoch is in its log; and its
-- locks guard what goes on there, and what is logged and isn't shown.
pub record IsPrimaryOf (m : Machine) (r : ℕ) (o : OpenReplica) (l : Leading) : Type 0 where
  pub role : Role
  pub has : role_of m r ≡ Some role
  pub epoch : role.epoch ≡ l.epoch
  pub active : role.active ≡ l.active
  pub begins : role.begins ≡ o.front.begins
  pub front_epoch : o.front.epoch ≡ l.epoch
  pub front : IsFrontOf m r o.front
  pub logged : IsLoggedBy o.disk o.front
  pub requests : ContainsRequests m.txns r l.epoch (commits_of o.disk)
  pub guard : MatchBool l.active (ReplicaGuard m r (unshown_commits o)) (IsWaiting m r o l)

-- an open replica shows the same in both, and is a primary or none
pub record IsOpenOf (m : Machine) (r : ℕ) (o : OpenReplica) : Type 0 where
  pub up : (replica m r).up ≡ true
  pub view : (replica m r).show ≡ view_of o
  pub shows : ShownCommits m r [] (shown_commits o)
  pub role : MatchOption o.leading (IsBystander m r) (IsPrimaryOf m r o)

-- a closed one is closed in both
pub record IsClosedOf (m : Machine) (r : ℕ) : Type 0 where
  pub down : (replica m r).up ≡ false
  pub bystander : IsBystander m r

abbrev pub IsReplicaOf : Machine → ℕ → FleetReplica → Type 0
IsReplicaOf m r (Open o) = IsOpenOf m r o
IsReplicaOf m r (Closed ws) = IsClosedOf m r

-- ---- a fleet between two events

-- The fleet is sound by the replication laws; the machine is behind whole events; and order, replicas and logs are what it knows.
pub record Served (s : FleetState) : Type 0 where
  pub fleet : Fleet Record
  pub sound : Sound s.machine s.replicas fleet
  pub run : IsBehindRun s.machine
  pub nine : length s.machine.replicas ≡ 9
  pub order : IsOrderOf s.machine fleet
  pub replicas : (r : ℕ) → IsReplicaOf s.machine r (replica_at s.replicas r)
  pub logs : (r : ℕ) (w : Whole) → Contains (held_by (replica_at s.replicas r)) w → IsLogOf s.machine w
