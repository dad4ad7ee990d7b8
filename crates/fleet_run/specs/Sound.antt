-- What holds of a fleet after every event, and between the acts of one.
use Rattle.std.specs.Prelude.{◌≡◌, ℕ, ◌≤◌, ◌<◌, Bool, true, false, ◌&&◌, List, length, map, All, Contains, Some, MatchOption, unwrap_or, ◌==◌}
use Rattle.std.specs.Map.{lookup}
use Rattle.std.specs.List.{list_any}
use Rattle.rc_base.specs.declared.ids.Epoch.{Epoch}
use Rattle.rc_base.specs.Ids.{is_epoch}
use Rattle.log_records.specs.declared.record.Record.{Record}
use Rattle.log_records.specs.declared.record.Record.TheVariants as records
use Rattle.txn_table.specs.Log.{no_base}
use Rattle.txn_table.specs.Whole.{Whole, epoch_of, stable_of}
use Rattle.order_machine.specs.Machine.{Machine, has_role}
use Rattle.replica_model.specs.OpenReplica.{OpenReplica, Leading}
use Rattle.replica_model.specs.Quorums.{looked}
use Rattle.fleet_laws.specs.Counting.{count}
use Rattle.fleet_laws.specs.Fleets.{Fleet, IsAppointed}
use Rattle.fleet_laws.specs.Choice.{IsChosen}
use Rattle.fleet_laws.specs.Moves.{IsReached}
use Rattle.fleet_run.specs.Scenes.{FleetReplica, replica_at, held_by}
use Rattle.fleet_run.specs.Scenes.FleetReplica.{Open}
use Rattle.fleet_run.specs.Kernel.{IsCoded, code, entry_of, terms_of, Matches}

-- ---- what a disk may hold

-- the start of an epoch names the epoch in which it is logged
abbrev pub NamesEpoch : Epoch → Record → Type 0
NamesEpoch e (records.Begin txn) = Unit {0}
NamesEpoch e (records.Operation txn prev op) = Unit {0}
NamesEpoch e (records.End txn prev committed) = Unit {0}
NamesEpoch e (records.Barrier stable) = Unit {0}
NamesEpoch e (records.EpochStart named) = named ≡ e

-- its epoch has a number that stands for it alone
pub record IsItem (item : Epoch × Record) : Type 0 where
  pub coded : IsCoded item.0
  pub names : NamesEpoch item.0 item.1

-- A whole log that starts with nothing before it.
pub record IsKept (w : Whole) : Type 0 where
  pub start : w.start ≡ no_base
  pub fence : IsCoded w.fence
  pub items : All IsItem w.log

-- ---- an open replica

-- the same members, in whatever order
pub record SameMembers (a b : List ℕ) : Type 0 where
  pub sizes : length a ≡ length b
  pub counts : (p : ℕ → Bool) → count p a ≡ count p b

-- where another replica has acknowledged the log to, by what the primary knows
abbrev pub known_reached : Leading → ℕ → ℕ
known_reached l q = unwrap_or (lookup (λ other. q == other) l.reached) 0

-- The primary of an epoch has the whole history of it, counts in its configurations, and knows of no more than was acknowledged. While it is
-- active, what is stable is chosen; until then, that ends below the start of the epoch.
pub record IsLeading (f : Fleet Record) (r : ℕ) (o : OpenReplica) (l : Leading) : Type 0 where
  pub coded : IsCoded l.epoch
  pub appointed : IsAppointed f (code l.epoch)
  pub last : epoch_of o.disk ≡ l.epoch
  pub all : f.history (code l.epoch) ≡ map entry_of o.disk.log
  pub current : SameMembers l.current (f.current (code l.epoch))
  pub previous : MatchOption l.previous (f.activated (code l.epoch) ≡ true) (λ members. SameMembers members (f.previous (code l.epoch)))
  pub reached : (q : ℕ) → known_reached l q ≤ f.acknowledged q (code l.epoch)
  pub own : length o.disk.log ≤ f.acknowledged r (code l.epoch)
  pub chosen : l.active ≡ true → IsChosen f (code l.epoch) o.stable
  pub waits : l.active ≡ false → o.stable < f.start (code l.epoch)

-- An open replica keeps as stable at least what its log tells as that, has looked at all that was reached, and leads or not.
pub record IsStanding (f : Fleet Record) (r : ℕ) (o : OpenReplica) : Type 0 where
  pub number : o.id ≡ r
  pub told : stable_of o.disk ≤ o.stable
  pub settled : looked o ≡ o
  pub leads : (l : Leading) → o.leading ≡ Some l → IsLeading f r o l

-- ---- what the machine knows of primaries

-- the primary of the epoch has become active in it
abbrev pub has_begun : Machine → Epoch → Bool
has_begun m e = list_any (λ a. is_epoch e a.epoch && a.was_active) m.appointments

-- A role is of an epoch that was appointed; where the machine and a replica both know of a role, it is of one epoch; and once the primary of
-- an epoch has become active, the start of the epoch is chosen.
pub record RolesMatch (m : Machine) (replicas : List FleetReplica) (f : Fleet Record) : Type 0 where
  pub given : (r : ℕ) (e : Epoch) → has_role m r e ≡ true → list_any (λ t. is_epoch e t.epoch) (terms_of m) ≡ true
  pub led : (r : ℕ) (o : OpenReplica) (l : Leading) (e : Epoch) → replica_at replicas r ≡ Open o → o.leading ≡ Some l → has_role m r e ≡ true → e ≡ l.epoch
  pub begun : (e : Epoch) → has_begun m e ≡ true → IsChosen f (code e) (f.start (code e))

-- ---- the fleet

-- The machine and the replicas stand for a fleet that moves of the replication laws reach; each open replica is as it has to be,
-- and so is what each disk may hold.
pub record Sound (m : Machine) (replicas : List FleetReplica) (f : Fleet Record) : Type 0 where
  pub reached : IsReached f
  pub matches : Matches m replicas f
  pub roles : RolesMatch m replicas f
  pub nine : length replicas ≡ 9
  pub standing : (r : ℕ) (o : OpenReplica) → replica_at replicas r ≡ Open o → IsStanding f r o
  pub kept : (r : ℕ) (w : Whole) → Contains (held_by (replica_at replicas r)) w → IsKept w
