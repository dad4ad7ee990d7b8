-- When a replica and its disk stand for an open replica of the model: it is a primary alone, or no primary.
use Rattle.std.specs.Prelude.{◌≡◌, ◌⊎◌, ℕ, Bool, List, [], ◌∷◌, Contains, false, Option, Some, None, Ok}
use Rattle.rc_base.specs.declared.ids.Epoch.{Epoch}
use Rattle.disk_model.specs.Disk.{Areas}
use Rattle.txn_table.specs.Log.{no_base}
use Rattle.txn_table.specs.Whole.{Whole, epoch_of}
use Rattle.log_store.specs.declared.kept.Kept.{Kept}
use Rattle.log_store.specs.Durable.{durable, StandFor, StandForOneOf}
use Rattle.log_store.specs.Growth.{after}
use Rattle.log_store.specs.Store.{Store, IsOpenOn}
use Rattle.txn_front.specs.Front.{AreAlike}
use Rattle.replica_model.specs.declared.role.Role.{Role}
use Rattle.replica_model.specs.declared.role.Role.TheVariants.{Other, Primary}
use Rattle.replica_model.specs.declared.step.StepEvent.{StepEvent}
use Rattle.replica_model.specs.OpenReplica.{OpenReplica, Leading, last_lsn, view_of, contents_of, unshown_commits}
use Rattle.replica_model.specs.Records.{step_block}
use Rattle.replica_model.specs.Steps.{step_result, step_outcome}
use Rattle.replica.specs.Open.{Open, AreSame, AgreesWith}
use Rattle.replica.specs.Step.{block, stepped, outcome}

-- ---- a replica

-- the role of a primary whose configuration is itself alone, and so was the one before, until it is dropped
pub record LeadsAlone (id : ℕ) (e : Epoch) (serves : Bool) (l : Leading) : Type 0 where
  pub epoch : l.epoch ≡ e
  pub active : l.active ≡ serves
  pub current : l.current ≡ id ∷ []
  pub previous : (l.previous ≡ None) ⊎ (l.previous ≡ Some (id ∷ []))

abbrev pub IsRoleOf : ℕ → Role → Option Leading → Type 0
IsRoleOf id Other None = Unit {0}
IsRoleOf id Other (Some l) = ⊥
IsRoleOf id (Primary epoch active) None = ⊥
IsRoleOf id (Primary epoch active) (Some l) = LeadsAlone id epoch active l

-- the whole log that a disk holds which was never truncated
abbrev pub whole_of : Kept → Whole
whole_of kept = record { start = no_base; log = kept.records; head = 0; base = 0; fence = kept.fence }

-- The replica is open over its disk, which holds this log, and what it keeps is that of the model's replica, whatever the
-- order between grants of different names is.
pub record AgreesOn (x : Open) (o : OpenReplica) (images : Areas → Type 0) : Type 0 where
  pub kept : Kept
  pub stands : StandFor kept images
  pub opened : IsOpenOn x.log images
  pub not_closed : x.log.log.closed ≡ false
  pub agrees : AgreesWith x kept
  pub id : o.id ≡ x.id
  pub disk : o.disk ≡ whole_of kept
  pub stable : o.stable ≡ x.stable.0
  pub role : IsRoleOf x.id x.role o.leading
  pub front : AreAlike x.front o.front

-- ---- what a replica keeps, by the model's value

abbrev pub role_of : Option Leading → Role
role_of None = Other
role_of (Some l) = Primary l.epoch l.active

-- what a replica with this store keeps that agrees with the value, up to the order between grants of different names
abbrev pub kept_of : Store → OpenReplica → Open
kept_of log o = record {
  id = o.id;
  log = log;
  fence = o.disk.fence;
  epoch = epoch_of o.disk;
  last = last_lsn o;
  stable = record { 0 = o.stable };
  shown = view_of o;
  contents = contents_of o;
  ahead = unshown_commits o;
  role = role_of o.leading;
  front = o.front;
}

-- ---- a step

-- what `Replica::step` promises of a step that was done
pub record IsStep (x new : Open) (event : StepEvent) (before now : Areas → Type 0) : Type 0 where
  pub kept : AreSame new (record (stepped x event) { log = new.log })
  pub agrees : (v : Kept) → StandFor v before → AgreesWith x v → StandFor (after v (block x event)) now × AgreesWith new (after v (block x event))
  pub opened : IsOpenOn new.log now
  pub not_closed : new.log.log.closed ≡ false

-- it logs and tells what the model says, and leaves what the model says
pub record StepAgrees (x new : Open) (o : OpenReplica) (event : StepEvent) (now : Areas → Type 0) : Type 0 where
  pub block : block x event ≡ step_block o event
  pub outcome : outcome x event ≡ step_outcome o event
  pub then : AgreesOn new (step_result o event) now

-- ---- a step that failed

-- what `Replica::step` promises of the disk, whether the step was done or not
abbrev pub IsStop : Open → StepEvent → (before now : Areas → Type 0) → Type 0
IsStop x event before now = (v : Kept) → StandFor v before → AgreesWith x v → StandForOneOf v (after v (block x event)) now

-- this image holds one of these logs
pub record HoldsOneOf (logs : List Whole) (image : Areas) : Type 0 where
  pub kept : Kept
  pub is : durable image ≡ Ok kept
  pub one : Contains logs (whole_of kept)
