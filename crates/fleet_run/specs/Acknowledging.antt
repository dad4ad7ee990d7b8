-- Phases of a step's lines: a primary becomes active, and transactions are acknowledged.
use Rattle.std.specs.Prelude.{◌≡◌, ℕ, ◌≤◌, true, false, List, [], ◌++◌, ◌||◌, map, take, Some, None}
use mathlib.Core.List.{IsPrefix}
use Rattle.rc_base.specs.declared.ids.Epoch.{Epoch}
use Rattle.rc_base.specs.declared.ids.TxnId.{TxnId}
use Rattle.rc_base.specs.Ids.{epoch_lt, epoch_le, is_epoch}
use Rattle.log_records.specs.declared.record.Record.{Record}
use Rattle.txn_table.specs.declared.committed.Committed.{Committed}
use Rattle.order_machine.specs.declared.observation.Observation.TheVariants as says
use Rattle.order_machine.specs.Machine.{Machine, Role, role_of, order_of, is_pending, is_shown, is_acknowledged}
use Rattle.order_machine.specs.Transitions.{Position, may_grow}
use Rattle.order_machine.specs.Legal.{Lines, behind}
use Rattle.replica_model.specs.declared.step.StepEvent.{StepEvent}
use Rattle.replica_model.specs.declared.step.Outcome.{Outcome}
use Rattle.replica_model.specs.OpenReplica.{OpenReplica, Leading, is_active}
use Rattle.replica_model.specs.Steps.{written}
use Rattle.replica_model.specs.Quorums.{txns_of}
use Rattle.fleet_laws.specs.Fleets.{Fleet}
use Rattle.fleet_laws.specs.Moves.{Run}
use Rattle.history_laws.specs.Texts.{has_commit, AreOnce}
use Rattle.history_laws.specs.LockGuards.{OrderCommits}
use Rattle.fleet_run.specs.Scenes.{FleetReplica, replica_at}
use Rattle.fleet_run.specs.Scenes.FleetReplica.{Open}
use Rattle.fleet_run.specs.Acts.{order_lines, view_line, active_line}
use Rattle.fleet_run.specs.Phases.{IsAtStart, ComesToShow, ShowsBehind}
use Rattle.fleet_run.specs.Sound.{Sound}

-- What an active primary shows, each active primary of a later epoch shows too, whenever that is: so does whatever reads there see what was acknowledged.
abbrev pub LaterPrimariesShowMore : Type 0
LaterPrimariesShowMore =
    (m n : Machine) (replicas now : List FleetReplica) (f g : Fleet Record) → Sound m replicas f → Run f g → Sound n now g → (r q : ℕ) (o x : OpenReplica) (l k : Leading)
    → replica_at replicas r ≡ Open o → o.leading ≡ Some l → l.active ≡ true → replica_at now q ≡ Open x → x.leading ≡ Some k → k.active ≡ true → epoch_lt l.epoch k.epoch ≡ true
    → IsPrefix (take o.stable o.disk.log) (take x.stable x.disk.log)

-- What the machine knows of a primary whose step may make it active: the same role, active or not as it is behind what the step wrote. Where it is active then, all that was
-- acknowledged up to its epoch is among what it shows.
pub record MayRise (p : Position) (o : OpenReplica) (step : StepEvent) (told : Outcome) (now : List Committed) : Type 0 where
  pub role : Role
  pub has : role_of p.machine o.id ≡ Some role
  pub active : role.active ≡ is_active (written o step)
  pub shows : told.active ≡ true → (t : TxnId) → is_acknowledged p.machine t ≡ true → epoch_le t.epoch role.epoch ≡ true → has_commit now t ≡ true

-- the role behind the line: it is active if it was, or if the primary is
abbrev pub risen : Role → Outcome → Role
risen role told = record role { active = told.active || role.active }

-- Then the line that the primary is active may come behind those of the order and of the view.
abbrev pub ActiveMayCome : Type 0
ActiveMayCome =
    (p : Position) (o : OpenReplica) (step : StepEvent) (told : Outcome) (before ordered now later : List Committed) → IsAtStart p o.id → ComesToShow p o told before ordered now later → (rises : MayRise p o step told now)
    → let lines = order_lines p.machine o told.commits ++ view_line o told ++ active_line o step told in
    Lines p lines × ShowsBehind p (behind p lines) o.id ordered now 4 × (role_of (behind p lines).machine o.id ≡ Some (risen rises.role told))

-- What the event's primary has come to show: the order has what it showed before, then what is new, and then maybe more; of what was shown before nothing is pending; what is
-- new and of its epoch is pending and shown, there and at each active primary from that epoch on.
pub record IsNewlyShown (p : Position) (r : ℕ) (epoch : Epoch) (before new later : List Committed) : Type 0 where
  pub primary : p.primary ≡ r
  pub grows : may_grow p ≡ true
  pub rank : p.rank ≤ 5
  pub opening : p.opening ≡ None
  pub growing : p.growing ≡ false
  pub faulted : p.faulted ≡ []
  pub role : (role : Role) → role_of p.machine r ≡ Some role → role.epoch ≡ epoch
  pub order : OrderCommits (order_of p.machine r) [] (before ++ new ++ later)
  pub once : AreOnce (before ++ new ++ later)
  pub done : (t : TxnId) → has_commit before t ≡ true → is_pending p.machine r t ≡ false
  pub pending : (t : TxnId) → has_commit new t ≡ true → is_epoch t.epoch epoch ≡ true → is_pending p.machine r t ≡ true
  pub shown : (t : TxnId) → has_commit new t ≡ true → is_epoch t.epoch epoch ≡ true → is_shown p.machine r t ≡ true
  pub elsewhere : (t : TxnId) → has_commit new t ≡ true → is_epoch t.epoch epoch ≡ true → (q : ℕ) (role : Role) → role_of p.machine q ≡ Some role → role.active ≡ true → epoch_le t.epoch role.epoch ≡ true → is_shown p.machine q t ≡ true

-- Then each of these is acknowledged in turn, and nothing that is shown is pending.
abbrev pub AcknowledgementsMayCome : Type 0
AcknowledgementsMayCome =
    (p : Position) (r : ℕ) (epoch : Epoch) (before new later : List Committed) → IsNewlyShown p r epoch before new later
    → let lines = map says.Committed (txns_of epoch new) in Lines p lines × ((t : TxnId) → has_commit (before ++ new) t ≡ true → is_pending (behind p lines).machine r t ≡ false)
