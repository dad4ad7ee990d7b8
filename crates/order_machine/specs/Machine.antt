-- The machine that every transcript is a run of: orders, what each replica shows, transactions, appointments.
use Rattle.std.specs.Prelude.{ℕ, ◌-◌, Bool, false, not, ◌&&◌, ◌==◌, if◌then◌else◌, List, [], ◌∷◌, map, replicate, set, get_or, slice_get, Option, Some, None, option_and_then, find, length}
use Rattle.std.specs.Option.{option_map_or}
use Rattle.std.specs.List.{list_any, list_all}
use Rattle.std.specs.Map.{lookup}
use Rattle.rc_base.specs.declared.ids.Epoch.{Epoch}
use Rattle.rc_base.specs.declared.ids.TxnId.{TxnId}
use Rattle.coll_model.specs.declared.op.Op.{Op}
use Rattle.key_locks.specs.Grants.{Grant}
use Rattle.config_rule.specs.declared.answers.SurveyAnswer.{SurveyAnswer}
use Rattle.config_rule.specs.declared.appointments.Appointed.{Appointed}
use Rattle.config_rule.specs.Rule.{Known}
use Rattle.events.specs.Calls.{CallRecord, ops_in}
use Rattle.rc_base.specs.Ids.{is_epoch, is_txn}
use Rattle.order_machine.specs.Order.{Order, empty_order, holds, first_of}

-- ---- what the machine keeps

-- a primary's role: its epoch, whether it is active, how many transactions it began, and its idle replicas
pub record Role : Type 0 where
  pub epoch : Epoch
  pub active : Bool
  pub begins : ℕ
  pub idle : List ℕ

-- a survey of an epoch at a replica, answered, or cut off by a fault
pub record Survey : Type 0 where
  pub epoch : Epoch
  pub faulted : Bool

-- A replica: whether it is open; how many transactions of its order it shows, or showed last; the loss number that
-- names its order; its role; who holds which lock there; and the surveys that came to it.
pub record Replica : Type 0 where
  pub up : Bool
  pub show : ℕ
  pub loss : ℕ
  pub role : Option Role
  pub grants : List Grant
  pub surveys : List Survey

-- A transaction: the replica that began it, what that showed then, its calls, whether it goes on, and whether its
-- commit was asked.
pub record Txn : Type 0 where
  pub home : ℕ
  pub shown_at_begin : ℕ
  pub calls : List CallRecord
  pub live : Bool
  pub asked : Bool

-- An appointment: its epoch and primary; the previous and the current configuration; whether the previous one was
-- dropped; and whether its primary was ever active.
pub record Appointment : Type 0 where
  pub epoch : Epoch
  pub primary : ℕ
  pub previous : List ℕ
  pub current : List ℕ
  pub dropped : Bool
  pub was_active : Bool

-- The orders by loss number; the acknowledged transactions; the nine replicas; the transactions, each with its newest
-- entry first; the appointments, the latest last; the configuration last activated; and what replicas answered to surveys.
pub record Machine : Type 0 where
  pub orders : List Order
  pub acknowledged : List TxnId
  pub replicas : List Replica
  pub txns : List (TxnId × Txn)
  pub appointments : List Appointment
  pub config : List ℕ
  pub answers : List SurveyAnswer

-- ---- the start of a world

abbrev pub never_opened : Replica
never_opened = record { up = false; show = 0; loss = 0; role = None; grants = []; surveys = [] }

abbrev pub empty_machine : Machine
empty_machine = record {
  orders = empty_order ∷ [];
  acknowledged = [];
  replicas = replicate 9 never_opened;
  txns = [];
  appointments = [];
  config = [];
  answers = [];
}

-- ---- reading and changing it

abbrev pub replica : Machine → ℕ → Replica
replica m r = get_or m.replicas r never_opened

abbrev pub put_replica : Machine → ℕ → Replica → Machine
put_replica m r new = record m { replicas = set m.replicas r new }

-- the order that r shows a beginning of
abbrev pub order_of : Machine → ℕ → Order
order_of m r = get_or m.orders (replica m r).loss empty_order

abbrev pub put_order : Machine → ℕ → Order → Machine
put_order m r new = record m { orders = set m.orders (replica m r).loss new }

abbrev pub txn_of : Machine → TxnId → Option Txn
txn_of m t = lookup (is_txn t) m.txns

abbrev pub put_txn : Machine → TxnId → Txn → Machine
put_txn m t new = record m { txns = (t, new) ∷ m.txns }

abbrev pub role_of : Machine → ℕ → Option Role
role_of m r = (replica m r).role

abbrev pub put_role : Machine → ℕ → Option Role → Machine
put_role m r new = put_replica m r (record (replica m r) { role = new })

abbrev pub grants_of : Machine → ℕ → List Grant
grants_of m r = (replica m r).grants

abbrev pub put_grants : Machine → ℕ → List Grant → Machine
put_grants m r new = put_replica m r (record (replica m r) { grants = new })

-- nothing goes on at the replica any more
abbrev pub ended_at : ℕ → List (TxnId × Txn) → List (TxnId × Txn)
ended_at r [] = []
ended_at r (entry ∷ txns) = (entry.0, if entry.1.home == r then record entry.1 { live = false } else entry.1) ∷ ended_at r txns

-- the role of the replica ends, and with it what goes on there; its grants go
abbrev pub without_role : Machine → ℕ → Machine
without_role m r = record (put_replica m r (record (replica m r) { role = None; grants = [] })) { txns = ended_at r m.txns }

-- the replica is closed: its role ends, and with it what goes on there; what it showed last is kept
abbrev pub closed : Machine → ℕ → Machine
closed m r = record (put_replica m r (record (replica m r) { up = false; role = None; grants = [] })) { txns = ended_at r m.txns }

abbrev pub appointment_of : Machine → Epoch → Option Appointment
appointment_of m e = find (λ a. is_epoch e a.epoch) m.appointments

-- the latest appointment, once there is one
abbrev pub latest_of : Machine → Option Appointment
latest_of m = slice_get m.appointments (length m.appointments - 1)

-- what the rule of reconfiguration knows of an appointment, and of the machine
abbrev pub as_appointed : Appointment → Appointed
as_appointed a = record { epoch = a.epoch; primary = Some a.primary; pc = a.previous; cc = a.current; active = a.was_active; activated = false }

abbrev pub known_of : Machine → Known
known_of m = record { appointed = map as_appointed m.appointments; current = m.config; answers = m.answers }

-- ---- tests

abbrev pub is_booted : Machine → Bool
is_booted m = not (length m.appointments == 0)

-- r is the primary of this epoch
abbrev pub has_role : Machine → ℕ → Epoch → Bool
has_role m r e = option_map_or (λ role. is_epoch e role.epoch) (role_of m r) false

abbrev pub is_active : Machine → ℕ → Bool
is_active m r = option_map_or (λ role. role.active) (role_of m r) false

-- the configurations that a primary counts in: the current one, and the previous one until it is dropped
abbrev pub configs_of : Appointment → List (List ℕ)
configs_of a = if a.dropped then a.current ∷ [] else a.current ∷ a.previous ∷ []

-- each member of r's configurations is r itself
abbrev pub is_alone : Machine → ℕ → Bool
is_alone m r =
    option_map_or (λ a. list_all (λ c. list_all (λ member. member == r) c) (configs_of a))
    (option_and_then (λ role. appointment_of m role.epoch) (role_of m r)) false

-- T is among the first transactions, those that r shows
abbrev pub is_shown : Machine → ℕ → TxnId → Bool
is_shown m r t = holds (first_of (order_of m r) (replica m r).show) t

abbrev pub is_acknowledged : Machine → TxnId → Bool
is_acknowledged m t = list_any (is_txn t) m.acknowledged

-- T goes on at r
abbrev pub is_live : Machine → ℕ → TxnId → Bool
is_live m r t = option_map_or (λ x. x.live && (x.home == r)) (txn_of m t) false

-- the transaction that goes on at r under this name
abbrev pub live_txn : Machine → ℕ → TxnId → Option Txn
live_txn m r t = if is_live m r t then txn_of m t else None

-- T's commit was asked at r, whose role in which it began lasts, and T isn't acknowledged
abbrev pub is_pending : Machine → ℕ → TxnId → Bool
is_pending m r t =
    option_map_or (λ x. x.asked && (x.home == r)) (txn_of m t) false && (has_role m r t.epoch && not (is_acknowledged m t))

-- the operations that T logged, in order
abbrev pub ops_of : Txn → List Op
ops_of x = ops_in x.calls
