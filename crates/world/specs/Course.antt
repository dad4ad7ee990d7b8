-- What holds of the appointments and surveys of a world of one member, and of the transactions and logs beside them.
use Rattle.std.specs.Prelude.{◌≡◌, ◌⊎◌, Bool, true, false, List, [], ◌∷◌, All, Some}
use Rattle.std.specs.List.{list_any}
use Rattle.std.specs.Map.{lookup}
use Rattle.rc_base.specs.declared.ids.Epoch.{Epoch}
use Rattle.rc_base.specs.declared.ids.TxnId.{TxnId}
use Rattle.rc_base.specs.Ids.{is_epoch, is_txn, epoch_le}
use Rattle.config_rule.specs.declared.appointments.Appointed.{Appointed}
use Rattle.txn_table.specs.declared.committed.Committed.{Committed}
use Rattle.txn_table.specs.Log.{last_epoch}
use Rattle.log_store.specs.declared.kept.Kept.{Kept as Log}
use Rattle.order_machine.specs.Order.{Entry, holds}
use Rattle.order_machine.specs.Machine.{Appointment, Txn, ops_of}
use Rattle.events.specs.Replay.{Replays}
use Rattle.world.specs.Running.{state_of}
use Rattle.world.specs.Standing.{Course}

-- ---- appointments

-- an appointment of replica 0, alone, to an epoch up to the latest
pub record IsOurs (latest : Epoch) (a : Appointment) : Type 0 where
  pub primary : a.primary ≡ 0
  pub current : a.current ≡ 0 ∷ []
  pub within : epoch_le a.epoch latest ≡ true

-- an epoch was appointed
abbrev pub is_appointed : Course → Epoch → Bool
is_appointed course e = list_any (λ a. is_epoch e a.epoch) (course.first ∷ course.later)

pub record IsCourse (course : Course) : Type 0 where
  pub each : All (IsOurs course.latest) (course.first ∷ course.later)
  pub latest : is_appointed course course.latest ≡ true

-- ---- the rule of reconfiguration

-- what a rule has noted of an appointment
pub record IsNoted (known : Appointed) (a : Appointment) : Type 0 where
  pub epoch : known.epoch ≡ a.epoch
  pub members : known.cc ≡ a.current
  pub active : known.active ≡ a.was_active

abbrev pub AreNoted : List Appointed → List Appointment → Type 0
AreNoted [] [] = Unit {0}
AreNoted [] (a ∷ appointments) = ⊥
AreNoted (known ∷ others) [] = ⊥
AreNoted (known ∷ others) (a ∷ appointments) = IsNoted known a × AreNoted others appointments

-- ---- transactions after the end of a role

-- a transaction that was begun here in an epoch up to the latest, and doesn't go on
pub record IsPast (latest : Epoch) (t : TxnId) (x : Txn) : Type 0 where
  pub home : x.home ≡ 0
  pub within : epoch_le t.epoch latest ≡ true
  pub over : x.live ≡ false

-- no transaction goes on, and what was acknowledged is in the order
pub record ArePast (course : Course) (entries : List Entry) (acknowledged : List TxnId) (txns : List (TxnId × Txn)) : Type 0 where
  pub each : (t : TxnId) (x : Txn) → lookup (is_txn t) txns ≡ Some x → IsPast course.latest t x
  pub held : (t : TxnId) → list_any (is_txn t) acknowledged ≡ true → holds entries t ≡ true
  pub held_within : (t : TxnId) → holds entries t ≡ true → epoch_le t.epoch course.latest ≡ true

-- ---- what a log holds beside the order

-- a commit that may be the next of the order: it was asked, and has all operations of its transaction, whose calls a replay
-- after these entries gives the answers that they had
pub record MayBeNext (entries : List Entry) (txns : List (TxnId × Txn)) (c : Committed) : Type 0 where
  pub txn : Txn
  pub known : lookup (is_txn c.txn) txns ≡ Some txn
  pub new : holds entries c.txn ≡ false
  pub asked : txn.asked ≡ true
  pub whole : c.ops ≡ ops_of txn
  pub replays : Replays (state_of entries) txn.calls

-- beyond the order a log commits nothing, or one transaction that may be the next
abbrev pub MayFollow : List Entry → List (TxnId × Txn) → List Committed → Type 0
MayFollow entries txns [] = Unit {0}
MayFollow entries txns (c ∷ []) = MayBeNext entries txns c
MayFollow entries txns (c ∷ d ∷ more) = ⊥

-- the fence of a log isn't above the latest epoch, or it is that of a survey
abbrev pub IsFence : Course → Epoch → Type 0
IsFence course fence = (epoch_le fence course.latest ≡ true) ⊎ (list_any (λ s. is_epoch fence s.epoch) course.surveys ≡ true)

-- the epoch of its last record was appointed
abbrev pub IsLogged : Course → Log → Type 0
IsLogged course log = (is_appointed course (last_epoch log.records) ≡ true) ⊎ (log.records ≡ [])
