-- What the machine keeps of the names of transactions, so that a begin gives a new one.
use Rattle.std.specs.Prelude.{◌≡◌, ℕ, ◌≤◌, false, List, None, Some, find}
use Rattle.std.specs.Map.{lookup}
use Rattle.rc_base.specs.declared.ids.TxnId.{TxnId}
use Rattle.rc_base.specs.Ids.{is_epoch, is_txn}
use Rattle.order_machine.specs.Machine.{Machine, Replica, Role, Txn, Appointment, replica, txn_of, appointment_of}

-- the epoch of the role was appointed to replica r, and its begins count the transactions of the epoch
pub record RoleNumbering (txns : List (TxnId × Txn)) (appointments : List Appointment) (r : ℕ) (role : Role) : Type 0 where
  pub appointment : Appointment
  pub appointed : find (λ a. is_epoch role.epoch a.epoch) appointments ≡ Some appointment
  pub primary : appointment.primary ≡ r
  pub counted : (t : TxnId) (x : Txn) → lookup (is_txn t) txns ≡ Some x → t.epoch ≡ role.epoch → t.n ≤ role.begins

-- a closed replica has no role
pub record ReplicaNumbering (txns : List (TxnId × Txn)) (appointments : List Appointment) (r : ℕ) (rep : Replica) : Type 0 where
  pub closed : rep.up ≡ false → rep.role ≡ None
  pub role : (role : Role) → rep.role ≡ Some role → RoleNumbering txns appointments r role

-- the names of transactions count on: each is of an epoch that was appointed, to its home
pub record Numbering (m : Machine) : Type 0 where
  pub replicas : (r : ℕ) → ReplicaNumbering m.txns m.appointments r (replica m r)
  pub home : (t : TxnId) (x : Txn) → txn_of m t ≡ Some x → (a : Appointment) × (appointment_of m t.epoch ≡ Some a) × (a.primary ≡ x.home)
