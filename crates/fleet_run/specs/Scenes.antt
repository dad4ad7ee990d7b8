-- The state of a fleet: the machine that its lines tell, and each of its replicas.
use Rattle.std.specs.Prelude.{ℕ, List, [], ◌∷◌, replicate, get_or}
use Rattle.rc_base.specs.Ids.{no_epoch}
use Rattle.txn_table.specs.Log.{no_base}
use Rattle.txn_table.specs.Whole.{Whole}
use Rattle.events.specs.declared.event.Event.{Event}
use Rattle.order_machine.specs.Machine.{Machine, empty_machine}
use Rattle.order_machine.specs.Transitions.{Position, opened}
use Rattle.replica_model.specs.OpenReplica.{OpenReplica}

-- A replica of the fleet: an open one, or what the disk of a closed one may hold.
pub data FleetReplica : Type 0 where
  Open : OpenReplica → FleetReplica
  Closed : List Whole → FleetReplica

-- a fleet between two events
pub record FleetState : Type 0 where
  pub machine : Machine
  pub replicas : List FleetReplica

-- a fleet within an event, between two of its acts
pub record Scene : Type 0 where
  pub position : Position
  pub replicas : List FleetReplica

-- what the disk of a replica may hold, once it is closed
abbrev pub held_by : FleetReplica → List Whole
held_by (Open o) = o.disk ∷ []
held_by (Closed ws) = ws

-- ---- before anything happened

-- a log that was never written
abbrev pub empty_whole : Whole
empty_whole = record { start = no_base; log = []; head = 0; base = 0; fence = no_epoch }

-- replica r; past the last one, one that was never opened
abbrev pub replica_at : List FleetReplica → ℕ → FleetReplica
replica_at replicas r = get_or replicas r (Closed (empty_whole ∷ []))

-- nine closed replicas with such logs
abbrev pub first_state : FleetState
first_state = record { machine = empty_machine; replicas = replicate 9 (Closed (empty_whole ∷ [])) }

-- ---- into an event, and out of it

-- as an event begins that isn't refused
abbrev pub entered : FleetState → Event → Scene
entered s event = record { position = opened s.machine event; replicas = s.replicas }

-- as it ends
abbrev pub left : Scene → FleetState
left s = record { machine = s.position.machine; replicas = s.replicas }
