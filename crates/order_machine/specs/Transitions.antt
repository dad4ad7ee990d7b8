-- The lines of an event, one after another: where each may come, and what it changes.
use Rattle.std.specs.Prelude.{◌≡◌, ◌⊎◌, length, ℕ, ◌+◌, ◌<◌, ◌≤◌, Bool, true, false, not, ◌&&◌, ◌||◌, ◌==◌, nat_le, if◌then◌else◌, List, [], ◌∷◌, ◌++◌, drop, filter, Option, Some, None, is_some, is_none, option_map}
use Rattle.std.specs.Option.{option_map_or}
use Rattle.std.specs.List.{list_any, list_all}
use Rattle.rc_base.specs.declared.ids.Epoch.{Epoch}
use Rattle.rc_base.specs.declared.ids.TxnId.{TxnId}
use Rattle.coll_model.specs.declared.op.Op.{Op}
use Rattle.events.specs.declared.event.Event.{Event}
use Rattle.events.specs.declared.event.Event.TheVariants.{Boot, Client, Arm, Crash, Reboot, Inspect, Survey, Appoint, Activate}
use Rattle.events.specs.declared.call.Call.{Call}
use Rattle.events.specs.declared.call.Call.TheVariants.{Commit, Abort}
use Rattle.order_machine.specs.declared.observation.Observation.{Observation}
use Rattle.order_machine.specs.declared.observation.Observation.TheVariants as says
use Rattle.rc_base.specs.Ids.{no_epoch, is_txn, is_epoch, epoch_lt, epoch_le}
use Rattle.key_locks.specs.Grants.{released}
use Rattle.config_rule.specs.Rule.{are_members, broken_appointment, broken_activation, with_answer}
use Rattle.order_machine.specs.Order.{length_of, state_at, holds, before}
use Rattle.order_machine.specs.Machine.{Machine, Replica, Role, Txn, Appointment, replica, put_replica, order_of, put_order, txn_of, put_txn, role_of, put_role, grants_of, put_grants, appointment_of, latest_of, known_of, has_role, is_booted, is_active, is_alone, is_shown, is_acknowledged, live_txn, is_pending, ops_of, without_role, closed}
use Rattle.events.specs.Locking.{locks_at, taken}
use Rattle.order_machine.specs.Contents.{rows_of}
use Rattle.events.specs.declared.answer.Answer.{Answer}
use Rattle.events.specs.declared.answer.Answer.TheVariants as answers
use Rattle.events.specs.declared.answer.Reply.{Reply}
use Rattle.order_machine.specs.AnswerLines.{line_of_answer}
use Rattle.order_machine.specs.Clients.{answer, answered_at, seen}
use Rattle.events.specs.Calls.{txn_named}
use Rattle.events.specs.Replay.{Replays}

-- ---- what an event's lines are about

-- The place within the lines of an event: the machine as it is there; the event; the replica whose clients it may answer;
-- the answer to a client call, as it was when the event began; whether the event's answer stands; the rank of the last line; the replica whose `up`
-- stands, so that its `view` is next; whether an `order` stands, so that more of them or a `view` are next; the
-- replicas that are still to be opened; the `rows` that an inspection still has to print; the primaries that became
-- active or showed more; and the replicas that a fault closed.
pub record Position : Type 0 where
  pub machine : Machine
  pub event : Event
  pub primary : ℕ
  pub client : Option Reply
  pub answered : Bool
  pub rank : ℕ
  pub opening : Option ℕ
  pub growing : Bool
  pub mounts : List ℕ
  pub rows : List (List (List ℕ))
  pub rose : List ℕ
  pub faulted : List ℕ

-- the primary of the latest appointment; replica 0 where there is none
abbrev pub latest_primary : Machine → ℕ
latest_primary m = option_map_or (λ a. a.primary) (latest_of m) 0

-- the replica whose clients an event may answer
abbrev pub event_primary : Machine → Event → ℕ
event_primary m (Boot p members) = p
event_primary m (Client r call) = r
event_primary m (Arm r calls) = r
event_primary m (Crash r pick) = r
event_primary m (Reboot r) = r
event_primary m (Inspect r) = r
event_primary m (Survey r e) = r
event_primary m (Appoint e p members) = p
event_primary m (Activate e) = latest_primary m

-- whether the replica takes a step in an event with this primary
abbrev pub is_actor : ℕ → Event → ℕ → Bool
is_actor primary (Boot p members) r = list_any (λ member. member == r) members
is_actor primary event r = primary == r

abbrev pub is_boot : Event → Bool
is_boot (Boot p members) = true
is_boot _ = false

-- a client's call
abbrev pub is_call : Event → Bool
is_call (Client r call) = true
is_call _ = false

-- it appoints a primary, or drops a previous configuration
abbrev pub is_reconfiguration : Event → Bool
is_reconfiguration (Appoint e p members) = true
is_reconfiguration (Activate e) = true
is_reconfiguration _ = false

-- the event opens replicas
abbrev pub is_opening : Event → Bool
is_opening (Boot p members) = true
is_opening (Reboot r) = true
is_opening _ = false

-- ---- refusals

-- before the boot each other event is refused, and then what else refuses it
abbrev pub once_booted : Machine → Option Answer → Option Answer
once_booted m refused = if is_booted m then refused else Some (answers.Refused 9)

-- something is asked of a replica that is closed
abbrev pub down_of : Machine → ℕ → Option Answer
down_of m r = if (replica m r).up then None else Some (answers.Down r)

-- an epoch is above each appointed one
abbrev pub is_above_all : Machine → Epoch → Bool
is_above_all m e = list_all (λ a. epoch_lt a.epoch e) m.appointments

-- The one line of an event that the machine's state refuses: before the boot each other event, and then a second boot;
-- what breaks a part of the rule of reconfiguration; and what asks something of a replica that is closed, or opens one that
-- is open.
abbrev pub refusal : Machine → Event → Option Answer
refusal m (Boot p members) =
    if is_booted m then Some (answers.Refused 9) else (if are_members members p then None else Some (answers.Refused 2))
refusal m (Client r call) = once_booted m None
refusal m (Arm r calls) = once_booted m (down_of m r)
refusal m (Crash r pick) = once_booted m None
refusal m (Reboot r) = once_booted m (if (replica m r).up then Some answers.IgnoredUp else None)
refusal m (Inspect r) = once_booted m (down_of m r)
refusal m (Survey r e) = once_booted m (if is_above_all m e then down_of m r else Some (answers.Refused 1))
refusal m (Appoint e p members) = once_booted m (option_map answers.Refused (broken_appointment (known_of m) e p members (replica m p).up))
refusal m (Activate e) = once_booted m (option_map answers.Refused (broken_activation (known_of m) e))

-- ---- the beginning of an event

abbrev pub first_epoch : Epoch
first_epoch = record { loss = 0; number = 1 }

-- the members by rising number
abbrev pub in_order : List ℕ → List ℕ
in_order members =
    filter (λ r. list_any (λ member. member == r) members) (0 ∷ 1 ∷ 2 ∷ 3 ∷ 4 ∷ 5 ∷ 6 ∷ 7 ∷ 8 ∷ [])

-- the machine as a boot begins: the first appointment, with its members as both configurations
abbrev pub booting : Machine → ℕ → List ℕ → Machine
booting m p members = record m {
  appointments = record { epoch = first_epoch; primary = p; previous = members; current = members; dropped = false; was_active = false } ∷ [];
  config = members;
}

-- the transaction that goes on under this name at an active primary
abbrev pub going_at : Machine → ℕ → TxnId → Option Txn
going_at m r t = if is_active m r then live_txn m r t else None

-- the machine as a live transaction's commit is asked, and as its abort is: then its locks go
abbrev pub asking_commit : Machine → ℕ → TxnId → Machine
asking_commit m r t = option_map_or (λ x. put_txn m t (record x { live = false; asked = true })) (going_at m r t) m

abbrev pub asking_abort : Machine → ℕ → TxnId → Machine
asking_abort m r t =
    option_map_or (λ x. put_txn (put_grants m r (released (grants_of m r) t)) t (record x { live = false })) (going_at m r t) m

-- the machine as another call of a live transaction is asked: it has the locks that nobody stood against
abbrev pub asking_locks : Machine → ℕ → TxnId → Call → Machine
asking_locks m r t call =
    option_map_or (λ x. put_grants m r (taken (grants_of m r) t (locks_at (seen m r x) call))) (going_at m r t) m

-- the machine as a call is asked
abbrev pub asking : Machine → ℕ → Call → Machine
asking m r (Commit t) = asking_commit m r t
asking m r (Abort t) = asking_abort m r t
asking m r call = option_map_or (λ t. asking_locks m r t call) (txn_named call) m

abbrev pub new_role : Epoch → Role
new_role epoch = record { epoch = epoch; active = false; begins = 0; idle = [] }

-- the machine as an appointment is done: the role that its primary had ends, and it has that of the new epoch
abbrev pub appointing : Machine → Epoch → ℕ → List ℕ → Machine
appointing m e p members = let ended = put_role (without_role m p) p (Some (new_role e)) in record ended {
  appointments = m.appointments ++ record { epoch = e; primary = p; previous = m.config; current = members; dropped = false; was_active = false } ∷ [];
}

-- the appointment of the epoch has dropped its previous configuration
abbrev pub dropping : Epoch → List Appointment → List Appointment
dropping e [] = []
dropping e (a ∷ others) = (if is_epoch e a.epoch then record a { dropped = true } else a) ∷ dropping e others

-- the machine as an appointment is activated: its configuration is the one there is, and its primary, if it is one
-- still, drops the previous one
abbrev pub activating_of : Machine → Appointment → Machine
activating_of m a = record m {
  config = a.current;
  appointments = if has_role m a.primary a.epoch then dropping a.epoch m.appointments else m.appointments;
}

abbrev pub activating : Machine → Epoch → Machine
activating m e = option_map_or (activating_of m) (appointment_of m e) m

abbrev pub at_start : Machine → Event → ℕ → Option Reply → List ℕ → Position
at_start m event primary client mounts = record {
  machine = m;
  event = event;
  primary = primary;
  client = client;
  answered = false;
  rank = 0;
  opening = None;
  growing = false;
  mounts = mounts;
  rows = [];
  rose = [];
  faulted = [];
}

-- where an event that isn't refused begins
abbrev pub opened : Machine → Event → Position
opened m (Boot p members) = at_start (booting m p members) (Boot p members) p None (in_order members)
opened m (Client r call) = at_start (asking m r call) (Client r call) r (answer m r call) []
opened m (Arm r calls) = at_start m (Arm r calls) r None []
opened m (Crash r pick) = at_start (closed m r) (Crash r pick) r None []
opened m (Reboot r) = at_start m (Reboot r) r None (r ∷ [])
opened m (Inspect r) = at_start m (Inspect r) r None []
opened m (Survey r e) = at_start m (Survey r e) r None []
opened m (Appoint e p members) = at_start (appointing m e p members) (Appoint e p members) p None []
opened m (Activate e) = at_start (activating m e) (Activate e) (latest_primary m) None []

-- ---- the order of lines

-- Within a step the ranks don't fall, and `view` and `active` come once.
abbrev pub rank_of : Observation → ℕ
rank_of (says.Up r) = 0
rank_of (says.Order t ops) = 2
rank_of (says.View r n) = 3
rank_of (says.Active r) = 4
rank_of (says.Committed t) = 5
rank_of (says.Fault r) = 9
rank_of _ = 6

abbrev pub comes_once : Observation → Bool
comes_once (says.View r n) = true
comes_once (says.Active r) = true
comes_once _ = false

abbrev pub is_in_rank : ℕ → Observation → Bool
is_in_rank rank o = nat_le (if comes_once o then rank + 1 else rank) (rank_of o)

-- behind `up r` its `view` is next, and behind `order` another one or a `view`
abbrev pub is_next : Position → Observation → Bool
is_next p (says.View r n) = option_map_or (λ opening. opening == r) p.opening true
is_next p (says.Order t ops) = is_none p.opening
is_next p _ = is_none p.opening && not p.growing

-- behind a fault only a boot goes on
abbrev pub may_go_on : Position → Bool
may_go_on p = is_boot p.event || length p.faulted == 0

-- ---- the rows

-- a replica is opened: in a boot, the members that are down, one after another
abbrev pub MayOpen : Position → ℕ → Type 0
MayOpen p r = ((replica p.machine r).up ≡ false) × ((rest : List ℕ) × (p.mounts ≡ r ∷ rest))

-- the next transaction of the order: its commit was asked, its operations are all of its own, and its answers are
-- those of a replay at its place
pub record MayOrder (p : Position) (t : TxnId) (ops : List Op) : Type 0 where
  pub txn : Txn
  pub known : txn_of p.machine t ≡ Some txn
  pub new : holds (order_of p.machine (p.primary)).entries t ≡ false
  pub asked : txn.asked ≡ true
  pub whole : ops ≡ ops_of txn
  pub replays : let order = order_of p.machine (p.primary) in Replays (state_at order (length_of order)) txn.calls

-- A replica that takes a step in the event shows more: it was opened, or it is a primary. Behind `order` it is the event's
-- primary, whose order grew, and it shows all of that.
pub record MayShow (p : Position) (r n : ℕ) : Type 0 where
  pub within : n ≤ length_of (order_of p.machine r)
  pub all_that_grew : p.growing ≡ true → n ≡ length_of (order_of p.machine r)
  pub grew_here : p.growing ≡ true → r ≡ p.primary
  pub more : p.opening ≡ None → (replica p.machine r).show < n
  pub primary : p.opening ≡ None → is_some (role_of p.machine r) ≡ true
  pub acts : is_actor p.primary p.event r ≡ true

-- a primary becomes active: it shows each transaction that was acknowledged up to its epoch
pub record MayBeActive (p : Position) (r : ℕ) : Type 0 where
  pub role : Role
  pub has : role_of p.machine r ≡ Some role
  pub not_yet : role.active ≡ false
  pub shows : (t : TxnId) → is_acknowledged p.machine t ≡ true → epoch_le t.epoch role.epoch ≡ true → is_shown p.machine r t ≡ true
  pub acts : is_actor p.primary p.event r ≡ true

-- A transaction is acknowledged to its client at the event's primary: it is pending and shown there, no other that is
-- pending there stands before it in the order, and each active primary of its epoch or a later one shows it.
pub record MayCommit (p : Position) (t : TxnId) : Type 0 where
  pub pending : is_pending p.machine (p.primary) t ≡ true
  pub shown : is_shown p.machine (p.primary) t ≡ true
  pub first : (u : TxnId) → holds (before t (order_of p.machine (p.primary)).entries) u ≡ true → is_pending p.machine (p.primary) u ≡ false
  pub elsewhere : (q : ℕ) (role : Role) → role_of p.machine q ≡ Some role → role.active ≡ true → epoch_le t.epoch role.epoch ≡ true → is_shown p.machine q t ≡ true

-- the answer to a client call is the one that it had as the event began
abbrev pub MayAnswer : Position → Observation → Type 0
MayAnswer p o = (option_map (λ reply. line_of_answer reply.answer) p.client ≡ Some o) × (p.answered ≡ false)

-- `ok` answers a call that it is the answer of; a boot, once its members are opened and its primary has its role; and
-- what arms or stops a disk, or changes the configuration
abbrev pub MayBeDone : Position → Event → Type 0
MayBeDone p (Boot primary members) = (p.mounts ≡ []) × (is_some (role_of p.machine primary) ≡ true) × (p.answered ≡ false)
MayBeDone p (Client r call) = MayAnswer p says.Done
MayBeDone p (Arm r calls) = p.answered ≡ false
MayBeDone p (Crash r pick) = p.answered ≡ false
MayBeDone p (Reboot r) = ⊥
MayBeDone p (Inspect r) = ⊥
MayBeDone p (Survey r e) = ⊥
MayBeDone p (Appoint e primary members) = p.answered ≡ false
MayBeDone p (Activate e) = p.answered ≡ false

-- what r shows, by an inspection
abbrev pub shown_rows : Position → ℕ → List (List (List ℕ))
shown_rows p r = rows_of (state_at (order_of p.machine r) (replica p.machine r).show)

-- an inspection tells how many collections the replica shows, and then each of them
abbrev pub MayTell : Position → Event → ℕ → ℕ → Type 0
MayTell p (Inspect at) r k = (at ≡ r) × (k ≡ length (shown_rows p r)) × (p.answered ≡ false)
MayTell p _ r k = ⊥

-- ---- surveys

-- an epoch that the last record of a log may have: an appointed one below the survey's, or that of an empty log
abbrev pub IsProgress : Machine → Epoch → Epoch → ℕ → Type 0
IsProgress m e last_epoch last =
    ((is_some (appointment_of m last_epoch) ≡ true) × (epoch_lt last_epoch e ≡ true)) ⊎ ((last_epoch ≡ no_epoch) × (last ≡ 0))

-- a survey tells how far the replica's log reaches
abbrev pub MayTellProgress : Position → Event → ℕ → Epoch → ℕ → Type 0
MayTellProgress p (Survey at e) r last_epoch last = (at ≡ r) × IsProgress p.machine e last_epoch last × (p.answered ≡ false)
MayTellProgress p _ r last_epoch last = ⊥

-- the epoch was appointed, or surveyed somewhere
abbrev pub is_told : Machine → Epoch → Bool
is_told m f = is_some (appointment_of m f) || list_any (λ r. list_any (λ s. is_epoch f s.epoch) r.surveys) m.replicas

-- a survey of an epoch below the replica's fence is ignored
abbrev pub MayIgnoreOldEpoch : Position → Event → Epoch → Epoch → Type 0
MayIgnoreOldEpoch p (Survey at surveyed) fence e = (e ≡ surveyed) × (epoch_lt e fence ≡ true) × (is_told p.machine fence ≡ true) × (p.answered ≡ false)
MayIgnoreOldEpoch p _ fence e = ⊥

-- ---- faults

abbrev pub is_ok : Answer → Bool
is_ok answers.Done = true
is_ok _ = false

-- an abort of a transaction that has logged something
abbrev pub ends_logged : Machine → Call → Bool
ends_logged m (Abort t) = option_map_or (λ x. not (length (ops_of x) == 0)) (txn_of m t) false
ends_logged m _ = false

-- The step of the call logs something: an operation; the end of a live transaction, which a commit always logs, and an
-- abort where the transaction has logged something.
abbrev pub logs : Machine → Call → Option Reply → Bool
logs m call None = true
logs m call (Some reply) = is_some reply.op || (is_ok reply.answer && ends_logged m call)

-- the primary starts its epoch, and isn't active yet
abbrev pub IsStarting : Position → ℕ → ℕ → Type 0
IsStarting p primary r = (r ≡ primary) × (p.mounts ≡ []) × ((replica p.machine r).up ≡ true) × (is_active p.machine r ≡ false) × (p.answered ≡ false)

-- a fault of the disk in the first step of an event, before any line of that step: in a mount, in the start of an
-- epoch, in a survey, and in a call that logs
abbrev pub MayFailFirst : Position → Event → ℕ → Type 0
MayFailFirst p (Boot primary members) r = MayOpen p r ⊎ IsStarting p primary r
MayFailFirst p (Client at call) r = (at ≡ r) × (p.rank ≡ 0) × (logs p.machine call p.client ≡ true) × (p.answered ≡ false)
MayFailFirst p (Reboot at) r = MayOpen p r
MayFailFirst p (Survey at e) r = (at ≡ r) × (p.rank ≡ 0) × (p.answered ≡ false)
MayFailFirst p (Appoint e primary members) r = (primary ≡ r) × (p.rank ≡ 0) × (p.answered ≡ false)
MayFailFirst p _ r = ⊥

-- One in the second step, behind the answer: a primary that took a step in the event, and in it became active or showed
-- more, logs that. All that is pending there and shown is acknowledged by then.
pub record MayFailSecond (p : Position) (r : ℕ) : Type 0 where
  pub acts : is_actor p.primary p.event r ≡ true
  pub rose : list_any (λ q. q == r) p.rose ≡ true
  pub answered : p.answered ≡ true
  pub nothing_due : (t : TxnId) → is_pending p.machine r t ≡ true → is_shown p.machine r t ≡ false
  pub is_up : (replica p.machine r).up ≡ true

abbrev pub MayFail : Position → ℕ → Type 0
MayFail p r = MayFailFirst p p.event r ⊎ MayFailSecond p r

-- the row of each line
abbrev pub Row : Position → Observation → Type 0
Row p (says.Up r) = MayOpen p r
Row p (says.Order t ops) = MayOrder p t ops
Row p (says.View r n) = MayShow p r n
Row p (says.Active r) = MayBeActive p r
Row p (says.Committed t) = MayCommit p t
Row p says.Done = MayBeDone p p.event
Row p (says.Refused part) = ⊥
Row p says.IgnoredUp = ⊥
Row p (says.Progress r last_epoch last) = MayTellProgress p p.event r last_epoch last
Row p (says.IgnoredOldEpoch fence e) = MayIgnoreOldEpoch p p.event fence e
Row p (says.Fault r) = MayFail p r
Row p (says.State r k) = MayTell p p.event r k
Row p (says.Rows words) = (rest : List (List (List ℕ))) × (p.rows ≡ words ∷ rest)
Row p o = MayAnswer p o

-- the event is a call that has no answer of its own: the commit of a live transaction
abbrev pub is_granted : Position → Bool
is_granted p = is_call p.event && is_none p.client

-- its step may lengthen the order
abbrev pub may_grow : Position → Bool
may_grow p = is_granted p || is_reconfiguration p.event

-- Which lines an event has at all. A call that is answered has its answer alone.
abbrev pub is_named : Position → Observation → Bool
is_named p (says.Up r) = is_opening p.event
is_named p (says.Order t ops) = may_grow p
is_named p (says.View r n) = is_opening p.event || may_grow p
is_named p (says.Active r) = is_boot p.event || may_grow p
is_named p (says.Committed t) = may_grow p
is_named p o = true

-- the line may be the next one of the event
pub record May (p : Position) (o : Observation) : Type 0 where
  pub named : is_named p o ≡ true
  pub in_rank : is_in_rank p.rank o ≡ true
  pub next : is_next p o ≡ true
  pub goes_on : may_go_on p ≡ true
  pub row : Row p o

-- ---- what a line changes

abbrev pub up_again : Replica → Replica
up_again r = record r { up = true; role = None; grants = [] }

-- behind the last mount of a boot its primary, where it is up, has the role of the first epoch
abbrev pub with_first_role : Machine → Event → List ℕ → Machine
with_first_role m (Boot p members) [] = if (replica m p).up then put_role m p (Some (new_role first_epoch)) else m
with_first_role m (Boot p members) (r ∷ rs) = m
with_first_role m _ mounts = m

abbrev pub showing : Machine → ℕ → ℕ → Machine
showing m r n = put_replica m r (record (replica m r) { show = n })

abbrev pub ordering : Machine → ℕ → TxnId → List Op → Machine
ordering m r t ops = let order = order_of m r in put_order m r (record order { entries = order.entries ++ record { txn = t; ops = ops } ∷ [] })

-- the appointment of the epoch notes that its primary was active
abbrev pub noting_active : Epoch → List Appointment → List Appointment
noting_active e [] = []
noting_active e (a ∷ others) = (if is_epoch e a.epoch then record a { was_active = true } else a) ∷ noting_active e others

abbrev pub activated : Machine → ℕ → Role → Machine
activated m r role = record (put_role m r (Some (record role { active = true }))) { appointments = noting_active role.epoch m.appointments }

abbrev pub now_active : Machine → ℕ → Machine
now_active m r = option_map_or (activated m r) (role_of m r) m

-- a transaction is acknowledged at its primary, and its locks go
abbrev pub acknowledging : Machine → ℕ → TxnId → Machine
acknowledging m r t = record (put_grants m r (released (grants_of m r) t)) { acknowledged = t ∷ m.acknowledged }

-- a survey of the epoch came to the replica, and was answered or cut off by a fault
abbrev pub with_survey : Machine → ℕ → Epoch → Bool → Machine
with_survey m r e faulted =
    let old = replica m r in put_replica m r (record old { surveys = record { epoch = e; faulted = faulted } ∷ old.surveys })

-- the replica's disk failed in a step of the event: it is closed
abbrev pub failed : Machine → Event → ℕ → Machine
failed m (Survey at e) r = with_survey (closed m r) r e true
failed m _ r = closed m r

-- a survey was answered: the replica's role ends, and the answer stands in place of its earlier one to that epoch
abbrev pub surveyed : Machine → Event → ℕ → Epoch → ℕ → Machine
surveyed m (Survey at e) r last_epoch last = record (with_survey (without_role m r) r e false) {
  answers = with_answer (record { epoch = e; from = r; last_epoch = last_epoch; last = record { 0 = last } }) m.answers;
}
surveyed m _ r last_epoch last = m

-- whether `committed T` answers the event
abbrev pub is_asked_commit : Event → TxnId → Bool
is_asked_commit (Client r (Commit asked)) t = is_txn asked t
is_asked_commit _ t = false

-- the answer to the event's call is noted, with the operation that it logged
abbrev pub answered_by : Machine → Event → Reply → Machine
answered_by m (Boot p members) reply = m
answered_by m (Client r call) reply = answered_at m r call reply
answered_by m _ reply = m

abbrev pub answering : Position → Position
answering p = record p { machine = option_map_or (answered_by p.machine p.event) p.client p.machine; answered = true }

abbrev pub changed : Position → Observation → Position
changed p (says.Up r) = record p { machine = put_replica p.machine r (up_again (replica p.machine r)); opening = Some r; mounts = drop 1 p.mounts }
changed p (says.Order t ops) = record p { machine = ordering p.machine (p.primary) t ops; growing = true }
changed p (says.View r n) =
    if is_some p.opening
    then record p { machine = with_first_role (showing p.machine r n) p.event p.mounts; opening = None }
    else record p { machine = showing p.machine r n; growing = false; rose = r ∷ p.rose }
changed p (says.Active r) = record p { machine = now_active p.machine r; rose = r ∷ p.rose }
changed p (says.Committed t) = record p { machine = acknowledging p.machine p.primary t; answered = p.answered || is_asked_commit p.event t }
changed p (says.Fault r) = record p { machine = with_first_role (failed p.machine p.event r) p.event (drop 1 p.mounts); mounts = drop 1 p.mounts; faulted = r ∷ p.faulted }
changed p (says.Progress r last_epoch last) = record p { machine = surveyed p.machine p.event r last_epoch last; answered = true }
changed p (says.State r k) = record p { rows = shown_rows p r; answered = true }
changed p (says.Rows words) = record p { rows = drop 1 p.rows }
changed p o = answering p

-- the rank behind a line: a mount is a step of its own
abbrev pub next_rank : Position → Observation → ℕ
next_rank p (says.View r n) = if is_some p.opening then 0 else 3
next_rank p (says.Fault r) = if length p.mounts == 0 then 9 else 0
next_rank p o = rank_of o

abbrev pub after : Position → Observation → Position
after p o = record (changed p o) { rank = next_rank p o }

-- ---- the end of an event

-- The event has its answer, or a fault stands in its place: in a boot one of the primary. A reboot has no other than its
-- `up`.
abbrev pub has_answer : Position → Event → Bool
has_answer p (Boot primary members) = p.answered || list_any (λ r. r == primary) p.faulted
has_answer p (Reboot r) = true
has_answer p _ = p.answered || not (length p.faulted == 0)

-- the lines so far can be all of the event
pub record IsComplete (p : Position) : Type 0 where
  pub opened : p.opening ≡ None
  pub grown : p.growing ≡ false
  pub mounted : p.mounts ≡ []
  pub told : p.rows ≡ []
  pub answered : has_answer p p.event ≡ true

-- What holds behind each event: what is pending at a replica isn't shown there, and a primary that is alone in its
-- configurations is active and has nothing pending.
pub record HoldsBehind (m : Machine) : Type 0 where
  pub not_shown : (r : ℕ) (t : TxnId) → is_pending m r t ≡ true → is_shown m r t ≡ false
  pub alone : (r : ℕ) → is_alone m r ≡ true → (is_active m r ≡ true) × ((t : TxnId) → is_pending m r t ≡ false)
