-- When a world and the disk of its replica stand for a state of the machine, and what it promises of an event.
use Rattle.std.specs.Prelude.{◌≡◌, ℕ, ◌*◌, ◌≤◌, ◌==◌, true, false, List, [], ◌∷◌, ◌++◌, length, map, Option, Some, None, is_some, Result, Ok, Err, MatchBool}
use Rattle.rc_base.specs.declared.ids.TxnId.{TxnId}
use Rattle.disk_model.specs.Disk.{Areas, Each}
use Rattle.txn_table.specs.declared.committed.Committed.{Committed}
use Rattle.txn_table.specs.Log.{commits_in}
use Rattle.log_store.specs.declared.kept.Kept.{Kept as Log}
use Rattle.log_store.specs.Durable.{durable, StandFor}
use Rattle.log_store.specs.Fold.{no_log}
use Rattle.log_store.specs.Store.{IsOpenOn}
use Rattle.events.specs.declared.event.Event.{Event}
use Rattle.events.specs.declared.event.Event.TheVariants.{Boot, Client, Arm, Crash, Reboot, Inspect, Survey, Appoint, Activate}
use Rattle.order_machine.specs.declared.observation.Observation.{Observation}
use Rattle.order_machine.specs.Order.{Entry, length_of}
use Rattle.order_machine.specs.Machine.{Machine, Txn, empty_machine, is_booted, order_of}
use Rattle.order_machine.specs.Legal.{IsWhole, IsBegun, moved}
use Rattle.replica_model.specs.declared.role.Role.{Role}
use Rattle.replica_model.specs.declared.role.Role.TheVariants.{Other, Primary}
use Rattle.replica.specs.Open.{Open, AgreesWith, commits_to, shown_in}
use Rattle.replica_model.specs.Steps.{CallFits}
use Rattle.world.specs.declared.error.WorldError.{WorldError}
use Rattle.world.specs.declared.error.WorldError.TheVariants as errors
use Rattle.txn_front.specs.Front.{Going, going_of}
use Rattle.world.specs.Disks.{as_commit, DiskHolds}
use Rattle.rc_base.specs.declared.ids.Epoch.{Epoch}
use Rattle.config_rule.specs.Rule.{Known, broken_appointment, after_appointment}
use Rattle.world.specs.Course.{IsCourse, AreNoted, ArePast, MayFollow, IsFence, IsLogged}
use Rattle.world.specs.Kept.{Kept, has_booted}
use Rattle.world.specs.Limits.{limit_reached, IsUnbuilt}
use Rattle.world.specs.Running.{Runs}
use Rattle.world.specs.Standing.{Course, standing, resting, shut}

-- ---- replica 0 and its disk

-- an open replica, its log, and what its disk may hold
pub record IsOpen (r : Open) (log : Log) (images : Areas → Type 0) : Type 0 where
  pub first : r.id ≡ 0
  pub stands : StandFor log images
  pub agrees : AgreesWith r log
  pub opened : IsOpenOn r.log images
  pub not_closed : r.log.log.closed ≡ false

-- The order is a beginning of what a log commits, and what else it commits may follow; what a replica shows once the log was
-- opened is a beginning of the order. Its epochs were decided. No event logs more than three records.
pub record IsSound (entries : List Entry) (txns : List (TxnId × Txn)) (course : Course) (last : ℕ) (log : Log) : Type 0 where
  pub more : List Committed
  pub holds : map as_commit entries ++ more ≡ commits_in log.records
  pub follow : MayFollow entries txns more
  pub hidden : List Committed
  pub shows : shown_in log.records ++ hidden ≡ map as_commit entries
  pub fence : IsFence course log.fence
  pub logged : IsLogged course log
  pub short : length log.records ≤ 3 * last

-- It serves as the primary: the order is all that its log commits. A transaction that goes on has records once it has logged
-- an operation.
pub record Serving (last : ℕ) (r : Open) (images : Areas → Type 0) (m : Machine) : Type 0 where
  pub runs : Runs r.front r.shown r.contents m
  pub ruled : IsCourse runs.course
  pub log : Log
  pub is_open : IsOpen r log images
  pub epoch : r.epoch ≡ runs.course.latest
  pub fence : IsFence runs.course r.fence
  pub commits : map as_commit runs.entries ≡ commits_in log.records
  pub short : length log.records ≤ 3 * last
  pub few : r.front.begins ≤ last
  pub recorded : (t : TxnId) (going : Going) → going_of r.front t ≡ Some going → (going.last.0 == 0) ≡ (length going.ops == 0)

-- Replica 0 was opened again and shows so many, and these are the entries of the order.
pub record RestsWith (entries : List Entry) (shown : ℕ) (m : Machine) : Type 0 where
  pub acknowledged : List TxnId
  pub txns : List (TxnId × Txn)
  pub course : Course
  pub is : m ≡ standing entries acknowledged (resting course shown) txns course
  pub ruled : IsCourse course
  pub past : ArePast course entries acknowledged txns

-- it is open, and no primary: it shows a beginning of the order
pub record Resting (last : ℕ) (r : Open) (images : Areas → Type 0) (m : Machine) : Type 0 where
  pub entries : List Entry
  pub rests : RestsWith entries r.shown m
  pub log : Log
  pub is_open : IsOpen r log images
  pub sound : IsSound entries rests.txns rests.course last log
  pub hidden : List Committed
  pub shows : commits_to r.stable.0 log.records ++ hidden ≡ map as_commit entries
  pub few : r.front.begins ≤ last

-- Replica 0 is closed, and these are the entries of the order.
pub record IsShutWith (entries : List Entry) (m : Machine) : Type 0 where
  pub acknowledged : List TxnId
  pub txns : List (TxnId × Txn)
  pub course : Course
  pub shown : ℕ
  pub is : m ≡ standing entries acknowledged (shut course shown) txns course
  pub ruled : IsCourse course
  pub past : ArePast course entries acknowledged txns

-- it is closed
pub record Closed (last : ℕ) (images : Areas → Type 0) (m : Machine) : Type 0 where
  pub entries : List Entry
  pub is_shut : IsShutWith entries m
  pub sound : Each images (λ c. (log : Log) × (durable c ≡ Ok log) × IsSound entries is_shut.txns is_shut.course last log)

abbrev pub AsRole : Role → ℕ → Open → (Areas → Type 0) → Machine → Type 0
AsRole Other = Resting
AsRole (Primary epoch active) = Serving

abbrev pub AsReplica : Option Open → ℕ → (Areas → Type 0) → Machine → Type 0
AsReplica None last images m = Closed last images m
AsReplica (Some r) last images m = AsRole r.role last r images m

-- ---- what a world keeps beside them

-- Its rule knows what the machine has decided, and it keeps the length of the order.
pub record IsRuled (k : Kept) (m : Machine) : Type 0 where
  pub known : Known
  pub rule : k.rule ≡ Some known
  pub appointed : AreNoted known.appointed m.appointments
  pub current : known.current ≡ m.config
  pub answers : known.answers ≡ m.answers
  pub order : k.order ≡ length_of (order_of m 0)

-- before the boot there is no log
pub record IsNew (k : Kept) (images : Areas → Type 0) (m : Machine) : Type 0 where
  pub is : m ≡ empty_machine
  pub closed : k.replica ≡ None
  pub unordered : k.order ≡ 0
  pub empty : StandFor no_log images

-- the world and the disk of replica 0 stand for this state of the machine
abbrev pub StandsFor : Kept → (Areas → Type 0) → Machine → Type 0
StandsFor k images m = MatchBool (has_booted k) (AsReplica k.replica k.last images m × IsRuled k m) (IsNew k images m)

-- ---- what an event promises

-- The rule has taken a lawful appointment of replica 0, alone, to the epoch; nothing else has changed.
pub record IsAppointed (before now : Kept) (epoch : Epoch) : Type 0 where
  pub known : Known
  pub rule : before.rule ≡ Some known
  pub lawful : broken_appointment known epoch 0 (0 ∷ []) (is_some before.replica) ≡ None
  pub now_is : now ≡ record before { rule = Some (after_appointment known epoch 0 (0 ∷ [])) }

-- The event is one that is done so far, at the replica that there is. Its names, keys and values may be any that a log
-- can hold.
abbrev pub IsHere : Event → Type 0
IsHere (Boot p members) = (p ≡ 0) × (members ≡ 0 ∷ [])
IsHere (Client r call) = (r ≡ 0) × CallFits call
IsHere (Arm r calls) = (r ≡ 0) × (1 ≤ calls)
IsHere (Crash r pick) = r ≡ 0
IsHere (Reboot r) = r ≡ 0
IsHere (Inspect r) = r ≡ 0
IsHere (Survey r e) = r ≡ 0
IsHere (Appoint e p members) = (p ≡ 0) × (members ≡ 0 ∷ [])
IsHere (Activate e) = Unit {0}

-- once it was booted, the disk holds what was acknowledged
abbrev pub StillHolds : Machine → (Areas → Type 0) → Type 0
StillHolds m images = is_booted m ≡ true → DiskHolds m 0 images

-- At each state that world and disk stand for, the lines are whole, and world and disk stand for the state after them.
-- The disk still holds what was acknowledged before, also without all lines. Where the event reaches a limit of the machine or
-- isn't built there, its lines are a beginning of a whole event's; one that reaches a limit has none.
abbrev pub Serves : Kept → Kept → (Areas → Type 0) → (Areas → Type 0) → Event → Result (List Observation) WorldError → Type 0
Serves old new before now event (Ok lines) = (m : Machine) → StandsFor old before m → IsWhole m event lines × StandsFor new now (moved m event lines) × StillHolds m now
Serves old new before now event (Err errors.NoMemory) = (m : Machine) → StandsFor old before m → StillHolds m now
Serves old new before now event (Err (errors.Limit which lines)) = (m : Machine) → StandsFor old before m → (limit_reached m event ≡ Some which) × (lines ≡ []) × IsBegun m event lines × StillHolds m now
Serves old new before now event (Err (errors.Unbuilt lines)) = (m : Machine) → StandsFor old before m → IsUnbuilt m event × IsBegun m event lines × StillHolds m now
