-- The laws of texts and guards.
use Rattle.std.specs.Prelude.{◌≡◌, ℕ, true, false, List, [], ◌∷◌, ◌++◌, Some, None, ◌≤◌}
use Rattle.rc_base.specs.declared.ids.Epoch.{Epoch}
use Rattle.rc_base.specs.declared.ids.TxnId.{TxnId}
use Rattle.coll_model.specs.declared.op.Op.{Op}
use Rattle.coll_model.specs.Effect.{State}
use Rattle.events.specs.declared.call.Call.{Call}
use Rattle.events.specs.declared.event.Event.{Event}
use Rattle.events.specs.declared.answer.Reply.{Reply}
use Rattle.lock_laws.specs.OrderedStates.{IsOrdered}
use Rattle.txn_table.specs.declared.committed.Committed.{Committed}
use Rattle.order_machine.specs.declared.observation.Observation.{Observation}
use Rattle.order_machine.specs.Order.{length_of}
use Rattle.order_machine.specs.Machine.{Machine, Txn, empty_machine, order_of, is_active, is_shown, appointment_of, ops_of, without_role, closed, replica}
use Rattle.order_machine.specs.Clients.{answer, answered_at}
use Rattle.order_machine.specs.Transitions.{Position, MayOrder, refusal, opened, going_at, asking, asking_commit, showing, acknowledging, appointing, ordering, now_active}
use Rattle.order_machine.specs.Legal.{Filter, Step, Lines, behind, IsBegun, moved, IsLegal, moved_all}
use Rattle.order_laws.specs.Laws.{InEachRun}
use Rattle.history_laws.specs.Texts.{IsText}
use Rattle.history_laws.specs.LockGuards.{ContainsRequests, shown_at, ReplicaGuard, IdleReplica, OrderCommits, ShownCommits}
use Rattle.history_laws.specs.Invariant.Numbering.{Numbering}

-- the machine after a call at r was answered
abbrev pub after_call : Machine → ℕ → Call → Reply → Machine
after_call m r call reply = answered_at (asking m r call) r call reply

-- a live transaction's commit
abbrev pub commit_of : TxnId → Txn → Committed
commit_of t x = record { txn = t; ops = ops_of x }

-- the role of replica r ends: by a survey, a stop or a fault of its disk, or an appointment of r to another epoch
abbrev pub EndsRole : (ℕ → Machine → Machine → Type 0) → Type 0
EndsRole P = (m : Machine) (r : ℕ) → P r m (without_role m r) × P r m (closed m r) × ((e : Epoch) (members : List ℕ) → P r m (appointing m e r members))

-- ---- texts

-- a beginning of a text is a text
abbrev pub BeginningsAreTexts : Type 0
BeginningsAreTexts = (txns : List (TxnId × Txn)) (start : State) (first later : List Committed) → IsText txns start (first ++ later) → IsText txns start first

-- an answered call leaves a text one, at whatever replica
abbrev pub CallsKeepTexts : Type 0
CallsKeepTexts =
    (m : Machine) (r : ℕ) (call : Call) (reply : Reply) → Numbering m → answer m r call ≡ Some reply → (start : State) (commits : List Committed) → IsText m.txns start commits → IsText (after_call m r call reply).txns start commits

-- so does the request of a commit
abbrev pub RequestsKeepTexts : Type 0
RequestsKeepTexts = (m : Machine) (r : ℕ) (t : TxnId) (start : State) (commits : List Committed) → IsText m.txns start commits → IsText (asking_commit m r t).txns start commits

-- and the end of a role
abbrev pub RoleEndsKeepTexts : Type 0
RoleEndsKeepTexts = (start : State) (commits : List Committed) → EndsRole (λ r m now. IsText m.txns start commits → IsText now.txns start commits)

-- Whatever lines an event has so far, each where it may come, leave a text one: in the middle of the event and after it.
abbrev pub EventsKeepTexts : Type 0
EventsKeepTexts =
    (m : Machine) (event : Event) (lines : List Observation) → Numbering m → Lines (opened m event) lines → (start : State) (commits : List Committed) → IsText m.txns start commits
    → IsText (behind (opened m event) lines).machine.txns start commits

-- As a commit is requested at r, whose log commits what r shows and then what is pending there, that and the commit are a text. It is fixed then for good: no later
-- law of texts asks for the role, the grants or the locks.
abbrev pub CommitsLengthenTexts : Type 0
CommitsLengthenTexts =
    (m : Machine) (r : ℕ) (start : State) (shown pending : List Committed) → ShownCommits m r start shown → ReplicaGuard m r pending → IsText m.txns start (shown ++ pending)
    → (t : TxnId) (x : Txn) → going_at m r t ≡ Some x → IsText (asking_commit m r t).txns start ((shown ++ pending) ++ commit_of t x ∷ [])

-- Where the order is a beginning of a text, the text's next commit may be the next of the order, at any primary.
abbrev pub NextMayBeOrdered : Type 0
NextMayBeOrdered =
    (p : Position) (start : State) (first later : List Committed) (next : Committed) → IsText p.machine.txns start (first ++ next ∷ later) → OrderCommits (order_of p.machine p.primary) start first → MayOrder p next.txn next.ops

-- ---- guards

-- a replica at which nothing goes on is guarded, whatever it shows in order
abbrev pub IdleIsGuarded : Type 0
IdleIsGuarded = (m : Machine) (r : ℕ) → IdleReplica m r → IsOrdered (shown_at m r) → ReplicaGuard m r []

-- what is shown from an ordered state on is in order
abbrev pub ShownIsOrdered : Type 0
ShownIsOrdered = (m : Machine) (r : ℕ) (start : State) (shown : List Committed) → IsOrdered start → ShownCommits m r start shown → IsOrdered (shown_at m r)

-- nothing goes on at a replica once its role has ended
abbrev pub EndedRolesAreIdle : Type 0
EndedRolesAreIdle = EndsRole (λ r m now. IdleReplica now r)

-- nothing goes on at a replica that isn't an active primary, whatever is called there, nor by a call elsewhere
abbrev pub CallsKeepIdle : Type 0
CallsKeepIdle =
    (m : Machine) (r : ℕ) (call : Call) (reply : Reply) → Numbering m → answer m r call ≡ Some reply → (q : ℕ) → (q ≡ r → is_active m r ≡ false) → IdleReplica m q → IdleReplica (after_call m r call reply) q

-- an answered call at r keeps the guard there and at every other replica
abbrev pub CallsKeepGuards : Type 0
CallsKeepGuards =
    (m : Machine) (r : ℕ) (call : Call) (reply : Reply) → Numbering m → answer m r call ≡ Some reply → (q : ℕ) (pending : List Committed) → ReplicaGuard m q pending → ReplicaGuard (after_call m r call reply) q pending

-- a commit that is requested at r is pending there, under its locks
abbrev pub RequestsArePending : Type 0
RequestsArePending =
    (m : Machine) (r : ℕ) (t : TxnId) (x : Txn) (pending : List Committed) → going_at m r t ≡ Some x → ReplicaGuard m r pending → ReplicaGuard (asking_commit m r t) r (pending ++ commit_of t x ∷ [])

-- and keeps the guard at every other replica
abbrev pub RequestsKeepOthers : Type 0
RequestsKeepOthers = (m : Machine) (r q : ℕ) (t : TxnId) (pending : List Committed) → (q ≡ r → ⊥) → ReplicaGuard m q pending → ReplicaGuard (asking_commit m r t) q pending

-- a view shows the first of what is pending at r, and keeps all locks
abbrev pub ViewsKeepGuards : Type 0
ViewsKeepGuards =
    (m : Machine) (r n : ℕ) (start : State) (shown now later : List Committed) → ShownCommits m r start shown → ShownCommits (showing m r n) r start (shown ++ now) → ReplicaGuard m r (now ++ later) → ReplicaGuard (showing m r n) r later

-- it keeps the guard at every other replica
abbrev pub ViewsKeepOthers : Type 0
ViewsKeepOthers = (m : Machine) (r n q : ℕ) (pending : List Committed) → (q ≡ r → ⊥) → ReplicaGuard m q pending → ReplicaGuard (showing m r n) q pending

-- an acknowledgement of what r shows lets its locks go
abbrev pub AcknowledgementsKeepGuards : Type 0
AcknowledgementsKeepGuards =
    (m : Machine) (r : ℕ) (t : TxnId) (start : State) (shown pending : List Committed) → ShownCommits m r start shown → IsText m.txns start (shown ++ pending) → is_shown m r t ≡ true → ReplicaGuard m r pending → ReplicaGuard (acknowledging m r t) r pending

-- it keeps the guard at every other replica
abbrev pub AcknowledgementsKeepOthers : Type 0
AcknowledgementsKeepOthers = (m : Machine) (r q : ℕ) (t : TxnId) (pending : List Committed) → (q ≡ r → ⊥) → ReplicaGuard m q pending → ReplicaGuard (acknowledging m r t) q pending

-- the order may grow beyond what a replica shows: that keeps every guard
abbrev pub OrdersKeepGuards : Type 0
OrdersKeepGuards =
    (m : Machine) (r : ℕ) (t : TxnId) (ops : List Op) (q : ℕ) (pending : List Committed) → (replica m q).show ≤ length_of (order_of m q) → ReplicaGuard m q pending → ReplicaGuard (ordering m r t ops) q pending

-- a primary that becomes active keeps every guard
abbrev pub ActiveKeepsGuards : Type 0
ActiveKeepsGuards = (m : Machine) (r q : ℕ) (pending : List Committed) → ReplicaGuard m q pending → ReplicaGuard (now_active m r) q pending

-- the end of a role keeps the guard at every other replica
abbrev pub RoleEndsKeepOthers : Type 0
RoleEndsKeepOthers = (q : ℕ) (pending : List Committed) → EndsRole (λ r m now. (q ≡ r → ⊥) → ReplicaGuard m q pending → ReplicaGuard now q pending)

-- ---- requests

-- an answered call requests nothing
abbrev pub CallsKeepRequests : Type 0
CallsKeepRequests =
    (m : Machine) (r : ℕ) (call : Call) (reply : Reply) → Numbering m → answer m r call ≡ Some reply → (q : ℕ) (e : Epoch) (commits : List Committed) → ContainsRequests m.txns q e commits → ContainsRequests (after_call m r call reply).txns q e commits

-- a requested commit is one more, and no request of another replica
abbrev pub RequestsAreContained : Type 0
RequestsAreContained =
    (m : Machine) (r : ℕ) (t : TxnId) (x : Txn) (q : ℕ) (e : Epoch) (commits : List Committed) → going_at m r t ≡ Some x → ContainsRequests m.txns q e commits
    → ContainsRequests (asking_commit m r t).txns q e (commits ++ commit_of t x ∷ []) × ((q ≡ r → ⊥) → ContainsRequests (asking_commit m r t).txns q e commits)

-- nor does the end of a role request anything
abbrev pub RoleEndsKeepRequests : Type 0
RoleEndsKeepRequests = (q : ℕ) (e : Epoch) (commits : List Committed) → EndsRole (λ r m now. ContainsRequests m.txns q e commits → ContainsRequests now.txns q e commits)

-- nothing is requested in an epoch that isn't appointed
abbrev pub NothingIsRequestedBefore : Type 0
NothingIsRequestedBefore = (m : Machine) (r : ℕ) (e : Epoch) (commits : List Committed) → Numbering m → appointment_of m e ≡ None → ContainsRequests m.txns r e commits

-- ---- the names of transactions

-- nothing is begun yet
abbrev pub EmptyIsNumbered : Type 0
EmptyIsNumbered = Numbering empty_machine

-- an answered call lets the names count on: a begin gives one that is new
abbrev pub CallsKeepNumbering : Type 0
CallsKeepNumbering = (m : Machine) (r : ℕ) (call : Call) (reply : Reply) → Numbering m → answer m r call ≡ Some reply → Numbering (after_call m r call reply)

-- so do the request of a commit, a view, an acknowledgement, and the end of a role without another
pub record ChangesKeepNumbering : Type 0 where
  pub request : (m : Machine) (r : ℕ) (t : TxnId) → Numbering m → Numbering (asking_commit m r t)
  pub view : (m : Machine) (r n : ℕ) → Numbering m → Numbering (showing m r n)
  pub acknowledgement : (m : Machine) (r : ℕ) (t : TxnId) → Numbering m → Numbering (acknowledging m r t)
  pub role_end : (m : Machine) (r : ℕ) → Numbering m → Numbering (without_role m r) × Numbering (closed m r)

-- so do the lines of an event that isn't refused, all of them or the first few: the epoch of a boot or an appointment is new, and nothing was begun in it
abbrev pub LinesKeepNumbering : Type 0
LinesKeepNumbering = (m : Machine) (event : Event) (lines : List Observation) → Numbering m → refusal m event ≡ None → Lines (opened m event) lines → Numbering (behind (opened m event) lines).machine

-- and each event, also a refused one
abbrev pub EventsKeepNumbering : Type 0
EventsKeepNumbering = (m : Machine) (event : Event) (lines : List Observation) → Numbering m → IsBegun m event lines → Numbering (moved m event lines)

-- so the names count on wherever a legal run from the start of a world ends
abbrev pub RunsKeepNumbering : Type 0
RunsKeepNumbering = InEachRun Numbering

-- ---- whole runs

-- in each legal run a text at some point of it is one at each later point
abbrev pub RunsKeepTexts : Type 0
RunsKeepTexts =
    (filters : List Filter) (steps later : List Step) → IsLegal filters empty_machine (steps ++ later) → (start : State) (commits : List Committed) → IsText (moved_all empty_machine steps).txns start commits
    → IsText (moved_all empty_machine (steps ++ later)).txns start commits
