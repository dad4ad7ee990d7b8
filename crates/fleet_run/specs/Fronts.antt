-- What the machine and a primary agree on of the transactions that go on there, and the answers that follow.
use Rattle.std.specs.Prelude.{◌≡◌, ℕ, ◌≤◌, Bool, true, false, List, ◌++◌, map, None, Some, MatchOption}
use Rattle.std.specs.Ordering.{nat_cmp}
use Rattle.std.specs.List.Sorted.{IsStrictlySortedBy}
use Rattle.std.specs.Map.{keys_of}
use Rattle.rc_base.specs.declared.ids.TxnId.{TxnId}
use Rattle.events.specs.declared.call.Call.{Call}
use Rattle.events.specs.declared.call.Call.TheVariants as calls
use Rattle.events.specs.declared.answer.Reply.{Reply}
use Rattle.txn_table.specs.declared.committed.Committed.{Committed}
use Rattle.txn_table.specs.Log.{no_base}
use Rattle.txn_table.specs.Whole.{last_position}
use Rattle.txn_front.specs.Front.{going_of}
use Rattle.order_machine.specs.Machine.{Machine, Role, Txn, replica, role_of, order_of, grants_of, live_txn, ops_of}
use Rattle.order_machine.specs.Order.{state_at}
use Rattle.order_machine.specs.Clients.{answer, answered_at}
use Rattle.order_machine.specs.declared.observation.Observation.{Observation}
use Rattle.order_machine.specs.declared.observation.Observation.TheVariants as says
use Rattle.order_machine.specs.Transitions.{Position, asking}
use Rattle.order_machine.specs.Legal.{behind}
use Rattle.replica_model.specs.declared.step.StepEvent.{StepEvent}
use Rattle.replica_model.specs.declared.step.StepEvent.TheVariants as steps
use Rattle.replica_model.specs.Steps.{written, step_result, step_outcome}
use Rattle.replica_model.specs.OpenReplica.{OpenReplica, contents_of, is_active, shown_commits}
use Rattle.replica_model.specs.Records.{reply}
use Rattle.fleet_run.specs.Acts.{order_lines, view_line, active_line}
use Rattle.fleet_run.specs.Phases.{IsAtStart, ComesToShow}

-- The primary is up and active in both, shows the same contents, counts the same begins, has the same locks; and the same transactions go on there, with
-- the same operations.
pub record FrontAgrees (m : Machine) (r : ℕ) (o : OpenReplica) : Type 0 where
  pub number : o.id ≡ r
  pub up : (replica m r).up ≡ true
  pub active : is_active o ≡ true
  pub role : (role : Role) × (role_of m r ≡ Some role) × (role.active ≡ true) × (role.epoch ≡ o.front.epoch) × (role.begins ≡ o.front.begins)
  pub contents : contents_of o ≡ state_at (order_of m r) (replica m r).show
  pub grants : o.front.grants ≡ grants_of m r
  pub going : (t : TxnId) → MatchOption (going_of o.front t) (live_txn m r t ≡ None) (λ going. (x : Txn) × (live_txn m r t ≡ Some x) × (going.ops ≡ ops_of x))

-- then the primary answers each call as the machine does
abbrev pub CallsAreAnsweredAlike : Type 0
CallsAreAnsweredAlike = (m : Machine) (r : ℕ) (o : OpenReplica) (call : Call) → FrontAgrees m r o → reply o call ≡ answer m r call

-- a call on a collection
abbrev pub is_on_collection : Call → Bool
is_on_collection calls.Begin = false
is_on_collection (calls.Make t name kind) = true
is_on_collection (calls.OnKey t name key call) = true
is_on_collection (calls.Commit t) = false
is_on_collection (calls.Abort t) = false

-- Once such a call is answered, they agree on what goes on then: the primary behind what it logs, and the machine behind the answer.
abbrev pub CollectionCallsKeepFronts : Type 0
CollectionCallsKeepFronts =
    (m : Machine) (r : ℕ) (o : OpenReplica) (call : Call) (told : Reply) → FrontAgrees m r o → is_on_collection call ≡ true → o.stable ≤ last_position o.disk → reply o call ≡ Some told
    → FrontAgrees (answered_at (asking m r call) r call told) r (written o (steps.Client call))

-- So they do once a begin is answered,
abbrev pub BeginsKeepFronts : Type 0
BeginsKeepFronts =
    (m : Machine) (r : ℕ) (o : OpenReplica) (told : Reply) → FrontAgrees m r o → o.stable ≤ last_position o.disk → reply o calls.Begin ≡ Some told
    → FrontAgrees (answered_at (asking m r calls.Begin) r calls.Begin told) r (written o (steps.Client calls.Begin))

-- and once the commit of a transaction that goes on is asked, which has no answer of its own; those that go on stand by rising number.
abbrev pub CommitsKeepFronts : Type 0
CommitsKeepFronts =
    (m : Machine) (r : ℕ) (o : OpenReplica) (t : TxnId) → FrontAgrees m r o → IsStrictlySortedBy nat_cmp (keys_of o.front.live) → o.stable ≤ last_position o.disk → reply o (calls.Commit t) ≡ None
    → FrontAgrees (asking m r (calls.Commit t)) r (written o (steps.Client (calls.Commit t)))

-- So they do once an abort is answered, whether its transaction goes on or not, and once the commit of one that doesn't is.
abbrev pub EndsKeepFronts : Type 0
EndsKeepFronts =
    (m : Machine) (r : ℕ) (o : OpenReplica) (t : TxnId) (told : Reply) → FrontAgrees m r o → IsStrictlySortedBy nat_cmp (keys_of o.front.live) → o.stable ≤ last_position o.disk
    → (reply o (calls.Abort t) ≡ Some told → FrontAgrees (answered_at (asking m r (calls.Abort t)) r (calls.Abort t) told) r (written o (steps.Client (calls.Abort t))))
    × (reply o (calls.Commit t) ≡ Some told → FrontAgrees (answered_at (asking m r (calls.Commit t)) r (calls.Commit t) told) r (written o (steps.Client (calls.Commit t))))

-- The lines of a step at an active primary that show its commits: those of the order and of the view, and what is acknowledged.
abbrev pub showing_lines : Machine → OpenReplica → StepEvent → List Observation
showing_lines m o step =
    let told = step_outcome o step in order_lines m o told.commits ++ view_line o told ++ active_line o step told ++ map says.Committed told.acknowledged

-- They agree on what goes on behind these lines, if they did behind what the step wrote: the primary shows what it shows, and the locks of what is acknowledged go in both.
abbrev pub LooksKeepFronts : Type 0
LooksKeepFronts =
    (p : Position) (o : OpenReplica) (step : StepEvent) (before ordered now later : List Committed) → IsAtStart p o.id → ComesToShow p o (step_outcome o step) before ordered now later → FrontAgrees p.machine o.id (written o step)
    → (step_result o step).disk.start ≡ no_base → shown_commits (step_result o step) ≡ now → FrontAgrees (behind p (showing_lines p.machine o step)).machine o.id (step_result o step)
