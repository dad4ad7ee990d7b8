-- A client's call at a replica that is closed, or that has no role.
use Rattle.std.proofs.Common.{◌≡◌, ℕ, List, [], ◌∷◌, ◌++◌, Option, Some, None, refl, ap, sym, subst, true, false, cond, is_some}
use Rattle.std.specs.Option.{option_map_or}
use Rattle.std.specs.Map.{lookup}
use Rattle.std.proofs.lemmas.Bool.{cond-false}
use Rattle.rc_base.specs.declared.ids.TxnId.{TxnId}
use Rattle.rc_base.specs.Ids.{is_txn}
use Rattle.events.specs.declared.event.Event.TheVariants.{Client}
use Rattle.events.specs.declared.call.Call.{Call}
use Rattle.events.specs.declared.call.Call.TheVariants.{Begin, Make, OnKey, Commit, Abort}
use Rattle.order_machine.specs.declared.observation.Observation.TheVariants as says
use Rattle.order_machine.specs.Order.{Entry}
use Rattle.order_machine.specs.Machine.{Machine, Replica, Txn, is_active, live_txn}
use Rattle.events.specs.Calls.{CallRecord, txn_named}
use Rattle.order_machine.specs.Clients.{noted}
use Rattle.events.specs.Replay.{is_replayed, is_refusal}
use Rattle.events.specs.Answers.{reply_at}
use Rattle.txn_table.specs.declared.committed.Committed.{Committed}
use Rattle.world.specs.Course.{ArePast, MayFollow}
use Rattle.order_machine.specs.Transitions.{HoldsBehind, asking, going_at}
use Rattle.order_machine.specs.Legal.{IsWhole, moved}
use Rattle.world.specs.Standing.{Course, resting, shut, standing}
use Rattle.world.proofs.Calls.OneAnswer.{answer_serves}
use Rattle.world.proofs.States.Booted.{call_unrefused}
use Rattle.world.proofs.Calls.AfterEnd.{ended_asking}
use Rattle.world.proofs.Calls.OneTxn.{with_call}
use Rattle.world.proofs.States.PastTxns.{past_noted, follow_noted}
use Rattle.world.proofs.States.RoleEnd.{holds_without_role}
use Rattle.events.specs.declared.answer.Answer.{Answer}
use Rattle.events.specs.declared.answer.Answer.TheVariants as answers

-- what isn't told by the transactions' refused calls
abbrev pub AreStill : List (TxnId × Txn) → List (TxnId × Txn) → Type 0
AreStill old new =
    ((course : Course) (entries : List Entry) (acknowledged : List TxnId) → ArePast course entries acknowledged old → ArePast course entries acknowledged new)
    × ((entries : List Entry) (more : List Committed) → MayFollow entries old more → MayFollow entries new more)

are_still : (txns : List (TxnId × Txn)) → AreStill txns txns
are_still txns = (λ course entries acknowledged p. p, λ entries more f. f)

-- the machine behind it differs at most in the transactions
abbrev IsStill : List Entry → List TxnId → Replica → List (TxnId × Txn) → Course → Machine → Type 0
IsStill entries acknowledged first txns course m = (others : List (TxnId × Txn)) × (m ≡ standing entries acknowledged first others course) × AreStill txns others

-- a noted call changes these alone
noted_stands : (entries : List Entry) (acknowledged : List TxnId) (first : Replica) (txns : List (TxnId × Txn)) (course : Course) (t : TxnId) (call : CallRecord) → is_replayed call ≡ false → call.op ≡ None → IsStill entries acknowledged first txns course (noted (standing entries acknowledged first txns course) t call)
noted_stands entries acknowledged first txns course t call off no_op = by_known (lookup (is_txn t) txns) refl
  where
    by_known : (o : Option Txn) → lookup (is_txn t) txns ≡ o → IsStill entries acknowledged first txns course (option_map_or (λ x. standing entries acknowledged first ((t, record x { calls = x.calls ++ call ∷ [] }) ∷ txns) course) o (standing entries acknowledged first txns course))
    by_known None e = (txns, refl, are_still txns)
    by_known (Some x) e = ((t, with_call x call) ∷ txns, refl, (λ c es acked p. past_noted c es acked txns t x call e p, λ es more f. follow_noted es txns t x call more e off no_op f))

answered_stands : (entries : List Entry) (acknowledged : List TxnId) (first : Replica) (txns : List (TxnId × Txn)) (course : Course) (call : Call) (named : Option TxnId) (o : Answer) → is_refusal o ≡ true →
    IsStill entries acknowledged first txns course (option_map_or (λ t. noted (standing entries acknowledged first txns course) t (record { call = call; answer = o; op = None })) named (standing entries acknowledged first txns course))
answered_stands entries acknowledged first txns course call None o refused = (txns, refl, are_still txns)
answered_stands entries acknowledged first txns course call (Some t) o refused = noted_stands entries acknowledged first txns course t (record { call = call; answer = o; op = None }) (ap (λ b. cond b false (is_some (reply_at [] call))) refused) refl

holds_still : (entries : List Entry) (acknowledged : List TxnId) (first : Replica) (txns : List (TxnId × Txn)) (course : Course) (m : Machine) → first.role ≡ None → IsStill entries acknowledged first txns course m → HoldsBehind m
holds_still entries acknowledged first txns course m none still =
    subst HoldsBehind (sym still.1) (holds_without_role entries acknowledged first still.0 course none)

-- nothing goes on at a replica that isn't active, and so the asking changes nothing
pub asks_nothing_inactive : (m : Machine) (call : Call) → is_active m 0 ≡ false → asking m 0 call ≡ m
asks_nothing_inactive m call off = by call
  where
    gone : (t : TxnId) → going_at m 0 t ≡ None
    gone t = cond-false (is_active m 0) (live_txn m 0 t) None off

    by : (c : Call) → asking m 0 c ≡ m
    by Begin = refl
    by (Make t name kind) = ended_asking m (Make t name kind) t refl (gone t)
    by (OnKey t name key asked) = ended_asking m (OnKey t name key asked) t refl (gone t)
    by (Commit t) = ended_asking m (Commit t) t refl (gone t)
    by (Abort t) = ended_asking m (Abort t) t refl (gone t)

pub down_serves : (entries : List Entry) (acknowledged : List TxnId) (last : ℕ) (txns : List (TxnId × Txn)) (course : Course) (call : Call) →
    IsWhole (standing entries acknowledged (shut course last) txns course) (Client 0 call) (says.Down 0 ∷ [])
    × ((others : List (TxnId × Txn)) × (moved (standing entries acknowledged (shut course last) txns course) (Client 0 call) (says.Down 0 ∷ []) ≡ standing entries acknowledged (shut course last) others course) × AreStill txns others)
down_serves entries acknowledged last txns course call =
    let m : Machine = standing entries acknowledged (shut course last) txns course in
    let still = answered_stands entries acknowledged (shut course last) txns course call (txn_named call) (answers.Down 0) refl in
    let done = answer_serves m m 0 call (answers.Down 0) None (IsStill entries acknowledged (shut course last) txns course) (call_unrefused entries acknowledged (shut course last) txns course call) (asks_nothing_inactive m call refl) refl refl (holds_still entries acknowledged (shut course last) txns course _ refl still) still in
    done

pub not_active_serves : (entries : List Entry) (acknowledged : List TxnId) (shown : ℕ) (txns : List (TxnId × Txn)) (course : Course) (call : Call) →
    IsWhole (standing entries acknowledged (resting course shown) txns course) (Client 0 call) (says.NotActive 0 ∷ [])
    × ((others : List (TxnId × Txn)) × (moved (standing entries acknowledged (resting course shown) txns course) (Client 0 call) (says.NotActive 0 ∷ []) ≡ standing entries acknowledged (resting course shown) others course) × AreStill txns others)
not_active_serves entries acknowledged shown txns course call =
    let m : Machine = standing entries acknowledged (resting course shown) txns course in
    let still = answered_stands entries acknowledged (resting course shown) txns course call (txn_named call) (answers.NotActive 0) refl in
    let done = answer_serves m m 0 call (answers.NotActive 0) None (IsStill entries acknowledged (resting course shown) txns course) (call_unrefused entries acknowledged (resting course shown) txns course call) (asks_nothing_inactive m call refl) refl refl (holds_still entries acknowledged (resting course shown) txns course _ refl still) still in
    done
