-- A primary answers each call as the machine does.
use Rattle.std.proofs.Common.{◌≡◌, ◌∙◌, ℕ, ◌+◌, false, Bool, cond, not, List, sym, ap, ap₂, Option, Some, None}
use Rattle.std.specs.Prelude.{MatchOption}
use Rattle.std.specs.Option.{option_map_or}
use Rattle.rc_base.specs.declared.ids.Epoch.{Epoch}
use Rattle.rc_base.specs.declared.ids.TxnId.{TxnId}
use Rattle.coll_model.specs.Effect.{State, folded}
use Rattle.coll_model.specs.declared.op.Op.{Op}
use Rattle.key_locks.specs.Grants.{Grant}
use Rattle.events.specs.declared.call.Call.{Call}
use Rattle.events.specs.declared.answer.Answer.TheVariants as answers
use Rattle.events.specs.Answers.{plain, live_reply}
use Rattle.events.specs.Calls.{txn_named}
use Rattle.txn_front.specs.Front as front
use Rattle.txn_front.specs.Front.{Going, going_of, txn_at}
use Rattle.order_machine.specs.Machine.{Machine, Role, Txn, role_of, grants_of, live_txn, ops_of, is_active}
use Rattle.order_machine.specs.Clients.{answer, served, seen, next_txn}
use Rattle.replica_model.specs.OpenReplica.{OpenReplica, contents_of}
use Rattle.replica_model.specs.Records.{reply}
use Rattle.fleet_run.specs.Fronts.{FrontAgrees, CallsAreAnsweredAlike}

module _ (m : Machine) (r : ℕ) (o : OpenReplica) (call : Call) (is : FrontAgrees m r o) where
  going_alike : (t : TxnId) (going : Option Going) → MatchOption going (live_txn m r t ≡ None) (λ going. (x : Txn) × (live_txn m r t ≡ Some x) × (going.ops ≡ ops_of x))
      → option_map_or (λ going. live_reply o.front.grants (folded (contents_of o) going.ops) t call) going (Some (plain (answers.Ended t)))
      ≡ option_map_or (λ x. live_reply (grants_of m r) (seen m r x) t call) (live_txn m r t) (Some (plain (answers.Ended t)))
  going_alike t None at = sym (ap (λ (z : Option Txn). option_map_or (λ x. live_reply (grants_of m r) (seen m r x) t call) z (Some (plain (answers.Ended t)))) at)
  going_alike t (Some going) at =
      ap (λ (gs : List Grant). live_reply gs (folded (contents_of o) going.ops) t call) is.grants
      ∙ ap₂ (λ (state : State) (ops : List Op). live_reply (grants_of m r) (folded state ops) t call) is.contents at.2
      ∙ sym (ap (λ (z : Option Txn). option_map_or (λ x. live_reply (grants_of m r) (seen m r x) t call) z (Some (plain (answers.Ended t)))) at.1)

  next_alike : txn_at o.front (o.front.begins + 1) ≡ next_txn (role_of m r)
  next_alike =
      ap₂ (λ (e : Epoch) (k : ℕ). let t : TxnId = record { epoch = e; n = k + 1 } in t) (sym is.role.3) (sym is.role.4)
      ∙ sym (ap (λ (x : Option Role). next_txn x) is.role.1)

  named_alike : (t : Option TxnId)
      → option_map_or (λ t. option_map_or (λ going. live_reply o.front.grants (folded (contents_of o) going.ops) t call) (going_of o.front t) (Some (plain (answers.Ended t)))) t (Some (plain (answers.Txn (txn_at o.front (o.front.begins + 1)))))
      ≡ option_map_or (λ t. option_map_or (λ x. live_reply (grants_of m r) (seen m r x) t call) (live_txn m r t) (Some (plain (answers.Ended t)))) t (Some (plain (answers.Txn (next_txn (role_of m r)))))
  named_alike None = ap (λ (t : TxnId). Some (plain (answers.Txn t))) next_alike
  named_alike (Some t) = going_alike t (going_of o.front t) (is.going t)

  answered_alike : reply o call ≡ answer m r call
  answered_alike =
      ap (λ (b : Bool). cond b (front.told o.front (contents_of o) call) (Some (plain (answers.NotActive o.id)))) is.active
      ∙ named_alike (txn_named call)
      ∙ sym (ap (λ (b : Bool). cond (not b) (Some (plain (answers.NotActive r))) (served m r call)) (ap (λ (x : Option Role). option_map_or (λ role. role.active) x false) is.role.1 ∙ is.role.2))
      ∙ sym (ap (λ (b : Bool). cond (not b) (Some (plain (answers.Down r))) (cond (not (is_active m r)) (Some (plain (answers.NotActive r))) (served m r call))) is.up)

pub calls_are_answered_alike : CallsAreAnsweredAlike
calls_are_answered_alike m r o call is = answered_alike m r o call is
