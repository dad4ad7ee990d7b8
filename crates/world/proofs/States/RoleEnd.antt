-- Behind an event after which no replica has a role nothing is pending, and no primary is alone.
use Rattle.std.proofs.Common.{◌≡◌, ◌∙◌, sym, ap, ℕ, zero, suc, List, Bool, false, ◌&&◌, not, ◌==◌, None}
use Rattle.std.specs.Option.{option_map_or}
use Rattle.std.proofs.lemmas.Bool.{false≢true, and_left, and_right}
use Rattle.rc_base.specs.declared.ids.TxnId.{TxnId}
use Rattle.rc_base.specs.Ids.{is_epoch}
use Rattle.order_machine.specs.Order.{Entry}
use Rattle.order_machine.specs.Machine.{Machine, Replica, Txn, txn_of, role_of, has_role, is_acknowledged, is_pending}
use Rattle.order_machine.specs.Transitions.{HoldsBehind}
use Rattle.order_machine.proofs.Machines.{not_alone}
use Rattle.order_machine.proofs.Machines.{never_put}
use Rattle.world.specs.Standing.{Course, standing}

-- nothing is pending at a replica without a role
pub nothing_pending_without_role : (m : Machine) (r : ℕ) (t : TxnId) → role_of m r ≡ None → is_pending m r t ≡ false
nothing_pending_without_role m r t none =
    let asked : Bool = option_map_or (λ x. x.asked && (x.home == r)) (txn_of m t) false in
    let has : has_role m r t.epoch ≡ false = ap (λ o. option_map_or (λ role. is_epoch t.epoch role.epoch) o false) none in
    and_right asked (has_role m r t.epoch && not (is_acknowledged m t)) (and_left (has_role m r t.epoch) (not (is_acknowledged m t)) has)

pub holds_where_no_role : (m : Machine) → ((r : ℕ) → role_of m r ≡ None) → HoldsBehind m
holds_where_no_role m none = record {
  not_shown = λ r t h. absurd (false≢true (sym (nothing_pending_without_role m r t (none r)) ∙ h));
  alone = λ r h. absurd (not_alone m r (none r) h);
}

-- in a world of replica 0
pub holds_without_role : (entries : List Entry) (acknowledged : List TxnId) (zero : Replica) (txns : List (TxnId × Txn)) (course : Course) → zero.role ≡ None → HoldsBehind (standing entries acknowledged zero txns course)
holds_without_role entries acknowledged first txns course none = holds_where_no_role (standing entries acknowledged first txns course) no_role
  where
    no_role : (r : ℕ) → role_of (standing entries acknowledged first txns course) r ≡ None
    no_role zero = none
    no_role (suc r) = ap (λ x. x.role) (never_put (suc r))
