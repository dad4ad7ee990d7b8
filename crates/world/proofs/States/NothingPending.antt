-- Behind each event of a booted world nothing is pending, and its one primary is active.
use Rattle.std.proofs.Common.{◌≡◌, sym, subst, ℕ, zero, suc, List, Bool, true, false, ◌&&◌, not, Option, Some, None, refl, get_or, replicate, ◌==◌}
use Rattle.std.specs.Option.{option_map_or}
use Rattle.std.specs.List.{list_any}
use Rattle.std.specs.Map.{lookup}
use Rattle.std.proofs.lemmas.Bool.{false≢true}
use Rattle.rc_base.specs.declared.ids.Epoch.{Epoch}
use Rattle.rc_base.specs.declared.ids.TxnId.{TxnId}
use Rattle.rc_base.proofs.SameIds.{is_epoch-true}
use Rattle.coll_model.specs.Effect.{State}
use Rattle.rc_base.specs.Ids.{is_txn, is_epoch}
use Rattle.order_machine.specs.Order.{Entry}
use Rattle.order_machine.specs.Machine.{Machine, Txn, never_opened, is_pending, is_active, is_alone, has_role}
use Rattle.order_machine.specs.Transitions.{HoldsBehind}
use Rattle.key_locks.specs.Grants.{Grant}
use Rattle.txn_front.specs.Front.{Fronted}
use Rattle.world.specs.Running.{running, Runs}
use Rattle.world.specs.Standing.{Course}

-- the replicas behind the first were never opened
pub never_there : (n k : ℕ) → get_or (replicate n never_opened) k never_opened ≡ never_opened
never_there zero k = refl
never_there (suc n) zero = refl
never_there (suc n) (suc k) = never_there n k

asked_is_done : (o : Option Txn) (r : ℕ) (has acked : Bool) → ((x : Txn) → o ≡ Some x → has ≡ true → x.asked ≡ true → acked ≡ true) → (option_map_or (λ x. x.asked && (x.home == r)) o false && (has && not acked)) ≡ false
asked_is_done None r has acked h = refl
asked_is_done (Some x) r has acked h = by_flags x.asked has (λ e f. h x refl f e)
  where
    off : (b : Bool) → (b && false) ≡ false
    off true = refl
    off false = refl

    by_ack : (b a : Bool) → a ≡ true → (b && (true && not a)) ≡ false
    by_ack b a e = rw e (off b)

    by_flags : (f c : Bool) → (f ≡ true → c ≡ true → acked ≡ true) → ((f && (x.home == r)) && (c && not acked)) ≡ false
    by_flags true true g = by_ack (x.home == r) acked (g refl refl)
    by_flags true false g = off (x.home == r)
    by_flags false c g = refl

-- the epoch of the one role
role_epoch : (h_latest : Epoch) (t : TxnId) → is_epoch t.epoch h_latest ≡ true → t.epoch ≡ h_latest
role_epoch latest t e = is_epoch-true t.epoch latest e

has_here : (entries : List Entry) (acknowledged : List TxnId) (txns : List (TxnId × Txn)) (begins : ℕ) (grants : List Grant) (course : Course) (r : ℕ) (t : TxnId) → has_role (running entries acknowledged txns begins grants course) r t.epoch ≡ true → t.epoch ≡ course.latest
has_here entries acknowledged txns begins grants course zero t e = role_epoch course.latest t e
has_here entries acknowledged txns begins grants course (suc k) t e = absurd (false≢true (let n = never_there 8 k in rw n at e))

pub nothing_pending : (front : Fronted) (shown : ℕ) (contents : State) (m : Machine) → Runs front shown contents m → (r : ℕ) (t : TxnId) → is_pending m r t ≡ false
nothing_pending front shown contents m h r t =
    let P : Machine → Type 0 = λ n. is_pending n r t ≡ false in
    subst P (sym h.is) (asked_is_done (lookup (is_txn t) h.txns) r (has_role (running h.entries h.acknowledged h.txns front.begins h.grants h.course) r t.epoch) (list_any (is_txn t) h.acknowledged) (λ x e has f. (h.each t x e).asked (has_here h.entries h.acknowledged h.txns front.begins h.grants h.course r t has) f))

pub only_primary : (entries : List Entry) (acknowledged : List TxnId) (txns : List (TxnId × Txn)) (begins : ℕ) (grants : List Grant) (course : Course) (r : ℕ) → is_alone (running entries acknowledged txns begins grants course) r ≡ true → is_active (running entries acknowledged txns begins grants course) r ≡ true
only_primary entries acknowledged txns begins grants course zero h = refl
only_primary entries acknowledged txns begins grants course (suc k) h = absurd (false≢true (let n = never_there 8 k in rw n at h))

pub holds_behind : (front : Fronted) (shown : ℕ) (contents : State) (m : Machine) → Runs front shown contents m → HoldsBehind m
holds_behind front shown contents m h = record {
  not_shown = λ r t p. absurd (let q = nothing_pending front shown contents m h r t in cc);
  alone = λ r a. (
    let P : Machine → Type 0 = λ n. is_alone n r ≡ true → is_active n r ≡ true in
        subst P (sym h.is) (only_primary h.entries h.acknowledged h.txns front.begins h.grants h.course r) a,
    nothing_pending front shown contents m h r,
  );
}

-- the same, of the machine written out
unfoldable pub settled : (front : Fronted) (shown : ℕ) (contents : State) (m : Machine) (h : Runs front shown contents m) → Runs front shown contents (running h.entries h.acknowledged h.txns front.begins h.grants h.course)
settled front shown contents m h = record {
  entries = h.entries;
  acknowledged = h.acknowledged;
  txns = h.txns;
  grants = h.grants;
  course = h.course;
  is = refl;
  epoch = h.epoch;
  alike = h.alike;
  exclusive = h.exclusive;
  all_shown = h.all_shown;
  sees = h.sees;
  each = h.each;
  live_known = h.live_known;
  held = h.held;
  held_within = h.held_within;
  held_begun = h.held_begun;
}
