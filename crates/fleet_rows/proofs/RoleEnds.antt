-- What holds behind an event in which one replica's role ended, or which left one without a role.
use Rattle.std.proofs.Common.{◌≡◌, ◌∙◌, ℕ, true, false, Bool, List, [], get_or, Option, None, refl, sym, ap, inl, inr}
use Rattle.std.specs.Prelude.{◌&&◌, ◌==◌, not, option_and_then, find}
use Rattle.std.specs.Option.{option_map_or}
use Rattle.std.specs.List.{list_any, list_all}
use Rattle.std.proofs.lemmas.Bool.{cases_eq, false≢true, and_parts}
use Rattle.rc_base.specs.declared.ids.Epoch.{Epoch}
use Rattle.rc_base.specs.declared.ids.TxnId.{TxnId}
use Rattle.rc_base.specs.Ids.{is_epoch, is_txn}
use Rattle.events.proofs.Lists.{at_each, at_written}
use Rattle.order_machine.specs.Order.{Order, empty_order, holds, first_of}
use Rattle.order_machine.specs.Machine.{Machine, Replica, Role, Appointment, Txn, never_opened, replica, put_replica, role_of, has_role, is_active, is_alone, is_shown, is_pending, is_acknowledged, configs_of, closed, txn_of}
use Rattle.order_machine.specs.Transitions.{HoldsBehind}
use Rattle.order_machine.proofs.Machines.{not_alone}
use Rattle.history_laws.proofs.Elsewhere.{Elsewhere, other_replica}
use Rattle.history_laws.proofs.QuietSuffixes.{HomeStays-ended}
use Rattle.history_laws.proofs.IdleSteps.{ended_roles_are_idle}
use Rattle.history_laws.proofs.SettledSteps.{role_ends_keep_texts}
use Rattle.fleet_rows.specs.Served.{IsClosedOf, is_surveyed}
use Rattle.fleet_rows.proofs.Keeping.{KeepsLogs, asked_stays}

-- ---- what holds behind events

-- what was pending at a replica elsewhere is, and is shown, as before
pub pending_elsewhere : (q : ℕ) (m n : Machine) → Elsewhere q m n → n.acknowledged ≡ m.acknowledged → (t : TxnId) → is_pending n q t ≡ is_pending m q t
pending_elsewhere q m n e same t =
    ap (λ (b : Bool). b && (has_role n q t.epoch && not (is_acknowledged n t))) (asked_stays q m n e.stays t)
    ∙ ap (λ (rep : Replica). option_map_or (λ (x : Txn). x.asked && (x.home == q)) (at m) false && (option_map_or (λ (role : Role). is_epoch t.epoch role.epoch) rep.role false && not (is_acknowledged n t))) e.same
    ∙ ap (λ (ts : List TxnId). option_map_or (λ (x : Txn). x.asked && (x.home == q)) (at m) false && (has_role m q t.epoch && not (list_any (is_txn t) ts))) same
  where
    at : Machine → Option Txn
    at k = txn_of k t

pub shown_elsewhere : (q : ℕ) (m n : Machine) → Elsewhere q m n → (t : TxnId) → is_shown n q t ≡ is_shown m q t
shown_elsewhere q m n e t =
    ap (λ (rep : Replica). holds (first_of (get_or n.orders rep.loss empty_order) rep.show) t) e.same
    ∙ ap (λ (os : List Order). holds (first_of (get_or os (replica m q).loss empty_order) (replica m q).show) t) e.orders

-- a replica's members, by its role and the appointments
abbrev alone_in : ℕ → List Appointment → Option Role → Bool
alone_in q ones role = option_map_or (λ a. list_all (λ c. list_all (λ member. member == q) c) (configs_of a)) (option_and_then (λ (x : Role). find (λ a. is_epoch x.epoch a.epoch) ones) role) false

pub alone_elsewhere : (q : ℕ) (m n : Machine) → Elsewhere q m n → n.appointments ≡ m.appointments → is_alone n q ≡ is_alone m q
alone_elsewhere q m n e same = ap (λ (rep : Replica). alone_in q n.appointments rep.role) e.same ∙ ap (λ (ones : List Appointment). alone_in q ones (role_of m q)) same

active_elsewhere : (q : ℕ) (m n : Machine) → Elsewhere q m n → is_active n q ≡ is_active m q
active_elsewhere q m n e = ap (λ (rep : Replica). option_map_or (λ (role : Role). role.active) rep.role false) e.same

no_role_there : (n : Machine) (r : ℕ) (t : TxnId) → role_of n r ≡ None → is_pending n r t ≡ true → ⊥
no_role_there n r t none pending =
    let parts = and_parts (option_map_or (λ (x : Txn). x.asked && (x.home == r)) (txn_of n t) false) (has_role n r t.epoch && not (is_acknowledged n t)) pending in
    let role = and_parts (has_role n r t.epoch) (not (is_acknowledged n t)) parts.1 in
    false≢true (sym (ap (λ (o : Option Role). option_map_or (λ (x : Role). is_epoch t.epoch x.epoch) o false) none) ∙ role.0)

-- where r has no role, and the others are as they were, what held holds
pub holds_without : (m n : Machine) (r : ℕ) → ((q : ℕ) → (q ≡ r → ⊥) → Elsewhere q m n) → n.appointments ≡ m.appointments → n.acknowledged ≡ m.acknowledged → role_of n r ≡ None → HoldsBehind m → HoldsBehind n
holds_without m n r others ones acked none h = record {
  not_shown = λ q t pending. elim (cases_eq q r) [
    | inl here ↦ absurd (no_role_there n q t (ap (role_of n) here ∙ none) pending)
    | inr apart ↦ let e = others q apart in shown_elsewhere q m n e t ∙ h.not_shown q t (sym (pending_elsewhere q m n e acked t) ∙ pending)
  ];
  alone = λ q alone. elim (cases_eq q r) [
    | inl here ↦ absurd (not_alone n q (ap (role_of n) here ∙ none) alone)
    | inr apart ↦
        let e = others q apart in
        let had = h.alone q (sym (alone_elsewhere q m n e ones) ∙ alone) in
        (active_elsewhere q m n e ∙ had.0, λ t. pending_elsewhere q m n e acked t ∙ had.1 t)
  ];
}

-- where all are as they were too
pub holds_still : (m n : Machine) → ((q : ℕ) → Elsewhere q m n) → n.appointments ≡ m.appointments → n.acknowledged ≡ m.acknowledged → HoldsBehind m → HoldsBehind n
holds_still m n others ones acked h = record {
  not_shown = λ q t pending. shown_elsewhere q m n (others q) t ∙ h.not_shown q t (sym (pending_elsewhere q m n (others q) acked t) ∙ pending);
  alone = λ q alone. let had = h.alone q (sym (alone_elsewhere q m n (others q) ones) ∙ alone) in (active_elsewhere q m n (others q) ∙ had.0, λ t. pending_elsewhere q m n (others q) acked t ∙ had.1 t);
}

-- ---- one replica

-- surveys that came to a replica stay, where each of it is kept
pub surveyed_put : (m : Machine) (r : ℕ) (x : Replica) → ((e : Epoch) → list_any (λ s. is_epoch e s.epoch) (replica m r).surveys ≡ true → list_any (λ s. is_epoch e s.epoch) x.surveys ≡ true)
    → (q : ℕ) (e : Epoch) → is_surveyed m q e ≡ true → is_surveyed (put_replica m r x) q e ≡ true
surveyed_put m r x keeps q e = at_each (λ (k : ℕ) (y : Replica). is_surveyed m k e ≡ true → list_any (λ s. is_epoch e s.epoch) y.surveys ≡ true) m.replicas r x never_opened (λ k was. was) (keeps e) q

-- ---- a replica that is closed

pub closed_elsewhere : (m : Machine) (r q : ℕ) → (q ≡ r → ⊥) → Elsewhere q m (closed m r)
closed_elsewhere m r q apart = record { same = other_replica m q r (record (replica m r) { up = false; role = None; grants = [] }) apart; orders = refl; stays = HomeStays-ended q r m.txns apart }

pub closed_no_role : (m : Machine) (r : ℕ) → role_of (closed m r) r ≡ None
closed_no_role m r = at_written (λ (x : Replica). x.role ≡ None) m.replicas r (record (replica m r) { up = false; role = None; grants = [] }) never_opened refl refl

pub closed_own : (m : Machine) (r : ℕ) → IsClosedOf (closed m r) r
closed_own m r = record {
  down = at_written (λ (x : Replica). x.up ≡ false) m.replicas r (record (replica m r) { up = false; role = None; grants = [] }) never_opened refl refl;
  bystander = record { no_role = closed_no_role m r; idle = (ended_roles_are_idle m r).1 };
}

pub closed_logs : (m : Machine) (r : ℕ) → KeepsLogs m (closed m r)
closed_logs m r = record {
  orders = refl;
  texts = λ commits text. (role_ends_keep_texts [] commits m r).1 text;
  appointed = λ e is. is;
  surveyed = surveyed_put m r (record (replica m r) { up = false; role = None; grants = [] }) (λ e was. was);
}

pub closed_holds : (m : Machine) (r : ℕ) → HoldsBehind m → HoldsBehind (closed m r)
closed_holds m r = holds_without m (closed m r) r (closed_elsewhere m r) refl refl (closed_no_role m r)
