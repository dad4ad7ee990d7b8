-- What an answered call changes of the machine, and what it leaves.
use Rattle.std.proofs.Common.{◌≡◌, ◌∙◌, ℕ, Bool, false, not, cond, List, [], length, get_or, Option, Some, None, refl, sym, ap, inl, inr}
use Rattle.std.specs.Prelude.{◌&&◌, ◌==◌, is_some, option_map, option_and_then, find}
use Rattle.std.specs.Option.{option_map_or}
use Rattle.std.specs.List.{list_any, list_all}
use Rattle.std.proofs.lemmas.Bool.{cases_Bool}
use Rattle.std.proofs.lemmas.List.{length-set}
use Rattle.rc_base.specs.declared.ids.Epoch.{Epoch}
use Rattle.rc_base.specs.declared.ids.TxnId.{TxnId}
use Rattle.rc_base.specs.Ids.{is_epoch, is_txn}
use Rattle.rc_base.proofs.SameIds.{is_txn-true}
use Rattle.key_locks.specs.Grants.{released}
use Rattle.events.specs.declared.call.Call.{Call}
use Rattle.events.specs.declared.answer.Reply.{Reply}
use Rattle.events.specs.Locking.{locks_at, taken}
use Rattle.events.proofs.Lists.{at_each}
use Rattle.order_machine.specs.Order.{Order, empty_order, holds, first_of}
use Rattle.order_machine.specs.Machine.{Machine, Replica, Role, Txn, Survey, Appointment, never_opened, replica, put_replica, put_txn, txn_of, role_of, grants_of, has_role, is_active, is_alone, is_shown, is_pending, is_acknowledged, configs_of}
use Rattle.order_machine.specs.Clients.{answer, seen, new_txn, one_more_begun}
use Rattle.order_machine.specs.Transitions.{HoldsBehind}
use Rattle.history_laws.specs.Laws.{after_call}
use Rattle.history_laws.specs.Invariant.Numbering.{Numbering}
use Rattle.history_laws.proofs.CallCases.{CallCases, with_call, aborted, after_answer}
use Rattle.history_laws.proofs.Elsewhere.{Elsewhere, elsewhere_cases}
use Rattle.history_laws.proofs.SettledSteps.{calls_keep_texts}
use Rattle.lock_laws.proofs.ProtectedCalls.{note_of}
use Rattle.fleet_rows.proofs.Keeping.{KeepsLogs}

-- ---- what stays

abbrev as_led : Option Role → Option (Epoch × Bool)
as_led x = option_map (λ (role : Role). (role.epoch, role.active)) x

-- a replica is as it was, but for its begins and grants
pub record StaysAs (a b : Replica) : Type 0 where
  pub up : a.up ≡ b.up
  pub show : a.show ≡ b.show
  pub loss : a.loss ≡ b.loss
  pub surveys : a.surveys ≡ b.surveys
  pub role : as_led a.role ≡ as_led b.role

-- what was requested at q, by what is known of a transaction
abbrev asked_at : ℕ → Option Txn → Bool
asked_at q o = option_map_or (λ (x : Txn). x.asked && (x.home == q)) o false

-- no request, no view and no role is another
pub record Aside (m n : Machine) : Type 0 where
  pub replicas : (q : ℕ) → StaysAs (replica n q) (replica m q)
  pub sizes : length n.replicas ≡ length m.replicas
  pub orders : n.orders ≡ m.orders
  pub appointments : n.appointments ≡ m.appointments
  pub acknowledged : n.acknowledged ≡ m.acknowledged
  pub asked : (q : ℕ) (t : TxnId) → asked_at q (txn_of n t) ≡ asked_at q (txn_of m t)

itself : (m : Machine) → Aside m m
itself m = record { replicas = λ q. record { up = refl; show = refl; loss = refl; surveys = refl; role = refl }; sizes = refl; orders = refl; appointments = refl; acknowledged = refl; asked = λ q t. refl }

put_stays : (m : Machine) (r : ℕ) (x : Replica) → StaysAs x (replica m r) → (q : ℕ) → StaysAs (replica (put_replica m r x) q) (replica m q)
put_stays m r x stays q = at_each (λ (k : ℕ) (y : Replica). StaysAs y (replica m k)) m.replicas r x never_opened (λ k. record { up = refl; show = refl; loss = refl; surveys = refl; role = refl }) stays q

asked_put : (m : Machine) (t : TxnId) (o : Option Txn) (y : Txn) → txn_of m t ≡ o → ((q : ℕ) → asked_at q (Some y) ≡ asked_at q o) → (q : ℕ) (u : TxnId) → asked_at q (txn_of (put_txn m t y) u) ≡ asked_at q (txn_of m u)
asked_put m t o y known same q u = elim (cases_Bool (is_txn u t)) [
  | inl here ↦ ap (λ (b : Bool). asked_at q (cond b (Some y) (txn_of m u))) here ∙ same q ∙ ap (asked_at q) (sym known ∙ ap (txn_of m) (sym (is_txn-true u t here)))
  | inr other ↦ ap (λ (b : Bool). asked_at q (cond b (Some y) (txn_of m u))) other
]

one_more : (x : Option Role) → as_led (option_map one_more_begun x) ≡ as_led x
one_more None = refl
one_more (Some role) = refl

aside_cases : (m : Machine) (r : ℕ) → CallCases (Aside m) m r
aside_cases m r = record {
  same = itself m;
  quiet = λ t x c known quiet. record {
    replicas = (itself m).replicas;
    sizes = refl;
    orders = refl;
    appointments = refl;
    acknowledged = refl;
    asked = asked_put m t (Some x) (with_call x c) known (λ q. refl);
  };
  begins = λ t next active none. record {
    replicas = put_stays m r (record (replica m r) { role = option_map one_more_begun (role_of m r) }) (record { up = refl; show = refl; loss = refl; surveys = refl; role = one_more (role_of m r) });
    sizes = length-set m.replicas r (record (replica m r) { role = option_map one_more_begun (role_of m r) });
    orders = refl;
    appointments = refl;
    acknowledged = refl;
    asked = asked_put m t None (new_txn m r) none (λ q. refl);
  };
  locks = λ t x call reply at is.
      let gs = taken (grants_of m r) t (locks_at (seen m r x) call) in
      record {
        replicas = put_stays m r (record (replica m r) { grants = gs }) (record { up = refl; show = refl; loss = refl; surveys = refl; role = refl });
        sizes = length-set m.replicas r (record (replica m r) { grants = gs });
        orders = refl;
        appointments = refl;
        acknowledged = refl;
        asked = asked_put m t (Some x) (with_call x (note_of call reply)) at.known (λ q. refl);
      };
  aborts = λ t x c at quiet.
      let gs = released (grants_of m r) t in
      record {
        replicas = put_stays m r (record (replica m r) { grants = gs }) (record { up = refl; show = refl; loss = refl; surveys = refl; role = refl });
        sizes = length-set m.replicas r (record (replica m r) { grants = gs });
        orders = refl;
        appointments = refl;
        acknowledged = refl;
        asked = λ q u.
            asked_put (put_txn m t (aborted x)) t (txn_of (put_txn m t (aborted x)) t) (with_call (aborted x) c) refl (λ k. sym (asked_put m t (Some x) (aborted x) at.known (λ j. refl) k t ∙ ap (asked_at k) at.known)) q u
            ∙ asked_put m t (Some x) (aborted x) at.known (λ k. refl) q u;
      };
}

-- ---- what holds behind it

module _ (m n : Machine) (a : Aside m n) where
  led_by : {A : Type 0} (F : Option (Epoch × Bool) → A) (q : ℕ) → F (as_led (role_of n q)) ≡ F (as_led (role_of m q))
  led_by F q = ap F (a.replicas q).role

  of_epoch : (e : Epoch) (x : Option Role) → option_map_or (λ (role : Role). is_epoch e role.epoch) x false ≡ option_map_or (λ (p : Epoch × Bool). is_epoch e p.0) (as_led x) false
  of_epoch e None = refl
  of_epoch e (Some role) = refl

  active_of : (x : Option Role) → option_map_or (λ (role : Role). role.active) x false ≡ option_map_or (λ (p : Epoch × Bool). p.1) (as_led x) false
  active_of None = refl
  active_of (Some role) = refl

  abbrev alone_by : ℕ → List Appointment → Option Epoch → Bool
  alone_by q ones e = option_map_or (λ a. list_all (λ c. list_all (λ member. member == q) c) (configs_of a)) (option_and_then (λ (x : Epoch). find (λ a. is_epoch x a.epoch) ones) e) false

  alone_of : (q : ℕ) (ones : List Appointment) (x : Option Role)
      → option_map_or (λ a. list_all (λ c. list_all (λ member. member == q) c) (configs_of a)) (option_and_then (λ (role : Role). find (λ a. is_epoch role.epoch a.epoch) ones) x) false ≡ alone_by q ones (option_map (λ (p : Epoch × Bool). p.0) (as_led x))
  alone_of q ones None = refl
  alone_of q ones (Some role) = refl

  role_stays : (q : ℕ) (e : Epoch) → has_role n q e ≡ has_role m q e
  role_stays q e = of_epoch e (role_of n q) ∙ led_by (λ (x : Option (Epoch × Bool)). option_map_or (λ (p : Epoch × Bool). is_epoch e p.0) x false) q ∙ sym (of_epoch e (role_of m q))

  pub active_stays : (q : ℕ) → is_active n q ≡ is_active m q
  active_stays q = active_of (role_of n q) ∙ led_by (λ (x : Option (Epoch × Bool)). option_map_or (λ (p : Epoch × Bool). p.1) x false) q ∙ sym (active_of (role_of m q))

  alone_stays : (q : ℕ) → is_alone n q ≡ is_alone m q
  alone_stays q =
      alone_of q n.appointments (role_of n q)
      ∙ led_by (λ (x : Option (Epoch × Bool)). alone_by q n.appointments (option_map (λ (p : Epoch × Bool). p.0) x)) q
      ∙ ap (λ (ones : List Appointment). alone_by q ones (option_map (λ (p : Epoch × Bool). p.0) (as_led (role_of m q)))) a.appointments
      ∙ sym (alone_of q m.appointments (role_of m q))

  pending_stays : (q : ℕ) (t : TxnId) → is_pending n q t ≡ is_pending m q t
  pending_stays q t =
      ap (λ (b : Bool). b && (has_role n q t.epoch && not (is_acknowledged n t))) (a.asked q t)
      ∙ ap (λ (b : Bool). asked_at q (txn_of m t) && (b && not (is_acknowledged n t))) (role_stays q t.epoch)
      ∙ ap (λ (ts : List TxnId). asked_at q (txn_of m t) && (has_role m q t.epoch && not (list_any (is_txn t) ts))) a.acknowledged

  shown_stays : (q : ℕ) (t : TxnId) → is_shown n q t ≡ is_shown m q t
  shown_stays q t =
      ap (λ (l : ℕ). holds (first_of (get_or n.orders l empty_order) (replica n q).show) t) (a.replicas q).loss
      ∙ ap (λ (k : ℕ). holds (first_of (get_or n.orders (replica m q).loss empty_order) k) t) (a.replicas q).show
      ∙ ap (λ (os : List Order). holds (first_of (get_or os (replica m q).loss empty_order) (replica m q).show) t) a.orders

  pub aside_holds : HoldsBehind m → HoldsBehind n
  aside_holds h = record {
    not_shown = λ q t pending. shown_stays q t ∙ h.not_shown q t (sym (pending_stays q t) ∙ pending);
    alone = λ q alone. let had = h.alone q (sym (alone_stays q) ∙ alone) in (active_stays q ∙ had.0, λ t. pending_stays q t ∙ had.1 t);
  }

-- ---- an answered call

module _ (m : Machine) (r : ℕ) (call : Call) (reply : Reply) (numbering : Numbering m) (is : answer m r call ≡ Some reply) where
  pub call_aside : Aside m (after_call m r call reply)
  call_aside = after_answer (Aside m) m r (aside_cases m r) call reply numbering is

  pub call_logs : KeepsLogs m (after_call m r call reply)
  call_logs = record {
    orders = call_aside.orders;
    texts = λ commits text. calls_keep_texts m r call reply numbering is [] commits text;
    appointed = λ e was. ap (λ (ones : List Appointment). is_some (find (λ a. is_epoch e a.epoch) ones)) call_aside.appointments ∙ was;
    surveyed = λ q e was. ap (λ (ss : List Survey). list_any (λ s. is_epoch e s.epoch) ss) (call_aside.replicas q).surveys ∙ was;
  }

  pub call_elsewhere : (q : ℕ) → (q ≡ r → ⊥) → Elsewhere q m (after_call m r call reply)
  call_elsewhere q apart = after_answer (Elsewhere q m) m r (elsewhere_cases m r q apart) call reply numbering is
