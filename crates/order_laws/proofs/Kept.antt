-- What every machine of a legal run keeps, and that each change of a line keeps it.
use Rattle.std.proofs.Common.{◌≡◌, ◌∙◌, ℕ, zero, suc, ◌+◌, ◌-◌, ◌≤◌, Bool, true, false, List, [], ◌∷◌, ◌++◌, map, set, get_or, Option, Some, None, cond, refl, sym, ap, subst, inl, inr, le_of_eq, append-nil, arith, filter_map, eqb}
use Rattle.std.specs.Prelude.{find, option_map}
use Rattle.std.specs.List.{list_any, AllByRecursion, IsDistinct, cons_option}
use Rattle.std.specs.Option.{option_map_or}
use Rattle.std.specs.Map.{lookup}
use Rattle.std.proofs.lemmas.Bool.{false≢true, or_cases, or_left, cases_Bool, cond-true, cond-false, cond_both, false_from_ne_true}
use Rattle.std.proofs.lemmas.Option.{none-some, same_Some}
use Rattle.std.proofs.lemmas.List.{length-append, map_push}
use Rattle.std.proofs.lemmas.List.Elements.{filter_map-append}
use Rattle.std.proofs.lemmas.List.Folds.{list_any-append}
use Rattle.std.proofs.lemmas.Map.Keys.{IsDistinct-push}
use Rattle.rc_base.specs.declared.ids.Epoch.{Epoch}
use Rattle.rc_base.specs.declared.ids.TxnId.{TxnId}
use Rattle.coll_model.specs.declared.op.Op.{Op}
use Rattle.key_locks.specs.Grants.{Grant, released}
use Rattle.rc_base.specs.Ids.{is_epoch, is_txn, epoch_le}
use Rattle.order_machine.specs.Order.{Entry, Order, empty_order, length_of, first_of, holds}
use Rattle.order_machine.specs.Machine.{Machine, Replica, Role, Txn, Appointment, never_opened, empty_machine, replica, put_replica, order_of, role_of, txn_of, put_txn, put_role, grants_of, put_grants, is_shown, is_acknowledged, ops_of, ended_at, without_role, closed}
use Rattle.events.specs.Calls.{CallRecord}
use Rattle.order_machine.specs.Clients.{noted, begun, new_txn, one_more_begun}
use Rattle.order_laws.specs.Laws.{IsAsked, entries_of}
use Rattle.order_machine.specs.Transitions.{dropping, ordering, acknowledging, activated, noting_active, showing, with_survey}
use Rattle.order_machine.proofs.Machines.{never_put, ended, lookup_ended, known_before}
use Rattle.rc_base.proofs.SameIds.{is_epoch_same, is_txn-true, is_txn_equivalence}
use Rattle.events.proofs.Lists.{list_any-take_more, list_any-from_take, list_any-take_added, list_any-map, AllByRecursion-push, AllByRecursion-weaker, at_each, at_each_other}

-- ---- what is kept

-- A primary's epoch was appointed, and to it; its begins count the transactions of its epoch; and where it is active it
-- shows what was acknowledged up to its epoch.
pub record OfRole (order : Order) (acknowledged : List TxnId) (txns : List (TxnId × Txn)) (appointments : List Appointment) (r show : ℕ) (role : Role) : Type 0 where
  pub appointment : Appointment
  pub appointed : find (λ a. is_epoch role.epoch a.epoch) appointments ≡ Some appointment
  pub primary : appointment.primary ≡ r
  pub counted : (t : TxnId) (x : Txn) → t.epoch ≡ role.epoch → lookup (is_txn t) txns ≡ Some x → t.n ≤ role.begins
  pub shows : role.active ≡ true → (t : TxnId) → list_any (is_txn t) acknowledged ≡ true → epoch_le t.epoch role.epoch ≡ true → holds (first_of order show) t ≡ true

pub record OfReplica (order : Order) (acknowledged : List TxnId) (txns : List (TxnId × Txn)) (appointments : List Appointment) (r : ℕ) (x : Replica) : Type 0 where
  pub loss : x.loss ≡ 0
  pub within : x.show ≤ length_of order
  pub role : (role : Role) → x.role ≡ Some role → OfRole order acknowledged txns appointments r x.show role

pub record IsAskedIn (txns : List (TxnId × Txn)) (e : Entry) : Type 0 where
  pub txn : Txn
  pub known : lookup (is_txn e.txn) txns ≡ Some txn
  pub asked : txn.asked ≡ true
  pub whole : e.ops ≡ ops_of txn

-- the epoch was appointed
abbrev pub IsAppointed : List Appointment → Epoch → Type 0
IsAppointed appointments e = (a : Appointment) × (find (λ x. is_epoch e x.epoch) appointments ≡ Some a)

pub record Kept (m : Machine) : Type 0 where
  pub order : Order
  pub one : m.orders ≡ order ∷ []
  pub replicas : (r : ℕ) → OfReplica order m.acknowledged m.txns m.appointments r (replica m r)
  pub held : (t : TxnId) → list_any (is_txn t) m.acknowledged ≡ true → holds order.entries t ≡ true
  pub once : IsDistinct is_txn (map (λ e. e.txn) order.entries)
  pub asked : AllByRecursion (IsAskedIn m.txns) order.entries
  pub unbooted : m.appointments ≡ [] → m.txns ≡ []
  pub named : (t : TxnId) (x : Txn) → lookup (is_txn t) m.txns ≡ Some x → IsAppointed m.appointments t.epoch
  pub unasked : (t : TxnId) (x : Txn) → lookup (is_txn t) m.txns ≡ Some x → x.live ≡ true → x.asked ≡ false

pub order_is : (m : Machine) (k : Kept m) (r : ℕ) → order_of m r ≡ k.order
order_is m k r =
    ap (λ l. get_or m.orders l empty_order) (k.replicas r).loss ∙ ap (λ os. get_or os 0 empty_order) k.one

pub shown_is : (m : Machine) (k : Kept m) (r : ℕ) (t : TxnId) → is_shown m r t ≡ holds (first_of k.order (replica m r).show) t
shown_is m k r t = ap (λ o. holds (first_of o (replica m r).show) t) (order_is m k r)

-- ---- the start of a world

pub kept_empty : Kept empty_machine
unfolding IsDistinct
kept_empty = record {
  order = empty_order;
  one = refl;
  replicas = λ r. subst (OfReplica empty_order [] [] [] r) (sym (never_put r)) (record {
    loss = refl;
    within = omega arith;
    role = λ role e. absurd (none-some role e);
  });
  held = λ t h. absurd (false≢true h);
  once = tt;
  asked = tt;
  unbooted = λ e. refl;
  named = λ t x known. absurd (none-some x known);
  unasked = λ t x known. absurd (none-some x known);
}

-- ---- a change of one replica

pub kept_put : (m : Machine) (k : Kept m) (r : ℕ) (new : Replica) → OfReplica k.order m.acknowledged m.txns m.appointments r new → Kept (put_replica m r new)
kept_put m k r new here = record {
  order = k.order;
  one = k.one;
  replicas = at_each (OfReplica k.order m.acknowledged m.txns m.appointments) m.replicas r new never_opened k.replicas here;
  held = k.held;
  once = k.once;
  asked = k.asked;
  unbooted = k.unbooted;
  named = k.named;
  unasked = k.unasked;
}

-- one that has the same role, order and show
pub kept_beside : (m : Machine) (k : Kept m) (r : ℕ) (new : Replica) → new.loss ≡ (replica m r).loss → new.show ≡ (replica m r).show → new.role ≡ (replica m r).role → Kept (put_replica m r new)
kept_beside m k r new loss show role = kept_put m k r new (record {
  loss = loss ∙ (k.replicas r).loss;
  within = subst (λ n. n ≤ length_of k.order) (sym show) (k.replicas r).within;
  role = λ held e. subst (λ n. OfRole k.order m.acknowledged m.txns m.appointments r n held) (sym show) ((k.replicas r).role held (sym role ∙ e));
})

pub kept_grants : (m : Machine) (k : Kept m) (r : ℕ) (grants : List Grant) → Kept (put_grants m r grants)
kept_grants m k r grants = kept_beside m k r (record (replica m r) { grants = grants }) refl refl refl

pub kept_surveyed : (m : Machine) (k : Kept m) (r : ℕ) (e : Epoch) (faulted : Bool) → Kept (with_survey m r e faulted)
kept_surveyed m k r e faulted = kept_beside m k r (record (replica m r) { surveys = record { epoch = e; faulted = faulted } ∷ (replica m r).surveys }) refl refl refl

-- one that has no role, with the same order and no greater show than the order's length
pub kept_without_role : (m : Machine) (k : Kept m) (r : ℕ) (new : Replica) → new.loss ≡ 0 → new.show ≤ length_of k.order → new.role ≡ None → Kept (put_replica m r new)
kept_without_role m k r new loss within none = kept_put m k r new (record {
  loss = loss;
  within = within;
  role = λ role e. absurd (none-some role (sym none ∙ e));
})

-- a role's replica shows more
role_shows_more : {order : Order} {acknowledged : List TxnId} {txns : List (TxnId × Txn)} {appointments : List Appointment} {r : ℕ} {role : Role} (show more : ℕ) → show ≤ more → OfRole order acknowledged txns appointments r show role → OfRole order acknowledged txns appointments r more role
role_shows_more {order} show more l k = record {
  appointment = k.appointment;
  appointed = k.appointed;
  primary = k.primary;
  counted = k.counted;
  shows = λ active t ack le. list_any-take_more (λ e. is_txn t e.txn) (show - order.base) (more - order.base) order.entries (omega arith) (k.shows active t ack le);
}

pub kept_showing : (m : Machine) (k : Kept m) (r n : ℕ) → (replica m r).show ≤ n → n ≤ length_of k.order → Kept (showing m r n)
kept_showing m k r n more within = kept_put m k r (record (replica m r) { show = n }) (record {
  loss = (k.replicas r).loss;
  within = within;
  role = λ role e. role_shows_more (replica m r).show n more ((k.replicas r).role role e);
})

-- ---- the order grows

abbrev pub with_entry : Order → Entry → Order
with_entry o e = record o { entries = o.entries ++ e ∷ [] }

replica_with_entry : (order : Order) (e : Entry) {acknowledged : List TxnId} {txns : List (TxnId × Txn)} {appointments : List Appointment} {r : ℕ} {x : Replica} → OfReplica order acknowledged txns appointments r x → OfReplica (with_entry order e) acknowledged txns appointments r x
replica_with_entry order e {x = x} k = record {
  loss = k.loss;
  within = let more = length-append order.entries (e ∷ []) in let within = k.within in omega arith;
  role = λ role is. let old = k.role role is in record {
    appointment = old.appointment;
    appointed = old.appointed;
    primary = old.primary;
    counted = old.counted;
    shows = λ active t ack le. list_any-take_added (λ entry. is_txn t entry.txn) (x.show - order.base) order.entries (e ∷ []) (old.shows active t ack le);
  };
}

pub orders_with_entry : (m : Machine) (k : Kept m) (r : ℕ) (t : TxnId) (ops : List Op) → (ordering m r t ops).orders ≡ with_entry k.order (record { txn = t; ops = ops }) ∷ []
orders_with_entry m k r t ops =
    let e : Entry = record { txn = t; ops = ops } in
    ap (λ l. set m.orders l (with_entry (order_of m r) e)) (k.replicas r).loss ∙ (ap (λ os. set os 0 (with_entry (order_of m r) e)) k.one ∙ ap (λ o. with_entry o e ∷ []) (order_is m k r))

pub kept_ordering : (m : Machine) (k : Kept m) (r : ℕ) (t : TxnId) (ops : List Op) (x : Txn) → txn_of m t ≡ Some x → holds (order_of m r).entries t ≡ false → x.asked ≡ true → ops ≡ ops_of x → Kept (ordering m r t ops)
kept_ordering m k r t ops x known new asked whole =
    let e : Entry = record { txn = t; ops = ops } in
    let fresh : list_any (is_txn t) (map (λ entry. entry.txn) k.order.entries) ≡ false = list_any-map (is_txn t) (λ entry. entry.txn) k.order.entries ∙ (ap (λ o. holds o.entries t) (sym (order_is m k r)) ∙ new) in
    record {
      order = with_entry k.order e;
      one = orders_with_entry m k r t ops;
      replicas = λ q. replica_with_entry k.order e (k.replicas q);
      held = λ u h. list_any-append (λ entry. is_txn u entry.txn) k.order.entries (e ∷ []) ∙ or_left (holds k.order.entries u) (holds (e ∷ []) u) (k.held u h);
      once = subst (IsDistinct is_txn) (sym (map_push (λ entry. entry.txn) k.order.entries e)) (IsDistinct-push is_txn_equivalence (map (λ entry. entry.txn) k.order.entries) t k.once fresh);
      asked = AllByRecursion-push (IsAskedIn m.txns) k.order.entries e k.asked (record { txn = x; known = known; asked = asked; whole = whole });
      unbooted = k.unbooted;
      named = k.named;
      unasked = k.unasked;
    }

-- ---- a transaction is acknowledged

kept_acknowledged : (m : Machine) (k : Kept m) (r : ℕ) (t : TxnId) → is_shown m r t ≡ true → ((q : ℕ) (role : Role) → role_of m q ≡ Some role → role.active ≡ true → epoch_le t.epoch role.epoch ≡ true → is_shown m q t ≡ true) → Kept (record m { acknowledged = t ∷ m.acknowledged })
kept_acknowledged m k r t shown elsewhere = record {
  order = k.order;
  one = k.one;
  replicas = λ q. record {
    loss = (k.replicas q).loss;
    within = (k.replicas q).within;
    role = λ role is. let old = (k.replicas q).role role is in record {
      appointment = old.appointment;
      appointed = old.appointed;
      primary = old.primary;
      counted = old.counted;
      shows = λ active u ack le. elim (or_cases (is_txn u t) (list_any (is_txn u) m.acknowledged) ack) [
        | inl same ↦ let e = is_txn-true u t same in subst (λ v. holds (first_of k.order (replica m q).show) v ≡ true) (sym e) (sym (shown_is m k q t) ∙ elsewhere q role is active (subst (λ v. epoch_le v.epoch role.epoch ≡ true) e le))
        | inr before ↦ old.shows active u before le
      ];
    };
  };
  held = λ u ack. elim (or_cases (is_txn u t) (list_any (is_txn u) m.acknowledged) ack) [
    | inl same ↦ subst (λ v. holds k.order.entries v ≡ true) (sym (is_txn-true u t same)) (list_any-from_take (λ e. is_txn t e.txn) ((replica m r).show - k.order.base) k.order.entries (sym (shown_is m k r t) ∙ shown))
    | inr before ↦ k.held u before
  ];
  once = k.once;
  asked = k.asked;
  unbooted = k.unbooted;
  named = k.named;
  unasked = k.unasked;
}

pub kept_acknowledging : (m : Machine) (k : Kept m) (r : ℕ) (t : TxnId) → is_shown m r t ≡ true → ((q : ℕ) (role : Role) → role_of m q ≡ Some role → role.active ≡ true → epoch_le t.epoch role.epoch ≡ true → is_shown m q t ≡ true) → Kept (acknowledging m r t)
kept_acknowledging m k r t shown elsewhere =
    kept_grants (record m { acknowledged = t ∷ m.acknowledged }) (kept_acknowledged m k r t shown elsewhere) r (released (grants_of m r) t)

-- ---- a known transaction changes

-- what is known of another, or of it as it was, when it has a new entry
lookup_new : {P : Type 0} (txns : List (TxnId × Txn)) (t u : TxnId) (new y : Txn) → lookup (is_txn u) ((t, new) ∷ txns) ≡ Some y → (u ≡ t → new ≡ y → P) → (lookup (is_txn u) txns ≡ Some y → P) → P
lookup_new txns t u new y h here before =
    elim (cases_Bool (is_txn u t)) [
      | inl same ↦ here (is_txn-true u t same) (same_Some new y (sym (cond-true (is_txn u t) (Some new) (lookup (is_txn u) txns) same) ∙ h))
      | inr other ↦ before (sym (cond-false (is_txn u t) (Some new) (lookup (is_txn u) txns) other) ∙ h)
    ]

lookup_here : (txns : List (TxnId × Txn)) (t u : TxnId) (new : Txn) → is_txn u t ≡ true → lookup (is_txn u) ((t, new) ∷ txns) ≡ Some new
lookup_here txns t u new same = cond-true (is_txn u t) (Some new) (lookup (is_txn u) txns) same

lookup_other : (txns : List (TxnId × Txn)) (t u : TxnId) (new : Txn) → is_txn u t ≡ false → lookup (is_txn u) ((t, new) ∷ txns) ≡ lookup (is_txn u) txns
lookup_other txns t u new other = cond-false (is_txn u t) (Some new) (lookup (is_txn u) txns) other

-- no transaction is known in a machine that isn't booted
pub no_txns : (m : Machine) (k : Kept m) (t : TxnId) (x : Txn) → txn_of m t ≡ Some x → m.appointments ≡ [] → ⊥
no_txns m k t x known unbooted = none-some x (ap (λ txns. lookup (is_txn t) txns) (sym (k.unbooted unbooted)) ∙ known)

asked_again : (txns : List (TxnId × Txn)) (t : TxnId) (old new : Txn) → lookup (is_txn t) txns ≡ Some old → (old.asked ≡ true → (new.asked ≡ true) × (ops_of old ≡ ops_of new)) → (e : Entry) → IsAskedIn txns e → IsAskedIn ((t, new) ∷ txns) e
asked_again txns t old new known stays e k =
    elim (cases_Bool (is_txn e.txn t)) [
      | inl here ↦
          let is : k.txn ≡ old = same_Some k.txn old (sym k.known ∙ (ap (λ u. lookup (is_txn u) txns) (is_txn-true e.txn t here) ∙ known)) in
          let stay = stays (ap (λ x. x.asked) (sym is) ∙ k.asked) in
          record {
            txn = new;
            known = lookup_here txns t e.txn new here;
            asked = stay.0;
            whole = k.whole ∙ (ap ops_of is ∙ stay.1);
          }
      | inr other ↦ record { txn = k.txn; known = lookup_other txns t e.txn new other ∙ k.known; asked = k.asked; whole = k.whole }
    ]

pub kept_put_known : (m : Machine) (k : Kept m) (t : TxnId) (old new : Txn) → txn_of m t ≡ Some old → (old.asked ≡ true → (new.asked ≡ true) × (ops_of old ≡ ops_of new)) → (new.live ≡ true → new.asked ≡ false) → Kept (put_txn m t new)
kept_put_known m k t old new known stays off = record {
  order = k.order;
  one = k.one;
  replicas = λ q. record {
    loss = (k.replicas q).loss;
    within = (k.replicas q).within;
    role = λ role is. let before = (k.replicas q).role role is in record {
      appointment = before.appointment;
      appointed = before.appointed;
      primary = before.primary;
      counted = λ u y epoch found. lookup_new m.txns t u new y found (λ here _. before.counted u old epoch (ap (λ v. lookup (is_txn v) m.txns) here ∙ known)) (before.counted u y epoch);
      shows = before.shows;
    };
  };
  held = k.held;
  once = k.once;
  asked = AllByRecursion-weaker (IsAskedIn m.txns) (IsAskedIn ((t, new) ∷ m.txns)) k.order.entries (asked_again m.txns t old new known stays) k.asked;
  unbooted = λ e. absurd (no_txns m k t old known e);
  named = λ u y found. lookup_new m.txns t u new y found (λ here _. k.named u old (ap (λ v. lookup (is_txn v) m.txns) here ∙ known)) (k.named u y);
  unasked = λ u y found live. lookup_new m.txns t u new y found (λ _ is. ap (λ x. x.asked) (sym is) ∙ off (ap (λ x. x.live) is ∙ live)) (λ before. k.unasked u y before live);
}

-- a call is noted, which logged nothing where the transaction's commit was asked
pub kept_noted : (m : Machine) (k : Kept m) (t : TxnId) (call : CallRecord) → ((x : Txn) → txn_of m t ≡ Some x → x.asked ≡ true → call.op ≡ None) → Kept (noted m t call)
kept_noted m k t call logs = noting (txn_of m t) refl
  where
    same_ops : (x : Txn) → call.op ≡ None → ops_of x ≡ ops_of (record x { calls = x.calls ++ call ∷ [] })
    same_ops x none = sym (filter_map-append (λ c. c.op) x.calls (call ∷ []) ∙ (ap (λ o. filter_map (λ c. c.op) x.calls ++ cons_option o []) none ∙ append-nil (ops_of x)))

    noting : (o : Option Txn) → txn_of m t ≡ o → Kept (option_map_or (λ x. put_txn m t (record x { calls = x.calls ++ call ∷ [] })) o m)
    noting None known = k
    noting (Some x) known = kept_put_known m k t x (record x { calls = x.calls ++ call ∷ [] }) known (λ asked. (asked, same_ops x (logs x known asked))) (k.unasked t x known)

-- ---- a replica is closed

pub ended_asked : (r : ℕ) (x : Txn) → (ended r x).asked ≡ x.asked
ended_asked r x = cond_both (eqb x.home r) (record x { live = false }) x (λ y. y.asked ≡ x.asked) (λ _. refl) (λ _. refl)

ended_ops : (r : ℕ) (x : Txn) → ops_of (ended r x) ≡ ops_of x
ended_ops r x = cond_both (eqb x.home r) (record x { live = false }) x (λ y. ops_of y ≡ ops_of x) (λ _. refl) (λ _. refl)

ended_live : (r : ℕ) (x : Txn) → (ended r x).live ≡ true → x.live ≡ true
ended_live r x = cond_both (eqb x.home r) (record x { live = false }) x (λ y. y.live ≡ true → x.live ≡ true) (λ _ h. absurd (false≢true h)) (λ _ h. h)

asked_ended : (r : ℕ) (txns : List (TxnId × Txn)) (e : Entry) → IsAskedIn txns e → IsAskedIn (ended_at r txns) e
asked_ended r txns e k = record {
  txn = ended r k.txn;
  known = lookup_ended r txns e.txn ∙ ap (option_map (ended r)) k.known;
  asked = ended_asked r k.txn ∙ k.asked;
  whole = k.whole ∙ sym (ended_ops r k.txn);
}

role_ended : (q : ℕ) {order : Order} {acknowledged : List TxnId} (txns : List (TxnId × Txn)) {appointments : List Appointment} {r show : ℕ} (role : Role) → OfRole order acknowledged txns appointments r show role → OfRole order acknowledged (ended_at q txns) appointments r show role
role_ended q txns role k = record {
  appointment = k.appointment;
  appointed = k.appointed;
  primary = k.primary;
  counted = λ t y epoch known. let x = known_before q txns t y known in k.counted t x.0 epoch x.1;
  shows = k.shows;
}

-- its role ends, and what goes on there
kept_ended : (m : Machine) (k : Kept m) (r : ℕ) (new : Replica) → new.loss ≡ (replica m r).loss → new.show ≡ (replica m r).show → new.role ≡ None → Kept (record (put_replica m r new) { txns = ended_at r m.txns })
kept_ended m k r new loss show none =
    let later = ended_at r m.txns in
    record {
      order = k.order;
      one = k.one;
      replicas = at_each (OfReplica k.order m.acknowledged later m.appointments) m.replicas r new never_opened
          (λ q. record {
            loss = (k.replicas q).loss;
            within = (k.replicas q).within;
            role = λ role e. role_ended r m.txns role ((k.replicas q).role role e);
          })
          (record {
            loss = loss ∙ (k.replicas r).loss;
            within = subst (λ n. n ≤ length_of k.order) (sym show) (k.replicas r).within;
            role = λ role e. absurd (none-some role (sym none ∙ e));
          });
      held = k.held;
      once = k.once;
      asked = AllByRecursion-weaker (IsAskedIn m.txns) (IsAskedIn later) k.order.entries (asked_ended r m.txns) k.asked;
      unbooted = λ e. ap (ended_at r) (k.unbooted e);
      named = λ t y known. let x = known_before r m.txns t y known in k.named t x.0 x.1;
      unasked = λ t y known live. let x = known_before r m.txns t y known in sym (ap (λ z. z.asked) x.2) ∙ (ended_asked r x.0 ∙ k.unasked t x.0 x.1 (ended_live r x.0 (ap (λ z. z.live) x.2 ∙ live)));
    }

pub kept_closed : (m : Machine) (k : Kept m) (r : ℕ) → Kept (closed m r)
kept_closed m k r = kept_ended m k r (record (replica m r) { up = false; role = None; grants = [] }) refl refl refl

pub kept_role_ended : (m : Machine) (k : Kept m) (r : ℕ) → Kept (without_role m r)
kept_role_ended m k r = kept_ended m k r (record (replica m r) { role = None; grants = [] }) refl refl refl

-- ---- a transaction begins

-- an epoch has one primary
one_primary : (order : Order) (acknowledged : List TxnId) (txns : List (TxnId × Txn)) (appointments : List Appointment) (q r show other : ℕ) (a b : Role) → OfRole order acknowledged txns appointments q show a → OfRole order acknowledged txns appointments r other b → a.epoch ≡ b.epoch → q ≡ r
one_primary order acknowledged txns appointments q r show other a b k l same =
    sym k.primary ∙ (ap (λ x. x.primary) (same_Some k.appointment l.appointment (sym k.appointed ∙ (ap (λ e. find (λ x. is_epoch e x.epoch) appointments) same ∙ l.appointed))) ∙ l.primary)

abbrev pub next_of : Role → TxnId
next_of role = record { epoch = role.epoch; n = role.begins + 1 }

-- the next transaction of a role isn't known yet
next_is_new : (m : Machine) (k : Kept m) (r : ℕ) (role : Role) → role_of m r ≡ Some role → (x : Txn) → txn_of m (next_of role) ≡ Some x → ⊥
next_is_new m k r role is x known =
    let counted = ((k.replicas r).role role is).counted (next_of role) x refl known in omega arith

begun_role : (m : Machine) (k : Kept m) (r : ℕ) (role : Role) → role_of m r ≡ Some role → (q show : ℕ) (other : Role) → OfRole k.order m.acknowledged m.txns m.appointments q show other → (q ≡ r → ⊥) → OfRole k.order m.acknowledged ((next_of role, new_txn m r) ∷ m.txns) m.appointments q show other
begun_role m k r role is q show other old apart = record {
  appointment = old.appointment;
  appointed = old.appointed;
  primary = old.primary;
  counted = λ u y epoch found. lookup_new m.txns (next_of role) u (new_txn m r) y found
      (λ here _. absurd (apart (one_primary k.order m.acknowledged m.txns m.appointments q r show (replica m r).show other role old ((k.replicas r).role role is) (sym epoch ∙ ap (λ v. v.epoch) here))))
      (old.counted u y epoch);
  shows = old.shows;
}

begun_role_here : (m : Machine) (k : Kept m) (r : ℕ) (role : Role) → role_of m r ≡ Some role → OfRole k.order m.acknowledged ((next_of role, new_txn m r) ∷ m.txns) m.appointments r (replica m r).show (one_more_begun role)
begun_role_here m k r role is = let old = (k.replicas r).role role is in record {
  appointment = old.appointment;
  appointed = old.appointed;
  primary = old.primary;
  counted = λ u y epoch found. lookup_new m.txns (next_of role) u (new_txn m r) y found
      (λ here _. le_of_eq (ap (λ v. v.n) here))
      (λ before. let counted = old.counted u y epoch before in omega arith);
  shows = old.shows;
}

pub kept_begun : (m : Machine) (k : Kept m) (r : ℕ) (role : Role) → role_of m r ≡ Some role → Kept (begun m r (next_of role))
kept_begun m k r role is = record {
  order = k.order;
  one = k.one;
  replicas = at_each_other (OfReplica k.order m.acknowledged ((next_of role, new_txn m r) ∷ m.txns) m.appointments) m.replicas r (record (replica m r) { role = option_map one_more_begun (role_of m r) }) never_opened
      (λ q apart. record {
        loss = (k.replicas q).loss;
        within = (k.replicas q).within;
        role = λ other e. begun_role m k r role is q (replica m q).show other ((k.replicas q).role other e) apart;
      })
      (λ past. record { loss = refl; within = subst (λ x. x.show ≤ length_of k.order) past (k.replicas r).within; role = λ other e. absurd (none-some other e) })
      (record {
        loss = (k.replicas r).loss;
        within = (k.replicas r).within;
        role = λ other e. subst (OfRole k.order m.acknowledged ((next_of role, new_txn m r) ∷ m.txns) m.appointments r (replica m r).show) (same_Some (one_more_begun role) other (sym (ap (option_map one_more_begun) is) ∙ e)) (begun_role_here m k r role is);
      });
  held = k.held;
  once = k.once;
  asked = AllByRecursion-weaker (IsAskedIn m.txns) (IsAskedIn ((next_of role, new_txn m r) ∷ m.txns)) k.order.entries
      (λ e asked. record {
        txn = asked.txn;
        known = lookup_other m.txns (next_of role) e.txn (new_txn m r) (false_from_ne_true (is_txn e.txn (next_of role)) (λ same. next_is_new m k r role is asked.txn (ap (λ u. lookup (is_txn u) m.txns) (sym (is_txn-true e.txn (next_of role) same)) ∙ asked.known))) ∙ asked.known;
        asked = asked.asked;
        whole = asked.whole;
      }) k.asked;
  named = λ u y found. lookup_new m.txns (next_of role) u (new_txn m r) y found
      (λ here _. let of_role = (k.replicas r).role role is in (of_role.appointment, ap (λ v. find (λ a. is_epoch v.epoch a.epoch) m.appointments) here ∙ of_role.appointed))
      (k.named u y);
  unbooted = λ e. absurd (none-some (((k.replicas r).role role is).appointment) (ap (λ others. find (λ a. is_epoch role.epoch a.epoch) others) (sym e) ∙ ((k.replicas r).role role is).appointed));
  unasked = λ u y found live. lookup_new m.txns (next_of role) u (new_txn m r) y found (λ _ new. ap (λ x. x.asked) (sym new)) (λ before. k.unasked u y before live);
}

-- ---- appointments change

-- each epoch that was appointed is so still, to the same primary
abbrev pub StaysAppointed : List Appointment → List Appointment → Type 0
StaysAppointed old new =
    (f : Epoch) (a : Appointment) → find (λ x. is_epoch f x.epoch) old ≡ Some a → (b : Appointment) × (find (λ x. is_epoch f x.epoch) new ≡ Some b) × (b.primary ≡ a.primary)

stays_changed : (x y : Appointment) (old new : List Appointment) → y.epoch ≡ x.epoch → y.primary ≡ x.primary → StaysAppointed old new → StaysAppointed (x ∷ old) (y ∷ new)
stays_changed x y old new epoch primary stays f a found =
    let in_old = find (λ z. is_epoch f z.epoch) old in
    let in_new = find (λ z. is_epoch f z.epoch) new in
    elim (cases_Bool (is_epoch f x.epoch)) [
      | inl here ↦ (y, cond-true (is_epoch f y.epoch) (Some y) in_new (ap (is_epoch f) epoch ∙ here), primary ∙ ap (λ z. z.primary) (same_Some x a (sym (cond-true (is_epoch f x.epoch) (Some x) in_old here) ∙ found)))
      | inr other ↦
          let later = stays f a (sym (cond-false (is_epoch f x.epoch) (Some x) in_old other) ∙ found) in
          (later.0, cond-false (is_epoch f y.epoch) (Some y) in_new (ap (is_epoch f) epoch ∙ other) ∙ later.1, later.2)
    ]

pub stays_noting : (e : Epoch) (others : List Appointment) → StaysAppointed others (noting_active e others)
stays_noting e [] f a found = absurd (none-some a found)
stays_noting e (x ∷ others) f a found =
    let active : Appointment = record x { was_active = true } in
    stays_changed x (cond (is_epoch e x.epoch) active x) others (noting_active e others) (cond_both (is_epoch e x.epoch) active x (λ y. y.epoch ≡ x.epoch) (λ _. refl) (λ _. refl)) (cond_both (is_epoch e x.epoch) active x (λ y. y.primary ≡ x.primary) (λ _. refl) (λ _. refl)) (stays_noting e others) f a found

pub stays_dropping : (e : Epoch) (others : List Appointment) → StaysAppointed others (dropping e others)
stays_dropping e [] f a found = absurd (none-some a found)
stays_dropping e (x ∷ others) f a found =
    let dropped : Appointment = record x { dropped = true } in
    stays_changed x (cond (is_epoch e x.epoch) dropped x) others (dropping e others) (cond_both (is_epoch e x.epoch) dropped x (λ y. y.epoch ≡ x.epoch) (λ _. refl) (λ _. refl)) (cond_both (is_epoch e x.epoch) dropped x (λ y. y.primary ≡ x.primary) (λ _. refl) (λ _. refl)) (stays_dropping e others) f a found

pub stays_beside : (old more : List Appointment) → StaysAppointed old (old ++ more)
stays_beside [] more f a found = absurd (none-some a found)
stays_beside (x ∷ old) more f a found = stays_changed x x old (old ++ more) refl refl (stays_beside old more) f a found

-- none was appointed, if there is none
none_before : (old new : List Appointment) → StaysAppointed old new → new ≡ [] → old ≡ []
none_before [] new stays none = refl
none_before (x ∷ old) new stays none =
    let found = stays x.epoch x (cond-true (is_epoch x.epoch x.epoch) (Some x) (find (λ y. is_epoch x.epoch y.epoch) old) (is_epoch_same x.epoch)) in
    absurd (none-some found.0 (ap (λ others. find (λ y. is_epoch x.epoch y.epoch) others) (sym none) ∙ found.1))

role_appointed : {order : Order} {acknowledged : List TxnId} {txns : List (TxnId × Txn)} (old new : List Appointment) {r show : ℕ} (role : Role) → StaysAppointed old new → OfRole order acknowledged txns old r show role → OfRole order acknowledged txns new r show role
role_appointed old new role stays k = let b = stays role.epoch k.appointment k.appointed in record {
  appointment = b.0;
  appointed = b.1;
  primary = b.2 ∙ k.primary;
  counted = k.counted;
  shows = k.shows;
}

pub kept_appointments : (m : Machine) (k : Kept m) (config : List ℕ) (new : List Appointment) → StaysAppointed m.appointments new → Kept (record m { appointments = new; config = config })
kept_appointments m k config new stays = record {
  order = k.order;
  one = k.one;
  replicas = λ q. record {
    loss = (k.replicas q).loss;
    within = (k.replicas q).within;
    role = λ role e. role_appointed m.appointments new role stays ((k.replicas q).role role e);
  };
  held = k.held;
  once = k.once;
  asked = k.asked;
  unbooted = λ e. k.unbooted (none_before m.appointments new stays e);
  named = λ t x known. let a = k.named t x known in let b = stays t.epoch a.0 a.1 in (b.0, b.1);
  unasked = k.unasked;
}

-- ---- a primary is active

pub kept_activated : (m : Machine) (k : Kept m) (r : ℕ) (role : Role) → role_of m r ≡ Some role → ((t : TxnId) → is_acknowledged m t ≡ true → epoch_le t.epoch role.epoch ≡ true → is_shown m r t ≡ true) → Kept (activated m r role)
kept_activated m k r role is shows =
    let active : Role = record role { active = true } in
    let put : Kept (put_role m r (Some active)) = kept_put m k r (record (replica m r) { role = Some active }) (record {
      loss = (k.replicas r).loss;
      within = (k.replicas r).within;
      role = λ other e. subst (OfRole k.order m.acknowledged m.txns m.appointments r (replica m r).show) (same_Some active other e)
          (let old = (k.replicas r).role role is in record {
            appointment = old.appointment;
            appointed = old.appointed;
            primary = old.primary;
            counted = old.counted;
            shows = λ _ t ack le. sym (shown_is m k r t) ∙ shows t ack le;
          });
    }) in
    kept_appointments (put_role m r (Some active)) put m.config (noting_active role.epoch m.appointments) (stays_noting role.epoch m.appointments)

-- ---- the one order among those by loss number

pub first_entries : (m : Machine) (k : Kept m) → entries_of m 0 ≡ k.order.entries
first_entries m k = ap (λ os. (get_or os 0 empty_order).entries) k.one

-- there are no entries under another loss number
other_entries : (m : Machine) (k : Kept m) (loss : ℕ) → entries_of m (suc loss) ≡ []
other_entries m k loss = ap (λ os. (get_or os (suc loss) empty_order).entries) k.one

pub once_entries : (m : Machine) (k : Kept m) (loss : ℕ) → IsDistinct is_txn (map (λ e. e.txn) (entries_of m loss))
unfolding IsDistinct
once_entries m k zero = subst (λ es. IsDistinct is_txn (map (λ e. e.txn) es)) (sym (first_entries m k)) k.once
once_entries m k (suc loss) = subst (λ es. IsDistinct is_txn (map (λ e. e.txn) es)) (sym (other_entries m k loss)) tt

pub asked_entries : (m : Machine) (k : Kept m) (loss : ℕ) → AllByRecursion (IsAsked m) (entries_of m loss)
asked_entries m k zero =
    subst (AllByRecursion (IsAsked m)) (sym (first_entries m k))
    (AllByRecursion-weaker (IsAskedIn m.txns) (IsAsked m) k.order.entries (λ e asked. record { txn = asked.txn; known = asked.known; asked = asked.asked; whole = asked.whole }) k.asked)
asked_entries m k (suc loss) = subst (AllByRecursion (IsAsked m)) (sym (other_entries m k loss)) tt
