-- What holds behind each event goes on to hold where only roles end.
use Rattle.std.proofs.Common.{◌≡◌, ◌∙◌, ℕ, ◌≤◌, true, false, Bool, cond, not, ◌⊎◌, List, [], ◌∷◌, length, set, get_or, refl, sym, ap, ap₂, subst, inl, inr, Option, Some, None}
use Rattle.std.specs.Prelude.{◌&&◌, ◌==◌, option_and_then}
use Rattle.std.specs.Option.{option_map_or}
use Rattle.std.specs.List.{list_any, list_all, find}
use Rattle.std.specs.Map.{lookup}
use Rattle.std.proofs.lemmas.Bool.{cases_eq, cases_lt, and_parts, false≢true}
use Rattle.std.proofs.lemmas.List.{get_or-set_same, get_or-set_other, get_or_past, length-set}
use Rattle.rc_base.specs.declared.ids.TxnId.{TxnId}
use Rattle.rc_base.specs.Ids.{is_txn, is_epoch}
use Rattle.rc_base.proofs.SameIds.{is_txn-true}
use Rattle.order_machine.specs.Order.{Order, empty_order, holds, first_of}
use Rattle.order_machine.specs.Machine.{Machine, Appointment, Replica, Role, Txn, replica, role_of, has_role, is_alone, is_pending, is_shown, never_opened, ended_at, configs_of}
use Rattle.order_machine.specs.Transitions.{HoldsBehind}

-- whether the commit of a transaction of home q was asked
abbrev pub asked_in : List (TxnId × Txn) → ℕ → TxnId → Bool
asked_in txns q t = option_map_or (λ x. x.asked && (x.home == q)) (lookup (is_txn t) txns) false

-- each role of before has ended, or is as it was with what its replica shows
pub record FewerRoles (m n : Machine) : Type 0 where
  pub asked : (q : ℕ) (t : TxnId) → asked_in n.txns q t ≡ asked_in m.txns q t
  pub acknowledged : n.acknowledged ≡ m.acknowledged
  pub appointments : n.appointments ≡ m.appointments
  pub roles : (q : ℕ) → (role_of n q ≡ None) ⊎ ((role_of n q ≡ role_of m q) × ((t : TxnId) → is_shown n q t ≡ is_shown m q t))

pub fewer_then : (a b c : Machine) → FewerRoles a b → FewerRoles b c → FewerRoles a c
fewer_then a b c x y = record {
  asked = λ q t. y.asked q t ∙ x.asked q t;
  acknowledged = y.acknowledged ∙ x.acknowledged;
  appointments = y.appointments ∙ x.appointments;
  roles = λ q. elim (y.roles q) [
    | inl none ↦ inl none
    | inr same ↦ elim (x.roles q) [
      | inl none ↦ inl (same.0 ∙ none)
      | inr before ↦ inr (same.0 ∙ before.0, λ t. same.1 t ∙ before.1 t)
    ]
  ];
}

module _ (m n : Machine) (x : FewerRoles m n) where
  pending_same : (q : ℕ) (t : TxnId) → role_of n q ≡ role_of m q → is_pending n q t ≡ is_pending m q t
  pending_same q t same =
      ap₂ (λ (a b : Bool). a && b) (x.asked q t)
      (ap₂ (λ (r : Option Role) (ts : List TxnId). option_map_or (λ role. is_epoch t.epoch role.epoch) r false && not (list_any (is_txn t) ts)) same x.acknowledged)

  no_pending : (q : ℕ) (t : TxnId) → role_of n q ≡ None → is_pending n q t ≡ true → ⊥
  no_pending q t none h =
      let parts = and_parts (asked_in n.txns q t) (has_role n q t.epoch && not (list_any (is_txn t) n.acknowledged)) h in
      let role = (and_parts (has_role n q t.epoch) (not (list_any (is_txn t) n.acknowledged)) parts.1).0 in
      false≢true (sym (ap (λ (r : Option Role). option_map_or (λ role. is_epoch t.epoch role.epoch) r false) none) ∙ role)

  alone_by : (q : ℕ) (r : Option Role) (ones : List Appointment) → Bool
  alone_by q r ones =
      option_map_or (λ a. list_all (λ c. list_all (λ member. member == q) c) (configs_of a)) (option_and_then (λ role. find (λ a. is_epoch role.epoch a.epoch) ones) r) false

  alone_is : (k : Machine) (q : ℕ) → is_alone k q ≡ alone_by q (role_of k q) k.appointments
  unfolding alone_by
  alone_is k q = refl

  alone_none : (q : ℕ) (ones : List Appointment) → alone_by q None ones ≡ false
  unfolding alone_by
  alone_none q ones = refl

  pub fewer_holds : HoldsBehind m → HoldsBehind n
  fewer_holds behind = record {
    not_shown = λ q t h. elim (x.roles q) [
      | inl none ↦ absurd (no_pending q t none h)
      | inr same ↦ same.1 t ∙ behind.not_shown q t (sym (pending_same q t same.0) ∙ h)
    ];
    alone = λ q h. elim (x.roles q) [
      | inl none ↦ absurd (false≢true (sym (alone_is n q ∙ ap (λ (r : Option Role). alone_by q r n.appointments) none ∙ alone_none q n.appointments) ∙ h))
      | inr same ↦
          let was : is_alone m q ≡ true = alone_is m q ∙ ap₂ (λ (r : Option Role) (ones : List Appointment). alone_by q r ones) (sym same.0) (sym x.appointments) ∙ sym (alone_is n q) ∙ h in
          let b = behind.alone q was in
          (ap (λ (r : Option Role). option_map_or (λ role. role.active) r false) same.0 ∙ b.0, λ t. pending_same q t same.0 ∙ b.1 t)
    ];
  }

-- ---- one replica is another

pub shown_by : List Order → Replica → TxnId → Bool
shown_by orders y t = holds (first_of (get_or orders y.loss empty_order) y.show) t

pub shown_is : (m : Machine) (q : ℕ) (t : TxnId) → is_shown m q t ≡ shown_by m.orders (replica m q) t
unfolding shown_by
shown_is m q t = refl

pub shown_alike : (orders : List Order) (x y : Replica) (t : TxnId) → x.show ≡ y.show → x.loss ≡ y.loss → shown_by orders x t ≡ shown_by orders y t
unfolding shown_by
shown_alike orders x y t a b = ap₂ (λ (n l : ℕ). holds (first_of (get_or orders l empty_order) n) t) a b

-- the replica has no role any more, or the one that it had, with what it shows
abbrev pub LosesRole : Replica → Replica → Type 0
LosesRole old y = (y.role ≡ None) ⊎ ((y.role ≡ old.role) × (y.show ≡ old.show) × (y.loss ≡ old.loss))

pub one_fewer : (m n : Machine) (r : ℕ) (y : Replica) → LosesRole (replica m r) y → n.replicas ≡ set m.replicas r y → n.orders ≡ m.orders → n.acknowledged ≡ m.acknowledged → n.appointments ≡ m.appointments
    → ((q : ℕ) (t : TxnId) → asked_in n.txns q t ≡ asked_in m.txns q t) → FewerRoles m n
one_fewer m n r y loses replicas orders acknowledged appointments asked = record {
  asked = asked;
  acknowledged = acknowledged;
  appointments = appointments;
  roles = λ q. elim (cases_eq q r) [
    | inr ne ↦
        let same : replica n q ≡ replica m q = ap (λ (rs : List Replica). get_or rs q never_opened) replicas ∙ get_or-set_other m.replicas r q y never_opened ne in
        inr (ap (λ (z : Replica). z.role) same, λ t. shown_is n q t ∙ ap₂ (λ (os : List Order) (z : Replica). shown_by os z t) orders same ∙ sym (shown_is m q t))
    | inl is ↦ elim (cases_lt r (length m.replicas)) [
      | inr past ↦
          let beyond : length (set m.replicas r y) ≤ r = subst (λ (k : ℕ). k ≤ r) (sym (length-set m.replicas r y)) past in
          let none : replica n q ≡ never_opened = ap₂ (λ (rs : List Replica) (k : ℕ). get_or rs k never_opened) replicas is ∙ get_or_past (set m.replicas r y) r never_opened beyond in
          inl (ap (λ (z : Replica). z.role) none)
      | inl within ↦
          let now : replica n q ≡ y = ap₂ (λ (rs : List Replica) (k : ℕ). get_or rs k never_opened) replicas is ∙ get_or-set_same m.replicas r y never_opened within in
          let old : replica m q ≡ replica m r = ap (replica m) is in
          elim loses [
            | inl none ↦ inl (ap (λ (z : Replica). z.role) now ∙ none)
            | inr same ↦ inr (
              ap (λ (z : Replica). z.role) now ∙ same.0 ∙ sym (ap (λ (z : Replica). z.role) old),
              λ t. shown_is n q t ∙ ap₂ (λ (os : List Order) (z : Replica). shown_by os z t) orders now ∙ shown_alike m.orders y (replica m r) t same.1 same.2 ∙ ap (λ (z : Replica). shown_by m.orders z t) (sym old) ∙ sym (shown_is m q t),
            )
          ]
    ]
  ];
}

-- ---- transactions

ended_entry : (r q : ℕ) (x : Txn) (b : Bool) → ((cond b (record x { live = false }) x).asked && ((cond b (record x { live = false }) x).home == q)) ≡ (x.asked && (x.home == q))
ended_entry r q x true = refl
ended_entry r q x false = refl

ended_step : (r q : ℕ) (t : TxnId) (entry : TxnId × Txn) (txns : List (TxnId × Txn)) (b : Bool) → is_txn t entry.0 ≡ b → asked_in (ended_at r txns) q t ≡ asked_in txns q t
    → option_map_or (λ x. x.asked && (x.home == q)) (cond b (Some (cond (entry.1.home == r) (record entry.1 { live = false }) entry.1)) (lookup (is_txn t) (ended_at r txns))) false
    ≡ option_map_or (λ x. x.asked && (x.home == q)) (cond b (Some entry.1) (lookup (is_txn t) txns)) false
ended_step r q t entry txns true is rest = ended_entry r q entry.1 (entry.1.home == r)
ended_step r q t entry txns false is rest = rest

-- what was asked stays asked where what goes on ends
pub ended_asked : (r q : ℕ) (t : TxnId) (txns : List (TxnId × Txn)) → asked_in (ended_at r txns) q t ≡ asked_in txns q t
ended_asked r q t [] = refl
ended_asked r q t (entry ∷ txns) = ended_step r q t entry txns (is_txn t entry.0) refl (ended_asked r q t txns)

put_step : (t u : TxnId) (x y : Txn) (txns : List (TxnId × Txn)) (q : ℕ) (b : Bool) → is_txn t u ≡ b → lookup (is_txn u) txns ≡ Some x → y.asked ≡ x.asked → y.home ≡ x.home
    → option_map_or (λ x. x.asked && (x.home == q)) (cond b (Some y) (lookup (is_txn t) txns)) false ≡ asked_in txns q t
put_step t u x y txns q true is known asked home =
    ap₂ (λ (a : Bool) (h : ℕ). a && (h == q)) asked home ∙ ap (λ (z : Option Txn). option_map_or (λ x. x.asked && (x.home == q)) z false) (sym known) ∙ ap (λ (k : TxnId). asked_in txns q k) (sym (is_txn-true t u is))
put_step t u x y txns q false is known asked home = refl

-- and where only what was called changes
pub put_asked : (t u : TxnId) (x y : Txn) (txns : List (TxnId × Txn)) (q : ℕ) → lookup (is_txn u) txns ≡ Some x → y.asked ≡ x.asked → y.home ≡ x.home → asked_in ((u, y) ∷ txns) q t ≡ asked_in txns q t
put_asked t u x y txns q known asked home = put_step t u x y txns q (is_txn t u) refl known asked home
