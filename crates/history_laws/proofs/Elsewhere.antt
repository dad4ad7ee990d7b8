-- What a change at one replica leaves at another: its guard, and that nothing goes on there.
use Rattle.std.proofs.Common.{◌≡◌, ◌∙◌, ℕ, true, false, List, [], ◌∷◌, set, get_or, Option, Some, None, option_map, refl, sym, ap, subst}
use Rattle.std.specs.Option.{option_map_or}
use Rattle.std.proofs.lemmas.Option.{none-some, same_Some}
use Rattle.std.proofs.lemmas.List.{get_or-set_other}
use Rattle.rc_base.specs.declared.ids.Epoch.{Epoch}
use Rattle.rc_base.specs.declared.ids.TxnId.{TxnId}
use Rattle.key_locks.specs.Grants.{released}
use Rattle.events.specs.Calls.{CallRecord}
use Rattle.events.specs.Locking.{locks_at, taken}
use Rattle.txn_table.specs.declared.committed.Committed.{Committed}
use Rattle.order_machine.specs.Order.{Order, empty_order, state_at}
use Rattle.order_machine.specs.Machine.{Machine, Replica, Txn, never_opened, replica, put_replica, put_txn, txn_of, grants_of, role_of, without_role, closed}
use Rattle.order_machine.specs.Clients.{new_txn, one_more_begun, seen}
use Rattle.order_machine.specs.Transitions.{going_at, asking_commit, showing, acknowledging, appointing, new_role}
use Rattle.history_laws.specs.LockGuards.{LockGuard, shown_at, ReplicaGuard, IdleReplica}
use Rattle.history_laws.specs.QuietCalls.{QuietCall, HomeStays}
use Rattle.history_laws.specs.Laws.{RequestsKeepOthers, ViewsKeepOthers, AcknowledgementsKeepOthers, RoleEndsKeepOthers}
use Rattle.history_laws.proofs.QuietSuffixes.{quiet_home, quiet_live, HomeStays-itself, HomeStays-trans, HomeStays-quiet, HomeStays-elsewhere, HomeStays-ended}
use Rattle.history_laws.proofs.CallCases.{live_at, with_call, aborted, CallCases}
use Rattle.history_laws.proofs.GuardSteps.{LockGuard-home}
use Rattle.history_laws.proofs.SettledSteps.{put_there}

-- replica q, the orders and the transactions of home q are as they were, but for quiet calls
pub record Elsewhere (q : ℕ) (m now : Machine) : Type 0 where
  pub same : replica now q ≡ replica m q
  pub orders : now.orders ≡ m.orders
  pub stays : HomeStays q m.txns now.txns

pub guard_elsewhere : (q : ℕ) (m now : Machine) → Elsewhere q m now → (pending : List Committed) → ReplicaGuard m q pending → ReplicaGuard now q pending
guard_elsewhere q m now else_ pending g =
    let at : Replica → List Order → Type 0 = λ rep orders. LockGuard now.txns rep.grants q (state_at (get_or orders rep.loss empty_order) rep.show) pending in
    subst (λ (rep : Replica). at rep now.orders) (sym else_.same)
    (subst (λ (orders : List Order). at (replica m q) orders) (sym else_.orders) (LockGuard-home q m.txns now.txns else_.stays (grants_of m q) (shown_at m q) pending g))

pub idle_elsewhere : (q : ℕ) (m now : Machine) → Elsewhere q m now → IdleReplica m q → IdleReplica now q
idle_elsewhere q m now else_ idle = record {
  free = ap (λ (rep : Replica). rep.grants) else_.same ∙ idle.free;
  over = λ t y known home.
      let was = else_.stays.known t y known home in
      quiet_live was.0 y was.2 ∙ idle.over t was.0 was.1 (sym (quiet_home was.0 y was.2) ∙ home);
}

-- ---- each change

-- what is known of a transaction is one
same_known : (m : Machine) (t : TxnId) (x y : Txn) → txn_of m t ≡ Some x → txn_of m t ≡ Some y → x ≡ y
same_known m t x y here there = same_Some x y (sym here ∙ there)

pub other_replica : (m : Machine) (q r : ℕ) (new : Replica) → (q ≡ r → ⊥) → replica (put_replica m r new) q ≡ replica m q
other_replica m q r new apart = get_or-set_other m.replicas r q new never_opened apart

-- a quiet call is noted, wherever
pub quiet_elsewhere : (q : ℕ) (m : Machine) (t : TxnId) (x : Txn) (c : CallRecord) → txn_of m t ≡ Some x → QuietCall c → Elsewhere q m (put_txn m t (with_call x c))
quiet_elsewhere q m t x c known quiet = record { same = refl; orders = refl; stays = HomeStays-quiet q m.txns t x c known quiet }

pub elsewhere_cases : (m : Machine) (r q : ℕ) → (q ≡ r → ⊥) → CallCases (Elsewhere q m) m r
elsewhere_cases m r q apart = record {
  same = record { same = refl; orders = refl; stays = HomeStays-itself q m.txns };
  quiet = λ t x c known quiet. quiet_elsewhere q m t x c known quiet;
  begins = λ t next active none. record {
    same = other_replica m q r (record (replica m r) { role = option_map one_more_begun (role_of m r) }) apart;
    orders = refl;
    stays = HomeStays-elsewhere q r m.txns t (new_txn m r) apart (λ x known. absurd (none-some x (sym none ∙ known))) refl;
  };
  locks = λ t x call reply at e.
      let c : CallRecord = record { call = call; answer = reply.answer; op = reply.op } in
      record {
        same = other_replica m q r (record (replica m r) { grants = taken (grants_of m r) t (locks_at (seen m r x) call) }) apart;
        orders = refl;
        stays = HomeStays-elsewhere q r m.txns t (with_call x c) apart (λ y known. ap (λ (w : Txn). w.home) (same_known m t y x known at.known) ∙ at.home) at.home;
      };
  aborts = λ t x c at quiet.
      let mid : List (TxnId × Txn) = (t, aborted x) ∷ m.txns in
      record {
        same = other_replica m q r (record (replica m r) { grants = released (grants_of m r) t }) apart;
        orders = refl;
        stays =
            HomeStays-trans q m.txns mid ((t, with_call (aborted x) c) ∷ mid)
            (HomeStays-elsewhere q r m.txns t (aborted x) apart (λ y known. ap (λ (w : Txn). w.home) (same_known m t y x known at.known) ∙ at.home) at.home)
            (HomeStays-quiet q mid t (aborted x) c (put_there m.txns t (aborted x)) quiet);
      };
}

request_elsewhere : (m : Machine) (r q : ℕ) (t : TxnId) → (q ≡ r → ⊥) → Elsewhere q m (asking_commit m r t)
request_elsewhere m r q t apart = by (going_at m r t) refl
  where
    by : (o : Option Txn) → going_at m r t ≡ o → Elsewhere q m (option_map_or (λ x. put_txn m t (record x { live = false; asked = true })) o m)
    by None e = record { same = refl; orders = refl; stays = HomeStays-itself q m.txns }
    by (Some x) e =
        let at = live_at m r t x e in
        record {
          same = refl;
          orders = refl;
          stays = HomeStays-elsewhere q r m.txns t (record x { live = false; asked = true }) apart (λ y known. ap (λ (w : Txn). w.home) (same_known m t y x known at.known) ∙ at.home) at.home;
        }

-- a replica changes alone
replica_elsewhere : (m : Machine) (r q : ℕ) (new : Replica) → (q ≡ r → ⊥) → Elsewhere q m (put_replica m r new)
replica_elsewhere m r q new apart = record { same = other_replica m q r new apart; orders = refl; stays = HomeStays-itself q m.txns }

-- ---- the laws

pub requests_keep_others : RequestsKeepOthers
requests_keep_others m r q t pending apart g = guard_elsewhere q m (asking_commit m r t) (request_elsewhere m r q t apart) pending g

pub views_keep_others : ViewsKeepOthers
views_keep_others m r n q pending apart g = guard_elsewhere q m (showing m r n) (replica_elsewhere m r q (record (replica m r) { show = n }) apart) pending g

pub acknowledgements_keep_others : AcknowledgementsKeepOthers
acknowledgements_keep_others m r q t pending apart g =
    let e = replica_elsewhere m r q (record (replica m r) { grants = released (grants_of m r) t }) apart in
    guard_elsewhere q m (acknowledging m r t) (record { same = e.same; orders = e.orders; stays = e.stays }) pending g

pub role_ends_keep_others : RoleEndsKeepOthers
role_ends_keep_others q pending m r = (
  λ apart g. guard_elsewhere q m (without_role m r) (record { same = other_replica m q r (record (replica m r) { role = None; grants = [] }) apart; orders = refl; stays = HomeStays-ended q r m.txns apart }) pending g,
  λ apart g. guard_elsewhere q m (closed m r) (record { same = other_replica m q r (record (replica m r) { up = false; role = None; grants = [] }) apart; orders = refl; stays = HomeStays-ended q r m.txns apart }) pending g,
  λ e members apart g. guard_elsewhere q m (appointing m e r members) (appointed e members apart) pending g,
)
  where
    appointed : (e : Epoch) (members : List ℕ) (apart : q ≡ r → ⊥) → Elsewhere q m (appointing m e r members)
    appointed e members apart =
        let none : List Replica = set m.replicas r (record (replica m r) { role = None; grants = [] }) in
        record {
          same =
              get_or-set_other none r q (record (get_or none r never_opened) { role = Some (new_role e) }) never_opened apart
              ∙ other_replica m q r (record (replica m r) { role = None; grants = [] }) apart;
          orders = refl;
          stays = HomeStays-ended q r m.txns apart;
        }
