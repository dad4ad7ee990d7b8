-- The guard over the other lines: the order grows, and a primary becomes active.
use Rattle.std.proofs.Common.{◌≡◌, ◌∙◌, ℕ, ◌-◌, ◌≤◌, true, List, [], ◌∷◌, ◌++◌, flat_map, get_or, Option, Some, None, refl, sym, ap, subst, arith}
use Rattle.std.specs.Option.{option_map_or}
use Rattle.std.proofs.lemmas.List.{take-append-le}
use Rattle.rc_base.specs.declared.ids.TxnId.{TxnId}
use Rattle.coll_model.specs.declared.op.Op.{Op}
use Rattle.coll_model.specs.Effect.{State, folded}
use Rattle.events.proofs.Lists.{at_each}
use Rattle.txn_table.specs.declared.committed.Committed.{Committed}
use Rattle.order_machine.specs.Order.{Order, Entry, empty_order, length_of, state_at}
use Rattle.order_machine.specs.Machine.{Machine, Replica, Role, never_opened, replica, order_of, role_of, grants_of}
use Rattle.order_machine.specs.Transitions.{ordering, activated}
use Rattle.history_laws.specs.LockGuards.{LockGuard, shown_at, ReplicaGuard}
use Rattle.history_laws.specs.Laws.{OrdersKeepGuards, ActiveKeepsGuards}

-- ---- the order grows

-- the state after the first few stays
first_stay : (o : Order) (n : ℕ) (e : Entry) → n ≤ length_of o → state_at (record o { entries = o.entries ++ e ∷ [] }) n ≡ state_at o n
first_stay o n e within =
    ap (λ (es : List Entry). folded o.start (flat_map (λ x. x.ops) es)) (take-append-le (n - o.base) o.entries (e ∷ []) (omega arith))

shown_stays : (m : Machine) (r : ℕ) (t : TxnId) (ops : List Op) (q : ℕ) → (replica m q).show ≤ length_of (order_of m q) → shown_at (ordering m r t ops) q ≡ shown_at m q
shown_stays m r t ops q within =
    at_each (λ k o. k ≡ (replica m q).loss → state_at o n ≡ shown_at m q) m.orders (replica m r).loss grown empty_order
    (λ k e. ap (λ (l : ℕ). state_at (get_or m.orders l empty_order) n) e)
    (λ e. here (ap (λ (l : ℕ). get_or m.orders l empty_order) e)) (replica m q).loss refl
  where
    n : ℕ
    n = (replica m q).show

    grown : Order
    grown = record (order_of m r) { entries = (order_of m r).entries ++ record { txn = t; ops = ops } ∷ [] }

    here : order_of m r ≡ order_of m q → state_at grown n ≡ shown_at m q
    here same =
        first_stay (order_of m r) n (record { txn = t; ops = ops }) (subst (λ (o : Order). n ≤ length_of o) (sym same) within)
        ∙ ap (λ (o : Order). state_at o n) same

pub orders_keep_guards : OrdersKeepGuards
orders_keep_guards m r t ops q pending within g =
    subst (λ (s : State). LockGuard m.txns (grants_of m q) q s pending) (sym (shown_stays m r t ops q within)) g

-- ---- a primary becomes active

-- the guard of q's transactions at a replica like this one
abbrev GuardAt : Machine → ℕ → List Committed → Replica → Type 0
GuardAt m q pending rep = LockGuard m.txns rep.grants q (state_at (get_or m.orders rep.loss empty_order) rep.show) pending

pub active_keeps_guards : ActiveKeepsGuards
active_keeps_guards m r q pending g = by (role_of m r)
  where
    there : (k : ℕ) → k ≡ q → GuardAt m q pending (replica m k)
    there k e = subst (λ (j : ℕ). GuardAt m q pending (replica m j)) (sym e) g

    by : (o : Option Role) → ReplicaGuard (option_map_or (activated m r) o m) q pending
    by None = g
    by (Some role) =
        at_each (λ k rep. k ≡ q → GuardAt m q pending rep) m.replicas r (record (replica m r) { role = Some (record role { active = true }) }) never_opened there (λ e. there r e) q refl
