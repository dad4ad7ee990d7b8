-- The transactions as a call is asked, and then closed off by a fault.
use Rattle.std.proofs.Common.{◌≡◌, ◌∙◌, sym, ap, subst, ℕ, List, [], ◌∷◌, Bool, true, false, cond, Option, Some, None, refl}
use Rattle.std.specs.Option.{option_map_or}
use Rattle.std.specs.Map.{lookup}
use Rattle.std.proofs.lemmas.Bool.{cond-true}
use Rattle.std.proofs.lemmas.Option.{same_Some}
use Rattle.world.proofs.Calls.Steps.{one_commit}
use Rattle.rc_base.specs.declared.ids.TxnId.{TxnId}
use Rattle.rc_base.specs.Ids.{is_txn, epoch_le}
use Rattle.rc_base.proofs.SameIds.{is_txn-true, is_txn_same}
use Rattle.coll_model.specs.Effect.{State}
use Rattle.events.specs.declared.call.Call.{Call}
use Rattle.events.specs.declared.call.Call.TheVariants.{Begin, Make, OnKey, Commit, Abort}
use Rattle.order_machine.specs.Machine.{Machine, Txn, ended_at, put_txn, put_grants, grants_of}
use Rattle.order_machine.specs.Transitions.{asking, asking_locks, going_at}
use Rattle.order_machine.specs.Clients.{seen}
use Rattle.events.specs.Locking.{locks_at, taken}
use Rattle.order_machine.proofs.Machines.{known_before}
use Rattle.lock_laws.proofs.ProtectedCalls.{Replays-from_protected}
use Rattle.key_locks.specs.Grants.{released}
use Rattle.replica.specs.Open.{Open}
use Rattle.replica_model.specs.declared.step.StepEvent.TheVariants as steps
use Rattle.replica.specs.Step.{is_active, committed_by}
use Rattle.txn_front.specs.Front.{Fronted, Going, going_of}
use Rattle.disk_model.specs.Disk.{Areas}
use Rattle.world.specs.Course.{ArePast, MayFollow}
use Rattle.world.specs.Running.{Runs}
use Rattle.world.specs.Standing.{Course}
use Rattle.world.specs.World.{Serving}
use Rattle.world.proofs.States.PastTxns.{follow_ended, over_at_zero}
use Rattle.world.proofs.Calls.Replies.{machine_of, known_of}

-- each was begun here in an epoch up to the latest
abbrev AreHere : Course → List (TxnId × Txn) → Type 0
AreHere course txns = (t : TxnId) (x : Txn) → lookup (is_txn t) txns ≡ Some x → (x.home ≡ 0) × (epoch_le t.epoch course.latest ≡ true)

here_put : (course : Course) (txns : List (TxnId × Txn)) (t : TxnId) (x y : Txn) → AreHere course txns → lookup (is_txn t) txns ≡ Some x → y.home ≡ x.home → AreHere course ((t, y) ∷ txns)
here_put course txns t x y here known home u z e = by (is_txn u t) refl e
  where
    by : (b : Bool) → is_txn u t ≡ b → cond b (Some y) (lookup (is_txn u) txns) ≡ Some z → (z.home ≡ 0) × (epoch_le u.epoch course.latest ≡ true)
    by true same f =
        let k = here t x known in
        (ap (λ (w : Txn). w.home) (sym (same_Some y z f)) ∙ (home ∙ k.0), subst (λ (v : TxnId). epoch_le v.epoch course.latest ≡ true) (sym (is_txn-true u t same)) k.1)
    by false other f = here u z f

-- a transaction that goes on is known
going_known : (m : Machine) (t : TxnId) (x : Txn) → going_at m 0 t ≡ Some x → lookup (is_txn t) m.txns ≡ Some x
going_known m t x e = by_active _ _ e
  where
    by_live : (b : Bool) (o : Option Txn) → cond b o None ≡ Some x → o ≡ Some x
    by_live true o f = f
    by_live false o f = cc

    by_active : (a b : Bool) → cond a (cond b (lookup (is_txn t) m.txns) None) None ≡ Some x → lookup (is_txn t) m.txns ≡ Some x
    by_active true b f = by_live b (lookup (is_txn t) m.txns) f
    by_active false b f = cc

here_asking : (course : Course) (m : Machine) (call : Call) → AreHere course m.txns → AreHere course (asking m 0 call).txns
here_asking course m call here = by call
  where
    P : Machine → Type 0
    P n = AreHere course n.txns

    either : (f : Txn → Machine) (o : Option Txn) → ((x : Txn) → o ≡ Some x → P (f x)) → P (option_map_or f o m)
    either f None each = here
    either f (Some x) each = each x refl

    locks : (t : TxnId) (c : Call) → P (asking_locks m 0 t c)
    locks t c = either (λ x. put_grants m 0 (taken (grants_of m 0) t (locks_at (seen m 0 x) c))) (going_at m 0 t) (λ x e. here)

    by : (c : Call) → P (asking m 0 c)
    by Begin = here
    by (Make t name kind) = locks t (Make t name kind)
    by (OnKey t name key asked) = locks t (OnKey t name key asked)
    by (Commit t) = either (λ x. put_txn m t (record x { live = false; asked = true })) (going_at m 0 t) (λ x e. here_put course m.txns t x (record x { live = false; asked = true }) here (going_known m t x e) refl)
    by (Abort t) = either (λ x. put_txn (put_grants m 0 (released (grants_of m 0) t)) t (record x { live = false })) (going_at m 0 t) (λ x e. here_put course m.txns t x (record x { live = false }) here (going_known m t x e) refl)

pub past_asked : (front : Fronted) (shown : ℕ) (contents : State) (m : Machine) (h : Runs front shown contents m) (call : Call) → ArePast h.course h.entries h.acknowledged (ended_at 0 (asking (machine_of h) 0 call).txns)
past_asked front shown contents m h call = record {
  each = λ t y known.
      let was = known_before 0 (asking (machine_of h) 0 call).txns t y known in
      let k = here_asking h.course (machine_of h) call (λ u x e. let k = h.each u x e in (k.home, k.within)) t was.0 was.1 in
      let over = over_at_zero was.0 y k.0 was.2 in
      record { home = over.1; within = k.1; over = over.0 };
  held = h.held;
  held_within = h.held_within;
}

-- a commit whose step a fault cuts off may be the next of the order
pub commit_follows : (last : ℕ) (r : Open) (t : TxnId) (g : Going) (before : Areas → Type 0) (m : Machine) → is_active r.role ≡ true → (s : Serving last r before m) → going_of r.front t ≡ Some g → MayFollow s.runs.entries (ended_at 0 (asking (machine_of s.runs) 0 (Commit t)).txns) (committed_by r (steps.Client (Commit t)))
commit_follows last r t g before m on s is =
    let h = s.runs in
    let n : Machine = machine_of h in
    let k = known_of r.front r.shown r.contents m h t g is in
    let was = h.each t k.txn k.known in
    let asked : Txn = record k.txn { live = false; asked = true } in
    let there : going_at n 0 t ≡ Some k.txn = cond-true _ (lookup (is_txn t) h.txns) None k.live_there ∙ k.known in
    let txns : (asking n 0 (Commit t)).txns ≡ (t, asked) ∷ h.txns = ap (λ o. (option_map_or (λ x. put_txn n t (record x { live = false; asked = true })) o n).txns) there in
    let commits : committed_by r (steps.Client (Commit t)) ≡ record { txn = t; ops = g.ops } ∷ [] = ap (λ o. option_map_or (λ (going : Going). one_commit t going) o []) (cond-true (is_active r.role) (going_of r.front t) None on ∙ is) in
    let follow : MayFollow h.entries ((t, asked) ∷ h.txns) (record { txn = t; ops = g.ops } ∷ []) = record {
      txn = asked;
      known = cond-true (is_txn t t) (Some asked) (lookup (is_txn t) h.txns) (is_txn_same t);
      new = was.not_held k.on;
      asked = refl;
      whole = sym k.ops;
      replays = Replays-from_protected h.grants t _ k.txn.calls (was.protected k.on);
    } in
    subst (MayFollow h.entries (ended_at 0 (asking n 0 (Commit t)).txns)) (sym commits)
    (subst (λ w. MayFollow h.entries (ended_at 0 w) (record { txn = t; ops = g.ops } ∷ [])) (sym txns) (follow_ended h.entries ((t, asked) ∷ h.txns) (record { txn = t; ops = g.ops } ∷ []) follow))
