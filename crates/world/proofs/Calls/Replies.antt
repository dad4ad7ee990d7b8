-- What a running machine answers to a call is what the front tells.
use Rattle.std.proofs.Common.{◌≡◌, ◌∙◌, sym, ap, ℕ, ◌+◌, ◌-◌, List, [], length, take, flat_map, Bool, true, false, ◌&&◌, Option, Some, None, is_some, refl, arith, ◌==◌}
use Rattle.std.specs.Option.{option_map_or}
use Rattle.std.specs.Map.{lookup}
use Rattle.std.proofs.Math.Seq.{take-length}
use Rattle.std.proofs.lemmas.Bool.{cond-true, cond-false}
use Rattle.rc_base.specs.declared.ids.TxnId.{TxnId}
use Rattle.rc_base.specs.Ids.{is_txn}
use Rattle.coll_model.specs.Effect.{State, folded}
use Rattle.key_locks.specs.Grants.{Grant, Alike}
use Rattle.events.specs.declared.call.Call.{Call}
use Rattle.events.specs.declared.call.Call.TheVariants.{Begin}
use Rattle.order_machine.specs.Order.{Entry}
use Rattle.order_machine.specs.Machine.{Machine, Txn, is_live, live_txn, ops_of}
use Rattle.events.specs.Locking.{locks_at}
use Rattle.order_machine.specs.Clients.{answer, seen}
use Rattle.events.specs.Answers.{plain, locked_or, live_reply, reply_to}
use Rattle.events.specs.Calls.{txn_named}
use Rattle.txn_front.specs.Front.{Fronted, Going, going_of, told, txn_at}
use Rattle.world.specs.Running.{running, state_of, Runs}
use Rattle.lock_laws.proofs.ProtectedGrants.{against-alike}
use Rattle.events.specs.declared.answer.Answer.TheVariants as answers

-- ---- the state that is shown

pub all_taken : (entries : List Entry) (n : ℕ) → n ≡ length entries → take (n - 0) entries ≡ entries
all_taken entries n e = let z : n - 0 ≡ length entries = omega arith in rw z (take-length entries)

pub state_is : (entries : List Entry) (n : ℕ) → n ≡ length entries → folded [] (flat_map (λ e. e.ops) (take (n - 0) entries)) ≡ state_of entries
state_is entries n e = ap (λ es. folded [] (flat_map (λ e. e.ops) es)) (all_taken entries n e)

-- ---- what goes on

abbrev pub machine_of : {front : Fronted} {shown : ℕ} {contents : State} {m : Machine} → Runs front shown contents m → Machine
machine_of {front} h = running h.entries h.acknowledged h.txns front.begins h.grants h.course

is_off : (o : Option Txn) (b : Bool) → ((x : Txn) → o ≡ Some x → x.live ≡ b) → b ≡ false → option_map_or (λ x. x.live && (x.home == 0)) o false ≡ false
is_off None b f off = refl
is_off (Some x) b f off = let g = f x refl in rw (g, off) refl

-- a transaction that doesn't go on isn't live
pub not_live : (front : Fronted) (shown : ℕ) (contents : State) (m : Machine) (h : Runs front shown contents m) (t : TxnId) → going_of front t ≡ None → is_live (machine_of h) 0 t ≡ false
not_live front shown contents m h t none = is_off (lookup (is_txn t) h.txns) (is_some (going_of front t)) (λ x e. (h.each t x e).on) (ap is_some none)

-- one that goes on is known, and has done what the front says
pub record IsKnown (front : Fronted) (shown : ℕ) (contents : State) (m : Machine) (h : Runs front shown contents m) (t : TxnId) (g : Going) : Type 0 where
  pub txn : Txn
  pub known : lookup (is_txn t) h.txns ≡ Some txn
  pub on : txn.live ≡ true
  pub live_there : is_live (machine_of h) 0 t ≡ true
  pub ops : ops_of txn ≡ g.ops
  pub sees : seen (machine_of h) 0 txn ≡ folded (state_of h.entries) g.ops

pub known_of : (front : Fronted) (shown : ℕ) (contents : State) (m : Machine) (h : Runs front shown contents m) (t : TxnId) (g : Going) → going_of front t ≡ Some g → IsKnown front shown contents m h t g
known_of front shown contents m h t g is =
    let x = (h.live_known t g is).0 in
    let known = (h.live_known t g is).1 in
    let k = h.each t x known in
    let on : x.live ≡ true = k.on ∙ ap is_some is in
    record {
      txn = x;
      known = known;
      on = on;
      live_there = rw (known, on, k.home) refl;
      ops = k.logged g is;
      sees = ap (λ s. folded s (ops_of x)) (state_is h.entries (length h.entries) refl) ∙ ap (folded (state_of h.entries)) (k.logged g is);
    }

-- ---- the answer

pub live_reply_alike : (a b : List Grant) (s s' : State) (t : TxnId) (call : Call) → Alike a b → s ≡ s' → live_reply a s t call ≡ live_reply b s' t call
live_reply_alike a b s s' t call alike same =
    ap (λ o. locked_or o (reply_to s call)) (against-alike a b alike t (locks_at s call)) ∙ ap (λ x. live_reply b x t call) same

live_is : (front : Fronted) (shown : ℕ) (contents : State) (m : Machine) (h : Runs front shown contents m) (call : Call) (t : TxnId) (o : Option Going) → going_of front t ≡ o →
    option_map_or (λ x. live_reply h.grants (seen (machine_of h) 0 x) t call) (live_txn (machine_of h) 0 t) (Some (plain (answers.Ended t)))
    ≡ option_map_or (λ going. live_reply front.grants (folded contents going.ops) t call) o (Some (plain (answers.Ended t)))
live_is front shown contents m h call t None none =
    ap (λ o. option_map_or (λ x. live_reply h.grants (seen (machine_of h) 0 x) t call) o (Some (plain (answers.Ended t)))) (cond-false (is_live (machine_of h) 0 t) (lookup (is_txn t) h.txns) None (not_live front shown contents m h t none))
live_is front shown contents m h call t (Some g) is =
    let k = known_of front shown contents m h t g is in
    ap (λ o. option_map_or (λ x. live_reply h.grants (seen (machine_of h) 0 x) t call) o (Some (plain (answers.Ended t)))) (cond-true (is_live (machine_of h) 0 t) (lookup (is_txn t) h.txns) None k.live_there ∙ k.known)
    ∙ live_reply_alike h.grants front.grants (seen (machine_of h) 0 k.txn) (folded contents g.ops) t call h.alike (k.sees ∙ ap (λ s. folded s g.ops) (sym h.sees))

pub answer_told : (front : Fronted) (shown : ℕ) (contents : State) (m : Machine) (h : Runs front shown contents m) (call : Call) → answer (machine_of h) 0 call ≡ told front contents call
answer_told front shown contents m h call = by (txn_named call)
  where
    by : (named : Option TxnId) →
        option_map_or (λ t. option_map_or (λ x. live_reply h.grants (seen (machine_of h) 0 x) t call) (live_txn (machine_of h) 0 t) (Some (plain (answers.Ended t)))) named (answer (machine_of h) 0 Begin)
        ≡ option_map_or (λ t. option_map_or (λ going. live_reply front.grants (folded contents going.ops) t call) (going_of front t) (Some (plain (answers.Ended t)))) named (Some (plain (answers.Txn (txn_at front (front.begins + 1)))))
    by None = let e = h.epoch in rw e refl
    by (Some t) = live_is front shown contents m h call t (going_of front t) refl
