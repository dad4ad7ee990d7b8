-- A call at a booted world of a transaction that doesn't go on.
use Rattle.std.proofs.Common.{◌≡◌, ◌∙◌, sym, ap, subst, ℕ, [], ◌∷◌, Bool, true, false, cond, Option, Some, None, is_some, refl}
use Rattle.std.specs.Option.{option_map_or}
use Rattle.std.specs.Map.{lookup}
use Rattle.std.proofs.lemmas.Bool.{false≢true, cond-false}
use Rattle.std.proofs.lemmas.Option.{same_Some, none-some}
use Rattle.txn_front.proofs.Fronts.{told_ended}
use Rattle.rc_base.specs.declared.ids.TxnId.{TxnId}
use Rattle.rc_base.specs.Ids.{is_txn}
use Rattle.rc_base.proofs.SameIds.{is_txn-true}
use Rattle.coll_model.specs.Effect.{State}
use Rattle.events.specs.declared.event.Event.TheVariants.{Client}
use Rattle.events.specs.declared.call.Call.{Call}
use Rattle.events.specs.declared.call.Call.TheVariants.{Begin, Make, OnKey, Commit, Abort}
use Rattle.order_machine.specs.declared.observation.Observation.TheVariants as says
use Rattle.order_machine.specs.Machine.{Machine, Txn, put_txn}
use Rattle.events.specs.Calls.{CallRecord, txn_named}
use Rattle.events.specs.Answers.{plain}
use Rattle.order_machine.specs.Clients.{noted}
use Rattle.order_machine.specs.Transitions.{asking, going_at}
use Rattle.order_machine.specs.Legal.{IsWhole, moved}
use Rattle.txn_front.specs.Front.{Fronted, Going, going_of, told}
use Rattle.world.specs.Running.{Runs, RunsWith, IsKept}
use Rattle.world.proofs.Calls.OneAnswer.{answer_serves}
use Rattle.world.proofs.States.Booted.{running_unrefused}
use Rattle.world.proofs.Calls.OneTxn.{with_call}
use Rattle.world.proofs.States.NothingPending.{holds_behind, settled}
use Rattle.world.proofs.Calls.Replies.{machine_of, not_live, answer_told}
use Rattle.events.specs.declared.answer.Answer.TheVariants as answers

-- the call with its answer
abbrev pub ended_call : Call → TxnId → CallRecord
ended_call call t = record { call = call; answer = answers.Ended t; op = None }

-- a known transaction with one call more, which doesn't go on
each_noted : (front : Fronted) (shown : ℕ) (contents : State) (m : Machine) (h : Runs front shown contents m) (t : TxnId) (x : Txn) (c : CallRecord) → lookup (is_txn t) h.txns ≡ Some x → going_of front t ≡ None →
    (u : TxnId) (y : Txn) (b : Bool) → is_txn u t ≡ b → cond b (Some (with_call x c)) (lookup (is_txn u) h.txns) ≡ Some y → IsKept h.course front h.grants h.entries h.acknowledged u y
each_noted front shown contents m h t x c known none u y true same e =
    let k = h.each t x known in
    let off : x.live ≡ false = k.on ∙ ap is_some none in
    let P : TxnId → Type 0 = λ v. IsKept h.course front h.grants h.entries h.acknowledged v y in
    let Q : Txn → Type 0 = λ z. IsKept h.course front h.grants h.entries h.acknowledged t z in
    subst P (sym (is_txn-true u t same)) (subst Q (same_Some (with_call x c) y e) (record {
      home = k.home;
      within = k.within;
      begun = k.begun;
      on = k.on;
      here = k.here;
      asked = k.asked;
      not_held = k.not_held;
      not_acknowledged = k.not_acknowledged;
      logged = λ g is. absurd (none-some g (sym none ∙ is));
      protected = λ on. absurd (false≢true (sym off ∙ on));
    }))
each_noted front shown contents m h t x c known none u y false other e = h.each u y e

noted_runs : (front : Fronted) (shown : ℕ) (contents : State) (m : Machine) (t : TxnId) (c : CallRecord) (h : Runs front shown contents m) → going_of front t ≡ None →
    (o : Option Txn) → lookup (is_txn t) h.txns ≡ o → RunsWith h.entries h.course front shown contents (option_map_or (λ y. put_txn (machine_of h) t (with_call y c)) o (machine_of h))
unfolding settled
noted_runs front shown contents m t c h none None e = (settled front shown contents m h, (refl, refl))
noted_runs front shown contents m t c h none (Some x) e = (
  record {
    entries = h.entries;
    acknowledged = h.acknowledged;
    txns = (t, with_call x c) ∷ h.txns;
    grants = h.grants;
    course = h.course;
    is = refl;
    epoch = h.epoch;
    alike = h.alike;
    exclusive = h.exclusive;
    all_shown = h.all_shown;
    sees = h.sees;
    each = λ u y known. each_noted front shown contents m h t x c e none u y (is_txn u t) refl known;
    live_known = λ u g is. live_noted u g is (is_txn u t) refl;
    held = h.held;
    held_within = h.held_within;
    held_begun = h.held_begun;
  },
  (refl, refl),
)
  where
    live_noted : (u : TxnId) (g : Going) → going_of front u ≡ Some g → (b : Bool) → is_txn u t ≡ b → (y : Txn) × (cond b (Some (with_call x c)) (lookup (is_txn u) h.txns) ≡ Some y)
    live_noted u g is true same = (with_call x c, refl)
    live_noted u g is false other = h.live_known u g is

-- its asking changes nothing
by_none : {A : Type 0} (f : Txn → A) (x : A) (o : Option Txn) → o ≡ None → option_map_or f o x ≡ x
by_none f x o none = ap (λ o. option_map_or f o x) none

pub ended_asking : (m : Machine) (call : Call) (t : TxnId) → txn_named call ≡ Some t → going_at m 0 t ≡ None → asking m 0 call ≡ m
ended_asking m Begin t named gone = refl
ended_asking m (Make u name kind) t named gone = by_none _ m (going_at m 0 u) (ap (going_at m 0) (same_Some u t named) ∙ gone)
ended_asking m (OnKey u name key asked) t named gone = by_none _ m (going_at m 0 u) (ap (going_at m 0) (same_Some u t named) ∙ gone)
ended_asking m (Commit u) t named gone = by_none _ m (going_at m 0 u) (ap (going_at m 0) (same_Some u t named) ∙ gone)
ended_asking m (Abort u) t named gone = by_none _ m (going_at m 0 u) (ap (going_at m 0) (same_Some u t named) ∙ gone)

pub ended_serves : (front : Fronted) (shown : ℕ) (contents : State) (m : Machine) (call : Call) (t : TxnId) → txn_named call ≡ Some t → (h : Runs front shown contents m) → going_of front t ≡ None →
    IsWhole m (Client 0 call) (says.Ended t ∷ []) × RunsWith h.entries h.course front shown contents (moved m (Client 0 call) (says.Ended t ∷ []))
ended_serves front shown contents m call t named h none =
    let n : Machine = machine_of h in
    let gone : going_at n 0 t ≡ None = cond-false _ (lookup (is_txn t) h.txns) None (not_live front shown contents m h t none) in
    let R : Option TxnId → Type 0 = λ o. RunsWith h.entries h.course front shown contents (option_map_or (λ u. noted n u (ended_call call t)) o n) in
    let then = subst R (sym named) (noted_runs front shown contents m t (ended_call call t) h none (lookup (is_txn t) h.txns) refl) in
    let P : Machine → Type 0 = λ at. IsWhole at (Client 0 call) (says.Ended t ∷ []) × RunsWith h.entries h.course front shown contents (moved at (Client 0 call) (says.Ended t ∷ [])) in
    let says_so : told front contents call ≡ Some (plain (answers.Ended t)) = told_ended front contents call t named none in
    subst P (sym h.is) (answer_serves n n 0 call (answers.Ended t) None (RunsWith h.entries h.course front shown contents) (running_unrefused front shown contents m h call) (ended_asking n call t named gone) (answer_told front shown contents m h call ∙ says_so) refl (holds_behind _ _ _ _ then.0) then)
