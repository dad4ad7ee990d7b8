-- The abort at a booted world of a transaction that goes on.
use Rattle.std.proofs.Common.{◌≡◌, ◌∙◌, sym, ap, subst, ℕ, List, [], ◌∷◌, Bool, true, false, cond, Option, Some, None, is_some, refl, arith}
use Rattle.std.specs.Option.{option_map_or}
use Rattle.std.specs.Map.{lookup}
use Rattle.std.proofs.lemmas.Bool.{false≢true, cond-true}
use Rattle.std.proofs.lemmas.Option.{same_Some, none-some}
use Rattle.rc_base.specs.declared.ids.TxnId.{TxnId}
use Rattle.rc_base.specs.Ids.{is_txn}
use Rattle.rc_base.proofs.SameIds.{is_txn-true, is_txn_same, is_txn_equivalence}
use Rattle.coll_model.specs.Effect.{State}
use Rattle.key_locks.specs.Grants.{released}
use Rattle.events.specs.declared.event.Event.TheVariants.{Client}
use Rattle.events.specs.declared.call.Call.TheVariants.{Abort}
use Rattle.order_machine.specs.declared.observation.Observation.TheVariants as says
use Rattle.order_machine.specs.Machine.{Machine, Txn, put_txn, put_grants}
use Rattle.events.specs.Calls.{CallRecord}
use Rattle.events.specs.Answers.{plain}
use Rattle.order_machine.specs.Transitions.{asking, going_at}
use Rattle.order_machine.specs.Legal.{IsWhole, moved}
use Rattle.lock_laws.proofs.ProtectedGrants.{AreExclusive-released}
use Rattle.txn_front.specs.Front.{Fronted, Going, going_of, told}
use Rattle.world.specs.Running.{running, state_of, Runs, RunsWith, IsKept}
use Rattle.world.proofs.Calls.OneAnswer.{answer_serves}
use Rattle.world.proofs.Calls.Collection.{going_told}
use Rattle.world.proofs.States.Booted.{running_unrefused}
use Rattle.world.proofs.Calls.OneTxn.{ChangesAt, at_own, at_other, kept_other, with_call}
use Rattle.key_locks.proofs.Flat.{alike_released}
use Rattle.lock_laws.proofs.ProtectedCalls.{AreProtected-released}
use Rattle.world.proofs.States.NothingPending.{holds_behind}
use Rattle.world.proofs.Calls.Replies.{machine_of, IsKnown, known_of, answer_told}
use Rattle.events.specs.declared.answer.Answer.TheVariants as answers

-- the transaction goes on no more, and its locks go
abbrev pub Ends : Fronted → Fronted → TxnId → Type 0
Ends front new t = ChangesAt front new front.begins t None (released front.grants t)

abbrev ended_of : Txn → Txn
ended_of x = record x { live = false }

abbrev done_call : TxnId → CallRecord
done_call t = record { call = Abort t; answer = answers.Done; op = None }

each_aborted : (front new : Fronted) (shown : ℕ) (contents : State) (m : Machine) (h : Runs front shown contents m) (t : TxnId) (g : Going) (k : IsKnown front shown contents m h t g) → Ends front new t →
    (u : TxnId) (y : Txn) (b : Bool) → is_txn u t ≡ b → cond b (Some (with_call (ended_of k.txn) (done_call t))) (cond b (Some (ended_of k.txn)) (lookup (is_txn u) h.txns)) ≡ Some y → IsKept h.course new (released h.grants t) h.entries h.acknowledged u y
each_aborted front new shown contents m h t g k c u y true same e =
    let x = k.txn in
    let was = h.each t x k.known in
    let own : going_of new t ≡ None = at_own front new front.begins t None (released front.grants t) c in
    let P : TxnId → Type 0 = λ v. IsKept h.course new (released h.grants t) h.entries h.acknowledged v y in
    let Q : Txn → Type 0 = λ z. IsKept h.course new (released h.grants t) h.entries h.acknowledged t z in
    subst P (sym (is_txn-true u t same)) (subst Q (same_Some (with_call (ended_of x) (done_call t)) y e) (record {
      home = was.home;
      within = was.within;
      begun = λ here. let b = was.begun here in let n = c.begins_now in omega (arith, b, n);
      on = ap is_some (sym own);
      here = λ on. absurd (false≢true on);
      asked = was.asked;
      not_held = λ on. absurd (false≢true on);
      not_acknowledged = λ on. absurd (false≢true on);
      logged = λ f is. absurd (none-some f (sym own ∙ is));
      protected = λ on. absurd (false≢true on);
    }))
each_aborted front new shown contents m h t g k c u y false other e =
    kept_other front new front.begins t None (released front.grants t) h.grants (released h.grants t) h.entries h.acknowledged h.course c (omega arith) u y other (h.each u y e)
    (λ p. AreProtected-released h.grants t u (state_of h.entries) y.calls (is_txn_equivalence.symm t u ∙ other) p)

abbrev aborted_txns : (front : Fronted) (shown : ℕ) (contents : State) (m : Machine) (h : Runs front shown contents m) (t : TxnId) (g : Going) → IsKnown front shown contents m h t g → List (TxnId × Txn)
aborted_txns front shown contents m h t g k = (t, with_call (ended_of k.txn) (done_call t)) ∷ (t, ended_of k.txn) ∷ h.txns

aborted_runs : (front new : Fronted) (shown : ℕ) (contents : State) (m : Machine) (h : Runs front shown contents m) (t : TxnId) (g : Going) (k : IsKnown front shown contents m h t g) → Ends front new t →
    Runs new shown contents (running h.entries h.acknowledged (aborted_txns front shown contents m h t g k) front.begins (released h.grants t) h.course)
aborted_runs front new shown contents m h t g k c = record {
  entries = h.entries;
  acknowledged = h.acknowledged;
  txns = aborted_txns front shown contents m h t g k;
  grants = released h.grants t;
  course = h.course;
  is = ap (λ n. running h.entries h.acknowledged (aborted_txns front shown contents m h t g k) n (released h.grants t) h.course) (sym c.begins_now);
  epoch = c.epoch ∙ h.epoch;
  alike = λ name. alike_released h.grants front.grants h.alike t name ∙ c.grants_now name;
  exclusive = AreExclusive-released h.grants t h.exclusive;
  all_shown = h.all_shown;
  sees = h.sees;
  each = λ u y e. each_aborted front new shown contents m h t g k c u y (is_txn u t) refl e;
  live_known = λ u f e. known_there u f e (is_txn u t) refl;
  held = h.held;
  held_within = h.held_within;
  held_begun = λ u e same. let n = h.held_begun u e same in let b = c.begins_now in omega (arith, n, b);
}
  where
    known_there : (u : TxnId) (f : Going) → going_of new u ≡ Some f → (b : Bool) → is_txn u t ≡ b → (y : Txn) × (cond b (Some (with_call (ended_of k.txn) (done_call t))) (cond b (Some (ended_of k.txn)) (lookup (is_txn u) h.txns)) ≡ Some y)
    known_there u f e true same = (with_call (ended_of k.txn) (done_call t), refl)
    known_there u f e false other = h.live_known u f (sym (at_other front new front.begins t None (released front.grants t) c u other) ∙ e)

pub aborted_serves : (front new : Fronted) (shown : ℕ) (contents : State) (m : Machine) (t : TxnId) (g : Going) → (h : Runs front shown contents m) → going_of front t ≡ Some g → Ends front new t →
    IsWhole m (Client 0 (Abort t)) (says.Done ∷ []) × RunsWith h.entries h.course new shown contents (moved m (Client 0 (Abort t)) (says.Done ∷ []))
unfolding aborted_runs
aborted_serves front new shown contents m t g h is c =
    let n : Machine = machine_of h in
    let k = known_of front shown contents m h t g is in
    let there : going_at n 0 t ≡ Some k.txn = cond-true _ (lookup (is_txn t) h.txns) None k.live_there ∙ k.known in
    let now : Machine = running h.entries h.acknowledged ((t, ended_of k.txn) ∷ h.txns) front.begins (released h.grants t) h.course in
    let asked : asking n 0 (Abort t) ≡ now = ap (λ o. option_map_or (λ x. put_txn (put_grants n 0 (released h.grants t)) t (ended_of x)) o n) there in
    let says_so : told front contents (Abort t) ≡ Some (plain answers.Done) = going_told front contents (Abort t) t g refl is in
    let then = aborted_runs front new shown contents m h t g k c in
    let known_now : lookup (is_txn t) now.txns ≡ Some (ended_of k.txn) = cond-true (is_txn t t) (Some (ended_of k.txn)) (lookup (is_txn t) h.txns) (is_txn_same t) in
    let R : Option Txn → Type 0 = λ o. RunsWith h.entries h.course new shown contents (option_map_or (λ y. put_txn now t (with_call y (done_call t))) o now) in
    let all = subst R (sym known_now) (then, (refl, refl)) in
    let P : Machine → Type 0 = λ at. IsWhole at (Client 0 (Abort t)) (says.Done ∷ []) × RunsWith h.entries h.course new shown contents (moved at (Client 0 (Abort t)) (says.Done ∷ [])) in
    subst P (sym h.is) (answer_serves n now 0 (Abort t) answers.Done None (RunsWith h.entries h.course new shown contents) (running_unrefused front shown contents m h (Abort t)) asked (answer_told front shown contents m h (Abort t) ∙ says_so) refl (holds_behind _ _ _ _ all.0) all)
