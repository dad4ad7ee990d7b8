-- A begin at a booted world.
use Rattle.std.proofs.Common.{◌≡◌, ◌∙◌, sym, ap, subst, ℕ, ◌+◌, [], ◌∷◌, Bool, true, false, cond, Some, None, is_some, refl, arith, length}
use Rattle.std.specs.List.{list_any}
use Rattle.std.specs.Map.{lookup}
use Rattle.std.proofs.lemmas.Bool.{false≢true, false_from_ne_true}
use Rattle.std.proofs.lemmas.Option.{same_Some}
use Rattle.rc_base.specs.declared.ids.TxnId.{TxnId}
use Rattle.rc_base.specs.Ids.{is_txn}
use Rattle.rc_base.proofs.SameIds.{is_txn-true}
use Rattle.coll_model.specs.Effect.{State}
use Rattle.events.specs.declared.event.Event.TheVariants.{Client}
use Rattle.events.specs.declared.call.Call.TheVariants.{Begin}
use Rattle.order_machine.specs.declared.observation.Observation.TheVariants as says
use Rattle.order_machine.specs.Order.{holds}
use Rattle.order_machine.specs.Machine.{Machine, Txn}
use Rattle.order_machine.specs.Legal.{IsWhole, moved}
use Rattle.txn_front.specs.Front.{Fronted, Going, going_of, txn_at}
use Rattle.world.specs.Running.{running, Runs, RunsWith, IsKept}
use Rattle.world.specs.Standing.{Course}
use Rattle.world.proofs.Calls.OneAnswer.{answer_serves}
use Rattle.world.proofs.States.Booted.{running_unrefused}
use Rattle.world.proofs.Calls.OneTxn.{ChangesAt, at_own, at_other, kept_other}
use Rattle.world.proofs.States.NothingPending.{holds_behind}
use Rattle.rc_base.proofs.EpochOrder.{epoch_le_refl}
use Rattle.world.proofs.Calls.Replies.{machine_of}
use Rattle.events.specs.declared.answer.Answer.TheVariants as answers

-- the transaction that begins next
abbrev pub next : Fronted → TxnId
next front = txn_at front (front.begins + 1)

abbrev next_here : Course → Fronted → TxnId
next_here course front = record { epoch = course.latest; n = front.begins + 1 }

abbrev pub new_going : Going
new_going = record { last = record { 0 = 0 }; ops = [] }

abbrev pub fresh : ℕ → Txn
fresh shown = record { home = 0; shown_at_begin = shown; calls = []; live = true; asked = false }

abbrev pub Begins : Fronted → Fronted → Type 0
Begins front new = ChangesAt front new (front.begins + 1) (next front) (Some new_going) front.grants

next_is : (course : Course) (front : Fronted) → front.epoch ≡ course.latest → next front ≡ next_here course front
next_is course front e = ap (λ (epoch : _). let t : TxnId = record { epoch = epoch; n = front.begins + 1 } in t) e

-- each transaction that is known once the next one was begun
each_begun : (front new : Fronted) (shown : ℕ) (contents : State) (m : Machine) (h : Runs front shown contents m) → Begins front new → (holds h.entries (next_here h.course front) ≡ false) → (list_any (is_txn (next_here h.course front)) h.acknowledged ≡ false) →
    (u : TxnId) (y : Txn) → (b : Bool) → is_txn u (next_here h.course front) ≡ b → cond b (Some (fresh (length h.entries))) (lookup (is_txn u) h.txns) ≡ Some y →
    IsKept h.course new h.grants h.entries h.acknowledged u y
each_begun front new shown contents m h c not_held not_acked u y true same e =
    let u_is : u ≡ next_here h.course front = is_txn-true u (next_here h.course front) same in
    let own : going_of new (next_here h.course front) ≡ Some new_going = subst (λ t. going_of new t ≡ Some new_going) (next_is h.course front h.epoch) (at_own front new (front.begins + 1) (next front) (Some new_going) front.grants c) in
    let P : TxnId → Type 0 = λ v. IsKept h.course new h.grants h.entries h.acknowledged v y in
    let Q : Txn → Type 0 = λ x. IsKept h.course new h.grants h.entries h.acknowledged (next_here h.course front) x in
    subst P (sym u_is) (subst Q (same_Some (fresh (length h.entries)) y e) (record {
      home = refl;
      within = epoch_le_refl h.course.latest;
      begun = λ _. let n = c.begins_now in omega (arith, n);
      on = ap is_some (sym own);
      here = λ _. refl;
      asked = λ _ f. absurd (false≢true f);
      not_held = λ _. not_held;
      not_acknowledged = λ _. not_acked;
      logged = λ g is. ap (λ (x : Going). x.ops) (same_Some new_going g (sym own ∙ is));
      protected = λ _. tt;
    }))
each_begun front new shown contents m h c not_held not_acked u y false other e =
    kept_other front new (front.begins + 1) (next front) (Some new_going) front.grants h.grants h.grants h.entries h.acknowledged h.course c (omega arith) u y (ap (is_txn u) (next_is h.course front h.epoch) ∙ other) (h.each u y e) (λ p. p)

pub begin_runs : (front new : Fronted) (shown : ℕ) (contents : State) (m : Machine) (h : Runs front shown contents m) → Begins front new → Runs new shown contents (running h.entries h.acknowledged ((next_here h.course front, fresh (length h.entries)) ∷ h.txns) (front.begins + 1) h.grants h.course)
begin_runs front new shown contents m h c =
    let not_held : holds h.entries (next_here h.course front) ≡ false = false_from_ne_true (holds h.entries (next_here h.course front)) (λ e. let n = h.held_begun (next_here h.course front) e refl in absurd (omega arith)) in
    let not_acked : list_any (is_txn (next_here h.course front)) h.acknowledged ≡ false = false_from_ne_true (list_any (is_txn (next_here h.course front)) h.acknowledged) (λ e. false≢true (sym not_held ∙ h.held (next_here h.course front) e)) in
    record {
      entries = h.entries;
      acknowledged = h.acknowledged;
      txns = (next_here h.course front, fresh (length h.entries)) ∷ h.txns;
      grants = h.grants;
      course = h.course;
      is = ap (λ n. running h.entries h.acknowledged ((next_here h.course front, fresh (length h.entries)) ∷ h.txns) n h.grants h.course) (sym c.begins_now);
      epoch = c.epoch ∙ h.epoch;
      alike = λ name. h.alike name ∙ c.grants_now name;
      exclusive = h.exclusive;
      all_shown = h.all_shown;
      sees = h.sees;
      each = λ u y e. each_begun front new shown contents m h c not_held not_acked u y (is_txn u (next_here h.course front)) refl e;
      live_known = λ u g is. known u g is (is_txn u (next_here h.course front)) refl;
      held = h.held;
      held_within = h.held_within;
      held_begun = λ t e same. let n = h.held_begun t e same in let b = c.begins_now in omega (arith, n, b);
    }
  where
    known : (u : TxnId) (g : Going) → going_of new u ≡ Some g → (b : Bool) → is_txn u (next_here h.course front) ≡ b → (x : Txn) × (cond b (Some (fresh (length h.entries))) (lookup (is_txn u) h.txns) ≡ Some x)
    known u g is true same = (fresh (length h.entries), refl)
    known u g is false other = h.live_known u g (sym (at_other front new (front.begins + 1) (next front) (Some new_going) front.grants c u (ap (is_txn u) (next_is h.course front h.epoch) ∙ other)) ∙ is)

pub begin_serves : (front new : Fronted) (shown : ℕ) (contents : State) (m : Machine) (h : Runs front shown contents m) → Begins front new →
    IsWhole m (Client 0 Begin) (says.Txn (next front) ∷ []) × RunsWith h.entries h.course new shown contents (moved m (Client 0 Begin) (says.Txn (next front) ∷ []))
unfolding begin_runs
begin_serves front new shown contents m h c =
    let P : Machine → Type 0 = λ n. IsWhole n (Client 0 Begin) (says.Txn (next_here h.course front) ∷ []) × RunsWith h.entries h.course new shown contents (moved n (Client 0 Begin) (says.Txn (next_here h.course front) ∷ [])) in
    let Q : TxnId → Type 0 = λ t. IsWhole m (Client 0 Begin) (says.Txn t ∷ []) × RunsWith h.entries h.course new shown contents (moved m (Client 0 Begin) (says.Txn t ∷ [])) in
    let then = begin_runs front new shown contents m h c in
    let n : Machine = machine_of h in
    subst Q (sym (next_is h.course front h.epoch)) (subst P (sym h.is) (answer_serves n n 0 Begin (answers.Txn (next_here h.course front)) None (RunsWith h.entries h.course new shown contents) (running_unrefused front shown contents m h Begin) refl refl refl (holds_behind _ _ _ _ then) (then, (refl, refl))))
