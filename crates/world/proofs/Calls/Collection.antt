-- A call at a booted world on a collection, of a transaction that goes on.
use Rattle.std.proofs.Common.{◌≡◌, ◌∙◌, sym, ap, subst, ℕ, ◌+◌, List, [], ◌∷◌, ◌++◌, filter_map, Bool, true, false, cond, Option, Some, None, is_some, refl, arith}
use Rattle.std.specs.Option.{option_map_or}
use Rattle.std.specs.List.{cons_option}
use Rattle.std.specs.Map.{lookup}
use Rattle.std.proofs.lemmas.Bool.{cond-true}
use Rattle.std.proofs.lemmas.List.Elements.{filter_map-append}
use Rattle.std.proofs.lemmas.Option.{same_Some}
use Rattle.rc_base.specs.declared.ids.TxnId.{TxnId}
use Rattle.rc_base.specs.Ids.{is_txn}
use Rattle.rc_base.proofs.SameIds.{is_txn-true}
use Rattle.coll_model.specs.declared.op.Op.{Op}
use Rattle.coll_model.specs.Effect.{State, folded}
use Rattle.key_locks.specs.Grants.{Grant}
use Rattle.key_locks.specs.Grants as key_locks
use Rattle.events.specs.declared.event.Event.TheVariants.{Client}
use Rattle.events.specs.declared.call.Call.{Call}
use Rattle.events.specs.declared.call.Call.TheVariants.{Begin, Make, OnKey, Commit, Abort}
use Rattle.events.specs.declared.answer.Reply.{Reply}
use Rattle.order_machine.specs.Machine.{Machine, Txn, put_txn, put_grants, grants_of, ops_of}
use Rattle.events.specs.Calls.{CallRecord, txn_named}
use Rattle.events.specs.Locking.{locks_at, taken}
use Rattle.events.specs.Answers.{plain, live_reply}
use Rattle.order_machine.specs.Clients.{noted, seen, begun_by}
use Rattle.lock_laws.specs.Protected.{AreProtected, IsCallProtected}
use Rattle.order_machine.specs.Transitions.{asking, going_at}
use Rattle.order_machine.specs.Legal.{IsWhole, moved}
use Rattle.lock_laws.proofs.ProtectedGrants.{Alike-taken, AreExclusive-taken}
use Rattle.txn_front.specs.Front.{Fronted, Going, going_of, told, txn_at}
use Rattle.world.specs.Running.{running, state_of, Runs, RunsWith, IsKept}
use Rattle.world.proofs.Calls.OneAnswer.{answer_serves, live_reply_is}
use Rattle.world.proofs.States.Booted.{running_unrefused}
use Rattle.world.proofs.Calls.OneTxn.{ChangesAt, at_own, at_other, kept_other, with_call}
use Rattle.lock_laws.proofs.ProtectedCalls.{AreProtected-taken, AreProtected-push, IsCallProtected-live}
use Rattle.world.proofs.States.NothingPending.{holds_behind}
use Rattle.world.proofs.Calls.Replies.{machine_of, IsKnown, known_of, answer_told, live_reply_alike}
use Rattle.events.specs.declared.answer.Answer.TheVariants as answers
use Rattle.order_machine.specs.AnswerLines.{line_of_answer}

abbrev pub grants_then : Fronted → State → TxnId → Going → Call → List Grant
grants_then front contents t g call = taken front.grants t (locks_at (folded contents g.ops) call)

-- a call in a collection
abbrev pub IsInCollection : Call → Type 0
IsInCollection Begin = ⊥
IsInCollection (Make t name kind) = Unit {0}
IsInCollection (OnKey t name key asked) = Unit {0}
IsInCollection (Commit t) = ⊥
IsInCollection (Abort t) = ⊥

-- what is known of what goes on, apart from its last record
pub record IsAsked (front new : Fronted) (contents : State) (t : TxnId) (g : Going) (call : Call) (op : Option Op) : Type 0 where
  pub then : Going
  pub ops : then.ops ≡ g.ops ++ cons_option op []
  pub changes : ChangesAt front new front.begins t (Some then) (grants_then front contents t g call)

-- what a call of what goes on is told
pub going_told : (front : Fronted) (contents : State) (call : Call) (t : TxnId) (g : Going) → txn_named call ≡ Some t → going_of front t ≡ Some g → told front contents call ≡ live_reply front.grants (folded contents g.ops) t call
going_told front contents call t g named is =
    ap (λ o. option_map_or (λ u. option_map_or (λ going. live_reply front.grants (folded contents going.ops) u call) (going_of front u) (Some (plain (answers.Ended u)))) o (Some (plain (answers.Txn (txn_at front (front.begins + 1)))))) named
    ∙ ap (λ o. option_map_or (λ going. live_reply front.grants (folded contents going.ops) t call) o (Some (plain (answers.Ended t)))) is

-- its asking takes the locks
by_some : {A : Type 0} (f : Txn → A) (x : A) (o : Option Txn) (y : Txn) → o ≡ Some y → option_map_or f o x ≡ f y
by_some f x o y is = ap (λ o. option_map_or f o x) is

abbrev asks : Machine → Call → TxnId → Txn → Machine
asks m call u x = put_grants m 0 (taken (grants_of m 0) u (locks_at (seen m 0 x) call))

same_asks : (m : Machine) (call : Call) (u t : TxnId) (x : Txn) → Some u ≡ Some t → going_at m 0 t ≡ Some x → option_map_or (λ y. asks m call u y) (going_at m 0 u) m ≡ asks m call t x
same_asks m call u t x named is =
    let e : u ≡ t = same_Some u t named in
    by_some (λ y. asks m call u y) m (going_at m 0 u) x (ap (going_at m 0) e ∙ is) ∙ ap (λ v. asks m call v x) e

collection_asking : (m : Machine) (call : Call) (t : TxnId) (x : Txn) → IsInCollection call → txn_named call ≡ Some t → going_at m 0 t ≡ Some x → asking m 0 call ≡ asks m call t x
collection_asking m Begin t x in_one named is = absurd in_one
collection_asking m (Make u name kind) t x in_one named is = same_asks m (Make u name kind) u t x named is
collection_asking m (OnKey u name key asked) t x in_one named is = same_asks m (OnKey u name key asked) u t x named is
collection_asking m (Commit u) t x in_one named is = absurd in_one
collection_asking m (Abort u) t x in_one named is = absurd in_one

-- ---- the machine behind it

abbrev noted_call : Call → Reply → CallRecord
noted_call call reply = record { call = call; answer = reply.answer; op = reply.op }

one_op : (c : CallRecord) → filter_map (λ d. d.op) (c ∷ []) ≡ cons_option c.op []
one_op c = by c.op
  where
    by : (o : Option Op) → cons_option o [] ≡ cons_option o []
    by o = refl

ops_more : (x : Txn) (c : CallRecord) → ops_of (with_call x c) ≡ ops_of x ++ cons_option c.op []
ops_more x c = filter_map-append (λ d. d.op) x.calls (c ∷ []) ∙ ap (λ ops. ops_of x ++ ops) (one_op c)

-- the machine's grants
abbrev taken_there : (front : Fronted) (shown : ℕ) (contents : State) (m : Machine) (h : Runs front shown contents m) → TxnId → Going → Call → List Grant
taken_there front shown contents m h t g call = taken h.grants t (locks_at (folded (state_of h.entries) g.ops) call)

each_asked : (front new : Fronted) (shown : ℕ) (contents : State) (m : Machine) (h : Runs front shown contents m) (call : Call) (t : TxnId) (g : Going) (k : IsKnown front shown contents m h t g) (reply : Reply) → IsInCollection call → going_of front t ≡ Some g → (a : IsAsked front new contents t g call reply.op) → live_reply h.grants (folded (state_of h.entries) g.ops) t call ≡ Some reply →
    (u : TxnId) (y : Txn) (b : Bool) → is_txn u t ≡ b → cond b (Some (with_call k.txn (noted_call call reply))) (lookup (is_txn u) h.txns) ≡ Some y → IsKept h.course new (taken_there front shown contents m h t g call) h.entries h.acknowledged u y
each_asked front new shown contents m h call t g k reply in_one is a says_so u y true same e =
    let x = k.txn in
    let c = noted_call call reply in
    let was = h.each t x k.known in
    let own : going_of new t ≡ Some a.then = at_own front new front.begins t (Some a.then) (grants_then front contents t g call) a.changes in
    let now : List Grant = taken_there front shown contents m h t g call in
    let protected : AreProtected now t (state_of h.entries) x.calls = AreProtected-taken h.grants t (locks_at (folded (state_of h.entries) g.ops) call) t (state_of h.entries) x.calls (was.protected k.on) in
    let last : IsCallProtected now t (folded (state_of h.entries) (ops_of x)) c = subst (λ ops. IsCallProtected now t (folded (state_of h.entries) ops) c) (sym k.ops) (IsCallProtected-live h.grants t (folded (state_of h.entries) g.ops) call reply says_so) in
    let P : TxnId → Type 0 = λ v. IsKept h.course new now h.entries h.acknowledged v y in
    let Q : Txn → Type 0 = λ z. IsKept h.course new now h.entries h.acknowledged t z in
    subst P (sym (is_txn-true u t same)) (subst Q (same_Some (with_call x c) y e) (record {
      home = was.home;
      within = was.within;
      begun = λ same. let b = was.begun same in let n = a.changes.begins_now in omega (arith, b, n);
      on = k.on ∙ ap is_some (sym own);
      here = was.here;
      asked = was.asked;
      not_held = was.not_held;
      not_acknowledged = was.not_acknowledged;
      logged = λ f e. ops_more x c ∙ (ap (λ ops. ops ++ cons_option reply.op []) k.ops ∙ (sym a.ops ∙ ap (λ (z : Going). z.ops) (same_Some a.then f (sym own ∙ e))));
      protected = λ _. AreProtected-push now t (state_of h.entries) x.calls c protected last;
    }))
each_asked front new shown contents m h call t g k reply in_one is a says_so u y false other e =
    let locks = locks_at (folded (state_of h.entries) g.ops) call in
    kept_other front new front.begins t (Some a.then) (grants_then front contents t g call) h.grants (taken_there front shown contents m h t g call) h.entries h.acknowledged h.course a.changes (omega arith) u y other (h.each u y e)
    (λ p. AreProtected-taken h.grants t locks u (state_of h.entries) y.calls p)

asked_runs : (front new : Fronted) (shown : ℕ) (contents : State) (m : Machine) (h : Runs front shown contents m) (call : Call) (t : TxnId) (g : Going) (k : IsKnown front shown contents m h t g) (reply : Reply) → IsInCollection call → going_of front t ≡ Some g → (a : IsAsked front new contents t g call reply.op) → live_reply h.grants (folded (state_of h.entries) g.ops) t call ≡ Some reply →
    Runs new shown contents (running h.entries h.acknowledged ((t, with_call k.txn (noted_call call reply)) ∷ h.txns) front.begins (taken_there front shown contents m h t g call) h.course)
asked_runs front new shown contents m h call t g k reply in_one is a says_so = record {
  entries = h.entries;
  acknowledged = h.acknowledged;
  txns = (t, with_call k.txn (noted_call call reply)) ∷ h.txns;
  grants = taken_there front shown contents m h t g call;
  course = h.course;
  is = ap (λ n. running h.entries h.acknowledged ((t, with_call k.txn (noted_call call reply)) ∷ h.txns) n (taken_there front shown contents m h t g call) h.course) (sym a.changes.begins_now);
  epoch = a.changes.epoch ∙ h.epoch;
  alike = λ name. Alike-taken h.grants front.grants h.alike t (locks_at (folded (state_of h.entries) g.ops) call) name ∙ (same_locks name ∙ a.changes.grants_now name);
  exclusive = AreExclusive-taken h.grants t (locks_at (folded (state_of h.entries) g.ops) call) h.exclusive;
  all_shown = h.all_shown;
  sees = h.sees;
  each = λ u y e. each_asked front new shown contents m h call t g k reply in_one is a says_so u y (is_txn u t) refl e;
  live_known = λ u f e. known_there u f e (is_txn u t) refl;
  held = h.held;
  held_within = h.held_within;
  held_begun = λ u e same. let n = h.held_begun u e same in let b = a.changes.begins_now in omega (arith, n, b);
}
  where
    same_locks : (name : _) → key_locks.holders name (taken front.grants t (locks_at (folded (state_of h.entries) g.ops) call)) ≡ key_locks.holders name (grants_then front contents t g call)
    same_locks name = ap (λ s. key_locks.holders name (taken front.grants t (locks_at (folded s g.ops) call))) (sym h.sees)

    known_there : (u : TxnId) (f : Going) → going_of new u ≡ Some f → (b : Bool) → is_txn u t ≡ b → (y : Txn) × (cond b (Some (with_call k.txn (noted_call call reply))) (lookup (is_txn u) h.txns) ≡ Some y)
    known_there u f e true same = (with_call k.txn (noted_call call reply), refl)
    known_there u f e false other = h.live_known u f (sym (at_other front new front.begins t (Some a.then) (grants_then front contents t g call) a.changes u other) ∙ e)

pub asked_serves : (front new : Fronted) (shown : ℕ) (contents : State) (m : Machine) (call : Call) (t : TxnId) (g : Going) (reply : Reply) → IsInCollection call → txn_named call ≡ Some t → (h : Runs front shown contents m) → going_of front t ≡ Some g → told front contents call ≡ Some reply → IsAsked front new contents t g call reply.op →
    IsWhole m (Client 0 call) (line_of_answer reply.answer ∷ []) × RunsWith h.entries h.course new shown contents (moved m (Client 0 call) (line_of_answer reply.answer ∷ []))
unfolding asked_runs
asked_serves front new shown contents m call t g reply in_one named h is says_so a =
    let n : Machine = machine_of h in
    let k = known_of front shown contents m h t g is in
    let there : going_at n 0 t ≡ Some k.txn = cond-true _ (lookup (is_txn t) h.txns) None k.live_there ∙ k.known in
    let now : Machine = running h.entries h.acknowledged h.txns front.begins (taken_there front shown contents m h t g call) h.course in
    let asked : asking n 0 call ≡ now = collection_asking n call t k.txn in_one named there ∙ ap (λ s. running h.entries h.acknowledged h.txns front.begins (taken h.grants t (locks_at s call)) h.course) k.sees in
    let here : live_reply h.grants (folded (state_of h.entries) g.ops) t call ≡ Some reply = live_reply_alike h.grants front.grants (folded (state_of h.entries) g.ops) (folded contents g.ops) t call h.alike (ap (λ s. folded s g.ops) (sym h.sees)) ∙ (sym (going_told front contents call t g named is) ∙ says_so) in
    let then = asked_runs front new shown contents m h call t g k reply in_one is a here in
    let R : Option Txn → Type 0 = λ o. RunsWith h.entries h.course new shown contents (option_map_or (λ y. put_txn now t (with_call y (noted_call call reply))) o now) in
    let S : Option TxnId → Type 0 = λ o. RunsWith h.entries h.course new shown contents (option_map_or (λ v. noted now v (noted_call call reply)) o (begun_by now 0 reply.answer)) in
    let all = subst S (sym named) (subst R (sym k.known) (then, (refl, refl))) in
    let P : Machine → Type 0 = λ at. IsWhole at (Client 0 call) (line_of_answer reply.answer ∷ []) × RunsWith h.entries h.course new shown contents (moved at (Client 0 call) (line_of_answer reply.answer ∷ [])) in
    subst P (sym h.is) (answer_serves n now 0 call reply.answer reply.op (RunsWith h.entries h.course new shown contents) (running_unrefused front shown contents m h call) asked (answer_told front shown contents m h call ∙ says_so) (live_reply_is front.grants (folded contents g.ops) t call reply (sym (going_told front contents call t g named is) ∙ says_so)) (holds_behind _ _ _ _ all.0) all)
