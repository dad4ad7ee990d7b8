-- The end of a role: nothing goes on behind it, and what may follow the order may still.
use Rattle.std.proofs.Common.{◌≡◌, ◌∙◌, sym, ap, subst, ℕ, List, [], ◌∷◌, ◌++◌, Bool, true, false, cond, Option, Some, None, option_map, refl, append-nil}
use Rattle.std.specs.List.{cons_option}
use Rattle.std.specs.Map.{lookup}
use Rattle.std.specs.Prelude.{◌==◌, MatchBool}
use Rattle.std.proofs.lemmas.Bool.{cond-true}
use Rattle.std.proofs.lemmas.List.Elements.{filter_map-append}
use Rattle.std.proofs.lemmas.Option.{same_Some}
use Rattle.rc_base.specs.declared.ids.TxnId.{TxnId}
use Rattle.rc_base.specs.Ids.{is_txn}
use Rattle.rc_base.proofs.SameIds.{is_txn-true}
use Rattle.coll_model.specs.declared.op.Op.{Op}
use Rattle.coll_model.specs.Effect.{State, folded}
use Rattle.txn_table.specs.declared.committed.Committed.{Committed}
use Rattle.order_machine.specs.Order.{Entry}
use Rattle.order_machine.specs.Machine.{Machine, Txn, ended_at, ops_of}
use Rattle.events.specs.Calls.{CallRecord}
use Rattle.events.specs.Replay.{Replays, is_replayed}
use Rattle.events.specs.Answers.{reply_at}
use Rattle.order_machine.proofs.Machines.{known_before, lookup_ended}
use Rattle.txn_front.specs.Front.{Fronted}
use Rattle.world.specs.Course.{IsPast, ArePast, MayFollow}
use Rattle.world.specs.Running.{Runs, state_of}
use Rattle.world.specs.Standing.{Course}
use Rattle.world.proofs.Calls.OneTxn.{with_call}

-- ---- the end of a role

pub over_at_zero : (x y : Txn) → x.home ≡ 0 → cond (x.home == 0) (record x { live = false }) x ≡ y → (y.live ≡ false) × (y.home ≡ 0)
over_at_zero x y home is =
    let off : record x { live = false } ≡ y = sym (cond-true (x.home == 0) (record x { live = false }) x (ap (λ h. h == 0) home)) ∙ is in
    (ap (λ (z : Txn). z.live) (sym off), ap (λ (z : Txn). z.home) (sym off) ∙ home)

pub past_of_runs : (front : Fronted) (shown : ℕ) (contents : State) (m : Machine) (h : Runs front shown contents m) → ArePast h.course h.entries h.acknowledged (ended_at 0 h.txns)
past_of_runs front shown contents m h = record {
  each = λ t y known.
      let was = known_before 0 h.txns t y known in
      let k = h.each t was.0 was.1 in
      let over = over_at_zero was.0 y k.home was.2 in
      record { home = over.1; within = k.within; over = over.0 };
  held = h.held;
  held_within = h.held_within;
}

pub past_ended : (course : Course) (entries : List Entry) (acknowledged : List TxnId) (txns : List (TxnId × Txn)) → ArePast course entries acknowledged txns → ArePast course entries acknowledged (ended_at 0 txns)
past_ended course entries acknowledged txns p = record {
  each = λ t y known.
      let was = known_before 0 txns t y known in
      let k = p.each t was.0 was.1 in
      let over = over_at_zero was.0 y k.home was.2 in
      record { home = over.1; within = k.within; over = over.0 };
  held = p.held;
  held_within = p.held_within;
}

-- ---- what may follow

abbrev MayFind : List (TxnId × Txn) → List (TxnId × Txn) → Type 0
MayFind old new = (t : TxnId) (x : Txn) → lookup (is_txn t) old ≡ Some x → (y : Txn) × (lookup (is_txn t) new ≡ Some y) × (y.asked ≡ x.asked) × (ops_of y ≡ ops_of x) × ((state : State) → Replays state x.calls → Replays state y.calls)

follow_found : (entries : List Entry) (old new : List (TxnId × Txn)) (more : List Committed) → MayFind old new → MayFollow entries old more → MayFollow entries new more
follow_found entries old new [] find f = tt
follow_found entries old new (c ∷ []) find f =
    let g = find c.txn f.txn f.known in
    record { txn = g.0; known = g.1; new = f.new; asked = g.2 ∙ f.asked; whole = f.whole ∙ sym g.3; replays = g.4 (state_of entries) f.replays }
follow_found entries old new (c ∷ d ∷ more) find f = absurd f

pub follow_ended : (entries : List Entry) (txns : List (TxnId × Txn)) (more : List Committed) → MayFollow entries txns more → MayFollow entries (ended_at 0 txns) more
follow_ended entries txns more f = follow_found entries txns (ended_at 0 txns) more (λ t x known. (over x, lookup_ended 0 txns t ∙ ap (option_map over) known, asked x, ops x, λ state r. replays x state r)) f
  where
    over : Txn → Txn
    over x = cond (x.home == 0) (record x { live = false }) x

    either : (P : Txn → Type 0) (b : Bool) (x y : Txn) → P x → P y → P (cond b x y)
    either P true x y p q = p
    either P false x y p q = q

    asked : (x : Txn) → (over x).asked ≡ x.asked
    asked x = either (λ y. y.asked ≡ x.asked) (x.home == 0) (record x { live = false }) x refl refl

    ops : (x : Txn) → ops_of (over x) ≡ ops_of x
    ops x = either (λ y. ops_of y ≡ ops_of x) (x.home == 0) (record x { live = false }) x refl refl

    replays : (x : Txn) (state : State) → Replays state x.calls → Replays state (over x).calls
    replays x state r = either (λ y. Replays state y.calls) (x.home == 0) (record x { live = false }) x r r

-- a call that was refused has no part in a replay
pub Replays-refused : (state : State) (calls : List CallRecord) (c : CallRecord) → is_replayed c ≡ false → Replays state calls → Replays state (calls ++ c ∷ [])
Replays-refused state [] c off r = (subst (λ b. MatchBool b (reply_at state c.call ≡ Some (record { answer = c.answer; op = c.op })) (Unit {0})) (sym off) tt, tt)
Replays-refused state (d ∷ calls) c off r = (r.0, Replays-refused (folded state (cons_option d.op [])) calls c off r.1)

pub follow_noted : (entries : List Entry) (txns : List (TxnId × Txn)) (t : TxnId) (x : Txn) (c : CallRecord) (more : List Committed) → lookup (is_txn t) txns ≡ Some x → is_replayed c ≡ false → c.op ≡ None → MayFollow entries txns more → MayFollow entries ((t, with_call x c) ∷ txns) more
follow_noted entries txns t x c more known off no_op f = follow_found entries txns ((t, with_call x c) ∷ txns) more (λ u y e. by u y e (is_txn u t) refl) f
  where
    none : (o : Option Op) → o ≡ None → cons_option o [] ≡ []
    none o e = ap (λ p. cons_option p []) e

    ops : ops_of (with_call x c) ≡ ops_of x
    ops = filter_map-append (λ d. d.op) x.calls (c ∷ []) ∙ (ap (λ p. ops_of x ++ p) (none c.op no_op) ∙ append-nil (ops_of x))

    by : (u : TxnId) (y : Txn) → lookup (is_txn u) txns ≡ Some y → (b : Bool) → is_txn u t ≡ b → (z : Txn) × (cond b (Some (with_call x c)) (lookup (is_txn u) txns) ≡ Some z) × (z.asked ≡ y.asked) × (ops_of z ≡ ops_of y) × ((state : State) → Replays state y.calls → Replays state z.calls)
    by u y e true same =
        let x_is : x ≡ y = same_Some x y (sym known ∙ (ap (λ v. lookup (is_txn v) txns) (sym (is_txn-true u t same)) ∙ e)) in
        (with_call x c, refl, ap (λ (v : Txn). v.asked) x_is, ops ∙ ap ops_of x_is, λ state r. Replays-refused state x.calls c off (subst (λ (v : Txn). Replays state v.calls) (sym x_is) r))
    by u y e false other = (y, e, refl, refl, λ state r. r)

pub past_noted : (course : Course) (entries : List Entry) (acknowledged : List TxnId) (txns : List (TxnId × Txn)) (t : TxnId) (x : Txn) (c : CallRecord) → lookup (is_txn t) txns ≡ Some x → ArePast course entries acknowledged txns → ArePast course entries acknowledged ((t, with_call x c) ∷ txns)
past_noted course entries acknowledged txns t x c known p = record { each = λ u y e. by u y (is_txn u t) refl e; held = p.held; held_within = p.held_within }
  where
    by : (u : TxnId) (y : Txn) (b : Bool) → is_txn u t ≡ b → cond b (Some (with_call x c)) (lookup (is_txn u) txns) ≡ Some y → IsPast course.latest u y
    by u y true same e =
        let k = p.each t x known in
        let z : with_call x c ≡ y = same_Some (with_call x c) y e in
        subst (λ (v : TxnId). IsPast course.latest v y) (sym (is_txn-true u t same)) (subst (λ (w : Txn). IsPast course.latest t w) z (record { home = k.home; within = k.within; over = k.over }))
    by u y false other e = p.each u y e
