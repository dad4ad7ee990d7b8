-- Quiet calls change no replay, no operation and nothing that locks protect; and which changes note nothing else.
use Rattle.std.proofs.Common.{◌≡◌, ◌∙◌, ℕ, Bool, true, false, eqb, cond, List, [], ◌∷◌, ◌++◌, All, Option, Some, option_map, MatchBool, append_assoc, append-nil, refl, sym, ap, subst}
use Rattle.std.specs.List.{cons_option}
use Rattle.std.specs.Map.{lookup}
use Rattle.std.proofs.lemmas.Bool.{cond_both, cond-false, eqb-true, false_from_ne_true}
use Rattle.std.proofs.lemmas.Option.{same_Some}
use Rattle.std.proofs.lemmas.List.Elements.{All-nil, All-cons, All-head, All-tail, All-append, filter_map-append}
use Rattle.rc_base.specs.declared.ids.TxnId.{TxnId}
use Rattle.rc_base.specs.Ids.{is_txn}
use Rattle.rc_base.proofs.SameIds.{is_txn-true}
use Rattle.coll_model.specs.declared.op.Op.{Op}
use Rattle.coll_model.specs.Effect.{State, folded}
use Rattle.key_locks.specs.Grants.{Grant}
use Rattle.events.specs.Calls.{CallRecord, ops_in}
use Rattle.events.specs.Answers.{reply_at}
use Rattle.events.specs.Replay.{is_replayed, Replays}
use Rattle.lock_laws.specs.Protected.{AreProtected}
use Rattle.lock_laws.proofs.ProtectedCalls.{unlogged_protected}
use Rattle.order_machine.specs.Machine.{Txn, ops_of, ended_at}
use Rattle.order_machine.proofs.Machines.{ended, lookup_ended, known_before}
use Rattle.history_laws.specs.QuietCalls.{QuietCall, QuietSuffix, SettledStay, HomeStays}

-- ---- calls

passed_over : (state : State) (call : CallRecord) → is_replayed call ≡ false → MatchBool (is_replayed call) (reply_at state call.call ≡ Some (record { answer = call.answer; op = call.op })) (Unit {0})
passed_over state call passed = rw passed tt

Replays-quiet : (state : State) (quiet : List CallRecord) → All QuietCall quiet → Replays state quiet
Replays-quiet state [] each = tt
Replays-quiet state (call ∷ quiet) each =
    (passed_over state call (All-head QuietCall call quiet each).passed, Replays-quiet (folded state (cons_option call.op [])) quiet (All-tail QuietCall call quiet each))

Replays-append : (state : State) (calls quiet : List CallRecord) → All QuietCall quiet → Replays state calls → Replays state (calls ++ quiet)
Replays-append state [] quiet each all = Replays-quiet state quiet each
Replays-append state (call ∷ calls) quiet each all = (all.0, Replays-append (folded state (cons_option call.op [])) calls quiet each all.1)

AreProtected-quiet : (gs : List Grant) (t : TxnId) (state : State) (quiet : List CallRecord) → All QuietCall quiet → AreProtected gs t state quiet
AreProtected-quiet gs t state [] each = tt
AreProtected-quiet gs t state (call ∷ quiet) each =
    let here = All-head QuietCall call quiet each in
    (unlogged_protected gs t state call here.passed here.unlogged, AreProtected-quiet gs t (folded state (cons_option call.op [])) quiet (All-tail QuietCall call quiet each))

AreProtected-append : (gs : List Grant) (t : TxnId) (state : State) (calls quiet : List CallRecord) → All QuietCall quiet → AreProtected gs t state calls → AreProtected gs t state (calls ++ quiet)
AreProtected-append gs t state [] quiet each all = AreProtected-quiet gs t state quiet each
AreProtected-append gs t state (call ∷ calls) quiet each all = (all.0, AreProtected-append gs t (folded state (cons_option call.op [])) calls quiet each all.1)

quiet_ops : (quiet : List CallRecord) → All QuietCall quiet → ops_in quiet ≡ []
quiet_ops [] each = refl
quiet_ops (call ∷ quiet) each =
    ap (λ (op : Option Op). cons_option op (ops_in quiet)) (All-head QuietCall call quiet each).unlogged ∙ quiet_ops quiet (All-tail QuietCall call quiet each)

-- ---- a transaction with quiet calls noted since

pub QuietSuffix-none : (x : Txn) → QuietSuffix x x
QuietSuffix-none x = record {
  quiet = [];
  each = All-nil QuietCall;
  is = ap (λ (calls : List CallRecord). record x { calls = calls }) (sym (append-nil x.calls));
}

pub QuietSuffix-one : (x : Txn) (call : CallRecord) → QuietCall call → QuietSuffix x (record x { calls = x.calls ++ call ∷ [] })
QuietSuffix-one x call is = record { quiet = call ∷ []; each = All-cons QuietCall call [] is (All-nil QuietCall); is = refl }

pub QuietSuffix-trans : (x y z : Txn) → QuietSuffix x y → QuietSuffix y z → QuietSuffix x z
QuietSuffix-trans x y z first second = record {
  quiet = first.quiet ++ second.quiet;
  each = All-append QuietCall first.quiet second.quiet first.each second.each;
  is =
      second.is
      ∙ (ap (λ (w : Txn). record w { calls = w.calls ++ second.quiet }) first.is
      ∙ ap (λ (calls : List CallRecord). record x { calls = calls }) (append_assoc x.calls first.quiet second.quiet));
}

pub quiet_same_ops : (x y : Txn) → QuietSuffix x y → ops_of y ≡ ops_of x
quiet_same_ops x y s =
    ap (λ (w : Txn). ops_of w) s.is
    ∙ (filter_map-append (λ (c : CallRecord). c.op) x.calls s.quiet
    ∙ (ap (λ (ops : List Op). ops_of x ++ ops) (quiet_ops s.quiet s.each) ∙ append-nil (ops_of x)))

pub quiet_replays : (state : State) (x y : Txn) → QuietSuffix x y → Replays state x.calls → Replays state y.calls
quiet_replays state x y s all = subst (λ (w : Txn). Replays state w.calls) (sym s.is) (Replays-append state x.calls s.quiet s.each all)

pub quiet_protected : (gs : List Grant) (t : TxnId) (state : State) (x y : Txn) → QuietSuffix x y → AreProtected gs t state x.calls → AreProtected gs t state y.calls
quiet_protected gs t state x y s all = subst (λ (w : Txn). AreProtected gs t state w.calls) (sym s.is) (AreProtected-append gs t state x.calls s.quiet s.each all)

pub quiet_asked : (x y : Txn) → QuietSuffix x y → y.asked ≡ x.asked
quiet_asked x y s = ap (λ (w : Txn). w.asked) s.is

pub quiet_live : (x y : Txn) → QuietSuffix x y → y.live ≡ x.live
quiet_live x y s = ap (λ (w : Txn). w.live) s.is

pub quiet_home : (x y : Txn) → QuietSuffix x y → y.home ≡ x.home
quiet_home x y s = ap (λ (w : Txn). w.home) s.is

-- ---- what is looked up after one was put

at_same : (txns : List (TxnId × Txn)) (u t : TxnId) (x : Txn) → is_txn u t ≡ true → lookup (is_txn u) txns ≡ Some x → lookup (is_txn t) txns ≡ Some x
at_same txns u t x same known = subst (λ (v : TxnId). lookup (is_txn v) txns ≡ Some x) (is_txn-true u t same) known

-- ---- those that have ended

-- one is put whose old state, where it had ended on request, has only got quiet calls
pub SettledStay-put : (txns : List (TxnId × Txn)) (t : TxnId) (new : Txn) → ((x : Txn) → lookup (is_txn t) txns ≡ Some x → x.asked ≡ true → x.live ≡ false → QuietSuffix x new) → SettledStay txns ((t, new) ∷ txns)
SettledStay-put txns t new here u x known asked ended = by (is_txn u t) refl
  where
    by : (b : Bool) → is_txn u t ≡ b → (y : Txn) × (cond b (Some new) (lookup (is_txn u) txns) ≡ Some y) × QuietSuffix x y
    by true same = (new, refl, here x (at_same txns u t x same known) asked ended)
    by false other = (x, known, QuietSuffix-none x)

pub SettledStay-itself : (txns : List (TxnId × Txn)) → SettledStay txns txns
SettledStay-itself txns t x known asked ended = (x, known, QuietSuffix-none x)

pub SettledStay-trans : (a b c : List (TxnId × Txn)) → SettledStay a b → SettledStay b c → SettledStay a c
SettledStay-trans a b c first second t x known asked ended =
    let one = first t x known asked ended in
    let two = second t one.0 one.1 (quiet_asked x one.0 one.2 ∙ asked) (quiet_live x one.0 one.2 ∙ ended) in
    (two.0, two.1, QuietSuffix-trans x one.0 two.0 one.2 two.2)

-- one that isn't live is as it was once nothing goes on at r
over_stays : (r : ℕ) (x : Txn) → x.live ≡ false → QuietSuffix x (ended r x)
over_stays r x over = cond_both (eqb x.home r) (record x { live = false }) x (QuietSuffix x) (λ _. subst (λ (b : Bool). QuietSuffix x (record x { live = b })) over (QuietSuffix-none x)) (λ _. QuietSuffix-none x)

pub SettledStay-ended : (r : ℕ) (txns : List (TxnId × Txn)) → SettledStay txns (ended_at r txns)
SettledStay-ended r txns t x known asked over = (ended r x, lookup_ended r txns t ∙ ap (option_map (ended r)) known, over_stays r x over)

-- ---- those of one home

pub HomeStays-itself : (q : ℕ) (txns : List (TxnId × Txn)) → HomeStays q txns txns
HomeStays-itself q txns = record {
  kept = λ t x known home. (x, known, QuietSuffix-none x);
  known = λ t y known home. (y, known, QuietSuffix-none y);
}

pub HomeStays-trans : (q : ℕ) (a b c : List (TxnId × Txn)) → HomeStays q a b → HomeStays q b c → HomeStays q a c
HomeStays-trans q a b c first second = record {
  kept = λ t x known home.
      let one = first.kept t x known home in
      let two = second.kept t one.0 one.1 (quiet_home x one.0 one.2 ∙ home) in
      (two.0, two.1, QuietSuffix-trans x one.0 two.0 one.2 two.2);
  known = λ t z known home.
      let two = second.known t z known home in
      let one = first.known t two.0 two.1 (sym (quiet_home two.0 z two.2) ∙ home) in
      (one.0, one.1, QuietSuffix-trans one.0 two.0 z one.2 two.2);
}

-- a quiet call is noted of one
pub HomeStays-quiet : (q : ℕ) (txns : List (TxnId × Txn)) (t : TxnId) (x : Txn) (call : CallRecord) → lookup (is_txn t) txns ≡ Some x → QuietCall call → HomeStays q txns ((t, record x { calls = x.calls ++ call ∷ [] }) ∷ txns)
HomeStays-quiet q txns t x call there is = record {
  kept = λ u old known home. kept u old known (is_txn u t) refl;
  known = λ u y known home. found u y (is_txn u t) refl known;
}
  where
    new : Txn
    new = record x { calls = x.calls ++ call ∷ [] }

    kept : (u : TxnId) (old : Txn) → lookup (is_txn u) txns ≡ Some old → (b : Bool) → is_txn u t ≡ b → (y : Txn) × (cond b (Some new) (lookup (is_txn u) txns) ≡ Some y) × QuietSuffix old y
    kept u old known true same = (new, refl, subst (λ (w : Txn). QuietSuffix w new) (same_Some x old (sym there ∙ at_same txns u t old same known)) (QuietSuffix-one x call is))
    kept u old known false other = (old, known, QuietSuffix-none old)

    found : (u : TxnId) (y : Txn) (b : Bool) → is_txn u t ≡ b → cond b (Some new) (lookup (is_txn u) txns) ≡ Some y → (old : Txn) × (lookup (is_txn u) txns ≡ Some old) × QuietSuffix old y
    found u y true same e =
        (x, subst (λ (v : TxnId). lookup (is_txn v) txns ≡ Some x) (sym (is_txn-true u t same)) there, subst (QuietSuffix x) (same_Some new y e) (QuietSuffix-one x call is))
    found u y false other e = (y, e, QuietSuffix-none y)

-- one of another home is put, in place of one of that home, if any
pub HomeStays-elsewhere : (q r : ℕ) (txns : List (TxnId × Txn)) (t : TxnId) (new : Txn) → (q ≡ r → ⊥) → ((x : Txn) → lookup (is_txn t) txns ≡ Some x → x.home ≡ r) → new.home ≡ r → HomeStays q txns ((t, new) ∷ txns)
HomeStays-elsewhere q r txns t new apart old_home new_home = record {
  kept = λ u x known home. kept u x known home (is_txn u t) refl;
  known = λ u y known home. found u y home (is_txn u t) refl known;
}
  where
    kept : (u : TxnId) (x : Txn) → lookup (is_txn u) txns ≡ Some x → x.home ≡ q → (b : Bool) → is_txn u t ≡ b → (y : Txn) × (cond b (Some new) (lookup (is_txn u) txns) ≡ Some y) × QuietSuffix x y
    kept u x known home true same = absurd (apart (sym home ∙ old_home x (at_same txns u t x same known)))
    kept u x known home false other = (x, known, QuietSuffix-none x)

    found : (u : TxnId) (y : Txn) → y.home ≡ q → (b : Bool) → is_txn u t ≡ b → cond b (Some new) (lookup (is_txn u) txns) ≡ Some y → (x : Txn) × (lookup (is_txn u) txns ≡ Some x) × QuietSuffix x y
    found u y home true same e = absurd (apart (sym home ∙ (ap (λ (w : Txn). w.home) (sym (same_Some new y e)) ∙ new_home)))
    found u y home false other e = (y, e, QuietSuffix-none y)

-- one of another home is as it was once nothing goes on at r
elsewhere_stays : (q r : ℕ) (x : Txn) → (q ≡ r → ⊥) → x.home ≡ q → ended r x ≡ x
elsewhere_stays q r x apart home =
    cond-false (eqb x.home r) (record x { live = false }) x (false_from_ne_true (eqb x.home r) (λ e. apart (sym home ∙ eqb-true x.home r e)))

pub same_home : (r : ℕ) (x : Txn) → (ended r x).home ≡ x.home
same_home r x = cond_both (eqb x.home r) (record x { live = false }) x (λ (w : Txn). w.home ≡ x.home) (λ _. refl) (λ _. refl)

pub HomeStays-ended : (q r : ℕ) (txns : List (TxnId × Txn)) → (q ≡ r → ⊥) → HomeStays q txns (ended_at r txns)
HomeStays-ended q r txns apart = record {
  kept = λ t x known home.
      (ended r x, lookup_ended r txns t ∙ ap (option_map (ended r)) known, subst (QuietSuffix x) (sym (elsewhere_stays q r x apart home)) (QuietSuffix-none x));
  known = λ t y known home.
      let was = known_before r txns t y known in
      let x : Txn = was.0 in
      let at : x.home ≡ q = sym (same_home r x) ∙ (ap (λ (w : Txn). w.home) was.2 ∙ home) in
      (x, was.1, subst (QuietSuffix x) (sym (elsewhere_stays q r x apart at) ∙ was.2) (QuietSuffix-none x));
}
