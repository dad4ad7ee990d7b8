-- A front that has changed at one transaction.
use Rattle.std.proofs.Common.{◌≡◌, ◌∙◌, sym, ap, ℕ, ◌≤◌, List, [], ◌∷◌, ◌++◌, false, cond, Option, is_some, arith}
use Rattle.rc_base.specs.declared.ids.TxnId.{TxnId}
use Rattle.rc_base.specs.Ids.{is_txn}
use Rattle.rc_base.proofs.SameIds.{is_txn_same}
use Rattle.key_locks.specs.Grants.{Grant, Alike}
use Rattle.order_machine.specs.Order.{Entry}
use Rattle.order_machine.specs.Machine.{Txn, Machine}
use Rattle.events.specs.Calls.{CallRecord}
use Rattle.lock_laws.specs.Protected.{AreProtected}
use Rattle.coll_model.specs.Effect.{State}
use Rattle.txn_front.specs.Front.{Fronted, Going, going_of, AreAlike}
use Rattle.world.specs.Running.{IsKept, state_of, running, Runs, RunsWith}
use Rattle.world.specs.Standing.{Course}

-- It has begun so many, what goes on under this name is this, and it has these grants, whatever the order between grants of
-- different names is. All else is as it was.
pub record ChangesAt (old new : Fronted) (begins : ℕ) (t : TxnId) (then : Option Going) (grants : List Grant) : Type 0 where
  pub epoch : new.epoch ≡ old.epoch
  pub begins_now : new.begins ≡ begins
  pub grants_now : Alike grants new.grants
  pub lookup : (u : TxnId) → going_of new u ≡ cond (is_txn u t) then (going_of old u)

pub at_own : (old new : Fronted) (begins : ℕ) (t : TxnId) (then : Option Going) (grants : List Grant) → ChangesAt old new begins t then grants → going_of new t ≡ then
at_own old new begins t then grants c = c.lookup t ∙ ap (λ b. cond b then (going_of old t)) (is_txn_same t)

pub at_other : (old new : Fronted) (begins : ℕ) (t : TxnId) (then : Option Going) (grants : List Grant) → ChangesAt old new begins t then grants → (u : TxnId) → is_txn u t ≡ false → going_of new u ≡ going_of old u
at_other old new begins t then grants c u other = c.lookup u ∙ ap (λ b. cond b then (going_of old u)) other

-- another transaction is kept as it was, where it is protected still
pub kept_other : (old new : Fronted) (begins : ℕ) (t : TxnId) (then : Option Going) (given grants now : List Grant) (entries : List Entry) (acknowledged : List TxnId) (course : Course) → ChangesAt old new begins t then given → old.begins ≤ begins
    → (u : TxnId) (y : Txn) → is_txn u t ≡ false → IsKept course old grants entries acknowledged u y → (AreProtected grants u (state_of entries) y.calls → AreProtected now u (state_of entries) y.calls) → IsKept course new now entries acknowledged u y
kept_other old new begins t then given grants now entries acknowledged course c more u y other k protected =
    let same = at_other old new begins t then given c u other in
    record {
      home = k.home;
      within = k.within;
      begun = λ h. let b = k.begun h in let n = c.begins_now in omega (arith, b, n, more);
      on = k.on ∙ ap is_some (sym same);
      here = k.here;
      asked = k.asked;
      not_held = k.not_held;
      not_acknowledged = k.not_acknowledged;
      logged = λ g e. k.logged g (sym same ∙ e);
      protected = λ on. protected (k.protected on);
    }

-- the call with its answer
abbrev pub with_call : Txn → CallRecord → Txn
with_call x c = record x { calls = x.calls ++ c ∷ [] }

-- the machine runs as well over a front that is alike
pub runs_alike : (entries : List Entry) (course : Course) (front new : Fronted) (shown : ℕ) (contents : State) (m : Machine) → AreAlike new front → RunsWith entries course front shown contents m → RunsWith entries course new shown contents m
runs_alike entries course front new shown contents m a runs = (
  record {
    entries = h.entries;
    acknowledged = h.acknowledged;
    txns = h.txns;
    grants = h.grants;
    course = h.course;
    is = h.is ∙ ap (λ n. running h.entries h.acknowledged h.txns n h.grants h.course) (sym begins);
    epoch = ap (λ (f : Fronted). f.epoch) a.same ∙ h.epoch;
    alike = λ name. h.alike name ∙ sym (a.grants name);
    exclusive = h.exclusive;
    all_shown = h.all_shown;
    sees = h.sees;
    each = λ u x e. let k = h.each u x e in record {
      home = k.home;
      within = k.within;
      begun = λ same. let b = k.begun same in omega (arith, b, begins);
      on = k.on ∙ ap is_some (sym (goes u));
      here = k.here;
      asked = k.asked;
      not_held = k.not_held;
      not_acknowledged = k.not_acknowledged;
      logged = λ g is. k.logged g (sym (goes u) ∙ is);
      protected = k.protected;
    };
    live_known = λ u g is. h.live_known u g (sym (goes u) ∙ is);
    held = h.held;
    held_within = h.held_within;
    held_begun = λ u e same. let n = h.held_begun u e same in omega (arith, n, begins);
  },
  runs.1,
)
  where
    h : Runs front shown contents m
    h = runs.0

    begins : new.begins ≡ front.begins
    begins = ap (λ (f : Fronted). f.begins) a.same

    goes : (u : TxnId) → going_of new u ≡ going_of front u
    goes u = ap (λ (f : Fronted). going_of f u) a.same
