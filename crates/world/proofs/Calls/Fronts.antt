-- What calls change of what goes on at a primary.
use Rattle.std.proofs.Common.{◌≡◌, ◌∙◌, sym, ap, ℕ, ◌+◌, Bool, true, false, cond, List, [], ◌++◌, Option, Some, None, option_and_then, append-nil, refl, zero, suc}
use Rattle.std.specs.List.{cons_option}
use Rattle.rc_base.specs.declared.ids.Lsn.{Lsn}
use Rattle.rc_base.specs.declared.ids.TxnId.{TxnId}
use Rattle.coll_model.specs.declared.op.Op.{Op}
use Rattle.coll_model.specs.Effect.{State, folded}
use Rattle.key_locks.specs.Grants.{Grant, holders, released}
use Rattle.std.specs.Map.{remove_entry}
use Rattle.std.specs.BTreeMap.{is_at}
use Rattle.std.specs.Ordering.{nat_cmp}
use Rattle.std.specs.Prelude.{option_map}
use Rattle.std.specs.Option.{option_map_or}
use Rattle.rc_base.specs.Ids.{is_txn}
use Rattle.rc_base.proofs.SameIds.{is_txn-true, is_txn_equivalence}
use Rattle.txn_front.proofs.Fronts.{going_of-begun, going_of-begun_other, going_of-logged, going_of-logged_other, going_of-ended, going_of-ended_other, going_of-called, going_of-called_other, told_live, called_live}
use Rattle.events.specs.declared.call.Call.{Call}
use Rattle.events.specs.Calls.{txn_named}
use Rattle.events.specs.Answers.{live_reply}
use Rattle.txn_front.specs.Index as index
use Rattle.txn_front.specs.Front.{Fronted, Going, txn_at, going_of, AreAlike, IsOver, told, with_going, begun, called, operated, ended, logged}
use Rattle.replica_model.specs.Steps.{noted}
use Rattle.world.proofs.Calls.Abort.{Ends}
use Rattle.world.proofs.Calls.Collection.{grants_then}
use Rattle.world.proofs.Calls.Begin.{Begins, new_going}
use Rattle.world.proofs.Calls.OneTxn.{ChangesAt}

-- fronts that are alike have changed alike
pub changes_alike : (old new other : Fronted) (begins : ℕ) (t : TxnId) (then : Option Going) (grants : List Grant) → ChangesAt old new begins t then grants → AreAlike other new → ChangesAt old other begins t then grants
changes_alike old new other begins t then grants c a = record {
  epoch = ap (λ (f : Fronted). f.epoch) a.same ∙ c.epoch;
  begins_now = ap (λ (f : Fronted). f.begins) a.same ∙ c.begins_now;
  grants_now = λ name. c.grants_now name ∙ sym (a.grants name);
  lookup = λ u. ap (λ (f : Fronted). going_of f u) a.same ∙ c.lookup u;
}

-- by cases: at the transaction, and elsewhere
split : (new : TxnId → Option Going) (old : Fronted) (t : TxnId) (then : Option Going) → new t ≡ then → ((u : TxnId) → is_txn t u ≡ false → new u ≡ going_of old u) → (u : TxnId) (b : Bool) → is_txn u t ≡ b → new u ≡ cond b then (going_of old u)
split new old t then own others u true same = ap new (is_txn-true u t same) ∙ own
split new old t then own others u false apart = others u (is_txn_equivalence.symm t u ∙ apart)

pub begins_changes : (f : Fronted) (state : State) → IsOver f state → Begins f (begun f)
begins_changes f state over = record {
  epoch = refl;
  begins_now = refl;
  grants_now = λ name. refl;
  lookup = λ u. split (going_of (begun f)) f (txn_at f (f.begins + 1)) (Some new_going) (going_of-begun f) (going_of-begun_other f) u (is_txn u (txn_at f (f.begins + 1))) refl;
}

pub ends_changes : (f : Fronted) (state : State) (t : TxnId) (g : Going) → IsOver f state → going_of f t ≡ Some g → Ends f (ended f t) t
ends_changes f state t g over is =
    let now : Fronted = record f { live = remove_entry (is_at (nat_cmp t.n)) f.live; grants = released f.grants t } in
    let then : ended f t ≡ now = ap (λ o. option_map_or (λ (going : Going). now) o f) is in
    record {
      epoch = ap (λ (x : Fronted). x.epoch) then;
      begins_now = ap (λ (x : Fronted). x.begins) then;
      grants_now = λ name. ap (λ (x : Fronted). holders name x.grants) (sym then);
      lookup = λ u. split (going_of (ended f t)) f t None (going_of-ended f state t over) (going_of-ended_other f t) u (is_txn u t) refl;
    }

-- the operation that a call of what goes on logs
abbrev pub op_then : Fronted → State → TxnId → Going → Call → Option Op
op_then f state t g call = option_and_then (λ reply. reply.op) (live_reply f.grants (folded state g.ops) t call)

-- the last record of a call that logged so many
abbrev pub last_then : ℕ → Lsn → Lsn → Lsn
last_then zero lsn last = last
last_then (suc n) lsn last = lsn

abbrev pub done_then : Fronted → State → TxnId → Going → Call → ℕ → Lsn → Going
done_then f state t g call count lsn = record { last = last_then count lsn g.last; ops = g.ops ++ cons_option (op_then f state t g call) [] }

-- what is kept of a call's front, apart from what goes on
pub record CallKeeps (f : Fronted) (state : State) (t : TxnId) (g : Going) (call : Call) : Type 0 where
  pub epoch : (called f state call).epoch ≡ f.epoch
  pub begins : (called f state call).begins ≡ f.begins
  pub grants : (called f state call).grants ≡ grants_then f state t g call

call_keeps : (f : Fronted) (state : State) (t : TxnId) (g : Going) (call : Call) → txn_named call ≡ Some t → going_of f t ≡ Some g → CallKeeps f state t g call
call_keeps f state t g call named is = by (op_then f state t g call) (called_live f state call t g named is)
  where
    by : (o : Option Op) → called f state call ≡ operated t.n g o (record f { grants = grants_then f state t g call }) → CallKeeps f state t g call
    by None e = record { epoch = ap (λ (x : Fronted). x.epoch) e; begins = ap (λ (x : Fronted). x.begins) e; grants = ap (λ (x : Fronted). x.grants) e }
    by (Some op) e = record { epoch = ap (λ (x : Fronted). x.epoch) e; begins = ap (λ (x : Fronted). x.begins) e; grants = ap (λ (x : Fronted). x.grants) e }

noted_is : (g : Going) (o : Option Op) → index.noted g o ≡ record { last = g.last; ops = g.ops ++ cons_option o [] }
noted_is g None = ap (λ (ops : List Op). let x : Going = record { last = g.last; ops = ops } in x) (sym (append-nil g.ops))
noted_is g (Some op) = refl

-- a call of what goes on, which logged so many records
pub asked_changes : (f : Fronted) (state : State) (t : TxnId) (g : Going) (call : Call) (count : ℕ) (lsn : Lsn) → IsOver f state → txn_named call ≡ Some t → going_of f t ≡ Some g →
    ChangesAt f (noted count call lsn (called f state call)) f.begins t (Some (done_then f state t g call count lsn)) (grants_then f state t g call)
asked_changes f state t g call count lsn over named is = by count
  where
    one : Going
    one = done_then f state t g call zero lsn

    then : Fronted
    then = called f state call

    keeps : CallKeeps f state t g call
    keeps = call_keeps f state t g call named is

    there : going_of then t ≡ Some one
    there = going_of-called f state call t named
        ∙ (ap (option_map (λ going. index.noted going (option_and_then (λ reply. reply.op) (told f state call)))) is
        ∙ (ap (λ o. Some (index.noted g (option_and_then (λ reply. reply.op) o))) (told_live f state call t g named is) ∙ ap Some (noted_is g (op_then f state t g call))))

    others : (u : TxnId) → is_txn t u ≡ false → going_of then u ≡ going_of f u
    others u apart = going_of-called_other f state call t u named apart

    by : (n : ℕ) → ChangesAt f (noted n call lsn then) f.begins t (Some (done_then f state t g call n lsn)) (grants_then f state t g call)
    by zero = record {
      epoch = keeps.epoch;
      begins_now = keeps.begins;
      grants_now = λ name. ap (holders name) (sym keeps.grants);
      lookup = λ u. split (going_of then) f t (Some one) there others u (is_txn u t) refl;
    }
    by (suc n) =
        let last : Going = done_then f state t g call (suc n) lsn in
        let logged_is : noted (suc n) call lsn then ≡ logged then t lsn = ap (λ o. option_map_or (λ u. logged then u lsn) o then) named in
        let all : noted (suc n) call lsn then ≡ with_going t.n last then = logged_is ∙ ap (λ o. option_map_or (λ (going : Going). with_going t.n (record going { last = lsn }) then) o then) there in
        let own : going_of (logged then t lsn) t ≡ Some last = going_of-logged then t lsn ∙ ap (option_map {T = Going} {U = Going} (λ going. record going { last = lsn })) there in
        record {
          epoch = ap (λ (x : Fronted). x.epoch) all ∙ keeps.epoch;
          begins_now = ap (λ (x : Fronted). x.begins) all ∙ keeps.begins;
          grants_now = λ name. ap (holders name) (sym (ap (λ (x : Fronted). x.grants) all ∙ keeps.grants));
          lookup = λ u. ap (λ (x : Fronted). going_of x u) logged_is ∙ split (going_of (logged then t lsn)) f t (Some last) own (λ v apart. going_of-logged_other then t lsn v apart ∙ others v apart) u (is_txn u t) refl;
        }
