-- What the calls of a front change: who goes on then, that it stands over the state, and that nothing of it shows the order
-- between grants of different names.
use Rattle.std.proofs.Common.{◌≡◌, ◌∙◌, ◌≢◌, ◌⊎◌, inl, inr, ℕ, ◌+◌, ◌≤◌, Bool, true, false, cond, List, [], ◌∷◌, ◌++◌, Option, Some, None, refl, sym, ap, subst, arith}
use Rattle.std.specs.Prelude.{option_map, option_and_then}
use Rattle.std.specs.Option.{option_map_or}
use Rattle.std.specs.Ordering.{nat_cmp}
use Rattle.std.specs.Map.{remove_entry}
use Rattle.std.specs.BTreeMap.{insert_entry, is_at}
use Rattle.std.proofs.lemmas.Bool.{false≢true, cases_eq, cond-true}
use Rattle.std.proofs.lemmas.Option.{none-some, same_Some}
use Rattle.std.proofs.lemmas.List.Elements.{All-push, All-nil}
use Rattle.rc_base.specs.declared.ids.Epoch.{Epoch}
use Rattle.rc_base.specs.declared.ids.Lsn.{Lsn}
use Rattle.rc_base.specs.declared.ids.TxnId.{TxnId}
use Rattle.rc_base.specs.Ids.{is_epoch, is_txn}
use Rattle.rc_base.proofs.SameIds.{is_epoch-true, is_epoch_same, is_txn-true, is_txn_same, is_txn_equivalence}
use Rattle.coll_model.specs.declared.op.Op.{Op}
use Rattle.coll_model.specs.Effect.{State, folded}
use Rattle.key_locks.specs.Grants.{Grant, released, Alike}
use Rattle.key_locks.proofs.Flat.{alike_released}
use Rattle.events.specs.declared.call.Call.{Call}
use Rattle.events.specs.declared.answer.Answer.TheVariants as answers
use Rattle.events.specs.declared.answer.Reply.{Reply}
use Rattle.events.specs.Locking.{locks_at, taken}
use Rattle.events.specs.Answers.{plain, live_reply, reply_to, locked_or}
use Rattle.events.specs.Calls.{txn_named}
use Rattle.lock_laws.specs.Protected.{HasLocks, AreLocked, locks_of}
use Rattle.lock_laws.specs.OrderedStates.{IsOrdered}
use Rattle.lock_laws.specs.OwnOperations.{AreEffective}
use Rattle.lock_laws.proofs.ProtectedGrants.{AreExclusive-nil, AreExclusive-taken, AreExclusive-released, AreExclusive-alike, against-alike, Alike-taken}
use Rattle.lock_laws.proofs.ProtectedStates.{IsOrdered-folded, LooksSame-foreign_folded}
use Rattle.lock_laws.proofs.ProtectedCalls.{AreLocked-taken, AreLocked-released, AreLocked-alike, live_logged, live_locked}
use Rattle.lock_laws.proofs.OwnOperations.{AreEffective-looks_same, AreEffective-push}
use Rattle.txn_front.specs.Front.{Going, Fronted, nothing, txn_at, numbered, going_of, AreAlike, told, with_going, begun, operated, asked, called, logged, ended, IsOwn, IsOver}
use Rattle.txn_front.specs.Index.{noted}
use Rattle.txn_front.proofs.Entries.{look_at_inserted, look_beside_inserted, look_at_removed, look_beside_removed, rising-nil, rising_inserted, rising_removed}

-- ---- numbers and names of transactions

named : Epoch → ℕ → TxnId
named e n = record { epoch = e; n = n }

-- a transaction of the front's epoch is the one of its number
own_epoch : (f : Fronted) (t : TxnId) → is_epoch t.epoch f.epoch ≡ true → t ≡ txn_at f t.n
own_epoch f t e = ap (λ (epoch : Epoch). record { epoch = epoch; n = t.n }) (is_epoch-true t.epoch f.epoch e)

apart_numbers : (f : Fronted) (n : ℕ) (u : TxnId) → is_txn (txn_at f n) u ≡ false → is_epoch u.epoch f.epoch ≡ true → u.n ≢ n
apart_numbers f n u apart e = λ same.
    let one : u ≡ txn_at f n = own_epoch f u e ∙ ap (txn_at f) same in
    false≢true (sym apart ∙ ap (is_txn (txn_at f n)) one ∙ is_txn_same (txn_at f n))

apart_named : (f : Fronted) (t : TxnId) (n : ℕ) → n ≢ t.n → is_txn t (txn_at f n) ≡ false
apart_named f t n apart = by (is_txn t (txn_at f n)) refl
  where
    by : (b : Bool) → is_txn t (txn_at f n) ≡ b → is_txn t (txn_at f n) ≡ false
    by true e = absurd (apart (sym (ap (λ (v : TxnId). v.n) (is_txn-true t (txn_at f n) e))))
    by false e = e

-- ---- what goes on under a name

looked : (b : Bool) (o : Option Going) (going : Going) → cond b o None ≡ Some going → (b ≡ true) × (o ≡ Some going)
looked true o going e = (refl, e)
looked false o going e = absurd (none-some going e)

pub found_live : (f : Fronted) (t : TxnId) (going : Going) → going_of f t ≡ Some going → (is_epoch t.epoch f.epoch ≡ true) × (numbered t.n f.live ≡ Some going)
found_live f t going e = looked (is_epoch t.epoch f.epoch) (numbered t.n f.live) going e

pub own_name : (f : Fronted) (t : TxnId) (going : Going) → going_of f t ≡ Some going → t ≡ txn_at f t.n
own_name f t going e = own_epoch f t (found_live f t going e).0

pub live_found : (f : Fronted) (n : ℕ) (going : Going) → numbered n f.live ≡ Some going → going_of f (txn_at f n) ≡ Some going
live_found f n going e = cond-true (is_epoch f.epoch f.epoch) (numbered n f.live) None (is_epoch_same f.epoch) ∙ e

-- one that goes on has done this
with_own : (f : Fronted) (t : TxnId) (going : Going) → is_epoch t.epoch f.epoch ≡ true → going_of (with_going t.n going f) t ≡ Some going
with_own f t going e = cond-true (is_epoch t.epoch f.epoch) (numbered t.n (insert_entry nat_cmp f.live t.n going)) None e ∙ look_at_inserted t.n going f.live

with_other : (f : Fronted) (n : ℕ) (going : Going) (u : TxnId) → is_txn (txn_at f n) u ≡ false → going_of (with_going n going f) u ≡ going_of f u
with_other f n going u apart = by (is_epoch u.epoch f.epoch) refl
  where
    by : (b : Bool) → is_epoch u.epoch f.epoch ≡ b → cond b (numbered u.n (insert_entry nat_cmp f.live n going)) None ≡ cond b (numbered u.n f.live) None
    by true e = look_beside_inserted u.n n going f.live (apart_numbers f n u apart e)
    by false e = refl

-- ---- a begin

pub going_of-begun : (f : Fronted) → going_of (begun f) (txn_at f (f.begins + 1)) ≡ Some (record { last = record { 0 = 0 }; ops = [] })
going_of-begun f = with_own (record f { begins = f.begins + 1 }) (txn_at f (f.begins + 1)) (record { last = record { 0 = 0 }; ops = [] }) (is_epoch_same f.epoch)

pub going_of-begun_other : (f : Fronted) (u : TxnId) → is_txn (txn_at f (f.begins + 1)) u ≡ false → going_of (begun f) u ≡ going_of f u
going_of-begun_other f u apart = with_other (record f { begins = f.begins + 1 }) (f.begins + 1) (record { last = record { 0 = 0 }; ops = [] }) u apart

-- a new number is new
pub going_of-before : (f : Fronted) (state : State) → IsOver f state → going_of f (txn_at f (f.begins + 1)) ≡ None
going_of-before f state over = by (going_of f (txn_at f (f.begins + 1))) refl
  where
    by : (o : Option Going) → going_of f (txn_at f (f.begins + 1)) ≡ o → going_of f (txn_at f (f.begins + 1)) ≡ None
    by None e = e
    by (Some going) e =
        let less : f.begins + 1 ≤ f.begins = (over.each (f.begins + 1) going (found_live f (txn_at f (f.begins + 1)) going e).1).begun in
        absurd (omega (arith, less))

-- ---- the position of a record

pub going_of-logged : (f : Fronted) (t : TxnId) (lsn : Lsn) → going_of (logged f t lsn) t ≡ option_map {T = Going} {U = Going} (λ going. record going { last = lsn }) (going_of f t)
going_of-logged f t lsn = by (going_of f t) refl
  where
    by : (o : Option Going) → going_of f t ≡ o
        → going_of (option_map_or (λ going. with_going t.n (record going { last = lsn }) f) o f) t ≡ option_map {T = Going} {U = Going} (λ going. record going { last = lsn }) o
    by None e = e
    by (Some going) e = with_own f t (record going { last = lsn }) (found_live f t going e).0

pub going_of-logged_other : (f : Fronted) (t : TxnId) (lsn : Lsn) (u : TxnId) → is_txn t u ≡ false → going_of (logged f t lsn) u ≡ going_of f u
going_of-logged_other f t lsn u apart = by (going_of f t) refl
  where
    by : (o : Option Going) → going_of f t ≡ o → going_of (option_map_or (λ going. with_going t.n (record going { last = lsn }) f) o f) u ≡ going_of f u
    by None e = refl
    by (Some going) e = with_other f t.n (record going { last = lsn }) u (subst (λ (v : TxnId). is_txn v u ≡ false) (own_name f t going e) apart)

-- ---- an end

pub going_of-ended : (f : Fronted) (state : State) (t : TxnId) → IsOver f state → going_of (ended f t) t ≡ None
going_of-ended f state t over = by (going_of f t) refl
  where
    by : (o : Option Going) → going_of f t ≡ o → going_of (option_map_or (λ going. record f { live = remove_entry (is_at (nat_cmp t.n)) f.live; grants = released f.grants t }) o f) t ≡ None
    by None e = e
    by (Some going) e =
        cond-true (is_epoch t.epoch f.epoch) (numbered t.n (remove_entry (is_at (nat_cmp t.n)) f.live)) None (found_live f t going e).0 ∙ look_at_removed t.n f.live over.rising

pub going_of-ended_other : (f : Fronted) (t u : TxnId) → is_txn t u ≡ false → going_of (ended f t) u ≡ going_of f u
going_of-ended_other f t u apart = by (going_of f t) refl
  where
    here : (going : Going) → going_of f t ≡ Some going → (b : Bool) → is_epoch u.epoch f.epoch ≡ b
        → cond b (numbered u.n (remove_entry (is_at (nat_cmp t.n)) f.live)) None ≡ cond b (numbered u.n f.live) None
    here going e true at =
        look_beside_removed u.n t.n f.live (apart_numbers f t.n u (subst (λ (v : TxnId). is_txn v u ≡ false) (own_name f t going e) apart) at)
    here going e false at = refl

    by : (o : Option Going) → going_of f t ≡ o → going_of (option_map_or (λ going. record f { live = remove_entry (is_at (nat_cmp t.n)) f.live; grants = released f.grants t }) o f) u ≡ going_of f u
    by None e = refl
    by (Some going) e = here going e (is_epoch u.epoch f.epoch) refl

-- ---- a call of a transaction

-- what its answer logs
abbrev pub logged_by : Fronted → State → Call → Option Op
logged_by f state call = option_and_then (λ reply. reply.op) (told f state call)

operated_own : (f : Fronted) (t : TxnId) (going : Going) (o : Option Op) → going_of f t ≡ Some going → going_of (operated t.n going o f) t ≡ Some (noted going o)
operated_own f t going None e = e
operated_own f t going (Some op) e = with_own f t (record going { ops = going.ops ++ op ∷ [] }) (found_live f t going e).0

operated_other : (f : Fronted) (n : ℕ) (going : Going) (o : Option Op) (u : TxnId) → is_txn (txn_at f n) u ≡ false → going_of (operated n going o f) u ≡ going_of f u
operated_other f n going None u apart = refl
operated_other f n going (Some op) u apart = with_other f n (record going { ops = going.ops ++ op ∷ [] }) u apart

-- the calls of one that goes on, and of one that doesn't
abbrev told_name : Fronted → State → Call → Option TxnId → Option Reply
told_name f state call name =
    option_map_or (λ t. option_map_or (λ going. live_reply f.grants (folded state going.ops) t call) (going_of f t) (Some (plain (answers.Ended t))))
    name (Some (plain (answers.Txn (txn_at f (f.begins + 1)))))

pub told_live : (f : Fronted) (state : State) (call : Call) (t : TxnId) (going : Going) → txn_named call ≡ Some t → going_of f t ≡ Some going
    → told f state call ≡ live_reply f.grants (folded state going.ops) t call
told_live f state call t going e h =
    ap (told_name f state call) e ∙ ap (λ (o : Option Going). option_map_or (λ going. live_reply f.grants (folded state going.ops) t call) o (Some (plain (answers.Ended t)))) h

pub told_ended : (f : Fronted) (state : State) (call : Call) (t : TxnId) → txn_named call ≡ Some t → going_of f t ≡ None → told f state call ≡ Some (plain (answers.Ended t))
told_ended f state call t e h =
    ap (told_name f state call) e ∙ ap (λ (o : Option Going). option_map_or (λ going. live_reply f.grants (folded state going.ops) t call) o (Some (plain (answers.Ended t)))) h

abbrev called_name : Fronted → State → Call → Option TxnId → Fronted
called_name f state call name = option_map_or (λ t. option_map_or (λ going. asked f state t going call) (going_of f t) f) name (begun f)

pub called_live : (f : Fronted) (state : State) (call : Call) (t : TxnId) (going : Going) → txn_named call ≡ Some t → going_of f t ≡ Some going
    → called f state call ≡ asked f state t going call
called_live f state call t going e h = ap (called_name f state call) e ∙ ap (λ (o : Option Going). option_map_or (λ going. asked f state t going call) o f) h

pub called_ended : (f : Fronted) (state : State) (call : Call) (t : TxnId) → txn_named call ≡ Some t → going_of f t ≡ None → called f state call ≡ f
called_ended f state call t e h = ap (called_name f state call) e ∙ ap (λ (o : Option Going). option_map_or (λ going. asked f state t going call) o f) h

pub called_begin : (f : Fronted) (state : State) (call : Call) → txn_named call ≡ None → called f state call ≡ begun f
called_begin f state call e = ap (called_name f state call) e

pub told_begin : (f : Fronted) (state : State) (call : Call) → txn_named call ≡ None → told f state call ≡ Some (plain (answers.Txn (txn_at f (f.begins + 1))))
told_begin f state call e = ap (told_name f state call) e

abbrev locked_front : Fronted → State → TxnId → Going → Call → Fronted
locked_front f state t going call = record f { grants = taken f.grants t (locks_at (folded state going.ops) call) }

-- its operations are those before, and the one that was logged
pub going_of-called : (f : Fronted) (state : State) (call : Call) (t : TxnId) → txn_named call ≡ Some t
    → going_of (called f state call) t ≡ option_map (λ going. noted going (logged_by f state call)) (going_of f t)
going_of-called f state call t e = by (going_of f t) refl
  where
    by : (o : Option Going) → going_of f t ≡ o → going_of (called f state call) t ≡ option_map (λ going. noted going (logged_by f state call)) o
    by None h = ap (λ (g : Fronted). going_of g t) (called_ended f state call t e h) ∙ h
    by (Some going) h =
        ap (λ (g : Fronted). going_of g t) (called_live f state call t going e h)
        ∙ operated_own (locked_front f state t going call) t going (option_and_then (λ reply. reply.op) (live_reply f.grants (folded state going.ops) t call)) h
        ∙ ap (λ (o : Option Reply). Some (noted going (option_and_then (λ reply. reply.op) o))) (sym (told_live f state call t going e h))

pub going_of-called_other : (f : Fronted) (state : State) (call : Call) (t u : TxnId) → txn_named call ≡ Some t → is_txn t u ≡ false → going_of (called f state call) u ≡ going_of f u
going_of-called_other f state call t u e apart = by (going_of f t) refl
  where
    by : (o : Option Going) → going_of f t ≡ o → going_of (called f state call) u ≡ going_of f u
    by None h = ap (λ (g : Fronted). going_of g u) (called_ended f state call t e h)
    by (Some going) h =
        ap (λ (g : Fronted). going_of g u) (called_live f state call t going e h)
        ∙ operated_other (locked_front f state t going call) t.n going (option_and_then (λ reply. reply.op) (live_reply f.grants (folded state going.ops) t call)) u
        (subst (λ (v : TxnId). is_txn v u ≡ false) (own_name f t going h) apart)

-- ---- fronts that are alike

pub AreAlike-itself : (a : Fronted) → AreAlike a a
AreAlike-itself a = record { same = refl; grants = λ name. refl }

pub AreAlike-from_same : (a b : Fronted) → a ≡ b → AreAlike a b
AreAlike-from_same a b e = subst (λ (f : Fronted). AreAlike a f) e (AreAlike-itself a)

pub AreAlike-sym : (a b : Fronted) → AreAlike a b → AreAlike b a
AreAlike-sym a b h = record { same = sym (ap (λ (f : Fronted). record f { grants = b.grants }) h.same); grants = λ name. sym (h.grants name) }

pub AreAlike-trans : (a b c : Fronted) → AreAlike a b → AreAlike b c → AreAlike a c
AreAlike-trans a b c h k = record {
  same = h.same ∙ ap (λ (f : Fronted). record f { grants = a.grants }) k.same;
  grants = λ name. h.grants name ∙ k.grants name;
}

-- what holds of each front with other grants that are alike
along : (P : Fronted → Type 0) (a b : Fronted) → AreAlike a b → ((gs : List Grant) → Alike gs b.grants → P (record b { grants = gs })) → P a
along P a b h each = subst P (sym h.same) (each a.grants h.grants)

pub told-alike : (a b : Fronted) (state : State) (call : Call) → AreAlike a b → told a state call ≡ told b state call
told-alike a b state call h = along (λ (f : Fronted). told f state call ≡ told b state call) a b h (λ gs alike. by gs alike (txn_named call))
  where
    live : (gs : List Grant) → Alike gs b.grants → (t : TxnId) (o : Option Going)
        → option_map_or (λ going. live_reply gs (folded state going.ops) t call) o (Some (plain (answers.Ended t))) ≡ option_map_or (λ going. live_reply b.grants (folded state going.ops) t call) o (Some (plain (answers.Ended t)))
    live gs alike t None = refl
    live gs alike t (Some going) = ap (λ (o : Option TxnId). locked_or o (reply_to (folded state going.ops) call)) (against-alike gs b.grants alike t (locks_at (folded state going.ops) call))

    by : (gs : List Grant) → Alike gs b.grants → (o : Option TxnId) → told_name (record b { grants = gs }) state call o ≡ told_name b state call o
    by gs alike None = refl
    by gs alike (Some t) = live gs alike t (going_of b t)

operated-alike : (b : Fronted) (gs hs : List Grant) (n : ℕ) (going : Going) (o : Option Op) → Alike gs hs
    → AreAlike (operated n going o (record b { grants = gs })) (operated n going o (record b { grants = hs }))
operated-alike b gs hs n going None alike = record { same = refl; grants = alike }
operated-alike b gs hs n going (Some op) alike = record { same = refl; grants = alike }

asked-alike : (b : Fronted) (gs : List Grant) (state : State) (t : TxnId) (going : Going) (call : Call) → Alike gs b.grants
    → AreAlike (asked (record b { grants = gs }) state t going call) (asked b state t going call)
asked-alike b gs state t going call alike =
    let locks = locks_at (folded state going.ops) call in
    let same : live_reply gs (folded state going.ops) t call ≡ live_reply b.grants (folded state going.ops) t call =
    ap (λ (o : Option TxnId). locked_or o (reply_to (folded state going.ops) call)) (against-alike gs b.grants alike t locks) in
    subst (λ (o : Option Reply). AreAlike (asked (record b { grants = gs }) state t going call)
    (operated t.n going (option_and_then (λ reply. reply.op) o) (record b { grants = taken b.grants t locks }))) same
    (operated-alike b (taken gs t locks) (taken b.grants t locks) t.n going (option_and_then (λ reply. reply.op) (live_reply gs (folded state going.ops) t call)) (Alike-taken gs b.grants alike t locks))

pub called-alike : (a b : Fronted) (state : State) (call : Call) → AreAlike a b → AreAlike (called a state call) (called b state call)
called-alike a b state call h = along (λ (f : Fronted). AreAlike (called f state call) (called b state call)) a b h (λ gs alike. by gs alike (txn_named call))
  where
    live : (gs : List Grant) → Alike gs b.grants → (t : TxnId) (o : Option Going)
        → AreAlike (option_map_or (λ going. asked (record b { grants = gs }) state t going call) o (record b { grants = gs })) (option_map_or (λ going. asked b state t going call) o b)
    live gs alike t None = record { same = refl; grants = alike }
    live gs alike t (Some going) = asked-alike b gs state t going call alike

    by : (gs : List Grant) → Alike gs b.grants → (o : Option TxnId) → AreAlike (called_name (record b { grants = gs }) state call o) (called_name b state call o)
    by gs alike None = record { same = refl; grants = alike }
    by gs alike (Some t) = live gs alike t (going_of b t)

pub logged-alike : (a b : Fronted) (t : TxnId) (lsn : Lsn) → AreAlike a b → AreAlike (logged a t lsn) (logged b t lsn)
logged-alike a b t lsn h = along (λ (f : Fronted). AreAlike (logged f t lsn) (logged b t lsn)) a b h (λ gs alike. by gs alike (going_of b t))
  where
    by : (gs : List Grant) → Alike gs b.grants → (o : Option Going)
        → AreAlike (option_map_or (λ going. with_going t.n (record going { last = lsn }) (record b { grants = gs })) o (record b { grants = gs }))
        (option_map_or (λ going. with_going t.n (record going { last = lsn }) b) o b)
    by gs alike None = record { same = refl; grants = alike }
    by gs alike (Some going) = record { same = refl; grants = alike }

pub ended-alike : (a b : Fronted) (t : TxnId) → AreAlike a b → AreAlike (ended a t) (ended b t)
ended-alike a b t h = along (λ (f : Fronted). AreAlike (ended f t) (ended b t)) a b h (λ gs alike. by gs alike (going_of b t))
  where
    by : (gs : List Grant) → Alike gs b.grants → (o : Option Going)
        → AreAlike (option_map_or (λ going. record b { live = remove_entry (is_at (nat_cmp t.n)) b.live; grants = released gs t }) o (record b { grants = gs }))
        (option_map_or (λ going. record b { live = remove_entry (is_at (nat_cmp t.n)) b.live; grants = released b.grants t }) o b)
    by gs alike None = record { same = refl; grants = alike }
    by gs alike (Some going) = record { same = refl; grants = alike_released gs b.grants alike t }

pub IsOver-alike : (a b : Fronted) (state : State) → AreAlike a b → IsOver b state → IsOver a state
IsOver-alike a b state h over = along (λ (f : Fronted). IsOver f state) a b h (λ gs alike. record {
  ordered = over.ordered;
  rising = over.rising;
  exclusive = AreExclusive-alike b.grants gs (λ name. sym (alike name)) over.exclusive;
  each = λ n going at. let own = over.each n going at in record {
    begun = own.begun;
    locked = AreLocked-alike b.grants gs (λ name. sym (alike name)) (txn_at b n) going.ops own.locked;
    effective = own.effective;
  };
})

-- ---- fronts over a state

pub IsOver-nothing : (epoch : Epoch) (state : State) → IsOrdered state → IsOver (nothing epoch) state
IsOver-nothing epoch state ordered = record {
  ordered = ordered;
  rising = rising-nil Going;
  exclusive = AreExclusive-nil;
  each = λ n going at. absurd (none-some going at);
}

-- one more that goes on, or another record of one
IsOver-with : (f : Fronted) (state : State) (n : ℕ) (going : Going) → IsOver f state → IsOwn f state n going → IsOver (with_going n going f) state
IsOver-with f state n going over own = record {
  ordered = over.ordered;
  rising = rising_inserted n going f.live over.rising;
  exclusive = over.exclusive;
  each = λ m other at. by m other at (cases_eq m n);
}
  where
    moved : (m : ℕ) (other : Going) → IsOwn f state m other → IsOwn (with_going n going f) state m other
    moved m other h = record { begun = h.begun; locked = h.locked; effective = h.effective }

    by : (m : ℕ) (other : Going) → numbered m (insert_entry nat_cmp f.live n going) ≡ Some other → (m ≡ n) ⊎ (m ≢ n) → IsOwn (with_going n going f) state m other
    by m other at (inl same) =
        let here : Some going ≡ Some other = sym (look_at_inserted n going f.live) ∙ subst (λ (k : ℕ). numbered k (insert_entry nat_cmp f.live n going) ≡ Some other) same at in
        moved m other (subst (λ (k : ℕ). IsOwn f state k other) (sym same) (subst (λ (g : Going). IsOwn f state n g) (same_Some going other here) own))
    by m other at (inr apart) = moved m other (over.each m other (sym (look_beside_inserted m n going f.live apart) ∙ at))

own_of : (f : Fronted) (state : State) (t : TxnId) (going : Going) → IsOver f state → going_of f t ≡ Some going → IsOwn f state t.n going
own_of f state t going over e = over.each t.n going (found_live f t going e).1

pub IsOver-logged : (f : Fronted) (state : State) (t : TxnId) (lsn : Lsn) → IsOver f state → IsOver (logged f t lsn) state
IsOver-logged f state t lsn over = by (going_of f t) refl
  where
    by : (o : Option Going) → going_of f t ≡ o → IsOver (option_map_or (λ going. with_going t.n (record going { last = lsn }) f) o f) state
    by None e = over
    by (Some going) e =
        let own = own_of f state t going over e in
        IsOver-with f state t.n (record going { last = lsn }) over (record { begun = own.begun; locked = own.locked; effective = own.effective })

pub IsOver-begun : (f : Fronted) (state : State) → IsOver f state → IsOver (begun f) state
IsOver-begun f state over =
    let more : Fronted = record f { begins = f.begins + 1 } in
    let counted : IsOver more state = record {
      ordered = over.ordered;
      rising = over.rising;
      exclusive = over.exclusive;
      each = λ n going at. let own = over.each n going at in let b : n ≤ f.begins = own.begun in record { begun = omega (arith, b); locked = own.locked; effective = own.effective };
    } in
    IsOver-with more state (f.begins + 1) (record { last = record { 0 = 0 }; ops = [] }) counted
    (record { begun = omega arith; locked = All-nil (λ op. HasLocks f.grants (txn_at f (f.begins + 1)) (locks_of op)); effective = tt })

IsOver-locked : (f : Fronted) (state : State) (t : TxnId) (going : Going) (call : Call) → IsOver f state → IsOver (locked_front f state t going call) state
IsOver-locked f state t going call over =
    let locks = locks_at (folded state going.ops) call in
    record {
      ordered = over.ordered;
      rising = over.rising;
      exclusive = AreExclusive-taken f.grants t locks over.exclusive;
      each = λ n other at. let own = over.each n other at in record {
        begun = own.begun;
        locked = AreLocked-taken f.grants t locks (txn_at f n) other.ops own.locked;
        effective = own.effective;
      };
    }

IsOver-asked : (f : Fronted) (state : State) (t : TxnId) (going : Going) (call : Call) → IsOver f state → going_of f t ≡ Some going → IsOver (asked f state t going call) state
IsOver-asked f state t going call over e = answered (live_reply f.grants seen t call) refl
  where
    seen : State
    seen = folded state going.ops

    held : Fronted
    held = locked_front f state t going call

    over_held : IsOver held state
    over_held = IsOver-locked f state t going call over

    logs : (reply : Reply) → live_reply f.grants seen t call ≡ Some reply → (o : Option Op) → reply.op ≡ o → IsOver (operated t.n going o held) state
    logs reply is None h = over_held
    logs reply is (Some op) h =
        let own : IsOwn held state t.n going = over_held.each t.n going (found_live f t going e).1 in
        let logged = live_logged f.grants t seen call reply op is h in
        let locks : HasLocks held.grants (txn_at f t.n) (locks_of op) =
        subst (λ (u : TxnId). HasLocks held.grants u (locks_of op)) (own_name f t going e) (live_locked f.grants t seen call reply op is h) in
        IsOver-with held state t.n (record going { ops = going.ops ++ op ∷ [] }) over_held (record {
          begun = own.begun;
          locked = All-push (λ o. HasLocks held.grants (txn_at f t.n) (locks_of o)) going.ops op own.locked locks;
          effective = AreEffective-push state going.ops op own.effective logged.found;
        })

    answered : (o : Option Reply) → live_reply f.grants seen t call ≡ o → IsOver (operated t.n going (option_and_then (λ reply. reply.op) o) held) state
    answered None is = over_held
    answered (Some reply) is = logs reply is reply.op refl

pub IsOver-called : (f : Fronted) (state : State) (call : Call) → IsOver f state → IsOver (called f state call) state
IsOver-called f state call over = by (txn_named call) refl
  where
    live : (t : TxnId) (o : Option Going) → going_of f t ≡ o → IsOver (option_map_or (λ going. asked f state t going call) o f) state
    live t None e = over
    live t (Some going) e = IsOver-asked f state t going call over e

    by : (o : Option TxnId) → txn_named call ≡ o → IsOver (called_name f state call o) state
    by None e = IsOver-begun f state over
    by (Some t) e = live t (going_of f t) refl

-- ---- the end of a transaction

-- where the others stand over a state, so they do when the locks of this one go
IsOver-removed : (f : Fronted) (state next : State) (t : TxnId) (going : Going) → IsOver f state → going_of f t ≡ Some going → IsOrdered next
    → ((n : ℕ) (other : Going) → n ≢ t.n → IsOwn f state n other → AreEffective next other.ops) → IsOver (ended f t) next
IsOver-removed f state next t going over e ordered stays =
    subst (λ (g : Fronted). IsOver g next) (sym shape) (record {
      ordered = ordered;
      rising = rising_removed t.n f.live over.rising;
      exclusive = AreExclusive-released f.grants t over.exclusive;
      each = λ n other at. by n other at (cases_eq n t.n);
    })
  where
    without : Fronted
    without = record f { live = remove_entry (is_at (nat_cmp t.n)) f.live; grants = released f.grants t }

    shape : ended f t ≡ without
    shape = ap (λ (o : Option Going). option_map_or (λ going. record f { live = remove_entry (is_at (nat_cmp t.n)) f.live; grants = released f.grants t }) o f) e

    by : (n : ℕ) (other : Going) → numbered n (remove_entry (is_at (nat_cmp t.n)) f.live) ≡ Some other → (n ≡ t.n) ⊎ (n ≢ t.n) → IsOwn without next n other
    by n other at (inl same) =
        absurd (none-some other (sym (look_at_removed t.n f.live over.rising) ∙ subst (λ (k : ℕ). numbered k (remove_entry (is_at (nat_cmp t.n)) f.live) ≡ Some other) same at))
    by n other at (inr apart) =
        let own : IsOwn f state n other = over.each n other (sym (look_beside_removed n t.n f.live apart) ∙ at) in
        record {
          begun = own.begun;
          locked = AreLocked-released f.grants t (txn_at f n) other.ops (apart_named f t n apart) own.locked;
          effective = stays n other apart own;
        }

-- it goes without a trace
pub IsOver-aborted : (f : Fronted) (state : State) (t : TxnId) → IsOver f state → IsOver (ended f t) state
IsOver-aborted f state t over = by (going_of f t) refl
  where
    by : (o : Option Going) → going_of f t ≡ o → IsOver (ended f t) state
    by None e = subst (λ (g : Fronted). IsOver g state) (sym (ap (λ (o : Option Going). option_map_or (λ going. record f { live = remove_entry (is_at (nat_cmp t.n)) f.live; grants = released f.grants t }) o f) e)) over
    by (Some going) e = IsOver-removed f state state t going over e over.ordered (λ n other apart own. own.effective)

-- its operations are shown
pub IsOver-committed : (f : Fronted) (state : State) (t : TxnId) (going : Going) → IsOver f state → going_of f t ≡ Some going → IsOver (ended f t) (folded state going.ops)
IsOver-committed f state t going over e =
    IsOver-removed f state (folded state going.ops) t going over e (IsOrdered-folded state going.ops over.ordered) stays
  where
    flip : (u : TxnId) → is_txn t u ≡ false → is_txn u t ≡ false
    flip u h = is_txn_equivalence.symm u t ∙ h

    mine : AreLocked f.grants t going.ops
    mine = subst (λ (v : TxnId). AreLocked f.grants v going.ops) (sym (own_name f t going e)) (own_of f state t going over e).locked

    stays : (n : ℕ) (other : Going) → n ≢ t.n → IsOwn f state n other → AreEffective (folded state going.ops) other.ops
    stays n other apart own =
        AreEffective-looks_same f.grants (txn_at f n) state (folded state going.ops) other.ops over.ordered (IsOrdered-folded state going.ops over.ordered)
        (LooksSame-foreign_folded f.grants (txn_at f n) t over.exclusive (flip (txn_at f n) (apart_named f t n apart)) state going.ops mine) own.locked own.effective
