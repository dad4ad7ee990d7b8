-- What grants and releases do to who holds what, and to the locks that a call asked for.
use Rattle.std.proofs.Common.{◌≡◌, ◌∙◌, Bool, true, false, not, ◌&&◌, List, [], ◌∷◌, Option, Some, None, option_map, find, is_some, refl, sym, ap, ap₂, subst}
use Rattle.std.specs.Option.{option_map_or}
use Rattle.std.proofs.lemmas.Bool.{false≢true}
use Rattle.std.proofs.lemmas.Option.{none-some, same_Some}
use Rattle.std.proofs.lemmas.List.Elements.{All-nil, All-cons, All-weaker}
use Rattle.rc_base.specs.declared.ids.TxnId.{TxnId}
use Rattle.rc_base.specs.Ids.{is_txn}
use Rattle.rc_base.proofs.SameIds.{is_txn-true, is_txn_same, is_txn_equivalence}
use Rattle.key_locks.specs.declared.lock_name.LockName.{LockName}
use Rattle.key_locks.specs.declared.lock_mode.LockMode.{LockMode}
use Rattle.key_locks.specs.declared.lock_mode.LockMode.TheVariants.{Shared, Update, Exclusive}
use Rattle.key_locks.specs.declared.holders.Holder.{Holder}
use Rattle.key_locks.specs.Names.{is_name}
use Rattle.key_locks.specs.Equal.{is_name-true}
use Rattle.key_locks.specs.Grants.{Grant, allows, stronger, is_holder, stands_against, holders, conflict, mode_in, granted, released, Alike}
use Rattle.key_locks.specs.Table.{granted_in, others}
use Rattle.key_locks.proofs.Flat.{granted_here, granted_elsewhere, released_holders, alike_answers, alike_granted}
use Rattle.events.specs.Locking.{Lock, against, taken}
use Rattle.lock_laws.specs.Protected.{HasLock, HasLocks, AreExclusive, is_held}

-- ---- modes

-- the mode after a grant: the stronger of the two, where there was one
abbrev pub raised : Option LockMode → LockMode → LockMode
raised held asked = option_map_or (λ old. stronger old asked) held asked

stronger_asked : (asked : LockMode) → stronger asked asked ≡ asked
stronger_asked Shared = refl
stronger_asked Update = refl
stronger_asked Exclusive = refl

-- a mode that is enough stays enough where it is raised
stays_enough : (held asked wanted : LockMode) → stronger held wanted ≡ held → stronger (stronger held asked) wanted ≡ stronger held asked
stays_enough Shared Shared wanted e = e
stays_enough Shared Update Shared e = refl
stays_enough Shared Update Update e = refl
stays_enough Shared Update Exclusive e = absurd (cc)
stays_enough Shared Exclusive wanted e = refl
stays_enough Update Shared wanted e = e
stays_enough Update Update wanted e = e
stays_enough Update Exclusive wanted e = refl
stays_enough Exclusive asked wanted e = refl

-- what was asked for is enough after the grant
granted_enough : (held : Option LockMode) (asked : LockMode) → stronger (raised held asked) asked ≡ raised held asked
granted_enough None asked = stronger_asked asked
granted_enough (Some Shared) asked = stronger_asked asked
granted_enough (Some Update) Shared = refl
granted_enough (Some Update) Update = refl
granted_enough (Some Update) Exclusive = refl
granted_enough (Some Exclusive) asked = refl

-- an exclusive mode was held, or was asked for
exclusive_from : {P : Type 0} (held : Option LockMode) (asked : LockMode) → raised held asked ≡ Exclusive → (held ≡ Some Exclusive → P) → (asked ≡ Exclusive → P) → P
exclusive_from None asked e held here = here e
exclusive_from (Some Shared) asked e held here = here e
exclusive_from (Some Update) Shared e held here = absurd (cc)
exclusive_from (Some Update) Update e held here = absurd (cc)
exclusive_from (Some Update) Exclusive e held here = here refl
exclusive_from (Some Exclusive) asked e held here = held refl

nothing_beside_exclusive : (mode : LockMode) → allows mode Exclusive ≡ true → ⊥
nothing_beside_exclusive Shared e = cc
nothing_beside_exclusive Update e = cc
nothing_beside_exclusive Exclusive e = cc

exclusive_allows_none : (mode : LockMode) → allows Exclusive mode ≡ true → ⊥
exclusive_allows_none mode e = cc

-- ---- the holders of one name

mode_of-granted_own : (t : TxnId) (mode : LockMode) (hs : List Holder) → option_map (λ h. h.mode) (find (is_holder t) (granted_in hs t mode)) ≡ Some (raised (option_map (λ h. h.mode) (find (is_holder t) hs)) mode)
mode_of-granted_own t mode [] = rw (is_txn_same t) refl
mode_of-granted_own t mode (h ∷ hs) = by (mode_of-granted_own t mode hs) (is_holder t h) refl
  where
    by : option_map (λ x. x.mode) (find (is_holder t) (granted_in hs t mode)) ≡ Some (raised (option_map (λ x. x.mode) (find (is_holder t) hs)) mode) → (b : Bool) → is_holder t h ≡ b
        → option_map (λ x. x.mode) (find (is_holder t) (granted_in (h ∷ hs) t mode)) ≡ Some (raised (option_map (λ x. x.mode) (find (is_holder t) (h ∷ hs))) mode)
    by ih true e = rw (e, e) refl
    by ih false e = rw (e, e) ih

mode_of-granted_other : (t u : TxnId) (mode : LockMode) (hs : List Holder) → is_txn t u ≡ false → option_map (λ h. h.mode) (find (is_holder u) (granted_in hs t mode)) ≡ option_map (λ h. h.mode) (find (is_holder u) hs)
mode_of-granted_other t u mode [] apart = let flipped : is_txn u t ≡ false = is_txn_equivalence.symm u t ∙ apart in rw flipped refl
mode_of-granted_other t u mode (h ∷ hs) apart = by (mode_of-granted_other t u mode hs apart) (is_holder t h) refl
  where
    off : is_holder t h ≡ true → is_holder u h ≡ false
    off e = subst (λ (w : TxnId). is_txn u w ≡ false) (is_txn-true t h.txn e) (is_txn_equivalence.symm u t ∙ apart)

    kept : option_map (λ x. x.mode) (find (is_holder u) (granted_in hs t mode)) ≡ option_map (λ x. x.mode) (find (is_holder u) hs) → (b : Bool) → is_holder u h ≡ b
        → option_map (λ x. x.mode) (find (is_holder u) (h ∷ granted_in hs t mode)) ≡ option_map (λ x. x.mode) (find (is_holder u) (h ∷ hs))
    kept ih true e = rw e refl
    kept ih false e = rw e ih

    by : option_map (λ x. x.mode) (find (is_holder u) (granted_in hs t mode)) ≡ option_map (λ x. x.mode) (find (is_holder u) hs) → (b : Bool) → is_holder t h ≡ b
        → option_map (λ x. x.mode) (find (is_holder u) (granted_in (h ∷ hs) t mode)) ≡ option_map (λ x. x.mode) (find (is_holder u) (h ∷ hs))
    by ih true e = rw (e, off e) refl
    by ih false e = rw e (kept ih (is_holder u h) refl)

mode_of-left_own : (t : TxnId) (hs : List Holder) → option_map (λ h. h.mode) (find (is_holder t) (others t hs)) ≡ None
mode_of-left_own t [] = refl
mode_of-left_own t (h ∷ hs) = by (mode_of-left_own t hs) (is_holder t h) refl
  where
    by : option_map (λ x. x.mode) (find (is_holder t) (others t hs)) ≡ None → (b : Bool) → is_holder t h ≡ b → option_map (λ x. x.mode) (find (is_holder t) (others t (h ∷ hs))) ≡ None
    by ih true e = rw e ih
    by ih false e = rw (e, e) ih

mode_of-left_other : (t u : TxnId) (hs : List Holder) → is_txn t u ≡ false → option_map (λ h. h.mode) (find (is_holder u) (others t hs)) ≡ option_map (λ h. h.mode) (find (is_holder u) hs)
mode_of-left_other t u [] apart = refl
mode_of-left_other t u (h ∷ hs) apart = by (mode_of-left_other t u hs apart) (is_holder t h) refl
  where
    off : is_holder t h ≡ true → is_holder u h ≡ false
    off e = subst (λ (w : TxnId). is_txn u w ≡ false) (is_txn-true t h.txn e) (is_txn_equivalence.symm u t ∙ apart)

    kept : option_map (λ x. x.mode) (find (is_holder u) (others t hs)) ≡ option_map (λ x. x.mode) (find (is_holder u) hs) → (b : Bool) → is_holder u h ≡ b
        → option_map (λ x. x.mode) (find (is_holder u) (h ∷ others t hs)) ≡ option_map (λ x. x.mode) (find (is_holder u) (h ∷ hs))
    kept ih true e = rw e refl
    kept ih false e = rw e ih

    by : option_map (λ x. x.mode) (find (is_holder u) (others t hs)) ≡ option_map (λ x. x.mode) (find (is_holder u) hs) → (b : Bool) → is_holder t h ≡ b
        → option_map (λ x. x.mode) (find (is_holder u) (others t (h ∷ hs))) ≡ option_map (λ x. x.mode) (find (is_holder u) (h ∷ hs))
    by ih true e = rw (e, off e) ih
    by ih false e = rw e (kept ih (is_holder u h) refl)

-- who holds beside a request that no one stands against
mode_of-allows : (t u : TxnId) (asked mode : LockMode) (hs : List Holder) → option_map (λ h. h.txn) (find (stands_against t asked) hs) ≡ None → is_txn t u ≡ false
    → option_map (λ h. h.mode) (find (is_holder u) hs) ≡ Some mode → allows mode asked ≡ true
mode_of-allows t u asked mode [] free apart held = absurd (none-some mode held)
mode_of-allows t u asked mode (h ∷ hs) free apart held = by (mode_of-allows t u asked mode hs) (stands_against t asked h) (is_holder u h) refl refl
  where
    at : is_holder u h ≡ true → is_holder t h ≡ false
    at e = subst (λ (w : TxnId). is_txn t w ≡ false) (is_txn-true u h.txn e) apart

    none_against : (b c : Bool) → b ≡ false → (not b && not c) ≡ false → c ≡ true
    none_against true c e f = absurd (false≢true (sym e))
    none_against false true e f = refl
    none_against false false e f = absurd (false≢true (sym f))

    by : (option_map (λ x. x.txn) (find (stands_against t asked) hs) ≡ None → is_txn t u ≡ false → option_map (λ x. x.mode) (find (is_holder u) hs) ≡ Some mode → allows mode asked ≡ true)
        → (p q : Bool) → stands_against t asked h ≡ p → is_holder u h ≡ q → allows mode asked ≡ true
    by ih true q e f = let bad = rw e at free in absurd (none-some h.txn (sym bad))
    by ih false true e f =
        let is : h.mode ≡ mode = same_Some h.mode mode (rw f at held) in
        subst (λ (m : LockMode). allows m asked ≡ true) is (none_against (is_holder t h) (allows h.mode asked) (at f) e)
    by ih false false e f = ih (rw e at free) apart (rw f at held)

-- ---- who holds what after a grant, and after a release

pub mode_in-granted_own : (gs : List Grant) (t : TxnId) (name : LockName) (mode : LockMode) → mode_in (granted gs t name mode) t name ≡ Some (raised (mode_in gs t name) mode)
mode_in-granted_own gs t name mode =
    ap (λ (hs : List Holder). option_map (λ h. h.mode) (find (is_holder t) hs)) (granted_here name gs t mode) ∙ mode_of-granted_own t mode (holders name gs)

pub mode_in-granted_other_name : (gs : List Grant) (t u : TxnId) (name other : LockName) (mode : LockMode) → is_name other name ≡ false → mode_in (granted gs t name mode) u other ≡ mode_in gs u other
mode_in-granted_other_name gs t u name other mode apart = ap (λ (hs : List Holder). option_map (λ h. h.mode) (find (is_holder u) hs)) (granted_elsewhere other name gs t mode apart)

-- to another transaction, under any name
pub mode_in-granted_other : (gs : List Grant) (t u : TxnId) (name other : LockName) (mode : LockMode) → is_txn t u ≡ false → mode_in (granted gs t name mode) u other ≡ mode_in gs u other
mode_in-granted_other gs t u name other mode apart = by (is_name other name) refl
  where
    by : (b : Bool) → is_name other name ≡ b → mode_in (granted gs t name mode) u other ≡ mode_in gs u other
    by true e =
        let P : LockName → Type 0 = λ n. mode_in (granted gs t name mode) u n ≡ mode_in gs u n in
        subst P (sym (is_name-true other name e))
        (ap (λ (hs : List Holder). option_map (λ h. h.mode) (find (is_holder u) hs)) (granted_here name gs t mode) ∙ mode_of-granted_other t u mode (holders name gs) apart)
    by false e = mode_in-granted_other_name gs t u name other mode e

pub mode_in-released_own : (gs : List Grant) (t : TxnId) (name : LockName) → mode_in (released gs t) t name ≡ None
mode_in-released_own gs t name =
    ap (λ (hs : List Holder). option_map (λ h. h.mode) (find (is_holder t) hs)) (released_holders name gs t) ∙ mode_of-left_own t (holders name gs)

pub mode_in-released_other : (gs : List Grant) (t u : TxnId) (name : LockName) → is_txn t u ≡ false → mode_in (released gs t) u name ≡ mode_in gs u name
mode_in-released_other gs t u name apart =
    ap (λ (hs : List Holder). option_map (λ h. h.mode) (find (is_holder u) hs)) (released_holders name gs t) ∙ mode_of-left_other t u (holders name gs) apart

-- another transaction holds a name in a mode that allows what was granted
pub conflict-allows : (gs : List Grant) (t u : TxnId) (name : LockName) (asked mode : LockMode) → conflict gs t name asked ≡ None → is_txn t u ≡ false → mode_in gs u name ≡ Some mode → allows mode asked ≡ true
conflict-allows gs t u name asked mode free apart held = mode_of-allows t u asked mode (holders name gs) free apart held

-- ---- locks are kept

-- by grants in which the transaction holds the name at least so
lock_from_mode : (gs hs : List Grant) (t : TxnId) (lock : Lock) → mode_in hs t lock.name ≡ mode_in gs t lock.name → HasLock gs t lock → HasLock hs t lock
lock_from_mode gs hs t lock same has = record { mode = has.mode; held = same ∙ has.held; enough = has.enough }

pub HasLock-granted_own : (gs : List Grant) (t : TxnId) (lock : Lock) → HasLock (granted gs t lock.name lock.mode) t lock
HasLock-granted_own gs t lock = record {
  mode = raised (mode_in gs t lock.name) lock.mode;
  held = mode_in-granted_own gs t lock.name lock.mode;
  enough = granted_enough (mode_in gs t lock.name) lock.mode;
}

pub HasLock-granted : (gs : List Grant) (t : TxnId) (name : LockName) (mode : LockMode) (v : TxnId) (lock : Lock) → HasLock gs v lock → HasLock (granted gs t name mode) v lock
HasLock-granted gs t name mode v lock has = by (is_txn t v) (is_name lock.name name) refl refl
  where
    own : t ≡ v → lock.name ≡ name → HasLock (granted gs t name mode) v lock
    own same_txn same_name = record {
      mode = stronger has.mode mode;
      held =
          let P : TxnId → LockName → Type 0 = λ w n. mode_in (granted gs w n mode) v lock.name ≡ Some (stronger has.mode mode) in
          subst (λ (w : TxnId). P w name) (sym same_txn) (subst (λ (n : LockName). P v n) same_name
          (mode_in-granted_own gs v lock.name mode ∙ ap (λ (o : Option LockMode). Some (raised o mode)) has.held));
      enough = stays_enough has.mode mode lock.mode has.enough;
    }

    by : (p q : Bool) → is_txn t v ≡ p → is_name lock.name name ≡ q → HasLock (granted gs t name mode) v lock
    by true true e f = own (is_txn-true t v e) (is_name-true lock.name name f)
    by true false e f = lock_from_mode gs (granted gs t name mode) v lock (mode_in-granted_other_name gs t v name lock.name mode f) has
    by false q e f = lock_from_mode gs (granted gs t name mode) v lock (mode_in-granted_other gs t v name lock.name mode e) has

pub HasLocks-granted : (gs : List Grant) (t : TxnId) (name : LockName) (mode : LockMode) (v : TxnId) (locks : List Lock) → HasLocks gs v locks → HasLocks (granted gs t name mode) v locks
HasLocks-granted gs t name mode v locks has = All-weaker (HasLock gs v) (HasLock (granted gs t name mode) v) (HasLock-granted gs t name mode v) locks has

-- by a release of another one
pub HasLocks-released : (gs : List Grant) (t u : TxnId) (locks : List Lock) → is_txn t u ≡ false → HasLocks gs u locks → HasLocks (released gs t) u locks
HasLocks-released gs t u locks apart has =
    All-weaker (HasLock gs u) (HasLock (released gs t) u) (λ lock one. lock_from_mode gs (released gs t) u lock (mode_in-released_other gs t u lock.name apart) one) locks has

-- ---- who holds exclusively

pub AreExclusive-nil : AreExclusive []
AreExclusive-nil name t u mode apart held other = none-some Exclusive held

pub AreExclusive-granted : (gs : List Grant) (t : TxnId) (name : LockName) (asked : LockMode) → conflict gs t name asked ≡ None → AreExclusive gs → AreExclusive (granted gs t name asked)
AreExclusive-granted gs t name asked free all other a u mode apart held beside = by (is_name other name) refl
  where
    flip : (v w : TxnId) → is_txn v w ≡ false → is_txn w v ≡ false
    flip v w e = is_txn_equivalence.symm w v ∙ e

    -- the one that asked holds exclusively, and u holds beside it
    own : is_txn t u ≡ false → mode_in (granted gs t name asked) t name ≡ Some Exclusive → mode_in (granted gs t name asked) u name ≡ Some mode → ⊥
    own off mine its =
        let was : mode_in gs u name ≡ Some mode = sym (mode_in-granted_other gs t u name name asked off) ∙ its in
        exclusive_from (mode_in gs t name) asked (same_Some (raised (mode_in gs t name) asked) Exclusive (sym (mode_in-granted_own gs t name asked) ∙ mine))
        (λ old. all name t u mode off old was)
        (λ new. nothing_beside_exclusive mode (subst (λ (m : LockMode). allows mode m ≡ true) new (conflict-allows gs t u name asked mode free off was)))

    -- a holds exclusively, beside the one that asked
    beside_own : is_txn t a ≡ false → mode_in (granted gs t name asked) a name ≡ Some Exclusive → ⊥
    beside_own off its =
        exclusive_allows_none asked (conflict-allows gs t a name asked Exclusive free off (sym (mode_in-granted_other gs t a name name asked off) ∙ its))

    here : mode_in (granted gs t name asked) a name ≡ Some Exclusive → mode_in (granted gs t name asked) u name ≡ Some mode → (p q : Bool) → is_txn t a ≡ p → is_txn t u ≡ q → ⊥
    here mine its true q e f =
        let same : t ≡ a = is_txn-true t a e in
        own (subst (λ (w : TxnId). is_txn w u ≡ false) (sym same) apart) (subst (λ (w : TxnId). mode_in (granted gs t name asked) w name ≡ Some Exclusive) (sym same) mine) its
    here mine its false true e f = beside_own e mine
    here mine its false false e f =
        all name a u mode apart (sym (mode_in-granted_other gs t a name name asked e) ∙ mine) (sym (mode_in-granted_other gs t u name name asked f) ∙ its)

    by : (b : Bool) → is_name other name ≡ b → ⊥
    by true e =
        let same : other ≡ name = is_name-true other name e in
        here (subst (λ (n : LockName). mode_in (granted gs t name asked) a n ≡ Some Exclusive) same held) (subst (λ (n : LockName). mode_in (granted gs t name asked) u n ≡ Some mode) same beside) (is_txn t a) (is_txn t u) refl refl
    by false e =
        all other a u mode apart (sym (mode_in-granted_other_name gs t a name other asked e) ∙ held) (sym (mode_in-granted_other_name gs t u name other asked e) ∙ beside)

pub AreExclusive-released : (gs : List Grant) (t : TxnId) → AreExclusive gs → AreExclusive (released gs t)
AreExclusive-released gs t all name a u mode apart held beside = by (is_txn t a) (is_txn t u) refl refl
  where
    gone : (w : TxnId) (m : LockMode) → t ≡ w → mode_in (released gs t) w name ≡ Some m → ⊥
    gone w m same its = none-some m (sym (mode_in-released_own gs t name) ∙ subst (λ (v : TxnId). mode_in (released gs t) v name ≡ Some m) (sym same) its)

    by : (p q : Bool) → is_txn t a ≡ p → is_txn t u ≡ q → ⊥
    by true q e f = gone a Exclusive (is_txn-true t a e) held
    by false true e f = gone u mode (is_txn-true t u f) beside
    by false false e f = all name a u mode apart (sym (mode_in-released_other gs t a name e) ∙ held) (sym (mode_in-released_other gs t u name f) ∙ beside)

-- ---- the locks of a call, one by one

-- with a conflict known to be none, or the grants as they are
either_free : (P : List Grant → Type 0) (o : Option TxnId) (gs more : List Grant) → P gs → (o ≡ None → P more) → P (option_map_or (λ by. gs) o more)
either_free P None gs more p q = q refl
either_free P (Some by) gs more p q = p

-- what each free grant keeps holds when they are taken
pub kept_taken : (P : List Grant → Type 0) (t : TxnId) → ((gs : List Grant) (name : LockName) (mode : LockMode) → conflict gs t name mode ≡ None → P gs → P (granted gs t name mode))
    → (gs : List Grant) (locks : List Lock) → P gs → P (taken gs t locks)
kept_taken P t keeps gs [] p = p
kept_taken P t keeps gs (lock ∷ locks) p =
    either_free P (conflict gs t lock.name lock.mode) gs (taken (granted gs t lock.name lock.mode) t locks) p
    (λ free. kept_taken P t keeps (granted gs t lock.name lock.mode) locks (keeps gs lock.name lock.mode free p))

pub HasLock-taken : (gs : List Grant) (t : TxnId) (asked : List Lock) (v : TxnId) (lock : Lock) → HasLock gs v lock → HasLock (taken gs t asked) v lock
HasLock-taken gs t asked v lock has = kept_taken (λ (hs : List Grant). HasLock hs v lock) t (λ hs name mode free h. HasLock-granted hs t name mode v lock h) gs asked has

pub HasLocks-taken : (gs : List Grant) (t : TxnId) (asked : List Lock) (v : TxnId) (locks : List Lock) → HasLocks gs v locks → HasLocks (taken gs t asked) v locks
HasLocks-taken gs t asked v locks has = kept_taken (λ (hs : List Grant). HasLocks hs v locks) t (λ hs name mode free h. HasLocks-granted hs t name mode v locks h) gs asked has

pub AreExclusive-taken : (gs : List Grant) (t : TxnId) (asked : List Lock) → AreExclusive gs → AreExclusive (taken gs t asked)
AreExclusive-taken gs t asked all = kept_taken AreExclusive t (λ hs name mode free h. AreExclusive-granted hs t name mode free h) gs asked all

-- another transaction's mode is as before
pub mode_in-taken_other : (gs : List Grant) (t u : TxnId) (asked : List Lock) (name : LockName) → is_txn t u ≡ false → mode_in (taken gs t asked) u name ≡ mode_in gs u name
mode_in-taken_other gs t u asked name apart =
    kept_taken (λ (hs : List Grant). mode_in hs u name ≡ mode_in gs u name) t (λ hs other mode free h. mode_in-granted_other hs t u other name mode apart ∙ h) gs asked refl

-- where none stands against the locks, all are held
pub against_none : (gs : List Grant) (t : TxnId) (lock : Lock) (locks : List Lock) → against gs t (lock ∷ locks) ≡ None → (conflict gs t lock.name lock.mode ≡ None) × (against (granted gs t lock.name lock.mode) t locks ≡ None)
against_none gs t lock locks free = by (conflict gs t lock.name lock.mode) free
  where
    by : (o : Option TxnId) → option_map_or (λ by. Some by) o (against (granted gs t lock.name lock.mode) t locks) ≡ None → (o ≡ None) × (against (granted gs t lock.name lock.mode) t locks ≡ None)
    by None e = (refl, e)
    by (Some u) e = absurd (none-some u (sym e))

pub HasLocks-taken_own : (gs : List Grant) (t : TxnId) (locks : List Lock) → against gs t locks ≡ None → HasLocks (taken gs t locks) t locks
HasLocks-taken_own gs t [] free = All-nil (HasLock gs t)
HasLocks-taken_own gs t (lock ∷ locks) free =
    let parts = against_none gs t lock locks free in
    let now = granted gs t lock.name lock.mode in
    let all : HasLocks (taken now t locks) t (lock ∷ locks) =
    All-cons (HasLock (taken now t locks) t) lock locks (HasLock-taken now t locks t lock (HasLock-granted_own gs t lock)) (HasLocks-taken_own now t locks parts.1) in
    rw parts.0 all

-- ---- lists of grants that are alike

pub HasLocks-alike : (a b : List Grant) → Alike a b → (t : TxnId) (locks : List Lock) → HasLocks a t locks → HasLocks b t locks
HasLocks-alike a b alike t locks has =
    All-weaker (HasLock a t) (HasLock b t) (λ lock one. lock_from_mode a b t lock (sym ((alike_answers a b alike t lock.name lock.mode).1)) one) locks has

pub AreExclusive-alike : (a b : List Grant) → Alike a b → AreExclusive a → AreExclusive b
AreExclusive-alike a b alike all name t u mode apart held beside =
    all name t u mode apart ((alike_answers a b alike t name mode).1 ∙ held) ((alike_answers a b alike u name mode).1 ∙ beside)

pub is_held-alike : (a b : List Grant) → Alike a b → (t : TxnId) (name : LockName) → is_held a t name ≡ is_held b t name
is_held-alike a b alike t name = ap (λ (o : Option LockMode). is_some o) (alike_answers a b alike t name Shared).1

pub against-alike : (a b : List Grant) → Alike a b → (t : TxnId) (locks : List Lock) → against a t locks ≡ against b t locks
against-alike a b alike t [] = refl
against-alike a b alike t (lock ∷ locks) =
    ap₂ (λ (o rest : Option TxnId). option_map_or (λ by. Some by) o rest) (alike_answers a b alike t lock.name lock.mode).0
    (against-alike (granted a t lock.name lock.mode) (granted b t lock.name lock.mode) (alike_granted a b alike t lock.name lock.mode) t locks)

pub Alike-taken : (a b : List Grant) → Alike a b → (t : TxnId) (locks : List Lock) → Alike (taken a t locks) (taken b t locks)
Alike-taken a b alike t [] = alike
Alike-taken a b alike t (lock ∷ locks) =
    by (conflict a t lock.name lock.mode) (conflict b t lock.name lock.mode) (alike_answers a b alike t lock.name lock.mode).0
    (Alike-taken (granted a t lock.name lock.mode) (granted b t lock.name lock.mode) (alike_granted a b alike t lock.name lock.mode) t locks)
  where
    by : (o p : Option TxnId) → o ≡ p → Alike (taken (granted a t lock.name lock.mode) t locks) (taken (granted b t lock.name lock.mode) t locks)
        → Alike (option_map_or (λ by. a) o (taken (granted a t lock.name lock.mode) t locks)) (option_map_or (λ by. b) p (taken (granted b t lock.name lock.mode) t locks))
    by None None e more = more
    by None (Some u) e more = absurd (none-some u e)
    by (Some u) None e more = absurd (none-some u (sym e))
    by (Some u) (Some v) e more = alike
