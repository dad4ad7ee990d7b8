-- What operations do to what a transaction sees through its locks.
use Rattle.std.proofs.Common.{◌≡◌, ◌∙◌, ◌≢◌, ◌⊎◌, inl, inr, ℕ, Bool, true, false, nat_eq, List, [], ◌∷◌, Option, Some, None, option_map, option_and_then, is_some, cond, refl, sym, ap, ap₂, subst}
use Rattle.std.specs.Cmp.Lexicographic.{pointwise}
use Rattle.std.proofs.lemmas.Option.{none-some, same_Some}
use Rattle.std.proofs.lemmas.List.Elements.{All-head, All-tail}
use Rattle.rc_base.specs.declared.ids.TxnId.{TxnId}
use Rattle.rc_base.specs.Ids.{is_txn}
use Rattle.rc_base.proofs.SameIds.{is_txn_equivalence}
use Rattle.coll_model.specs.declared.op.Kind.{Kind}
use Rattle.coll_model.specs.declared.op.Kind.TheVariants as kinds
use Rattle.coll_model.specs.declared.op.Op.{Op}
use Rattle.coll_model.specs.declared.op.Op.TheVariants.{Make, Unmake, Put, Del, Push, Pop}
use Rattle.coll_model.specs.declared.contents.Contents.{Contents}
use Rattle.coll_model.specs.declared.contents.Contents.TheVariants.{Dict, Queue}
use Rattle.coll_model.specs.Effect.{State, at_key, kind_of, fresh, put, del, push, pop, effect, folded, changed_at}
use Rattle.key_locks.specs.declared.lock_name.LockName.{LockName}
use Rattle.key_locks.specs.declared.lock_name.LockName.TheVariants.{Name, Key}
use Rattle.key_locks.specs.declared.lock_mode.LockMode.{LockMode}
use Rattle.key_locks.specs.declared.lock_mode.LockMode.TheVariants.{Shared, Update, Exclusive}
use Rattle.key_locks.specs.Grants.{Grant, stronger, mode_in}
use Rattle.events.specs.Locking.{Lock}
use Rattle.coll_laws.specs.Rising.{AreRising}
use Rattle.coll_laws.specs.Effects.{name_of, after}
use Rattle.lock_laws.specs.Protected.{HasLock, HasLocks, AreExclusive, is_held, kind_at, value_in, value_at, LooksSame, locks_of, on_item, AreLocked}
use Rattle.lock_laws.specs.OrderedStates.{IsOrdered}
use Rattle.events.proofs.Lists.{some_of}
use Rattle.coll_laws.proofs.Effects.{at_effect_other, at_effect_own, rising_effect}
use Rattle.coll_laws.proofs.Entries.{cases_text, at_with_other, at_without_other, at_changed_same, at_with, at_without, rising-nil, rising_with, rising_without}

-- ---- kinds and values after an operation

abbrev pub kind_after : Op → Option Kind → Option Kind
kind_after (Make name kind) None = Some kind
kind_after (Make name kind) (Some old) = Some old
kind_after (Unmake name) kind = None
kind_after (Put name key value) kind = kind
kind_after (Del name key) kind = kind
kind_after (Push name value) kind = kind
kind_after (Pop name) kind = kind

-- a value is put into a dictionary alone
abbrev pub put_after : List ℕ → List ℕ → List ℕ → Option Kind → Option (List ℕ) → Option (List ℕ)
put_after key value other None old = old
put_after key value other (Some kinds.Queue) old = old
put_after key value other (Some kinds.Dict) old = cond (pointwise nat_eq other key) (Some value) old

-- the value of a key in the collection of the operation's name
abbrev pub value_after : Op → List ℕ → Option Kind → Option (List ℕ) → Option (List ℕ)
value_after (Make name kind) other found old = old
value_after (Unmake name) other found old = None
value_after (Put name key value) other found old = put_after key value other found old
value_after (Del name key) other found old = cond (pointwise nat_eq other key) None old
value_after (Push name value) other found old = old
value_after (Pop name) other found old = old

pub same_kind : (f : Contents → Contents) → ((c : Contents) → kind_of (f c) ≡ kind_of c) → (o : Option Contents) → option_map kind_of (option_map f o) ≡ option_map kind_of o
same_kind f same None = refl
same_kind f same (Some c) = ap (λ (k : Kind). Some k) (same c)

pub put_kind : (key value : List ℕ) (c : Contents) → kind_of (put key value c) ≡ kind_of c
put_kind key value (Dict pairs) = refl
put_kind key value (Queue values) = refl

pub del_kind : (key : List ℕ) (c : Contents) → kind_of (del key c) ≡ kind_of c
del_kind key (Dict pairs) = refl
del_kind key (Queue values) = refl

pub push_kind : (value : List ℕ) (c : Contents) → kind_of (push value c) ≡ kind_of c
push_kind value (Dict pairs) = refl
push_kind value (Queue values) = refl

pub pop_kind : (c : Contents) → kind_of (pop c) ≡ kind_of c
pop_kind (Dict pairs) = refl
pop_kind (Queue values) = refl

fresh_kind : (kind : Kind) → kind_of (fresh kind) ≡ kind
fresh_kind kinds.Dict = refl
fresh_kind kinds.Queue = refl

pub after_kind : (op : Op) (o : Option Contents) → option_map kind_of (after op o) ≡ kind_after op (option_map kind_of o)
after_kind (Make name kind) None = ap (λ (k : Kind). Some k) (fresh_kind kind)
after_kind (Make name kind) (Some c) = refl
after_kind (Unmake name) o = refl
after_kind (Put name key value) o = same_kind (put key value) (put_kind key value) o
after_kind (Del name key) o = same_kind (del key) (del_kind key) o
after_kind (Push name value) o = same_kind (push value) (push_kind value) o
after_kind (Pop name) o = same_kind pop pop_kind o

no_value : (b : Bool) (old : Option (List ℕ)) → old ≡ None → old ≡ cond b None old
no_value true old e = e
no_value false old e = refl

fresh_value : (other : List ℕ) (kind : Kind) → value_in other (fresh kind) ≡ None
fresh_value other kinds.Dict = refl
fresh_value other kinds.Queue = refl

-- the pairs of a dictionary rise
abbrev pub HasRising : Contents → Type 0
HasRising (Dict pairs) = AreRising pairs
HasRising (Queue values) = Unit {0}

pub after_value : (op : Op) (other : List ℕ) (o : Option Contents) → ((c : Contents) → o ≡ Some c → HasRising c)
    → option_and_then (value_in other) (after op o) ≡ value_after op other (option_map kind_of o) (option_and_then (value_in other) o)
after_value (Make name kind) other None rising = fresh_value other kind
after_value (Make name kind) other (Some c) rising = refl
after_value (Unmake name) other o rising = refl
after_value (Put name key value) other None rising = refl
after_value (Put name key value) other (Some (Queue values)) rising = refl
after_value (Put name key value) other (Some (Dict pairs)) rising = at_with other key value pairs
after_value (Del name key) other None rising = no_value (pointwise nat_eq other key) None refl
after_value (Del name key) other (Some (Queue values)) rising = no_value (pointwise nat_eq other key) None refl
after_value (Del name key) other (Some (Dict pairs)) rising = at_without other key pairs (rising (Dict pairs) refl)
after_value (Push name value) other None rising = refl
after_value (Push name value) other (Some (Queue values)) rising = refl
after_value (Push name value) other (Some (Dict pairs)) rising = refl
after_value (Pop name) other None rising = refl
after_value (Pop name) other (Some (Queue values)) rising = refl
after_value (Pop name) other (Some (Dict pairs)) rising = refl

-- ---- states stay in order

put_rising : (key value : List ℕ) (contents : Contents) → HasRising contents → HasRising (put key value contents)
put_rising key value (Dict pairs) rising = rising_with key value pairs rising
put_rising key value (Queue values) rising = tt

del_rising : (key : List ℕ) (contents : Contents) → HasRising contents → HasRising (del key contents)
del_rising key (Dict pairs) rising = rising_without key pairs rising
del_rising key (Queue values) rising = tt

push_rising : (value : List ℕ) (contents : Contents) → HasRising contents → HasRising (push value contents)
push_rising value (Dict pairs) rising = rising
push_rising value (Queue values) rising = tt

pop_rising : (contents : Contents) → HasRising contents → HasRising (pop contents)
pop_rising (Dict pairs) rising = rising
pop_rising (Queue values) rising = tt

fresh_rising : (kind : Kind) → HasRising (fresh kind)
fresh_rising kinds.Dict = rising-nil (List ℕ)
fresh_rising kinds.Queue = tt

mapped_rising : (f : Contents → Contents) → ((c : Contents) → HasRising c → HasRising (f c)) → (o : Option Contents) → ((c : Contents) → o ≡ Some c → HasRising c) → (c : Contents) → option_map f o ≡ Some c → HasRising c
mapped_rising f keeps None all c e = absurd (none-some c e)
mapped_rising f keeps (Some d) all c e = subst HasRising (same_Some (f d) c e) (keeps d (all d refl))

after_rising : (op : Op) (o : Option Contents) → ((c : Contents) → o ≡ Some c → HasRising c) → (c : Contents) → after op o ≡ Some c → HasRising c
after_rising (Make name kind) None all c e = subst HasRising (same_Some (fresh kind) c e) (fresh_rising kind)
after_rising (Make name kind) (Some d) all c e = all c e
after_rising (Unmake name) o all c e = absurd (none-some c e)
after_rising (Put name key value) o all c e = mapped_rising (put key value) (put_rising key value) o all c e
after_rising (Del name key) o all c e = mapped_rising (del key) (del_rising key) o all c e
after_rising (Push name value) o all c e = mapped_rising (push value) (push_rising value) o all c e
after_rising (Pop name) o all c e = mapped_rising pop pop_rising o all c e

pub contents_rising : (state : State) → IsOrdered state → (name : List ℕ) (c : Contents) → at_key name state ≡ Some c → HasRising c
contents_rising state ordered name (Dict pairs) e = ordered.keys name pairs e
contents_rising state ordered name (Queue values) e = tt

pub IsOrdered-nil : IsOrdered []
IsOrdered-nil = record { names = rising-nil Contents; keys = λ name pairs e. absurd (none-some (Dict pairs) e) }

pub IsOrdered-effect : (state : State) (op : Op) → IsOrdered state → IsOrdered (effect state op)
IsOrdered-effect state op ordered = record { names = rising_effect state op ordered.names; keys = λ name pairs e. by name pairs e (cases_text name (name_of op)) }
  where
    own : (name : List ℕ) (c : Contents) → name ≡ name_of op → at_key name (effect state op) ≡ Some c → HasRising c
    own name c same e =
        after_rising op (at_key (name_of op) state) (contents_rising state ordered (name_of op)) c
        (sym (at_effect_own state op ordered.names) ∙ subst (λ (n : List ℕ). at_key n (effect state op) ≡ Some c) same e)

    by : (name : List ℕ) (pairs : List (List ℕ × List ℕ)) → at_key name (effect state op) ≡ Some (Dict pairs) → (name ≡ name_of op) ⊎ (name ≢ name_of op) → AreRising pairs
    by name pairs e (inl same) = own name (Dict pairs) same e
    by name pairs e (inr apart) = ordered.keys name pairs (sym (at_effect_other state op name apart) ∙ e)

pub IsOrdered-folded : (state : State) (ops : List Op) → IsOrdered state → IsOrdered (folded state ops)
IsOrdered-folded state [] ordered = ordered
IsOrdered-folded state (op ∷ ops) ordered = IsOrdered-folded (effect state op) ops (IsOrdered-effect state op ordered)

-- ---- kinds and values at a state after an operation

pub kind_at-effect_other : (state : State) (op : Op) (name : List ℕ) → name ≢ name_of op → kind_at name (effect state op) ≡ kind_at name state
kind_at-effect_other state op name apart = ap (option_map kind_of) (at_effect_other state op name apart)

pub kind_at-effect_own : (state : State) (op : Op) → IsOrdered state → kind_at (name_of op) (effect state op) ≡ kind_after op (kind_at (name_of op) state)
kind_at-effect_own state op ordered = ap (option_map kind_of) (at_effect_own state op ordered.names) ∙ after_kind op (at_key (name_of op) state)

pub value_at-effect_other : (state : State) (op : Op) (name key : List ℕ) → name ≢ name_of op → value_at name key (effect state op) ≡ value_at name key state
value_at-effect_other state op name key apart = ap (option_and_then (value_in key)) (at_effect_other state op name apart)

pub value_at-effect_own : (state : State) (op : Op) (key : List ℕ) → IsOrdered state → value_at (name_of op) key (effect state op) ≡ value_after op key (kind_at (name_of op) state) (value_at (name_of op) key state)
value_at-effect_own state op key ordered =
    ap (option_and_then (value_in key)) (at_effect_own state op ordered.names)
    ∙ after_value op key (at_key (name_of op) state) (contents_rising state ordered (name_of op))

-- ---- states that look the same

pub LooksSame-itself : (gs : List Grant) (t : TxnId) (a : State) → LooksSame gs t a a
LooksSame-itself gs t a = record { kinds = λ name held. refl; values = λ name key held here. refl }

pub LooksSame-sym : (gs : List Grant) (t : TxnId) (a b : State) → LooksSame gs t a b → LooksSame gs t b a
LooksSame-sym gs t a b looks = record { kinds = λ name held. sym (looks.kinds name held); values = λ name key held here. sym (looks.values name key held here) }

pub LooksSame-trans : (gs : List Grant) (t : TxnId) (a b c : State) → LooksSame gs t a b → LooksSame gs t b c → LooksSame gs t a c
LooksSame-trans gs t a b c one two = record {
  kinds = λ name held. one.kinds name held ∙ two.kinds name held;
  values = λ name key held here. one.values name key held here ∙ two.values name key held here;
}

-- by the same operation, on whatever name
pub LooksSame-effect : (gs : List Grant) (t : TxnId) (a b : State) (op : Op) → IsOrdered a → IsOrdered b → LooksSame gs t a b → LooksSame gs t (effect a op) (effect b op)
LooksSame-effect gs t a b op in_a in_b looks = record {
  kinds = λ name held. kind name held (cases_text name (name_of op));
  values = λ name key held here. value name key held here (cases_text name (name_of op));
}
  where
    kind : (name : List ℕ) → is_held gs t (Name name) ≡ true → (name ≡ name_of op) ⊎ (name ≢ name_of op) → kind_at name (effect a op) ≡ kind_at name (effect b op)
    kind name held (inl same) =
        let P : List ℕ → Type 0 = λ n. kind_at n (effect a op) ≡ kind_at n (effect b op) in
        subst P (sym same)
        (kind_at-effect_own a op in_a ∙ ap (kind_after op) (subst (λ (n : List ℕ). kind_at n a ≡ kind_at n b) same (looks.kinds name held)) ∙ sym (kind_at-effect_own b op in_b))
    kind name held (inr apart) = kind_at-effect_other a op name apart ∙ looks.kinds name held ∙ sym (kind_at-effect_other b op name apart)

    value : (name key : List ℕ) → is_held gs t (Name name) ≡ true → is_held gs t (Key name key) ≡ true → (name ≡ name_of op) ⊎ (name ≢ name_of op) → value_at name key (effect a op) ≡ value_at name key (effect b op)
    value name key held here (inl same) =
        let P : List ℕ → Type 0 = λ n. value_at n key (effect a op) ≡ value_at n key (effect b op) in
        subst P (sym same)
        (value_at-effect_own a op key in_a
        ∙ ap₂ (value_after op key) (subst (λ (n : List ℕ). kind_at n a ≡ kind_at n b) same (looks.kinds name held)) (subst (λ (n : List ℕ). value_at n key a ≡ value_at n key b) same (looks.values name key held here))
        ∙ sym (value_at-effect_own b op key in_b))
    value name key held here (inr apart) = value_at-effect_other a op name key apart ∙ looks.values name key held here ∙ sym (value_at-effect_other b op name key apart)

pub LooksSame-folded : (gs : List Grant) (t : TxnId) (a b : State) (ops : List Op) → IsOrdered a → IsOrdered b → LooksSame gs t a b → LooksSame gs t (folded a ops) (folded b ops)
LooksSame-folded gs t a b [] in_a in_b looks = looks
LooksSame-folded gs t a b (op ∷ ops) in_a in_b looks =
    LooksSame-folded gs t (effect a op) (effect b op) ops (IsOrdered-effect a op in_a) (IsOrdered-effect b op in_b) (LooksSame-effect gs t a b op in_a in_b looks)

-- ---- operations of another transaction

stronger_exclusive : (mode : LockMode) → stronger mode Exclusive ≡ Exclusive
stronger_exclusive Shared = refl
stronger_exclusive Update = refl
stronger_exclusive Exclusive = refl

pub HasLock-held : (gs : List Grant) (t : TxnId) (lock : Lock) → HasLock gs t lock → is_held gs t lock.name ≡ true
HasLock-held gs t lock has = ap (λ (o : Option LockMode). is_some o) has.held

-- what another transaction holds exclusively isn't held
pub held_alone : (gs : List Grant) (t u : TxnId) (name : LockName) → AreExclusive gs → is_txn t u ≡ false → HasLock gs u (record { name = name; mode = Exclusive }) → is_held gs t name ≡ true → ⊥
held_alone gs t u name all apart has held =
    let exclusive : has.mode ≡ Exclusive = sym has.enough ∙ stronger_exclusive has.mode in
    let mine = some_of (mode_in gs t name) held in
    all name u t mine.0 (is_txn_equivalence.symm u t ∙ apart) (has.held ∙ ap (λ (m : LockMode). Some m) exclusive) mine.1

first_lock : (gs : List Grant) (u : TxnId) (a : Lock) (rest : List Lock) → HasLocks gs u (a ∷ rest) → HasLock gs u a
first_lock gs u a rest has = All-head (HasLock gs u) a rest has

second_lock : (gs : List Grant) (u : TxnId) (a b : Lock) (rest : List Lock) → HasLocks gs u (a ∷ b ∷ rest) → HasLock gs u b
second_lock gs u a b rest has = All-head (HasLock gs u) b rest (All-tail (HasLock gs u) a (b ∷ rest) has)

-- a change of what stands under a name changes no kind
pub changed_kind : (state : State) (name : List ℕ) (f : Contents → Contents) → ((c : Contents) → kind_of (f c) ≡ kind_of c) → kind_at name state ≡ kind_at name (changed_at name f state)
changed_kind state name f same = sym (ap (option_map kind_of) (at_changed_same name f state) ∙ same_kind f same (at_key name state))

changed_value : (state : State) (name key : List ℕ) (f : Contents → Contents) → ((c : Contents) → value_in key (f c) ≡ value_in key c) → value_at name key state ≡ value_at name key (changed_at name f state)
changed_value state name key f same = sym (ap (option_and_then (value_in key)) (at_changed_same name f state) ∙ by (at_key name state))
  where
    by : (o : Option Contents) → option_and_then (value_in key) (option_map f o) ≡ option_and_then (value_in key) o
    by None = refl
    by (Some c) = same c

put_value : (key value other : List ℕ) → other ≢ key → (c : Contents) → value_in other (put key value c) ≡ value_in other c
put_value key value other apart (Dict pairs) = at_with_other other key value pairs apart
put_value key value other apart (Queue values) = refl

del_value : (key other : List ℕ) → other ≢ key → (c : Contents) → value_in other (del key c) ≡ value_in other c
del_value key other apart (Dict pairs) = at_without_other other key pairs apart
del_value key other apart (Queue values) = refl

push_value : (value other : List ℕ) (c : Contents) → value_in other (push value c) ≡ value_in other c
push_value value other (Dict pairs) = refl
push_value value other (Queue values) = refl

pop_value : (other : List ℕ) (c : Contents) → value_in other (pop c) ≡ value_in other c
pop_value other (Dict pairs) = refl
pop_value other (Queue values) = refl

module _ (gs : List Grant) (t u : TxnId) (all : AreExclusive gs) (apart : is_txn t u ≡ false) where
  foreign_kind : (a : State) (op : Op) → HasLocks gs u (locks_of op) → is_held gs t (Name (name_of op)) ≡ true → kind_at (name_of op) a ≡ kind_at (name_of op) (effect a op)
  foreign_kind a (Make name kind) has held = absurd (held_alone gs t u (Name name) all apart (first_lock gs u (record { name = Name name; mode = Exclusive }) [] has) held)
  foreign_kind a (Unmake name) has held = absurd (held_alone gs t u (Name name) all apart (first_lock gs u (record { name = Name name; mode = Exclusive }) [] has) held)
  foreign_kind a (Put name key value) has held = changed_kind a name (put key value) (put_kind key value)
  foreign_kind a (Del name key) has held = changed_kind a name (del key) (del_kind key)
  foreign_kind a (Push name value) has held = changed_kind a name (push value) (push_kind value)
  foreign_kind a (Pop name) has held = changed_kind a name pop pop_kind

  -- the key of another one's operation isn't held
  other_key : (name key other : List ℕ) → HasLocks gs u (on_item name (Key name key)) → is_held gs t (Key name other) ≡ true → other ≢ key
  other_key name key other has held same =
      held_alone gs t u (Key name key) all apart (second_lock gs u (record { name = Name name; mode = Shared }) (record { name = Key name key; mode = Exclusive }) [] has)
      (subst (λ (k : List ℕ). is_held gs t (Key name k) ≡ true) same held)

  foreign_value : (a : State) (op : Op) (key : List ℕ) → HasLocks gs u (locks_of op) → is_held gs t (Name (name_of op)) ≡ true → is_held gs t (Key (name_of op) key) ≡ true
      → value_at (name_of op) key a ≡ value_at (name_of op) key (effect a op)
  foreign_value a (Make name kind) other has held here = absurd (held_alone gs t u (Name name) all apart (first_lock gs u (record { name = Name name; mode = Exclusive }) [] has) held)
  foreign_value a (Unmake name) other has held here = absurd (held_alone gs t u (Name name) all apart (first_lock gs u (record { name = Name name; mode = Exclusive }) [] has) held)
  foreign_value a (Put name key value) other has held here = changed_value a name other (put key value) (put_value key value other (other_key name key other has here))
  foreign_value a (Del name key) other has held here = changed_value a name other (del key) (del_value key other (other_key name key other has here))
  foreign_value a (Push name value) other has held here = changed_value a name other (push value) (push_value value other)
  foreign_value a (Pop name) other has held here = changed_value a name other pop (pop_value other)

  pub LooksSame-foreign : (a : State) (op : Op) → HasLocks gs u (locks_of op) → LooksSame gs t a (effect a op)
  LooksSame-foreign a op has = record {
    kinds = λ name held. kind name held (cases_text name (name_of op));
    values = λ name key held here. value name key held here (cases_text name (name_of op));
  }
    where
      kind : (name : List ℕ) → is_held gs t (Name name) ≡ true → (name ≡ name_of op) ⊎ (name ≢ name_of op) → kind_at name a ≡ kind_at name (effect a op)
      kind name held (inl same) =
          subst (λ (n : List ℕ). kind_at n a ≡ kind_at n (effect a op)) (sym same) (foreign_kind a op has (subst (λ (n : List ℕ). is_held gs t (Name n) ≡ true) same held))
      kind name held (inr off) = sym (kind_at-effect_other a op name off)

      value : (name key : List ℕ) → is_held gs t (Name name) ≡ true → is_held gs t (Key name key) ≡ true → (name ≡ name_of op) ⊎ (name ≢ name_of op) → value_at name key a ≡ value_at name key (effect a op)
      value name key held here (inl same) =
          subst (λ (n : List ℕ). value_at n key a ≡ value_at n key (effect a op)) (sym same)
          (foreign_value a op key has (subst (λ (n : List ℕ). is_held gs t (Name n) ≡ true) same held) (subst (λ (n : List ℕ). is_held gs t (Key n key) ≡ true) same here))
      value name key held here (inr off) = sym (value_at-effect_other a op name key off)

  pub LooksSame-foreign_folded : (a : State) (ops : List Op) → AreLocked gs u ops → LooksSame gs t a (folded a ops)
  LooksSame-foreign_folded a [] locked = LooksSame-itself gs t a
  LooksSame-foreign_folded a (op ∷ ops) locked =
      LooksSame-trans gs t a (effect a op) (folded a (op ∷ ops)) (LooksSame-foreign a op (All-head (λ o. HasLocks gs u (locks_of o)) op ops locked))
      (LooksSame-foreign_folded (effect a op) ops (All-tail (λ o. HasLocks gs u (locks_of o)) op ops locked))
