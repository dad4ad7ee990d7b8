-- What a transaction sees of its own operations over a state, by the newest operation on each item.
use Rattle.std.proofs.Common.{◌≡◌, ◌∙◌, ◌≢◌, ◌⊎◌, inl, inr, ℕ, Bool, true, false, ◌||◌, cond, nat_eq, List, [], ◌∷◌, ◌++◌, Option, Some, None, option_map, option_and_then, filter_map, refl, sym, ap, subst}
use Rattle.std.specs.List.{cons_option}
use Rattle.std.specs.Cmp.Lexicographic.{pointwise, same_text, nat_list_eq_equiv}
use Rattle.std.proofs.lemmas.Bool.{false≢true, false_from_ne_true, and_left}
use Rattle.std.proofs.lemmas.Option.{none-some, same_Some}
use Rattle.std.proofs.lemmas.List.Elements.{All-head, All-tail}
use Rattle.rc_base.specs.declared.ids.TxnId.{TxnId}
use Rattle.coll_model.specs.declared.op.Kind.{Kind}
use Rattle.coll_model.specs.declared.op.Op.{Op}
use Rattle.coll_model.specs.declared.op.Op.TheVariants.{Make, Unmake, Put, Del, Push, Pop}
use Rattle.coll_model.specs.declared.contents.Contents.{Contents}
use Rattle.coll_model.specs.Effect.{State, at_key, kind_of, effect, folded}
use Rattle.key_locks.specs.declared.lock_name.LockName.TheVariants.{Name, Key, Head, Tail}
use Rattle.key_locks.specs.declared.lock_mode.LockMode.TheVariants.{Shared, Exclusive}
use Rattle.key_locks.specs.Grants.{Grant}
use Rattle.events.specs.Calls.{CallRecord}
use Rattle.events.specs.Locking.{Lock}
use Rattle.lock_laws.specs.Protected.{HasLock, HasLocks, is_held, kind_at, value_in, value_at, LooksSame, locks_of, AreLocked, Finds, AreProtected}
use Rattle.lock_laws.specs.OrderedStates.{IsOrdered}
use Rattle.lock_laws.specs.OwnOperations.{AreEffective, decides, or_earlier, newest}
use Rattle.coll_laws.specs.Effects.{name_of}
use Rattle.coll_laws.proofs.Entries.{cases_text}
use Rattle.lock_laws.proofs.ProtectedStates.{kind_after, put_after, kind_at-effect_own, kind_at-effect_other, value_at-effect_own, value_at-effect_other, IsOrdered-effect, HasLock-held}
use Rattle.lock_laws.proofs.ProtectedCalls.{call_logged}

-- ---- operations that find what they are for do so at a state that looks the same

first_held : (gs : List Grant) (t : TxnId) (lock : Lock) (rest : List Lock) → HasLocks gs t (lock ∷ rest) → is_held gs t lock.name ≡ true
first_held gs t lock rest has = HasLock-held gs t lock (All-head (HasLock gs t) lock rest has)

name_held : (gs : List Grant) (t : TxnId) (op : Op) → HasLocks gs t (locks_of op) → is_held gs t (Name (name_of op)) ≡ true
name_held gs t (Make name kind) has = first_held gs t (record { name = Name name; mode = Exclusive }) [] has
name_held gs t (Unmake name) has = first_held gs t (record { name = Name name; mode = Exclusive }) [] has
name_held gs t (Put name key value) has = first_held gs t (record { name = Name name; mode = Shared }) (record { name = Key name key; mode = Exclusive } ∷ []) has
name_held gs t (Del name key) has = first_held gs t (record { name = Name name; mode = Shared }) (record { name = Key name key; mode = Exclusive } ∷ []) has
name_held gs t (Push name value) has = first_held gs t (record { name = Name name; mode = Shared }) (record { name = Tail name; mode = Exclusive } ∷ []) has
name_held gs t (Pop name) has = first_held gs t (record { name = Name name; mode = Shared }) (record { name = Head name; mode = Exclusive } ∷ []) has

abbrev SameKinds : List Grant → TxnId → State → State → Type 0
SameKinds gs t a b = (name : List ℕ) → is_held gs t (Name name) ≡ true → kind_at name a ≡ kind_at name b

same_kinds_effect : (gs : List Grant) (t : TxnId) (a b : State) (op : Op) → IsOrdered a → IsOrdered b → SameKinds gs t a b → is_held gs t (Name (name_of op)) ≡ true → SameKinds gs t (effect a op) (effect b op)
same_kinds_effect gs t a b op in_a in_b same here name held = by (cases_text name (name_of op))
  where
    by : (name ≡ name_of op) ⊎ (name ≢ name_of op) → kind_at name (effect a op) ≡ kind_at name (effect b op)
    by (inl own) =
        subst (λ (n : List ℕ). kind_at n (effect a op) ≡ kind_at n (effect b op)) (sym own)
        (kind_at-effect_own a op in_a ∙ ap (kind_after op) (same (name_of op) here) ∙ sym (kind_at-effect_own b op in_b))
    by (inr apart) = kind_at-effect_other a op name apart ∙ same name held ∙ sym (kind_at-effect_other b op name apart)

effective_by_kinds : (gs : List Grant) (t : TxnId) (a b : State) (ops : List Op) → IsOrdered a → IsOrdered b → SameKinds gs t a b → AreLocked gs t ops → AreEffective a ops → AreEffective b ops
effective_by_kinds gs t a b [] in_a in_b same locked effective = tt
effective_by_kinds gs t a b (op ∷ ops) in_a in_b same locked effective =
    let held = name_held gs t op (All-head (λ o. HasLocks gs t (locks_of o)) op ops locked) in (
      subst (Finds op) (same (name_of op) held) effective.0,
      effective_by_kinds gs t (effect a op) (effect b op) ops (IsOrdered-effect a op in_a) (IsOrdered-effect b op in_b) (same_kinds_effect gs t a b op in_a in_b same held)
          (All-tail (λ o. HasLocks gs t (locks_of o)) op ops locked) effective.1,
    )

pub AreEffective-looks_same : (gs : List Grant) (t : TxnId) (a b : State) (ops : List Op) → IsOrdered a → IsOrdered b → LooksSame gs t a b → AreLocked gs t ops → AreEffective a ops → AreEffective b ops
AreEffective-looks_same gs t a b ops in_a in_b looks locked effective = effective_by_kinds gs t a b ops in_a in_b looks.kinds locked effective

pub AreEffective-push : (state : State) (ops : List Op) (op : Op) → AreEffective state ops → Finds op (kind_at (name_of op) (folded state ops)) → AreEffective state (ops ++ op ∷ [])
AreEffective-push state [] op effective found = (found, tt)
AreEffective-push state (first ∷ ops) op effective found = (effective.0, AreEffective-push (effect state first) ops op effective.1 found)

-- ---- the operations of calls

pub AreEffective-from_protected : (gs : List Grant) (t : TxnId) (state : State) (calls : List CallRecord) → AreProtected gs t state calls → AreEffective state (filter_map (λ c. c.op) calls)
AreEffective-from_protected gs t state [] all = tt
AreEffective-from_protected gs t state (call ∷ calls) all =
    by call.op refl (AreEffective-from_protected gs t (folded state (cons_option call.op [])) calls all.1)
  where
    by : (o : Option Op) → call.op ≡ o → AreEffective (folded state (cons_option call.op [])) (filter_map (λ c. c.op) calls) → AreEffective state (cons_option o (filter_map (λ c. c.op) calls))
    by None is later = subst (λ (o : Option Op). AreEffective (folded state (cons_option o [])) (filter_map (λ c. c.op) calls)) is later
    by (Some op) is later =
        ((call_logged gs t state call op is all.0).found, subst (λ (o : Option Op). AreEffective (folded state (cons_option o [])) (filter_map (λ c. c.op) calls)) is later)

-- ---- the kind under a name

-- a make gives its kind, and an end takes it
abbrev pub kind_by : Option Op → Option Kind → Option Kind
kind_by (Some (Make name kind)) there = Some kind
kind_by (Some (Unmake name)) there = None
kind_by _ there = there

-- the operations that decide a name are makes and ends, so what stood there before doesn't tell
kind_told : (name : List ℕ) (op : Op) → decides (Name name) op ≡ true → (x y : Option Kind) → kind_by (Some op) x ≡ kind_by (Some op) y
kind_told name (Make other kind) own x y = refl
kind_told name (Unmake other) own x y = refl
kind_told name (Put other key value) own x y = absurd (false≢true own)
kind_told name (Del other key) own x y = absurd (false≢true own)
kind_told name (Push other value) own x y = absurd (false≢true own)
kind_told name (Pop other) own x y = absurd (false≢true own)

newest_told : (name : List ℕ) (ops : List Op) (op : Op) → newest (Name name) ops ≡ Some op → (x y : Option Kind) → kind_by (Some op) x ≡ kind_by (Some op) y
newest_told name [] op e = absurd (none-some op e)
newest_told name (first ∷ ops) op e = by (newest_told name ops op) (decides (Name name) first) refl (newest (Name name) ops) refl e
  where
    by : (newest (Name name) ops ≡ Some op → (x y : Option Kind) → kind_by (Some op) x ≡ kind_by (Some op) y) → (b : Bool) → decides (Name name) first ≡ b → (n : Option Op) → newest (Name name) ops ≡ n → cond b (or_earlier n first) n ≡ Some op → (x y : Option Kind) → kind_by (Some op) x ≡ kind_by (Some op) y
    by rest false at n is here = rest (is ∙ here)
    by rest true at (Some later) is here = rest (is ∙ here)
    by rest true at None is here = λ x y. subst (λ (o : Op). kind_by (Some o) x ≡ kind_by (Some o) y) (same_Some first op here) (kind_told name first at x y)

abbrev Told : Option Op → Type 0
Told n = (later : Op) → n ≡ Some later → (x y : Option Kind) → kind_by (Some later) x ≡ kind_by (Some later) y

-- behind an operation that decides the name
kind_decided : (op : Op) (n : Option Op) (now there : Option Kind) → now ≡ kind_by (Some op) there → Told n → kind_by n now ≡ kind_by (or_earlier n op) there
kind_decided op None now there e told = e
kind_decided op (Some later) now there e told = told later refl now there

-- under the name of the operation
kind_step_own : (state : State) (op : Op) → IsOrdered state → Finds op (kind_at (name_of op) state) → (n : Option Op) → Told n
    → kind_by n (kind_at (name_of op) (effect state op)) ≡ kind_by (cond (decides (Name (name_of op)) op) (or_earlier n op) n) (kind_at (name_of op) state)
kind_step_own state (Make name kind) ordered found n told =
    rw (nat_list_eq_equiv.refl name)
    (kind_decided (Make name kind) n (kind_at name (effect state (Make name kind))) (kind_at name state) (kind_at-effect_own state (Make name kind) ordered ∙ ap (kind_after (Make name kind)) found) told)
kind_step_own state (Unmake name) ordered found n told =
    rw (nat_list_eq_equiv.refl name)
    (kind_decided (Unmake name) n (kind_at name (effect state (Unmake name))) (kind_at name state) (kind_at-effect_own state (Unmake name) ordered) told)
kind_step_own state (Put name key value) ordered found n told = ap (kind_by n) (kind_at-effect_own state (Put name key value) ordered)
kind_step_own state (Del name key) ordered found n told = ap (kind_by n) (kind_at-effect_own state (Del name key) ordered)
kind_step_own state (Push name value) ordered found n told = ap (kind_by n) (kind_at-effect_own state (Push name value) ordered)
kind_step_own state (Pop name) ordered found n told = ap (kind_by n) (kind_at-effect_own state (Pop name) ordered)

-- under another name
other_text_false : (a b : List ℕ) → a ≢ b → pointwise nat_eq a b ≡ false
other_text_false a b apart = false_from_ne_true (pointwise nat_eq a b) (λ e. apart (same_text a b (sym e)))

off_name : (name : List ℕ) (op : Op) → name ≢ name_of op → decides (Name name) op ≡ false
off_name name (Make other kind) apart = rw (other_text_false name other apart) refl
off_name name (Unmake other) apart = rw (other_text_false name other apart) refl
off_name name (Put other key value) apart = refl
off_name name (Del other key) apart = refl
off_name name (Push other value) apart = refl
off_name name (Pop other) apart = refl

kind_step : (name : List ℕ) (state : State) (op : Op) → IsOrdered state → Finds op (kind_at (name_of op) state) → (n : Option Op) → Told n
    → kind_by n (kind_at name (effect state op)) ≡ kind_by (cond (decides (Name name) op) (or_earlier n op) n) (kind_at name state)
kind_step name state op ordered found n told = by (cases_text name (name_of op))
  where
    by : (name ≡ name_of op) ⊎ (name ≢ name_of op) → kind_by n (kind_at name (effect state op)) ≡ kind_by (cond (decides (Name name) op) (or_earlier n op) n) (kind_at name state)
    by (inl same) =
        subst (λ (m : List ℕ). kind_by n (kind_at m (effect state op)) ≡ kind_by (cond (decides (Name m) op) (or_earlier n op) n) (kind_at m state)) (sym same) (kind_step_own state op ordered found n told)
    by (inr apart) = rw (off_name name op apart) (ap (kind_by n) (kind_at-effect_other state op name apart))

pub kind_own : (name : List ℕ) (state : State) (ops : List Op) → IsOrdered state → AreEffective state ops → kind_at name (folded state ops) ≡ kind_by (newest (Name name) ops) (kind_at name state)
kind_own name state [] ordered effective = refl
kind_own name state (op ∷ ops) ordered effective =
    kind_own name (effect state op) ops (IsOrdered-effect state op ordered) effective.1
    ∙ kind_step name state op ordered effective.0 (newest (Name name) ops) (λ later e. newest_told name ops later e)

-- ---- the value of a key

-- a put gives its value, and another operation that decides a key leaves none there
abbrev pub value_by : Option Op → Option (List ℕ) → Option (List ℕ)
value_by None there = there
value_by (Some (Put name key value)) there = Some value
value_by (Some _) there = None

-- what stood there before doesn't tell behind an operation
value_told : (op : Op) (x y : Option (List ℕ)) → value_by (Some op) x ≡ value_by (Some op) y
value_told (Make name kind) x y = refl
value_told (Unmake name) x y = refl
value_told (Put name key value) x y = refl
value_told (Del name key) x y = refl
value_told (Push name value) x y = refl
value_told (Pop name) x y = refl

put_one : (b : Bool) (name key value : List ℕ) (old : Option (List ℕ)) → cond b (Some value) old ≡ value_by (cond (b || false) (Some (Put name key value)) None) old
put_one true name key value old = refl
put_one false name key value old = refl

del_one : (b : Bool) (name key : List ℕ) (old : Option (List ℕ)) → cond b None old ≡ value_by (cond (b || false) (Some (Del name key)) None) old
del_one true name key old = refl
del_one false name key old = refl

-- no collection has no value
nowhere : (key : List ℕ) (o : Option Contents) → option_map kind_of o ≡ None → option_and_then (value_in key) o ≡ None
nowhere key None e = refl
nowhere key (Some c) e = absurd (none-some (kind_of c) (sym e))

-- in the collection of the operation's name
value_one_own : (key : List ℕ) (state : State) (op : Op) → IsOrdered state → Finds op (kind_at (name_of op) state)
    → value_at (name_of op) key (effect state op) ≡ value_by (cond (decides (Key (name_of op) key) op) (Some op) None) (value_at (name_of op) key state)
value_one_own key state (Make name kind) ordered found =
    rw (nat_list_eq_equiv.refl name) (value_at-effect_own state (Make name kind) key ordered ∙ nowhere key (at_key name state) found)
value_one_own key state (Unmake name) ordered found = rw (nat_list_eq_equiv.refl name) (value_at-effect_own state (Unmake name) key ordered)
value_one_own key state (Put name other value) ordered found =
    rw (nat_list_eq_equiv.refl name)
    (value_at-effect_own state (Put name other value) key ordered ∙ ap (λ (k : Option Kind). put_after other value key k (value_at name key state)) found
    ∙ put_one (pointwise nat_eq key other) name other value (value_at name key state))
value_one_own key state (Del name other) ordered found =
    rw (nat_list_eq_equiv.refl name) (value_at-effect_own state (Del name other) key ordered ∙ del_one (pointwise nat_eq key other) name other (value_at name key state))
value_one_own key state (Push name value) ordered found = value_at-effect_own state (Push name value) key ordered
value_one_own key state (Pop name) ordered found = value_at-effect_own state (Pop name) key ordered

off_key : (name key : List ℕ) (op : Op) → name ≢ name_of op → decides (Key name key) op ≡ false
off_key name key (Make other kind) apart = other_text_false name other apart
off_key name key (Unmake other) apart = other_text_false name other apart
off_key name key (Put other k value) apart = ap (λ (b : Bool). b || false) (and_left (pointwise nat_eq name other) (pointwise nat_eq key k) (other_text_false name other apart))
off_key name key (Del other k) apart = ap (λ (b : Bool). b || false) (and_left (pointwise nat_eq name other) (pointwise nat_eq key k) (other_text_false name other apart))
off_key name key (Push other value) apart = refl
off_key name key (Pop other) apart = refl

value_one : (name key : List ℕ) (state : State) (op : Op) → IsOrdered state → Finds op (kind_at (name_of op) state)
    → value_at name key (effect state op) ≡ value_by (cond (decides (Key name key) op) (Some op) None) (value_at name key state)
value_one name key state op ordered found = by (cases_text name (name_of op))
  where
    by : (name ≡ name_of op) ⊎ (name ≢ name_of op) → value_at name key (effect state op) ≡ value_by (cond (decides (Key name key) op) (Some op) None) (value_at name key state)
    by (inl same) =
        subst (λ (m : List ℕ). value_at m key (effect state op) ≡ value_by (cond (decides (Key m key) op) (Some op) None) (value_at m key state)) (sym same) (value_one_own key state op ordered found)
    by (inr apart) = rw (off_key name key op apart) (value_at-effect_other state op name key apart)

later_told : (b : Bool) (later op : Op) (x y : Option (List ℕ)) → value_by (Some later) x ≡ value_by (cond b (Some later) (Some later)) y
later_told true later op x y = value_told later x y
later_told false later op x y = value_told later x y

value_step : (name key : List ℕ) (state : State) (op : Op) → IsOrdered state → Finds op (kind_at (name_of op) state) → (n : Option Op)
    → value_by n (value_at name key (effect state op)) ≡ value_by (cond (decides (Key name key) op) (or_earlier n op) n) (value_at name key state)
value_step name key state op ordered found None = value_one name key state op ordered found
value_step name key state op ordered found (Some later) = later_told (decides (Key name key) op) later op (value_at name key (effect state op)) (value_at name key state)

pub value_own : (name key : List ℕ) (state : State) (ops : List Op) → IsOrdered state → AreEffective state ops
    → value_at name key (folded state ops) ≡ value_by (newest (Key name key) ops) (value_at name key state)
value_own name key state [] ordered effective = refl
value_own name key state (op ∷ ops) ordered effective =
    value_own name key (effect state op) ops (IsOrdered-effect state op ordered) effective.1 ∙ value_step name key state op ordered effective.0 (newest (Key name key) ops)
