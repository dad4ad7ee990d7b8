-- What a call is answered at states that look the same, and what it logs.
use Rattle.std.proofs.Common.{◌≡◌, ◌∙◌, ℕ, true, List, [], ◌∷◌, Option, Some, None, option_map, option_and_then, refl, sym, ap, subst}
use Rattle.std.proofs.lemmas.Option.{none-some, same_Some}
use Rattle.std.proofs.lemmas.List.Elements.{All-head, All-tail}
use Rattle.rc_base.specs.declared.ids.TxnId.{TxnId}
use Rattle.coll_model.specs.declared.op.Kind.{Kind}
use Rattle.coll_model.specs.declared.op.Op.{Op}
use Rattle.coll_model.specs.declared.op.Op.TheVariants as ops
use Rattle.coll_model.specs.declared.contents.Contents.{Contents}
use Rattle.coll_model.specs.declared.contents.Contents.TheVariants.{Dict, Queue}
use Rattle.coll_model.specs.Effect.{State, at_key, kind_of}
use Rattle.key_locks.specs.declared.lock_name.LockName.TheVariants.{Name, Key}
use Rattle.key_locks.specs.declared.lock_mode.LockMode.{LockMode}
use Rattle.key_locks.specs.declared.lock_mode.LockMode.TheVariants.{Shared, Exclusive}
use Rattle.key_locks.specs.Grants.{Grant}
use Rattle.events.specs.declared.call.Call.{Call}
use Rattle.events.specs.declared.call.Call.TheVariants.{Begin, Make, OnKey, Commit, Abort}
use Rattle.events.specs.declared.call.KeyCall.{KeyCall}
use Rattle.events.specs.declared.call.KeyCall.TheVariants.{Get, GetForUpdate, Set, Add, Delete}
use Rattle.events.specs.declared.answer.Reply.{Reply}
use Rattle.events.specs.Locking.{Lock, key_mode, on_key, in_dictionary, locks_at}
use Rattle.events.specs.Answers.{added, deleted, key_reply, make_reply, dictionary_reply, reply_at}
use Rattle.coll_laws.specs.Effects.{name_of}
use Rattle.lock_laws.specs.Protected.{HasLock, HasLocks, is_held, kind_at, value_in, value_at, LooksSame, locks_of, Finds}
use Rattle.lock_laws.proofs.ProtectedStates.{HasLock-held}

-- ---- contents of one kind, with one value at a key

-- what depends on the kind and on the value of the key alone
by_contents : {X : Type 0} (f : Option Contents → X) (key : List ℕ) → ((v w : List (List ℕ)) → f (Some (Queue v)) ≡ f (Some (Queue w)))
    → ((p q : List (List ℕ × List ℕ)) → at_key key p ≡ at_key key q → f (Some (Dict p)) ≡ f (Some (Dict q)))
    → (o p : Option Contents) → option_map kind_of o ≡ option_map kind_of p → option_and_then (value_in key) o ≡ option_and_then (value_in key) p → f o ≡ f p
by_contents f key queues dicts None None kinds values = refl
by_contents f key queues dicts None (Some (Dict q)) kinds values = absurd (cc)
by_contents f key queues dicts None (Some (Queue w)) kinds values = absurd (cc)
by_contents f key queues dicts (Some (Dict p)) None kinds values = absurd (cc)
by_contents f key queues dicts (Some (Queue v)) None kinds values = absurd (cc)
by_contents f key queues dicts (Some (Dict p)) (Some (Dict q)) kinds values = dicts p q values
by_contents f key queues dicts (Some (Queue v)) (Some (Queue w)) kinds values = queues v w
by_contents f key queues dicts (Some (Dict p)) (Some (Queue w)) kinds values = absurd (cc)
by_contents f key queues dicts (Some (Queue v)) (Some (Dict q)) kinds values = absurd (cc)

-- what depends on the kind alone
by_kind : {X : Type 0} (f : Option Contents → X) → ((v w : List (List ℕ)) → f (Some (Queue v)) ≡ f (Some (Queue w))) → ((p q : List (List ℕ × List ℕ)) → f (Some (Dict p)) ≡ f (Some (Dict q)))
    → (o p : Option Contents) → option_map kind_of o ≡ option_map kind_of p → f o ≡ f p
by_kind f queues dicts None None kinds = refl
by_kind f queues dicts None (Some (Dict q)) kinds = absurd (cc)
by_kind f queues dicts None (Some (Queue w)) kinds = absurd (cc)
by_kind f queues dicts (Some (Dict p)) None kinds = absurd (cc)
by_kind f queues dicts (Some (Queue v)) None kinds = absurd (cc)
by_kind f queues dicts (Some (Dict p)) (Some (Dict q)) kinds = dicts p q
by_kind f queues dicts (Some (Queue v)) (Some (Queue w)) kinds = queues v w
by_kind f queues dicts (Some (Dict p)) (Some (Queue w)) kinds = absurd (cc)
by_kind f queues dicts (Some (Queue v)) (Some (Dict q)) kinds = absurd (cc)

make_by : (name : List ℕ) (kind : Kind) (o p : Option Contents) → option_map kind_of o ≡ option_map kind_of p → make_reply name kind o ≡ make_reply name kind p
make_by name kind o p same = by_kind (make_reply name kind) (λ v w. refl) (λ v w. refl) o p same

on_key_by : (name key : List ℕ) (mode : LockMode) (o p : Option Contents) → option_map kind_of o ≡ option_map kind_of p → on_key name key mode o ≡ on_key name key mode p
on_key_by name key mode o p same = by_kind (on_key name key mode) (λ v w. refl) (λ v w. refl) o p same

dictionary_by : (name key : List ℕ) (call : KeyCall) (o p : Option Contents) → option_map kind_of o ≡ option_map kind_of p → option_and_then (value_in key) o ≡ option_and_then (value_in key) p
    → dictionary_reply name key call o ≡ dictionary_reply name key call p
dictionary_by name key call o p same values = by_contents (dictionary_reply name key call) key (λ v w. refl) (λ v w e. ap (key_reply name key call) e) o p same values

-- ---- states that look the same

module _ (gs : List Grant) (t : TxnId) (a b : State) (looks : LooksSame gs t a b) where
  -- under the locks on a name and a key
  name_held : (name key : List ℕ) (mode : LockMode) → HasLocks gs t (in_dictionary name key mode a) → is_held gs t (Name name) ≡ true
  name_held name key mode has =
      HasLock-held gs t (record { name = Name name; mode = Shared }) (All-head (HasLock gs t) (record { name = Name name; mode = Shared }) (on_key name key mode (at_key name a)) has)

  kinds_seen : (name key : List ℕ) (mode : LockMode) → HasLocks gs t (in_dictionary name key mode a) → kind_at name a ≡ kind_at name b
  kinds_seen name key mode has = looks.kinds name (name_held name key mode has)

  -- no value stands where there is no dictionary
  no_values : (key : List ℕ) (o p : Option Contents) → option_map kind_of o ≡ option_map kind_of p → option_and_then (value_in key) o ≡ None → ((pairs : List (List ℕ × List ℕ)) → o ≡ Some (Dict pairs) → ⊥)
      → option_and_then (value_in key) o ≡ option_and_then (value_in key) p
  no_values key (Some (Dict pairs)) p same none off = absurd (off pairs refl)
  no_values key None None same none off = refl
  no_values key None (Some (Dict q)) same none off = absurd (cc)
  no_values key None (Some (Queue w)) same none off = absurd (cc)
  no_values key (Some (Queue v)) None same none off = absurd (cc)
  no_values key (Some (Queue v)) (Some (Queue w)) same none off = refl
  no_values key (Some (Queue v)) (Some (Dict q)) same none off = absurd (cc)

  key_lock : (name key : List ℕ) (mode : LockMode) (pairs : List (List ℕ × List ℕ)) → HasLocks gs t (record { name = Name name; mode = Shared } ∷ on_key name key mode (Some (Dict pairs))) → is_held gs t (Key name key) ≡ true
  key_lock name key mode pairs has =
      HasLock-held gs t (record { name = Key name key; mode = mode })
      (All-head (HasLock gs t) (record { name = Key name key; mode = mode }) [] (All-tail (HasLock gs t) (record { name = Name name; mode = Shared }) (record { name = Key name key; mode = mode } ∷ []) has))

  values_seen : (name key : List ℕ) (mode : LockMode) → HasLocks gs t (in_dictionary name key mode a) → value_at name key a ≡ value_at name key b
  values_seen name key mode has = by (at_key name a) refl
    where
      held : is_held gs t (Name name) ≡ true
      held = name_held name key mode has

      by : (o : Option Contents) → at_key name a ≡ o → value_at name key a ≡ value_at name key b
      by None e =
          no_values key (at_key name a) (at_key name b) (looks.kinds name held) (ap (option_and_then (value_in key)) e) (λ pairs is. none-some (Dict pairs) (sym e ∙ is))
      by (Some (Queue values)) e =
          no_values key (at_key name a) (at_key name b) (looks.kinds name held) (ap (option_and_then (value_in key)) e)
          (λ pairs is. let bad : Queue values ≡ Dict pairs = same_Some (Queue values) (Dict pairs) (sym e ∙ is) in cc)
      by (Some (Dict pairs)) e =
          let P : Option Contents → Type 0 = λ o. HasLocks gs t (record { name = Name name; mode = Shared } ∷ on_key name key mode o) in
          looks.values name key held (key_lock name key mode pairs (subst P e has))

  dictionary_locks : (name key : List ℕ) (mode : LockMode) → HasLocks gs t (in_dictionary name key mode a) → in_dictionary name key mode a ≡ in_dictionary name key mode b
  dictionary_locks name key mode has =
      ap (λ (rest : List Lock). record { name = Name name; mode = Shared } ∷ rest) (on_key_by name key mode (at_key name a) (at_key name b) (kinds_seen name key mode has))

  -- a call asks for the same locks
  pub locks_at_same : (call : Call) → HasLocks gs t (locks_at a call) → locks_at a call ≡ locks_at b call
  locks_at_same Begin has = refl
  locks_at_same (Make u name kind) has = refl
  locks_at_same (OnKey u name key call) has = dictionary_locks name key (key_mode call) has
  locks_at_same (Commit u) has = refl
  locks_at_same (Abort u) has = refl

  -- and has the same answer
  pub reply_at_same : (call : Call) → HasLocks gs t (locks_at a call) → reply_at a call ≡ reply_at b call
  reply_at_same Begin has = refl
  reply_at_same (Make u name kind) has =
      let held = HasLock-held gs t (record { name = Name name; mode = Exclusive }) (All-head (HasLock gs t) (record { name = Name name; mode = Exclusive }) [] has) in
      ap (λ (r : Reply). Some r) (make_by name kind (at_key name a) (at_key name b) (looks.kinds name held))
  reply_at_same (OnKey u name key call) has =
      ap (λ (r : Reply). Some r) (dictionary_by name key call (at_key name a) (at_key name b) (kinds_seen name key (key_mode call) has) (values_seen name key (key_mode call) has))
  reply_at_same (Commit u) has = refl
  reply_at_same (Abort u) has = refl

-- ---- what a call logs

-- an operation that was logged by a call at the state: it needs the locks that the call asked for, and finds what it is for
pub record IsLogged (state : State) (call : Call) (op : Op) : Type 0 where
  pub locks : locks_of op ≡ locks_at state call
  pub found : Finds op (kind_at (name_of op) state)

-- the operation on a key of a dictionary
on_pairs : (state : State) (name key : List ℕ) (pairs : List (List ℕ × List ℕ)) → at_key name state ≡ Some (Dict pairs)
    → record { name = Name name; mode = Shared } ∷ record { name = Key name key; mode = Exclusive } ∷ [] ≡ in_dictionary name key Exclusive state
on_pairs state name key pairs e = ap (λ (o : Option Contents). record { name = Name name; mode = Shared } ∷ on_key name key Exclusive o) (sym e)

made_logged : (state : State) (t : TxnId) (name : List ℕ) (kind : Kind) (op : Op) (o : Option Contents) → at_key name state ≡ o → (make_reply name kind o).op ≡ Some op → IsLogged state (Make t name kind) op
made_logged state t name kind op None e logged =
    subst (IsLogged state (Make t name kind)) (same_Some (ops.Make name kind) op logged) (record { locks = refl; found = ap (option_map kind_of) e })
made_logged state t name kind op (Some contents) e logged = absurd (none-some op logged)

-- a call on a key of a dictionary, by the key's value
added_logged : (state : State) (t : TxnId) (name key value : List ℕ) (op : Op) (pairs : List (List ℕ × List ℕ)) → at_key name state ≡ Some (Dict pairs) → (present : Option (List ℕ)) → (added name key value present).op ≡ Some op
    → IsLogged state (OnKey t name key (Add value)) op
added_logged state t name key value op pairs e None put =
    subst (IsLogged state (OnKey t name key (Add value))) (same_Some (ops.Put name key value) op put) (record { locks = on_pairs state name key pairs e; found = ap (option_map kind_of) e })
added_logged state t name key value op pairs e (Some present) put = absurd (none-some op put)

deleted_logged : (state : State) (t : TxnId) (name key : List ℕ) (op : Op) (pairs : List (List ℕ × List ℕ)) → at_key name state ≡ Some (Dict pairs) → (present : Option (List ℕ)) → (deleted name key present).op ≡ Some op
    → IsLogged state (OnKey t name key Delete) op
deleted_logged state t name key op pairs e None gone = absurd (none-some op gone)
deleted_logged state t name key op pairs e (Some present) gone =
    subst (IsLogged state (OnKey t name key Delete)) (same_Some (ops.Del name key) op gone) (record { locks = on_pairs state name key pairs e; found = ap (option_map kind_of) e })

key_logged : (state : State) (t : TxnId) (name key : List ℕ) (call : KeyCall) (op : Op) (pairs : List (List ℕ × List ℕ)) → at_key name state ≡ Some (Dict pairs) → (present : Option (List ℕ)) → (key_reply name key call present).op ≡ Some op
    → IsLogged state (OnKey t name key call) op
key_logged state t name key Get op pairs e present logged = absurd (none-some op logged)
key_logged state t name key GetForUpdate op pairs e present logged = absurd (none-some op logged)
key_logged state t name key (Set value) op pairs e present logged =
    subst (IsLogged state (OnKey t name key (Set value))) (same_Some (ops.Put name key value) op logged) (record { locks = on_pairs state name key pairs e; found = ap (option_map kind_of) e })
key_logged state t name key (Add value) op pairs e present logged = added_logged state t name key value op pairs e present logged
key_logged state t name key Delete op pairs e present logged = deleted_logged state t name key op pairs e present logged

dictionary_logged : (state : State) (t : TxnId) (name key : List ℕ) (call : KeyCall) (op : Op) (o : Option Contents) → at_key name state ≡ o → (dictionary_reply name key call o).op ≡ Some op → IsLogged state (OnKey t name key call) op
dictionary_logged state t name key call op None e logged = absurd (none-some op logged)
dictionary_logged state t name key call op (Some (Queue values)) e logged = absurd (none-some op logged)
dictionary_logged state t name key call op (Some (Dict pairs)) e logged = key_logged state t name key call op pairs e (at_key key pairs) logged

-- the operation of the one reply is that of the other
op_of : (x reply : Reply) (op : Op) → Some x ≡ Some reply → reply.op ≡ Some op → x.op ≡ Some op
op_of x reply op e f = ap (λ (r : Reply). r.op) (same_Some x reply e) ∙ f

pub logged_at : (state : State) (call : Call) (reply : Reply) (op : Op) → reply_at state call ≡ Some reply → reply.op ≡ Some op → IsLogged state call op
logged_at state Begin reply op e f = absurd (none-some reply e)
logged_at state (Make t name kind) reply op e f = made_logged state t name kind op (at_key name state) refl (op_of (make_reply name kind (at_key name state)) reply op e f)
logged_at state (OnKey t name key call) reply op e f =
    dictionary_logged state t name key call op (at_key name state) refl (op_of (dictionary_reply name key call (at_key name state)) reply op e f)
logged_at state (Commit t) reply op e f = absurd (none-some reply e)
logged_at state (Abort t) reply op e f = absurd (none-some reply e)

-- so a transaction that holds the locks of the call holds those of the operation
pub locks_of_logged : (gs : List Grant) (t : TxnId) (state : State) (call : Call) (reply : Reply) (op : Op) → reply_at state call ≡ Some reply → reply.op ≡ Some op → HasLocks gs t (locks_at state call) → HasLocks gs t (locks_of op)
locks_of_logged gs t state call reply op e f has = subst (HasLocks gs t) (sym (logged_at state call reply op e f).locks) has
