-- The locks of a call, asked for one after another, and its answer by them.
use Rattle.std.proofs.Common.{◌≡◌, ◌∙◌, ℕ, List, [], ◌∷◌, Option, Some, None, refl, sym, ap, subst}
use Rattle.std.specs.Prelude.{option_map, option_and_then}
use Rattle.std.specs.Option.{option_map_or}
use Rattle.rc_base.specs.declared.ids.TxnId.{TxnId}
use Rattle.coll_model.specs.declared.op.Kind.{Kind}
use Rattle.coll_model.specs.declared.op.Kind.TheVariants as kinds
use Rattle.coll_model.specs.declared.contents.Contents.{Contents}
use Rattle.coll_model.specs.declared.contents.Contents.TheVariants.{Dict, Queue}
use Rattle.coll_model.specs.Effect.{State, at_key, kind_of}
use Rattle.key_locks.specs.declared.lock_name.LockName.{LockName}
use Rattle.key_locks.specs.declared.lock_name.LockName.TheVariants.{Name, Key}
use Rattle.key_locks.specs.declared.lock_mode.LockMode.{LockMode}
use Rattle.key_locks.specs.declared.lock_mode.LockMode.TheVariants.{Shared}
use Rattle.key_locks.specs.Grants.{Grant, conflict, granted, Alike}
use Rattle.key_locks.proofs.Flat.{alike_answers}
use Rattle.events.specs.declared.call.Call.TheVariants.{OnKey}
use Rattle.events.specs.declared.call.KeyCall.{KeyCall}
use Rattle.events.specs.declared.answer.Answer.{Answer}
use Rattle.events.specs.declared.answer.Answer.TheVariants as answers
use Rattle.events.specs.declared.answer.Reply.{Reply}
use Rattle.events.specs.Answers.{plain, key_reply, dictionary_reply, live_reply, locked_or}
use Rattle.events.specs.Locking.{Lock, key_mode, in_dictionary, on_key, against, taken}
use Rattle.lock_laws.specs.Protected.{kind_at, value_at, value_in}
use Rattle.lock_laws.proofs.ProtectedGrants.{Alike-taken}
use Rattle.txn_front.specs.OnKey.{refused, refusal}

abbrev Grants : Type 0
Grants = List Grant

same-alike : (a b : Grants) → a ≡ b → Alike a b
same-alike a b e = subst (λ (gs : Grants). Alike a gs) e (λ name. refl)

-- ---- grants

-- where another stands against the first lock nothing is granted
pub taken_stopped : (gs : Grants) (t : TxnId) (lock : Lock) (locks : List Lock) (by : TxnId) → conflict gs t lock.name lock.mode ≡ Some by → taken gs t (lock ∷ locks) ≡ gs
taken_stopped gs t lock locks by e = ap (λ (o : Option TxnId). option_map_or (λ by. gs) o (taken (granted gs t lock.name lock.mode) t locks)) e

pub taken_more : (gs : Grants) (t : TxnId) (lock : Lock) (locks : List Lock) → conflict gs t lock.name lock.mode ≡ None
    → taken gs t (lock ∷ locks) ≡ taken (granted gs t lock.name lock.mode) t locks
taken_more gs t lock locks e = ap (λ (o : Option TxnId). option_map_or (λ by. gs) o (taken (granted gs t lock.name lock.mode) t locks)) e

pub stopped_alike : (gs new : Grants) (t : TxnId) (lock : Lock) (locks : List Lock) (by : TxnId) → conflict gs t lock.name lock.mode ≡ Some by
    → Alike new (taken gs t (lock ∷ [])) → Alike new (taken gs t (lock ∷ locks))
stopped_alike gs new t lock locks by e h = subst (λ (hs : Grants). Alike new hs) (taken_stopped gs t lock [] by e ∙ sym (taken_stopped gs t lock locks by e)) h

-- one lock was granted, and then the others are asked for
pub first_alike : (gs mid : Grants) (t : TxnId) (lock : Lock) (locks : List Lock) → conflict gs t lock.name lock.mode ≡ None
    → Alike mid (taken gs t (lock ∷ [])) → Alike (taken mid t locks) (taken gs t (lock ∷ locks))
first_alike gs mid t lock locks e h =
    let one : Alike mid (granted gs t lock.name lock.mode) = subst (λ (hs : Grants). Alike mid hs) (taken_more gs t lock [] e) h in
    subst (λ (hs : Grants). Alike (taken mid t locks) hs) (sym (taken_more gs t lock locks e)) (Alike-taken mid (granted gs t lock.name lock.mode) one t locks)

pub then_alike : (gs mid new : Grants) (t : TxnId) (lock : Lock) (locks : List Lock) → conflict gs t lock.name lock.mode ≡ None
    → Alike mid (taken gs t (lock ∷ [])) → Alike new (taken mid t locks) → Alike new (taken gs t (lock ∷ locks))
then_alike gs mid new t lock locks e h k = λ name. k name ∙ first_alike gs mid t lock locks e h name

pub second_conflict : (gs mid : Grants) (t : TxnId) (lock : Lock) (name : LockName) (mode : LockMode) → conflict gs t lock.name lock.mode ≡ None
    → Alike mid (taken gs t (lock ∷ [])) → conflict mid t name mode ≡ conflict (granted gs t lock.name lock.mode) t name mode
second_conflict gs mid t lock name mode e h =
    (alike_answers mid (granted gs t lock.name lock.mode) (subst (λ (hs : Grants). Alike mid hs) (taken_more gs t lock [] e) h) t name mode).0

-- ---- the locks on a key, by the kind of what is under the name

abbrev pub locks_of_kind : List ℕ → List ℕ → LockMode → Option Kind → List Lock
locks_of_kind name key mode None = []
locks_of_kind name key mode (Some kinds.Queue) = []
locks_of_kind name key mode (Some kinds.Dict) = record { name = Key name key; mode = mode } ∷ []

pub on_key-kind : (name key : List ℕ) (mode : LockMode) (o : Option Contents) → on_key name key mode o ≡ locks_of_kind name key mode (option_map kind_of o)
on_key-kind name key mode None = refl
on_key-kind name key mode (Some (Dict pairs)) = refl
on_key-kind name key mode (Some (Queue values)) = refl

-- ---- a call on a key enters

abbrev name_lock : List ℕ → Lock
name_lock name = record { name = Name name; mode = Shared }

pub entered-locked : (gs new : Grants) (t : TxnId) (name key : List ℕ) (mode : LockMode) (state : State) (by : TxnId) → conflict gs t (Name name) Shared ≡ Some by
    → Alike new (taken gs t (name_lock name ∷ [])) → Alike new (taken gs t (in_dictionary name key mode state))
entered-locked gs new t name key mode state by e h = stopped_alike gs new t (name_lock name) (on_key name key mode (at_key name state)) by e h

-- with what is asked for once the kind is known
pub entered-kind : (gs mid new : Grants) (t : TxnId) (name key : List ℕ) (mode : LockMode) (state : State) (kind : Option Kind) → conflict gs t (Name name) Shared ≡ None
    → kind ≡ kind_at name state → Alike mid (taken gs t (name_lock name ∷ [])) → Alike new (taken mid t (locks_of_kind name key mode kind))
    → Alike new (taken gs t (in_dictionary name key mode state))
entered-kind gs mid new t name key mode state kind e f h k =
    then_alike gs mid new t (name_lock name) (on_key name key mode (at_key name state)) e h
    (subst (λ (locks : List Lock). Alike new (taken mid t locks)) (ap (locks_of_kind name key mode) f ∙ sym (on_key-kind name key mode (at_key name state))) k)

-- ---- what stands in the way

pub refusal-locked : (gs : Grants) (t : TxnId) (name key : List ℕ) (mode : LockMode) (kind : Option Kind) (by : TxnId) → conflict gs t (Name name) Shared ≡ Some by
    → refusal gs t name key mode kind ≡ Some (answers.Locked by)
refusal-locked gs t name key mode kind by e =
    ap (λ (o : Option TxnId). option_map_or (λ by. Some (answers.Locked by)) o (refused (granted gs t (Name name) Shared) t name key mode kind)) e

pub refusal-free : (gs : Grants) (t : TxnId) (name key : List ℕ) (mode : LockMode) (kind : Option Kind) → conflict gs t (Name name) Shared ≡ None
    → refusal gs t name key mode kind ≡ refused (granted gs t (Name name) Shared) t name key mode kind
refusal-free gs t name key mode kind e =
    ap (λ (o : Option TxnId). option_map_or (λ by. Some (answers.Locked by)) o (refused (granted gs t (Name name) Shared) t name key mode kind)) e

pub refusal-kind : (gs mid : Grants) (t : TxnId) (name key : List ℕ) (mode : LockMode) (state : State) (kind : Option Kind) → conflict gs t (Name name) Shared ≡ None
    → kind ≡ kind_at name state → Alike mid (taken gs t (name_lock name ∷ [])) → refused mid t name key mode kind ≡ refusal gs t name key mode (kind_at name state)
refusal-kind gs mid t name key mode state kind e f h =
    by kind ∙ sym (refusal-free gs t name key mode kind e) ∙ ap (refusal gs t name key mode) f
  where
    by : (o : Option Kind) → refused mid t name key mode o ≡ refused (granted gs t (Name name) Shared) t name key mode o
    by None = refl
    by (Some kinds.Queue) = refl
    by (Some kinds.Dict) = ap (λ (o : Option TxnId). option_map (λ by. answers.Locked by) o) (second_conflict gs mid t (name_lock name) (Key name key) mode e h)

-- ---- the answer to a call on a key

-- what a refusal says, and what is answered without one
abbrev pub or_keyed : Option Answer → Reply → Reply
or_keyed refused reply = option_map_or plain refused reply

fitting : (gs : Grants) (t : TxnId) (name key : List ℕ) (call : KeyCall) (c : Option TxnId) (o : Option Contents)
    → locked_or (option_map_or (λ by. Some by) c (against gs t (on_key name key (key_mode call) o))) (Some (dictionary_reply name key call o))
    ≡ Some (or_keyed (option_map_or (λ by. Some (answers.Locked by)) c (refused gs t name key (key_mode call) (option_map kind_of o))) (key_reply name key call (option_and_then (value_in key) o)))
fitting gs t name key call (Some by) o = refl
fitting gs t name key call None None = refl
fitting gs t name key call None (Some (Queue values)) = refl
fitting gs t name key call None (Some (Dict pairs)) = by (conflict gs t (Key name key) (key_mode call))
  where
    by : (c : Option TxnId) → locked_or (option_map_or (λ by. Some by) c None) (Some (key_reply name key call (at_key key pairs))) ≡ Some (or_keyed (option_map (λ by. answers.Locked by) c) (key_reply name key call (at_key key pairs)))
    by None = refl
    by (Some u) = refl

told_on_key : (gs : Grants) (t u : TxnId) (name key : List ℕ) (call : KeyCall) (state : State)
    → live_reply gs state t (OnKey u name key call) ≡ Some (or_keyed (refusal gs t name key (key_mode call) (kind_at name state)) (key_reply name key call (value_at name key state)))
told_on_key gs t u name key call state = fitting (granted gs t (Name name) Shared) t name key call (conflict gs t (Name name) Shared) (at_key name state)

-- in the steps of the code
pub told_from : (gs : Grants) (t : TxnId) (name key : List ℕ) (call : KeyCall) (state : State) (mode : LockMode) → mode ≡ key_mode call
    → (stands : Option Answer) → stands ≡ refusal gs t name key mode (kind_at name state) → (reply : Reply) → reply ≡ or_keyed stands (key_reply name key call (value_at name key state))
    → Some reply ≡ live_reply gs state t (OnKey t name key call)
told_from gs t name key call state mode f stands g reply h =
    let same : stands ≡ refusal gs t name key (key_mode call) (kind_at name state) = g ∙ ap (λ (m : LockMode). refusal gs t name key m (kind_at name state)) f in
    ap (λ (r : Reply). Some r) (h ∙ ap (λ (o : Option Answer). or_keyed o (key_reply name key call (value_at name key state))) same) ∙ sym (told_on_key gs t t name key call state)
