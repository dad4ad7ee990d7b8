-- The sentences of a script. Each event has one text: its words, with one space between each two. Numbers are decimal,
-- without leading zeros. An epoch is LOSS.NUMBER, a transaction LOSS.NUMBER.N, and members are numbers joined by commas.
use Rattle.std.specs.Prelude.{◌≡◌, ◌<◌, ◌≤◌, ◌^◌, ℕ, List, [], ◌∷◌, map, codes, decimal, IsTrue}
use Rattle.std.specs.List.{join_with_byte}
use Rattle.rc_base.specs.declared.ids.Epoch.{Epoch}
use Rattle.rc_base.specs.declared.ids.TxnId.{TxnId}
use Rattle.rc_base.specs.Names.{is_name}
use Rattle.coll_model.specs.declared.op.Kind.TheVariants as kinds
use Rattle.coll_model.specs.Rows.{kind_word}
use Rattle.events.specs.declared.event.Event.{Event}
use Rattle.events.specs.declared.event.Event.TheVariants.{Boot, Client, Arm, Crash, Reboot, Inspect, Survey, Appoint, Activate}
use Rattle.events.specs.declared.call.Call.{Call}
use Rattle.events.specs.declared.call.Call.TheVariants as calls
use Rattle.events.specs.declared.call.KeyCall.{KeyCall}
use Rattle.events.specs.declared.call.KeyCall.TheVariants.{Get, GetForUpdate, Set, Add, Delete}
use Rattle.script_text.specs.Letters.{is_key_word, is_value_word}

-- ---- words

-- 46 is a full stop
abbrev pub epoch_text : Epoch → List ℕ
epoch_text e = join_with_byte 46 (decimal e.loss ∷ decimal e.number ∷ [])

abbrev pub txn_text : TxnId → List ℕ
txn_text t = join_with_byte 46 (decimal t.epoch.loss ∷ decimal t.epoch.number ∷ decimal t.n ∷ [])

-- 44 is a comma
abbrev pub members_text : List ℕ → List ℕ
members_text members = join_with_byte 44 (map decimal members)

-- ---- sentences

-- the first word of a call on a key, and the value that it gives, if any
abbrev pub key_verb : KeyCall → List ℕ
key_verb Get = codes "get"
key_verb GetForUpdate = codes "getu"
key_verb (Set value) = codes "set"
key_verb (Add value) = codes "add"
key_verb Delete = codes "del"

abbrev pub value_words : KeyCall → List (List ℕ)
value_words Get = []
value_words GetForUpdate = []
value_words (Set value) = value ∷ []
value_words (Add value) = value ∷ []
value_words Delete = []

-- the words of a call's sentence at a replica: one line for each form
abbrev pub words_at : ℕ → Call → List (List ℕ)
words_at r calls.Begin = codes "begin" ∷ decimal r ∷ []
words_at r (calls.Make t name kind) = codes "make" ∷ decimal r ∷ txn_text t ∷ name ∷ kind_word kind ∷ []
words_at r (calls.OnKey t name key call) = key_verb call ∷ decimal r ∷ txn_text t ∷ name ∷ key ∷ value_words call
words_at r (calls.Commit t) = codes "commit" ∷ decimal r ∷ txn_text t ∷ []
words_at r (calls.Abort t) = codes "abort" ∷ decimal r ∷ txn_text t ∷ []

-- the words of an event's sentence
abbrev pub words_of : Event → List (List ℕ)
words_of (Boot p members) = codes "boot" ∷ decimal p ∷ members_text members ∷ []
words_of (Client r call) = words_at r call
words_of (Arm r calls) = codes "arm" ∷ decimal r ∷ decimal calls ∷ []
words_of (Crash r pick) = codes "crash" ∷ decimal r ∷ decimal pick ∷ []
words_of (Reboot r) = codes "reboot" ∷ decimal r ∷ []
words_of (Inspect r) = codes "inspect" ∷ decimal r ∷ []
words_of (Survey r e) = codes "survey" ∷ decimal r ∷ epoch_text e ∷ []
words_of (Appoint e p members) = codes "appoint" ∷ epoch_text e ∷ decimal p ∷ members_text members ∷ []
words_of (Activate e) = codes "activate" ∷ epoch_text e ∷ []

-- 32 is a space
abbrev pub text_of : Event → List ℕ
text_of event = join_with_byte 32 (words_of event)

-- ---- which values have a text, and which sentences are built

abbrev pub IsEpoch : Epoch → Type 0
IsEpoch e = (e.loss < 2 ^ 32) × (e.number < 2 ^ 32)

abbrev pub IsTxn : TxnId → Type 0
IsTxn t = IsEpoch t.epoch × (t.n < 2 ^ 64)

-- an epoch before the first declared loss, and a transaction of such an epoch: no loss can be declared yet
abbrev pub IsBuiltEpoch : Epoch → Type 0
IsBuiltEpoch e = IsEpoch e × (e.loss ≡ 0)

abbrev pub IsBuiltTxn : TxnId → Type 0
IsBuiltTxn t = IsTxn t × (t.epoch.loss ≡ 0)

-- the value that a call gives to a key is a value's word
abbrev pub GivesValueWord : KeyCall → Type 0
GivesValueWord Get = Unit {0}
GivesValueWord GetForUpdate = Unit {0}
GivesValueWord (Set value) = IsTrue (is_value_word value)
GivesValueWord (Add value) = IsTrue (is_value_word value)
GivesValueWord Delete = Unit {0}

-- the words of a call have their letters and lengths, and its collections are of a kind that is built
abbrev pub IsBuiltCall : Call → Type 0
IsBuiltCall calls.Begin = Unit {0}
IsBuiltCall (calls.Make t name kind) = IsBuiltTxn t × IsTrue (is_name name) × (kind ≡ kinds.Dict)
IsBuiltCall (calls.OnKey t name key call) = IsBuiltTxn t × IsTrue (is_name name) × IsTrue (is_key_word key) × GivesValueWord call
IsBuiltCall (calls.Commit t) = IsBuiltTxn t
IsBuiltCall (calls.Abort t) = IsBuiltTxn t

-- Replica 0 is the one there is, and alone in each configuration; no epoch has a declared loss. A disk is armed for its
-- first later call, or one after it.
abbrev pub IsBuilt : Event → Type 0
IsBuilt (Boot p members) = (p ≡ 0) × (members ≡ 0 ∷ [])
IsBuilt (Client r call) = (r ≡ 0) × IsBuiltCall call
IsBuilt (Arm r calls) = (r ≡ 0) × (1 ≤ calls) × (calls < 2 ^ 64)
IsBuilt (Crash r pick) = (r ≡ 0) × (pick < 2 ^ 64)
IsBuilt (Reboot r) = r ≡ 0
IsBuilt (Inspect r) = r ≡ 0
IsBuilt (Survey r e) = (r ≡ 0) × IsBuiltEpoch e
IsBuilt (Appoint e p members) = IsBuiltEpoch e × (p ≡ 0) × (members ≡ 0 ∷ [])
IsBuilt (Activate e) = IsBuiltEpoch e

-- ---- lines

-- the line is this event's sentence
pub record Spells (line : List ℕ) (event : Event) : Type 0 where
  pub text : line ≡ text_of event
  pub built : IsBuilt event

-- An empty line, and a line that begins with `#`, which is 35, is skipped.
abbrev pub IsSkipped : List ℕ → Type 0
IsSkipped [] = Unit {0}
IsSkipped (byte ∷ bytes) = byte ≡ 35

-- a line that is neither skipped nor a sentence
pub record IsBad (line : List ℕ) : Type 0 where
  pub not_skipped : IsSkipped line → ⊥
  pub no_sentence : (event : Event) → Spells line event → ⊥
