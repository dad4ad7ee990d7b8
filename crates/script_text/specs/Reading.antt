-- What words are read as. Each answer is exact: the value whose text it is, or none where it is the text of no value.
use Rattle.std.specs.Prelude.{◌≡◌, ℕ, List, [], ◌∷◌, map, decimal, Option, MatchOption}
use Rattle.std.specs.Borrow.{Bor}
use Rattle.rc_base.specs.declared.ids.Epoch.{Epoch}
use Rattle.rc_base.specs.declared.ids.TxnId.{TxnId}
use Rattle.events.specs.declared.event.Event.{Event}
use Rattle.events.specs.declared.call.Call.{Call}
use Rattle.events.specs.declared.call.KeyCall.{KeyCall}
use Rattle.script_text.specs.Sentence.{words_at, words_of, key_verb, value_words, IsBuilt, IsBuiltCall, GivesValueWord}

-- the texts that slices hold
abbrev pub texts : List (Bor (List ℕ)) → List (List ℕ)
texts slices = map (λ slice. slice.now) slices

-- the parts of an epoch's text and of a transaction's, without the full stops
abbrev pub epoch_parts : Epoch → List (List ℕ)
epoch_parts e = decimal e.loss ∷ decimal e.number ∷ []

abbrev pub txn_parts : TxnId → List (List ℕ)
txn_parts t = decimal t.epoch.loss ∷ decimal t.epoch.number ∷ decimal t.n ∷ []

-- the words are this event's, and its sentence is built
pub record IsSentence (words : List (List ℕ)) (event : Event) : Type 0 where
  pub spelled : words ≡ words_of event
  pub built : IsBuilt event

-- words are read as the event whose sentence they are, or as none where they are no sentence
abbrev pub AreReadAs : List (List ℕ) → Option Event → Type 0
AreReadAs words read = MatchOption read ((event : Event) → IsSentence words event → ⊥) (IsSentence words)

-- the first word, and those after the replica's, are this call's at replica 0, and its sentence is built
pub record IsCall (verb : List ℕ) (operands : List (List ℕ)) (call : Call) : Type 0 where
  pub spelled : verb ∷ decimal 0 ∷ operands ≡ words_at 0 call
  pub built : IsBuiltCall call

-- they are read as the call whose they are, or as none where they are no call's
abbrev pub AreReadAsCall : List ℕ → List (List ℕ) → Option Call → Type 0
AreReadAsCall verb operands read = MatchOption read ((call : Call) → IsCall verb operands call → ⊥) (IsCall verb operands)

-- the first word, and those after the key, are those of this call on a key
pub record IsKeyCall (verb : List ℕ) (values : List (List ℕ)) (call : KeyCall) : Type 0 where
  pub verb_is : verb ≡ key_verb call
  pub values_are : values ≡ value_words call
  pub built : GivesValueWord call

abbrev pub AreReadAsKeyCall : List ℕ → List (List ℕ) → Option KeyCall → Type 0
AreReadAsKeyCall verb values read = MatchOption read ((call : KeyCall) → IsKeyCall verb values call → ⊥) (IsKeyCall verb values)
