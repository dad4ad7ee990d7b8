-- The collections of all names, with what was changed when.
use Rattle.std.specs.Prelude.{◌≡◌, ◌≢◌, ℕ, ◌+◌, ◌≤◌, nat_eq, nat_lt, List, [], ◌∷◌, All, Bool, true, false, ◌&&◌, ◌||◌, option_map, filter_map, map}
use Rattle.std.specs.Option.{option_map_or}
use Rattle.std.specs.Cmp.Lexicographic.{pointwise}
use Rattle.rc_base.specs.declared.ids.Lsn.{Lsn}
use Rattle.coll_model.specs.declared.op.Kind.{Kind}
use Rattle.coll_model.specs.declared.op.Op.{Op}
use Rattle.coll_model.specs.declared.op.Op.TheVariants.{Make}
use Rattle.coll_model.specs.declared.contents.Contents.{Contents}
use Rattle.coll_model.specs.Effect.{State, at_key}
use Rattle.coll_model.specs.declared.rows.Collection.{Collection}
use Rattle.provider_law.specs.Replies.{contents_of}
use Rattle.coll_laws.specs.Rising.{AreRising}
use Rattle.state_manager.specs.declared.change.Change.{Change}
use Rattle.state_manager.specs.declared.slot.Slot.{Slot}
use Rattle.state_manager.specs.Chains.{seen, AreKept}

-- by rising name the collections of each; the changes above the floor, the newest first; floor and top
pub record Managed (P : Type 0) : Type 0 where
  pub chains : List (List ℕ × List (Slot P))
  pub changes : List Change
  pub floor : Lsn
  pub top : Lsn

-- The collections that stand at the version, by rising name, with their contents then.
abbrev pub state_at : {P : Type 0} → (P → ℕ → Contents) → Managed P → ℕ → State
state_at view m w = filter_map (λ entry. option_map (λ contents. (entry.0, contents)) (seen view w entry.1)) m.chains

-- the state that an image tells
abbrev pub told_by : List Collection → State
told_by image = map (λ one. (one.name, contents_of one.rows)) image

-- the type of providers has what the operation makes
abbrev pub IsServed : (Kind → Bool) → Op → Type 0
IsServed has (Make name kind) = has kind ≡ true
IsServed has _ = Unit {0}

-- ---- what is kept

abbrev pub chain_of : {P : Type 0} → List ℕ → List (List ℕ × List (Slot P)) → List (Slot P)
chain_of name chains = option_map_or (λ chain. chain) (at_key name chains) []

-- a change of the name at the version is noted
abbrev pub is_changed : List ℕ → ℕ → List Change → Bool
is_changed name n [] = false
is_changed name n (change ∷ changes) = (nat_eq change.at.0 n && pointwise nat_eq name change.name) || is_changed name n changes

-- what is seen under a name changes only where that is noted
pub record IsNoted {P : Type 0} (least : P → ℕ) (view : P → ℕ → Contents) (floor : ℕ) (changes : List Change) (name : List ℕ) (chain : List (Slot P)) : Type 0 where
  pub kept : AreKept least floor chain
  pub rests : (n : ℕ) → floor ≤ n → is_changed name (n + 1) changes ≡ false → seen view (n + 1) chain ≡ seen view n chain

abbrev pub AreFalling : List Change → Type 0
AreFalling [] = Unit {0}
AreFalling (change ∷ changes) = All (λ earlier. earlier.at.0 ≤ change.at.0) changes × AreFalling changes

pub record IsManaged {P : Type 0} (least : P → ℕ) (view : P → ℕ → Contents) (m : Managed P) : Type 0 where
  pub in_order : m.floor.0 ≤ m.top.0
  pub rising : AreRising m.chains
  pub noted : (name : List ℕ) → IsNoted least view m.floor.0 m.changes name (chain_of name m.chains)
  pub recent : All (λ change. change.at.0 ≤ m.top.0) m.changes
  pub falling : AreFalling m.changes

-- the collections of each other name are as they were
abbrev pub HasOthers : {P : Type 0} → List ℕ → List (List ℕ × List (Slot P)) → List (List ℕ × List (Slot P)) → Type 0
HasOthers name old new = (other : List ℕ) → other ≢ name → chain_of other new ≡ chain_of other old

-- the newest change is above the version, so that some is
abbrev pub has_above : ℕ → List Change → Bool
has_above v [] = false
has_above v (change ∷ older) = nat_lt v change.at.0

-- under each name the collection that the state has, from the version on
pub record IsLoaded {P : Type 0} (least : P → ℕ) (view : P → ℕ → Contents) (v : ℕ) (state : State) (chains : List (List ℕ × List (Slot P))) : Type 0 where
  pub rising : AreRising chains
  pub kept : (name : List ℕ) → AreKept least v (chain_of name chains)
  pub views : (name : List ℕ) (w : ℕ) → v ≤ w → seen view w (chain_of name chains) ≡ at_key name state
