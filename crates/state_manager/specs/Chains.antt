-- The collections of one name, the newest first, and what is seen of them at each version.
use Rattle.std.specs.Prelude.{◌≡◌, ℕ, ◌<◌, ◌≤◌, nat_le, min, List, [], ◌∷◌, All, Bool, false, Option, Some, None, IfSome, is_none, option_map, option_and_then, if◌then◌else◌}
use Rattle.std.specs.Option.{option_map_or}
use Rattle.rc_base.specs.declared.ids.Lsn.{Lsn}
use Rattle.coll_model.specs.declared.op.Kind.{Kind}
use Rattle.coll_model.specs.declared.op.Op.{Op}
use Rattle.coll_model.specs.declared.contents.Contents.{Contents}
use Rattle.coll_model.specs.Effect.{fresh}
use Rattle.provider_law.specs.Views.{alone, SameFrom, Undone}
use Rattle.state_manager.specs.declared.slot.Slot.{Slot}

-- ---- views of any kind, at each version from the floor on

abbrev pub AreSame : {X : Type 0} → ℕ → (ℕ → X) → (ℕ → X) → Type 0
AreSame floor old new = (w : ℕ) → floor ≤ w → new w ≡ old w

-- what came above version v is undone
abbrev pub AreCut : {X : Type 0} → ℕ → ℕ → (ℕ → X) → (ℕ → X) → Type 0
AreCut v floor old new = (w : ℕ) → floor ≤ w → new w ≡ old (min w v)

-- from version v on it is this one, and below it as before
pub record AreChanged {X : Type 0} (v floor : ℕ) (old new : ℕ → X) (now : X) : Type 0 where
  pub below : (w : ℕ) → floor ≤ w → w < v → new w ≡ old w
  pub from : (w : ℕ) → v ≤ w → new w ≡ now

-- ---- what is seen under a name

-- it was made at or below the version
abbrev pub is_made : {P : Type 0} → ℕ → Slot P → Bool
is_made w slot = nat_le slot.made.0 w

-- it was dropped at or below the version
abbrev pub is_dropped : {P : Type 0} → ℕ → Slot P → Bool
is_dropped w slot = option_map_or (λ at. nat_le at.0 w) slot.dropped false

-- The collection that stands at the version: the newest that was made by then, unless it was dropped by then.
abbrev pub standing : {P : Type 0} → ℕ → List (Slot P) → Option (Slot P)
standing w [] = None
standing w (slot ∷ older) = if nat_le slot.made.0 w then (if is_dropped w slot then None else Some slot) else standing w older

-- its contents then
abbrev pub seen : {P : Type 0} → (P → ℕ → Contents) → ℕ → List (Slot P) → Option Contents
seen view w chain = option_map (λ slot. view slot.provider w) (standing w chain)

-- each can be looked at from the floor on
abbrev pub AreKept : {P : Type 0} → (P → ℕ) → ℕ → List (Slot P) → Type 0
AreKept least floor chain = All (λ slot. least slot.provider ≤ floor) chain

-- ---- what an undo and a merge leave

-- a drop that came above the version is undone
abbrev pub dropped_by : ℕ → Option Lsn → Option Lsn
dropped_by v dropped = option_and_then (λ at. if nat_le at.0 v then Some at else None) dropped

-- without what was made above the version
abbrev pub made_by : {P : Type 0} → ℕ → List (Slot P) → List (Slot P)
made_by v [] = []
made_by v (slot ∷ older) = if nat_le slot.made.0 v then slot ∷ older else made_by v older

-- one whose provider was merged, and can be looked at from version v on
pub record IsMerged {P : Type 0} (least : P → ℕ) (view : P → ℕ → Contents) (v : ℕ) (old new : Slot P) : Type 0 where
  pub made : new.made ≡ old.made
  pub dropped : new.dropped ≡ old.dropped
  pub floor : least new.provider ≤ v
  pub views : SameFrom v (view old.provider) (view new.provider)

-- ---- what each step does to the newest

-- the newest is this one now, where there is one
abbrev pub HasNewest : {P : Type 0} → (Slot P → Slot P → Type 0) → List (Slot P) → List (Slot P) → Type 0
HasNewest steps [] new = new ≡ []
HasNewest {P} steps (slot ∷ older) new = (now : Slot P) × steps slot now × (new ≡ now ∷ older)

-- what is seen of one collection that was made by the version
abbrev pub own : {P : Type 0} → (P → ℕ → Contents) → ℕ → Slot P → Option Contents
own view w slot = if is_dropped w slot then None else Some (view slot.provider w)

-- what came above the version is undone
pub record IsSlotReset {P : Type 0} (least greatest : P → ℕ) (view : P → ℕ → Contents) (v : ℕ) (old new : Slot P) : Type 0 where
  pub floor : least new.provider ≡ least old.provider
  pub to : greatest new.provider ≤ v
  pub made : new.made ≡ old.made
  pub dropped : new.dropped ≡ dropped_by v old.dropped
  pub views : Undone v (least old.provider) (view old.provider) (view new.provider)

-- an operation on it took effect
pub record IsApplied {P : Type 0} (least : P → ℕ) (view : P → ℕ → Contents) (v : ℕ) (op : Op) (old new : Slot P) : Type 0 where
  pub floor : least new.provider ≡ least old.provider
  pub made : new.made ≡ old.made
  pub below : (w : ℕ) → least old.provider ≤ w → w < v → own view w new ≡ own view w old
  pub from : (w : ℕ) → v ≤ w → own view w new ≡ option_map (λ contents. alone contents op) (own view v old)

-- nothing of it changed that can be seen
pub record IsSame {P : Type 0} (least : P → ℕ) (view : P → ℕ → Contents) (old new : Slot P) : Type 0 where
  pub floor : least new.provider ≡ least old.provider
  pub made : new.made ≡ old.made
  pub views : (w : ℕ) → least old.provider ≤ w → own view w new ≡ own view w old

-- it is dropped, unless it was
abbrev pub dropped_at : {P : Type 0} → Lsn → Slot P → Slot P
dropped_at v slot = record slot { dropped = Some (option_map_or (λ at. at) slot.dropped v) }

-- nothing in it came above the version
pub record IsSlotSettled {P : Type 0} (greatest : P → ℕ) (v : ℕ) (slot : Slot P) : Type 0 where
  pub made : slot.made.0 ≤ v
  pub to : greatest slot.provider ≤ v
  pub dropped : IfSome slot.dropped (λ at. at.0 ≤ v)

-- nor in the newest
abbrev pub IsSettled : {P : Type 0} → (P → ℕ) → ℕ → List (Slot P) → Type 0
IsSettled greatest v [] = Unit {0}
IsSettled greatest v (slot ∷ older) = IsSlotSettled greatest v slot

-- the newest isn't dropped
abbrev pub has_live : {P : Type 0} → List (Slot P) → Bool
has_live [] = false
has_live (slot ∷ older) = is_none slot.dropped

-- a make leaves what stands, and else makes one with nothing in it
abbrev pub made_over : Kind → Option Contents → Option Contents
made_over kind None = Some (fresh kind)
made_over kind (Some contents) = Some contents

-- ---- what each step does to all

abbrev pub KeepsAll : {P : Type 0} → (P → ℕ) → List (Slot P) → List (Slot P) → Type 0
KeepsAll least old new = (floor : ℕ) → AreKept least floor old → AreKept least floor new

-- what came above the version is undone
pub record IsCut {P : Type 0} (least : P → ℕ) (view : P → ℕ → Contents) (v : ℕ) (old new : List (Slot P)) : Type 0 where
  pub kept : KeepsAll least old new
  pub views : (floor : ℕ) → AreKept least floor old → floor ≤ v → AreCut v floor (λ w. seen view w old) (λ w. seen view w new)

-- from the version on this is seen
pub record IsTurned {P : Type 0} (least : P → ℕ) (view : P → ℕ → Contents) (v : ℕ) (old new : List (Slot P)) (now : Option Contents) : Type 0 where
  pub kept : KeepsAll least old new
  pub views : (floor : ℕ) → AreKept least floor old → floor ≤ v → AreChanged v floor (λ w. seen view w old) (λ w. seen view w new) now

-- what is below the version can't be looked at any more, and what is seen from it on is as before
pub record IsMergedTo {P : Type 0} (least : P → ℕ) (view : P → ℕ → Contents) (v : ℕ) (old new : List (Slot P)) : Type 0 where
  pub kept : AreKept least v new
  pub views : AreSame v (λ w. seen view w old) (λ w. seen view w new)
