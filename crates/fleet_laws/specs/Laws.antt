-- The laws.
use Rattle.std.specs.Prelude.{◌≡◌, ℕ, ◌^◌, ◌<◌, ◌≤◌, min, Bool, true, ◌⊎◌, ◌↔◌, List, [], ◌∷◌, length, take, Contains}
use mathlib.Core.List.{IsPrefix}
use Rattle.fleet_laws.specs.Counting.{IsWriteQuorum, IsReadQuorum, IsQuorumNumber}
use Rattle.fleet_laws.specs.Epochs.{epoch_code, IsEpochBelow}
use Rattle.fleet_laws.specs.Logs.{Entry, Agree, LastAgreed, IsMarked, epoch_at, content_at}
use Rattle.fleet_laws.specs.Logs.Record.{Barrier}
use Rattle.fleet_laws.specs.Fleets.{Value, Fleet, IsAppointed, IsValueOf}
use Rattle.fleet_laws.specs.Choice.{IsChosen, MayBeChosen, IsSafe, IsCanonical, configurations_of}
use Rattle.fleet_laws.specs.Invariant.{Invariant, KeepsWhatMayBeChosen}
use Rattle.fleet_laws.specs.Growth.{ComesAfter}
use Rattle.fleet_laws.specs.Moves.{Turn, Copies, Appoints, Move, Run, IsReached}
use Rattle.fleet_laws.specs.Modes.{Mode, IsMode, IsRightMode}
use Rattle.fleet_laws.specs.Orders.{OnlyGrows, IsOrder, view}
use Rattle.fleet_laws.specs.Example.{UndoesFalseProgress}

-- the codes of epochs are ordered as the epochs are
abbrev pub CodesKeepOrder : Type 0
CodesKeepOrder = (loss number later_loss later_number : ℕ) → number < 2 ^ 32 → later_number < 2 ^ 32
    → (epoch_code loss number < epoch_code later_loss later_number) ↔ IsEpochBelow loss number later_loss later_number

-- a write quorum and a read quorum of one configuration share a member
abbrev pub QuorumsMeet : Type 0
QuorumsMeet = (p q : ℕ → Bool) (members : List ℕ) → IsWriteQuorum p members → IsReadQuorum q members → (m : ℕ) × Contains members m × (p m ≡ true) × (q m ≡ true)

-- each configuration that has members has a quorum number
abbrev pub HasQuorumNumber : Type 0
HasQuorumNumber = (reached : ℕ → ℕ) (members : List ℕ) → 1 ≤ length members → (n : ℕ) × IsQuorumNumber reached (members ∷ []) n

-- that of two configurations is the lesser of theirs
abbrev pub QuorumNumberOfTwo : Type 0
QuorumNumberOfTwo = (reached : ℕ → ℕ) (c d : List ℕ) (m n : ℕ) → IsQuorumNumber reached (c ∷ []) m → IsQuorumNumber reached (d ∷ []) n → IsQuorumNumber reached (c ∷ d ∷ []) (min m n)

-- what is at or below the quorum number of numbers that were acknowledged is chosen, from the EpochStart on; also where the epoch was activated and its primary
-- still counts both configurations
abbrev pub QuorumNumberIsChosen : Type 0 → Type 0
QuorumNumberIsChosen R = (f : Fleet R) (e : ℕ) (reached : ℕ → ℕ) (n l : ℕ) → ((m : ℕ) → reached m ≤ f.acknowledged m e)
    → IsQuorumNumber reached (configurations_of f.configurations e) n ⊎ IsQuorumNumber reached (f.previous e ∷ f.current e ∷ []) n
    → f.start e ≤ l → l ≤ n → IsChosen f e l

-- no two replicas are primaries of one epoch
abbrev pub OnePrimary : Type 0 → Type 0
OnePrimary R = (f : Fleet R) → IsReached f → (r q e : ℕ) → 1 ≤ e → f.role r ≡ e → f.role q ≡ e → r ≡ q

-- what a replica has acknowledged is of an appointed epoch, and no further than its history goes
abbrev pub AcknowledgedWithin : Type 0 → Type 0
AcknowledgedWithin R = (f : Fleet R) → IsReached f → (r e : ℕ) → 1 ≤ f.acknowledged r e → IsAppointed f e × (f.acknowledged r e ≤ length (f.history e))

-- any two logs anywhere that have one epoch at a place are one up to it
abbrev pub SamePrefix : Type 0 → Type 0
SamePrefix R = (f : Fleet R) → IsReached f → (r q : ℕ) (v w : Value R) → IsValueOf f r v → IsValueOf f q w
    → (n : ℕ) → n ≤ length v.log → n ≤ length w.log → epoch_at v.log n ≡ epoch_at w.log n → Agree n v.log w.log

-- in each log an EpochStart stands exactly where the epoch rises
abbrev pub LogsAreMarked : Type 0 → Type 0
LogsAreMarked R = (f : Fleet R) → IsReached f → (r : ℕ) (v : Value R) → IsValueOf f r v → IsMarked v.log

-- what a Barrier of a log names is safe in that log
abbrev pub BarriersAreSafe : Type 0 → Type 0
BarriersAreSafe R = (f : Fleet R) → IsReached f → (r : ℕ) (v : Value R) → IsValueOf f r v → (n s : ℕ) → n ≤ length v.log → content_at v.log n ≡ Barrier s
    → IsSafe f.histories f.configurations f.acknowledged v.fence v.log s

-- what holds of every fleet that a run reaches is kept by each move
abbrev pub MovesKeepInvariant : Type 0 → Type 0
MovesKeepInvariant R = (f g : Fleet R) → Invariant f → Move f g → Invariant g

-- and so it holds after every run
abbrev pub RunsKeepInvariant : Type 0 → Type 0
RunsKeepInvariant R = (f : Fleet R) → IsReached f → Invariant f

-- whoever is appointed has in its log all that may be chosen at an earlier epoch
abbrev pub PrimaryHasWhatMayBeChosen : Type 0 → Type 0
PrimaryHasWhatMayBeChosen R = (f : Fleet R) → IsReached f → (e p : ℕ) (v : Value R) → Appoints f e p v → (d l : ℕ) → IsAppointed f d → MayBeChosen f d l → Agree l (f.history d) v.log

-- and the histories of later epochs have it for good, below their EpochStarts: also what late acknowledgements make chosen
abbrev pub LaterEpochsHaveIt : Type 0 → Type 0
LaterEpochsHaveIt R = (f : Fleet R) → IsReached f → KeepsWhatMayBeChosen f

-- what is chosen stays chosen, and what may be chosen only becomes less once a later epoch is appointed
abbrev pub ChosenStays : Type 0 → Type 0
ChosenStays R = (f g : Fleet R) → IsReached f → Run f g → ComesAfter f g

-- what is safe stays safe, at greater fences and in other logs with that beginning
abbrev pub SafeStays : Type 0 → Type 0
SafeStays R = (f g : Fleet R) → IsReached f → Run f g → (fence high : ℕ) (log more : List (Entry R)) (s : ℕ) → fence ≤ high → Agree s log more
    → IsSafe f.histories f.configurations f.acknowledged fence log s → IsSafe g.histories g.configurations g.acknowledged high more s

-- and a log of the histories stays one
abbrev pub CanonicalStays : Type 0 → Type 0
CanonicalStays R = (f g : Fleet R) → IsReached f → Run f g → (log : List (Entry R)) → IsCanonical f.histories log → IsCanonical g.histories log

-- of two chosen beginnings of histories one begins the other, and the one of the earlier epoch that of the later
abbrev pub ChosenAreOne : Type 0 → Type 0
ChosenAreOne R = (f : Fleet R) → IsReached f → (d e l m : ℕ) → IsAppointed f d → IsAppointed f e → IsChosen f d l → IsChosen f e m
    → (IsPrefix (take l (f.history d)) (take m (f.history e)) ⊎ IsPrefix (take m (f.history e)) (take l (f.history d)))
    × (d < e → (l < f.start e) × Agree l (f.history d) (f.history e))

-- an epoch is closed once a later one is appointed: whatever is chosen at it, however late, stands below the later EpochStart
abbrev pub ClosedEpochs : Type 0 → Type 0
ClosedEpochs R = (f : Fleet R) → IsReached f → (d e l : ℕ) → IsAppointed f d → IsAppointed f e → d < e → IsChosen f d l → l < f.start e

-- where an epoch has logged nothing but its EpochStart, and that is chosen, all that a later history has after it is of later epochs
abbrev pub AfterAnIdleStart : Type 0 → Type 0
AfterAnIdleStart R = (f : Fleet R) → IsReached f → (d e : ℕ) → IsAppointed f d → IsAppointed f e → d < e → IsChosen f d (f.start d) → length (f.history d) ≡ f.start d
    → (n : ℕ) → f.start d < n → n ≤ length (f.history e) → d < epoch_at (f.history e) n

-- a log that has the EpochStart of an epoch that isn't below its fence is a beginning of that epoch's history, also where nothing of it is stable
abbrev pub FencedIsBeginning : Type 0 → Type 0
FencedIsBeginning R = (f : Fleet R) → IsReached f → (r e : ℕ) (v : Value R) → IsValueOf f r v → IsAppointed f e → v.fence ≤ e → f.start e ≤ length v.log
    → epoch_at v.log (f.start e) ≡ e → Agree (length v.log) v.log (f.history e)

-- what is stable in a value begins the history of each epoch that isn't below its fence
abbrev pub StableBeginsLater : Type 0 → Type 0
StableBeginsLater R = (f : Fleet R) → IsReached f → (r e : ℕ) (v : Value R) → IsValueOf f r v → IsAppointed f e → v.fence ≤ e → Agree v.stable v.log (f.history e)

-- what is chosen is held, in each value that its disk may hold, by each of a write quorum of the configuration last activated
abbrev pub ChosenIsHeld : Type 0 → Type 0
ChosenIsHeld R = (f : Fleet R) → IsReached f → (e l : ℕ) → IsAppointed f e → IsChosen f e l
    → (p : ℕ → Bool) × IsWriteQuorum p (f.current f.active) × ((m : ℕ) → p m ≡ true → (v : Value R) → IsValueOf f m v → Agree l (f.history e) v.log)

-- what was chosen is held in every later fleet too, by each of a write quorum of the configuration that was the last activated then, whoever is a member by now
abbrev pub HeldLater : Type 0 → Type 0
HeldLater R = (f g : Fleet R) → IsReached f → Run f g → (e l : ℕ) → IsAppointed f e → IsChosen f e l
    → (p : ℕ → Bool) × IsWriteQuorum p (f.current f.active) × ((m : ℕ) → p m ≡ true → (v : Value R) → IsValueOf g m v → Agree l (g.history e) v.log)

-- what a primary shows lengthens the order, or is a beginning of it
abbrev pub OrderOnlyGrows : Type 0 → Type 0 → Type 0
OrderOnlyGrows R S = (reading : List (Entry R) → List S) → OnlyGrows reading → (f : Fleet R) (order : List S) → IsOrder reading f order → (e l : ℕ) → IsAppointed f e → IsChosen f e l
    → (length order ≤ length (reading (take l (f.history e))) → IsPrefix order (reading (take l (f.history e))))
    × (length (reading (take l (f.history e))) ≤ length order → IsPrefix (reading (take l (f.history e))) order)

-- what a value shows is a beginning of the order, as far as the order goes
abbrev pub ViewsBeginOrder : Type 0 → Type 0 → Type 0
ViewsBeginOrder R S = (reading : List (Entry R) → List S) → OnlyGrows reading → (f : Fleet R) (order : List S) → IsOrder reading f order → (r : ℕ) (v : Value R) → IsValueOf f r v
    → (length (view reading v) ≤ length order → IsPrefix (view reading v) order) × (length order ≤ length (view reading v) → IsPrefix order (view reading v))

-- and each turn, a mount too, that doesn't raise the stable number leaves it a beginning of what it was, and the same where the stable number stays
abbrev pub TurnsKeepViews : Type 0 → Type 0
TurnsKeepViews R = (f : Fleet R) → IsReached f → (r : ℕ) (v w : Value R) → IsValueOf f r v → Turn f r v w → w.stable ≤ v.stable → Agree w.stable v.log w.log

-- while something was shown, each of a write quorum of the configuration last activated holds the order, in each value that its disk may hold
abbrev pub OrderIsHeld : Type 0 → Type 0 → Type 0
OrderIsHeld R S = (reading : List (Entry R) → List S) → OnlyGrows reading → (f : Fleet R) (order : List S) → IsOrder reading f order
    → (order ≡ reading []) ⊎ ((p : ℕ → Bool) × IsWriteQuorum p (f.current f.active) × ((m : ℕ) → p m ≡ true → (v : Value R) → IsValueOf f m v → IsPrefix order (reading v.log)))

-- an undo by what the primary of e has to n never goes below what is stable, if that isn't stale
abbrev pub UndoKeepsStable : Type 0 → Type 0
UndoKeepsStable R = (f : Fleet R) → IsReached f → (r e n k : ℕ) (v : Value R) → IsValueOf f r v → IsAppointed f e → v.fence ≤ e → n ≤ length (f.history e) → v.stable ≤ n
    → LastAgreed k v.log (take n (f.history e)) → v.stable ≤ k

-- a full copy begins only where the common places end below the head of what is sent, and its position isn't below what is stable
abbrev pub CopyKeepsStable : Type 0 → Type 0
CopyKeepsStable R = (f : Fleet R) → IsReached f → (r e n head c : ℕ) → Copies f r e n head c → (v : Value R) → IsValueOf f r v
    → (v.stable < head) × (v.stable ≤ c) × ((m : ℕ) → Agree m v.log (f.history e) → m ≤ c)

-- the mode of a copy between two logs of the fleet's histories is right, whatever the heads are
abbrev pub CopyModeIsRight : Type 0 → Type 0
CopyModeIsRight R = (f : Fleet R) → IsReached f → (low : ℕ) (source target : List (Entry R)) → IsCanonical f.histories source → IsCanonical f.histories target
    → (mode : Mode) → IsMode low source target mode → IsRightMode low source target mode

-- the logs of the fleet's histories are the histories, the values' logs, and what begins them
abbrev pub LogsAreOfHistories : Type 0 → Type 0
LogsAreOfHistories R = (f : Fleet R) → IsReached f
    → ((e n : ℕ) → IsAppointed f e → IsCanonical f.histories (take n (f.history e)))
    × ((r n : ℕ) (v : Value R) → IsValueOf f r v → IsCanonical f.histories (take n v.log))

-- there is a run in which something is chosen in two epochs, false progress is undone, and an epoch is activated
abbrev pub SomeRunUndoes : Type 0
SomeRunUndoes = (f : Fleet ℕ) × (g : Fleet ℕ) × UndoesFalseProgress f g
