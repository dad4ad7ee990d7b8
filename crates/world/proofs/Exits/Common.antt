-- What the exits of all handlers have in common.
use Rattle.std.proofs.Common.{◌≡◌, ◌∙◌, sym, ap, subst, refl, ℕ, suc, ◌≤◌, Bool, true, false, cond, List, [], ◌∷◌, Result, Ok, Err, IfOk, OnOk, OnErr, arith}
use Rattle.disk_model.specs.Disk.{Areas, Marks}
use Rattle.events.specs.declared.event.Event.{Event}
use Rattle.order_machine.specs.declared.observation.Observation.{Observation}
use Rattle.order_machine.specs.declared.observation.Observation.TheVariants as says
use Rattle.order_machine.specs.Machine.{Machine}
use Rattle.world.specs.declared.error.WorldError.{WorldError}
use Rattle.world.specs.declared.error.WorldError.TheVariants as errors
use Rattle.world.specs.Fleet.{TellsZero, faults_in, is_done, marked, marked_by, marks_after}
use Rattle.world.specs.Handling.{Handles}
use Rattle.world.specs.Kept.{Kept}
use Rattle.world.specs.Limits.{IsServable}
use Rattle.world.specs.World.{StandsFor, StillHolds, Serves}
use Rattle.world.proofs.Exits.FaultCounts.{rose_none}

-- the event is counted
pub last_of_kept : {T E : Type 0} (new k : Kept) (number : ℕ) (result : Result T E) → OnOk result (new ≡ k) → k.last ≡ number → OnOk result (new.last ≡ number)
last_of_kept new k number (Ok x) kept is = ap (λ (w : Kept). w.last) kept ∙ is
last_of_kept new k number (Err e) kept is = tt

-- an event that neither arms nor stops a disk leaves the marks
pub marks_same : (event : Event) (lines : List Observation) (marks : Marks) → marked event 0 marks ≡ marks → marks ≡ marked_by event lines 0 marks
marks_same event lines marks same = by (is_done lines)
  where
    by : (b : Bool) → marks ≡ cond b (marked event 0 marks) marks
    by true = sym same
    by false = refl

pub marks_same_after : (event : Event) (result : Result (List Observation) WorldError) (marks : Marks) → marked event 0 marks ≡ marks → marks ≡ marks_after event result 0 marks
marks_same_after event (Ok lines) marks same = marks_same event lines marks same
marks_same_after event (Err e) marks same = refl

-- an event that has one line, which tells no fault, and leaves the disk alone
pub kept_handles : {M : Type 0} (images : M → Areas → Type 0) (faults : M → ℕ) (marks : M → Marks) (old new then : Kept) (disk : M) (number : ℕ) (event : Event) (o : Observation) (result : Result (List Observation) WorldError) →
    IfOk result (λ lines. lines ≡ o ∷ []) → OnOk result (new ≡ then) → then.last ≡ number → ((q : ℕ) → faults_in q (o ∷ []) ≡ 0) → ((x : Marks) → marked_by event (o ∷ []) 0 x ≡ x) → ((m : Machine) → StandsFor old (images disk) m → IsServable m event) → Serves old new (images disk) (images disk) event result → Handles images faults marks old new disk disk number event result
kept_handles images faults marks old new then disk number event o (Ok lines) told kept last faultless unmarked servable serves = record {
  serves = serves;
  servable = servable;
  last = ap (λ (w : Kept). w.last) kept ∙ last;
  others = subst TellsZero (sym told) (λ q. faultless (suc q));
  counted = rose_none (faults disk) (faults disk) (omega arith) (faults_in 0 lines) (ap (faults_in 0) told ∙ faultless 0);
  armed = subst (λ (ls : List Observation). marks disk ≡ marked_by event ls 0 (marks disk)) (sym told) (sym (unmarked (marks disk)));
}
kept_handles images faults marks old new then disk number event o (Err e) told kept last faultless unmarked servable serves = record {
  serves = serves;
  servable = tt;
  last = tt;
  others = tt;
  counted = rose_none (faults disk) (faults disk) (omega arith) 0 refl;
  armed = refl;
}

-- the same, where it changes nothing but the count of events
pub line_handles : {M : Type 0} (images : M → Areas → Type 0) (faults : M → ℕ) (marks : M → Marks) (old new : Kept) (disk : M) (number : ℕ) (event : Event) (o : Observation) (result : Result (List Observation) WorldError) →
    IfOk result (λ lines. lines ≡ o ∷ []) → OnOk result (new ≡ record old { last = number }) → ((q : ℕ) → faults_in q (o ∷ []) ≡ 0) → ((x : Marks) → marked_by event (o ∷ []) 0 x ≡ x) → ((m : Machine) → StandsFor old (images disk) m → IsServable m event) → Serves old new (images disk) (images disk) event result → Handles images faults marks old new disk disk number event result
line_handles images faults marks old new disk number event o result told kept faultless unmarked servable serves =
    kept_handles images faults marks old new (record old { last = number }) disk number event o result told kept refl faultless unmarked servable serves

-- out of memory
pub short_handles : {M : Type 0} (images : M → Areas → Type 0) (faults : M → ℕ) (marks : M → Marks) (old new : Kept) (before now : M) (number : ℕ) (event : Event) →
    faults before ≤ faults now → marks now ≡ marks before → ((m : Machine) → StandsFor old (images before) m → StillHolds m (images now)) → Handles images faults marks old new before now number event (Err errors.NoMemory)
short_handles images faults marks old new before now number event later same still = record {
  serves = still;
  servable = tt;
  last = tt;
  others = tt;
  counted = rose_none (faults before) (faults now) later 0 refl;
  armed = same;
}

-- the same, of an error that tells so
pub memory_handles : {M : Type 0} (images : M → Areas → Type 0) (faults : M → ℕ) (marks : M → Marks) (old new : Kept) (before now : M) (number : ℕ) (event : Event) (result : Result (List Observation) WorldError) →
    faults before ≤ faults now → marks now ≡ marks before → ((m : Machine) → StandsFor old (images before) m → StillHolds m (images now)) → (y : WorldError) × (result ≡ Err y) × (y ≡ errors.NoMemory) → Handles images faults marks old new before now number event result
memory_handles images faults marks old new before now number event result later same still y =
    subst (λ r. Handles images faults marks old new before now number event r) (sym (y.1 ∙ ap Err y.2)) (short_handles images faults marks old new before now number event later same still)

-- an event whose result is told by these lines and this state
pub result_handles : {M : Type 0} (images : M → Areas → Type 0) (faults : M → ℕ) (marks : M → Marks) (old new then : Kept) (before now : M) (number : ℕ) (event : Event) (given : List Observation) (result : Result (List Observation) WorldError) →
    IfOk result (λ lines. lines ≡ given) → OnOk result (new ≡ then) → OnErr result (result ≡ Err errors.NoMemory) → faults before ≤ faults now → marks now ≡ marks before → ((m : Machine) → StandsFor old (images before) m → StillHolds m (images now)) →
    Handles images faults marks old then before now number event (Ok given) → Handles images faults marks old new before now number event result
result_handles images faults marks old new then before now number event given (Ok lines) told kept memory later same still handles =
    subst (λ k. Handles images faults marks old k before now number event (Ok lines)) (sym kept) (subst (λ ls. Handles images faults marks old then before now number event (Ok ls)) (sym told) handles)
result_handles images faults marks old new then before now number event given (Err e) told kept memory later same still handles =
    let none : e ≡ errors.NoMemory = cc in
    subst (λ x. Handles images faults marks old new before now number event (Err x)) (sym none) (short_handles images faults marks old new before now number event later same still)

-- the error of a line that found no memory is handed on
pub handed_memory : {T U : Type 0} (r : Result T WorldError) (e : WorldError) → (y : WorldError) × (r ≡ Err y) × (y ≡ e) → ◌≡◌ {A = Result U WorldError} (Err e) (Err errors.NoMemory) → (y : WorldError) × (r ≡ Err y) × (y ≡ errors.NoMemory)
handed_memory r e y is = let none : e ≡ errors.NoMemory = cc in (y.0, y.1, y.2 ∙ none)

-- ---- an event that is answered `ok`

pub done_faultless : (q : ℕ) (lines : List Observation) → lines ≡ says.Done ∷ [] → faults_in q lines ≡ 0
done_faultless q lines told = ap (faults_in q) told

pub done_others : (lines : List Observation) → lines ≡ says.Done ∷ [] → TellsZero lines
done_others lines told q = done_faultless (suc q) lines told

pub marks_of_done : (event : Event) (lines : List Observation) (marks : Marks) → lines ≡ says.Done ∷ [] → marked event 0 marks ≡ marked_by event lines 0 marks
marks_of_done event lines marks told = ap (λ (ls : List Observation). marked_by event ls 0 marks) (sym told)
