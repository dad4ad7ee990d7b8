-- What a run keeps of the disks of its fleet.
use Rattle.std.proofs.Common.{◌≡◌, ◌∙◌, sym, ap, subst, ℕ, ◌+◌, ◌≤◌, Bool, true, false, List, [], ◌∷◌, ◌++◌, length, Option, Some, None, Result, Ok, Err, refl, inl, inr, arith, ◌==◌, ◌⊎◌, MatchBool}
use Rattle.std.specs.List.{list_any, All}
use Rattle.std.specs.Prelude.{OnOk}
use Rattle.std.proofs.lemmas.Bool.{false≢true, eqb-true}
use Rattle.std.proofs.lemmas.List.Elements.{All-head}
use Rattle.rc_base.specs.Quorum.{write_quorum}
use Rattle.disk_model.specs.Disk.{Areas, Marks, Only}
use Rattle.disk_model.specs.Laws.{same_some}
use Rattle.log_store.specs.Durable.{durable, StandFor}
use Rattle.log_store.specs.Fold.{no_log}
use Rattle.rc_io.specs.Lines.{line_text}
use Rattle.events.specs.declared.event.Event.{Event}
use Rattle.script_text.specs.Sentence.{Spells}
use Rattle.order_machine.specs.declared.observation.Observation.{Observation}
use Rattle.order_machine.specs.Machine.{Machine, is_booted, empty_machine}
use Rattle.order_machine.specs.Legal.{Step, moved_all}
use Rattle.replica_model.specs.declared.role.Role.{Role}
use Rattle.replica_model.specs.declared.role.Role.TheVariants.{Other, Primary}
use Rattle.replica.specs.Open.{Open}
use Rattle.world.specs.declared.error.WorldError.{WorldError}
use Rattle.world.specs.Disks.{DiskHolds, DisksHold, QuorumHolds}
use Rattle.world.specs.Fleet.{images_of, faults_of, marks_of, faults_in, fault_lines, is_done, marked, marked_by, marks_after, RoseBy}
use Rattle.world.specs.Kept.{Kept, no_events, has_booted}
use Rattle.world.specs.World.{StandsFor, AsReplica, AsRole, IsRuled, IsNew, StillHolds, Serves}
use Rattle.world.specs.Limits.{IsServable}
use Rattle.world.proofs.States.HeldOrder.{stands_still}
use Rattle.shell.specs.Fleet.{IsFresh, no_bytes, no_marks, faults_told, marks_told, AreTold, AreToldBut, Keeps}
use Rattle.shell.specs.Reached.{Done}
use Rattle.shell.proofs.Steps.{step_of}

-- ---- the disks hold what was acknowledged

config_of_role : (role : Role) (last : ℕ) (r : Open) (images : Areas → Type 0) (m : Machine) → AsRole role last r images m → m.config ≡ 0 ∷ []
config_of_role Other last r images m s = ap (λ (n : Machine). n.config) s.rests.is
config_of_role (Primary epoch active) last r images m s = ap (λ (n : Machine). n.config) s.runs.is

config_of_replica : (o : Option Open) (last : ℕ) (images : Areas → Type 0) (m : Machine) → AsReplica o last images m → m.config ≡ 0 ∷ []
config_of_replica None last images m s = ap (λ (n : Machine). n.config) s.is_shut.is
config_of_replica (Some r) last images m s = config_of_role r.role last r images m s

config_by : (booted : Bool) (k : Kept) (images : Areas → Type 0) (m : Machine) → has_booted k ≡ booted → StandsFor k images m → is_booted m ≡ true → m.config ≡ 0 ∷ []
config_by true k images m e s b =
    let stands = subst (λ w. MatchBool w (AsReplica k.replica k.last images m × IsRuled k m) (IsNew k images m)) e s in
    config_of_replica k.replica k.last images m stands.0
config_by false k images m e s b =
    let new = subst (λ w. MatchBool w (AsReplica k.replica k.last images m × IsRuled k m) (IsNew k images m)) e s in
    absurd (false≢true (subst (λ w. is_booted w ≡ true) new.is b))

-- once a world was booted, replica 0 alone is in its configuration
pub config_is : (k : Kept) (images : Areas → Type 0) (m : Machine) → StandsFor k images m → is_booted m ≡ true → m.config ≡ 0 ∷ []
config_is k images m s b = config_by (has_booted k) k images m refl s b

alone : (r : ℕ) → list_any (λ member. member == r) (0 ∷ []) ≡ true → 0 ≡ r
alone r is = eqb-true 0 r (either (0 == r) is)
  where
    either : (b : Bool) → list_any (λ c. c) (b ∷ []) ≡ true → b ≡ true
    either true h = refl
    either false h = h

-- so its disk is a quorum
alone_holds : (m : Machine) (images : ℕ → Areas → Type 0) → m.config ≡ 0 ∷ [] → DiskHolds m 0 (images 0) → QuorumHolds m images
alone_holds m images e h = record {
  members = 0 ∷ [];
  distinct = refl;
  of_config = (ap (λ c. list_any (λ member. member == 0) c) e, tt);
  quorum = subst (λ (c : List ℕ). write_quorum (length c) ≤ 1) (sym e) (omega arith);
  hold = λ r is. subst (λ k. DiskHolds m k (images k)) (alone r is) h;
}

pub disks_hold : (k : Kept) (before : Areas → Type 0) (images : ℕ → Areas → Type 0) (m : Machine) → StandsFor k before m → StillHolds m (images 0) → DisksHold m images
disks_hold k before images m s h = λ b. alone_holds m images (config_is k before m s b) (h b)

-- ---- counts of faults

pub rose_none : (n : ℕ) → RoseBy 0 n n
rose_none n = record { later = omega arith; by = omega arith }

pub rose_more : (a b n k l : ℕ) → RoseBy a n k → RoseBy b k l → RoseBy (a + b) n l
rose_more a b n k l h i = record {
  later = let x = h.later in let y = i.later in omega (arith, x, y);
  by = let x = h.by in let y = i.by in omega (arith, x, y);
}

pub rose_later : (a n k l : ℕ) → RoseBy a n k → k ≤ l → RoseBy a n l
rose_later a n k l h y = record {
  later = let x = h.later in omega (arith, x, y);
  by = let x = h.by in omega (arith, x, y);
}

-- ---- one step more

pub faults_more : (r : ℕ) (steps : List Step) (s : Step) → faults_told r (steps ++ s ∷ []) ≡ faults_told r steps + faults_in r s.lines
faults_more r [] s = omega arith
faults_more r (x ∷ xs) s = let e = faults_more r xs s in omega (arith, e)

pub marks_more : (r : ℕ) (steps : List Step) (s : Step) (marks : Marks) → marks_told r (steps ++ s ∷ []) marks ≡ marked_by s.event s.lines r (marks_told r steps marks)
marks_more r [] s marks = refl
marks_more r (x ∷ xs) s marks = marks_more r xs s (marked_by x.event x.lines r marks)

-- ---- a fleet that was never called

-- a disk that reads as empty, and can be left with nothing else
pub fresh_from : {M : Type 0} (images : M → Areas → Type 0) (faults : M → ℕ) (marks : M → Marks) (calls_left : M → Option ℕ) (disk : M) (seen : Option Areas) →
    seen ≡ Some no_bytes → Only seen (images disk) → faults disk ≡ 0 → marks disk ≡ no_marks → calls_left disk ≡ None → IsFresh images faults marks calls_left disk
fresh_from images faults marks calls_left disk seen empty only fault mark left = record {
  empty = λ c is. same_some c no_bytes (sym (only c is) ∙ empty);
  no_fault = fault;
  unmarked = mark;
  unarmed = left;
}

empty_is_no_log : (c : Areas) → c ≡ no_bytes → durable c ≡ Ok no_log
empty_is_no_log c e = subst (λ a. durable a ≡ Ok no_log) (sym e) refl

pub fresh_stands : {M : Type 0} (images : M → Areas → Type 0) (faults : M → ℕ) (marks : M → Marks) (calls_left : M → Option ℕ) (fleet : List M) → All (IsFresh images faults marks calls_left) fleet → StandFor no_log (images_of images fleet 0)
fresh_stands images faults marks calls_left [] fresh = λ c is. absurd is
fresh_stands {M} images faults marks calls_left (disk ∷ disks) fresh =
    let first : IsFresh images faults marks calls_left disk = All-head (IsFresh images faults marks calls_left) disk disks fresh in
    λ c is. empty_is_no_log c (first.empty c is)

-- before the first event
pub first_stands : (images : Areas → Type 0) (world : Kept) → StandFor no_log images → world ≡ no_events → StandsFor world images empty_machine
first_stands images world h e = subst (λ w. StandsFor w images empty_machine) (sym e) (record { is = refl; closed = refl; unordered = refl; empty = h })

-- ---- what a run keeps

-- what an event did to world and fleet
pub record Did {M : Type 0} (images : M → Areas → Type 0) (faults : M → ℕ) (marks : M → Marks) (old new : Kept) (was now : List M) (event : Event) (result : Result (List Observation) WorldError) : Type 0 where
  pub serves : Serves old new (images_of images was 0) (images_of images now 0) event result
  pub servable : OnOk result ((m : Machine) → StandsFor old (images_of images was 0) m → IsServable m event)
  pub still : (m : Machine) → StandsFor old (images_of images was 0) m → StillHolds m (images_of images now 0)
  pub faulted : (r : ℕ) → RoseBy (fault_lines r result) (faults_of faults was r) (faults_of faults now r)
  pub marked : (r : ℕ) → marks_of marks now r ≡ marks_after event result r (marks_of marks was r)

-- where its lines are those that are done
pub keeps : {M : Type 0} {images : M → Areas → Type 0} {faults : M → ℕ} {marks : M → Marks} {first fleet : List M} (input held now : List ℕ) (before left : List (List ℕ)) (world : Kept) (d : Done images faults marks input held before left first fleet world now) (rest : List (List ℕ)) (status : ℕ) →
    Keeps images faults marks first fleet d.steps None rest status
keeps {M} {images} {faults} {marks} {first} {fleet} input held now before left world d rest status =
    let m = moved_all empty_machine d.steps in record {
      disks = disks_hold world (images_of images fleet 0) (images_of images fleet) m d.stands (stands_still world (images_of images fleet 0) m d.stands);
      faulted = d.faulted;
      armed = inl d.armed;
    }

-- where an event followed whose lines aren't among them
without : {M : Type 0} {images : M → Areas → Type 0} {faults : M → ℕ} {marks : M → Marks} {first was fleet : List M} (input held now : List ℕ) (before left : List (List ℕ)) (old new : Kept) (event : Event) (result : Result (List Observation) WorldError)
    (d : Done images faults marks input held before left first was old now) → Did images faults marks old new was fleet event result → (rest : List (List ℕ)) (status : ℕ) →
    AreTold d.steps (marks_of marks first) (marks_of marks fleet) ⊎ AreToldBut d.steps rest status (marks_of marks first) (marks_of marks fleet) → Keeps images faults marks first fleet d.steps None rest status
without {M} {images} {faults} {marks} {first} {was} {fleet} input held now before left old new event result d did rest status armed =
    let m = moved_all empty_machine d.steps in record {
      disks = disks_hold old (images_of images was 0) (images_of images fleet) m d.stands (did.still m d.stands);
      faulted = λ r. rose_later (faults_told r d.steps) (faults_of faults first r) (faults_of faults was r) (faults_of faults fleet r) (d.faulted r) (did.faulted r).later;
      armed = armed;
    }

-- it was not done
pub keeps_failed : {M : Type 0} {images : M → Areas → Type 0} {faults : M → ℕ} {marks : M → Marks} {first was fleet : List M} (input held now : List ℕ) (before left : List (List ℕ)) (old new : Kept) (event : Event) (error : WorldError)
    (d : Done images faults marks input held before left first was old now) → Did images faults marks old new was fleet event (Err error) → (rest : List (List ℕ)) (status : ℕ) → Keeps images faults marks first fleet d.steps None rest status
keeps_failed input held now before left old new event error d did rest status =
    without input held now before left old new event (Err error) d did rest status (inl (λ r. did.marked r ∙ d.armed r))

-- it was begun, and these are the lines that it has
pub keeps_begun : {M : Type 0} {images : M → Areas → Type 0} {faults : M → ℕ} {marks : M → Marks} {first was fleet : List M} (input held now : List ℕ) (before left : List (List ℕ)) (old new : Kept) (number : ℕ) (event : Event) (error : WorldError) (lines : List Observation)
    (d : Done images faults marks input held before left first was old now) → Did images faults marks old new was fleet event (Err error) → lines ≡ [] → (rest : List (List ℕ)) (status : ℕ) → Keeps images faults marks first fleet d.steps (Some (step_of number event lines)) rest status
keeps_begun {M} {images} {faults} {marks} {first} {was} {fleet} input held now before left old new number event error lines d did none rest status =
    let kept = keeps_failed input held now before left old new event error d did rest status in
    let last = step_of number event lines in
    let untold : (r : ℕ) → faults_told r (d.steps ++ last ∷ []) ≡ faults_told r d.steps = λ r. let e = faults_more r d.steps last in let f = ap (faults_in r) none in omega (arith, e, f) in
    let unmarked : (r : ℕ) (k : Marks) → marks_told r (d.steps ++ last ∷ []) k ≡ marks_told r d.steps k = λ r k. marks_more r d.steps last k ∙ ap (λ (ls : List Observation). marked_by event ls r (marks_told r d.steps k)) none in
    record {
      disks = kept.disks;
      faulted = λ r. subst (λ n. RoseBy n (faults_of faults first r) (faults_of faults fleet r)) (sym (untold r)) (kept.faulted r);
      armed = inl (λ r. did.marked r ∙ (d.armed r ∙ sym (unmarked r (marks_of marks first r))));
    }

-- it was done, and nothing of its lines was written for want of memory
pub keeps_unwritten : {M : Type 0} {images : M → Areas → Type 0} {faults : M → ℕ} {marks : M → Marks} {first was fleet : List M} (input held now : List ℕ) (before left : List (List ℕ)) (raw : List ℕ) (old new : Kept) (event : Event) (lines : List Observation)
    (d : Done images faults marks input held before (raw ∷ left) first was old now) → Did images faults marks old new was fleet event (Ok lines) → Spells (line_text raw) event → Keeps images faults marks first fleet d.steps None (raw ∷ left) 8
keeps_unwritten {M} {images} {faults} {marks} {first} {was} {fleet} input held now before left raw old new event lines d did spells =
    without input held now before (raw ∷ left) old new event (Ok lines) d did (raw ∷ left) 8 (by (is_done lines) refl)
  where
    by : (b : Bool) → is_done lines ≡ b → AreTold d.steps (marks_of marks first) (marks_of marks fleet) ⊎ AreToldBut d.steps (raw ∷ left) 8 (marks_of marks first) (marks_of marks fleet)
    by true e = inr (record { memory = refl; event = event; spelled = spells; counts = λ r. (let h = did.marked r in rw e at h) ∙ ap (λ k. marked event r k) (d.armed r) })
    by false e = inl (λ r. (let h = did.marked r in rw e at h) ∙ d.armed r)
