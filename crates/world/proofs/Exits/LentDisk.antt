-- An event that is lent the first disk of a fleet.
use Rattle.std.proofs.Common.{◌≡◌, ◌∙◌, sym, subst, ℕ, zero, suc, ◌==◌, true, false, List, [], ◌∷◌, Bool, All, Option, Some, None, ◌-◌, Result, Ok, Err, IfOk, OnOk, length, get_or, slice_get, slice_set, refl, arith}
use Rattle.std.proofs.lemmas.Bool.{false≢true}
use Rattle.std.proofs.lemmas.List.Elements.{All-head, All-tail}
use Rattle.disk_model.specs.Disk.{Areas}
use Rattle.events.specs.declared.event.Event.{Event}
use Rattle.events.specs.declared.event.Event.TheVariants.{Boot, Client, Arm, Crash, Reboot, Inspect, Survey, Appoint, Activate}
use Rattle.order_machine.specs.declared.observation.Observation.{Observation}
use Rattle.order_machine.specs.Machine.{Machine, Appointment}
use Rattle.order_machine.specs.Transitions.{event_primary, is_actor, latest_primary}
use Rattle.world.specs.declared.error.WorldError.{WorldError}
use Rattle.world.specs.declared.error.WorldError.TheVariants as errors
use Rattle.world.specs.Fleet.{images_of, faults_of, fault_lines, RoseBy, TellsZero}
use Rattle.std.specs.Option.{option_map_or}
use Rattle.rc_base.specs.declared.ids.Epoch.{Epoch}
use Rattle.replica_model.specs.declared.role.Role.{Role}
use Rattle.replica_model.specs.declared.role.Role.TheVariants.{Other, Primary}
use Rattle.replica.specs.Open.{Open}
use Rattle.world.specs.Course.{IsOurs}
use Rattle.world.specs.Kept.{Kept, has_booted}
use Rattle.world.specs.Limits.{IsServable}
use Rattle.world.specs.World.{StandsFor, AsReplica, AsRole, IsHere, Serves, StillHolds}
use Rattle.world.proofs.States.Later.{replica_of, new_of}
use Rattle.world.proofs.Exits.FaultCounts.{rose_none}

nine_none : ◌≡◌ {A = ℕ} 0 9 → ⊥
nine_none e = omega (arith, e)

pub serves_lent : {M : Type 0} (images : M → Areas → Type 0) (items : List M) (d d' : M) (old new : Kept) (event : Event) (result : Result (List Observation) WorldError) → length items ≡ 9 → d ≡ get_or items 0 d → Serves old new (images d) (images d') event result → Serves old new (images_of images items 0) (images_of images (slice_set items 0 d') 0) event result
serves_lent images [] d d' old new event result nine first s = absurd (nine_none nine)
serves_lent images (x ∷ xs) d d' old new event result nine first s = subst (λ y. Serves old new (images y) (images d') event result) first s

pub servable_lent : {M : Type 0} (images : M → Areas → Type 0) (items : List M) (d : M) (old : Kept) (event : Event) (result : Result (List Observation) WorldError) → length items ≡ 9 → d ≡ get_or items 0 d → OnOk result ((m : Machine) → StandsFor old (images d) m → IsServable m event) → OnOk result ((m : Machine) → StandsFor old (images_of images items 0) m → IsServable m event)
servable_lent images [] d old event result nine first s = absurd (nine_none nine)
servable_lent images (x ∷ xs) d old event result nine first s = subst (λ y. OnOk result ((m : Machine) → StandsFor old (images y) m → IsServable m event)) first s

-- whatever the result, the disk holds what was acknowledged before
still_by : (old new : Kept) (before now : Areas → Type 0) (event : Event) (result : Result (List Observation) WorldError) → Serves old new before now event result → (m : Machine) → StandsFor old before m → StillHolds m now
still_by old new before now event (Ok lines) s m stands = (s m stands).2
still_by old new before now event (Err errors.NoMemory) s m stands = s m stands
still_by old new before now event (Err (errors.Limit which lines)) s m stands = (s m stands).3
still_by old new before now event (Err (errors.Unbuilt lines)) s m stands = (s m stands).2

pub still_lent : {M : Type 0} (images : M → Areas → Type 0) (items : List M) (d d' : M) (old new : Kept) (event : Event) (result : Result (List Observation) WorldError) → length items ≡ 9 → d ≡ get_or items 0 d → Serves old new (images d) (images d') event result → (m : Machine) → StandsFor old (images_of images items 0) m → StillHolds m (images_of images (slice_set items 0 d') 0)
still_lent images items d d' old new event result nine first s m stands = still_by old new (images_of images items 0) (images_of images (slice_set items 0 d') 0) event result (serves_lent images items d d' old new event result nine first s) m stands

-- the primary of the latest appointment is replica 0
first_primary : (latest : Epoch) (appointments : List Appointment) (n : ℕ) → All (IsOurs latest) appointments → option_map_or (λ a. a.primary) (slice_get appointments n) 0 ≡ 0
first_primary latest [] n all = refl
first_primary latest (a ∷ appointments) zero all = (All-head (IsOurs latest) a appointments all).primary
first_primary latest (a ∷ appointments) (suc n) all = first_primary latest appointments n (All-tail (IsOurs latest) a appointments all)

first_by_role : (role : Role) (last : ℕ) (r : Open) (images : Areas → Type 0) (m : Machine) → AsRole role last r images m → latest_primary m ≡ 0
first_by_role Other last r images m s = let c = s.rests.course in subst (λ n. latest_primary n ≡ 0) (sym s.rests.is) (first_primary c.latest (c.first ∷ c.later) (length (c.first ∷ c.later) - 1) s.rests.ruled.each)
first_by_role (Primary epoch active) last r images m s = let c = s.runs.course in subst (λ n. latest_primary n ≡ 0) (sym s.runs.is) (first_primary c.latest (c.first ∷ c.later) (length (c.first ∷ c.later) - 1) s.ruled.each)

first_by_replica : (o : Option Open) (last : ℕ) (images : Areas → Type 0) (m : Machine) → AsReplica o last images m → latest_primary m ≡ 0
first_by_replica None last images m s = let c = s.is_shut.course in subst (λ n. latest_primary n ≡ 0) (sym s.is_shut.is) (first_primary c.latest (c.first ∷ c.later) (length (c.first ∷ c.later) - 1) s.is_shut.ruled.each)
first_by_replica (Some r) last images m s = first_by_role r.role last r images m s

first_by : (booted : Bool) (k : Kept) (images : Areas → Type 0) (m : Machine) → has_booted k ≡ booted → StandsFor k images m → latest_primary m ≡ 0
first_by true k images m e s = first_by_replica k.replica k.last images m (replica_of k images m e s)
first_by false k images m e s = subst (λ n. latest_primary n ≡ 0) (sym (new_of k images m e s).is) refl

pub stands_first : (k : Kept) (images : Areas → Type 0) (m : Machine) → StandsFor k images m → latest_primary m ≡ 0
stands_first k images m s = first_by (has_booted k) k images m refl s

-- no event is another replica's
zero_acts : (m : Machine) (event : Event) → IsHere event → latest_primary m ≡ 0 → is_actor (event_primary m event) event 0 ≡ true
zero_acts m (Boot p members) here first = subst (λ ms. is_actor p (Boot p ms) 0 ≡ true) (sym here.1) refl
zero_acts m (Client r call) here first = subst (λ n. (n == 0) ≡ true) (sym here.0) refl
zero_acts m (Arm r calls) here first = subst (λ n. (n == 0) ≡ true) (sym here.0) refl
zero_acts m (Crash r pick) here first = subst (λ n. (n == 0) ≡ true) (sym here) refl
zero_acts m (Reboot r) here first = subst (λ n. (n == 0) ≡ true) (sym here) refl
zero_acts m (Inspect r) here first = subst (λ n. (n == 0) ≡ true) (sym here) refl
zero_acts m (Survey r e) here first = subst (λ n. (n == 0) ≡ true) (sym here) refl
zero_acts m (Appoint e p members) here first = subst (λ n. (n == 0) ≡ true) (sym here.0) refl
zero_acts m (Activate e) here first = subst (λ n. (n == 0) ≡ true) (sym first) refl

pub elsewhere_lent : {M : Type 0} (items : List M) (d' : M) (m : Machine) (event : Event) → IsHere event → latest_primary m ≡ 0 → (r : ℕ) → is_actor (event_primary m event) event r ≡ false → slice_get (slice_set items 0 d') r ≡ slice_get items r
elsewhere_lent items d' m event here first zero other = absurd (false≢true (sym other ∙ zero_acts m event here first))
elsewhere_lent [] d' m event here first (suc r) other = refl
elsewhere_lent (x ∷ xs) d' m event here first (suc r) other = refl

-- ---- faults

no_rise : (r : ℕ) (result : Result (List Observation) WorldError) → IfOk result TellsZero → fault_lines (suc r) result ≡ 0
no_rise r (Ok lines) names = names r
no_rise r (Err e) names = refl

pub faults_lent : {M : Type 0} (faults : M → ℕ) (items : List M) (d d' : M) (result : Result (List Observation) WorldError) → length items ≡ 9 → d ≡ get_or items 0 d → IfOk result TellsZero → RoseBy (fault_lines 0 result) (faults d) (faults d') → (r : ℕ) → RoseBy (fault_lines r result) (faults_of faults items r) (faults_of faults (slice_set items 0 d') r)
faults_lent faults [] d d' result nine first names rose r = absurd (nine_none nine)
faults_lent faults (x ∷ xs) d d' result nine first names rose zero = subst (λ y. RoseBy (fault_lines 0 result) (faults y) (faults d')) first rose
faults_lent faults (x ∷ xs) d d' result nine first names rose (suc r) = rose_none (faults_of faults xs r) (faults_of faults xs r) (omega arith) (fault_lines (suc r) result) (no_rise r result names)
