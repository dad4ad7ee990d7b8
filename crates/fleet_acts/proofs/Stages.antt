-- An event goes on by acts that were done, and halts at one that was cut off.
use Rattle.std.proofs.Common.{true, false, eqb, ◌≡◌, ◌≢◌, ◌∙◌, sym, refl, ap, subst, ℕ, ◌<◌, List, [], ◌∷◌, ◌++◌, length, set, Option, ◌⊎◌, inl, inr}
use Rattle.std.proofs.lemmas.Bool.Decides.{eqb_tells}
use Rattle.std.proofs.lemmas.List.{get_or-set_same, get_or-set_other, length-set}
use Rattle.disk_model.specs.Disk.{Areas}
use Rattle.events.specs.declared.event.Event.{Event}
use Rattle.events.specs.declared.event.Event.TheVariants.{Boot, Client, Arm, Crash, Reboot, Inspect, Survey, Appoint, Activate}
use Rattle.order_machine.specs.Transitions.{opened}
use Rattle.order_machine.specs.declared.observation.Observation.{Observation}
use Rattle.replica.specs.Open.{Open}
use Rattle.replica_laws.specs.Modelled.{StandsIn}
use Rattle.fleet_run.specs.Scenes.{FleetReplica, FleetState, Scene, replica_at, held_by, entered}
use Rattle.fleet_run.specs.Acts.{Act, How, Does, Goes, left_behind}
use Rattle.fleet_run.specs.Acts.Act.{Says}
use Rattle.fleet_run.specs.Acts.How.{Fine}
use Rattle.fleet_run.specs.Acts.Goes.{starts, does}
use Rattle.fleet_run.specs.Plans.{plan}
use Rattle.fleet_acts.specs.Standing.{Images, StandsFor, DisksStand, Done, Said, Cut}
use Rattle.fleet_acts.specs.Standing.Cut.{before, behind}
use Rattle.fleet_acts.specs.Stages.{Stage, Halted}
use Rattle.fleet_acts.proofs.Frames.{stands_set, disks_stand}

-- as the event begins, it is the one of the position
event_is : (s : FleetState) (event : Event) → (entered s event).position.event ≡ event
event_is s event = cases event
  where
    cases : (e : Event) → (opened s.machine e).event ≡ e
    cases (Client r call) = refl
    cases (Boot p members) = refl
    cases (Arm r calls) = refl
    cases (Crash r pick) = refl
    cases (Reboot r) = refl
    cases (Inspect r) = refl
    cases (Survey r e) = refl
    cases (Appoint e p members) = refl
    cases (Activate e) = refl

goes_on : (s : FleetState) (event : Event) (lines : List Observation) (t : Scene) (act : Act) (acts : List Act) (how : How) (more : List Observation) (u : Scene)
    → Goes (entered s event) (plan s event) lines t (act ∷ acts) → Does t act how more u → Goes (entered s event) (plan s event) (lines ++ more) u (left_behind event act how acts)
goes_on s event lines t act acts how more u goes act_does =
    subst (λ (e : Event). Goes (entered s event) (plan s event) (lines ++ more) u (left_behind e act how acts)) (event_is s event) (does lines t act acts how more u goes act_does)

pub stage_done : (s : FleetState) (event : Event) (xs : List (Option Open)) (images images' : Images) (lines lines' : List Observation) (act : Act) (acts : List Act) (how : How) (r : ℕ) (x : Option Open)
    → (g : Stage s event xs images lines (act ∷ acts)) → r < 9 → length xs ≡ 9 → ((q : ℕ) → q ≢ r → images' q ≡ images q) → Done g.scene act how r x (images' r) lines lines'
    → Stage s event (set xs r x) images' lines' (left_behind event act how acts)
stage_done s event xs images images' lines lines' act acts how r x g below nine others d =
    let within_xs : r < length xs = subst (λ (n : ℕ). r < n) (sym nine) below in
    let within : r < length g.scene.replicas = subst (λ (n : ℕ). r < n) (sym g.nine) below in
    record {
      scene = d.scene;
      goes = subst (λ (ls : List Observation). Goes (entered s event) (plan s event) ls d.scene (left_behind event act how acts)) (sym d.lines) (goes_on s event lines g.scene act acts how d.told d.scene g.goes d.does);
      nine = ap (λ (fs : List FleetReplica). length fs) d.changes ∙ (length-set g.scene.replicas r d.replica ∙ g.nine);
      stands = subst (λ (fs : List FleetReplica). StandsFor (set xs r x) images' fs) (sym d.changes) (stands_set xs images images' g.scene.replicas r x d.replica within_xs within g.stands others d.stands);
    }

-- where the disk of one replica holds what it may at this scene, and the others hold what they held
disks_set : (images images' : Images) (s t : Scene) (r : ℕ) (f : FleetReplica) → r < length s.replicas → DisksStand images s → ((q : ℕ) → q ≢ r → images' q ≡ images q)
    → t.replicas ≡ set s.replicas r f → StandsIn (held_by f) (images' r) → DisksStand images' t
disks_set images images' s t r f within disks others changes there q below = subst (λ (fs : List FleetReplica). StandsIn (held_by (replica_at fs q)) (images' q)) (sym changes) (by (eqb_tells q r))
  where
    at : ℕ → Type 0
    at n = StandsIn (held_by (replica_at (set s.replicas r f) n)) (images' n)

    by : ((eqb q r ≡ true) × (q ≡ r)) ⊎ ((eqb q r ≡ false) × (q ≢ r)) → at q
    by (inl e) = subst (λ (n : ℕ). at n) (sym e.1) (subst (λ (g : FleetReplica). StandsIn (held_by g) (images' r)) (sym (get_or-set_same s.replicas r f _ within)) there)
    by (inr ne) = subst (λ (g : FleetReplica). StandsIn (held_by g) (images' q)) (sym (get_or-set_other s.replicas r q f _ ne.1))
        (subst (λ (now : Areas → Type 0). StandsIn (held_by (replica_at s.replicas q)) now) (sym (others q ne.1)) (disks q below))

disks_stay : (images images' : Images) (s : Scene) (r : ℕ) → DisksStand images s → ((q : ℕ) → q ≢ r → images' q ≡ images q) → StandsIn (held_by (replica_at s.replicas r)) (images' r) → DisksStand images' s
disks_stay images images' s r disks others there q below = by (eqb_tells q r)
  where
    at : ℕ → Type 0
    at n = StandsIn (held_by (replica_at s.replicas n)) (images' n)

    by : ((eqb q r ≡ true) × (q ≡ r)) ⊎ ((eqb q r ≡ false) × (q ≢ r)) → at q
    by (inl e) = subst (λ (n : ℕ). at n) (sym e.1) there
    by (inr ne) = subst (λ (now : Areas → Type 0). StandsIn (held_by (replica_at s.replicas q)) now) (sym (others q ne.1)) (disks q below)

pub halted : (s : FleetState) (event : Event) (xs : List (Option Open)) (images images' : Images) (lines : List Observation) (act : Act) (acts : List Act) (r : ℕ)
    → (g : Stage s event xs images lines (act ∷ acts)) → r < 9 → ((q : ℕ) → q ≢ r → images' q ≡ images q) → Cut g.scene act r (images' r) → Halted s event images'
halted s event xs images images' lines act acts r g below others cut = by cut
  where
    disks : DisksStand images g.scene
    disks = disks_stand xs images g.scene g.stands

    within : r < length g.scene.replicas
    within = subst (λ (n : ℕ). r < n) (sym g.nine) below

    by : Cut g.scene act r (images' r) → Halted s event images'
    by (before there) = record { lines = lines; acts = act ∷ acts; scene = g.scene; goes = g.goes; disks = disks_stay images images' g.scene r disks others there }
    by (behind how told t f goes changes there) = record {
      lines = lines ++ told;
      acts = left_behind event act how acts;
      scene = t;
      goes = goes_on s event lines g.scene act acts how told t g.goes goes;
      disks = disks_set images images' g.scene t r f within disks others changes there;
    }

-- as an event begins, nothing is said, and all of its acts are left
pub stage_first : (s : FleetState) (event : Event) (xs : List (Option Open)) (images : Images) → length s.replicas ≡ 9 → StandsFor xs images s.replicas → Stage s event xs images [] (plan s event)
stage_first s event xs images nine stands = record { scene = entered s event; goes = starts; nine = nine; stands = stands }

pub stage_said : (s : FleetState) (event : Event) (xs : List (Option Open)) (images : Images) (lines lines' more : List Observation) (acts : List Act)
    → (g : Stage s event xs images lines (Says more ∷ acts)) → Said g.scene more lines lines' → Stage s event xs images lines' acts
stage_said s event xs images lines lines' more acts g d = record {
  scene = d.scene;
  goes = subst (λ (ls : List Observation). Goes (entered s event) (plan s event) ls d.scene acts) (sym d.lines) (goes_on s event lines g.scene (Says more) acts (Fine false) more d.scene g.goes d.does);
  nine = ap (λ (fs : List FleetReplica). length fs) d.stays ∙ g.nine;
  stands = subst (λ (fs : List FleetReplica). StandsFor xs images fs) (sym d.stays) g.stands;
}
