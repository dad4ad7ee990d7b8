-- Where one replica of a fleet is changed, the others stand for what they stood for.
use Rattle.std.proofs.Common.{rules, true, false, eqb, ◌≡◌, ◌≢◌, sym, refl, subst, ℕ, ◌<◌, List, [], ◌++◌, length, set, Option, Some, None, ◌⊎◌, inl, inr}
use Rattle.std.specs.Option.{ForSome}
use Rattle.std.proofs.lemmas.Bool.Decides.{eqb_tells}
use Rattle.std.proofs.lemmas.List.{get_or-set_same, get_or-set_other}
use Rattle.disk_model.specs.Disk.{Areas, Only}
use Rattle.order_machine.specs.Legal.{behind}
use Rattle.order_machine.specs.declared.observation.Observation.{Observation}
use Rattle.replica.specs.Open.{Open}
use Rattle.replica_laws.specs.Modelled.{StandsIn}
use Rattle.fleet_run.specs.Scenes.{FleetReplica, Scene, replica_at, held_by}
use Rattle.fleet_run.specs.Scenes.FleetReplica.{Open as Running, Closed}
use Rattle.fleet_run.specs.Acts.{changed_at}
use Rattle.fleet_run.specs.Acts.Act.{Closes}
use Rattle.fleet_run.specs.Acts.How.{Fine}
use Rattle.fleet_run.specs.Acts.Does.{closed, said}
use Rattle.fleet_acts.specs.Standing.{StandsAt, StandsFor, Images, open_at, DisksStand, Done, Said}
use Rattle.fleet_acts.proofs.Takings.{open_holds}

-- ---- a closing

-- whether a replica is open or not, its disk holds what it may hold once it is closed
pub holds : (x : Option Open) (images : Areas → Type 0) (f : FleetReplica) → StandsAt x images f → StandsIn (held_by f) images
holds (Some x) images (Running o) stands = open_holds x o images stands
holds (Some x) images (Closed logs) stands = absurd stands
holds None images (Running o) stands = absurd stands
holds None images (Closed logs) stands = stands

pub closes_so : (s : Scene) (r : ℕ) (x : Option Open) (left : Option Areas) (images images' : Areas → Type 0) (lines : List Observation) → ForSome left images → Only left images'
    → StandsAt x images (replica_at s.replicas r) → Done s (Closes r) (Fine false) r None images' lines lines
closes_so s r x left images images' lines from only stands = record {
  told = [];
  scene = changed_at s r (Closed (held_by (replica_at s.replicas r))) [];
  lines = Prim.search (rules);
  does = closed r;
  replica = Closed (held_by (replica_at s.replicas r));
  changes = refl;
  stands = λ c is. holds x images (replica_at s.replicas r) stands c (among left from c (only c is));
}
  where
    among : (d : Option Areas) → ForSome d images → (c : Areas) → d ≡ Some c → images c
    among None given c is = given c is
    among (Some d) given c is = given c is

-- ---- lines that are said

pub says_so : (s : Scene) (more before now : List Observation) → now ≡ before ++ more → Said s more before now
says_so s more before now lines = record { scene = record s { position = behind s.position more }; lines = lines; does = said more; stays = refl }

-- ---- nine replicas

pub stands_set : (xs : List (Option Open)) (images images' : Images) (fleet : List FleetReplica) (r : ℕ) (x : Option Open) (f : FleetReplica) → r < length xs → r < length fleet
    → StandsFor xs images fleet → ((q : ℕ) → q ≢ r → images' q ≡ images q) → StandsAt x (images' r) f → StandsFor (set xs r x) images' (set fleet r f)
stands_set xs images images' fleet r x f within_xs within stands others there q below = by (eqb_tells q r)
  where
    at : ℕ → (Areas → Type 0) → Type 0
    at n now = StandsAt (open_at (set xs r x) n) now (replica_at (set fleet r f) n)

    same : at r (images' r)
    same = subst (λ (y : Option Open). StandsAt y (images' r) (replica_at (set fleet r f) r)) (sym (get_or-set_same xs r x None within_xs))
        (subst (λ (g : FleetReplica). StandsAt x (images' r) g) (sym (get_or-set_same fleet r f _ within)) there)

    other : q ≢ r → at q (images' q)
    other ne = subst (λ (y : Option Open). StandsAt y (images' q) (replica_at (set fleet r f) q)) (sym (get_or-set_other xs r q x None ne))
        (subst (λ (g : FleetReplica). StandsAt (open_at xs q) (images' q) g) (sym (get_or-set_other fleet r q f _ ne))
        (subst (λ (now : Areas → Type 0). StandsAt (open_at xs q) now (replica_at fleet q)) (sym (others q ne)) (stands q below)))

    by : ((eqb q r ≡ true) × (q ≡ r)) ⊎ ((eqb q r ≡ false) × (q ≢ r)) → at q (images' q)
    by (inl e) = subst (λ (n : ℕ). at n (images' n)) (sym e.1) same
    by (inr ne) = other ne.1

-- what nine replicas stand for, their disks hold
pub disks_stand : (xs : List (Option Open)) (images : Images) (s : Scene) → StandsFor xs images s.replicas → DisksStand images s
disks_stand xs images s stands r below = holds (open_at xs r) (images r) (replica_at s.replicas r) (stands r below)
