-- A mount, done or not, is an act of a fleet.
use Rattle.std.proofs.Common.{◌≡◌, ◌∙◌, sym, refl, ap, subst, ℕ, false, List, [], ◌∷◌, ◌++◌, Contains, Option, Some, None, Ok, Err}
use Rattle.std.specs.Option.{ForSome, IsSome}
use Rattle.std.proofs.lemmas.Bool.{false≢true}
use Rattle.disk_model.specs.Disk.{Areas, Each}
use Rattle.txn_table.specs.Whole.{Whole}
use Rattle.log_store.specs.Durable.{durable}
use Rattle.log_store.specs.Fold.{Place}
use Rattle.order_machine.specs.declared.observation.Observation.{Observation}
use Rattle.order_machine.specs.declared.observation.Observation.TheVariants as says
use Rattle.replica_model.specs.declared.step.Outcome.{Outcome}
use Rattle.replica_model.specs.OpenReplica.{OpenReplica, opened_over}
use Rattle.replica.specs.Open.{Open}
use Rattle.replica_laws.specs.Agreement.{HoldsOneOf, whole_of}
use Rattle.replica_laws.specs.Modelled.{StandsIn, Opened}
use Rattle.fleet_run.specs.Scenes.{Scene, replica_at}
use Rattle.fleet_run.specs.Scenes.FleetReplica.{Open as Running, Closed}
use Rattle.fleet_run.specs.Acts.{changed_at, opening_lines}
use Rattle.fleet_run.specs.Acts.Act.{Opens}
use Rattle.fleet_run.specs.Acts.How.{Fine, Failed}
use Rattle.fleet_run.specs.Acts.Does.{opened, unopened}
use Rattle.fleet_acts.specs.Standing.{Done}

-- what reads give is an image
pub an_image : (seen : Option Areas) (images : Areas → Type 0) → IsSome seen → ForSome seen images → (c : Areas) × images c
an_image None images some shown = absurd (false≢true some)
an_image (Some c) images some shown = (c, shown c refl)

-- so not each image is wrong
pub never_corrupt : (seen : Option Areas) (images : Areas → Type 0) (place : Place) (logs : List Whole) → IsSome seen → ForSome seen images → StandsIn logs images → Each images (λ c. durable c ≡ Err place) → ⊥
never_corrupt seen images place logs some shown stands wrong =
    let there = an_image seen images some shown in
    let held : HoldsOneOf logs there.0 = stands there.0 there.1 in
    let told = sym held.is ∙ wrong there.0 there.1 in
    cc

-- the log that a mount finds is one that the disk may hold
pub found : (seen : Option Areas) (images : Areas → Type 0) (logs : List Whole) (x : Open) (id : ℕ) (told : Outcome) → IsSome seen → ForSome seen images → StandsIn logs images → (o : Opened x id told images) → Contains logs o.log
found seen images logs x id told some shown stands o =
    let there = an_image seen images some shown in
    let held : HoldsOneOf logs there.0 = stands there.0 there.1 in
    let same : held.kept ≡ o.agrees.kept = let e : Ok held.kept ≡ Ok o.agrees.kept = sym held.is ∙ o.agrees.stands there.0 there.1 in cc in
    subst (λ (w : Whole). Contains logs w) (ap whole_of same ∙ sym o.agrees.disk) held.one

pub opens_so : (s : Scene) (id : ℕ) (logs : List Whole) (x : Open) (told : Outcome) (seen : Option Areas) (images : Areas → Type 0) (before now : List Observation) → IsSome seen → ForSome seen images
    → replica_at s.replicas id ≡ Closed logs → StandsIn logs images → Opened x id told images
    → now ≡ before ++ says.Up id ∷ says.View id told.shown ∷ [] → Done s (Opens id) (Fine false) id (Some x) images before now
opens_so s id logs x told seen images before now some shown there stands o lines =
    let model : OpenReplica = opened_over id o.log in
    record {
      told = opening_lines id model;
      scene = changed_at s id (Running model) (opening_lines id model);
      lines = lines ∙ ap (λ (t : Outcome). before ++ says.Up id ∷ says.View id t.shown ∷ []) o.outcome;
      does = opened id logs o.log there (found seen images logs x id told some shown stands o);
      replica = Running model;
      changes = refl;
      stands = o.agrees;
    }

pub fails_so : (s : Scene) (id : ℕ) (logs : List Whole) (images : Areas → Type 0) (before now : List Observation) → replica_at s.replicas id ≡ Closed logs → StandsIn logs images
    → now ≡ before ++ says.Fault id ∷ [] → Done s (Opens id) Failed id None images before now
fails_so s id logs images before now there stands lines = record {
  told = says.Fault id ∷ [];
  scene = changed_at s id (Closed logs) (says.Fault id ∷ []);
  lines = lines;
  does = unopened id logs there;
  replica = Closed logs;
  changes = refl;
  stands = stands;
}
