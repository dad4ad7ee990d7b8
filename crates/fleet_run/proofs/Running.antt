-- Events and runs keep the fleet sound.
use Rattle.std.proofs.Common.{◌≡◌, ◌∙◌, ℕ, true, false, Bool, cond, List, [], ◌∷◌, refl, sym, ap, Option, Some, None}
use Rattle.std.specs.Prelude.{All, ◌==◌}
use Rattle.std.specs.Option.{option_map_or}
use Rattle.std.proofs.lemmas.Bool.{false≢true}
use Rattle.rc_base.specs.declared.ids.TxnId.{TxnId}
use Rattle.events.specs.declared.call.Call.{Call}
use Rattle.events.specs.declared.call.Call.TheVariants as calls
use Rattle.events.specs.Locking.{locks_at, taken}
use Rattle.key_locks.specs.Grants.{released}
use Rattle.order_machine.specs.Clients.{seen}
use Rattle.events.specs.declared.event.Event.{Event}
use Rattle.events.specs.declared.event.Event.TheVariants.{Boot, Client, Arm, Crash, Reboot, Inspect, Survey, Appoint, Activate}
use Rattle.log_records.specs.declared.record.Record.{Record}
use Rattle.order_machine.specs.declared.observation.Observation.{Observation}
use Rattle.order_machine.specs.declared.observation.Observation.TheVariants as says
use Rattle.order_machine.specs.Machine.{Machine, Txn, put_txn, put_grants, grants_of}
use Rattle.order_machine.specs.Transitions.{opened, asking, asking_locks, going_at, is_boot}
use Rattle.replica_model.specs.declared.step.StepEvent.TheVariants as steps
use Rattle.fleet_laws.specs.Fleets.{Fleet}
use Rattle.fleet_laws.specs.Moves.{Run}
use Rattle.fleet_run.specs.Scenes.{FleetState, Scene, entered}
use Rattle.fleet_run.specs.Acts.{Act, How, Does, Goes, left_behind, with_barrier, only_mounts, behind_failed_mount}
use Rattle.fleet_run.specs.Acts.Act.{Opens, Takes, Closes, Says}
use Rattle.fleet_run.specs.Acts.How.{Fine, Failed}
use Rattle.fleet_run.specs.Acts.Goes.{starts, does}
use Rattle.fleet_run.specs.Plans.{done}
use Rattle.fleet_run.specs.Sound.{Sound}
use Rattle.fleet_run.specs.Laws.{IsSoundScene, IsReady, IsAside}
use Rattle.fleet_run.proofs.MachineLines.{Follows, itself, beside, replaced, same_role}
use Rattle.fleet_run.proofs.Moved.{run_then, sound_machine}
use Rattle.fleet_run.proofs.Writing.{all_none, all_more}
use Rattle.fleet_run.proofs.Acting.{acts}

-- ---- acts that need nothing of their event

abbrev pub IsEasy : Act → Type 0
IsEasy (Opens r) = Unit {0}
IsEasy (Takes r steps.Barrier closing) = All IsAside closing
IsEasy (Takes r steps.Inspect closing) = All IsAside closing
IsEasy (Takes r (steps.Client call) closing) = ⊥
IsEasy (Takes r (steps.Survey e) closing) = ⊥
IsEasy (Takes r (steps.Appoint a) closing) = ⊥
IsEasy (Takes r (steps.Activate e) closing) = ⊥
IsEasy (Closes r) = Unit {0}
IsEasy (Says lines) = All IsAside lines

abbrev pub AreEasy : List Act → Type 0
AreEasy [] = Unit {0}
AreEasy (act ∷ acts) = IsEasy act × AreEasy acts

easy_ready : (s : Scene) (f : Fleet Record) (act : Act) → IsEasy act → IsReady s f act
easy_ready s f (Opens r) easy = tt
easy_ready s f (Takes r steps.Barrier closing) easy = (tt, easy)
easy_ready s f (Takes r steps.Inspect closing) easy = (tt, easy)
easy_ready s f (Takes r (steps.Client call) closing) easy = absurd easy
easy_ready s f (Takes r (steps.Survey e) closing) easy = absurd easy
easy_ready s f (Takes r (steps.Appoint a) closing) easy = absurd easy
easy_ready s f (Takes r (steps.Activate e) closing) easy = absurd easy
easy_ready s f (Closes r) easy = tt
easy_ready s f (Says lines) easy = easy

pub no_lines : All IsAside []
no_lines = all_none IsAside

pub done_aside : All IsAside done
done_aside = all_more IsAside says.Done [] tt no_lines

barrier_easy : (act : Act) (acts : List Act) → AreEasy acts → AreEasy (with_barrier act acts)
barrier_easy (Opens r) acts easy = easy
barrier_easy (Takes r steps.Barrier closing) acts easy = easy
barrier_easy (Takes r steps.Inspect closing) acts easy = (no_lines, easy)
barrier_easy (Takes r (steps.Client call) closing) acts easy = (no_lines, easy)
barrier_easy (Takes r (steps.Survey e) closing) acts easy = (no_lines, easy)
barrier_easy (Takes r (steps.Appoint a) closing) acts easy = (no_lines, easy)
barrier_easy (Takes r (steps.Activate e) closing) acts easy = (no_lines, easy)
barrier_easy (Closes r) acts easy = easy
barrier_easy (Says lines) acts easy = easy

pub mounts_easy : (acts : List Act) → AreEasy (only_mounts acts)
mounts_easy [] = tt
mounts_easy (Opens r ∷ acts) = (tt, mounts_easy acts)
mounts_easy (Takes r event closing ∷ acts) = mounts_easy acts
mounts_easy (Closes r ∷ acts) = mounts_easy acts
mounts_easy (Says lines ∷ acts) = mounts_easy acts

cond_easy : (b : Bool) (acts others : List Act) → AreEasy acts → AreEasy others → AreEasy (cond b acts others)
cond_easy true acts others a c = a
cond_easy false acts others a c = c

failed_easy : (event : Event) (r : ℕ) (acts : List Act) → AreEasy acts → AreEasy (behind_failed_mount event r acts)
failed_easy (Boot p members) r acts easy = cond_easy (r == p) (only_mounts acts) acts (mounts_easy acts) easy
failed_easy (Client q call) r acts easy = tt
failed_easy (Arm q calls) r acts easy = tt
failed_easy (Crash q pick) r acts easy = tt
failed_easy (Reboot q) r acts easy = tt
failed_easy (Inspect q) r acts easy = tt
failed_easy (Survey q e) r acts easy = tt
failed_easy (Appoint e q members) r acts easy = tt
failed_easy (Activate e) r acts easy = tt

pub left_easy : (event : Event) (act : Act) (how : How) (acts : List Act) → AreEasy acts → AreEasy (left_behind event act how acts)
left_easy event act (Fine true) acts easy = barrier_easy act acts easy
left_easy event act (Fine false) acts easy = easy
left_easy event (Opens r) Failed acts easy = failed_easy event r acts easy
left_easy event (Takes r step closing) Failed acts easy = tt
left_easy event (Closes r) Failed acts easy = tt
left_easy event (Says lines) Failed acts easy = tt

-- ---- one act after another

-- what is to be done is ready: the first act here, and the others wherever
abbrev pub AreReady : Scene → Fleet Record → List Act → Type 0
AreReady s f [] = Unit {0}
AreReady s f (act ∷ acts) = IsReady s f act × AreEasy acts

pub easy_all : (s : Scene) (f : Fleet Record) (acts : List Act) → AreEasy acts → AreReady s f acts
easy_all s f [] easy = tt
easy_all s f (act ∷ acts) easy = (easy_ready s f act easy.0, easy.1)

-- the scene is sound, and its acts are ready
pub record IsOnWay (f : Fleet Record) (t : Scene) (acts : List Act) : Type 0 where
  pub fleet : Fleet Record
  pub run : Run f fleet
  pub sound : IsSoundScene t fleet
  pub ready : AreReady t fleet acts

pub way_step : (event : Event) (f : Fleet Record) (t : Scene) (act : Act) (others : List Act) (how : How) (more : List Observation) (u : Scene) → IsOnWay f t (act ∷ others) → Does t act how more u → IsOnWay f u (left_behind event act how others)
way_step event f t act others how more u w did =
    let next = acts t w.fleet w.sound act how more u w.ready.0 did in
    record { fleet = next.0; run = run_then w.run next.1; sound = next.2; ready = easy_all u next.0 (left_behind event act how others) (left_easy event act how others w.ready.1) }

-- whatever holds at the start and is kept by each act holds all along
pub walk : (s : Scene) (start : List Act) (Holds : Scene → List Act → Type 0)
    → ((t : Scene) (act : Act) (others : List Act) (how : How) (more : List Observation) (u : Scene) → Holds t (act ∷ others) → Does t act how more u → Holds u (left_behind s.position.event act how others))
    → Holds s start → (lines : List Observation) (t : Scene) (rest : List Act) → Goes s start lines t rest → Holds t rest
walk s start Holds step at lines t rest starts = at
walk s start Holds step at lines t rest (does before u act others how more v g d) = step u act others how more t (walk s start Holds step at before u (act ∷ others) g) d

-- an event whose acts are ready as it begins
pub on_way : (s : Scene) (f : Fleet Record) (start : List Act) → IsOnWay f s start → (lines : List Observation) (t : Scene) (rest : List Act) → Goes s start lines t rest → IsOnWay f t rest
on_way s f start at lines t rest goes = walk s start (IsOnWay f) (way_step s.position.event f) at lines t rest goes

-- ---- as an event begins

module _ (event : Event) (m : Machine) where
  locks_follow : (r : ℕ) (t : TxnId) (call : Call) (x : Option Txn) → Follows event (λ e. ⊥) ⊥ m (option_map_or (λ x. put_grants m r (taken (grants_of m r) t (locks_at (seen m r x) call))) x m)
  locks_follow r t call None = itself event (λ e. ⊥) ⊥ m
  locks_follow r t call (Some x) = replaced event (λ e. ⊥) ⊥ m r _ (same_role event r m)

  named_follow : (r : ℕ) (call : Call) (x : Option TxnId) → Follows event (λ e. ⊥) ⊥ m (option_map_or (λ t. asking_locks m r t call) x m)
  named_follow r call None = itself event (λ e. ⊥) ⊥ m
  named_follow r call (Some t) = locks_follow r t call (going_at m r t)

  commit_follow : (t : TxnId) (x : Option Txn) → Follows event (λ e. ⊥) ⊥ m (option_map_or (λ x. put_txn m t (record x { live = false; asked = true })) x m)
  commit_follow t None = itself event (λ e. ⊥) ⊥ m
  commit_follow t (Some x) = beside event (λ e. ⊥) ⊥ m m _ (itself event (λ e. ⊥) ⊥ m) (refl, refl, refl, refl)

  abort_follow : (r : ℕ) (t : TxnId) (x : Option Txn) → Follows event (λ e. ⊥) ⊥ m (option_map_or (λ x. put_txn (put_grants m r (released (grants_of m r) t)) t (record x { live = false })) x m)
  abort_follow r t None = itself event (λ e. ⊥) ⊥ m
  abort_follow r t (Some x) = beside event (λ e. ⊥) ⊥ m (put_grants m r (released (grants_of m r) t)) _ (replaced event (λ e. ⊥) ⊥ m r _ (same_role event r m)) (refl, refl, refl, refl)

  pub asking_follows : (r : ℕ) (call : Call) → Follows event (λ e. ⊥) ⊥ m (asking m r call)
  asking_follows r calls.Begin = named_follow r calls.Begin None
  asking_follows r (calls.Make t name kind) = named_follow r (calls.Make t name kind) (Some t)
  asking_follows r (calls.OnKey t name key call) = named_follow r (calls.OnKey t name key call) (Some t)
  asking_follows r (calls.Commit t) = commit_follow t (going_at m r t)
  asking_follows r (calls.Abort t) = abort_follow r t (going_at m r t)

-- a scene as an event begins that is no boot
pub begins : (event : Event) (s : FleetState) (f : Fleet Record) → is_boot event ≡ false → (opened s.machine event).event ≡ event → Follows event (λ e. ⊥) ⊥ s.machine (opened s.machine event).machine → Sound s.machine s.replicas f → IsSoundScene (entered s event) f
begins event s f other is x sound = record {
  sound = sound_machine event (λ e. ⊥) s.machine (opened s.machine event).machine s.replicas f (λ boots. absurd (false≢true (sym other ∙ boots))) x (λ e none. absurd none) sound;
  boots = λ boots. absurd (false≢true (sym other ∙ ap is_boot (sym is) ∙ boots));
}
