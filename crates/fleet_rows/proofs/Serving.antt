-- An event that was done is served, once its lines are whole and what it changed is shown.
use Rattle.std.proofs.Common.{◌≡◌, ◌∙◌, ℕ, ◌⊎◌, List, [], ◌∷◌, ◌++◌, take, map, length, refl, sym, ap, subst, inl, inr, append-nil}
use Rattle.log_records.specs.declared.record.Record.{Record}
use Rattle.txn_table.specs.Log.{Items}
use Rattle.events.specs.declared.event.Event.{Event}
use Rattle.events.specs.declared.event.Event.TheVariants.{Arm}
use Rattle.order_machine.specs.declared.observation.Observation.{Observation}
use Rattle.order_machine.specs.Machine.{Machine}
use Rattle.order_machine.specs.Transitions.{Position, HoldsBehind}
use Rattle.order_machine.specs.Legal.{behind, moved}
use Rattle.order_laws.proofs.Behind.{holds_world}
use Rattle.fleet_laws.specs.Fleets.{Fleet, IsAppointed}
use Rattle.fleet_laws.specs.Choice.{IsChosen}
use Rattle.fleet_laws.specs.Moves.{Run, IsReached}
use Rattle.fleet_laws.proofs.Runs.{reached_invariant, run_after}
use Rattle.fleet_laws.proofs.Use.{chosen_within}
use Rattle.fleet_laws.proofs.Agreement.{agree_less}
use Rattle.fleet_run.specs.Scenes.{FleetState, Scene, entered, left}
use Rattle.fleet_run.specs.Acts.{Act, How, Goes, left_behind}
use Rattle.fleet_run.specs.Acts.Act.{Says}
use Rattle.fleet_run.specs.Plans.{GoesBy, plan, done}
use Rattle.fleet_run.specs.Kernel as kernel
use Rattle.fleet_run.specs.Laws.{EventsKeepSound, IsSpelled}
use Rattle.fleet_rows.specs.Served.{Served, IsBehindRun, IsOrderOf}
use Rattle.fleet_rows.specs.Laws.{AreServed, Serves, RefusedAreServed, ArmsAreServed}
use Rattle.fleet_rows.proofs.Forward.{first_act, no_act, said_is, goes_position}
use Rattle.fleet_rows.proofs.Keeping.{run_then, Done, goes_by, whole_if, moved_if, Shows}

pub holds_there : (m : Machine) → IsBehindRun m → HoldsBehind m
holds_there m run = subst HoldsBehind run.is (holds_world [] run.steps run.whole)

-- ---- the order

chosen_then : (f g : Fleet Record) (log : Items) → IsReached f → Run f g → (log ≡ []) ⊎ ((e l : ℕ) × IsAppointed f e × IsChosen f e l × (map kernel.entry_of log ≡ take l (f.history e)))
    → (log ≡ []) ⊎ ((e l : ℕ) × IsAppointed g e × IsChosen g e l × (map kernel.entry_of log ≡ take l (g.history e)))
chosen_then f g log reached run (inl none) = inl none
chosen_then f g log reached run (inr c) =
    let i = reached_invariant f reached in
    let after = run_after f g i run in
    inr (c.0, c.1, after.appointed c.0 c.2, after.chosen c.0 c.1 c.2 c.3, c.4 ∙ (agree_less c.1 (length (f.history c.0)) (f.history c.0) (g.history c.0) (chosen_within f i c.0 c.1 c.2 c.3) (after.history c.0 c.2)).same)

pub order_then : (m n : Machine) (f g : Fleet Record) → IsReached f → Run f g → n.orders ≡ m.orders → IsOrderOf m f → IsOrderOf n g
order_then m n f g reached run same o = record { log = o.log; one = same ∙ o.one; chosen = chosen_then f g o.log reached run o.chosen }

-- ---- an event that was done

pub served_done : EventsKeepSound → (s t : FleetState) (event : Event) (lines : List Observation) → IsSpelled event → Served s → GoesBy s event lines t → Done s event lines t → Shows s event lines t → AreServed s event lines t
served_done keep s t event lines spelled v went d x =
    let g = keep s t v.fleet event lines v.sound spelled went in
    let whole = whole_if s.machine event lines d.free x.served in
    let moves : t.machine ≡ moved s.machine event lines =
    ap (λ (y : FleetState). y.machine) d.ends
    ∙ ap (λ (p : Position). p.machine) (goes_position (entered s event) (plan s event) lines d.scene [] d.goes)
    ∙ sym (moved_if s.machine event lines d.free) in
    record {
      whole = whole;
      moved = moves;
      served = record {
        fleet = g.0;
        sound = g.2;
        run = run_then s.machine t.machine event lines v.run whole moves;
        order = order_then s.machine t.machine v.fleet g.0 v.sound.reached g.1 x.orders v.order;
        nine = x.nine;
        replicas = x.replicas;
        logs = x.logs;
      };
    }

pub shows_as : (s t u : FleetState) (event : Event) (lines more : List Observation) → lines ≡ more → t ≡ u → Shows s event more u → Shows s event lines t
shows_as s t u event lines more same ends x = subst (λ (ls : List Observation). Shows s event ls t) (sym same) (subst (λ (y : FleetState). Shows s event more y) (sym ends) x)

-- an event that isn't refused and is done so is served
pub serves : EventsKeepSound → (event : Event) → IsSpelled event → ((s t : FleetState) (lines : List Observation) → Served s → Done s event lines t → Shows s event lines t) → Serves event
serves keep event spelled shows s t lines v went = by (goes_by s t event lines v went)
  where
    by : AreServed s event lines t ⊎ Done s event lines t → AreServed s event lines t
    by (inl refused) = refused
    by (inr d) = served_done keep s t event lines spelled v went d (shows s t lines v d)

pub refused_are_served : RefusedAreServed
refused_are_served s t event lines v refused went = by (goes_by s t event lines v went)
  where
    by : AreServed s event lines t ⊎ Done s event lines t → AreServed s event lines t
    by (inl is) = is
    by (inr d) = absurd (refused d.free)

-- ---- lines that are said

pub says_only : (s : Scene) (told lines : List Observation) (u : Scene) → Goes s (Says told ∷ []) lines u [] → (lines ≡ told) × (u ≡ record s { position = behind s.position told })
says_only s told lines u goes =
    let f = first_act s (Says told) [] lines u goes in
    let k = said_is s told f.how f.first f.mid f.done in
    let none = no_act f.mid f.later u (subst (λ (h : How). Goes f.mid (left_behind s.position.event (Says told) h []) f.later u []) k.0 f.goes) in
    (f.lines_are ∙ ap (λ (ls : List Observation). ls ++ f.later) k.1 ∙ ap (λ (ls : List Observation). told ++ ls) none.0 ∙ append-nil told, none.1 ∙ k.2)

-- ---- arming a disk

plan_arm : (s : FleetState) (r calls : ℕ) → plan s (Arm r calls) ≡ Says done ∷ []
unfolding plan
plan_arm s r calls = refl

arm_shows : (r calls : ℕ) (s t : FleetState) (lines : List Observation) → Served s → Done s (Arm r calls) lines t → Shows s (Arm r calls) lines t
arm_shows r calls s t lines v d =
    let k = says_only (entered s (Arm r calls)) done lines d.scene (subst (λ (acts : List Act). Goes (entered s (Arm r calls)) acts lines d.scene []) (plan_arm s r calls) d.goes) in
    shows_as s t s (Arm r calls) lines done k.0 (d.ends ∙ ap left k.1) (record {
      served = record {
        may = (record { named = refl; in_rank = refl; next = refl; goes_on = refl; row = refl }, tt);
        complete = record { opened = refl; grown = refl; mounted = refl; told = refl; answered = refl };
        holds = holds_there s.machine v.run;
      };
      orders = refl;
      nine = v.nine;
      replicas = v.replicas;
      logs = v.logs;
    })

pub arms_are_served : EventsKeepSound → ArmsAreServed
arms_are_served keep r calls = serves keep (Arm r calls) tt (arm_shows r calls)
