-- The events of a fleet, boots and appointments among them, and its runs.
use Rattle.std.proofs.Common.{◌≡◌, ◌∙◌, ℕ, ◌<◌, true, false, Bool, cond, ◌⊎◌, List, [], ◌∷◌, ◌++◌, length, map, set, refl, sym, ap, subst, inl, inr, arith, Option, Some, None}
use Rattle.std.specs.Prelude.{All, Contains, MatchOption, ◌==◌}
use Rattle.std.specs.List.{list_any}
use Rattle.std.proofs.lemmas.Bool.{cases_eq, cond-true, cond-false, eq-eqb, ne_eqb, eqb-true, or_cases, false≢true}
use Rattle.rc_base.specs.declared.ids.Epoch.{Epoch}
use Rattle.config_rule.specs.declared.appointments.Appointment.{Appointment}
use Rattle.events.specs.declared.answer.Answer.{Answer}
use Rattle.events.specs.declared.answer.Answer.TheVariants as answers
use Rattle.events.specs.declared.call.Call.{Call}
use Rattle.events.specs.declared.event.Event.{Event}
use Rattle.events.specs.declared.event.Event.TheVariants.{Boot, Client, Arm, Crash, Reboot, Inspect, Survey, Appoint, Activate}
use Rattle.log_records.specs.declared.record.Record.{Record}
use Rattle.txn_table.specs.Whole.{Whole}
use Rattle.order_machine.specs.declared.observation.Observation.{Observation}
use Rattle.order_machine.specs.declared.observation.Observation.TheVariants as says
use Rattle.order_machine.specs.AnswerLines.{line_of_answer}
use Rattle.order_machine.specs.Machine.{Machine, Appointment as Appointed, closed}
use Rattle.order_machine.specs.Transitions.{refusal, first_epoch, in_order, is_above_all, down_of, latest_primary}
use Rattle.order_machine.specs.Legal.{Step, behind}
use Rattle.replica_model.specs.declared.step.StepEvent.TheVariants as steps
use Rattle.replica_model.specs.OpenReplica.{OpenReplica, opened_over}
use Rattle.fleet_laws.specs.Fleets.{Fleet}
use Rattle.fleet_laws.specs.Moves.{Run, booted as booted_fleet, appointed as appointed_fleet}
use Rattle.fleet_laws.specs.Moves.Run.{rests}
use Rattle.fleet_laws.proofs.Puts.{put_same, put_other}
use Rattle.fleet_run.specs.Scenes.{FleetReplica, FleetState, Scene, replica_at, first_state, entered, left}
use Rattle.fleet_run.specs.Scenes.FleetReplica.{Open, Closed}
use Rattle.fleet_run.specs.Acts.{Act, How, Does, Goes, changed_at, opening_lines, left_behind, only_mounts}
use Rattle.fleet_run.specs.Acts.Act.{Opens, Takes, Says}
use Rattle.fleet_run.specs.Acts.Does.{opened as did_open, unopened, took, failed}
use Rattle.fleet_run.specs.Plans.{plan, is_open, leads, done, boot_appointment, later_appointment, FleetRun}
use Rattle.fleet_run.specs.Plans.FleetRun.{rests as fleet_rests, goes as fleet_goes}
use Rattle.fleet_run.specs.Kernel.{Term, term_of, IsCoded, code, entry_of, value_of, terms_of}
use Rattle.fleet_run.specs.Sound.{Sound, SameMembers}
use Rattle.fleet_run.specs.Laws.{IsSoundScene, MovesTo, IsAside, IsSpelled, EventsKeepSound, BeginningsKeepSound, RunsAreSound}
use Rattle.fleet_run.proofs.MachineLines.{Follows, MayEach, itself, closed_same, lines_follow, behind_event}
use Rattle.fleet_run.proofs.Moved.{run_then}
use Rattle.fleet_run.proofs.Writing.{all_none, all_more, all_first, all_rest}
use Rattle.fleet_run.proofs.Members.{ordered_members}
use Rattle.fleet_run.proofs.Stepping.{value_there}
use Rattle.fleet_run.proofs.Acting.{mount, unmount}
use Rattle.fleet_run.proofs.Starting.{first_is_sound}
use Rattle.fleet_run.proofs.Ahead.{still_ahead, appointing_ahead, booting_ahead}
use Rattle.fleet_run.proofs.Appointing.{Given, given_appoint, given_boot}
use Rattle.fleet_run.proofs.Taking.{IsDueTo, IsEarly, taken, taken_cut, unmounted, there_early}
use Rattle.fleet_run.proofs.Surveying.{term_below}
use Rattle.fleet_run.proofs.Ruling.{BootIsFine, AppointIsFine, Fits, boot_is_fine, appoint_is_fine, members_fit, may_appoint, may_boot, active_other, empty_logs, booted_since, has_terms, passes_else, some_refused}
use Rattle.fleet_run.proofs.Activating.{activate_is_fine, activation}
use Rattle.fleet_run.proofs.Running.{IsOnWay, AreReady, AreEasy, on_way, walk, way_step, easy_all, left_easy, mounts_easy, done_aside, no_lines, asking_follows, begins}

-- ---- appointments

-- acts that lead to the step of an appointment: in a boot mounts before it
data IsDue (mounts : Bool) (p : ℕ) (a : Appointment) : List Act → Type 0 where
  last : IsDue mounts p a (Takes p (steps.Appoint a) done ∷ [])
  more : (r : ℕ) (acts : List Act) → mounts ≡ true → IsDue mounts p a acts → IsDue mounts p a (Opens r ∷ acts)

due_mounts : (p : ℕ) (a : Appointment) (rs : List ℕ) → IsDue true p a (map Opens rs ++ Takes p (steps.Appoint a) done ∷ [])
due_mounts p a [] = last
due_mounts p a (r ∷ rs) = more r (map Opens rs ++ Takes p (steps.Appoint a) done ∷ []) refl (due_mounts p a rs)

-- the appointment is still to come, and the fleet is sound by the machine before it
record IsWaiting (f : Fleet Record) (event : Event) (mounts : Bool) (m : Machine) (p : ℕ) (a : Appointment) (before now config : List ℕ) (t : Scene) (acts : List Act) : Type 0 where
  fleet : Fleet Record
  run : Run f fleet
  early : IsEarly event m p a before now config t fleet
  due : IsDue mounts p a acts

abbrev IsStage : Fleet Record → Event → Bool → Machine → ℕ → Appointment → List ℕ → List ℕ → List ℕ → Scene → List Act → Type 0
IsStage f event mounts m p a before now config t acts = IsWaiting f event mounts m p a before now config t acts ⊎ IsOnWay f t acts

reached_way : (f g : Fleet Record) (event : Event) (act : Act) (how : How) (others : List Act) (u : Scene) → Run f g → AreEasy others → MovesTo g u → IsOnWay f u (left_behind event act how others)
reached_way f g event act how others u run easy next = record {
  fleet = next.0;
  run = run_then run next.1;
  sound = next.2;
  ready = easy_all u next.0 (left_behind event act how others) (left_easy event act how others easy);
}

-- the machine of a scene with that of before, in no boot
abbrev before_scene : Machine → Scene → Scene
before_scene m t = record { position = record t.position { machine = m; event = Arm 0 0 }; replicas = t.replicas }

sound_before : (m : Machine) (t : Scene) (f : Fleet Record) → Sound m t.replicas f → IsSoundScene (before_scene m t) f
sound_before m t f s = record { sound = s; boots = λ boots. absurd (false≢true boots) }

-- a scene that isn't ahead any less behind lines
still_early : (event : Event) (m : Machine) (p : ℕ) (a : Appointment) (before now config : List ℕ) (t : Scene) (f g : Fleet Record) (x : List FleetReplica) (lines : List Observation) → IsDueTo event m p a before now → IsEarly event m p a before now config t f
    → MayEach (λ e. ⊥) ⊥ event t.position.machine lines → Sound m x g → IsEarly event m p a before now config (record { position = behind t.position lines; replicas = x }) g
still_early event m p a before now config t f g x lines due early may sound =
    let k = (behind t.position lines).machine in
    let follows : Follows event (λ e. ⊥) ⊥ t.position.machine k = lines_follow (λ e. ⊥) ⊥ t.position.machine event t.position lines early.event_is (itself event (λ e. ⊥) ⊥ t.position.machine) may in
    record {
      sound = sound;
      ahead = still_ahead event m t.position.machine k a.epoch p before now due.boots follows early.ahead;
      config_is = follows.config ∙ early.config_is;
      event_is = behind_event t.position lines ∙ early.event_is;
    }

any_of : (P : ℕ → Type 0) (p : ℕ) (xs : List ℕ) → All P xs → list_any (λ m. m == p) xs ≡ true → P p
any_of P p [] all h = absurd (false≢true h)
any_of P p (x ∷ xs) all h = elim (or_cases (x == p) (list_any (λ m. m == p) xs) h) [
  | inl is ↦ subst P (eqb-true x p is) (all_first P x xs all)
  | inr later ↦ any_of P p xs (all_rest P x xs all) later
]

-- ---- a boot

module _ (p : ℕ) (members : List ℕ) (m : Machine) (f0 : Fleet Record) (fine : BootIsFine m p members) (within : All (λ r. r < 9) members) where
  fits : Fits members p
  fits = members_fit members p fine.members_fit

  terms_none : terms_of m ≡ []
  terms_none = ap (λ (ones : List Appointed). map term_of ones) fine.unbooted

  due_boot : IsDueTo (Boot p members) m p (boot_appointment p members) members members
  due_boot = record {
    coded = omega arith;
    fresh = λ t there same. absurd (omega (arith, (subst (λ (ts : List Term). Contains ts t) terms_none there).1));
    some = fits.some;
    cc = ordered_members members fits.once within;
    pc = ordered_members members fits.once within;
    boots = λ is. (terms_none, refl);
  }

  abbrev IsEarlyBoot : Scene → Fleet Record → Type 0
  IsEarlyBoot t f = IsEarly (Boot p members) m p (boot_appointment p members) members members members t f

  module _ (t : Scene) (f : Fleet Record) (early : IsEarly (Boot p members) m p (boot_appointment p members) members members members t f) where
    given_now : Given f (booted_fleet f (code first_epoch) p members) (code first_epoch) p members members []
    given_now = given_boot f (code first_epoch) p members (may_boot m f p early.sound.reached early.sound.matches.rule fine.unbooted)

    config_now : (booted_fleet f (code first_epoch) p members).current (code first_epoch) ≡ members
    config_now = put_same (code first_epoch) members f.current (code first_epoch) refl

    empty_now : (o : OpenReplica) → replica_at t.replicas p ≡ Open o → [] ≡ map entry_of o.disk.log
    empty_now o up =
        let there = there_early m t.replicas f p o early.sound up in
        sym (empty_logs m f p early.sound.reached early.sound.matches.rule fine.unbooted (value_of o.stable o.disk) (value_there f p o there))

    boot_taken : (how : How) (lines : List Observation) (u : Scene) → Does t (Takes p (steps.Appoint (boot_appointment p members)) done) how lines u → MovesTo f u
    boot_taken how lines u (took r o step closing up may) =
        taken (Boot p members) m p (boot_appointment p members) members members members t f due_boot early [] (booted_fleet f (code first_epoch) p members) given_now config_now o up (empty_now o up) done done_aside
    boot_taken how lines u (failed r o step closing up may logs) =
        taken_cut (Boot p members) m p (boot_appointment p members) members members members t f due_boot early [] (booted_fleet f (code first_epoch) p members) given_now config_now o up (empty_now o up)

    boot_unmounted : (ws : List Whole) → replica_at t.replicas p ≡ Closed ws → MovesTo f (changed_at t p (Closed ws) (says.Fault p ∷ []))
    boot_unmounted ws down =
        unmounted (Boot p members) m p (boot_appointment p members) members members members t f due_boot early [] (booted_fleet f (code first_epoch) p members) given_now config_now ws down
        (omega (arith, early.sound.nine, any_of (λ r. r < 9) p members within fits.has))

  abbrev Stage : Scene → List Act → Type 0
  Stage t acts = IsStage f0 (Boot p members) true m p (boot_appointment p members) members members members t acts

  abbrev Waiting : Scene → List Act → Type 0
  Waiting t acts = IsWaiting f0 (Boot p members) true m p (boot_appointment p members) members members members t acts

  boot_mount : (t : Scene) (f : Fleet Record) (r : ℕ) (others : List Act) (how : How) (lines : List Observation) (u : Scene) → Run f0 f → IsEarlyBoot t f → IsDue true p (boot_appointment p members) others → Does t (Opens r) how lines u
      → Stage u (left_behind (Boot p members) (Opens r) how others)
  boot_mount t f r others how lines u run early due (did_open q ws w down there) =
      let next = mount (before_scene m t) f (sound_before m t f early.sound) r ws w [] tt down there in
      inl (record {
        fleet = next.0;
        run = run_then run next.1;
        early = still_early (Boot p members) m p (boot_appointment p members) members members members t f next.0 (set t.replicas r (Open (opened_over r w))) (opening_lines r (opened_over r w)) due_boot early (tt, (tt, tt)) next.2.sound;
        due = due;
      })
  boot_mount t f r others how lines u run early due (unopened q ws down) = elim (cases_eq r p) [
    | inl same ↦
        let here : replica_at t.replicas p ≡ Closed ws = subst (λ (k : ℕ). replica_at t.replicas k ≡ Closed ws) same down in
        let next : MovesTo f (changed_at t r (Closed ws) (says.Fault r ∷ [])) = subst (λ (k : ℕ). MovesTo f (changed_at t k (Closed ws) (says.Fault k ∷ []))) (sym same) (boot_unmounted t f early ws here) in
        subst (λ (acts : List Act). Stage (changed_at t r (Closed ws) (says.Fault r ∷ [])) acts) (sym (cond-true (r == p) (only_mounts others) others (eq-eqb r p same)))
        (inr (record { fleet = next.0; run = run_then run next.1; sound = next.2; ready = easy_all (changed_at t r (Closed ws) (says.Fault r ∷ [])) next.0 (only_mounts others) (mounts_easy others) }))
    | inr other ↦
        let next = unmount (before_scene m t) f (sound_before m t f early.sound) r ws [] tt down in
        subst (λ (acts : List Act). Stage (changed_at t r (Closed ws) (says.Fault r ∷ [])) acts) (sym (cond-false (r == p) (only_mounts others) others (ne_eqb r p other)))
        (inl (record {
          fleet = next.0;
          run = run_then run next.1;
          early = still_early (Boot p members) m p (boot_appointment p members) members members members t f next.0 (set t.replicas r (Closed ws)) (says.Fault r ∷ []) due_boot early (tt, tt) next.2.sound;
          due = due;
        }))
  ]

  boot_due : (t : Scene) (f : Fleet Record) (act : Act) (others : List Act) (how : How) (lines : List Observation) (u : Scene) → Run f0 f → IsEarlyBoot t f → IsDue true p (boot_appointment p members) (act ∷ others) → Does t act how lines u
      → Stage u (left_behind (Boot p members) act how others)
  boot_due t f act others how lines u run early last does = inr (reached_way f0 f (Boot p members) (Takes p (steps.Appoint (boot_appointment p members)) done) how [] u run tt (boot_taken t f early how lines u does))
  boot_due t f act others how lines u run early (more r acts is due) does = boot_mount t f r others how lines u run early due does

  boot_step : (t : Scene) (act : Act) (others : List Act) (how : How) (lines : List Observation) (u : Scene) → Stage t (act ∷ others) → Does t act how lines u → Stage u (left_behind (Boot p members) act how others)
  boot_step t act others how lines u (inl w) does = boot_due t w.fleet act others how lines u w.run w.early w.due does
  boot_step t act others how lines u (inr w) does = inr (way_step (Boot p members) f0 t act others how lines u w does)

-- ---- a later appointment

same_itself : (c : List ℕ) → SameMembers c c
same_itself c = record { sizes = refl; counts = λ p. refl }

module _ (e : Epoch) (p : ℕ) (members : List ℕ) (s0 : FleetState) (f0 : Fleet Record) (sound0 : Sound s0.machine s0.replicas f0) (fine : AppointIsFine s0.machine e p members) (coded : IsCoded e) (within : All (λ r. r < 9) members) where
  later_fits : Fits members p
  later_fits = members_fit members p fine.members_fit

  due_later : IsDueTo (Appoint e p members) s0.machine p (later_appointment s0.machine e p members) s0.machine.config members
  due_later = record {
    coded = coded;
    fresh = λ t there same. omega (arith, term_below s0.machine f0 e t sound0.matches.rule coded fine.above there, same);
    some = later_fits.some;
    cc = ordered_members members later_fits.once within;
    pc = same_itself s0.machine.config;
    boots = λ is. absurd (false≢true is);
  }

  module _ (t : Scene) (f : Fleet Record) (early : IsEarly (Appoint e p members) s0.machine p (later_appointment s0.machine e p members) s0.machine.config members s0.machine.config t f) where
    later_given : (o : OpenReplica) → replica_at t.replicas p ≡ Open o → (g : Fleet Record) × Given f g (code e) p s0.machine.config members (map entry_of o.disk.log) × (g.current g.active ≡ s0.machine.config)
    later_given o up =
        let there = there_early s0.machine t.replicas f p o early.sound up in
        let v = value_of o.stable o.disk in
        let may = may_appoint s0.machine f e p members v early.sound.reached early.sound.matches.rule fine coded there.values in
        let other = active_other s0.machine f e p members v early.sound.reached early.sound.matches.rule fine coded there.values in (
          appointed_fleet f (code e) p v members,
          subst (λ (c : List ℕ). Given f (appointed_fleet f (code e) p v members) (code e) p c members (map entry_of o.disk.log)) early.sound.matches.rule.active (given_appoint f (code e) p v members early.sound.reached may),
          put_other (code e) members f.current f.active other ∙ early.sound.matches.rule.active,
        )

    later_taken : (how : How) (lines : List Observation) (u : Scene) → Does t (Takes p (steps.Appoint (later_appointment s0.machine e p members)) done) how lines u → MovesTo f u
    later_taken how lines u (took r o step closing up may) =
        let g = later_given o up in
        taken (Appoint e p members) s0.machine p (later_appointment s0.machine e p members) s0.machine.config members s0.machine.config t f due_later early (map entry_of o.disk.log) g.0 g.1 g.2 o up refl done done_aside
    later_taken how lines u (failed r o step closing up may logs) =
        let g = later_given o up in
        taken_cut (Appoint e p members) s0.machine p (later_appointment s0.machine e p members) s0.machine.config members s0.machine.config t f due_later early (map entry_of o.disk.log) g.0 g.1 g.2 o up refl

  abbrev LaterStage : Scene → List Act → Type 0
  LaterStage t acts = IsStage f0 (Appoint e p members) false s0.machine p (later_appointment s0.machine e p members) s0.machine.config members s0.machine.config t acts

  later_due : (t : Scene) (f : Fleet Record) (act : Act) (others : List Act) (how : How) (lines : List Observation) (u : Scene) → Run f0 f
      → IsEarly (Appoint e p members) s0.machine p (later_appointment s0.machine e p members) s0.machine.config members s0.machine.config t f → IsDue false p (later_appointment s0.machine e p members) (act ∷ others) → Does t act how lines u
      → LaterStage u (left_behind (Appoint e p members) act how others)
  later_due t f act others how lines u run early last does = inr (reached_way f0 f (Appoint e p members) (Takes p (steps.Appoint (later_appointment s0.machine e p members)) done) how [] u run tt (later_taken t f early how lines u does))
  later_due t f act others how lines u run early (more r acts is due) does = absurd (false≢true is)

  later_step : (t : Scene) (act : Act) (others : List Act) (how : How) (lines : List Observation) (u : Scene) → LaterStage t (act ∷ others) → Does t act how lines u → LaterStage u (left_behind (Appoint e p members) act how others)
  later_step t act others how lines u (inl w) does = later_due t w.fleet act others how lines u w.run w.early w.due does
  later_step t act others how lines u (inr w) does = inr (way_step (Appoint e p members) f0 t act others how lines u w does)

-- ---- all events

-- Where an event is left: the replicas stand for a fleet that moves lead to, by the machine of the scene, or, before an appointment, that of before.
record Lands (f : Fleet Record) (t : Scene) (acts : List Act) : Type 0 where
  machine : Machine
  fleet : Fleet Record
  run : Run f fleet
  sound : Sound machine t.replicas fleet
  at_end : acts ≡ [] → machine ≡ t.position.machine

way_lands : (f : Fleet Record) (t : Scene) (acts : List Act) → IsOnWay f t acts → Lands f t acts
way_lands f t acts w = record { machine = t.position.machine; fleet = w.fleet; run = w.run; sound = w.sound.sound; at_end = λ none. refl }

due_some : (mounts : Bool) (p : ℕ) (a : Appointment) (acts : List Act) → IsDue mounts p a acts → acts ≡ [] → ⊥
due_some mounts p a acts last none = absurd (omega (arith, ap length none))
due_some mounts p a acts (more r others is due) none = absurd (omega (arith, ap length none))

stage_lands : (f : Fleet Record) (event : Event) (mounts : Bool) (m : Machine) (p : ℕ) (a : Appointment) (before now config : List ℕ) (t : Scene) (acts : List Act) → IsStage f event mounts m p a before now config t acts → Lands f t acts
stage_lands f event mounts m p a before now config t acts (inl w) = record { machine = m; fleet = w.fleet; run = w.run; sound = w.early.sound; at_end = λ none. absurd (due_some mounts p a acts w.due none) }
stage_lands f event mounts m p a before now config t acts (inr w) = way_lands f t acts w

module _ (s : FleetState) (f : Fleet Record) (sound : Sound s.machine s.replicas f) where
  starts_way : (event : Event) (acts : List Act) → IsSoundScene (entered s event) f → AreReady (entered s event) f acts → IsOnWay f (entered s event) acts
  starts_way event acts at ready = record { fleet = f; run = rests; sound = at; ready = ready }

  plain_lands : (event : Event) (acts : List Act) → IsSoundScene (entered s event) f → AreReady (entered s event) f acts → (lines : List Observation) (t : Scene) (rest : List Act) → Goes (entered s event) acts lines t rest → Lands f t rest
  plain_lands event acts at ready lines t rest goes = way_lands f t rest (on_way (entered s event) f acts (starts_way event acts at ready) lines t rest goes)

  down_aside : (r : ℕ) → All IsAside (says.Down r ∷ [])
  down_aside r = all_more IsAside (says.Down r) [] tt no_lines

  call_ready : (r : ℕ) (call : Call) (b : Bool) → AreReady (entered s (Client r call)) f (cond b (Takes r (steps.Client call) [] ∷ []) (Says (says.Down r ∷ []) ∷ []))
  call_ready r call true = ((refl, no_lines), tt)
  call_ready r call false = (down_aside r, tt)

  call_lands : (r : ℕ) (call : Call) (lines : List Observation) (t : Scene) (rest : List Act) → Goes (entered s (Client r call)) (plan s (Client r call)) lines t rest → Lands f t rest
  unfolding plan
  call_lands r call lines t rest goes =
      plain_lands (Client r call) (plan s (Client r call)) (begins (Client r call) s f refl refl (asking_follows (Client r call) s.machine r call) sound) (call_ready r call (is_open (replica_at s.replicas r))) lines t rest goes

  arm_lands : (r k : ℕ) (lines : List Observation) (t : Scene) (rest : List Act) → Goes (entered s (Arm r k)) (plan s (Arm r k)) lines t rest → Lands f t rest
  unfolding plan
  arm_lands r k lines t rest goes = plain_lands (Arm r k) (plan s (Arm r k)) (begins (Arm r k) s f refl refl (itself (Arm r k) (λ e. ⊥) ⊥ s.machine) sound) (done_aside, tt) lines t rest goes

  crash_lands : (r k : ℕ) (lines : List Observation) (t : Scene) (rest : List Act) → Goes (entered s (Crash r k)) (plan s (Crash r k)) lines t rest → Lands f t rest
  unfolding plan
  crash_lands r k lines t rest goes =
      plain_lands (Crash r k) (plan s (Crash r k)) (begins (Crash r k) s f refl refl (closed_same (λ e. ⊥) ⊥ s.machine (Crash r k) r (closed s.machine r) (refl, refl, refl, refl)) sound) (tt, (done_aside, tt)) lines t rest goes

  reboot_lands : (r : ℕ) (lines : List Observation) (t : Scene) (rest : List Act) → Goes (entered s (Reboot r)) (plan s (Reboot r)) lines t rest → Lands f t rest
  unfolding plan
  reboot_lands r lines t rest goes = plain_lands (Reboot r) (plan s (Reboot r)) (begins (Reboot r) s f refl refl (itself (Reboot r) (λ e. ⊥) ⊥ s.machine) sound) (tt, tt) lines t rest goes

  inspect_lands : (r : ℕ) (lines : List Observation) (t : Scene) (rest : List Act) → Goes (entered s (Inspect r)) (plan s (Inspect r)) lines t rest → Lands f t rest
  unfolding plan
  inspect_lands r lines t rest goes = plain_lands (Inspect r) (plan s (Inspect r)) (begins (Inspect r) s f refl refl (itself (Inspect r) (λ e. ⊥) ⊥ s.machine) sound) ((tt, no_lines), tt) lines t rest goes

  survey_lands : (r : ℕ) (e : Epoch) → IsCoded e → refusal s.machine (Survey r e) ≡ None → (lines : List Observation) (t : Scene) (rest : List Act) → Goes (entered s (Survey r e)) (plan s (Survey r e)) lines t rest → Lands f t rest
  unfolding plan
  survey_lands r e coded none lines t rest goes =
      let since = booted_since s.machine (cond (is_above_all s.machine e) (down_of s.machine r) (Some (answers.Refused 1))) none in
      let above : is_above_all s.machine e ≡ true = elim (passes_else (is_above_all s.machine e) (down_of s.machine r) (Some (answers.Refused 1)) since.1) [
        | inl is ↦ is.0
        | inr low ↦ some_refused (answers.Refused 1) low.1
      ] in
      plain_lands (Survey r e) (plan s (Survey r e)) (begins (Survey r e) s f refl refl (itself (Survey r e) (λ x. ⊥) ⊥ s.machine) sound) (((refl, coded, above, has_terms s.machine since.0), no_lines), tt) lines t rest goes

  activate_ready : (e : Epoch) (g : Fleet Record) (b : Bool) → g.activated (code e) ≡ true → AreReady (entered s (Activate e)) g (cond b (Takes (latest_primary s.machine) (steps.Activate e) done ∷ []) (Says done ∷ []))
  activate_ready e g true on = ((on, done_aside), tt)
  activate_ready e g false on = (done_aside, tt)

  activate_lands : (e : Epoch) → refusal s.machine (Activate e) ≡ None → (lines : List Observation) (t : Scene) (rest : List Act) → Goes (entered s (Activate e)) (plan s (Activate e)) lines t rest → Lands f t rest
  unfolding plan
  activate_lands e none lines t rest goes =
      let act = activation s.machine s.replicas f e sound (activate_is_fine s.machine e none) in
      let at : IsSoundScene (entered s (Activate e)) act.fleet = record { sound = act.sound; boots = λ boots. absurd (false≢true boots) } in
      way_lands f t rest (on_way (entered s (Activate e)) f (plan s (Activate e)) (record { fleet = act.fleet; run = act.run; sound = at; ready = activate_ready e act.fleet (leads s.machine) act.on }) lines t rest goes)

  boot_lands : (p : ℕ) (members : List ℕ) → All (λ r. r < 9) members → refusal s.machine (Boot p members) ≡ None → (lines : List Observation) (t : Scene) (rest : List Act) → Goes (entered s (Boot p members)) (plan s (Boot p members)) lines t rest → Lands f t rest
  unfolding plan
  boot_lands p members within none lines t rest goes =
      let fine = boot_is_fine s.machine p members none in
      let start : IsStage f (Boot p members) true s.machine p (boot_appointment p members) members members members (entered s (Boot p members)) (plan s (Boot p members)) = inl (record {
        fleet = f;
        run = rests;
        early = record { sound = sound; ahead = booting_ahead s.machine p members fine.unbooted sound.roles.given; config_is = refl; event_is = refl };
        due = due_mounts p (boot_appointment p members) (in_order members);
      }) in
      stage_lands f (Boot p members) true s.machine p (boot_appointment p members) members members members t rest
      (walk (entered s (Boot p members)) (plan s (Boot p members)) (IsStage f (Boot p members) true s.machine p (boot_appointment p members) members members members) (boot_step p members s.machine f fine within) start lines t rest goes)

  later_lands : (e : Epoch) (p : ℕ) (members : List ℕ) → IsCoded e → All (λ r. r < 9) members → refusal s.machine (Appoint e p members) ≡ None → (lines : List Observation) (t : Scene) (rest : List Act) → Goes (entered s (Appoint e p members)) (plan s (Appoint e p members)) lines t rest → Lands f t rest
  unfolding plan
  later_lands e p members coded within none lines t rest goes =
      let fine = appoint_is_fine s.machine e p members none in
      let start : IsStage f (Appoint e p members) false s.machine p (later_appointment s.machine e p members) s.machine.config members s.machine.config (entered s (Appoint e p members)) (plan s (Appoint e p members)) = inl (record {
        fleet = f;
        run = rests;
        early = record { sound = sound; ahead = appointing_ahead s.machine e p members; config_is = refl; event_is = refl };
        due = last;
      }) in
      stage_lands f (Appoint e p members) false s.machine p (later_appointment s.machine e p members) s.machine.config members s.machine.config t rest
      (walk (entered s (Appoint e p members)) (plan s (Appoint e p members)) (IsStage f (Appoint e p members) false s.machine p (later_appointment s.machine e p members) s.machine.config members s.machine.config) (later_step e p members s f sound fine coded within) start lines t rest goes)

  lands : (event : Event) → IsSpelled event → refusal s.machine event ≡ None → (lines : List Observation) (t : Scene) (rest : List Act) → Goes (entered s event) (plan s event) lines t rest → Lands f t rest
  lands (Boot p members) spelled none lines t rest goes = boot_lands p members spelled none lines t rest goes
  lands (Client r call) spelled none lines t rest goes = call_lands r call lines t rest goes
  lands (Arm r k) spelled none lines t rest goes = arm_lands r k lines t rest goes
  lands (Crash r k) spelled none lines t rest goes = crash_lands r k lines t rest goes
  lands (Reboot r) spelled none lines t rest goes = reboot_lands r lines t rest goes
  lands (Inspect r) spelled none lines t rest goes = inspect_lands r lines t rest goes
  lands (Survey r e) spelled none lines t rest goes = survey_lands r e spelled none lines t rest goes
  lands (Appoint e p members) spelled none lines t rest goes = later_lands e p members spelled.0 spelled.1 none lines t rest goes
  lands (Activate e) spelled none lines t rest goes = activate_lands e none lines t rest goes

  event_case : (event : Event) (lines : List Observation) (t : FleetState) (x : Option Answer) → refusal s.machine event ≡ x → IsSpelled event
      → MatchOption x ((scene : Scene) × Goes (entered s event) (plan s event) lines scene [] × (t ≡ left scene)) (λ refused. (lines ≡ line_of_answer refused ∷ []) × (t ≡ s)) → (g : Fleet Record) × Run f g × Sound t.machine t.replicas g
  event_case event lines t None none spelled (scene, goes, is) =
      let l = lands event spelled none lines scene [] goes in
      (l.fleet, l.run, subst (λ (u : FleetState). Sound u.machine u.replicas l.fleet) (sym is) (subst (λ (m : Machine). Sound m scene.replicas l.fleet) (l.at_end refl) l.sound))
  event_case event lines t (Some refused) is spelled (one, same) = (f, rests, subst (λ (u : FleetState). Sound u.machine u.replicas f) (sym same) sound)

-- The law of events.
pub events_keep_sound : EventsKeepSound
events_keep_sound s t f event lines sound spelled goes = event_case s f sound event lines t (refusal s.machine event) refl spelled goes

-- And of their beginnings.
pub beginnings_keep_sound : BeginningsKeepSound
beginnings_keep_sound s t f event lines acts sound spelled none goes = let l = lands s f sound event spelled none lines t acts goes in (l.machine, l.fleet, l.run, l.sound)

-- ---- runs

all_left : {A : Type 0} (P : A → Type 0) (xs ys : List A) → All P (xs ++ ys) → All P xs
all_left P [] ys all = all_none P
all_left P (x ∷ xs) ys all = all_more P x xs (all_first P x (xs ++ ys) all) (all_left P xs ys (all_rest P x (xs ++ ys) all))

all_last : {A : Type 0} (P : A → Type 0) (xs : List A) (y : A) → All P (xs ++ y ∷ []) → P y
all_last P [] y all = all_first P y [] all
all_last P (x ∷ xs) y all = all_last P xs y (all_rest P x (xs ++ y ∷ []) all)

pub run_sound : (s : FleetState) (f : Fleet Record) → Sound s.machine s.replicas f → (steps : List Step) (t : FleetState) → FleetRun s steps t → All (λ (step : Step). IsSpelled step.event) steps → (g : Fleet Record) × Run f g × Sound t.machine t.replicas g
run_sound s f sound steps t fleet_rests spelled = (f, rests, sound)
run_sound s f sound steps t (fleet_goes before u step v run by) spelled =
    let old = run_sound s f sound before u run (all_left (λ (step : Step). IsSpelled step.event) before (step ∷ []) spelled) in
    let new = events_keep_sound u t old.0 step.event step.lines old.2 (all_last (λ (step : Step). IsSpelled step.event) before step spelled) by in
    (new.0, run_then old.1 new.1, new.2)

-- The law of runs.
pub runs_are_sound : RunsAreSound
runs_are_sound steps t run spelled = let x = run_sound first_state _ first_is_sound steps t run spelled in (x.0, x.2)
