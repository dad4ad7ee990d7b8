-- Refused calls have whole lines, and so has each event that commits nothing and appoints nobody.
use Rattle.std.proofs.Common.{◌≡◌, ◌∙◌, ℕ, false, Bool, cond, not, List, [], ◌∷◌, ◌++◌, length, set, refl, sym, ap, ap₂, subst, inr, arith, Option, Some, None}
use Rattle.std.specs.Prelude.{MatchOption, option_map}
use Rattle.std.specs.Option.{option_map_or}
use Rattle.std.proofs.lemmas.List.{set-get_or}
use Rattle.rc_base.specs.declared.ids.Epoch.{Epoch}
use Rattle.rc_base.specs.declared.ids.TxnId.{TxnId}
use Rattle.log_records.specs.declared.record.Record.{Record}
use Rattle.txn_table.specs.Whole.{Whole, epoch_of}
use Rattle.txn_front.specs.Front.{nothing}
use Rattle.events.specs.declared.answer.Answer.{Answer}
use Rattle.events.specs.declared.answer.Answer.TheVariants as answers
use Rattle.events.specs.declared.answer.Reply.{Reply}
use Rattle.events.specs.Answers.{plain}
use Rattle.events.specs.Calls.{CallRecord, txn_named}
use Rattle.events.specs.declared.call.Call.{Call}
use Rattle.events.specs.declared.call.Call.TheVariants as calls
use Rattle.events.specs.declared.event.Event.{Event}
use Rattle.events.specs.declared.event.Event.TheVariants.{Boot, Client, Arm, Crash, Reboot, Inspect, Survey, Appoint, Activate}
use Rattle.order_machine.specs.declared.observation.Observation.{Observation}
use Rattle.order_machine.specs.declared.observation.Observation.TheVariants as says
use Rattle.order_machine.specs.AnswerLines.{line_of_answer}
use Rattle.order_machine.specs.Clients.{served, answer, noted}
use Rattle.order_machine.specs.Machine.{Machine, Role, Txn, put_txn, role_of, txn_of, closed, is_active}
use Rattle.order_machine.specs.Transitions.{Position, refusal, opened, at_start, asking, asking_locks}
use Rattle.order_machine.specs.Legal.{IsServed, behind}
use Rattle.replica_model.specs.declared.step.StepEvent.TheVariants as steps
use Rattle.replica_model.specs.OpenReplica.{OpenReplica, Leading, view_of, contents_of, last_lsn, is_active as is_serving}
use Rattle.replica_model.specs.Quorums.{looked}
use Rattle.replica_model.specs.Records.{placed}
use Rattle.txn_front.specs.Front as front
use Rattle.replica_model.specs.Steps.{front_behind, with_block, written, step_result, step_outcome, step_answer}
use Rattle.fleet_laws.specs.Fleets.{Fleet}
use Rattle.fleet_run.specs.Scenes.{FleetReplica, FleetState, Scene, replica_at, held_by, empty_whole, entered, left}
use Rattle.fleet_run.specs.Scenes.FleetReplica.{Open, Closed}
use Rattle.fleet_run.specs.Acts.{Act, How, Does, Goes, changed_at, answer_lines, lines_of_step, left_behind}
use Rattle.fleet_run.specs.Acts.Act.{Opens, Takes, Closes, Says}
use Rattle.fleet_run.specs.Acts.How.{Fine}
use Rattle.fleet_run.specs.Acts.Does.{opened as did_open, unopened, took, failed as did_fail, closed as did_close, said}
use Rattle.fleet_run.specs.Plans.{plan, done, is_open}
use Rattle.fleet_run.specs.Kernel.{IsCoded}
use Rattle.fleet_run.specs.Sound.{Sound}
use Rattle.fleet_run.specs.Rows.{Agrees, serves, IsAsideOf, AsideEventsAreWhole}
use Rattle.fleet_run.specs.Laws.{IsSpelled}
use Rattle.fleet_run.proofs.Acting.{result_is}
use Rattle.fleet_run.proofs.Taking.{there_early}
use Rattle.fleet_run.proofs.Pending.{FewerRoles, fewer_holds, put_asked}
use Rattle.fleet_run.proofs.Agreeing.{agrees_open, agrees_closed, agrees_same}
use Rattle.fleet_run.proofs.AsideEvents.{crash_agrees, arm_served, crash_served, reboot_served, reboot_agrees, unmount_served, unmount_agrees}
use Rattle.fleet_run.proofs.AsideSteps.{survey_whole, survey_fault, inspect_whole}
use Rattle.fleet_run.proofs.Writing.{idle_logs}
use Rattle.fleet_run.proofs.AsideLines.{goes_behind, walk_lines, one_act, idle_lines, not_due}

-- ---- calls that are refused

module _ (m : Machine) (replicas : List FleetReplica) (is : Agrees m replicas) where
  noted_one : (t : TxnId) (call : CallRecord) (x : Option Txn) → txn_of m t ≡ x → Agrees (option_map_or (λ (y : Txn). put_txn m t (record y { calls = y.calls ++ call ∷ [] })) x m) replicas
  noted_one t call None known = is
  noted_one t call (Some y) known =
      let new : Txn = record y { calls = y.calls ++ call ∷ [] } in
      let fewer : FewerRoles m (put_txn m t new) = record { asked = λ q u. put_asked u t y new m.txns q known refl refl; acknowledged = refl; appointments = refl; roles = λ q. inr (refl, λ u. refl) } in
      agrees_same m (put_txn m t new) replicas is refl refl refl (fewer_holds m (put_txn m t new) fewer is.behind)

  noted_agrees : (call : CallRecord) (x : Option TxnId) → Agrees (option_map_or (λ (t : TxnId). noted m t call) x m) replicas
  noted_agrees call None = is
  noted_agrees call (Some t) = noted_one t call (txn_of m t) refl

  asking_named : (r : ℕ) (call : Call) (x : Option TxnId) → is_active m r ≡ false → option_map_or (λ t. asking_locks m r t call) x m ≡ m
  asking_named r call None idle = refl
  asking_named r call (Some t) idle = rw (idle) refl

  -- at a replica that is no active primary a call asks for nothing
  asking_idle : (r : ℕ) (call : Call) → is_active m r ≡ false → asking m r call ≡ m
  asking_idle r calls.Begin idle = refl
  asking_idle r (calls.Make t name kind) idle = asking_named r (calls.Make t name kind) (Some t) idle
  asking_idle r (calls.OnKey t name key call) idle = asking_named r (calls.OnKey t name key call) (Some t) idle
  asking_idle r (calls.Commit t) idle = rw (idle) refl
  asking_idle r (calls.Abort t) idle = rw (idle) refl

  abbrev called : ℕ → Call → Answer → Position
  called r call a = at_start m (Client r call) r (Some (plain a)) []

  called_is : (r : ℕ) (call : Call) (a : Answer) → is_active m r ≡ false → answer m r call ≡ Some (plain a) → opened m (Client r call) ≡ at_start m (Client r call) r (Some (plain a)) []
  called_is r call a idle told = ap₂ (λ (k : Machine) (x : Option Reply). at_start k (Client r call) r x []) (asking_idle r call idle) told

  abbrev IsFine : Position → List Observation → Type 0
  IsFine p lines = IsServed p lines × Agrees (behind p lines).machine replicas

  down_called : (r : ℕ) (call : Call) → IsFine (at_start m (Client r call) r (Some (plain (answers.Down r))) []) (says.Down r ∷ [])
  down_called r call =
      let after_it = noted_agrees (record { call = call; answer = answers.Down r; op = None }) (txn_named call) in (
        record {
          may = (record { named = refl; in_rank = refl; next = refl; goes_on = refl; row = (refl, refl) }, tt);
          complete = record { opened = refl; grown = refl; mounted = refl; told = refl; answered = refl };
          holds = after_it.behind;
        },
        after_it,
      )

  idle_called : (r : ℕ) (call : Call) → IsFine (at_start m (Client r call) r (Some (plain (answers.NotActive r))) []) (says.NotActive r ∷ [])
  idle_called r call =
      let after_it = noted_agrees (record { call = call; answer = answers.NotActive r; op = None }) (txn_named call) in (
        record {
          may = (record { named = refl; in_rank = refl; next = refl; goes_on = refl; row = (refl, refl) }, tt);
          complete = record { opened = refl; grown = refl; mounted = refl; told = refl; answered = refl };
          holds = after_it.behind;
        },
        after_it,
      )

  -- a closed replica refuses
  pub down_fine : (r : ℕ) (call : Call) (ws : List Whole) → replica_at replicas r ≡ Closed ws → IsServed (opened m (Client r call)) (says.Down r ∷ []) × Agrees (behind (opened m (Client r call)) (says.Down r ∷ [])).machine replicas
  down_fine r call ws down =
      let at = agrees_closed m m replicas is r ws down in
      let idle : is_active m r ≡ false = ap (λ (x : Option Role). option_map_or (λ role. role.active) x false) at.role in
      let told : answer m r call ≡ Some (plain (answers.Down r)) = ap (λ (b : Bool). cond (not b) (Some (plain (answers.Down r))) (cond (not (is_active m r)) (Some (plain (answers.NotActive r))) (served m r call))) at.down in
      subst (λ (p : Position). IsFine p (says.Down r ∷ [])) (sym (called_is r call (answers.Down r) idle told)) (down_called r call)

  role_idle : (r : ℕ) (x : Option Leading) → MatchOption x (role_of m r ≡ None) (λ l. (role : Role) × (role_of m r ≡ Some role) × (role.epoch ≡ l.epoch) × (role.active ≡ l.active)) → option_map_or (λ (l : Leading). l.active) x false ≡ false → is_active m r ≡ false
  role_idle r None at idle = ap (λ (x : Option Role). option_map_or (λ role. role.active) x false) at
  role_idle r (Some l) at idle = ap (λ (x : Option Role). option_map_or (λ role. role.active) x false) at.1 ∙ at.3 ∙ idle

  -- so does one that is no active primary
  pub idle_fine : (r : ℕ) (call : Call) (o : OpenReplica) → replica_at replicas r ≡ Open o → is_serving o ≡ false → IsServed (opened m (Client r call)) (says.NotActive r ∷ []) × Agrees (behind (opened m (Client r call)) (says.NotActive r ∷ [])).machine replicas
  idle_fine r call o up waits =
      let at = agrees_open m m replicas is r o up in
      let idle : is_active m r ≡ false = role_idle r o.leading at.role waits in
      let told : answer m r call ≡ Some (plain (answers.NotActive r)) =
      ap (λ (b : Bool). cond (not b) (Some (plain (answers.Down r))) (cond (not (is_active m r)) (Some (plain (answers.NotActive r))) (served m r call))) at.up
      ∙ ap (λ (b : Bool). cond (not b) (Some (plain (answers.NotActive r))) (served m r call)) idle in
      subst (λ (p : Position). IsFine p (says.NotActive r ∷ [])) (sym (called_is r call (answers.NotActive r) idle told)) (idle_called r call)

-- ---- events

module _ (s : FleetState) (f : Fleet Record) (sound : Sound s.machine s.replicas f) (is : Agrees s.machine s.replicas) where
  abbrev m : Machine
  m = s.machine

  -- the lines are those of the event's rows, and the machine behind them agrees with the replicas
  abbrev EndsWell : Event → List Observation → Scene → Type 0
  EndsWell event lines t = IsServed (opened s.machine event) lines × Agrees (behind (opened s.machine event) lines).machine t.replicas

  arm_ends : (r k : ℕ) (lines : List Observation) (t : Scene) → Goes (entered s (Arm r k)) (plan s (Arm r k)) lines t [] → EndsWell (Arm r k) lines t
  unfolding plan
  arm_ends r k lines t goes = one_act (entered s (Arm r k)) (Says done) (EndsWell (Arm r k)) arm_act lines t goes where
    arm_act : (how : How) (more : List Observation) (u : Scene) → Does (entered s (Arm r k)) (Says done) how more u → EndsWell (Arm r k) more u × (left_behind (Arm r k) (Says done) how [] ≡ [])
    arm_act how more u (said ls) = ((arm_served s.machine s.replicas f sound is r k, is), refl)

  reboot_ends : (r : ℕ) (lines : List Observation) (t : Scene) → Goes (entered s (Reboot r)) (plan s (Reboot r)) lines t [] → EndsWell (Reboot r) lines t
  unfolding plan
  reboot_ends r lines t goes = one_act (entered s (Reboot r)) (Opens r) (EndsWell (Reboot r)) reboot_act lines t goes where
    reboot_act : (how : How) (more : List Observation) (u : Scene) → Does (entered s (Reboot r)) (Opens r) how more u → EndsWell (Reboot r) more u × (left_behind (Reboot r) (Opens r) how [] ≡ [])
    reboot_act how more u (did_open q ws w down held) = ((reboot_served s.machine s.replicas f sound is r ws down w held, reboot_agrees s.machine s.replicas f sound is r ws down w held), refl)
    reboot_act how more u (unopened q ws down) = ((unmount_served s.machine s.replicas f sound is r ws down, unmount_agrees s.machine s.replicas f sound is r ws down), refl)

  inspect_ends : (r : ℕ) (lines : List Observation) (t : Scene) → Goes (entered s (Inspect r)) (plan s (Inspect r)) lines t [] → EndsWell (Inspect r) lines t
  unfolding plan
  inspect_ends r lines t goes = one_act (entered s (Inspect r)) (Takes r steps.Inspect []) (EndsWell (Inspect r)) inspect_act lines t goes where
    inspect_act : (how : How) (more : List Observation) (u : Scene) → Does (entered s (Inspect r)) (Takes r steps.Inspect []) how more u → EndsWell (Inspect r) more u × (left_behind (Inspect r) (Takes r steps.Inspect []) how [] ≡ [])
    inspect_act how more u (took q o step closing up may) = let w = inspect_whole s.machine s.replicas f sound is r o up in ((w.0, w.1), ap (λ (b : Bool). left_behind (Inspect r) (Takes r steps.Inspect []) (Fine b) []) w.2)
    inspect_act how more u (did_fail q o step closing up may logs) = absurd (logs refl)

  survey_ends : (r : ℕ) (e : Epoch) → IsCoded e → refusal s.machine (Survey r e) ≡ None → (lines : List Observation) (t : Scene) → Goes (entered s (Survey r e)) (plan s (Survey r e)) lines t [] → EndsWell (Survey r e) lines t
  unfolding plan
  survey_ends r e coded none lines t goes = one_act (entered s (Survey r e)) (Takes r (steps.Survey e) []) (EndsWell (Survey r e)) survey_act lines t goes where
    survey_act : (how : How) (more : List Observation) (u : Scene) → Does (entered s (Survey r e)) (Takes r (steps.Survey e) []) how more u → EndsWell (Survey r e) more u × (left_behind (Survey r e) (Takes r (steps.Survey e) []) how [] ≡ [])
    survey_act how more u (took q o step closing up may) = let w = survey_whole s.machine s.replicas f sound is r o up e coded none in ((w.0, w.1), ap (λ (b : Bool). left_behind (Survey r e) (Takes r (steps.Survey e) []) (Fine b) []) w.2)
    survey_act how more u (did_fail q o step closing up may logs) = (survey_fault s.machine s.replicas f sound is r o up e coded none, refl)

  call_down : (r : ℕ) (call : Call) (ws : List Whole) → replica_at s.replicas r ≡ Closed ws → (lines : List Observation) (t : Scene) → Goes (entered s (Client r call)) (Says (says.Down r ∷ []) ∷ []) lines t [] → EndsWell (Client r call) lines t
  call_down r call ws down lines t goes = one_act (entered s (Client r call)) (Says (says.Down r ∷ [])) (EndsWell (Client r call)) down_act lines t goes where
    down_act : (how : How) (more : List Observation) (u : Scene) → Does (entered s (Client r call)) (Says (says.Down r ∷ [])) how more u → EndsWell (Client r call) more u × (left_behind (Client r call) (Says (says.Down r ∷ [])) how [] ≡ [])
    down_act how more u (said ls) = (down_fine s.machine s.replicas is r call ws down, refl)

  -- a call at a replica that serves no clients changes nothing there
  idle_took : (r : ℕ) (call : Call) (o : OpenReplica) → replica_at s.replicas r ≡ Open o → is_serving o ≡ false
      → EndsWell (Client r call) (lines_of_step (opened s.machine (Client r call)).machine o (steps.Client call) []) (changed_at (entered s (Client r call)) r (Open (step_result o (steps.Client call))) (lines_of_step (opened s.machine (Client r call)).machine o (steps.Client call) []))
      × ((step_outcome o (steps.Client call)).barrier_due ≡ false)
  idle_took r call o up waits =
      let t = there_early s.machine s.replicas f r o sound up in
      let n = (opened s.machine (Client r call)).machine in
      let same : written o (steps.Client call) ≡ o = ap (λ (b : Bool). cond b (record (with_block o (steps.Client call)) { front = front_behind o call }) o) waits in
      let rests : looked (written o (steps.Client call)) ≡ written o (steps.Client call) = ap looked same ∙ t.standing.settled ∙ sym same in
      let result : step_result o (steps.Client call) ≡ o = sym (result_is o (steps.Client call)) ∙ ap looked same ∙ t.standing.settled in
      let answered : step_answer o (steps.Client call) ≡ Some (answers.NotActive r) =
      ap (λ (b : Bool). option_map (λ (told : Reply). told.answer) (cond b (front.told o.front (contents_of o) call) (Some (plain (answers.NotActive o.id))))) waits ∙ ap (λ (k : ℕ). Some (answers.NotActive k)) t.standing.number in
      let lines : lines_of_step n o (steps.Client call) [] ≡ says.NotActive r ∷ [] = idle_lines n o (steps.Client call) rests (ap view_of same) [] ∙ ap (λ (x : Option Answer). answer_lines x ++ [] ++ []) answered in
      let fine = idle_fine s.machine s.replicas is r call o up waits in
      let kept : set s.replicas r (Open (step_result o (steps.Client call))) ≡ s.replicas = ap (λ (x : OpenReplica). set s.replicas r (Open x)) result ∙ ap (set s.replicas r) (sym up) ∙ set-get_or s.replicas r (Closed (empty_whole ∷ [])) in (
        (
          subst (λ (ls : List Observation). IsServed (opened s.machine (Client r call)) ls) (sym lines) fine.0,
          subst (λ (ls : List Observation). Agrees (behind (opened s.machine (Client r call)) ls).machine (set s.replicas r (Open (step_result o (steps.Client call))))) (sym lines)
              (subst (λ (rs : List FleetReplica). Agrees (behind (opened s.machine (Client r call)) (says.NotActive r ∷ [])).machine rs) (sym kept) fine.1),
        ),
        not_due n o (steps.Client call) rests (ap view_of same),
      )

  idle_act : (r : ℕ) (call : Call) → serves (replica_at s.replicas r) ≡ false → (how : How) (more : List Observation) (u : Scene) → Does (entered s (Client r call)) (Takes r (steps.Client call) []) how more u
      → EndsWell (Client r call) more u × (left_behind (Client r call) (Takes r (steps.Client call) []) how [] ≡ [])
  idle_act r call idle how more u (took q o step closing up may) =
      let w = idle_took r call o up (sym (ap serves up) ∙ idle) in
      (w.0, ap (λ (b : Bool). left_behind (Client r call) (Takes r (steps.Client call) []) (Fine b) []) w.1)
  idle_act r call idle how more u (did_fail q o step closing up may logs) =
      absurd (logs (ap (λ (bodies : List Record). placed (last_lsn o).0 (epoch_of o.disk) bodies) (idle_logs o call (sym (ap serves up) ∙ idle))))

  call_case : (r : ℕ) (call : Call) (x : FleetReplica) → replica_at s.replicas r ≡ x → serves (replica_at s.replicas r) ≡ false → (lines : List Observation) (t : Scene)
      → Goes (entered s (Client r call)) (cond (is_open x) (Takes r (steps.Client call) [] ∷ []) (Says (says.Down r ∷ []) ∷ [])) lines t [] → EndsWell (Client r call) lines t
  call_case r call (Open o) up idle lines t goes = one_act (entered s (Client r call)) (Takes r (steps.Client call) []) (EndsWell (Client r call)) (idle_act r call idle) lines t goes
  call_case r call (Closed ws) down idle lines t goes = call_down r call ws down lines t goes

  call_ends : (r : ℕ) (call : Call) → serves (replica_at s.replicas r) ≡ false → (lines : List Observation) (t : Scene) → Goes (entered s (Client r call)) (plan s (Client r call)) lines t [] → EndsWell (Client r call) lines t
  unfolding plan
  call_ends r call idle lines t goes = call_case r call (replica_at s.replicas r) refl idle lines t goes

  -- a crash: the closing, and then its line
  data IsCrashing (r k : ℕ) : List Observation → Scene → List Act → Type 0 where
    at_first : IsCrashing r k [] (entered s (Crash r k)) (Closes r ∷ Says done ∷ [])
    is_closed : (t : Scene) → t.replicas ≡ set s.replicas r (Closed (held_by (replica_at s.replicas r))) → IsCrashing r k [] t (Says done ∷ [])
    at_last : (lines : List Observation) (t : Scene) → lines ≡ done → t.replicas ≡ set s.replicas r (Closed (held_by (replica_at s.replicas r))) → IsCrashing r k lines t []

  crash_close : (r k : ℕ) (how : How) (more : List Observation) (u : Scene) → Does (entered s (Crash r k)) (Closes r) how more u → IsCrashing r k more u (left_behind (Crash r k) (Closes r) how (Says done ∷ []))
  crash_close r k how more u (did_close q) = is_closed u refl

  crash_say : (r k : ℕ) (t : Scene) → t.replicas ≡ set s.replicas r (Closed (held_by (replica_at s.replicas r))) → (how : How) (more : List Observation) (u : Scene) → Does t (Says done) how more u → IsCrashing r k more u (left_behind (Crash r k) (Says done) how [])
  crash_say r k t same how more u (said ls) = at_last done u refl same

  crash_step : (r k : ℕ) (lines : List Observation) (t : Scene) (act : Act) (others : List Act) (how : How) (more : List Observation) (u : Scene) → IsCrashing r k lines t (act ∷ others) → Does t act how more u → IsCrashing r k (lines ++ more) u (left_behind (Crash r k) act how others)
  crash_step r k lines t act others how more u at_first did = crash_close r k how more u did
  crash_step r k lines t act others how more u (is_closed x same) did = crash_say r k t same how more u did

  crash_end : (r k : ℕ) (lines : List Observation) (t : Scene) (rest : List Act) → IsCrashing r k lines t rest → rest ≡ [] → EndsWell (Crash r k) lines t
  crash_end r k lines t rest at_first none = absurd (omega (arith, ap length none))
  crash_end r k lines t rest (is_closed x same) none = absurd (omega (arith, ap length none))
  crash_end r k lines t rest (at_last ls x all same) none = (
    subst (λ (l : List Observation). IsServed (opened s.machine (Crash r k)) l) (sym all) (crash_served s.machine s.replicas f sound is r k),
    subst (λ (l : List Observation). Agrees (behind (opened s.machine (Crash r k)) l).machine t.replicas) (sym all) (subst (λ (rs : List FleetReplica). Agrees (closed s.machine r) rs) (sym same) (crash_agrees s.machine s.replicas f sound is r)),
  )

  crash_ends : (r k : ℕ) (lines : List Observation) (t : Scene) → Goes (entered s (Crash r k)) (plan s (Crash r k)) lines t [] → EndsWell (Crash r k) lines t
  unfolding plan
  crash_ends r k lines t goes = crash_end r k lines t [] (walk_lines (entered s (Crash r k)) (plan s (Crash r k)) (IsCrashing r k) (crash_step r k) at_first lines t [] goes) refl

  ends : (event : Event) → IsAsideOf s event → IsSpelled event → refusal s.machine event ≡ None → (lines : List Observation) (t : Scene) → Goes (entered s event) (plan s event) lines t [] → EndsWell event lines t
  ends (Boot p members) aside spelled none lines t goes = absurd aside
  ends (Client r call) aside spelled none lines t goes = call_ends r call aside lines t goes
  ends (Arm r k) aside spelled none lines t goes = arm_ends r k lines t goes
  ends (Crash r k) aside spelled none lines t goes = crash_ends r k lines t goes
  ends (Reboot r) aside spelled none lines t goes = reboot_ends r lines t goes
  ends (Inspect r) aside spelled none lines t goes = inspect_ends r lines t goes
  ends (Survey r e) aside spelled none lines t goes = survey_ends r e spelled none lines t goes
  ends (Appoint e p members) aside spelled none lines t goes = absurd aside
  ends (Activate e) aside spelled none lines t goes = absurd aside

  whole_case : (event : Event) (lines : List Observation) (t : FleetState) (x : Option Answer) → refusal s.machine event ≡ x → IsAsideOf s event → IsSpelled event
      → MatchOption x ((scene : Scene) × Goes (entered s event) (plan s event) lines scene [] × (t ≡ left scene)) (λ refused. (lines ≡ line_of_answer refused ∷ []) × (t ≡ s))
      → MatchOption x (IsServed (opened s.machine event) lines) (λ refused. lines ≡ line_of_answer refused ∷ []) × Agrees t.machine t.replicas
  whole_case event lines t None none aside spelled (scene, goes, same) =
      let w = ends event aside spelled none lines scene goes in (
        w.0,
        subst (λ (u : FleetState). Agrees u.machine u.replicas) (sym same) (subst (λ (p : Position). Agrees p.machine scene.replicas) (sym (goes_behind (entered s event) (plan s event) lines scene [] goes)) w.1),
      )
  whole_case event lines t (Some refused) some aside spelled (one, same) = (one, subst (λ (u : FleetState). Agrees u.machine u.replicas) (sym same) is)

pub aside_events_are_whole : AsideEventsAreWhole
aside_events_are_whole s t f event lines sound is aside spelled goes = whole_case s f sound is event lines t (refusal s.machine event) refl aside spelled goes
