-- A call that is answered and logs nothing is served, at whatever replica.
use Rattle.std.proofs.Common.{◌≡◌, ◌∙◌, ℕ, Bool, true, false, not, cond, ◌⊎◌, List, [], ◌∷◌, ◌++◌, set, Option, Some, None, MatchOption, refl, sym, ap, subst, inl, inr, arith}
use Rattle.std.specs.Prelude.{◌&&◌, ◌||◌, is_some, option_map}
use Rattle.std.specs.Option.{option_map_or}
use Rattle.std.proofs.lemmas.Bool.{cases_Bool, cases_eq, false≢true, true≢false}
use Rattle.std.proofs.lemmas.Option.{same_Some}
use Rattle.coll_model.specs.declared.op.Op.{Op}
use Rattle.txn_table.specs.Whole.{Whole, count_to}
use Rattle.events.specs.declared.event.Event.TheVariants.{Client}
use Rattle.events.specs.declared.call.Call.{Call}
use Rattle.events.specs.declared.answer.Answer.TheVariants as answers
use Rattle.events.specs.declared.answer.Reply.{Reply}
use Rattle.events.specs.Answers.{plain}
use Rattle.order_machine.specs.declared.observation.Observation.{Observation}
use Rattle.order_machine.specs.declared.observation.Observation.TheVariants as says
use Rattle.order_machine.specs.AnswerLines.{line_of_answer}
use Rattle.order_machine.specs.Machine.{Machine, Role, is_active}
use Rattle.order_machine.specs.Clients.{answer, served}
use Rattle.order_machine.specs.Transitions.{opened, logs, ends_logged}
use Rattle.order_machine.specs.Legal.{behind}
use Rattle.history_laws.specs.Laws.{after_call}
use Rattle.history_laws.proofs.CallCases.{after_answer}
use Rattle.history_laws.proofs.Elsewhere.{Elsewhere}
use Rattle.order_machine.specs.Transitions.{is_ok}
use Rattle.fleet_rows.proofs.QuietCalls.{Leaves, inactive_leaves, calm_cases, plan_client, closed_shows, open_shows, call_served, others}
use Rattle.fleet_rows.proofs.PrimaryCalls.{active_leaves}
use Rattle.replica_model.specs.declared.step.StepEvent.TheVariants as steps
use Rattle.replica_model.specs.OpenReplica as replicas
use Rattle.replica_model.specs.OpenReplica.{OpenReplica, Leading, shown_commits, unshown_commits, contents_of, last_lsn}
use Rattle.replica_model.specs.Quorums.{looked}
use Rattle.replica_model.specs.Steps.{written, step_answer}
use Rattle.fleet_run.specs.Scenes.{FleetReplica, FleetState, replica_at, entered, left}
use Rattle.fleet_run.specs.Scenes.FleetReplica.{Open, Closed}
use Rattle.fleet_run.specs.Acts.{Act, Goes, answer_lines, inspection_lines}
use Rattle.fleet_run.specs.Acts.Act.{Takes, Says}
use Rattle.fleet_run.specs.Plans.{plan, is_open}
use Rattle.fleet_rows.specs.Served.{Served, IsReplicaOf, IsOpenOf, IsClosedOf, IsBystander, IsPrimaryOf}
use Rattle.fleet_run.specs.Laws.{EventsKeepSound}
use Rattle.fleet_rows.specs.Laws.{AreServed, QuietCallsAreServed}
use Rattle.fleet_rows.proofs.Keeping.{Done, Shows, goes_by, replica_elsewhere, numbered_there}
use Rattle.fleet_rows.proofs.Serving.{served_done, shows_as, says_only}
use Rattle.fleet_rows.proofs.QuietSteps.{quiet_from, IsQuiet, one_step, open_is_open, inside}

module _ (s t : FleetState) (v : Served s) (r : ℕ) (call : Call) (lines : List Observation) (d : Done s (Client r call) lines t) (told : Reply) (is : answer s.machine r call ≡ Some told) (quiet : logs s.machine call (Some told) ≡ false) where
  abbrev own : List Observation
  own = line_of_answer told.answer ∷ []

  abbrev now : Machine
  now = after_call s.machine r call told

  -- ---- a closed replica

  closed_case : (ws : List Whole) → replica_at s.replicas r ≡ Closed ws → Shows s (Client r call) lines t
  closed_case ws down =
      let m = s.machine in
      let shut : IsClosedOf m r = subst (λ (y : FleetReplica). IsReplicaOf m r y) down (v.replicas r) in
      let planned : plan s (Client r call) ≡ Says (says.Down r ∷ []) ∷ [] = plan_client s r call ∙ ap (λ (y : FleetReplica). cond (is_open y) (Takes r (steps.Client call) [] ∷ []) (Says (says.Down r ∷ []) ∷ [])) down in
      let k = says_only (entered s (Client r call)) (says.Down r ∷ []) lines d.scene (subst (λ (acts : List Act). Goes (entered s (Client r call)) acts lines d.scene []) planned d.goes) in
      let downs : plain (answers.Down r) ≡ told =
      same_Some (plain (answers.Down r)) told (sym (ap (λ (b : Bool). cond (not b) (Some (plain (answers.Down r))) (cond (not (is_active m r)) (Some (plain (answers.NotActive r))) (served m r call))) shut.down) ∙ is) in
      let line : says.Down r ∷ [] ≡ own = ap (λ (z : Reply). line_of_answer z.answer ∷ []) downs in
      let inactive : is_active m r ≡ false = ap (λ (y : Option Role). option_map_or (λ (role : Role). role.active) y false) shut.bystander.no_role in
      let at : Elsewhere r m now = after_answer (Elsewhere r m) m r (calm_cases m r inactive) call told (numbered_there m v.run) is in
      let state : List Observation → FleetState = λ (ls : List Observation). record { machine = (behind (opened m (Client r call)) ls).machine; replicas = s.replicas } in
      shows_as s t (record { machine = now; replicas = s.replicas }) (Client r call) lines own (k.0 ∙ line)
      (d.ends ∙ ap left k.1 ∙ ap state line ∙ ap (λ (n : Machine). let u : FleetState = record { machine = n; replicas = s.replicas } in u) (call_served s v r call told is).1)
      (closed_shows s v r call told is (λ q. elim (cases_eq q r) [
        | inl same ↦ subst (λ (j : ℕ). IsReplicaOf now j (replica_at s.replicas j)) (sym same) (replica_elsewhere r m now (replica_at s.replicas r) at (v.replicas r))
        | inr apart ↦ others s v r call told is q apart
      ]))

  -- ---- an open one

  op_none : told.op ≡ None
  op_none = by told.op quiet
    where
      by : (o : Option Op) → (is_some o || (is_ok told.answer && ends_logged s.machine call)) ≡ false → o ≡ None
      by None e = refl
      by (Some op) e = absurd (true≢false e)

  leads_case : (o : OpenReplica) → replica_at s.replicas r ≡ Open o → IsOpenOf s.machine r o → (x : Option Leading) → o.leading ≡ x → replicas.is_active o ≡ true → MatchOption x (IsBystander s.machine r) (IsPrimaryOf s.machine r o) → (y : OpenReplica) × Leaves s.machine r call told o y
  leads_case o up here None lead on role = absurd (false≢true (sym (ap (λ (x : Option Leading). option_map_or (λ (l : Leading). l.active) x false) lead) ∙ on))
  leads_case o up here (Some l) lead on role =
      active_leaves s v r call told is o up l lead (sym (ap (λ (x : Option Leading). option_map_or (λ (l : Leading). l.active) x false) lead) ∙ on) here role (omega (arith, inside s.replicas r o up, v.nine, v.sound.nine)) op_none quiet

  leaves_any : (o : OpenReplica) → replica_at s.replicas r ≡ Open o → (y : OpenReplica) × Leaves s.machine r call told o y
  leaves_any o up =
      let here = open_is_open s.machine r (replica_at s.replicas r) o up (v.replicas r) in
      elim (cases_Bool (replicas.is_active o)) [
        | inl on ↦ leads_case o up here o.leading refl on here.role
        | inr off ↦ (o, inactive_leaves s v r call told o is up here off)
      ]

  looks_any : (o : OpenReplica) → replica_at s.replicas r ≡ Open o → looked (written o (steps.Client call)) ≡ written o (steps.Client call)
  looks_any o up = let k = (leaves_any o up).1 in ap looked k.written_is ∙ k.looks ∙ sym k.written_is

  quiet_any : (o : OpenReplica) → replica_at s.replicas r ≡ Open o → IsQuiet o (steps.Client call)
  quiet_any o up =
      let y = leaves_any o up in
      let k = y.1 in
      quiet_from o (steps.Client call) (looks_any o up)
      (ap (λ (x : OpenReplica). replicas.view_of x) k.written_is ∙ ap (λ (w : Whole). count_to w y.0.stable) k.disk ∙ ap (λ (n : ℕ). count_to o.disk n) k.stable)

  open_case : (o : OpenReplica) → replica_at s.replicas r ≡ Open o → Shows s (Client r call) lines t
  open_case one up_one =
      let m = s.machine in
      let planned : plan s (Client r call) ≡ Takes r (steps.Client call) [] ∷ [] = plan_client s r call ∙ ap (λ (y : FleetReplica). cond (is_open y) (Takes r (steps.Client call) [] ∷ []) (Says (says.Down r ∷ []) ∷ [])) up_one in
      let k = one_step s t (Client r call) r (steps.Client call) [] lines d planned (client_event m r call) quiet_any in
      let o = k.replica in
      let y = leaves_any o k.up in
      let line : answer_lines (step_answer o (steps.Client call)) ++ inspection_lines o (steps.Client call) ++ [] ≡ own = ap (λ (z : Option Reply). answer_lines (option_map (λ (w : Reply). w.answer) z) ++ [] ++ []) y.1.replied in
      let state : List Observation → OpenReplica → FleetState = λ (ls : List Observation) (x : OpenReplica). record { machine = (behind (opened m (Client r call)) ls).machine; replicas = set s.replicas r (Open x) } in
      elim k.went [
        | inl fine ↦
            shows_as s t (record { machine = now; replicas = set s.replicas r (Open y.0) }) (Client r call) lines own (fine.lines_are ∙ line)
            (fine.ends ∙ ap (state (answer_lines (step_answer o (steps.Client call)) ++ inspection_lines o (steps.Client call) ++ [])) (looks_any o k.up) ∙ ap (λ (ls : List Observation). state ls (written o (steps.Client call))) line ∙ ap (state own) y.1.written_is
            ∙ ap (λ (n : Machine). let u : FleetState = record { machine = n; replicas = set s.replicas r (Open y.0) } in u) (call_served s v r call told is).1)
            (open_shows s v r call told is o y.0 k.up y.1.disk y.1.own)
        | inr failed ↦ absurd (failed.logs y.1.unlogged)
      ]
    where
      client_event : (m : Machine) (r : ℕ) (call : Call) → (opened m (Client r call)).event ≡ Client r call
      client_event m r call = refl

  answered_shows : Shows s (Client r call) lines t
  answered_shows = by (replica_at s.replicas r) refl
    where
      by : (x : FleetReplica) → replica_at s.replicas r ≡ x → Shows s (Client r call) lines t
      by (Open o) up = open_case o up
      by (Closed ws) down = closed_case ws down

quiet_shows : (s t : FleetState) (r : ℕ) (call : Call) (lines : List Observation) → Served s → logs s.machine call (answer s.machine r call) ≡ false → Done s (Client r call) lines t → Shows s (Client r call) lines t
quiet_shows s t r call lines v quiet d = by (answer s.machine r call) refl quiet
  where
    by : (o : Option Reply) → answer s.machine r call ≡ o → logs s.machine call o ≡ false → Shows s (Client r call) lines t
    by None e none = absurd (true≢false none)
    by (Some told) e none = answered_shows s t v r call lines d told e none

pub quiet_calls_are_served : EventsKeepSound → QuietCallsAreServed
quiet_calls_are_served keep s t r call lines v quiet went = by (goes_by s t (Client r call) lines v went)
  where
    by : AreServed s (Client r call) lines t ⊎ Done s (Client r call) lines t → AreServed s (Client r call) lines t
    by (inl refused) = refused
    by (inr d) = served_done keep s t (Client r call) lines tt v went d (quiet_shows s t r call lines v quiet d)
