-- A call of a transaction at an active primary that logs records which commit nothing, done and cut off by the disk.
use Rattle.std.proofs.Common.{◌≡◌, ◌∙◌, ℕ, ◌+◌, ◌-◌, ◌<◌, ◌≤◌, Bool, true, false, cond, List, [], ◌∷◌, ◌++◌, length, set, get_or, drop, map, Option, Some, None, MatchOption, refl, sym, ap, subst, inl, inr, arith}
use Rattle.std.specs.Prelude.{Contains, is_some, option_map, MatchBool}
use Rattle.std.specs.Option.{option_map_or}
use Rattle.std.proofs.lemmas.List.{length-set, length-map}
use Rattle.rc_base.specs.declared.ids.Epoch.{Epoch}
use Rattle.log_records.specs.declared.record.Record.{Record}
use Rattle.txn_table.specs.declared.committed.Committed.{Committed}
use Rattle.txn_table.specs.Log.{Items, commits_from, IsLogFrom, last_epoch_from}
use Rattle.txn_table.specs.Whole.{Whole, epoch_of, stable_in}
use Rattle.events.specs.declared.event.Event.TheVariants.{Client}
use Rattle.events.specs.declared.call.Call.{Call}
use Rattle.events.specs.declared.answer.Reply.{Reply}
use Rattle.order_machine.specs.declared.observation.Observation.{Observation}
use Rattle.order_machine.specs.declared.observation.Observation.TheVariants as says
use Rattle.order_machine.specs.AnswerLines.{line_of_answer}
use Rattle.order_machine.specs.Order.{Order, empty_order, first_of}
use Rattle.order_machine.specs.Machine.{Machine, Appointment, replica, role_of, closed}
use Rattle.order_machine.specs.Clients.{answer}
use Rattle.order_machine.specs.Transitions.{Position, opened, at_start, asking, logs}
use Rattle.order_machine.specs.Legal.{IsServed, behind}
use Rattle.history_laws.specs.Texts.{IsText}
use Rattle.history_laws.specs.Laws.{after_call}
use Rattle.history_laws.specs.LockGuards.{ContainsRequests, ReplicaGuard, ShownCommits}
use Rattle.history_laws.proofs.Elsewhere.{Elsewhere}
use Rattle.history_laws.proofs.OwnGuards.{calls_keep_guards}
use Rattle.history_laws.proofs.RequestSteps.{calls_keep_requests}
use Rattle.txn_front.specs.Front.{Fronted}
use Rattle.replica_model.specs.declared.step.StepEvent.TheVariants as steps
use Rattle.replica_model.specs.OpenReplica as replicas
use Rattle.replica_model.specs.OpenReplica.{OpenReplica, Leading, shown_commits, unshown_commits, contents_of, view_of, last_lsn}
use Rattle.replica_model.specs.Quorums.{looked, newly_shown}
use Rattle.replica_model.specs.Records.{logged_by, step_block, appended, placed}
use Rattle.replica_model.specs.Steps as steps_of
use Rattle.replica_model.specs.Steps.{written, step_answer, front_behind, cut_off}
use Rattle.fleet_laws.specs.Choice.{IsSafe}
use Rattle.fleet_laws.proofs.Puts.{only_member, first_member}
use Rattle.fleet_laws.proofs.Runs.{reached_invariant}
use Rattle.fleet_run.specs.Scenes.{FleetReplica, FleetState, replica_at, held_by, empty_whole}
use Rattle.fleet_run.specs.Scenes.FleetReplica.{Open, Closed}
use Rattle.fleet_run.specs.Acts.{answer_lines}
use Rattle.fleet_run.specs.Acts.Act.{Takes, Says}
use Rattle.fleet_run.specs.Plans.{plan, is_open}
use Rattle.fleet_run.specs.Kernel.{code, entry_of, value_of, values_of, role_of as kernel_role}
use Rattle.fleet_run.proofs.Codes.{in_epoch, not_less_code}
use Rattle.fleet_run.proofs.Writing.{placed_are}
use Rattle.fleet_run.proofs.Acting.{same_open}
use Rattle.fleet_run.proofs.Stepping.{IsThere, value_there, fenced_there, kept_epoch}
use Rattle.fleet_rows.specs.Served.{Served, IsLogOf, IsReplicaOf, IsOpenOf, IsBystander, IsPrimaryOf, IsFrontOf, IsLoggedBy, IsWaiting, is_appointed, commits_of}
use Rattle.fleet_rows.proofs.Keeping.{Done, Shows, KeepsLogs, log_kept, logs_after, begins_kept, replica_elsewhere, at_each_in, numbered_there, kept_there}
use Rattle.fleet_rows.proofs.Serving.{shows_as, holds_there}
use Rattle.fleet_rows.proofs.RoleEnds.{holds_without, closed_own, closed_no_role}
use Rattle.fleet_rows.proofs.Surveys.{two_members}
use Rattle.fleet_rows.proofs.QuietSteps.{IsQuiet, Stepped, Stopped, one_step, drop_all, inside}
use Rattle.fleet_rows.proofs.CallChanges.{Aside, call_aside, call_logs}
use Rattle.fleet_rows.proofs.QuietCalls.{plan_client, call_served, others}
use Rattle.fleet_rows.proofs.PrimaryCalls as primary
use Rattle.fleet_rows.proofs.PrimaryCalls.{noted_after, noted_at, granted_now}
use Rattle.fleet_rows.proofs.OperationLogs.{told_begins, behind_op, after_op, LooksOn, looks_on}
use Rattle.fleet_rows.proofs.OperationFronts.{shown_begins}

module _ (s : FleetState) (v : Served s) (r : ℕ) (call : Call) (told : Reply) (is : answer s.machine r call ≡ Some told) (o : OpenReplica) (up : replica_at s.replicas r ≡ Open o) (l : Leading) (lead : o.leading ≡ Some l) (active : l.active ≡ true) (here : IsOpenOf s.machine r o) (p : IsPrimaryOf s.machine r o l) (lt : r < length s.machine.replicas) (bodies : List Record) (g : Fronted)
    (bodies_are : logged_by o call ≡ bodies) (front_is : front_behind o call ≡ g) (rules : IsLogFrom o.disk.start (o.disk.log ++ in_epoch (epoch_of o.disk) bodies)) (commits : commits_from o.disk.start (o.disk.log ++ in_epoch (epoch_of o.disk) bodies) ≡ commits_from o.disk.start o.disk.log) (last_is : last_epoch_from o.disk.start (o.disk.log ++ in_epoch (epoch_of o.disk) bodies) ≡ epoch_of o.disk)
    (tells : (k : ℕ) → stable_in (in_epoch (epoch_of o.disk) bodies) ≤ k) (role_is : role_of (after_call s.machine r call told) r ≡ role_of s.machine r) (fronts : IsFrontOf (after_call s.machine r call told) r g) (logged : IsLoggedBy (record o.disk { log = o.disk.log ++ in_epoch (epoch_of o.disk) bodies }) g) (begins_is : g.begins ≡ o.front.begins) (epoch_is : g.epoch ≡ o.front.epoch)
    (k : Machine) (asked_is : asking s.machine r call ≡ k) (asked_sizes : length k.replicas ≡ length s.machine.replicas) (cut_elsewhere : (q : ℕ) → (q ≡ r → ⊥) → Elsewhere q s.machine (closed k r)) (cut_logs : KeepsLogs s.machine (closed k r)) (same_appointments : k.appointments ≡ s.machine.appointments) (same_acknowledged : k.acknowledged ≡ s.machine.acknowledged) (logs_there : logs k call (Some told) ≡ true) where
  abbrev now : Machine
  now = after_call s.machine r call told

  abbrev ys : Items
  ys = in_epoch (epoch_of o.disk) bodies

  leading_last : epoch_of o.disk ≡ l.epoch
  leading_last = ((v.sound.standing r o up).leads l lead).last

  log : IsLogOf s.machine o.disk
  log = v.logs r o.disk (subst (λ (z : FleetReplica). Contains (held_by z) o.disk) (sym up) (first_member o.disk []))

  there_is : IsThere v.fleet r o
  there_is = record {
    reached = v.sound.reached;
    values = v.sound.matches.values r ∙ ap values_of up;
    role = v.sound.matches.role r ∙ ap kernel_role up;
    standing = v.sound.standing r o up;
    kept = v.sound.kept r o.disk (subst (λ (z : FleetReplica). Contains (held_by z) o.disk) (sym up) (first_member o.disk []));
  }

  -- what is stable is within the log
  stable_within : o.stable - o.disk.start.at.0 ≤ length o.disk.log
  stable_within = by ((reached_invariant v.fleet v.sound.reached).values r (value_of o.stable o.disk) (value_there v.fleet r o there_is)).safe
    where
      by : IsSafe v.fleet.histories v.fleet.configurations v.fleet.acknowledged (code o.disk.fence) (map entry_of o.disk.log) o.stable → o.stable - o.disk.start.at.0 ≤ length o.disk.log
      by (inl none) = omega (arith, none)
      by (inr c) = omega (arith, c.2.agree.right, length-map o.disk.log entry_of)

  disk_is : appended o.disk (step_block o (steps.Client call)) ≡ record o.disk { log = o.disk.log ++ ys }
  disk_is =
      ap (λ (bodies : List Record). appended o.disk (placed (last_lsn o).0 (epoch_of o.disk) bodies)) bodies_are
      ∙ placed_are o.disk (last_lsn o).0 (epoch_of o.disk) bodies (not_less_code o.disk.fence (epoch_of o.disk) there_is.kept.fence (kept_epoch o.disk there_is.kept) (fenced_there v.fleet r o there_is))

  on_is : replicas.is_active o ≡ true
  on_is = ap (λ (z : Option Leading). option_map_or (λ (y : Leading). y.active) z false) lead ∙ active

  written_is : written o (steps.Client call) ≡ behind_op o ys g
  written_is =
      ap (λ (b : Bool). cond b (record (steps_of.with_block o (steps.Client call)) { front = front_behind o call }) o) on_is
      ∙ ap (λ (w : Whole). let z : OpenReplica = record o { disk = w; front = front_behind o call } in z) disk_is
      ∙ ap (λ (f : Fronted). behind_op o ys f) front_is

  look : LooksOn o ys g
  look = looks_on o l ys g lead active (v.sound.standing r o up).settled stable_within commits

  quiet : IsQuiet o (steps.Client call)
  quiet = record {
    wrote = ap (λ (z : OpenReplica). view_of z) written_is ∙ ap (λ (cs : List Committed). o.disk.start.count + length cs) look.before;
    none =
        ap (λ (z : OpenReplica). newly_shown z (looked z)) written_is ∙ ap (λ (z : OpenReplica). newly_shown (behind_op o ys g) z) look.is
        ∙ ap (λ (cs : List Committed). drop (length cs) (shown_commits (after_op o ys g look.stable))) look.before ∙ ap (drop (length (shown_commits o))) look.shows ∙ drop_all (shown_commits o);
    view = ap (λ (z : OpenReplica). view_of (looked z)) written_is ∙ ap (λ (z : OpenReplica). view_of z) look.is ∙ ap (λ (cs : List Committed). o.disk.start.count + length cs) look.shows;
    active = ap (λ (z : OpenReplica). replicas.is_active (looked z)) written_is ∙ ap (λ (z : OpenReplica). replicas.is_active z) look.is ∙ sym (ap (λ (z : OpenReplica). replicas.is_active z) written_is);
  }

  result_is : looked (written o (steps.Client call)) ≡ after_op o ys g look.stable
  result_is = ap looked written_is ∙ look.is

  -- the longer log, over any machine that keeps logs
  longer_log : (n : Machine) → KeepsLogs s.machine n → IsLogOf n (record o.disk { log = o.disk.log ++ ys })
  longer_log n keeps =
      let old = log_kept s.machine n o.disk keeps log in
      let kept = kept_there s.machine v.run in
      let role = ((numbered_there s.machine v.run).replicas r).role p.role p.has in
      let appointed : is_appointed s.machine (epoch_of o.disk) ≡ true = subst (λ (e : Epoch). is_appointed s.machine e ≡ true) (p.epoch ∙ sym leading_last) (ap (λ (a : Option Appointment). is_some a) role.appointed) in
      record {
        rules = rules;
        text = subst (λ (cs : List Committed). IsText n.txns [] cs) (sym commits) old.text;
        shown = told_begins n o.disk ys o.stable (v.sound.standing r o up).told (tells o.stable) stable_within
            (begins_kept s.machine n (shown_commits o) keeps.orders (shown_begins s.machine v.fleet r (shown_commits o) v.order (kept.replicas r).loss here.shows));
        last = inr (subst (λ (e : Epoch). is_appointed n e ≡ true) (sym last_is) (keeps.appointed (epoch_of o.disk) appointed));
        fence = old.fence;
      }

  aside : Aside s.machine now
  aside = call_aside s.machine r call told (numbered_there s.machine v.run) is

  guard : ReplicaGuard s.machine r (unshown_commits o)
  guard = subst (λ (b : Bool). MatchBool b (ReplicaGuard s.machine r (unshown_commits o)) (IsWaiting s.machine r o l)) active p.guard

  abbrev x2 : OpenReplica
  x2 = after_op o ys g look.stable

  unshown_same : unshown_commits x2 ≡ unshown_commits o
  unshown_same = ap (λ (cs : List Committed). drop (length cs) (commits_from o.disk.start (o.disk.log ++ ys))) look.shows ∙ ap (drop (length (shown_commits o))) commits

  primary_now : IsPrimaryOf now r x2 l
  primary_now = record {
    role = p.role;
    has = role_is ∙ p.has;
    epoch = p.epoch;
    active = p.active;
    begins = p.begins ∙ sym begins_is;
    front_epoch = epoch_is ∙ p.front_epoch;
    front = fronts;
    logged = logged;
    requests = subst (λ (cs : List Committed). ContainsRequests now.txns r l.epoch cs) (sym commits) (calls_keep_requests s.machine r call told (numbered_there s.machine v.run) is r l.epoch (commits_of o.disk) p.requests);
    guard = subst (λ (b : Bool). MatchBool b (ReplicaGuard now r (unshown_commits x2)) (IsWaiting now r x2 l)) (sym active)
        (subst (λ (cs : List Committed). ReplicaGuard now r cs) (sym unshown_same) (calls_keep_guards s.machine r call told (numbered_there s.machine v.run) is r (unshown_commits o) guard));
  }

  open_now : IsOpenOf now r x2
  open_now =
      let k = aside.replicas r in
      record {
        up = k.up ∙ here.up;
        view = k.show ∙ here.view ∙ sym (ap (λ (cs : List Committed). o.disk.start.count + length cs) look.shows);
        shows = subst (λ (cs : List Committed). ShownCommits now r [] cs) (sym look.shows) (record {
          start_is = ap (λ (i : ℕ). (get_or now.orders i empty_order).start) k.loss ∙ ap (λ (os : List Order). (get_or os (replica s.machine r).loss empty_order).start) aside.orders ∙ here.shows.start_is;
          entries =
              ap (λ (i : ℕ). first_of (get_or now.orders i empty_order) (replica now r).show) k.loss
              ∙ ap (λ (i : ℕ). first_of (get_or now.orders (replica s.machine r).loss empty_order) i) k.show
              ∙ ap (λ (os : List Order). first_of (get_or os (replica s.machine r).loss empty_order) (replica s.machine r).show) aside.orders
              ∙ here.shows.entries;
        });
        role = subst (λ (z : Option Leading). MatchOption z (IsBystander now r) (IsPrimaryOf now r x2)) (sym lead) primary_now;
      }

  -- ---- it is done

  done_shows : Shows s (Client r call) (line_of_answer told.answer ∷ []) (record { machine = now; replicas = set s.replicas r (Open x2) })
  done_shows = record {
    served = (call_served s v r call told is).0;
    orders = aside.orders;
    nine = aside.sizes ∙ v.nine;
    replicas = at_each_in (λ (q : ℕ) (z : FleetReplica). IsReplicaOf now q z) s.replicas r (Open x2) (Closed (empty_whole ∷ [])) (inside s.replicas r o up) (others s v r call told is) open_now;
    logs = logs_after s.machine now s.replicas r (Open x2) (call_logs s.machine r call told (numbered_there s.machine v.run) is) v.logs
        (λ w there. subst (λ (z : Whole). IsLogOf now z) (sym (only_member x2.disk w there)) (longer_log now (call_logs s.machine r call told (numbered_there s.machine v.run) is)));
  }

  -- ---- the disk fails in it

  abbrev cut : Machine
  cut = closed k r

  cut_served : IsServed (opened s.machine (Client r call)) (says.Fault r ∷ []) × ((behind (opened s.machine (Client r call)) (says.Fault r ∷ [])).machine ≡ cut)
  cut_served =
      let start : opened s.machine (Client r call) ≡ at_start k (Client r call) r (Some told) [] = ap (λ (z : Machine). at_start z (Client r call) r (answer s.machine r call) []) asked_is ∙ ap (λ (c : Option Reply). at_start k (Client r call) r c []) is in
      subst (λ (q : Position). IsServed q (says.Fault r ∷ []) × ((behind q (says.Fault r ∷ [])).machine ≡ cut)) (sym start) (
        record {
          may = (record { named = refl; in_rank = refl; next = refl; goes_on = refl; row = inl (refl, refl, logs_there, refl) }, tt);
          complete = record { opened = refl; grown = refl; mounted = refl; told = refl; answered = refl };
          holds = holds_without s.machine cut r cut_elsewhere same_appointments same_acknowledged (closed_no_role k r) (holds_there s.machine v.run);
        },
        refl,
      )

  cut_shows : Shows s (Client r call) (says.Fault r ∷ []) (record { machine = cut; replicas = set s.replicas r (Closed (cut_off o (steps.Client call))) })
  cut_shows = record {
    served = cut_served.0;
    orders = cut_logs.orders;
    nine = length-set k.replicas r (record (replica k r) { up = false; role = None; grants = [] }) ∙ asked_sizes ∙ v.nine;
    replicas = at_each_in (λ (q : ℕ) (z : FleetReplica). IsReplicaOf cut q z) s.replicas r (Closed (cut_off o (steps.Client call))) (Closed (empty_whole ∷ [])) (inside s.replicas r o up)
        (λ q apart. replica_elsewhere q s.machine cut (replica_at s.replicas q) (cut_elsewhere q apart) (v.replicas q)) (closed_own k r);
    logs = logs_after s.machine cut s.replicas r (Closed (cut_off o (steps.Client call))) cut_logs v.logs
        (two_members (λ (w : Whole). IsLogOf cut w) o.disk (appended o.disk (step_block o (steps.Client call))) (log_kept s.machine cut o.disk cut_logs log) (subst (λ (w : Whole). IsLogOf cut w) (sym disk_is) (longer_log cut cut_logs)));
  }

  -- ---- the event

  pub logged_shows : (u : FleetState) (lines : List Observation) → Done s (Client r call) lines u → Shows s (Client r call) lines u
  logged_shows u lines d =
      let planned : plan s (Client r call) ≡ Takes r (steps.Client call) [] ∷ [] = plan_client s r call ∙ ap (λ (z : FleetReplica). cond (is_open z) (Takes r (steps.Client call) [] ∷ []) (Says (says.Down r ∷ []) ∷ [])) up in
      let step = one_step s u (Client r call) r (steps.Client call) [] lines d planned refl (λ o2 up2. subst (λ (z : OpenReplica). IsQuiet z (steps.Client call)) (same_open o o2 (sym up ∙ up2)) quiet) in
      let own : List Observation = line_of_answer told.answer ∷ [] in
      let same : o ≡ step.replica = same_open o step.replica (sym up ∙ step.up) in
      let line : answer_lines (step_answer o (steps.Client call)) ++ [] ++ [] ≡ own = ap (λ (z : Option Reply). answer_lines (option_map (λ (w : Reply). w.answer) z) ++ [] ++ []) (primary.replied_told s v r call told is o up l lead active here p lt) in
      let state : List Observation → OpenReplica → FleetState = λ (ls : List Observation) (z : OpenReplica). record { machine = (behind (opened s.machine (Client r call)) ls).machine; replicas = set s.replicas r (Open z) } in
      elim step.went [
        | inl fine ↦
            let f = subst (λ (z : OpenReplica). Stepped s (Client r call) r (steps.Client call) [] lines u z) (sym same) fine in
            shows_as s u (record { machine = now; replicas = set s.replicas r (Open x2) }) (Client r call) lines own (f.lines_are ∙ line)
            (f.ends ∙ ap (λ (ls : List Observation). state ls (looked (written o (steps.Client call)))) line ∙ ap (state own) result_is
            ∙ ap (λ (z : Machine). let w : FleetState = record { machine = z; replicas = set s.replicas r (Open x2) } in w) (call_served s v r call told is).1)
            done_shows
        | inr failed ↦
            let f = subst (λ (z : OpenReplica). Stopped s (Client r call) r (steps.Client call) lines u z) (sym same) failed in
            shows_as s u (record { machine = cut; replicas = set s.replicas r (Closed (cut_off o (steps.Client call))) }) (Client r call) lines (says.Fault r ∷ []) f.lines_are
            (f.ends ∙ ap (λ (z : Machine). let w : FleetState = record { machine = z; replicas = set s.replicas r (Closed (cut_off o (steps.Client call))) } in w) cut_served.1)
            cut_shows
      ]
