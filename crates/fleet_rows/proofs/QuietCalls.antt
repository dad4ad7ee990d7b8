-- Client calls that are answered and log nothing.
use Rattle.std.proofs.Common.{◌≡◌, ◌∙◌, ℕ, ◌<◌, Bool, true, false, not, cond, List, [], ◌∷◌, length, set, get_or, Option, Some, None, MatchOption, refl, sym, ap, subst}
use Rattle.std.specs.Prelude.{Contains, MatchBool}
use Rattle.std.specs.Option.{option_map_or}
use Rattle.std.proofs.lemmas.Bool.{false≢true}
use Rattle.rc_base.specs.declared.ids.TxnId.{TxnId}
use Rattle.log_records.specs.declared.record.Record.{Record}
use Rattle.txn_table.specs.Whole.{Whole}
use Rattle.events.specs.declared.event.Event.TheVariants.{Client}
use Rattle.events.specs.declared.call.Call.{Call}
use Rattle.events.specs.declared.answer.Answer.TheVariants as answers
use Rattle.events.specs.declared.answer.Reply.{Reply}
use Rattle.events.specs.Calls.{txn_named}
use Rattle.events.specs.Answers.{plain}
use Rattle.order_machine.specs.declared.observation.Observation.TheVariants as says
use Rattle.order_machine.specs.AnswerLines.{line_of_answer}
use Rattle.order_machine.specs.Order.{Order, empty_order, first_of}
use Rattle.order_machine.specs.Machine.{Machine, Role, replica, role_of, is_active}
use Rattle.order_machine.specs.Clients.{answer, served}
use Rattle.order_machine.specs.Transitions.{opened}
use Rattle.order_machine.specs.Legal.{IsServed, behind}
use Rattle.history_laws.specs.Laws.{after_call}
use Rattle.history_laws.specs.LockGuards.{ReplicaGuard}
use Rattle.history_laws.specs.Invariant.Numbering.{Numbering}
use Rattle.history_laws.proofs.CallCases.{CallCases, after_answer}
use Rattle.history_laws.proofs.Elsewhere.{Elsewhere, quiet_elsewhere}
use Rattle.history_laws.proofs.QuietSuffixes.{HomeStays-itself}
use Rattle.history_laws.proofs.OwnGuards.{calls_keep_guards}
use Rattle.history_laws.proofs.RequestSteps.{calls_keep_requests}
use Rattle.txn_front.specs.Front as front
use Rattle.txn_front.specs.Front.{Fronted, Going, going_of, txn_at}
use Rattle.replica_model.specs.declared.step.StepEvent.TheVariants as steps
use Rattle.replica_model.specs.OpenReplica as replicas
use Rattle.replica_model.specs.OpenReplica.{OpenReplica, Leading, shown_commits, unshown_commits, contents_of, last_lsn}
use Rattle.log_records.specs.declared.record.Physical.{Physical}
use Rattle.txn_table.specs.Whole.{epoch_of}
use Rattle.replica_model.specs.Quorums.{looked}
use Rattle.replica_model.specs.Records.{reply, logged_by, logged_call, going_in, step_block, appended, placed}
use Rattle.replica_model.specs.Steps as steps_of
use Rattle.replica_model.specs.Steps.{written, step_answer, front_behind}
use Rattle.fleet_run.specs.Scenes.{FleetReplica, FleetState, replica_at, held_by, empty_whole}
use Rattle.fleet_run.specs.Scenes.FleetReplica.{Open, Closed}
use Rattle.fleet_run.specs.Acts.Act.{Takes, Says}
use Rattle.fleet_run.specs.Plans.{plan, is_open}
use Rattle.fleet_rows.specs.Served.{Served, IsReplicaOf, IsOpenOf, IsBystander, IsPrimaryOf, IsFrontOf, IsLoggedBy, IsWaiting, commits_of}
use Rattle.fleet_rows.proofs.Keeping.{Shows, log_kept, logs_after, replica_elsewhere, at_each_in, numbered_there}
use Rattle.fleet_rows.proofs.Serving.{holds_there}
use Rattle.fleet_rows.proofs.QuietSteps.{inside}
use Rattle.fleet_rows.proofs.AnswerRows.{answered_all}
use Rattle.fleet_rows.proofs.CallChanges.{Aside, aside_holds, call_aside, call_logs, call_elsewhere}

-- ---- a replica that is no active primary

-- no call changes anything there but what is noted of transactions that don't go on
pub calm_cases : (m : Machine) (r : ℕ) → is_active m r ≡ false → CallCases (Elsewhere r m) m r
calm_cases m r inactive = record {
  same = record { same = refl; orders = refl; stays = HomeStays-itself r m.txns };
  quiet = λ t x c known quiet. quiet_elsewhere r m t x c known quiet;
  begins = λ t next active none. absurd (false≢true (sym inactive ∙ active));
  locks = λ t x call reply at e. absurd (false≢true (sym inactive ∙ at.active));
  aborts = λ t x c at quiet. absurd (false≢true (sym inactive ∙ at.active));
}

active_by : (m : Machine) (r : ℕ) (o : OpenReplica) (x : Option Leading) → o.leading ≡ x → MatchOption x (IsBystander m r) (IsPrimaryOf m r o) → is_active m r ≡ replicas.is_active o
active_by m r o None lead b = ap (λ (y : Option Role). option_map_or (λ (role : Role). role.active) y false) b.no_role ∙ sym (ap (λ (y : Option Leading). option_map_or (λ (l : Leading). l.active) y false) lead)
active_by m r o (Some l) lead p =
    ap (λ (y : Option Role). option_map_or (λ (role : Role). role.active) y false) p.has ∙ p.active ∙ sym (ap (λ (y : Option Leading). option_map_or (λ (l : Leading). l.active) y false) lead)

-- a primary is active in both
pub active_same : (m : Machine) (r : ℕ) (o : OpenReplica) → IsOpenOf m r o → is_active m r ≡ replicas.is_active o
active_same m r o is = active_by m r o o.leading refl is.role

-- ---- the event

pub plan_client : (s : FleetState) (r : ℕ) (call : Call) → plan s (Client r call) ≡ cond (is_open (replica_at s.replicas r)) (Takes r (steps.Client call) [] ∷ []) (Says (says.Down r ∷ []) ∷ [])
unfolding plan
plan_client s r call = refl

-- what is left to show of a call that was answered: the replica that took it
module _ (s : FleetState) (v : Served s) (r : ℕ) (call : Call) (told : Reply) (is : answer s.machine r call ≡ Some told) where
  abbrev m : Machine
  m = s.machine

  abbrev now : Machine
  now = after_call s.machine r call told

  pub numbering : Numbering s.machine
  numbering = numbered_there s.machine v.run

  aside : Aside s.machine now
  aside = call_aside s.machine r call told numbering is

  pub call_served : IsServed (opened s.machine (Client r call)) (line_of_answer told.answer ∷ []) × ((behind (opened s.machine (Client r call)) (line_of_answer told.answer ∷ [])).machine ≡ now)
  call_served = answered_all s.machine r call told is (aside_holds s.machine now aside (holds_there s.machine v.run))

  pub others : (q : ℕ) → (q ≡ r → ⊥) → IsReplicaOf now q (replica_at s.replicas q)
  others q apart = replica_elsewhere q s.machine now (replica_at s.replicas q) (call_elsewhere s.machine r call told numbering is q apart) (v.replicas q)

  -- a closed replica takes no step
  pub closed_shows : ((q : ℕ) → IsReplicaOf now q (replica_at s.replicas q)) → Shows s (Client r call) (line_of_answer told.answer ∷ []) (record { machine = now; replicas = s.replicas })
  closed_shows all = record {
    served = call_served.0;
    orders = aside.orders;
    nine = aside.sizes ∙ v.nine;
    replicas = all;
    logs = λ q w there. log_kept s.machine now w (call_logs s.machine r call told numbering is) (v.logs q w there);
  }

  -- and an open one may have another front
  pub open_shows : (o x : OpenReplica) → replica_at s.replicas r ≡ Open o → x.disk ≡ o.disk → IsOpenOf now r x → Shows s (Client r call) (line_of_answer told.answer ∷ []) (record { machine = now; replicas = set s.replicas r (Open x) })
  open_shows o x up disk own = record {
    served = call_served.0;
    orders = aside.orders;
    nine = aside.sizes ∙ v.nine;
    replicas = at_each_in (λ (q : ℕ) (y : FleetReplica). IsReplicaOf now q y) s.replicas r (Open x) (Closed (empty_whole ∷ [])) (inside s.replicas r o up) others own;
    logs = logs_after s.machine now s.replicas r (Open x) (call_logs s.machine r call told numbering is) v.logs (λ w there.
        log_kept s.machine now w (call_logs s.machine r call told numbering is) (v.logs r w (subst (λ (y : FleetReplica). Contains (held_by y) w) (sym up) (subst (λ (d : Whole). Contains (d ∷ []) w) disk there))));
  }

  -- ---- the primary

  module _ (o : OpenReplica) (l : Leading) (lead : o.leading ≡ Some l) (active : l.active ≡ true) (here : IsOpenOf s.machine r o) (p : IsPrimaryOf s.machine r o l) (lt : r < length s.machine.replicas) where
    abbrev over : Fronted → OpenReplica
    over f = record o { front = f }

    guard : ReplicaGuard s.machine r (unshown_commits o)
    guard = subst (λ (b : Bool). MatchBool b (ReplicaGuard s.machine r (unshown_commits o)) (IsWaiting s.machine r o l)) active p.guard

    -- the primary with another front, over the machine with another role
    pub primary_now : (f : Fronted) (role : Role) → role_of now r ≡ Some role → role.epoch ≡ l.epoch → role.active ≡ l.active → role.begins ≡ f.begins → f.epoch ≡ l.epoch → IsFrontOf now r f → IsLoggedBy o.disk f → IsPrimaryOf now r (over f) l
    primary_now f role has epoch is_active begins front_epoch fronts logged = record {
      role = role;
      has = has;
      epoch = epoch;
      active = is_active;
      begins = begins;
      front_epoch = front_epoch;
      front = fronts;
      logged = logged;
      requests = calls_keep_requests s.machine r call told numbering is r l.epoch (commits_of o.disk) p.requests;
      guard = subst (λ (b : Bool). MatchBool b (ReplicaGuard now r (unshown_commits (over f))) (IsWaiting now r (over f) l)) (sym active) (calls_keep_guards s.machine r call told numbering is r (unshown_commits o) guard);
    }

    pub open_now : (f : Fronted) → IsPrimaryOf now r (over f) l → IsOpenOf now r (over f)
    open_now f primary =
        let k = aside.replicas r in
        record {
          up = k.up ∙ here.up;
          view = k.show ∙ here.view;
          shows = record {
            start_is = ap (λ (n : ℕ). (get_or now.orders n empty_order).start) k.loss ∙ ap (λ (os : List Order). (get_or os (replica s.machine r).loss empty_order).start) aside.orders ∙ here.shows.start_is;
            entries =
                ap (λ (n : ℕ). first_of (get_or now.orders n empty_order) (replica now r).show) k.loss
                ∙ ap (λ (n : ℕ). first_of (get_or now.orders (replica s.machine r).loss empty_order) n) k.show
                ∙ ap (λ (os : List Order). first_of (get_or os (replica s.machine r).loss empty_order) (replica s.machine r).show) aside.orders
                ∙ here.shows.entries;
          };
          role = subst (λ (x : Option Leading). MatchOption x (IsBystander now r) (IsPrimaryOf now r (over f))) (sym lead) primary;
        }

-- ---- what a step of a call leaves, where it logs nothing

pub record Leaves (m : Machine) (r : ℕ) (call : Call) (told : Reply) (o x : OpenReplica) : Type 0 where
  pub written_is : written o (steps.Client call) ≡ x
  pub unlogged : step_block o (steps.Client call) ≡ []
  pub replied : reply o call ≡ Some told
  pub looks : looked x ≡ x
  pub disk : x.disk ≡ o.disk
  pub stable : x.stable ≡ o.stable
  pub own : IsOpenOf (after_call m r call told) r x

pub block_none : (o : OpenReplica) (call : Call) → logged_by o call ≡ [] → step_block o (steps.Client call) ≡ []
block_none o call none = ap (λ (bodies : List Record). placed (last_lsn o).0 (epoch_of o.disk) bodies) none

pub written_over : (o : OpenReplica) (call : Call) (g : Fronted) → replicas.is_active o ≡ true → logged_by o call ≡ [] → front_behind o call ≡ g → written o (steps.Client call) ≡ record o { front = g }
written_over o call g active none behind_is =
    ap (λ (b : Bool). cond b (record (steps_of.with_block o (steps.Client call)) { front = front_behind o call }) o) active
    ∙ ap (λ (block : List Physical). let x : OpenReplica = record o { disk = appended o.disk block; front = front_behind o call } in x) (block_none o call none)
    ∙ ap (λ (f : Fronted). let x : OpenReplica = record o { front = f } in x) behind_is

-- at a replica that is no active primary
pub inactive_leaves : (s : FleetState) (v : Served s) (r : ℕ) (call : Call) (told : Reply) (o : OpenReplica) → answer s.machine r call ≡ Some told → replica_at s.replicas r ≡ Open o → IsOpenOf s.machine r o → replicas.is_active o ≡ false → Leaves s.machine r call told o o
inactive_leaves s v r call told o is up here inactive =
    let m = s.machine in
    let off : is_active m r ≡ false = active_same m r o here ∙ inactive in
    let standing = v.sound.standing r o up in
    let none : logged_by o call ≡ [] = unlogged_by (txn_named call) in
    record {
      written_is = ap (λ (b : Bool). cond b (record (steps_of.with_block o (steps.Client call)) { front = front_behind o call }) o) inactive;
      unlogged = block_none o call none;
      replied =
          ap (λ (b : Bool). cond b (front.told o.front (contents_of o) call) (Some (plain (answers.NotActive o.id)))) inactive
          ∙ ap (λ (i : ℕ). Some (plain (answers.NotActive i))) standing.number
          ∙ sym (ap (λ (b : Bool). cond (not b) (Some (plain (answers.Down r))) (cond (not (is_active m r)) (Some (plain (answers.NotActive r))) (served m r call))) here.up ∙ ap (λ (b : Bool). cond (not b) (Some (plain (answers.NotActive r))) (served m r call)) off)
          ∙ is;
      looks = standing.settled;
      disk = refl;
      stable = refl;
      own = replica_elsewhere r m (after_call m r call told) (Open o) (after_answer (Elsewhere r m) m r (calm_cases m r off) call told (numbered_there m v.run) is) here;
    }
  where
    unlogged_by : (named : Option TxnId) → option_map_or (λ t. option_map_or (λ going. logged_call (last_lsn o) t going call (reply o call)) (going_in o t) []) named [] ≡ []
    unlogged_by None = refl
    unlogged_by (Some t) = ap (λ (b : Bool). option_map_or (λ going. logged_call (last_lsn o) t going call (reply o call)) (cond b (going_of o.front t) None) []) inactive
