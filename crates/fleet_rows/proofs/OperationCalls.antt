-- A call that logs an operation, done and cut off by the disk.
use Rattle.std.proofs.Common.{◌≡◌, ◌∙◌, ℕ, ◌+◌, ◌<◌, ◌||◌, Bool, true, false, not, cond, ◌⊎◌, List, [], ◌∷◌, ◌++◌, length, Option, Some, None, MatchOption, refl, sym, ap, subst, inl, inr, arith}
use Rattle.std.specs.Prelude.{◌&&◌, Contains, is_some, option_map, option_and_then}
use Rattle.std.specs.Option.{option_map_or}
use Rattle.std.proofs.lemmas.Bool.{cases_Bool, false≢true}
use Rattle.std.proofs.lemmas.Option.{none-some, same_Some}
use Rattle.std.proofs.lemmas.List.{length-set}
use Rattle.rc_base.specs.declared.ids.TxnId.{TxnId}
use Rattle.rc_base.proofs.SameIds.{is_epoch-true}
use Rattle.coll_model.specs.declared.op.Op.{Op}
use Rattle.coll_model.specs.Effect.{folded}
use Rattle.key_locks.specs.Grants.{Grant, Alike}
use Rattle.log_records.specs.declared.record.Record.{Record}
use Rattle.txn_table.specs.Log.{Items}
use Rattle.txn_table.specs.Whole.{epoch_of}
use Rattle.events.specs.declared.event.Event.TheVariants.{Client}
use Rattle.events.specs.declared.call.Call.{Call}
use Rattle.events.specs.declared.call.Call.TheVariants.{Begin, Make, OnKey, Commit, Abort}
use Rattle.events.specs.declared.answer.Answer.{Answer}
use Rattle.events.specs.declared.answer.Answer.TheVariants as answers
use Rattle.events.specs.declared.answer.Reply.{Reply}
use Rattle.events.specs.Calls.{txn_named}
use Rattle.events.specs.Locking.{locks_at, taken}
use Rattle.events.specs.Answers.{plain, live_reply}
use Rattle.lock_laws.proofs.ProtectedCalls.{note_of}
use Rattle.order_machine.specs.declared.observation.Observation.{Observation}
use Rattle.order_machine.specs.Machine.{Machine, Replica, Txn, replica, put_txn, put_grants, role_of, grants_of, is_active, ops_of, closed}
use Rattle.order_machine.specs.Clients.{answer, served, seen, next_txn, noted}
use Rattle.order_machine.specs.Transitions.{asking, asking_locks, going_at, is_ok, ends_logged}
use Rattle.history_laws.specs.Laws.{after_call}
use Rattle.history_laws.proofs.CallCases.{with_call}
use Rattle.history_laws.proofs.Elsewhere.{Elsewhere, other_replica}
use Rattle.history_laws.proofs.QuietSuffixes.{HomeStays-ended}
use Rattle.history_laws.proofs.SettledSteps.{role_ends_keep_texts}
use Rattle.txn_front.specs.Front as front
use Rattle.txn_front.specs.Front.{Fronted, Going, going_of}
use Rattle.txn_front.proofs.Fronts.{found_live, told_live}
use Rattle.replica_model.specs.OpenReplica as replicas
use Rattle.replica_model.specs.OpenReplica.{OpenReplica, Leading, shown_commits, unshown_commits, contents_of, view_of, last_lsn}
use Rattle.replica_model.specs.Records.{reply, logged_by, logged_call, logged_op}
use Rattle.replica_model.specs.Steps as steps_of
use Rattle.replica_model.specs.Steps.{written, step_answer, front_behind, cut_off}
use Rattle.fleet_laws.proofs.Puts.{first_member}
use Rattle.fleet_run.specs.Scenes.{FleetReplica, FleetState, replica_at, held_by}
use Rattle.fleet_run.specs.Scenes.FleetReplica.{Open, Closed}
use Rattle.fleet_run.proofs.Codes.{in_epoch}
use Rattle.fleet_rows.specs.Served.{Served, IsLogOf, IsReplicaOf, IsOpenOf, IsClosedOf, IsBystander, IsPrimaryOf, IsFrontOf}
use Rattle.fleet_run.specs.Laws.{EventsKeepSound}
use Rattle.fleet_rows.specs.Laws.{AreServed, OperationsAreServed}
use Rattle.fleet_rows.proofs.Keeping.{Done, Shows, KeepsLogs, goes_by}
use Rattle.fleet_rows.proofs.Serving.{served_done}
use Rattle.fleet_rows.proofs.RoleEnds.{surveyed_put}
use Rattle.fleet_rows.proofs.QuietSteps.{open_is_open, inside}
use Rattle.fleet_rows.proofs.FrontSteps.{ChangesAt, front_after, put_other, put_own, live_one}
use Rattle.fleet_rows.proofs.QuietCalls.{active_same}
use Rattle.fleet_rows.proofs.PrimaryCalls as primary
use Rattle.fleet_rows.proofs.PrimaryCalls.{noted_after, noted_at, granted_now}
use Rattle.fleet_rows.proofs.OperationLogs.{op_bodies, op_going, op_grown, ops_tell_nothing}
use Rattle.fleet_rows.proofs.LogRecords.{Grown}
use Rattle.fleet_rows.proofs.LoggedCalls.{logged_shows}
use Rattle.fleet_rows.proofs.OperationFronts.{noted_some, some_bodies, op_own, op_other, op_shape, op_rising, op_recorded, op_logged, op_ops}

module _ (s : FleetState) (v : Served s) (r : ℕ) (call : Call) (told : Reply) (is : answer s.machine r call ≡ Some told) (o : OpenReplica) (up : replica_at s.replicas r ≡ Open o) (l : Leading) (lead : o.leading ≡ Some l) (active : l.active ≡ true) (here : IsOpenOf s.machine r o) (p : IsPrimaryOf s.machine r o l) (lt : r < length s.machine.replicas) (t : TxnId) (named : txn_named call ≡ Some t) (x : Txn) (going : going_at s.machine r t ≡ Some x) (op : Op) (has_op : told.op ≡ Some op) where
  abbrev m : Machine
  m = s.machine

  abbrev now : Machine
  now = after_call s.machine r call told

  abbrev known : (y : Going) × (going_of o.front t ≡ Some y) × (y.ops ≡ ops_of x)
  known = primary.there s v r call told is o up l lead active here p lt t named x going

  abbrev ys : Items
  ys = in_epoch (epoch_of o.disk) (op_bodies (last_lsn o) t known.0 op)

  abbrev g : Fronted
  g = front.logged (front.called o.front (contents_of o) call) t (op_going (last_lsn o) t known.0 op).last

  live_told : live_reply o.front.grants (folded (contents_of o) known.0.ops) t call ≡ Some told
  live_told = primary.live_front s v r call told is o up l lead active here p lt t named x going

  told_op : option_and_then (λ (z : Reply). z.op) (front.told o.front (contents_of o) call) ≡ Some op
  told_op = ap (option_and_then (λ (z : Reply). z.op)) (told_live o.front (contents_of o) call t known.0 named known.1 ∙ live_told) ∙ has_op

  -- ---- the log

  leading_last : epoch_of o.disk ≡ l.epoch
  leading_last = ((v.sound.standing r o up).leads l lead).last

  own_epoch : t.epoch ≡ epoch_of o.disk
  own_epoch = is_epoch-true t.epoch o.front.epoch (found_live o.front t known.0 known.1).0 ∙ p.front_epoch ∙ sym leading_last

  log : IsLogOf s.machine o.disk
  log = v.logs r o.disk (subst (λ (z : FleetReplica). Contains (held_by z) o.disk) (sym up) (first_member o.disk []))

  grown : Grown o.disk.start o.disk.log (o.disk.log ++ ys) t (op_going (last_lsn o) t known.0 op)
  grown = op_grown o.disk.start o.disk.log t known.0 op log.rules own_epoch (p.logged.each t known.0 known.1)

  logged_is : (logged_call (last_lsn o) t known.0 call (reply o call) ≡ logged_op (last_lsn o) t known.0 (option_and_then (λ (z : Reply). z.op) (reply o call))) → logged_by o call ≡ op_bodies (last_lsn o) t known.0 op
  logged_is kind =
      primary.logged_named s v r call told is o up l lead active here p lt t named (Some known.0) known.1 ∙ kind
      ∙ ap (λ (k : Option Reply). logged_op (last_lsn o) t known.0 (option_and_then (λ (z : Reply). z.op) k)) (primary.replied_told s v r call told is o up l lead active here p lt)
      ∙ ap (λ (k : Option Op). logged_op (last_lsn o) t known.0 k) has_op

  module _ (kind : logged_call (last_lsn o) t known.0 call (reply o call) ≡ logged_op (last_lsn o) t known.0 (option_and_then (λ (z : Reply). z.op) (reply o call))) (asks : asking s.machine r call ≡ asking_locks s.machine r t call)
      (behind_is : front_behind o call ≡ steps_of.noted (length (logged_by o call)) call (record { 0 = (last_lsn o).0 + length (logged_by o call) }) (front.called o.front (contents_of o) call)) where
    bodies_are : logged_by o call ≡ op_bodies (last_lsn o) t known.0 op
    bodies_are = logged_is kind

    front_is : front_behind o call ≡ g
    front_is =
        behind_is
        ∙ ap (λ (bodies : List Record). steps_of.noted (length bodies) call (record { 0 = (last_lsn o).0 + length bodies }) (front.called o.front (contents_of o) call)) bodies_are
        ∙ noted_some (length (op_bodies (last_lsn o) t known.0 op)) call (op_going (last_lsn o) t known.0 op).last (front.called o.front (contents_of o) call) (some_bodies (last_lsn o) t known.0 op)
        ∙ ap (λ (k : Option TxnId). option_map_or (λ u. front.logged (front.called o.front (contents_of o) call) u (op_going (last_lsn o) t known.0 op).last) k (front.called o.front (contents_of o) call)) named

    -- ---- the machine

    abbrev gs : List Grant
    gs = taken (grants_of s.machine r) t (locks_at (seen s.machine r x) call)

    asked_is : asking s.machine r call ≡ put_grants s.machine r gs
    asked_is = asks ∙ ap (λ (k : Option Txn). option_map_or (λ z. put_grants s.machine r (taken (grants_of s.machine r) t (locks_at (seen s.machine r z) call))) k s.machine) going

    abbrev n : Machine
    n = put_txn (put_grants s.machine r gs) t (with_call x (note_of call told))

    now_is : now ≡ n
    now_is = noted_after s.machine r call told t named ∙ ap (λ (k : Machine). noted k t (note_of call told)) asked_is ∙ noted_at (put_grants s.machine r gs) t x (note_of call told) (primary.at s v r call told is o up l lead active here p lt t named x going).known

    changes : ChangesAt s.machine n r o.front g t
    changes =
        let at = primary.at s v r call told is o up l lead active here p lt t named x going in
        record {
          grants =
              subst (λ (ks : List Grant). Alike ks g.grants) (sym (ap (λ (z : Replica). z.grants) (granted_now s.machine r gs lt)))
              (subst (λ (h : Fronted). Alike gs h.grants) (sym (op_shape o.front (contents_of o) call t known.0 op (last_lsn o) named known.1 p.front.rising told_op)) (primary.alike_now s v r call told is o up l lead active here p lt t named x going));
          own =
              put_own (put_grants s.machine r gs) r t (with_call x (note_of call told)) ∙ live_one r (with_call x (note_of call told)) at.live at.home
              ∙ ap (λ (ops : List Op). Some ops) (op_ops x (note_of call told) op has_op ∙ ap (λ (ops : List Op). ops ++ op ∷ []) (sym known.2))
              ∙ sym (ap (λ (k : Option Going). option_map (λ (z : Going). z.ops) k) (op_own o.front (contents_of o) call t known.0 op (last_lsn o) named known.1 p.front.rising told_op));
          live = λ u other. put_other (put_grants s.machine r gs) r t u (with_call x (note_of call told)) other;
          going = λ u other. op_other o.front (contents_of o) call t known.0 op (last_lsn o) named known.1 p.front.rising told_op u other;
          rising = op_rising o.front (contents_of o) call t known.0 op (last_lsn o) named known.1 p.front.rising told_op;
          recorded = op_recorded o.front (contents_of o) call t known.0 op (last_lsn o) named known.1 p.front.rising told_op;
        }

    shape : g ≡ front.with_going t.n (op_going (last_lsn o) t known.0 op) (front.with_going t.n (record known.0 { ops = known.0.ops ++ op ∷ [] }) (record o.front { grants = taken o.front.grants t (locks_at (folded (contents_of o) known.0.ops) call) }))
    shape = op_shape o.front (contents_of o) call t known.0 op (last_lsn o) named known.1 p.front.rising told_op

    abbrev k : Machine
    k = put_grants s.machine r gs

    abbrev cut : Machine
    cut = closed k r

    cut_elsewhere : (q : ℕ) → (q ≡ r → ⊥) → Elsewhere q s.machine cut
    cut_elsewhere q apart = record {
      same = other_replica k q r (record (replica k r) { up = false; role = None; grants = [] }) apart ∙ other_replica s.machine q r (record (replica s.machine r) { grants = gs }) apart;
      orders = refl;
      stays = HomeStays-ended q r s.machine.txns apart;
    }

    cut_logs : KeepsLogs s.machine cut
    cut_logs = record {
      orders = refl;
      texts = λ commits text. (role_ends_keep_texts [] commits s.machine r).1 text;
      appointed = λ e was. was;
      surveyed = λ q e was. surveyed_put k r (record (replica k r) { up = false; role = None; grants = [] }) (λ e was. was) q e (surveyed_put s.machine r (record (replica s.machine r) { grants = gs }) (λ e was. was) q e was);
    }

    pub op_shows : (u : FleetState) (lines : List Observation) → Done s (Client r call) lines u → Shows s (Client r call) lines u
    op_shows u lines d =
        logged_shows s v r call told is o up l lead active here p lt (op_bodies (last_lsn o) t known.0 op) g bodies_are front_is grown.rules grown.commits grown.epoch (ops_tell_nothing (epoch_of o.disk) (last_lsn o) t known.0 op)
        (ap (λ (z : Machine). role_of z r) now_is ∙ ap (λ (z : Replica). z.role) (granted_now s.machine r gs lt))
        (subst (λ (z : Machine). IsFrontOf z r g) (sym now_is) (front_after s.machine n r o.front g t p.front changes))
        (op_logged o.front (contents_of o) call t known.0 op (last_lsn o) named known.1 p.front.rising told_op o.disk ys p.logged (own_epoch ∙ leading_last ∙ sym p.front_epoch) grown)
        (ap (λ (h : Fronted). h.begins) shape) (ap (λ (h : Fronted). h.epoch) shape)
        k asked_is (length-set s.machine.replicas r (record (replica s.machine r) { grants = gs })) cut_elsewhere cut_logs refl refl (ap (λ (z : Option Op). is_some z || (is_ok told.answer && ends_logged k call)) has_op) u lines d

-- ---- which calls log an operation

no_plain : {A : Type 0} (a : Answer) (told : Reply) (op : Op) → Some (plain a) ≡ Some told → told.op ≡ Some op → A
no_plain a told op same has = absurd (none-some op (ap (λ (z : Reply). z.op) (same_Some (plain a) told same) ∙ has))

active_shows : (s : FleetState) (v : Served s) (r : ℕ) (call : Call) (told : Reply) (is : answer s.machine r call ≡ Some told) (o : OpenReplica) (up : replica_at s.replicas r ≡ Open o) (l : Leading) (lead : o.leading ≡ Some l) (active : l.active ≡ true) (here : IsOpenOf s.machine r o) (p : IsPrimaryOf s.machine r o l)
    (lt : r < length s.machine.replicas) (op : Op) → told.op ≡ Some op → (u : FleetState) (lines : List Observation) → Done s (Client r call) lines u → Shows s (Client r call) lines u
active_shows s v r Begin told is o up l lead active here p lt op has u lines d = no_plain (answers.Txn (next_txn (role_of s.machine r))) told op (primary.served_told s v r Begin told is o up l lead active here p lt) has
active_shows s v r (Make t name kind) told is o up l lead active here p lt op has u lines d = by (going_at s.machine r t) refl
  where
    by : (k : Option Txn) → going_at s.machine r t ≡ k → Shows s (Client r (Make t name kind)) lines u
    by None e = no_plain (answers.Ended t) told op (primary.served_by s v r (Make t name kind) told is o up l lead active here p lt t refl None (primary.live_is s v r (Make t name kind) told is o up l lead active here p lt t refl None e)) has
    by (Some x) e = op_shows s v r (Make t name kind) told is o up l lead active here p lt t refl x e op has refl refl refl u lines d
active_shows s v r (OnKey t name key asked) told is o up l lead active here p lt op has u lines d = by (going_at s.machine r t) refl
  where
    by : (k : Option Txn) → going_at s.machine r t ≡ k → Shows s (Client r (OnKey t name key asked)) lines u
    by None e = no_plain (answers.Ended t) told op (primary.served_by s v r (OnKey t name key asked) told is o up l lead active here p lt t refl None (primary.live_is s v r (OnKey t name key asked) told is o up l lead active here p lt t refl None e)) has
    by (Some x) e = op_shows s v r (OnKey t name key asked) told is o up l lead active here p lt t refl x e op has refl refl refl u lines d
active_shows s v r (Commit t) told is o up l lead active here p lt op has u lines d = by (going_at s.machine r t) refl
  where
    by : (k : Option Txn) → going_at s.machine r t ≡ k → Shows s (Client r (Commit t)) lines u
    by None e = no_plain (answers.Ended t) told op (primary.served_by s v r (Commit t) told is o up l lead active here p lt t refl None (primary.live_is s v r (Commit t) told is o up l lead active here p lt t refl None e)) has
    by (Some x) e = absurd (none-some told (primary.served_by s v r (Commit t) told is o up l lead active here p lt t refl (Some x) (primary.live_is s v r (Commit t) told is o up l lead active here p lt t refl (Some x) e)))
active_shows s v r (Abort t) told is o up l lead active here p lt op has u lines d = by (going_at s.machine r t) refl
  where
    by : (k : Option Txn) → going_at s.machine r t ≡ k → Shows s (Client r (Abort t)) lines u
    by None e = no_plain (answers.Ended t) told op (primary.served_by s v r (Abort t) told is o up l lead active here p lt t refl None (primary.live_is s v r (Abort t) told is o up l lead active here p lt t refl None e)) has
    by (Some x) e = no_plain answers.Done told op (primary.served_by s v r (Abort t) told is o up l lead active here p lt t refl (Some x) (primary.live_is s v r (Abort t) told is o up l lead active here p lt t refl (Some x) e)) has

module _ (s : FleetState) (v : Served s) (r : ℕ) (call : Call) (told : Reply) (is : answer s.machine r call ≡ Some told) (op : Op) (has : told.op ≡ Some op) (u : FleetState) (lines : List Observation) (d : Done s (Client r call) lines u) where
  down_shows : (replica s.machine r).up ≡ false → Shows s (Client r call) lines u
  down_shows down = no_plain (answers.Down r) told op (sym (ap (λ (b : Bool). cond (not b) (Some (plain (answers.Down r))) (cond (not (is_active s.machine r)) (Some (plain (answers.NotActive r))) (served s.machine r call))) down) ∙ is) has

  idle_shows : (replica s.machine r).up ≡ true → is_active s.machine r ≡ false → Shows s (Client r call) lines u
  idle_shows up off =
      no_plain (answers.NotActive r) told op
      (sym (ap (λ (b : Bool). cond (not b) (Some (plain (answers.Down r))) (cond (not (is_active s.machine r)) (Some (plain (answers.NotActive r))) (served s.machine r call))) up ∙ ap (λ (b : Bool). cond (not b) (Some (plain (answers.NotActive r))) (served s.machine r call)) off)
      ∙ is)
      has

  led_shows : (o : OpenReplica) → replica_at s.replicas r ≡ Open o → IsOpenOf s.machine r o → (x : Option Leading) → o.leading ≡ x → replicas.is_active o ≡ true → MatchOption x (IsBystander s.machine r) (IsPrimaryOf s.machine r o) → Shows s (Client r call) lines u
  led_shows o up here None lead on role = absurd (false≢true (sym (ap (λ (x : Option Leading). option_map_or (λ (l : Leading). l.active) x false) lead) ∙ on))
  led_shows o up here (Some l) lead on role =
      active_shows s v r call told is o up l lead (sym (ap (λ (x : Option Leading). option_map_or (λ (l : Leading). l.active) x false) lead) ∙ on) here role (omega (arith, inside s.replicas r o up, v.nine, v.sound.nine)) op has u lines d

  any_shows : (x : FleetReplica) → replica_at s.replicas r ≡ x → Shows s (Client r call) lines u
  any_shows (Closed ws) down = let shut : IsClosedOf s.machine r = subst (λ (y : FleetReplica). IsReplicaOf s.machine r y) down (v.replicas r) in down_shows shut.down
  any_shows (Open o) up =
      let here = open_is_open s.machine r (replica_at s.replicas r) o up (v.replicas r) in
      elim (cases_Bool (replicas.is_active o)) [
        | inl on ↦ led_shows o up here o.leading refl on here.role
        | inr off ↦ idle_shows here.up (active_same s.machine r o here ∙ off)
      ]

pub operations_are_served : EventsKeepSound → OperationsAreServed
operations_are_served keep s t r call told op lines v is has went = by (goes_by s t (Client r call) lines v went)
  where
    by : AreServed s (Client r call) lines t ⊎ Done s (Client r call) lines t → AreServed s (Client r call) lines t
    by (inl refused) = refused
    by (inr d) = served_done keep s t (Client r call) lines tt v went d (any_shows s v r call told is op has t lines d (replica_at s.replicas r) refl)
