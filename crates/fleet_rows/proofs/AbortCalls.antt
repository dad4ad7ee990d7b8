-- An abort, whatever its transaction has logged.
use Rattle.std.proofs.Common.{◌≡◌, ◌∙◌, ℕ, ◌<◌, ◌≤◌, ◌==◌, ◌||◌, Bool, true, false, not, cond, ◌⊎◌, List, [], ◌∷◌, ◌++◌, length, Option, Some, None, MatchOption, refl, sym, ap, subst, inl, inr, arith}
use Rattle.std.specs.Prelude.{◌&&◌, Contains, is_some}
use Rattle.std.specs.Option.{option_map_or}
use Rattle.std.proofs.lemmas.Bool.{cases_Bool, cases_eq, false≢true, true≢false, eq-eqb}
use Rattle.std.proofs.lemmas.Option.{none-some, same_Some}
use Rattle.std.proofs.lemmas.List.{length-set}
use Rattle.rc_base.specs.declared.ids.TxnId.{TxnId}
use Rattle.rc_base.specs.Ids.{is_txn}
use Rattle.coll_model.specs.declared.op.Op.{Op}
use Rattle.key_locks.specs.Grants.{Grant}
use Rattle.log_records.specs.declared.record.Record.{Record}
use Rattle.txn_table.specs.Whole.{epoch_of}
use Rattle.events.specs.declared.event.Event.TheVariants.{Client}
use Rattle.events.specs.declared.call.Call.TheVariants.{Abort}
use Rattle.events.specs.declared.answer.Answer.{Answer}
use Rattle.events.specs.declared.answer.Answer.TheVariants as answers
use Rattle.events.specs.declared.answer.Reply.{Reply}
use Rattle.events.specs.Calls.{CallRecord}
use Rattle.events.specs.Answers.{plain, live_reply}
use Rattle.lock_laws.proofs.ProtectedCalls.{note_of}
use Rattle.order_machine.specs.declared.observation.Observation.{Observation}
use Rattle.order_machine.specs.Machine.{Machine, Replica, Txn, replica, put_txn, put_grants, txn_of, role_of, grants_of, live_txn, is_active, ops_of, closed}
use Rattle.order_machine.specs.Clients.{answer, served, seen, noted}
use Rattle.order_machine.specs.Transitions.{asking, going_at, logs, is_ok, ends_logged}
use Rattle.history_laws.specs.Laws.{after_call}
use Rattle.history_laws.proofs.CallCases.{with_call, LiveAt}
use Rattle.history_laws.proofs.Elsewhere.{Elsewhere, other_replica}
use Rattle.history_laws.proofs.QuietSuffixes.{HomeStays-ended}
use Rattle.history_laws.proofs.SettledSteps.{role_ends_keep_texts}
use Rattle.txn_front.specs.Front as front
use Rattle.txn_front.specs.Front.{Fronted, Going, going_of}
use Rattle.replica_model.specs.OpenReplica as replicas
use Rattle.replica_model.specs.OpenReplica.{OpenReplica, Leading, shown_commits, unshown_commits, contents_of, view_of, last_lsn}
use Rattle.replica_model.specs.Records.{logged_by}
use Rattle.fleet_laws.proofs.Puts.{first_member}
use Rattle.fleet_run.specs.Scenes.{FleetReplica, FleetState, replica_at, held_by}
use Rattle.fleet_run.specs.Scenes.FleetReplica.{Open, Closed}
use Rattle.fleet_run.proofs.Codes.{in_epoch}
use Rattle.fleet_rows.specs.Served.{Served, IsLogOf, IsReplicaOf, IsOpenOf, IsClosedOf, IsBystander, IsPrimaryOf, IsFrontOf, IsLoggedBy, IsKnownAs}
use Rattle.fleet_rows.specs.Laws.{AreServed}
use Rattle.fleet_rows.proofs.Keeping.{Done, Shows, KeepsLogs, goes_by}
use Rattle.fleet_rows.proofs.Serving.{served_done}
use Rattle.fleet_rows.proofs.RoleEnds.{surveyed_put}
use Rattle.fleet_rows.proofs.QuietSteps.{open_is_open, inside}
use Rattle.fleet_rows.proofs.QuietCalls.{active_same}
use Rattle.fleet_rows.proofs.PrimaryCalls as primary
use Rattle.fleet_rows.proofs.PrimaryCalls.{noted_after, noted_at, granted_now}
use Rattle.std.specs.Map.{remove_entry}
use Rattle.std.specs.BTreeMap.{is_at}
use Rattle.std.specs.Ordering.{nat_cmp}
use Rattle.key_locks.specs.Grants.{released}
use Rattle.rc_base.proofs.SameIds.{is_txn_same, is_txn-true}
use Rattle.log_records.specs.declared.record.Record.TheVariants.{End}
use Rattle.history_laws.proofs.QuietSuffixes.{HomeStays-elsewhere, HomeStays-trans}
use Rattle.history_laws.proofs.SettledSteps.{settled_live}
use Rattle.history_laws.proofs.TextSteps.{IsText-settled}
use Rattle.history_laws.proofs.CallCases.{aborted}
use Rattle.fleet_run.specs.Laws.{EventsKeepSound}
use Rattle.fleet_run.specs.Plans.{GoesBy}
use Rattle.fleet_rows.specs.Laws.{AbortsAreServed}
use Rattle.fleet_rows.proofs.LogRecords.{Ended, abort_ended}
use Rattle.fleet_rows.proofs.FrontSteps.{abort_changes, abort_logged, ended_none}
use Rattle.fleet_rows.proofs.LoggedCalls.{logged_shows}
use Rattle.fleet_rows.proofs.CallLaws.{quiet_calls_are_served}

not_empty : (b : Bool) → not b ≡ true → b ≡ false
not_empty true e = absurd (true≢false (sym e))
not_empty false e = refl

module _ (s : FleetState) (v : Served s) (r : ℕ) (t : TxnId) (told : Reply) (is : answer s.machine r (Abort t) ≡ Some told) (o : OpenReplica) (up : replica_at s.replicas r ≡ Open o) (l : Leading) (lead : o.leading ≡ Some l) (active : l.active ≡ true) (here : IsOpenOf s.machine r o) (p : IsPrimaryOf s.machine r o l) (lt : r < length s.machine.replicas) (x : Txn) (going : going_at s.machine r t ≡ Some x) (logged : logs s.machine (Abort t) (Some told) ≡ true) where
  abbrev m : Machine
  m = s.machine

  abbrev known : (y : Going) × (going_of o.front t ≡ Some y) × (y.ops ≡ ops_of x)
  known = primary.there s v r (Abort t) told is o up l lead active here p lt t refl x going

  abbrev gone : List Grant
  gone = released (grants_of s.machine r) t

  abbrev k : Machine
  k = put_txn (put_grants s.machine r gone) t (aborted x)

  abbrev c : CallRecord
  c = note_of (Abort t) told

  abbrev n : Machine
  n = put_txn k t (with_call (aborted x) c)

  done : plain answers.Done ≡ told
  done = same_Some (plain answers.Done) told (primary.served_by s v r (Abort t) told is o up l lead active here p lt t refl (Some x) (primary.live_is s v r (Abort t) told is o up l lead active here p lt t refl (Some x) going))

  at : LiveAt s.machine r t x
  at = primary.at s v r (Abort t) told is o up l lead active here p lt t refl x going

  many : not (length (ops_of x) == 0) ≡ true
  many =
      sym (ap (λ (z : Option Txn). option_map_or (λ (w : Txn). not (length (ops_of w) == 0)) z false) at.known)
      ∙ ap (λ (z : Reply). is_some z.op || (is_ok z.answer && ends_logged s.machine (Abort t))) done ∙ logged

  has_record : (known.0.last.0 == 0) ≡ false
  has_record = p.front.recorded t known.0 known.1 ∙ ap (λ (ops : List Op). length ops == 0) known.2 ∙ not_empty (length (ops_of x) == 0) many

  some_record : 1 ≤ known.0.last.0
  some_record = elim (cases_eq known.0.last.0 0) [
    | inl none ↦ absurd (true≢false (sym (eq-eqb known.0.last.0 0 none) ∙ has_record))
    | inr some ↦ omega (arith, some)
  ]

  abbrev bodies : List Record
  bodies = End t known.0.last false ∷ []

  bodies_are : logged_by o (Abort t) ≡ bodies
  bodies_are = primary.logged_named s v r (Abort t) told is o up l lead active here p lt t refl (Some known.0) known.1 ∙ ap (λ (b : Bool). cond b [] (End t known.0.last false ∷ [])) has_record

  log : IsLogOf s.machine o.disk
  log = v.logs r o.disk (subst (λ (z : FleetReplica). Contains (held_by z) o.disk) (sym up) (first_member o.disk []))

  longer : Ended o.disk.start o.disk.log (o.disk.log ++ in_epoch (epoch_of o.disk) bodies) t
  longer = abort_ended o.disk.start o.disk.log t known.0 log.rules (p.logged.each t known.0 known.1) some_record

  known_now : txn_of k t ≡ Some (aborted x)
  known_now = ap (λ (b : Bool). cond b (Some (aborted x)) (txn_of s.machine t)) (is_txn_same t)

  asked_is : asking s.machine r (Abort t) ≡ k
  asked_is = ap (λ (z : Option Txn). option_map_or (λ w. put_txn (put_grants s.machine r gone) t (record w { live = false })) z s.machine) going

  now_is : after_call s.machine r (Abort t) told ≡ n
  now_is = noted_after s.machine r (Abort t) told t refl ∙ ap (λ (z : Machine). noted z t c) asked_is ∙ noted_at k t (aborted x) c known_now

  shape : front.ended o.front t ≡ record o.front { live = remove_entry (is_at (nat_cmp t.n)) o.front.live; grants = released o.front.grants t }
  shape = ap (λ (z : Option Going). option_map_or (λ (w : Going). record o.front { live = remove_entry (is_at (nat_cmp t.n)) o.front.live; grants = released o.front.grants t }) z o.front) known.1

  fronts : IsFrontOf (after_call s.machine r (Abort t) told) r (front.ended o.front t)
  fronts = subst (λ (z : Machine). IsFrontOf z r (front.ended o.front t)) (sym now_is) (abort_changes s.machine r o.front t x known.0 c p.front known.1 (ap (λ (z : Replica). z.grants) (granted_now s.machine r gone lt)))

  logged_now : IsLoggedBy (record o.disk { log = o.disk.log ++ in_epoch (epoch_of o.disk) bodies }) (front.ended o.front t)
  logged_now =
      let a = abort_logged o.disk o.front t known.0 p.front.rising known.1 p.logged in
      let none = ended_none o.front t known.0 p.front.rising known.1 in
      let begins : (front.ended o.front t).begins ≡ o.front.begins = ap (λ (h : Fronted). h.begins) shape in
      let counted = p.logged.begun t known.0 known.1 in
      record {
        begun = a.begun;
        each = λ u z there. elim (cases_Bool (is_txn t u)) [
          | inl same ↦ absurd (none-some z (sym none ∙ ap (going_of (front.ended o.front t)) (is_txn-true t u same) ∙ there))
          | inr other ↦ subst (IsKnownAs z) (sym (longer.others u other)) (a.each u z there)
        ];
        counted = λ u z there of. elim (cases_Bool (is_txn t u)) [
          | inl same ↦ let i : t.n ≡ u.n = ap (λ (j : TxnId). j.n) (is_txn-true t u same) in omega (arith, i, begins, counted)
          | inr other ↦ a.counted u z (sym (longer.others u other) ∙ there) of
        ];
      }

  cut_elsewhere : (q : ℕ) → (q ≡ r → ⊥) → Elsewhere q s.machine (closed k r)
  cut_elsewhere q apart = record {
    same = other_replica k q r (record (replica k r) { up = false; role = None; grants = [] }) apart ∙ other_replica s.machine q r (record (replica s.machine r) { grants = gone }) apart;
    orders = refl;
    stays = HomeStays-trans q s.machine.txns k.txns (closed k r).txns (HomeStays-elsewhere q r s.machine.txns t (aborted x) apart (λ y there. ap (λ (w : Txn). w.home) (same_Some y x (sym there ∙ at.known)) ∙ at.home) at.home) (HomeStays-ended q r k.txns apart);
  }

  cut_logs : KeepsLogs s.machine (closed k r)
  cut_logs = record {
    orders = refl;
    texts = λ commits text. (role_ends_keep_texts [] commits k r).1 (IsText-settled s.machine.txns k.txns (settled_live s.machine.txns t x (aborted x) at.known at.live) [] commits text);
    appointed = λ e was. was;
    surveyed = λ q e was. surveyed_put k r (record (replica k r) { up = false; role = None; grants = [] }) (λ e was. was) q e (surveyed_put s.machine r (record (replica s.machine r) { grants = gone }) (λ e was. was) q e was);
  }

  logs_there : logs k (Abort t) (Some told) ≡ true
  logs_there =
      ap (λ (z : Reply). is_some z.op || (is_ok z.answer && ends_logged k (Abort t))) (sym done)
      ∙ ap (λ (z : Option Txn). option_map_or (λ (w : Txn). not (length (ops_of w) == 0)) z false) known_now ∙ many

  pub abort_shows : (u : FleetState) (lines : List Observation) → Done s (Client r (Abort t)) lines u → Shows s (Client r (Abort t)) lines u
  abort_shows u lines d =
      logged_shows s v r (Abort t) told is o up l lead active here p lt bodies (front.ended o.front t) bodies_are refl longer.rules longer.commits longer.epoch (λ j. omega arith)
      (ap (λ (z : Machine). role_of z r) now_is ∙ ap (λ (z : Replica). z.role) (granted_now s.machine r gone lt)) fronts logged_now (ap (λ (h : Fronted). h.begins) shape) (ap (λ (h : Fronted). h.epoch) shape)
      k asked_is (length-set s.machine.replicas r (record (replica s.machine r) { grants = gone })) cut_elsewhere cut_logs refl refl logs_there u lines d

-- ---- the law

quiet_told : (told : Reply) (a : Answer) (m : Machine) (t : TxnId) → plain a ≡ told → is_ok a ≡ false → logs m (Abort t) (Some told) ≡ false
quiet_told told a m t same off = sym (ap (λ (z : Reply). is_some z.op || (is_ok z.answer && ends_logged m (Abort t))) same) ∙ ap (λ (b : Bool). b && ends_logged m (Abort t)) off

module _ (s : FleetState) (v : Served s) (r : ℕ) (t : TxnId) (told : Reply) (is : answer s.machine r (Abort t) ≡ Some told) (logged : logs s.machine (Abort t) (Some told) ≡ true) (u : FleetState) (lines : List Observation) (d : Done s (Client r (Abort t)) lines u) where
  quiet_no : {A : Type 0} (a : Answer) → plain a ≡ told → is_ok a ≡ false → A
  quiet_no a same off = absurd (true≢false (sym logged ∙ quiet_told told a s.machine t same off))

  led_shows : (o : OpenReplica) → replica_at s.replicas r ≡ Open o → IsOpenOf s.machine r o → (x : Option Leading) → o.leading ≡ x → replicas.is_active o ≡ true → MatchOption x (IsBystander s.machine r) (IsPrimaryOf s.machine r o) → Shows s (Client r (Abort t)) lines u
  led_shows o up here None lead on role = absurd (false≢true (sym (ap (λ (x : Option Leading). option_map_or (λ (l : Leading). l.active) x false) lead) ∙ on))
  led_shows o up here (Some l) lead on role = by (going_at s.machine r t) refl
    where
      active : l.active ≡ true
      active = sym (ap (λ (x : Option Leading). option_map_or (λ (l : Leading). l.active) x false) lead) ∙ on

      lt : r < length s.machine.replicas
      lt = omega (arith, inside s.replicas r o up, v.nine, v.sound.nine)

      by : (k : Option Txn) → going_at s.machine r t ≡ k → Shows s (Client r (Abort t)) lines u
      by None e = quiet_no (answers.Ended t) (same_Some (plain (answers.Ended t)) told (primary.served_by s v r (Abort t) told is o up l lead active here role lt t refl None (primary.live_is s v r (Abort t) told is o up l lead active here role lt t refl None e))) refl
      by (Some x) e = abort_shows s v r t told is o up l lead active here role lt x e logged u lines d

  any_shows : (x : FleetReplica) → replica_at s.replicas r ≡ x → Shows s (Client r (Abort t)) lines u
  any_shows (Closed ws) down =
      let shut : IsClosedOf s.machine r = subst (λ (y : FleetReplica). IsReplicaOf s.machine r y) down (v.replicas r) in
      quiet_no (answers.Down r) (same_Some (plain (answers.Down r)) told (sym (ap (λ (b : Bool). cond (not b) (Some (plain (answers.Down r))) (cond (not (is_active s.machine r)) (Some (plain (answers.NotActive r))) (served s.machine r (Abort t)))) shut.down) ∙ is)) refl
  any_shows (Open o) up =
      let here = open_is_open s.machine r (replica_at s.replicas r) o up (v.replicas r) in
      elim (cases_Bool (replicas.is_active o)) [
        | inl on ↦ led_shows o up here o.leading refl on here.role
        | inr off ↦
            quiet_no (answers.NotActive r)
            (same_Some (plain (answers.NotActive r)) told
            (sym (ap (λ (b : Bool). cond (not b) (Some (plain (answers.Down r))) (cond (not (is_active s.machine r)) (Some (plain (answers.NotActive r))) (served s.machine r (Abort t)))) here.up
            ∙ ap (λ (b : Bool). cond (not b) (Some (plain (answers.NotActive r))) (served s.machine r (Abort t))) (active_same s.machine r o here ∙ off))
            ∙ is))
            refl
      ]

-- each abort is answered
answered_abort : (m : Machine) (r : ℕ) (t : TxnId) → answer m r (Abort t) ≡ None → ⊥
answered_abort m r t = by (replica m r).up (is_active m r) (live_txn m r t)
  where
    by : (up on : Bool) (x : Option Txn) → cond (not up) (Some (plain (answers.Down r))) (cond (not on) (Some (plain (answers.NotActive r))) (option_map_or (λ y. live_reply (grants_of m r) (seen m r y) t (Abort t)) x (Some (plain (answers.Ended t))))) ≡ None → ⊥
    by false on x e = none-some (plain (answers.Down r)) (sym e)
    by true false x e = none-some (plain (answers.NotActive r)) (sym e)
    by true true None e = none-some (plain (answers.Ended t)) (sym e)
    by true true (Some y) e = none-some (plain answers.Done) (sym e)

aborts_by : EventsKeepSound → (s t : FleetState) (r : ℕ) (txn : TxnId) (lines : List Observation) → Served s → GoesBy s (Client r (Abort txn)) lines t → (o : Option Reply) → answer s.machine r (Abort txn) ≡ o → (b : Bool) → logs s.machine (Abort txn) o ≡ b → AreServed s (Client r (Abort txn)) lines t
aborts_by keep s t r txn lines v went o is false quiet = quiet_calls_are_served keep s t r (Abort txn) lines v (ap (logs s.machine (Abort txn)) is ∙ quiet) went
aborts_by keep s t r txn lines v went (Some told) is true logged = by (goes_by s t (Client r (Abort txn)) lines v went)
  where
    by : AreServed s (Client r (Abort txn)) lines t ⊎ Done s (Client r (Abort txn)) lines t → AreServed s (Client r (Abort txn)) lines t
    by (inl refused) = refused
    by (inr d) = served_done keep s t (Client r (Abort txn)) lines tt v went d (any_shows s v r txn told is logged t lines d (replica_at s.replicas r) refl)
aborts_by keep s t r txn lines v went None is true logged = absurd (answered_abort s.machine r txn is)

pub aborts_are_served : EventsKeepSound → AbortsAreServed
aborts_are_served keep s t r txn lines v went = aborts_by keep s t r txn lines v went (answer s.machine r (Abort txn)) refl (logs s.machine (Abort txn) (answer s.machine r (Abort txn))) refl
