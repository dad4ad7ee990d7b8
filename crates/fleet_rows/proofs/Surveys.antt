-- A survey raises the fence of a replica, ends its role, and tells how far its log reaches; or it is ignored.
use Rattle.std.proofs.Common.{◌≡◌, ◌∙◌, ℕ, zero, suc, ◌+◌, ◌<◌, true, false, Bool, cond, ◌⊎◌, List, [], ◌∷◌, length, set, get_or, Option, Some, None, refl, sym, ap, subst, inl, inr, arith}
use Rattle.std.specs.Prelude.{Contains, is_some, find}
use Rattle.std.specs.List.{list_any, list_all}
use Rattle.std.proofs.lemmas.Bool.{cases_Bool, false≢true, and_parts, or_left, or_right}
use Rattle.std.proofs.lemmas.Bool.Decides.{nat_tests}
use Rattle.std.proofs.lemmas.Option.{none-some}
use Rattle.std.proofs.lemmas.List.{length-set, get_or-set_same}
use Rattle.rc_base.specs.declared.ids.Epoch.{Epoch}
use Rattle.rc_base.specs.Ids.{no_epoch, is_epoch, epoch_lt}
use Rattle.rc_base.proofs.SameIds.{is_epoch-true, is_epoch_same}
use Rattle.txn_table.specs.declared.base.Base.{Base}
use Rattle.txn_table.specs.Log.{Items, no_base, last_epoch_from}
use Rattle.txn_table.specs.Whole.{Whole, epoch_of, last_position}
use Rattle.txn_front.specs.Front.{nothing}
use Rattle.events.specs.declared.event.Event.TheVariants.{Survey}
use Rattle.events.specs.declared.answer.Answer.{Answer}
use Rattle.events.specs.declared.answer.Answer.TheVariants as answers
use Rattle.order_machine.specs.declared.observation.Observation.{Observation}
use Rattle.order_machine.specs.declared.observation.Observation.TheVariants as says
use Rattle.order_machine.specs.Order.{Entry, empty_order, first_of}
use Rattle.coll_model.specs.Effect.{State}
use Rattle.key_locks.specs.Grants.{Grant}
use Rattle.order_machine.specs.Machine.{Machine, Role, Replica, Appointment, never_opened, replica, role_of, closed, without_role, is_booted}
use Rattle.order_machine.specs.Transitions.{opened, is_told, is_above_all, with_survey, IsProgress, surveyed, failed}
use Rattle.order_machine.specs.Legal.{IsServed, behind}
use Rattle.history_laws.specs.LockGuards.{IdleReplica}
use Rattle.history_laws.proofs.Elsewhere.{Elsewhere, other_replica}
use Rattle.history_laws.proofs.QuietSuffixes.{HomeStays-ended}
use Rattle.history_laws.proofs.IdleSteps.{ended_roles_are_idle}
use Rattle.history_laws.proofs.SettledSteps.{role_ends_keep_texts}
use Rattle.replica_model.specs.declared.step.StepEvent.TheVariants as steps
use Rattle.replica_model.specs.OpenReplica.{OpenReplica, last_lsn, view_of}
use Rattle.replica_model.specs.Quorums.{looked}
use Rattle.replica_model.specs.Records.{step_block, appended}
use Rattle.replica_model.specs.Steps.{written, cut_off, survey_answer}
use Rattle.fleet_laws.proofs.Puts.{only_member, first_member}
use Rattle.fleet_run.specs.Scenes.{FleetReplica, FleetState, replica_at, held_by, empty_whole}
use Rattle.fleet_run.specs.Scenes.FleetReplica.{Open, Closed}
use Rattle.fleet_run.specs.Acts.{answer_lines}
use Rattle.fleet_run.specs.Acts.Act.{Takes}
use Rattle.fleet_run.specs.Plans.{plan}
use Rattle.fleet_run.proofs.Surveying.{fenced, disk_is}
use Rattle.fleet_rows.specs.Served.{Served, IsLogOf, IsReplicaOf, IsOpenOf, IsClosedOf, is_appointed, is_surveyed}
use Rattle.fleet_run.specs.Laws.{EventsKeepSound}
use Rattle.fleet_rows.specs.Laws.{SurveysAreServed}
use Rattle.fleet_rows.proofs.Keeping.{Done, Shows, KeepsLogs, log_kept, logs_after, replica_elsewhere, at_each_in}
use Rattle.fleet_rows.proofs.Serving.{serves, shows_as, holds_there}
use Rattle.fleet_rows.proofs.RoleEnds.{holds_without, surveyed_put, closed_elsewhere, closed_logs, closed_no_role}
use Rattle.fleet_rows.proofs.QuietSteps.{quiet_from, IsQuiet, one_step, open_is_open, inside}
use Rattle.fleet_rows.proofs.Inspections.{same_shows}

-- ---- what the machine knows of epochs

any_at : {X : Type 0} (p : X → Bool) (xs : List X) (k : ℕ) (d : X) → p d ≡ false → p (get_or xs k d) ≡ true → list_any p xs ≡ true
any_at p [] k d none is = absurd (false≢true (sym none ∙ is))
any_at p (x ∷ xs) zero d none is = or_left (p x) (list_any p xs) is
any_at p (x ∷ xs) (suc k) d none is = or_right (p x) (list_any p xs) (any_at p xs k d none is)

above_no_epoch : (e : Epoch) → epoch_lt e no_epoch ≡ true → ⊥
above_no_epoch e lt = grind (arith, nat_tests)

-- a fence above an epoch is told
told_there : (m : Machine) (e fence : Epoch) → epoch_lt e fence ≡ true → (fence ≡ no_epoch) ⊎ ((is_appointed m fence ≡ true) ⊎ ((r : ℕ) × (is_surveyed m r fence ≡ true))) → is_told m fence ≡ true
told_there m e fence lt (inl none) = absurd (above_no_epoch e (subst (λ (x : Epoch). epoch_lt e x ≡ true) none lt))
told_there m e fence lt (inr (inl appointed)) = or_left (is_appointed m fence) (list_any (λ r. list_any (λ s. is_epoch fence s.epoch) r.surveys) m.replicas) appointed
told_there m e fence lt (inr (inr came)) =
    or_right (is_appointed m fence) (list_any (λ r. list_any (λ s. is_epoch fence s.epoch) r.surveys) m.replicas)
    (any_at (λ (r : Replica). list_any (λ s. is_epoch fence s.epoch) r.surveys) m.replicas came.0 never_opened refl came.1)

-- an appointed epoch is below one that is above all
appointed_below : (e x : Epoch) (ones : List Appointment) → list_all (λ a. epoch_lt a.epoch e) ones ≡ true → is_some (find (λ a. is_epoch x a.epoch) ones) ≡ true → epoch_lt x e ≡ true
appointed_below e x [] above there = absurd (false≢true there)
appointed_below e x (a ∷ ones) above there =
    let parts = and_parts (epoch_lt a.epoch e) (list_all (λ b. epoch_lt b.epoch e) ones) above in
    elim (cases_Bool (is_epoch x a.epoch)) [
      | inl here ↦ subst (λ (y : Epoch). epoch_lt y e ≡ true) (sym (is_epoch-true x a.epoch here)) parts.0
      | inr other ↦ appointed_below e x ones parts.1 (sym (ap (λ (b : Bool). is_some (cond b (Some a) (find (λ b. is_epoch x b.epoch) ones))) other) ∙ there)
    ]

empty_progress : (m : Machine) (e : Epoch) (w : Whole) → w.start ≡ no_base → w.log ≡ [] → IsProgress m e (epoch_of w) (last_position w)
empty_progress m e w start none = inr (
  ap (λ (log : Items). last_epoch_from w.start log) none ∙ ap (λ (b : Base). last_epoch_from b []) start,
  ap (λ (log : Items). w.start.at.0 + length log) none ∙ ap (λ (b : Base). b.at.0 + 0) start,
)

progress_there : (m : Machine) (e : Epoch) (w : Whole) → w.start ≡ no_base → is_above_all m e ≡ true → (w.log ≡ []) ⊎ (is_appointed m (epoch_of w) ≡ true) → IsProgress m e (epoch_of w) (last_position w)
progress_there m e w start above (inl none) = empty_progress m e w start none
progress_there m e w start above (inr there) = inl (there, appointed_below e (epoch_of w) m.appointments above there)

-- a survey that isn't refused is of an epoch above all, at an open replica
above_there : (booted above up : Bool) (a : Answer) → cond booted (cond above (cond up None (Some a)) (Some (answers.Refused 1))) (Some (answers.Refused 9)) ≡ None → above ≡ true
above_there true true up a is = refl
above_there true false up a is = absurd (none-some (answers.Refused 1) (sym is))
above_there false above up a is = absurd (none-some (answers.Refused 9) (sym is))

-- ---- the machine behind a survey

abbrev told_of : Machine → ℕ → Epoch → Epoch → ℕ → Machine
told_of m r e last_epoch last = surveyed m (Survey r e) r last_epoch last

abbrev failed_of : Machine → ℕ → Epoch → Machine
failed_of m r e = failed m (Survey r e) r

-- what a survey leaves of a machine in which replica r has no role already
module _ (m m1 : Machine) (r : ℕ) (e : Epoch) (faulted : Bool) (lt : r < length m.replicas) (sizes : length m1.replicas ≡ length m.replicas) (elsewhere : (q : ℕ) → (q ≡ r → ⊥) → Elsewhere q m m1) (logs : KeepsLogs m m1) (none : role_of m1 r ≡ None) where
  abbrev more : Replica
  more = record (replica m1 r) { surveys = record { epoch = e; faulted = faulted } ∷ (replica m1 r).surveys }

  survey_there : replica (with_survey m1 r e faulted) r ≡ more
  survey_there = get_or-set_same m1.replicas r more never_opened (omega (arith, lt, sizes))

  survey_elsewhere : (q : ℕ) → (q ≡ r → ⊥) → Elsewhere q m (with_survey m1 r e faulted)
  survey_elsewhere q apart = let was = elsewhere q apart in record { same = other_replica m1 q r more apart ∙ was.same; orders = was.orders; stays = was.stays }

  survey_logs : KeepsLogs m (with_survey m1 r e faulted)
  survey_logs = record {
    orders = logs.orders;
    texts = logs.texts;
    appointed = logs.appointed;
    surveyed = λ q x was. surveyed_put m1 r more (λ y had. or_right (is_epoch y e) (list_any (λ s. is_epoch y s.epoch) (replica m1 r).surveys) had) q x (logs.surveyed q x was);
  }

  survey_no_role : role_of (with_survey m1 r e faulted) r ≡ None
  survey_no_role = ap (λ (x : Replica). x.role) survey_there ∙ none

  survey_known : is_surveyed (with_survey m1 r e faulted) r e ≡ true
  survey_known = ap (λ (x : Replica). list_any (λ s. is_epoch e s.epoch) x.surveys) survey_there ∙ or_left (is_epoch e e) (list_any (λ s. is_epoch e s.epoch) (replica m1 r).surveys) (is_epoch_same e)

  survey_idle : IdleReplica m1 r → IdleReplica (with_survey m1 r e faulted) r
  survey_idle idle = record { free = ap (λ (x : Replica). x.grants) survey_there ∙ idle.free; over = idle.over }

  -- a log under the fence of the survey
  survey_log : (w : Whole) → IsLogOf m w → IsLogOf (with_survey m1 r e faulted) (fenced w e)
  survey_log w is =
      let now = log_kept m (with_survey m1 r e faulted) w survey_logs is in
      record {
        rules = now.rules;
        text = now.text;
        shown = record { later = now.shown.later; entries = now.shown.entries; one = now.shown.one; is = now.shown.is };
        last = now.last;
        fence = elim (cases_Bool (epoch_lt w.fence e)) [
          | inl below ↦ inr (inr (r, subst (λ (x : Epoch). is_surveyed (with_survey m1 r e faulted) r x ≡ true) (sym (ap (λ (b : Bool). cond b e w.fence) below)) survey_known))
          | inr high ↦ subst (λ (x : Epoch). (x ≡ no_epoch) ⊎ ((is_appointed (with_survey m1 r e faulted) x ≡ true) ⊎ ((q : ℕ) × (is_surveyed (with_survey m1 r e faulted) q x ≡ true)))) (sym (ap (λ (b : Bool). cond b e w.fence) high)) now.fence
        ];
      }

-- the role of a replica ends
without_elsewhere : (m : Machine) (r q : ℕ) → (q ≡ r → ⊥) → Elsewhere q m (without_role m r)
without_elsewhere m r q apart = record { same = other_replica m q r (record (replica m r) { role = None; grants = [] }) apart; orders = refl; stays = HomeStays-ended q r m.txns apart }

without_logs : (m : Machine) (r : ℕ) → KeepsLogs m (without_role m r)
without_logs m r = record {
  orders = refl;
  texts = λ commits text. (role_ends_keep_texts [] commits m r).0 text;
  appointed = λ e is. is;
  surveyed = surveyed_put m r (record (replica m r) { role = None; grants = [] }) (λ e was. was);
}

without_there : (m : Machine) (r : ℕ) → r < length m.replicas → replica (without_role m r) r ≡ record (replica m r) { role = None; grants = [] }
without_there m r lt = get_or-set_same m.replicas r (record (replica m r) { role = None; grants = [] }) never_opened lt

closed_there : (m : Machine) (r : ℕ) → r < length m.replicas → replica (closed m r) r ≡ record (replica m r) { up = false; role = None; grants = [] }
closed_there m r lt = get_or-set_same m.replicas r (record (replica m r) { up = false; role = None; grants = [] }) never_opened lt

-- ---- the replica behind a survey

abbrev surveyed_open : OpenReplica → Epoch → OpenReplica
surveyed_open o e = record o { disk = fenced o.disk e; leading = None; front = nothing no_epoch }

abbrev with_fence : OpenReplica → Epoch → Whole → OpenReplica
with_fence o e w = record o { disk = w; leading = None; front = nothing no_epoch }

written_told : (o : OpenReplica) (e : Epoch) → epoch_lt e o.disk.fence ≡ false → written o (steps.Survey e) ≡ surveyed_open o e
written_told o e ge = ap (λ (b : Bool). cond b o (with_fence o e (appended o.disk (step_block o (steps.Survey e))))) ge ∙ ap (with_fence o e) (disk_is o e)

written_ignored : (o : OpenReplica) (e : Epoch) → epoch_lt e o.disk.fence ≡ true → written o (steps.Survey e) ≡ o
written_ignored o e lt = ap (λ (b : Bool). cond b o (with_fence o e (appended o.disk (step_block o (steps.Survey e))))) lt

survey_looks : (o : OpenReplica) (e : Epoch) → looked o ≡ o → looked (written o (steps.Survey e)) ≡ written o (steps.Survey e)
survey_looks o e settled = elim (cases_Bool (epoch_lt e o.disk.fence)) [
  | inl lt ↦ let same = written_ignored o e lt in ap looked same ∙ settled ∙ sym same
  | inr ge ↦ let same = written_told o e ge in ap looked same ∙ sym same
]

survey_quiet : (o : OpenReplica) (e : Epoch) → looked o ≡ o → IsQuiet o (steps.Survey e)
survey_quiet o e settled =
    quiet_from o (steps.Survey e) (survey_looks o e settled) (elim (cases_Bool (epoch_lt e o.disk.fence)) [
      | inl lt ↦ ap (λ (x : OpenReplica). view_of x) (written_ignored o e lt)
      | inr ge ↦ ap (λ (x : OpenReplica). view_of x) (written_told o e ge)
    ])

answer_told : (o : OpenReplica) (e : Epoch) → epoch_lt e o.disk.fence ≡ false → survey_answer o e ≡ answers.Progress o.id (epoch_of o.disk) (last_lsn o).0
answer_told o e ge = ap (λ (b : Bool). cond b (answers.IgnoredOldEpoch o.disk.fence e) (answers.Progress o.id (epoch_of o.disk) (last_lsn o).0)) ge

answer_ignored : (o : OpenReplica) (e : Epoch) → epoch_lt e o.disk.fence ≡ true → survey_answer o e ≡ answers.IgnoredOldEpoch o.disk.fence e
answer_ignored o e lt = ap (λ (b : Bool). cond b (answers.IgnoredOldEpoch o.disk.fence e) (answers.Progress o.id (epoch_of o.disk) (last_lsn o).0)) lt

pub two_members : (P : Whole → Type 0) (a b : Whole) → P a → P b → (w : Whole) → Contains (a ∷ b ∷ []) w → P w
two_members P a b x y w (zero, lt, is) = subst P is x
two_members P a b x y w (suc zero, lt, is) = subst P is y
two_members P a b x y w (suc (suc n), lt, is) = absurd (omega (arith, lt))

-- ---- a survey

plan_survey : (s : FleetState) (r : ℕ) (e : Epoch) → plan s (Survey r e) ≡ Takes r (steps.Survey e) [] ∷ []
unfolding plan
plan_survey s r e = refl

module _ (r : ℕ) (e : Epoch) (s : FleetState) (v : Served s) (o : OpenReplica) (up : replica_at s.replicas r ≡ Open o) where
  abbrev m : Machine
  m = s.machine

  lt : r < length s.machine.replicas
  lt = omega (arith, inside s.replicas r o up, v.nine, v.sound.nine)

  is : IsOpenOf s.machine r o
  is = open_is_open s.machine r (replica_at s.replicas r) o up (v.replicas r)

  log : IsLogOf s.machine o.disk
  log = v.logs r o.disk (subst (λ (x : FleetReplica). Contains (held_by x) o.disk) (sym up) (first_member o.disk []))

  start : o.disk.start ≡ no_base
  start = (v.sound.kept r o.disk (subst (λ (x : FleetReplica). Contains (held_by x) o.disk) (sym up) (first_member o.disk []))).start

  -- ---- it is ignored

  ignored_served : epoch_lt e o.disk.fence ≡ true → IsServed (opened s.machine (Survey r e)) (says.IgnoredOldEpoch o.disk.fence e ∷ [])
  ignored_served below = record {
    may = (record { named = refl; in_rank = refl; next = refl; goes_on = refl; row = (refl, below, told_there s.machine e o.disk.fence below log.fence, refl) }, tt);
    complete = record { opened = refl; grown = refl; mounted = refl; told = refl; answered = refl };
    holds = holds_there s.machine v.run;
  }

  -- ---- it is answered

  abbrev m1 : Machine
  m1 = without_role s.machine r

  sizes_without : length (without_role s.machine r).replicas ≡ length s.machine.replicas
  sizes_without = length-set s.machine.replicas r (record (replica s.machine r) { role = None; grants = [] })

  none_without : role_of (without_role s.machine r) r ≡ None
  none_without = ap (λ (x : Replica). x.role) (without_there s.machine r lt)

  abbrev now : Machine
  now = told_of s.machine r e (epoch_of o.disk) (last_lsn o).0

  told_there_is : replica now r ≡ record (replica (without_role s.machine r) r) { surveys = record { epoch = e; faulted = false } ∷ (replica (without_role s.machine r) r).surveys }
  told_there_is = survey_there s.machine (without_role s.machine r) r e false lt sizes_without (without_elsewhere s.machine r) (without_logs s.machine r) none_without

  told_replica : (A : Type 0) (F : Replica → A) → F (replica now r) ≡ F (record (record (replica s.machine r) { role = None; grants = [] }) { surveys = record { epoch = e; faulted = false } ∷ (replica s.machine r).surveys })
  told_replica A F = ap F told_there_is ∙ ap (λ (x : Replica). F (record x { surveys = record { epoch = e; faulted = false } ∷ x.surveys })) (without_there s.machine r lt)

  told_elsewhere : (q : ℕ) → (q ≡ r → ⊥) → Elsewhere q s.machine now
  told_elsewhere q apart =
      let x = survey_elsewhere s.machine (without_role s.machine r) r e false lt sizes_without (without_elsewhere s.machine r) (without_logs s.machine r) none_without q apart in
      record { same = x.same; orders = x.orders; stays = x.stays }

  told_logs : KeepsLogs s.machine now
  told_logs =
      let x = survey_logs s.machine (without_role s.machine r) r e false lt sizes_without (without_elsewhere s.machine r) (without_logs s.machine r) none_without in
      record { orders = x.orders; texts = x.texts; appointed = x.appointed; surveyed = x.surveyed }

  told_log : IsLogOf now (fenced o.disk e)
  told_log =
      let x = survey_log s.machine (without_role s.machine r) r e false lt sizes_without (without_elsewhere s.machine r) (without_logs s.machine r) none_without o.disk log in
      record { rules = x.rules; text = x.text; shown = record { later = x.shown.later; entries = x.shown.entries; one = x.shown.one; is = x.shown.is }; last = x.last; fence = x.fence }

  told_no_role : role_of now r ≡ None
  told_no_role = told_replica (Option Role) (λ x. x.role)

  told_open : IsOpenOf now r (surveyed_open o e)
  told_open = record {
    up = told_replica Bool (λ x. x.up) ∙ is.up;
    view = told_replica ℕ (λ x. x.show) ∙ is.view;
    shows = record {
      start_is = told_replica State (λ x. (get_or s.machine.orders x.loss empty_order).start) ∙ is.shows.start_is;
      entries = told_replica (List Entry) (λ x. first_of (get_or s.machine.orders x.loss empty_order) x.show) ∙ is.shows.entries;
    };
    role = record { no_role = told_no_role; idle = record { free = told_replica (List Grant) (λ x. x.grants); over = (ended_roles_are_idle s.machine r).0.over } };
  }

  told_served : is_above_all s.machine e ≡ true → IsServed (opened s.machine (Survey r e)) (says.Progress r (epoch_of o.disk) (last_lsn o).0 ∷ [])
  told_served above = record {
    may = (record { named = refl; in_rank = refl; next = refl; goes_on = refl; row = (refl, progress_there s.machine e o.disk start above log.last, refl) }, tt);
    complete = record { opened = refl; grown = refl; mounted = refl; told = refl; answered = refl };
    holds = holds_without s.machine now r told_elsewhere refl refl told_no_role (holds_there s.machine v.run);
  }

  told_shows : is_above_all s.machine e ≡ true → Shows s (Survey r e) (says.Progress r (epoch_of o.disk) (last_lsn o).0 ∷ []) (record { machine = now; replicas = set s.replicas r (Open (surveyed_open o e)) })
  told_shows above = record {
    served = told_served above;
    orders = refl;
    nine = length-set (without_role s.machine r).replicas r (record (replica (without_role s.machine r) r) { surveys = record { epoch = e; faulted = false } ∷ (replica (without_role s.machine r) r).surveys }) ∙ sizes_without ∙ v.nine;
    replicas = at_each_in (λ (q : ℕ) (y : FleetReplica). IsReplicaOf now q y) s.replicas r (Open (surveyed_open o e)) (Closed (empty_whole ∷ [])) (inside s.replicas r o up)
        (λ q apart. replica_elsewhere q s.machine now (replica_at s.replicas q) (told_elsewhere q apart) (v.replicas q)) told_open;
    logs = logs_after s.machine now s.replicas r (Open (surveyed_open o e)) told_logs v.logs (λ w there. subst (λ (y : Whole). IsLogOf now y) (sym (only_member (fenced o.disk e) w there)) told_log);
  }

  -- ---- the disk fails in it

  abbrev cut : Machine
  cut = failed_of s.machine r e

  sizes_closed : length (closed s.machine r).replicas ≡ length s.machine.replicas
  sizes_closed = length-set s.machine.replicas r (record (replica s.machine r) { up = false; role = None; grants = [] })

  cut_there_is : replica cut r ≡ record (replica (closed s.machine r) r) { surveys = record { epoch = e; faulted = true } ∷ (replica (closed s.machine r) r).surveys }
  cut_there_is = survey_there s.machine (closed s.machine r) r e true lt sizes_closed (closed_elsewhere s.machine r) (closed_logs s.machine r) (closed_no_role s.machine r)

  cut_replica : (A : Type 0) (F : Replica → A) → F (replica cut r) ≡ F (record (record (replica s.machine r) { up = false; role = None; grants = [] }) { surveys = record { epoch = e; faulted = true } ∷ (replica s.machine r).surveys })
  cut_replica A F = ap F cut_there_is ∙ ap (λ (x : Replica). F (record x { surveys = record { epoch = e; faulted = true } ∷ x.surveys })) (closed_there s.machine r lt)

  cut_elsewhere : (q : ℕ) → (q ≡ r → ⊥) → Elsewhere q s.machine cut
  cut_elsewhere = survey_elsewhere s.machine (closed s.machine r) r e true lt sizes_closed (closed_elsewhere s.machine r) (closed_logs s.machine r) (closed_no_role s.machine r)

  cut_logs : KeepsLogs s.machine cut
  cut_logs = survey_logs s.machine (closed s.machine r) r e true lt sizes_closed (closed_elsewhere s.machine r) (closed_logs s.machine r) (closed_no_role s.machine r)

  cut_log : IsLogOf cut (fenced o.disk e)
  cut_log = survey_log s.machine (closed s.machine r) r e true lt sizes_closed (closed_elsewhere s.machine r) (closed_logs s.machine r) (closed_no_role s.machine r) o.disk log

  cut_closed : IsClosedOf cut r
  cut_closed = record {
    down = cut_replica Bool (λ x. x.up);
    bystander = record { no_role = cut_replica (Option Role) (λ x. x.role); idle = record { free = cut_replica (List Grant) (λ x. x.grants); over = (ended_roles_are_idle s.machine r).1.over } };
  }

  cut_shows : Shows s (Survey r e) (says.Fault r ∷ []) (record { machine = cut; replicas = set s.replicas r (Closed (cut_off o (steps.Survey e))) })
  cut_shows = record {
    served = record {
      may = (record { named = refl; in_rank = refl; next = refl; goes_on = refl; row = inl (refl, refl, refl) }, tt);
      complete = record { opened = refl; grown = refl; mounted = refl; told = refl; answered = refl };
      holds = holds_without s.machine cut r cut_elsewhere refl refl (cut_replica (Option Role) (λ x. x.role)) (holds_there s.machine v.run);
    };
    orders = refl;
    nine = length-set (closed s.machine r).replicas r (record (replica (closed s.machine r) r) { surveys = record { epoch = e; faulted = true } ∷ (replica (closed s.machine r) r).surveys }) ∙ sizes_closed ∙ v.nine;
    replicas = at_each_in (λ (q : ℕ) (y : FleetReplica). IsReplicaOf cut q y) s.replicas r (Closed (cut_off o (steps.Survey e))) (Closed (empty_whole ∷ [])) (inside s.replicas r o up)
        (λ q apart. replica_elsewhere q s.machine cut (replica_at s.replicas q) (cut_elsewhere q apart) (v.replicas q)) cut_closed;
    logs = logs_after s.machine cut s.replicas r (Closed (cut_off o (steps.Survey e))) cut_logs v.logs
        (two_members (λ (w : Whole). IsLogOf cut w) o.disk (appended o.disk (step_block o (steps.Survey e))) (log_kept s.machine cut o.disk cut_logs log) (subst (λ (w : Whole). IsLogOf cut w) (sym (disk_is o e)) cut_log));
  }

-- ---- the law

survey_shows : (r : ℕ) (e : Epoch) (s t : FleetState) (lines : List Observation) → Served s → Done s (Survey r e) lines t → Shows s (Survey r e) lines t
survey_shows r e s t lines v d =
    let m = s.machine in
    let k = one_step s t (Survey r e) r (steps.Survey e) [] lines d (plan_survey s r e) refl (λ o up. survey_quiet o e (v.sound.standing r o up).settled) in
    let o = k.replica in
    let up = k.up in
    let above = above_there (is_booted m) (is_above_all m e) (replica m r).up (answers.Down r) d.free in
    let state : List Observation → OpenReplica → FleetState = λ (ls : List Observation) (x : OpenReplica). record { machine = (behind (opened m (Survey r e)) ls).machine; replicas = set s.replicas r (Open x) } in
    elim k.went [
      | inl fine ↦ elim (cases_Bool (epoch_lt e o.disk.fence)) [
        | inl lt ↦
            let line : answer_lines (Some (survey_answer o e)) ≡ says.IgnoredOldEpoch o.disk.fence e ∷ [] = ap (λ (a : Answer). answer_lines (Some a)) (answer_ignored o e lt) in
            shows_as s t (record { machine = m; replicas = set s.replicas r (Open o) }) (Survey r e) lines (says.IgnoredOldEpoch o.disk.fence e ∷ []) (fine.lines_are ∙ line)
            (fine.ends ∙ ap (state (answer_lines (Some (survey_answer o e)))) (survey_looks o e (v.sound.standing r o up).settled) ∙ ap (λ (ls : List Observation). state ls (written o (steps.Survey e))) line ∙ ap (state (says.IgnoredOldEpoch o.disk.fence e ∷ [])) (written_ignored o e lt))
            (same_shows s r o (Survey r e) (says.IgnoredOldEpoch o.disk.fence e ∷ []) v up (ignored_served r e s v o up lt))
        | inr ge ↦
            let own : List Observation = says.Progress r (epoch_of o.disk) (last_lsn o).0 ∷ [] in
            let line : answer_lines (Some (survey_answer o e)) ≡ own =
            ap (λ (a : Answer). answer_lines (Some a)) (answer_told o e ge) ∙ ap (λ (i : ℕ). says.Progress i (epoch_of o.disk) (last_lsn o).0 ∷ []) (v.sound.standing r o up).number in
            shows_as s t (state own (surveyed_open o e)) (Survey r e) lines own (fine.lines_are ∙ line)
            (fine.ends ∙ ap (state (answer_lines (Some (survey_answer o e)))) (survey_looks o e (v.sound.standing r o up).settled) ∙ ap (λ (ls : List Observation). state ls (written o (steps.Survey e))) line ∙ ap (state own) (written_told o e ge))
            (told_shows r e s v o up above)
      ]
      | inr failed ↦ shows_as s t (record { machine = failed_of m r e; replicas = set s.replicas r (Closed (cut_off o (steps.Survey e))) }) (Survey r e) lines (says.Fault r ∷ []) failed.lines_are failed.ends (cut_shows r e s v o up)
    ]

pub surveys_are_served : EventsKeepSound → SurveysAreServed
surveys_are_served keep r e spelled = serves keep (Survey r e) spelled (survey_shows r e)
