-- Inspections, surveys and refused calls have whole lines.
use Rattle.std.proofs.Common.{◌≡◌, ◌∙◌, ℕ, ◌+◌, ◌<◌, true, false, Bool, cond, not, ◌⊎◌, List, [], ◌∷◌, length, map, drop, set, get_or, refl, sym, ap, ap₂, subst, inl, inr, arith, Option, Some, None, is_some}
use Rattle.std.specs.Prelude.{Contains, is_none, ◌&&◌, ◌||◌, ◌==◌}
use Rattle.std.specs.List.{list_any}
use Rattle.std.proofs.lemmas.Bool.{cases_Bool, cases_lt, or_left, or_right}
use Rattle.std.proofs.lemmas.List.{append-nil, nil_from_length, length-map, get_or_past, set-set, set-get_or}
use Rattle.rc_base.specs.declared.ids.Epoch.{Epoch}
use Rattle.rc_base.specs.declared.ids.TxnId.{TxnId}
use Rattle.rc_base.specs.Ids.{no_epoch, is_epoch, epoch_lt}
use Rattle.log_records.specs.declared.record.Record.{Record}
use Rattle.txn_table.specs.declared.base.Base.{Base}
use Rattle.txn_table.specs.Log.{Items, no_base, last_epoch_from}
use Rattle.txn_table.specs.Whole.{Whole, stable_of, epoch_of}
use Rattle.txn_front.specs.Front.{nothing}
use Rattle.events.specs.declared.answer.Answer.TheVariants as answers
use Rattle.events.specs.declared.event.Event.TheVariants.{Inspect, Survey}
use Rattle.order_machine.specs.declared.observation.Observation.{Observation}
use Rattle.order_machine.specs.declared.observation.Observation.TheVariants as says
use Rattle.order_machine.specs.AnswerLines.{line_of_answer}
use Rattle.order_machine.specs.Contents.{rows_of}
use Rattle.order_machine.specs.Order.{Order, state_at}
use Rattle.order_machine.specs.Machine.{Machine, Survey as Noted, appointment_of, Replica, replica, order_of, closed, without_role, never_opened, is_booted}
use Rattle.order_machine.specs.Transitions.{Position, HoldsBehind, refusal, opened, after, with_survey, is_told, is_above_all, down_of, shown_rows, is_in_rank, is_boot, has_answer}
use Rattle.order_machine.specs.Legal.{IsServed, Lines, behind}
use Rattle.replica_model.specs.declared.step.StepEvent.TheVariants as steps
use Rattle.replica_model.specs.OpenReplica.{OpenReplica, view_of, contents_of, last_lsn}
use Rattle.replica_model.specs.Quorums.{looked}
use Rattle.replica_model.specs.Steps.{with_block, written, step_result, step_outcome, cut_off}
use Rattle.fleet_laws.specs.Fleets.{Fleet}
use Rattle.fleet_laws.proofs.Puts.{first_member, only_member, all_member}
use Rattle.fleet_run.proofs.Writing.{all_more, all_none}
use Rattle.fleet_run.specs.Scenes.{FleetReplica, replica_at, held_by, empty_whole}
use Rattle.fleet_run.specs.Scenes.FleetReplica.{Open, Closed}
use Rattle.fleet_run.specs.Acts.{lines_of_step}
use Rattle.fleet_run.specs.Kernel.{IsCoded, Term, term_of, code, entry_of, value_of, terms_of}
use Rattle.fleet_run.specs.Sound.{Sound}
use Rattle.fleet_run.specs.Rows.{BeginsOrder, AgreesOpen, AgreesAt, Agrees}
use Rattle.fleet_run.proofs.Acting.{closed_open, result_is, all_map}
use Rattle.fleet_run.proofs.Taking.{there_early}
use Rattle.fleet_run.proofs.Stepping.{IsThere}
use Rattle.fleet_run.proofs.Pending.{fewer_holds, one_fewer, asked_in, ended_asked}
use Rattle.fleet_run.proofs.Agreeing.{begins_contents, still_told, was_surveyed, any_at, agrees_order, agrees_open, agrees_set, agrees_same}
use Rattle.fleet_run.proofs.AsideEvents.{down_replica, open_begins, replaced_at}
use Rattle.fleet_run.proofs.Surveying.{fenced, disk_is, behind_is, term_below, latest_term}
use Rattle.fleet_run.proofs.Ruling.{booted_since, passes_else, some_refused, has_terms}
use Rattle.fleet_laws.specs.Epochs.{IsEpochBelow}
use Rattle.fleet_run.proofs.Activating.{term_found}
use Rattle.fleet_run.proofs.Codes.{below, less_code}
use Rattle.fleet_run.proofs.Looking.{whole_epoch}
use Rattle.fleet_run.proofs.Moved.{term_there, same_epoch}
use Rattle.fleet_run.proofs.Stepping.{kept_epoch, value_there}
use Rattle.fleet_laws.proofs.Runs.{reached_invariant}
use Rattle.fleet_run.proofs.AsideLines.{idle_lines, not_due}

-- ---- rows of an inspection

-- the collections are told one after another, and nothing else changes
told_rows : (p : Position) (xs : List (List (List ℕ))) → p.rows ≡ xs → p.rank ≡ 6 → p.opening ≡ None → p.growing ≡ false → p.faulted ≡ [] → Lines p (map says.Rows xs)
told_rows p [] rows rank opening growing faulted = tt
told_rows p (x ∷ xs) rows rank opening growing faulted = (
  record {
    named = refl;
    in_rank = ap (λ (n : ℕ). is_in_rank n (says.Rows x)) rank;
    next = ap₂ (λ (o : Option ℕ) (b : Bool). is_none o && not b) opening growing;
    goes_on = ap (λ (rs : List ℕ). is_boot p.event || (length rs == 0)) faulted ∙ or_right (is_boot p.event) true refl;
    row = (xs, rows);
  },
  told_rows (after p (says.Rows x)) xs (ap (drop 1) rows) refl opening growing faulted,
)

-- where the rows end
rows_end : (p : Position) (xs : List (List (List ℕ))) → p.rows ≡ xs → ((behind p (map says.Rows xs)).rows ≡ []) × ((behind p (map says.Rows xs)).machine ≡ p.machine) × ((behind p (map says.Rows xs)).opening ≡ p.opening) × ((behind p (map says.Rows xs)).growing ≡ p.growing) × ((behind p (map says.Rows xs)).mounts ≡ p.mounts) × ((behind p (map says.Rows xs)).answered ≡ p.answered) × ((behind p (map says.Rows xs)).event ≡ p.event)
rows_end p [] rows = (rows, refl, refl, refl, refl, refl, refl)
rows_end p (x ∷ xs) rows = rows_end (after p (says.Rows x)) xs (ap (drop 1) rows)

inspect_answered : (p : Position) (r : ℕ) → p.event ≡ Inspect r → p.answered ≡ true → has_answer p p.event ≡ true
inspect_answered p r event answered = ap (has_answer p) event ∙ or_left p.answered (not (length p.faulted == 0)) answered

never_below : (e : Epoch) → IsEpochBelow e.loss e.number 0 0 → ⊥
never_below e (inl lt) = omega (arith, lt)
never_below e (inr both) = omega (arith, both.1)

module _ (m : Machine) (replicas : List FleetReplica) (f : Fleet Record) (s : Sound m replicas f) (is : Agrees m replicas) (r : ℕ) (o : OpenReplica) (up : replica_at replicas r ≡ Open o) where
  there : IsThere f r o
  there = there_early m replicas f r o s up

  agrees : AgreesOpen (replica m r) is.order o
  agrees = agrees_open m m replicas is r o up

  inside : r < 9
  inside = elim (cases_lt r 9) [
    | inl within ↦ within
    | inr past ↦ closed_open (empty_whole ∷ []) o (sym (get_or_past replicas r (Closed (empty_whole ∷ [])) (omega (arith, past, s.nine))) ∙ up)
  ]

  -- a replica that is as it was
  same_there : set replicas r (Open o) ≡ replicas
  same_there = ap (set replicas r) (sym up) ∙ set-get_or replicas r (Closed (empty_whole ∷ []))

  -- ---- an inspection

  contents_shown : contents_of o ≡ state_at (order_of m r) (replica m r).show
  contents_shown =
      begins_contents is.order o.disk o.stable is.start there.kept.start agrees.begins
      ∙ ap₂ (λ (order : Order) (n : ℕ). state_at order n) (sym (agrees_order m m replicas is r)) (sym agrees.shows)

  abbrev asked : Position
  asked = opened m (Inspect r)

  pub inspect_served : IsServed (opened m (Inspect r)) (says.State r (length (rows_of (contents_of o))) ∷ map says.Rows (rows_of (contents_of o)))
  inspect_served =
      let rows : shown_rows (opened m (Inspect r)) r ≡ rows_of (contents_of o) = ap rows_of (sym contents_shown) in
      let p = after (opened m (Inspect r)) (says.State r (length (rows_of (contents_of o)))) in
      let end = rows_end p (rows_of (contents_of o)) rows in
      record {
        may = (
          record { named = refl; in_rank = refl; next = refl; goes_on = refl; row = (refl, sym (ap length rows), refl) },
          told_rows p (rows_of (contents_of o)) rows refl refl refl refl,
        );
        complete = record { opened = end.2; grown = end.3; mounted = end.4; told = end.0; answered = inspect_answered (behind p (map says.Rows (rows_of (contents_of o)))) r end.6 end.5 };
        holds = subst HoldsBehind (sym end.1) is.behind;
      }

  inspect_lines : lines_of_step m o steps.Inspect [] ≡ says.State o.id (length (rows_of (contents_of o))) ∷ map says.Rows (rows_of (contents_of o))
  inspect_lines = idle_lines m o steps.Inspect there.standing.settled refl [] ∙ append-nil _

  -- ---- a survey that changes nothing

  module _ (e : Epoch) (coded : IsCoded e) (none : refusal m (Survey r e) ≡ None) where
    since : (is_booted m ≡ true) × (is_above_all m e ≡ true)
    since =
        let x = booted_since m (cond (is_above_all m e) (down_of m r) (Some (answers.Refused 1))) none in (
          x.0,
          elim (passes_else (is_above_all m e) (down_of m r) (Some (answers.Refused 1)) x.1) [ inl above ↦ above.0 | inr low ↦ some_refused (answers.Refused 1) low.1 ],
        )

    ignored_lines : epoch_lt e o.disk.fence ≡ true → lines_of_step m o (steps.Survey e) [] ≡ says.IgnoredOldEpoch o.disk.fence e ∷ []
    ignored_lines lt =
        let same : written o (steps.Survey e) ≡ o = ap (λ (b : Bool). cond b o (record (with_block o (steps.Survey e)) { leading = None; front = nothing no_epoch })) lt in
        idle_lines m o (steps.Survey e) (ap looked same ∙ there.standing.settled ∙ sym same) (ap view_of same) []
        ∙ ap (λ (b : Bool). line_of_answer (cond b (answers.IgnoredOldEpoch o.disk.fence e) (answers.Progress o.id (epoch_of o.disk) (last_lsn o).0)) ∷ []) lt

    fence_told : epoch_lt e o.disk.fence ≡ true → is_told m o.disk.fence ≡ true
    fence_told lt = elim (is.fences r o.disk (subst (λ (x : FleetReplica). Contains (held_by x) o.disk) (sym up) (first_member o.disk []))) [
      | inr told ↦ told
      | inl zero_fence ↦ absurd (never_below e (below e no_epoch (subst (λ (x : Epoch). epoch_lt e x ≡ true) zero_fence lt)))
    ]

    pub ignored_served : epoch_lt e o.disk.fence ≡ true → IsServed (opened m (Survey r e)) (says.IgnoredOldEpoch o.disk.fence e ∷ [])
    ignored_served lt = record {
      may = (record { named = refl; in_rank = refl; next = refl; goes_on = refl; row = (refl, lt, fence_told lt, refl) }, tt);
      complete = record { opened = refl; grown = refl; mounted = refl; told = refl; answered = refl };
      holds = is.behind;
    }

    above_latest : f.latest < code e
    above_latest =
        let latest = latest_term m f s.matches.rule (has_terms m since.0) in
        let under = term_below m f e latest.0 s.matches.rule coded (all_map (λ (t : Term). epoch_lt t.epoch e) term_of m.appointments ∙ since.1) latest.1 in
        omega (arith, latest.2, under)

    -- ---- a survey that is answered

    abbrev surveyed_disk : Whole
    surveyed_disk = fenced o.disk e

    now_is : epoch_lt e o.disk.fence ≡ false → step_result o (steps.Survey e) ≡ record o { disk = fenced o.disk e; leading = None; front = nothing no_epoch }
    now_is ge = sym (result_is o (steps.Survey e)) ∙ behind_is f r o e there coded above_latest ge

    written_is : epoch_lt e o.disk.fence ≡ false → written o (steps.Survey e) ≡ record o { disk = fenced o.disk e; leading = None; front = nothing no_epoch }
    written_is ge = ap (λ (b : Bool). cond b o (record (with_block o (steps.Survey e)) { leading = None; front = nothing no_epoch })) ge ∙ ap (λ (w : Whole). let x : OpenReplica = record o { disk = w; leading = None; front = nothing no_epoch } in x) (disk_is o e)

    told_lines : epoch_lt e o.disk.fence ≡ false → lines_of_step m o (steps.Survey e) [] ≡ says.Progress o.id (epoch_of o.disk) (last_lsn o).0 ∷ []
    told_lines ge =
        idle_lines m o (steps.Survey e) (ap looked (written_is ge) ∙ sym (written_is ge)) (ap view_of (written_is ge)) []
        ∙ ap (λ (b : Bool). line_of_answer (cond b (answers.IgnoredOldEpoch o.disk.fence e) (answers.Progress o.id (epoch_of o.disk) (last_lsn o).0)) ∷ []) ge

    -- a replica's survey is noted, and its role has ended
    noted_holds : (k : Machine) (y : Replica) (b : Bool) → k.replicas ≡ set m.replicas r y → k.orders ≡ m.orders → k.acknowledged ≡ m.acknowledged → k.appointments ≡ m.appointments → ((q : ℕ) (t : TxnId) → asked_in k.txns q t ≡ asked_in m.txns q t) → y.role ≡ None
        → (replica k r ≡ y) × ((with_survey k r e b).replicas ≡ set m.replicas r (record (replica k r) { surveys = record { epoch = e; faulted = b } ∷ (replica k r).surveys })) × HoldsBehind (with_survey k r e b)
    noted_holds k y b replicas_k orders acknowledged appointments asks role =
        let at : replica k r ≡ y = ap (λ (rs : List Replica). get_or rs r never_opened) replicas_k ∙ replaced_at m replicas f s is r y inside in
        let new : Replica = record (replica k r) { surveys = record { epoch = e; faulted = b } ∷ (replica k r).surveys } in
        let all : (with_survey k r e b).replicas ≡ set m.replicas r new = ap (λ (rs : List Replica). set rs r new) replicas_k ∙ set-set m.replicas r y new in
        (at, all, fewer_holds m (with_survey k r e b) (one_fewer m (with_survey k r e b) r new (inl (ap (λ (z : Replica). z.role) at ∙ role)) all orders acknowledged appointments asks) is.behind)

    noted_agrees : (k : Machine) (y : Replica) (b : Bool) (x : FleetReplica) → k.replicas ≡ set m.replicas r y → k.orders ≡ m.orders → k.acknowledged ≡ m.acknowledged → k.appointments ≡ m.appointments → ((q : ℕ) (t : TxnId) → asked_in k.txns q t ≡ asked_in m.txns q t)
        → y.role ≡ None → y.loss ≡ 0 → y.surveys ≡ (replica m r).surveys → ((z : Replica) → z.up ≡ y.up → z.role ≡ y.role → z.show ≡ y.show → AgreesAt z is.order x) → ((w : Whole) → Contains (held_by x) w → (w.fence ≡ o.disk.fence) ⊎ (w.fence ≡ e))
        → Agrees (with_survey k r e b) (set replicas r x)
    noted_agrees k y b x replicas_k orders acknowledged appointments asks role loss surveys at fences =
        let h = noted_holds k y b replicas_k orders acknowledged appointments asks role in
        let new : Replica = record (replica k r) { surveys = record { epoch = e; faulted = b } ∷ (replica k r).surveys } in
        let n = with_survey k r e b in
        let own : was_surveyed e new ≡ true = or_left (is_epoch e e) (list_any (λ s. is_epoch e s.epoch) (replica k r).surveys) (same_epoch e) in
        let kept : (z : Epoch) → was_surveyed z (replica m r) ≡ true → was_surveyed z new ≡ true =
        λ z had. or_right (is_epoch z e) (list_any (λ s. is_epoch z s.epoch) (replica k r).surveys) (ap (λ (ss : List Noted). list_any (λ s. is_epoch z s.epoch) ss) (ap (λ (y : Replica). y.surveys) h.0 ∙ surveys) ∙ had) in
        let told_e : is_told n e ≡ true = or_right (is_some (appointment_of n e)) (list_any (was_surveyed e) n.replicas) (ap (list_any (was_surveyed e)) h.1 ∙ any_at (was_surveyed e) m.replicas r new (omega (arith, inside, is.nine)) own) in
        agrees_set m n replicas is r x new s.nine h.1 orders appointments (ap (λ (z : Replica). z.loss) h.0 ∙ loss)
        (λ within. at new (ap (λ (z : Replica). z.up) h.0) (ap (λ (z : Replica). z.role) h.0) (ap (λ (z : Replica). z.show) h.0)) kept
        (λ w within c. elim (fences w c) [
          | inr fence_e ↦ inr (ap (is_told n) fence_e ∙ told_e)
          | inl same ↦ elim (is.fences r o.disk (subst (λ (z : FleetReplica). Contains (held_by z) o.disk) (sym up) (first_member o.disk []))) [
            | inl zero_fence ↦ inl (same ∙ zero_fence)
            | inr told ↦ inr (ap (is_told n) same ∙ still_told m n r new o.disk.fence appointments h.1 (kept o.disk.fence) told)
          ]
        ])
        h.2

    fence_of : (fenced o.disk e).fence ≡ o.disk.fence ⊎ ((fenced o.disk e).fence ≡ e)
    fence_of = elim (cases_Bool (epoch_lt o.disk.fence e)) [
      | inl lt ↦ inr (ap (λ (b : Bool). cond b e o.disk.fence) lt)
      | inr ge ↦ inl (ap (λ (b : Bool). cond b e o.disk.fence) ge)
    ]

    abbrev ended_replica : Replica
    ended_replica = record (replica m r) { role = None; grants = [] }

    abbrev told_replica : OpenReplica
    told_replica = record o { disk = fenced o.disk e; leading = None; front = nothing no_epoch }

    -- how far the log reaches is what an appointed epoch has, or nothing
    progress_is : ((is_some (appointment_of m (epoch_of o.disk)) ≡ true) × (epoch_lt (epoch_of o.disk) e ≡ true)) ⊎ ((epoch_of o.disk ≡ no_epoch) × ((last_lsn o).0 ≡ 0))
    progress_is = elim (cases_lt 0 (length (map entry_of o.disk.log))) [
      | inr empty ↦
          let log : o.disk.log ≡ [] = nil_from_length o.disk.log (omega (arith, empty, length-map o.disk.log entry_of)) in
          inr (
            ap (λ (b : Base). last_epoch_from b o.disk.log) there.kept.start ∙ ap (λ (l : Items). last_epoch_from no_base l) log,
            ap (λ (b : Base). b.at.0 + length o.disk.log) there.kept.start ∙ ap (λ (l : Items). 0 + length l) log,
          )
      | inl some ↦
          let i = reached_invariant f s.reached in
          let c = (i.values r (value_of o.stable o.disk) (value_there f r o there)).canonical (length (map entry_of o.disk.log)) some (omega arith) in
          let coded_last = kept_epoch o.disk there.kept in
          let same : code (epoch_of o.disk) ≡ c.0 = whole_epoch o.disk there.kept.start ∙ c.1.is in
          let listed : list_any (λ (t : Term). is_epoch (epoch_of o.disk) t.epoch) (terms_of m) ≡ true = sym (s.matches.rule.appointed (epoch_of o.disk) coded_last) ∙ ap f.appointed same ∙ c.1.appointed in
          let found = term_found (epoch_of o.disk) m.appointments listed in
          let term = term_there (epoch_of o.disk) (terms_of m) listed in
          let less : code (epoch_of o.disk) < code e = omega (arith, ap code term.2, term_below m f e term.0 s.matches.rule coded (all_map (λ (t : Term). epoch_lt t.epoch e) term_of m.appointments ∙ since.1) term.1) in
          inl (ap is_some found.1, less_code (epoch_of o.disk) e coded_last coded less)
    ]

    abbrev after_told : Machine
    after_told = with_survey (without_role m r) r e false

    told_agrees_before : Agrees (with_survey (without_role m r) r e false) (set replicas r (Open told_replica))
    told_agrees_before =
        noted_agrees (without_role m r) ended_replica false (Open told_replica) refl refl refl refl (λ q t. ended_asked r q t m.txns) refl (is.losses r) refl
        (λ z up_z role_z show_z. record {
          up = up_z ∙ agrees.up;
          shows = show_z ∙ agrees.shows;
          begins = record { within = agrees.begins.within; entries = agrees.begins.entries };
          role = role_z;
        })
        (λ w c. elim fence_of [
          | inl same ↦ inl (ap (λ (u : Whole). u.fence) (only_member (fenced o.disk e) w c) ∙ same)
          | inr new ↦ inr (ap (λ (u : Whole). u.fence) (only_member (fenced o.disk e) w c) ∙ new)
        ])

    -- the lines of the replica's own number
    told_of : (k : ℕ) → k ≡ r → IsServed (opened m (Survey r e)) (says.Progress k (epoch_of o.disk) (last_lsn o).0 ∷ []) × Agrees (behind (opened m (Survey r e)) (says.Progress k (epoch_of o.disk) (last_lsn o).0 ∷ [])).machine (set replicas r (Open told_replica))
    told_of k own =
        let before = told_agrees_before in
        subst (λ (j : ℕ). IsServed (opened m (Survey r e)) (says.Progress j (epoch_of o.disk) (last_lsn o).0 ∷ []) × Agrees (behind (opened m (Survey r e)) (says.Progress j (epoch_of o.disk) (last_lsn o).0 ∷ [])).machine (set replicas r (Open told_replica))) (sym own) (
          record {
            may = (record { named = refl; in_rank = refl; next = refl; goes_on = refl; row = (refl, progress_is, refl) }, tt);
            complete = record { opened = refl; grown = refl; mounted = refl; told = refl; answered = refl };
            holds = record { not_shown = before.behind.not_shown; alone = before.behind.alone };
          },
          agrees_same after_told _ (set replicas r (Open told_replica)) before refl refl refl (record { not_shown = before.behind.not_shown; alone = before.behind.alone }),
        )

    -- ---- a survey in which the disk fails

    cut_is : cut_off o (steps.Survey e) ≡ o.disk ∷ fenced o.disk e ∷ []
    cut_is = ap (λ (w : Whole). o.disk ∷ w ∷ []) (disk_is o e)

    both_begin : (w : Whole) → Contains (o.disk ∷ fenced o.disk e ∷ []) w → BeginsOrder is.order w (stable_of w)
    both_begin w c =
        let b = open_begins m replicas f s is r o up in
        all_member (λ (u : Whole). BeginsOrder is.order u (stable_of u)) (o.disk ∷ fenced o.disk e ∷ []) w
        (all_more (λ (u : Whole). BeginsOrder is.order u (stable_of u)) o.disk (fenced o.disk e ∷ []) b
        (all_more (λ (u : Whole). BeginsOrder is.order u (stable_of u)) (fenced o.disk e) [] (record { within = b.within; entries = b.entries }) (all_none (λ (u : Whole). BeginsOrder is.order u (stable_of u))))) c

    both_fences : (w : Whole) → Contains (o.disk ∷ fenced o.disk e ∷ []) w → (w.fence ≡ o.disk.fence) ⊎ (w.fence ≡ e)
    both_fences w c =
        all_member (λ (u : Whole). (u.fence ≡ o.disk.fence) ⊎ (u.fence ≡ e)) (o.disk ∷ fenced o.disk e ∷ []) w
        (all_more (λ (u : Whole). (u.fence ≡ o.disk.fence) ⊎ (u.fence ≡ e)) o.disk (fenced o.disk e ∷ []) (inl refl)
        (all_more (λ (u : Whole). (u.fence ≡ o.disk.fence) ⊎ (u.fence ≡ e)) (fenced o.disk e) [] fence_of (all_none (λ (u : Whole). (u.fence ≡ o.disk.fence) ⊎ (u.fence ≡ e))))) c

    fault_agrees : Agrees (with_survey (closed m r) r e true) (set replicas r (Closed (cut_off o (steps.Survey e))))
    fault_agrees =
        subst (λ (ws : List Whole). Agrees (with_survey (closed m r) r e true) (set replicas r (Closed ws))) (sym cut_is)
        (noted_agrees (closed m r) (down_replica m replicas f s is r) true (Closed (o.disk ∷ fenced o.disk e ∷ [])) refl refl refl refl (λ q t. ended_asked r q t m.txns) refl (is.losses r) refl
        (λ z up_z role_z show_z. record { down = up_z; role = role_z; begins = both_begin }) both_fences)

    fault_served : IsServed (opened m (Survey r e)) (says.Fault r ∷ [])
    fault_served = record {
      may = (record { named = refl; in_rank = refl; next = refl; goes_on = refl; row = inl (refl, refl, refl) }, tt);
      complete = record { opened = refl; grown = refl; mounted = refl; told = refl; answered = refl };
      holds = fault_agrees.behind;
    }

    -- ---- what a survey tells

    pub survey_whole : IsServed (opened m (Survey r e)) (lines_of_step m o (steps.Survey e) []) × Agrees (behind (opened m (Survey r e)) (lines_of_step m o (steps.Survey e) [])).machine (set replicas r (Open (step_result o (steps.Survey e)))) × ((step_outcome o (steps.Survey e)).barrier_due ≡ false)
    survey_whole = elim (cases_Bool (epoch_lt e o.disk.fence)) [
      | inl lt ↦
          let same : written o (steps.Survey e) ≡ o = ap (λ (b : Bool). cond b o (record (with_block o (steps.Survey e)) { leading = None; front = nothing no_epoch })) lt in
          let result : step_result o (steps.Survey e) ≡ o = sym (result_is o (steps.Survey e)) ∙ ap looked same ∙ there.standing.settled in
          let lines = sym (ignored_lines lt) in (
            subst (λ (ls : List Observation). IsServed (opened m (Survey r e)) ls) lines (ignored_served lt),
            subst (λ (ls : List Observation). Agrees (behind (opened m (Survey r e)) ls).machine (set replicas r (Open (step_result o (steps.Survey e))))) lines
                (subst (λ (x : OpenReplica). Agrees m (set replicas r (Open x))) (sym result) (subst (λ (rs : List FleetReplica). Agrees m rs) (sym same_there) is)),
            not_due m o (steps.Survey e) (ap looked same ∙ there.standing.settled ∙ sym same) (ap view_of same),
          )
      | inr ge ↦
          let lines = sym (told_lines ge) in
          let own = told_of o.id there.standing.number in (
            subst (λ (ls : List Observation). IsServed (opened m (Survey r e)) ls) lines own.0,
            subst (λ (ls : List Observation). Agrees (behind (opened m (Survey r e)) ls).machine (set replicas r (Open (step_result o (steps.Survey e))))) lines
                (subst (λ (x : OpenReplica). Agrees (behind (opened m (Survey r e)) (says.Progress o.id (epoch_of o.disk) (last_lsn o).0 ∷ [])).machine (set replicas r (Open x))) (sym (now_is ge)) own.1),
            not_due m o (steps.Survey e) (ap looked (written_is ge) ∙ sym (written_is ge)) (ap view_of (written_is ge)),
          )
    ]

    pub survey_fault : IsServed (opened m (Survey r e)) (says.Fault r ∷ []) × Agrees (with_survey (closed m r) r e true) (set replicas r (Closed (cut_off o (steps.Survey e))))
    survey_fault = (fault_served, fault_agrees)

  -- ---- what an inspection tells

  inspect_of : (k : ℕ) → k ≡ r → IsServed (opened m (Inspect r)) (says.State k (length (rows_of (contents_of o))) ∷ map says.Rows (rows_of (contents_of o))) × ((behind (opened m (Inspect r)) (says.State k (length (rows_of (contents_of o))) ∷ map says.Rows (rows_of (contents_of o)))).machine ≡ m)
  inspect_of k own =
      subst (λ (j : ℕ). IsServed (opened m (Inspect r)) (says.State j (length (rows_of (contents_of o))) ∷ map says.Rows (rows_of (contents_of o))) × ((behind (opened m (Inspect r)) (says.State j (length (rows_of (contents_of o))) ∷ map says.Rows (rows_of (contents_of o)))).machine ≡ m)) (sym own)
      (inspect_served, (rows_end (after (opened m (Inspect r)) (says.State r (length (rows_of (contents_of o))))) (rows_of (contents_of o)) (ap rows_of (sym contents_shown))).1)

  pub inspect_whole : IsServed (opened m (Inspect r)) (lines_of_step m o steps.Inspect []) × Agrees (behind (opened m (Inspect r)) (lines_of_step m o steps.Inspect [])).machine (set replicas r (Open (step_result o steps.Inspect))) × ((step_outcome o steps.Inspect).barrier_due ≡ false)
  inspect_whole =
      let lines = sym inspect_lines in
      let own = inspect_of o.id there.standing.number in
      let result : step_result o steps.Inspect ≡ o = sym (result_is o steps.Inspect) ∙ there.standing.settled in (
        subst (λ (ls : List Observation). IsServed (opened m (Inspect r)) ls) lines own.0,
        subst (λ (ls : List Observation). Agrees (behind (opened m (Inspect r)) ls).machine (set replicas r (Open (step_result o steps.Inspect)))) lines
            (subst (λ (n : Machine). Agrees n (set replicas r (Open (step_result o steps.Inspect)))) (sym own.1) (subst (λ (x : OpenReplica). Agrees m (set replicas r (Open x))) (sym result) (subst (λ (rs : List FleetReplica). Agrees m rs) (sym same_there) is))),
        not_due m o steps.Inspect there.standing.settled refl,
      )
