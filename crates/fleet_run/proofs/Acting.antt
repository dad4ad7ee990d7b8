-- Each act but an appointment leads to a sound scene.
use Rattle.std.proofs.Common.{◌≡◌, ◌∙◌, ℕ, ◌<◌, ◌≤◌, true, false, Bool, ◌⊎◌, List, [], ◌∷◌, length, map, is_some, cond, ◌+◌, refl, sym, ap, subst, inl, inr, arith, Option, Some, None}
use Rattle.std.specs.Prelude.{All, Contains, ◌≢◌, ◌&&◌}
use Rattle.std.specs.Option.{option_map_or}
use Rattle.std.specs.List.{list_all}
use Rattle.std.proofs.Math.ListN.{get_or-map}
use Rattle.std.proofs.lemmas.Bool.{cases_Bool, cases_lt, false≢true, leb-true, le-leb}
use Rattle.std.proofs.lemmas.List.{length-map, set_past, get_or_past}
use Rattle.rc_base.specs.declared.ids.Epoch.{Epoch}
use Rattle.rc_base.specs.Ids.{epoch_lt}
use Rattle.log_records.specs.declared.record.Record.{Record}
use Rattle.txn_table.specs.declared.base.Base.{Base}
use Rattle.txn_table.specs.Whole.{Whole, stable_of, epoch_of}
use Rattle.events.specs.declared.answer.Answer.TheVariants as answers
use Rattle.events.specs.declared.event.Event.{Event}
use Rattle.events.specs.declared.event.Event.TheVariants.{Survey}
use Rattle.order_machine.specs.declared.observation.Observation.{Observation}
use Rattle.order_machine.specs.declared.observation.Observation.TheVariants as says
use Rattle.order_machine.specs.Machine.{Machine, has_role}
use Rattle.order_machine.specs.Transitions.{Position, is_above_all, surveyed}
use Rattle.order_machine.specs.Legal.{behind}
use Rattle.config_rule.specs.Rule.{with_answer}
use Rattle.replica_model.specs.declared.step.StepEvent.{StepEvent}
use Rattle.replica_model.specs.declared.step.StepEvent.TheVariants as steps
use Rattle.replica_model.specs.OpenReplica.{OpenReplica, Leading, opened_over, is_active, last_lsn}
use Rattle.replica_model.specs.Quorums.{looked}
use Rattle.replica_model.specs.Records.{step_block}
use Rattle.replica_model.specs.Steps.{MayStep, written, step_result, step_answer, cut_off}
use Rattle.fleet_laws.specs.Fleets.{Fleet, Value, IsValueOf}
use Rattle.fleet_laws.specs.Choice.{IsChosen, reaches, configurations_of}
use Rattle.fleet_laws.specs.Moves.{Turn, changed as changed_fleet, told as told_fleet}
use Rattle.fleet_laws.specs.Moves.Run.{rests}
use Rattle.fleet_laws.specs.Moves.Turn.{stays, forgets}
use Rattle.fleet_laws.proofs.Counts.{quorums_more}
use Rattle.fleet_laws.proofs.Puts.{first_member, all_one, only_member}
use Rattle.fleet_run.specs.Scenes.{FleetReplica, Scene, replica_at, held_by, empty_whole}
use Rattle.fleet_run.specs.Scenes.FleetReplica.{Open, Closed}
use Rattle.fleet_run.specs.Acts.{Act, How, Does, changed_at, opening_lines, lines_of_step, answer_lines}
use Rattle.fleet_run.specs.Acts.Does.{opened, unopened, took, failed, closed, said}
use Rattle.fleet_run.specs.Kernel.{RuleMatches, Term, IsCoded, code, entry_of, value_of, values_of, role_of, terms_of, term_of}
use Rattle.fleet_run.specs.Sound.{IsStanding, IsKept}
use Rattle.fleet_run.specs.Laws.{IsSoundScene, MovesTo, IsReady, IsReadyStep, IsAside, ActsKeepSound}
use Rattle.fleet_run.proofs.MachineLines.{Follows, IsFirst, MayEach, itself, lines_follow, behind_event}
use Rattle.fleet_run.proofs.Moved.{Moved, SameRule, KeepsEpoch, IsOneTerm, same_rule, rule_after, rule_machine, same_terms, sound_after, roles_after, sound_machine, one_term, one_term_after, one_change, unmoved}
use Rattle.fleet_run.proofs.Looking.{whole_epoch}
use Rattle.fleet_run.proofs.Stepping.{IsThere, StepDone, StepCut, call_step, barrier_step, activation_step, inspection_step, kept_epoch}
use Rattle.fleet_run.proofs.StepLines.{first_lines, first_may, lines_may, answers_may, aside_may, survey_lines}
use Rattle.fleet_run.proofs.Surveying.{Surveyed, fenced, survey_done, survey_ignored, survey_cut, survey_rule, term_below, latest_term}

is_open_one : FleetReplica → Bool
is_open_one (Open o) = true
is_open_one (Closed ws) = false

open_in : OpenReplica → FleetReplica → OpenReplica
open_in o (Open x) = x
open_in o (Closed ws) = o

pub same_open : (o x : OpenReplica) → Open o ≡ Open x → o ≡ x
unfolding open_in
same_open o x is = ap (open_in o) is

pub closed_open : {A : Type 0} (ws : List Whole) (o : OpenReplica) → Closed ws ≡ Open o → A
unfolding is_open_one
closed_open ws o is = absurd (false≢true (ap is_open_one is))

pub none_some : {A B : Type 0} (x : A) → None ≡ Some x → B
none_some x is = absurd (false≢true (ap is_some is))

pub no_leading : {B : Type 0} (x o : OpenReplica) (l : Leading) → x.leading ≡ None → x ≡ o → o.leading ≡ Some l → B
no_leading x o l none same lead = none_some l (sym none ∙ ap (λ (y : OpenReplica). y.leading) same ∙ lead)

-- what is chosen is so from the start of its epoch on
pub chosen_start : (f : Fleet Record) (e l : ℕ) → IsChosen f e l → IsChosen f e (f.start e)
chosen_start f e l is = record {
  from = omega arith;
  by = quorums_more (reaches f.acknowledged e l) (reaches f.acknowledged e (f.start e)) (λ m h. le-leb (f.start e) (f.acknowledged m e) (omega (arith, leb-true l (f.acknowledged m e) h, is.from))) (configurations_of f.configurations e) is.by;
}

-- an active one leads
pub active_leads : (x : OpenReplica) (y : Option Leading) → x.leading ≡ y → is_active x ≡ true → (l : Leading) × (x.leading ≡ Some l) × (l.active ≡ true)
active_leads x None is active = absurd (false≢true (sym (ap (λ (z : Option Leading). option_map_or (λ (l : Leading). l.active) z false) is) ∙ active))
active_leads x (Some l) is active = (l, is, sym (ap (λ (z : Option Leading). option_map_or (λ (l : Leading). l.active) z false) is) ∙ active)

pub result_is : (o : OpenReplica) (step : StepEvent) → looked (written o step) ≡ step_result o step
unfolding step_result
result_is o step = refl

zero_more : (n : ℕ) → n ≡ 0 + n
zero_more n = omega arith

pub all_map : {A B : Type 0} (p : B → Bool) (h : A → B) (xs : List A) → list_all p (map h xs) ≡ list_all (λ x. p (h x)) xs
all_map p h [] = refl
all_map p h (x ∷ xs) = ap (λ (b : Bool). p (h x) && b) (all_map p h xs)

-- the line of a survey's answer adds it
told_answers : (p : Position) (o : OpenReplica) (e : Epoch) (r : ℕ) → epoch_lt e o.disk.fence ≡ false → p.event ≡ Survey r e → o.id ≡ r
    → (behind p (answer_lines (step_answer o (steps.Survey e)))).machine.answers ≡ with_answer (record { epoch = e; from = r; last_epoch = epoch_of o.disk; last = record { 0 = (last_lsn o).0 } }) p.machine.answers
told_answers p o e r ge is number =
    ap (λ (b : Bool). (behind p (answer_lines (Some (cond b (answers.IgnoredOldEpoch o.disk.fence e) (answers.Progress o.id (epoch_of o.disk) (last_lsn o).0))))).machine.answers) ge
    ∙ ap (λ (ev : Event). (surveyed p.machine ev o.id (epoch_of o.disk) (last_lsn o).0).answers) is
    ∙ ap (λ (k : ℕ). with_answer (record { epoch = e; from = k; last_epoch = epoch_of o.disk; last = record { 0 = (last_lsn o).0 } }) p.machine.answers) number

module _ (s : Scene) (f : Fleet Record) (ss : IsSoundScene s f) where
  abbrev m : Machine
  m = s.position.machine

  abbrev event : Event
  event = s.position.event

  scene_boots : (rises : Epoch → Type 0) (tells : Type 0) (lines : List Observation) → Follows s.position.event rises tells s.position.machine (behind s.position lines).machine → IsOneTerm (behind s.position lines).event (behind s.position lines).machine
  scene_boots rises tells lines x = subst (λ (e : Event). IsOneTerm e (behind s.position lines).machine) (sym (behind_event s.position lines)) (one_term_after s.position.event rises tells s.position.machine (behind s.position lines).machine x ss.boots)

  -- ---- one replica is another

  pub changes : (r : ℕ) (now : FleetReplica) (lines : List Observation) (g : Fleet Record) (rises : Epoch → Type 0) (tells : Type 0) → r < length s.replicas → Moved f g r now → RuleMatches (behind s.position lines).machine g
      → Follows s.position.event rises tells s.position.machine (behind s.position lines).machine → KeepsEpoch (replica_at s.replicas r) now → ((e : Epoch) → rises e → IsChosen g (code e) (g.start (code e)))
      → ((o : OpenReplica) → now ≡ Open o → IsStanding g r o) → ((w : Whole) → Contains (held_by now) w → IsKept w) → MovesTo f (changed_at s r now lines)
  changes r now lines g rises tells within moved rule x keeps risen standing kept =
      let n = (behind s.position lines).machine in (
        g,
        moved.run,
        record {
          sound = sound_after m n s.replicas f g r now ss.sound within moved rule (roles_after m n s.replicas f g r now ss.sound within moved event rises tells ss.boots x keeps risen) standing kept;
          boots = scene_boots rises tells lines x;
        },
      )

  follows_plain : (rises : Epoch → Type 0) (lines : List Observation) → MayEach rises ⊥ s.position.event s.position.machine lines → Follows s.position.event rises ⊥ s.position.machine (behind s.position lines).machine
  follows_plain rises lines may = lines_follow rises ⊥ m event s.position lines refl (itself event rises ⊥ m) may

  rule_plain : (rises : Epoch → Type 0) (lines : List Observation) (g : Fleet Record) → SameRule f g → Follows s.position.event rises ⊥ s.position.machine (behind s.position lines).machine → RuleMatches (behind s.position lines).machine g
  rule_plain rises lines g same x = rule_after (behind s.position lines).machine f g same (rule_machine m (behind s.position lines).machine f (same_terms event rises m (behind s.position lines).machine x) ss.sound.matches.rule)

  -- lines alone
  pub only_lines : (lines : List Observation) → MayEach (λ e. ⊥) ⊥ s.position.event s.position.machine lines → MovesTo f (record s { position = behind s.position lines })
  only_lines lines may =
      let x = follows_plain (λ e. ⊥) lines may in (
        f,
        rests,
        record { sound = sound_machine event (λ e. ⊥) m (behind s.position lines).machine s.replicas f ss.boots x (λ e none. absurd none) ss.sound; boots = scene_boots (λ e. ⊥) ⊥ lines x },
      )

  -- a replica that isn't there is nobody else
  pub outside : (r : ℕ) (now : FleetReplica) (lines : List Observation) → length s.replicas ≤ r → MayEach (λ e. ⊥) ⊥ s.position.event s.position.machine lines → MovesTo f (changed_at s r now lines)
  outside r now lines past may = subst (λ (rs : List FleetReplica). MovesTo f (record { position = behind s.position lines; replicas = rs })) (sym (set_past s.replicas r now past)) (only_lines lines may)

  -- ---- mounts

  map_contains : {A B : Type 0} (h : A → B) (xs : List A) (x : A) → Contains xs x → Contains (map h xs) (h x)
  map_contains h xs x c = (c.0, subst (λ (n : ℕ). c.0 < n) (sym (length-map xs h)) c.1, get_or-map h xs c.0 x ∙ ap h c.2)

  pub held_there : (r : ℕ) (ws : List Whole) (w : Whole) → replica_at s.replicas r ≡ Closed ws → Contains ws w → IsValueOf f r (value_of (stable_of w) w) × IsKept w
  held_there r ws w down there = (
    subst (λ (vs : List (Value Record)). Contains vs (value_of (stable_of w) w)) (sym (ss.sound.matches.values r ∙ ap values_of down)) (map_contains (λ (u : Whole). value_of (stable_of u) u) ws w there),
    ss.sound.kept r w (subst (λ (x : FleetReplica). Contains (held_by x) w) (sym down) there),
  )

  pub mount : (r : ℕ) (ws : List Whole) (w : Whole) (lines : List Observation) → MayEach (λ e. ⊥) ⊥ s.position.event s.position.machine lines → replica_at s.replicas r ≡ Closed ws → Contains ws w
      → MovesTo f (changed_at s r (Open (opened_over r w)) lines)
  mount r ws w lines may down there = elim (cases_lt r (length s.replicas)) [
    | inr past ↦ outside r (Open (opened_over r w)) lines past may
    | inl within ↦
        let now = Open (opened_over r w) in
        let at = held_there r ws w down there in
        let g : Fleet Record = changed_fleet f r (values_of now) (role_of now) 0 in
        let moved : Moved f g r now = one_change f r now (inl refl) (omega arith) (all_one (λ (y : Value Record). (v : Value Record) × IsValueOf f r v × Turn f r v y) (value_of (stable_of w) w) (value_of (stable_of w) w, at.0, stays)) in
        let x = follows_plain (λ e. ⊥) lines may in
        let rule = rule_plain (λ e. ⊥) lines g (record { appointed = refl; current = refl; previous = refl; latest = refl; active = refl; answered = refl; told_epoch = refl; told_length = refl }) x in
        changes r now lines g (λ e. ⊥) ⊥ within moved rule x
        (λ o l is lead. no_leading (opened_over r w) o l refl (same_open (opened_over r w) o is) lead)
        (λ e none. absurd none)
        (λ o is. subst (λ (y : OpenReplica). IsStanding g r y) (same_open (opened_over r w) o is) (record { number = refl; told = omega arith; settled = refl; leads = λ l lead. none_some l lead }))
        (λ u c. subst IsKept (sym (only_member w u c)) at.1)
  ]

  pub unmount : (r : ℕ) (ws : List Whole) (lines : List Observation) → MayEach (λ e. ⊥) ⊥ s.position.event s.position.machine lines → replica_at s.replicas r ≡ Closed ws → MovesTo f (changed_at s r (Closed ws) lines)
  unmount r ws lines may down = elim (cases_lt r (length s.replicas)) [
    | inr past ↦ outside r (Closed ws) lines past may
    | inl within ↦
        let now = Closed ws in
        let x = follows_plain (λ e. ⊥) lines may in
        changes r now lines f (λ e. ⊥) ⊥ within (unmoved f r now (ss.sound.matches.values r ∙ ap values_of down) (ss.sound.matches.role r ∙ ap role_of down)) (rule_plain (λ e. ⊥) lines f (same_rule f) x) x
        (λ o l is lead. closed_open ws o is) (λ e none. absurd none) (λ o is. closed_open ws o is) (λ w there. (held_there r ws w down there).1)
  ]

  -- ---- closings

  pub there : (r : ℕ) (o : OpenReplica) → replica_at s.replicas r ≡ Open o → IsThere f r o
  there r o up = record {
    reached = ss.sound.reached;
    values = ss.sound.matches.values r ∙ ap values_of up;
    role = ss.sound.matches.role r ∙ ap role_of up;
    standing = ss.sound.standing r o up;
    kept = ss.sound.kept r o.disk (subst (λ (x : FleetReplica). Contains (held_by x) o.disk) (sym up) (first_member o.disk []));
  }

  -- an open replica is one of the nine
  pub inside : (r : ℕ) (o : OpenReplica) → replica_at s.replicas r ≡ Open o → r < length s.replicas
  inside r o up = elim (cases_lt r (length s.replicas)) [
    | inl within ↦ within
    | inr past ↦ closed_open (empty_whole ∷ []) o (sym (get_or_past s.replicas r (Closed (empty_whole ∷ [])) past) ∙ up)
  ]

  close_open : (r : ℕ) (o : OpenReplica) → replica_at s.replicas r ≡ Open o → MovesTo f (changed_at s r (Closed (o.disk ∷ [])) [])
  close_open r o up =
      let t = there r o up in
      let now = Closed (o.disk ∷ []) in
      let v = value_of o.stable o.disk in
      let w = value_of (stable_of o.disk) o.disk in
      let of : IsValueOf f r v = subst (λ (vs : List (Value Record)). Contains vs v) (sym t.values) (first_member v []) in
      let from : o.disk.base ≤ stable_of o.disk = omega arith in
      let g : Fleet Record = changed_fleet f r (values_of now) (role_of now) 0 in
      let moved : Moved f g r now = one_change f r now (inl refl) (omega arith) (all_one (λ (y : Value Record). (z : Value Record) × IsValueOf f r z × Turn f r z y) w (v, of, forgets (stable_of o.disk) from t.standing.told)) in
      let x = follows_plain (λ e. ⊥) [] tt in
      let rule = rule_plain (λ e. ⊥) [] g (record { appointed = refl; current = refl; previous = refl; latest = refl; active = refl; answered = refl; told_epoch = refl; told_length = refl }) x in
      changes r now [] g (λ e. ⊥) ⊥ (inside r o up) moved rule x (λ y l is lead. closed_open (o.disk ∷ []) y is) (λ e none. absurd none) (λ y is. closed_open (o.disk ∷ []) y is) (λ u c. subst IsKept (sym (only_member o.disk u c)) t.kept)

  close : (r : ℕ) (x : FleetReplica) → replica_at s.replicas r ≡ x → MovesTo f (changed_at s r (Closed (held_by x)) [])
  close r (Open o) up = close_open r o up
  close r (Closed ws) down = unmount r ws [] tt down

  -- ---- steps

  keeps_open : (r : ℕ) (o x : OpenReplica) → replica_at s.replicas r ≡ Open o → ((l : Leading) → x.leading ≡ Some l → (y : Leading) × (o.leading ≡ Some y) × (l.epoch ≡ y.epoch)) → KeepsEpoch (replica_at s.replicas r) (Open x)
  keeps_open r o x up epoch y l is lead = let z = epoch l (ap (λ (k : OpenReplica). k.leading) (same_open x y is) ∙ lead) in (o, z.0, up, z.1, z.2)

  -- where a step made a primary active, the start of the epoch is chosen, whatever role the machine knows of there
  step_rises : (g : Fleet Record) (r : ℕ) (o x : OpenReplica) → replica_at s.replicas r ≡ Open o → IsStanding g r x → ((l : Leading) → x.leading ≡ Some l → (y : Leading) × (o.leading ≡ Some y) × (l.epoch ≡ y.epoch))
      → is_active x ≡ true → (e : Epoch) → (has_role s.position.machine o.id e ≡ true) ⊎ IsFirst s.position.event e → IsChosen g (code e) (g.start (code e))
  step_rises g r o x up st epoch active e role =
      let l = active_leads x x.leading refl active in
      let is = st.leads l.0 l.1 in
      let y = epoch l.0 l.1 in
      let old = ss.sound.standing r o up in
      let led = old.leads y.0 y.1 in
      let same : e ≡ y.0.epoch = elim role [
        | inl had ↦ ss.sound.roles.led r o y.0 e up y.1 (subst (λ (k : ℕ). has_role m k e ≡ true) old.number had)
        | inr first ↦ let one = ss.boots first.0 in first.1 ∙ sym one.2 ∙ sym (one_term y.0.epoch (terms_of m) one.0 one.1 (sym (ss.sound.matches.rule.appointed y.0.epoch led.coded) ∙ led.appointed))
      ] in
      subst (λ (k : Epoch). IsChosen g (code k) (g.start (code k))) (y.2 ∙ sym same) (chosen_start g (code l.0.epoch) x.stable (is.chosen l.2))

  step_is_done : (r : ℕ) (o : OpenReplica) (step : StepEvent) (closing : List Observation) → replica_at s.replicas r ≡ Open o → StepDone f r o (looked (written o step)) → ((rises : Epoch → Type 0) → MayEach rises ⊥ s.position.event s.position.machine (answer_lines (step_answer o step))) → All IsAside closing
      → MovesTo f (changed_at s r (Open (step_result o step)) (lines_of_step s.position.machine o step closing))
  step_is_done r o step closing up done told asides =
      let d = subst (λ (x : OpenReplica). StepDone f r o x) (result_is o step) done in
      let now = step_result o step in
      let lines = lines_of_step m o step closing in
      let rises : Epoch → Type 0 = λ (e : Epoch). IsChosen d.fleet (code e) (d.fleet.start (code e)) in
      let x = follows_plain rises lines (lines_may rises ⊥ event m m o step closing (λ active e role. step_rises d.fleet r o now up d.standing d.epoch active e role) (told rises) asides) in
      changes r (Open now) lines d.fleet rises ⊥ (inside r o up) d.moved (rule_plain rises lines d.fleet d.rule x) x (keeps_open r o now up d.epoch) (λ e h. h)
      (λ y is. subst (λ (z : OpenReplica). IsStanding d.fleet r z) (same_open now y is) d.standing)
      (λ u c. subst IsKept (sym (only_member now.disk u c)) d.kept)

  step_is_cut : (r : ℕ) (o : OpenReplica) (step : StepEvent) → replica_at s.replicas r ≡ Open o → StepCut f r (cut_off o step) → MovesTo f (changed_at s r (Closed (cut_off o step)) (says.Fault r ∷ []))
  step_is_cut r o step up c =
      let now = Closed (cut_off o step) in
      let x = follows_plain (λ e. ⊥) (says.Fault r ∷ []) (tt, tt) in
      changes r now (says.Fault r ∷ []) c.fleet (λ e. ⊥) ⊥ (inside r o up) c.moved (rule_plain (λ e. ⊥) (says.Fault r ∷ []) c.fleet c.rule x) x
      (λ y l is lead. closed_open (cut_off o step) y is) (λ e none. absurd none) (λ y is. closed_open (cut_off o step) y is) c.kept

  -- ---- surveys

  module _ (r : ℕ) (o : OpenReplica) (e : Epoch) (up : replica_at s.replicas r ≡ Open o) (is : s.position.event ≡ Survey r e) (coded : IsCoded e) (above_all : is_above_all s.position.machine e ≡ true) (booted : terms_of s.position.machine ≢ []) where
    above : f.latest < code e
    above =
        let latest = latest_term m f ss.sound.matches.rule booted in
        let below = term_below m f e latest.0 ss.sound.matches.rule coded (all_map (λ (t : Term). epoch_lt t.epoch e) term_of s.position.machine.appointments ∙ above_all) latest.1 in
        omega (arith, latest.2, below)

    survey_told : (closing : List Observation) → All IsAside closing → epoch_lt e o.disk.fence ≡ false → MovesTo f (changed_at s r (Open (step_result o (steps.Survey e))) (lines_of_step s.position.machine o (steps.Survey e) closing))
    survey_told closing asides ge =
        let t = there r o up in
        let d = subst (λ (x : OpenReplica). Surveyed f r e o x) (result_is o (steps.Survey e)) (survey_done f r o e t coded above ge) in
        let v = value_of o.stable (fenced o.disk e) in
        let g : Fleet Record = told_fleet d.before (code e) r v in
        let now = step_result o (steps.Survey e) in
        let lines = lines_of_step m o (steps.Survey e) closing in
        let n = (behind s.position lines).machine in
        let none : (l : Leading) → now.leading ≡ Some l → (y : Leading) × (o.leading ≡ Some y) × (l.epoch ≡ y.epoch) = λ l lead. none_some l (sym d.ends ∙ lead) in
        let rises : Epoch → Type 0 = λ (k : Epoch). IsChosen g (code k) (g.start (code k)) in
        let may = λ (active : is_active now ≡ true) (k : Epoch) (role : (has_role s.position.machine o.id k ≡ true) ⊎ IsFirst s.position.event k). step_rises g r o now up d.standing none active k role in
        let told = answers_may rises (Unit {0}) event m (step_answer o (steps.Survey e)) (inl tt) in
        let x : Follows s.position.event rises (Unit {0}) m n = lines_follow rises (Unit {0}) m event s.position lines refl (itself event rises (Unit {0}) m) (lines_may rises (Unit {0}) event m m o (steps.Survey e) closing may told asides) in
        let first = first_lines rises ⊥ event m m o (steps.Survey e) in
        let p1 = behind s.position first in
        let p2 = behind p1 (answer_lines (step_answer o (steps.Survey e))) in
        let x1 : Follows s.position.event rises ⊥ m p1.machine = lines_follow rises ⊥ m event s.position first refl (itself event rises ⊥ m) (first_may rises ⊥ event m m o (steps.Survey e) may) in
        let event2 : p2.event ≡ s.position.event = behind_event p1 (answer_lines (step_answer o (steps.Survey e))) ∙ behind_event s.position first in
        let x2 : Follows s.position.event rises ⊥ p2.machine (behind p2 closing).machine = lines_follow rises ⊥ p2.machine event p2 closing event2 (itself event rises ⊥ p2.machine) (aside_may rises ⊥ event p2.machine closing asides) in
        let own = ss.sound.standing r o up in
        let answered : n.answers ≡ with_answer (record { epoch = e; from = r; last_epoch = epoch_of o.disk; last = record { 0 = (last_lsn o).0 } }) m.answers =
        ap (λ (p : Position). p.machine.answers) (survey_lines s.position m o e closing)
        ∙ (same_terms event rises p2.machine (behind p2 closing).machine x2).answers
        ∙ told_answers p1 o e r ge (behind_event s.position first ∙ is) own.number
        ∙ ap (with_answer (record { epoch = e; from = r; last_epoch = epoch_of o.disk; last = record { 0 = (last_lsn o).0 } })) (same_terms event rises m p1.machine x1).answers in
        let last : length v.log ≡ (last_lsn o).0 = length-map o.disk.log entry_of ∙ zero_more (length o.disk.log) ∙ sym (ap (λ (b : Base). b.at.0 + length o.disk.log) t.kept.start) in
        let rule = survey_rule m n d.before e r (last_lsn o).0 (epoch_of o.disk) v (rule_after m f d.before d.rule ss.sound.matches.rule) coded (kept_epoch o.disk t.kept) (sym (whole_epoch o.disk t.kept.start)) last x.terms x.config answered booted in
        changes r (Open now) lines g rises (Unit {0}) (inside r o up) d.moved rule x (keeps_open r o now up none) (λ k h. h)
        (λ y same. subst (λ (z : OpenReplica). IsStanding g r z) (same_open now y same) d.standing)
        (λ u c. subst IsKept (sym (only_member now.disk u c)) d.kept)

    survey_old : (closing : List Observation) → All IsAside closing → epoch_lt e o.disk.fence ≡ true → MovesTo f (changed_at s r (Open (step_result o (steps.Survey e))) (lines_of_step s.position.machine o (steps.Survey e) closing))
    survey_old closing asides lt = step_is_done r o (steps.Survey e) closing up (survey_ignored f r o e (there r o up) coded above lt) (λ rises. rw (lt) (tt, tt)) asides

    survey_any : (closing : List Observation) → All IsAside closing → MovesTo f (changed_at s r (Open (step_result o (steps.Survey e))) (lines_of_step s.position.machine o (steps.Survey e) closing))
    survey_any closing asides = elim (cases_Bool (epoch_lt e o.disk.fence)) [
      | inl lt ↦ survey_old closing asides lt
      | inr ge ↦ survey_told closing asides ge
    ]

    survey_fails : MovesTo f (changed_at s r (Closed (cut_off o (steps.Survey e))) (says.Fault r ∷ []))
    survey_fails = step_is_cut r o (steps.Survey e) up (survey_cut f r o e (there r o up) coded above)

  -- ---- all of them

  step_acts : (r : ℕ) (o : OpenReplica) (step : StepEvent) (closing : List Observation) → replica_at s.replicas r ≡ Open o → MayStep o step → IsReadyStep s f r step → All IsAside closing
      → MovesTo f (changed_at s r (Open (step_result o step)) (lines_of_step s.position.machine o step closing))
  step_acts r o (steps.Client call) closing up may ready asides = step_is_done r o (steps.Client call) closing up (call_step f r o (there r o up) call).0 (λ rises. answers_may rises ⊥ event m (step_answer o (steps.Client call)) (inr ready)) asides
  step_acts r o (steps.Survey e) closing up may ready asides = survey_any r o e up ready.0 ready.1 ready.2 ready.3 closing asides
  step_acts r o (steps.Appoint a) closing up may ready asides = absurd ready
  step_acts r o (steps.Activate e) closing up may ready asides = step_is_done r o (steps.Activate e) closing up (activation_step f r o (there r o up) e ready) (λ rises. tt) asides
  step_acts r o steps.Barrier closing up may ready asides = step_is_done r o steps.Barrier closing up (barrier_step f r o (there r o up) may).0 (λ rises. tt) asides
  step_acts r o steps.Inspect closing up may ready asides = step_is_done r o steps.Inspect closing up (inspection_step f r o (there r o up)) (λ rises. tt) asides

  step_fails : (r : ℕ) (o : OpenReplica) (step : StepEvent) → replica_at s.replicas r ≡ Open o → MayStep o step → IsReadyStep s f r step → step_block o step ≢ [] → MovesTo f (changed_at s r (Closed (cut_off o step)) (says.Fault r ∷ []))
  step_fails r o (steps.Client call) up may ready logs = step_is_cut r o (steps.Client call) up ((call_step f r o (there r o up) call).1 logs)
  step_fails r o (steps.Survey e) up may ready logs = survey_fails r o e up ready.0 ready.1 ready.2 ready.3
  step_fails r o (steps.Appoint a) up may ready logs = absurd ready
  step_fails r o (steps.Activate e) up may ready logs = absurd (logs refl)
  step_fails r o steps.Barrier up may ready logs = step_is_cut r o steps.Barrier up (barrier_step f r o (there r o up) may).1
  step_fails r o steps.Inspect up may ready logs = absurd (logs refl)

  pub acts : (act : Act) (how : How) (lines : List Observation) (t : Scene) → IsReady s f act → Does s act how lines t → MovesTo f t
  acts act how lines t ready (opened r ws w down there) = mount r ws w (opening_lines r (opened_over r w)) (tt, (tt, tt)) down there
  acts act how lines t ready (unopened r ws down) = unmount r ws (says.Fault r ∷ []) (tt, tt) down
  acts act how lines t ready (took r o step closing up may) = step_acts r o step closing up may ready.0 ready.1
  acts act how lines t ready (failed r o step closing up may logs) = step_fails r o step up may ready.0 logs
  acts act how lines t ready (closed r) = close r (replica_at s.replicas r) refl
  acts act how lines t ready (said more) = only_lines more (aside_may (λ e. ⊥) ⊥ event m more ready)

-- The law of acts.
pub acts_keep_sound : ActsKeepSound
acts_keep_sound s t f act how lines sound ready does = acts s f sound act how lines t ready does
