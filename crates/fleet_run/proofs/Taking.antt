-- The step of an appointment, in a scene whose machine is ahead by it.
use Rattle.std.proofs.Common.{◌≡◌, ◌∙◌, ℕ, ◌<◌, ◌≤◌, true, ◌⊎◌, List, [], ◌∷◌, ◌++◌, length, map, refl, sym, ap, subst, inl, inr, Some}
use Rattle.std.specs.Prelude.{All, Contains}
use Rattle.std.proofs.lemmas.Bool.{cases_lt}
use Rattle.rc_base.specs.declared.ids.Epoch.{Epoch}
use Rattle.config_rule.specs.declared.appointments.Appointment.{Appointment}
use Rattle.log_records.specs.declared.record.Record.{Record}
use Rattle.txn_table.specs.Whole.{Whole}
use Rattle.events.specs.declared.event.Event.{Event}
use Rattle.order_machine.specs.declared.observation.Observation.{Observation}
use Rattle.order_machine.specs.declared.observation.Observation.TheVariants as says
use Rattle.order_machine.specs.Machine.{Machine, has_role}
use Rattle.order_machine.specs.Transitions.{is_boot}
use Rattle.order_machine.specs.Legal.{behind}
use Rattle.replica_model.specs.declared.step.StepEvent.TheVariants as steps
use Rattle.replica_model.specs.OpenReplica.{OpenReplica, Leading, is_active}
use Rattle.replica_model.specs.Quorums.{looked}
use Rattle.replica_model.specs.Steps.{step_result, cut_off, written}
use Rattle.std.proofs.lemmas.List.{get_or_past}
use Rattle.fleet_laws.specs.Logs.{Entry}
use Rattle.fleet_laws.specs.Fleets.{Fleet}
use Rattle.fleet_laws.specs.Choice.{IsChosen}
use Rattle.fleet_laws.proofs.Puts.{first_member, only_member}
use Rattle.fleet_run.specs.Scenes.{FleetReplica, Scene, replica_at, held_by, empty_whole}
use Rattle.fleet_run.specs.Scenes.FleetReplica.{Open, Closed}
use Rattle.fleet_run.specs.Acts.{changed_at, lines_of_step}
use Rattle.fleet_run.specs.Kernel.{RuleMatches, Term, IsCoded, code, entry_of, values_of, role_of, terms_of}
use Rattle.fleet_run.specs.Sound.{Sound, IsStanding, IsKept, SameMembers}
use Rattle.fleet_run.specs.Laws.{MovesTo, IsAside}
use Rattle.fleet_run.proofs.MachineLines.{Follows, IsFirst, MayEach, itself, lines_follow, behind_event}
use Rattle.fleet_run.proofs.Moved.{Moved, SameRule, IsOneTerm, rule_after, rule_machine, same_terms}
use Rattle.fleet_run.proofs.StepLines.{lines_may}
use Rattle.fleet_run.proofs.Stepping.{IsThere}
use Rattle.fleet_run.proofs.Acting.{same_open, closed_open, chosen_start, active_leads, result_is}
use Rattle.fleet_run.proofs.Ahead.{IsAhead, IsFirstOf, new_term, ahead_rule, ahead_sound}
use Rattle.fleet_run.proofs.Appointing.{Given, Begun, start_done, start_cut, start_unmounted}

-- what an appointment of p has to be, by the machine before it
pub record IsDueTo (event : Event) (m : Machine) (p : ℕ) (a : Appointment) (before now : List ℕ) : Type 0 where
  pub coded : IsCoded a.epoch
  pub fresh : (t : Term) → Contains (terms_of m) t → code t.epoch ≡ code a.epoch → ⊥
  pub some : 1 ≤ length now
  pub cc : SameMembers a.cc now
  pub pc : SameMembers a.pc before
  pub boots : IsFirstOf event m a.epoch

-- the scene's machine is ahead of this one by the appointment
pub record IsEarly (event : Event) (m : Machine) (p : ℕ) (a : Appointment) (before now config : List ℕ) (t : Scene) (f : Fleet Record) : Type 0 where
  pub sound : Sound m t.replicas f
  pub ahead : IsAhead m t.position.machine a.epoch p before now
  pub config_is : t.position.machine.config ≡ config
  pub event_is : t.position.event ≡ event

pub there_early : (m : Machine) (replicas : List FleetReplica) (f : Fleet Record) (r : ℕ) (o : OpenReplica) → Sound m replicas f → replica_at replicas r ≡ Open o → IsThere f r o
there_early m replicas f r o s up = record {
  reached = s.reached;
  values = s.matches.values r ∙ ap values_of up;
  role = s.matches.role r ∙ ap role_of up;
  standing = s.standing r o up;
  kept = s.kept r o.disk (subst (λ (x : FleetReplica). Contains (held_by x) o.disk) (sym up) (first_member o.disk []));
}

inside_early : (replicas : List FleetReplica) (r : ℕ) (o : OpenReplica) → replica_at replicas r ≡ Open o → r < length replicas
inside_early replicas r o up = elim (cases_lt r (length replicas)) [
  | inl within ↦ within
  | inr past ↦ closed_open (empty_whole ∷ []) o (sym (get_or_past replicas r (Closed (empty_whole ∷ [])) past) ∙ up)
]

module _ (event : Event) (m : Machine) (p : ℕ) (a : Appointment) (before now config : List ℕ) (t : Scene) (f : Fleet Record) (due : IsDueTo event m p a before now) (early : IsEarly event m p a before now config t f) (log : List (Entry Record)) (g : Fleet Record) (given : Given f g (code a.epoch) p before now log) (active : g.current g.active ≡ config) where
  abbrev n : Machine
  n = t.position.machine

  rule_given : RuleMatches t.position.machine g
  rule_given = ahead_rule m n f g a.epoch p before now early.sound.matches.rule early.ahead given.has due.coded due.fresh due.some (active ∙ sym early.config_is)

  one_term_now : (rises : Epoch → Type 0) (lines : List Observation) → Follows event rises ⊥ t.position.machine (behind t.position lines).machine → IsOneTerm (behind t.position lines).event (behind t.position lines).machine
  one_term_now rises lines x = λ is.
      let b = due.boots (sym (ap is_boot (behind_event t.position lines ∙ early.event_is)) ∙ is) in
      (new_term a.epoch before now, x.terms ∙ early.ahead.terms ∙ ap (λ (ts : List Term). ts ++ new_term a.epoch before now ∷ []) b.0, b.1)

  finish : (x : FleetReplica) (lines : List Observation) (h : Fleet Record) (rises : Epoch → Type 0) → p < length t.replicas → Moved f h p x → SameRule g h → Follows event rises ⊥ t.position.machine (behind t.position lines).machine
      → ((o : OpenReplica) (l : Leading) → x ≡ Open o → o.leading ≡ Some l → l.epoch ≡ a.epoch) → ((y : Epoch) → rises y → IsChosen h (code y) (h.start (code y))) → ((o : OpenReplica) → x ≡ Open o → IsStanding h p o)
      → ((w : Whole) → Contains (held_by x) w → IsKept w) → MovesTo f (changed_at t p x lines)
  finish x lines h rises within moved same follows leads risen standing kept =
      let k = (behind t.position lines).machine in (
        h,
        moved.run,
        record {
          sound = ahead_sound event rises m n k t.replicas f h a.epoch p before now x early.sound due.boots early.ahead follows within moved (rule_after k g h same (rule_machine n k g (same_terms event rises n k follows) rule_given)) leads risen standing kept;
          boots = one_term_now rises lines follows;
        },
      )

  follows_now : (rises : Epoch → Type 0) (lines : List Observation) → MayEach rises ⊥ event t.position.machine lines → Follows event rises ⊥ t.position.machine (behind t.position lines).machine
  follows_now rises lines may = lines_follow rises ⊥ n event t.position lines early.event_is (itself event rises ⊥ n) may

  -- the disk of the primary failed in its mount
  pub unmounted : (ws : List Whole) → replica_at t.replicas p ≡ Closed ws → p < length t.replicas → MovesTo f (changed_at t p (Closed ws) (says.Fault p ∷ []))
  unmounted ws down within =
      let b : Begun f g p (Closed ws) = start_unmounted f g (code a.epoch) p before now log ws early.sound.reached given (early.sound.matches.values p ∙ ap values_of down) in
      finish (Closed ws) (says.Fault p ∷ []) b.fleet (λ e. ⊥) within b.moved b.rule (follows_now (λ e. ⊥) (says.Fault p ∷ []) (tt, tt))
      (λ o l is lead. closed_open ws o is) (λ e none. absurd none) (λ o is. closed_open ws o is)
      (λ w c. early.sound.kept p w (subst (λ (x : FleetReplica). Contains (held_by x) w) (sym down) c))

  module _ (o : OpenReplica) (up : replica_at t.replicas p ≡ Open o) (log_is : log ≡ map entry_of o.disk.log) where
    abbrev there : IsThere f p o
    there = there_early m t.replicas f p o early.sound up

    abbrev given_log : Given f g (code a.epoch) p before now (map entry_of o.disk.log)
    given_log = subst (λ (l : List (Entry Record)). Given f g (code a.epoch) p before now l) log_is given

    -- whatever role the machine knows of there is of the new epoch
    role_epoch : (y : Epoch) → (has_role t.position.machine o.id y ≡ true) ⊎ IsFirst event y → y ≡ a.epoch
    role_epoch y (inl had) = elim (early.ahead.roles p y (subst (λ (k : ℕ). has_role n k y ≡ true) (early.sound.standing p o up).number had)) [
      | inl old ↦ absurd (old.1 refl)
      | inr new ↦ new.0
    ]
    role_epoch y (inr first) = let b = due.boots first.0 in first.1 ∙ sym b.1

    pub taken : (closing : List Observation) → All IsAside closing → MovesTo f (changed_at t p (Open (step_result o (steps.Appoint a))) (lines_of_step t.position.machine o (steps.Appoint a) closing))
    taken closing asides =
        let d = start_done f g p o a before now there due.coded given_log due.cc due.pc in
        let x = step_result o (steps.Appoint a) in
        let same : looked (written o (steps.Appoint a)) ≡ x = result_is o (steps.Appoint a) in
        let standing : IsStanding d.fleet p x = subst (λ (y : OpenReplica). IsStanding d.fleet p y) same d.standing in
        let moved : Moved f d.fleet p (Open x) = subst (λ (y : OpenReplica). Moved f d.fleet p (Open y)) same d.moved in
        let epoch : (l : Leading) → x.leading ≡ Some l → l.epoch ≡ a.epoch = λ l lead. d.epoch l (ap (λ (y : OpenReplica). y.leading) same ∙ lead) in
        let kept : IsKept x.disk = subst (λ (y : OpenReplica). IsKept y.disk) same d.kept in
        let lines = lines_of_step n o (steps.Appoint a) closing in
        let rises : Epoch → Type 0 = λ (y : Epoch). IsChosen d.fleet (code y) (d.fleet.start (code y)) in
        let may = λ (is : is_active x ≡ true) (y : Epoch) (role : (has_role t.position.machine o.id y ≡ true) ⊎ IsFirst event y).
        let l = active_leads x x.leading refl is in
        let chosen = chosen_start d.fleet (code l.0.epoch) x.stable ((standing.leads l.0 l.1).chosen l.2) in
        subst (λ (k : Epoch). IsChosen d.fleet (code k) (d.fleet.start (code k))) (epoch l.0 l.1 ∙ sym (role_epoch y role)) chosen in
        finish (Open x) lines d.fleet rises (inside_early t.replicas p o up) moved d.rule (follows_now rises lines (lines_may rises ⊥ event n n o (steps.Appoint a) closing may tt asides))
        (λ y l is lead. epoch l (ap (λ (z : OpenReplica). z.leading) (same_open x y is) ∙ lead)) (λ y h. h)
        (λ y is. subst (λ (z : OpenReplica). IsStanding d.fleet p z) (same_open x y is) standing)
        (λ u c. subst IsKept (sym (only_member x.disk u c)) kept)

    pub taken_cut : MovesTo f (changed_at t p (Closed (cut_off o (steps.Appoint a))) (says.Fault p ∷ []))
    taken_cut =
        let c = start_cut f g p o a before now there due.coded given_log due.cc due.pc in
        let ws = cut_off o (steps.Appoint a) in
        finish (Closed ws) (says.Fault p ∷ []) c.0.fleet (λ e. ⊥) (inside_early t.replicas p o up) c.0.moved c.0.rule (follows_now (λ e. ⊥) (says.Fault p ∷ []) (tt, tt))
        (λ y l is lead. closed_open ws y is) (λ e none. absurd none) (λ y is. closed_open ws y is) c.1
