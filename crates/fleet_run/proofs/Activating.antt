-- An activation is a move of the replication laws, as its event begins.
use Rattle.std.proofs.Common.{◌≡◌, ◌∙◌, ℕ, suc, ◌-◌, true, false, Bool, cond, List, [], ◌∷◌, length, map, refl, sym, ap, ap₂, subst, arith, Option, Some, None, is_some}
use Rattle.std.specs.Prelude.{Contains, ◌&&◌, ◌||◌, option_map, slice_get}
use Rattle.std.specs.Option.{option_map_or}
use Rattle.std.specs.List.{find, list_any}
use Rattle.std.proofs.lemmas.Bool.{and_from, or_left, or_right, false≢true}
use Rattle.std.proofs.lemmas.List.{length-map}
use Rattle.std.proofs.lemmas.Option.{slice_get-map}
use Rattle.rc_base.specs.declared.ids.Epoch.{Epoch}
use Rattle.rc_base.specs.Ids.{is_epoch}
use Rattle.rc_base.proofs.SameIds.{is_epoch-true}
use Rattle.config_rule.specs.declared.appointments.Appointed.{Appointed}
use Rattle.config_rule.specs.Rule.{is_latest, was_active, broken_activation}
use Rattle.config_rule.proofs.Rising.{first_holds}
use Rattle.events.specs.declared.answer.Answer.TheVariants as answers
use Rattle.events.specs.declared.event.Event.TheVariants.{Activate}
use Rattle.log_records.specs.declared.record.Record.{Record}
use Rattle.order_machine.specs.Machine.{Machine, Appointment, as_appointed, appointment_of, known_of, has_role}
use Rattle.order_machine.specs.Transitions.{refusal, dropping, activating, activating_of}
use Rattle.fleet_laws.specs.Fleets.{Fleet, IsAppointed}
use Rattle.fleet_laws.specs.Choice.{IsChosen}
use Rattle.fleet_laws.specs.Moves.{Run, activated as activated_fleet}
use Rattle.fleet_laws.specs.Moves.Move.{activate}
use Rattle.fleet_laws.specs.Moves.Run.{rests, moves}
use Rattle.fleet_laws.proofs.Puts.{put_same, put_both, first_member}
use Rattle.fleet_laws.proofs.Runs.{reached_invariant, run_after}
use Rattle.fleet_run.specs.Scenes.{FleetReplica}
use Rattle.config_rule.specs.declared.answers.SurveyAnswer.{SurveyAnswer}
use Rattle.config_rule.specs.Rule.{answer_of}
use Rattle.fleet_laws.specs.Growth.{ComesAfter}
use Rattle.fleet_run.proofs.Ahead.{same_answers}
use Rattle.fleet_run.specs.Kernel.{AnswerMatches, Term, IsCoded, code, terms_of, term_of, latest_in}
use Rattle.fleet_run.specs.Sound.{Sound, has_begun}
use Rattle.fleet_run.proofs.MachineLines.{begun_in}
use Rattle.fleet_run.proofs.Moved.{begun_term, leading_after, run_then, term_coded}
use Rattle.fleet_run.proofs.Looking.{some_same}
use Rattle.fleet_run.proofs.Ruling.{booted_since, none_mapped, found_at}

-- ---- what an activation that isn't refused needs

found_one : (e : Epoch) (a : Appointment) (ones : List Appointment) (b : Bool) → is_epoch e a.epoch ≡ b → option_map_or (λ (x : Appointed). x.active) (cond b (Some (as_appointed a)) (find (λ (x : Appointed). is_epoch e x.epoch) (map as_appointed ones))) false ≡ true
    → (option_map_or (λ (x : Appointed). x.active) (find (λ (x : Appointed). is_epoch e x.epoch) (map as_appointed ones)) false ≡ true → begun_in e ones ≡ true) → begun_in e (a ∷ ones) ≡ true
found_one e a ones true is got rest = or_left (is_epoch e a.epoch && a.was_active) (begun_in e ones) (and_from (is_epoch e a.epoch) a.was_active is got)
found_one e a ones false is got rest = or_right (is_epoch e a.epoch && a.was_active) (begun_in e ones) (rest got)

begun_found : (e : Epoch) (ones : List Appointment) → option_map_or (λ (a : Appointed). a.active) (find (λ (a : Appointed). is_epoch e a.epoch) (map as_appointed ones)) false ≡ true → begun_in e ones ≡ true
begun_found e [] h = absurd (false≢true h)
begun_found e (a ∷ ones) h = found_one e a ones (is_epoch e a.epoch) refl h (begun_found e ones)

latest_is : (e : Epoch) (x : Option Appointment) → option_map_or (λ (a : Appointed). is_epoch e a.epoch) (option_map as_appointed x) false ≡ true → code e ≡ option_map_or (λ (t : Term). code t.epoch) (option_map term_of x) 0
latest_is e None h = absurd (false≢true h)
latest_is e (Some a) h = ap code (is_epoch-true e a.epoch h)

pub record ActivateIsFine (m : Machine) (e : Epoch) : Type 0 where
  pub latest : code e ≡ latest_in (terms_of m)
  pub begun : has_begun m e ≡ true

pub activate_is_fine : (m : Machine) (e : Epoch) → refusal m (Activate e) ≡ None → ActivateIsFine m e
activate_is_fine m e is =
    let since = booted_since m (option_map answers.Refused (broken_activation (known_of m) e)) is in
    let none = none_mapped answers.Refused (broken_activation (known_of m) e) since.1 in
    let known = map as_appointed m.appointments in
    let one = first_holds 7 (is_latest known e) (was_active known e ∷ []) none in
    let two = first_holds 8 (was_active known e) [] one.1 in
    let place = length m.appointments - 1 in
    let sized : length known - 1 ≡ place = ap (λ (k : ℕ). k - 1) (length-map m.appointments as_appointed) in
    let terms_sized : length (terms_of m) - 1 ≡ place = ap (λ (k : ℕ). k - 1) (length-map m.appointments term_of) in
    let at : option_map_or (λ (a : Appointed). is_epoch e a.epoch) (option_map as_appointed (slice_get m.appointments place)) false ≡ true =
    sym (ap (λ (k : ℕ). option_map_or (λ (a : Appointed). is_epoch e a.epoch) (slice_get known k) false) sized ∙ ap (λ (x : Option Appointed). option_map_or (λ (a : Appointed). is_epoch e a.epoch) x false) (slice_get-map as_appointed m.appointments place)) ∙ one.0 in
    record {
      latest = latest_is e (slice_get m.appointments place) at ∙ sym (ap (λ (k : ℕ). option_map_or (λ (t : Term). code t.epoch) (slice_get (terms_of m) k) 0) terms_sized ∙ ap (λ (x : Option Term). option_map_or (λ (t : Term). code t.epoch) x 0) (slice_get-map term_of m.appointments place));
      begun = begun_found e m.appointments two.0;
    }

-- ---- the machine

dropped_term : (a : Appointment) (b : Bool) → term_of (cond b (record a { dropped = true }) a) ≡ term_of a
dropped_term a true = refl
dropped_term a false = refl

dropped_terms : (e : Epoch) (ones : List Appointment) → map term_of (dropping e ones) ≡ map term_of ones
dropped_terms e [] = refl
dropped_terms e (a ∷ ones) = ap₂ (λ (t : Term) (ts : List Term). t ∷ ts) (dropped_term a (is_epoch e a.epoch)) (dropped_terms e ones)

dropped_one : (x : Epoch) (a : Appointment) (b : Bool) → (is_epoch x (cond b (record a { dropped = true }) a).epoch && (cond b (record a { dropped = true }) a).was_active) ≡ (is_epoch x a.epoch && a.was_active)
dropped_one x a true = refl
dropped_one x a false = refl

dropped_begun : (x e : Epoch) (ones : List Appointment) → begun_in x (dropping e ones) ≡ begun_in x ones
dropped_begun x e [] = refl
dropped_begun x e (a ∷ ones) = ap₂ (λ (b c : Bool). b || c) (dropped_one x a (is_epoch e a.epoch)) (dropped_begun x e ones)

-- what the machine is behind it
pub record IsActivated (m n : Machine) (now : List ℕ) : Type 0 where
  pub terms : terms_of n ≡ terms_of m
  pub config : n.config ≡ now
  pub answers : n.answers ≡ m.answers
  pub roles : (q : ℕ) (x : Epoch) → has_role n q x ≡ has_role m q x
  pub begun : (x : Epoch) → has_begun n x ≡ has_begun m x

dropped_if : (m : Machine) (a : Appointment) (b : Bool) → IsActivated m (record m { config = a.current; appointments = cond b (dropping a.epoch m.appointments) m.appointments }) a.current
dropped_if m a true = record { terms = dropped_terms a.epoch m.appointments; config = refl; answers = refl; roles = λ q x. refl; begun = λ x. dropped_begun x a.epoch m.appointments }
dropped_if m a false = record { terms = refl; config = refl; answers = refl; roles = λ q x. refl; begun = λ x. refl }

activated_of : (m : Machine) (a : Appointment) → IsActivated m (activating_of m a) a.current
activated_of m a = dropped_if m a (has_role m a.primary a.epoch)

term_found_step : (e : Epoch) (a : Appointment) (ones : List Appointment) (b : Bool) → is_epoch e a.epoch ≡ b → (b || list_any (λ (t : Term). is_epoch e t.epoch) (map term_of ones)) ≡ true
    → (list_any (λ (t : Term). is_epoch e t.epoch) (map term_of ones) ≡ true → (x : Appointment) × (find (λ (y : Appointment). is_epoch e y.epoch) ones ≡ Some x))
    → (x : Appointment) × (cond b (Some a) (find (λ (y : Appointment). is_epoch e y.epoch) ones) ≡ Some x)
term_found_step e a ones true is h rest = (a, refl)
term_found_step e a ones false is h rest = rest h

found_term_step : (e : Epoch) (a : Appointment) (ones : List Appointment) (x : Appointment) (b : Bool) → cond b (Some a) (find (λ (y : Appointment). is_epoch e y.epoch) ones) ≡ Some x
    → (find (λ (y : Appointment). is_epoch e y.epoch) ones ≡ Some x → Contains (map term_of ones) (term_of x)) → Contains (map term_of (a ∷ ones)) (term_of x)
found_term_step e a ones x true is rest = subst (λ (y : Appointment). Contains (map term_of (a ∷ ones)) (term_of y)) (some_same a x is) (first_member (term_of a) (map term_of ones))
found_term_step e a ones x false is rest = let c = rest is in (suc c.0, omega (arith, c.1), c.2)

found_term : (e : Epoch) (ones : List Appointment) (x : Appointment) → find (λ (y : Appointment). is_epoch e y.epoch) ones ≡ Some x → Contains (map term_of ones) (term_of x)
found_term e [] x is = absurd (false≢true (ap is_some is))
found_term e (a ∷ ones) x is = found_term_step e a ones x (is_epoch e a.epoch) is (found_term e ones x)

pub term_found : (e : Epoch) (ones : List Appointment) → list_any (λ (t : Term). is_epoch e t.epoch) (map term_of ones) ≡ true → (a : Appointment) × (find (λ (x : Appointment). is_epoch e x.epoch) ones ≡ Some a)
term_found e [] h = absurd (false≢true h)
term_found e (a ∷ ones) h = term_found_step e a ones (is_epoch e a.epoch) refl h (term_found e ones)

-- ---- the fleet

-- The machine and the fleet behind an activation: its configuration is the one there is.
pub record Activated (m : Machine) (replicas : List FleetReplica) (f : Fleet Record) (e : Epoch) : Type 0 where
  pub fleet : Fleet Record
  pub run : Run f fleet
  pub sound : Sound (activating m e) replicas fleet
  pub on : fleet.activated (code e) ≡ true

module _ (m : Machine) (replicas : List FleetReplica) (f : Fleet Record) (e : Epoch) (s : Sound m replicas f) (fine : ActivateIsFine m e) where
  abbrev g : Fleet Record
  g = activated_fleet f

  latest_is_e : f.latest ≡ code e
  latest_is_e = s.matches.rule.latest ∙ sym fine.latest

  there : list_any (λ (t : Term). is_epoch e t.epoch) (terms_of m) ≡ true
  there = begun_term e m.appointments fine.begun

  coded : IsCoded e × IsAppointed f (code e)
  coded = term_coded m f e s.matches.rule there

  chosen : IsChosen f f.latest (f.start f.latest)
  chosen = subst (λ (k : ℕ). IsChosen f k (f.start k)) (sym latest_is_e) (s.roles.begun e fine.begun)

  run_activated : Run f (activated_fleet f)
  run_activated = moves rests (activate (record { appointed = subst (λ (k : ℕ). IsAppointed f k) (sym latest_is_e) coded.1; chosen = chosen }))

  own : (a : Appointment) × (appointment_of m e ≡ Some a)
  own = term_found e m.appointments there

  machine_is : activating m e ≡ activating_of m own.0
  machine_is = ap (λ (x : Option Appointment). option_map_or (activating_of m) x m) own.1

  same_epoch_own : e ≡ own.0.epoch
  same_epoch_own = is_epoch-true e own.0.epoch (found_at (λ (x : Appointment). is_epoch e x.epoch) m.appointments own.0 own.1).0

  members_own : f.current (code e) ≡ own.0.current
  members_own = ap (λ (x : Epoch). f.current (code x)) same_epoch_own ∙ (s.matches.rule.members (term_of own.0) (found_term e m.appointments own.0 own.1)).0

  begins_after : ComesAfter f (activated_fleet f)
  begins_after = run_after f (activated_fleet f) (reached_invariant f s.reached) run_activated

  sound_activated : (n : Machine) → IsActivated m n own.0.current → Sound n replicas (activated_fleet f)
  sound_activated n is = record {
    reached = run_then s.reached run_activated;
    matches = record {
      values = s.matches.values;
      role = s.matches.role;
      no_copy = s.matches.no_copy;
      rule = record {
        coded = λ t c. s.matches.rule.coded t (subst (λ (ts : List Term). Contains ts t) is.terms c);
        appointed = λ x y. s.matches.rule.appointed x y ∙ ap (λ (ts : List Term). list_any (λ (t : Term). is_epoch x t.epoch) ts) (sym is.terms);
        only = s.matches.rule.only;
        members = λ t c. s.matches.rule.members t (subst (λ (ts : List Term). Contains ts t) is.terms c);
        some_member = λ t c. s.matches.rule.some_member t (subst (λ (ts : List Term). Contains ts t) is.terms c);
        latest = s.matches.rule.latest ∙ ap latest_in (sym is.terms);
        active = ap f.current latest_is_e ∙ members_own ∙ sym is.config;
        answers = λ x y r. subst (λ (as' : List SurveyAnswer). AnswerMatches (activated_fleet f) x r (answer_of as' x r)) (sym is.answers) (same_answers f (activated_fleet f) x r (answer_of m.answers x r) refl refl refl (s.matches.rule.answers x y r));
        surveyed = s.matches.rule.surveyed;
        unbooted = λ none. is.answers ∙ s.matches.rule.unbooted (sym is.terms ∙ none);
      };
    };
    roles = record {
      given = λ r x h. ap (λ (ts : List Term). list_any (λ (t : Term). is_epoch x t.epoch) ts) is.terms ∙ s.roles.given r x (sym (is.roles r x) ∙ h);
      led = λ r o l x up lead h. s.roles.led r o l x up lead (sym (is.roles r x) ∙ h);
      begun = λ x h.
          let had = sym (is.begun x) ∙ h in
          begins_after.chosen (code x) (f.start (code x)) (term_coded m f x s.matches.rule (begun_term x m.appointments had)).1 (s.roles.begun x had);
    };
    nine = s.nine;
    standing = λ r o up.
        let st = s.standing r o up in
        record {
          number = st.number;
          told = st.told;
          settled = st.settled;
          leads = λ l lead. leading_after f (activated_fleet f) s.reached run_activated r o l
              (record { history = refl; current = refl; previous = refl; activated = λ x. put_both (λ (b : Bool). b ≡ true) f.latest true f.activated (code l.epoch) (λ same. refl) (λ other. x) }) (st.leads l lead);
        };
    kept = s.kept;
  }

  pub activation : Activated m replicas f e
  activation = record {
    fleet = activated_fleet f;
    run = run_activated;
    sound = subst (λ (n : Machine). Sound n replicas (activated_fleet f)) (sym machine_is) (sound_activated (activating_of m own.0) (activated_of m own.0));
    on = put_same f.latest true f.activated (code e) (sym latest_is_e);
  }
