-- One replica changes by moves of the replication laws.
use Rattle.std.proofs.Common.{◌≡◌, ◌∙◌, ℕ, suc, ◌<◌, ◌≤◌, true, Bool, ◌⊎◌, List, [], ◌∷◌, length, map, set, refl, sym, ap, subst, inl, inr, arith, Option, Some, None}
use Rattle.std.specs.Prelude.{Contains, All, MatchOption}
use Rattle.std.specs.List.{list_any}
use Rattle.std.specs.Option.{option_map_or}
use Rattle.std.proofs.lemmas.Bool.{cases_eq, or_cases, or_left, or_right, and_parts, eq-eqb, false≢true, and_from}
use Rattle.std.proofs.lemmas.List.{length-set, get_or-set_same, get_or-set_other}
use Rattle.log_records.specs.declared.record.Record.{Record}
use Rattle.txn_table.specs.Whole.{Whole}
use Rattle.config_rule.specs.declared.answers.SurveyAnswer.{SurveyAnswer}
use Rattle.config_rule.specs.Rule.{answer_of}
use Rattle.rc_base.specs.declared.ids.Epoch.{Epoch}
use Rattle.rc_base.specs.Ids.{is_epoch}
use Rattle.rc_base.proofs.SameIds.{is_epoch-true}
use Rattle.events.specs.declared.event.Event.{Event}
use Rattle.order_machine.specs.Machine.{Machine, Appointment, has_role}
use Rattle.order_machine.specs.Transitions.{is_boot, first_epoch}
use Rattle.replica_model.specs.OpenReplica.{OpenReplica, Leading}
use Rattle.fleet_laws.specs.Fleets.{Fleet, Value, put, IsValueOf, IsAppointed}
use Rattle.fleet_laws.specs.Choice.{IsChosen}
use Rattle.fleet_laws.specs.Moves.{Run, IsReached, Turn, changed as changed_fleet}
use Rattle.fleet_laws.specs.Moves.Move.{change}
use Rattle.fleet_laws.specs.Moves.Run.{rests, moves}
use Rattle.fleet_laws.proofs.Puts.{put_same, put_other, put_both, first_member}
use Rattle.fleet_laws.proofs.Runs.{reached_invariant, run_after}
use Rattle.fleet_laws.proofs.Roles.{one_primary}
use Rattle.fleet_run.specs.Scenes.{FleetReplica, replica_at, held_by}
use Rattle.fleet_run.specs.Scenes.FleetReplica.{Open}
use Rattle.fleet_run.specs.Kernel.{Matches, RuleMatches, AnswerMatches, Term, term_of, IsCoded, code, values_of, role_of, terms_of, latest_in}
use Rattle.fleet_run.specs.Sound.{Sound, IsStanding, IsLeading, IsKept, SameMembers, RolesMatch, has_begun}
use Rattle.fleet_run.proofs.MachineLines.{Follows, begun_in}

-- ---- runs

pub run_then : {f g h : Fleet Record} → Run f g → Run g h → Run f h
run_then a rests = a
run_then a (moves b m) = moves (run_then a b) m

-- ---- one epoch

-- the epoch has the same history and the same members
pub record Alike (f g : Fleet Record) (d : ℕ) : Type 0 where
  pub history : g.history d ≡ f.history d
  pub current : g.current d ≡ f.current d
  pub previous : g.previous d ≡ f.previous d
  pub activated : f.activated d ≡ true → g.activated d ≡ true

pub alike_then : (f g h : Fleet Record) (d : ℕ) → Alike f g d → Alike g h d → Alike f h d
alike_then f g h d a b = record {
  history = b.history ∙ a.history;
  current = b.current ∙ a.current;
  previous = b.previous ∙ a.previous;
  activated = λ is. b.activated (a.activated is);
}

-- ---- one replica

-- The replica is another one now, and with it the fleet is one that moves reach; other epochs than that of its role are as they were.
pub record Moved (f g : Fleet Record) (r : ℕ) (now : FleetReplica) : Type 0 where
  pub run : Run f g
  pub values : (q : ℕ) → g.values q ≡ put r (values_of now) f.values q
  pub role : (q : ℕ) → g.role q ≡ put r (role_of now) f.role q
  pub no_copy : ((q : ℕ) → f.copying q ≡ 0) → (q : ℕ) → g.copying q ≡ 0
  pub elsewhere : (d : ℕ) → IsAppointed f d → (f.role r ≡ d → ⊥) → Alike f g d

pub put_twice : {A : Type 0} (n : ℕ) (x y : A) (f g : ℕ → A) (m : ℕ) → g m ≡ put n x f m → put n y g m ≡ put n y f m
put_twice n x y f g m is = put_both (λ (z : _). z ≡ put n y f m) n y g m
    (λ e. sym (put_same n y f m e))
    (λ ne. is ∙ put_other n x f m ne ∙ sym (put_other n y f m ne))

-- one change after another, where the first leaves the role
pub moved_then : (f g h : Fleet Record) (r : ℕ) (x y : FleetReplica) → IsReached f → g.role r ≡ f.role r → Moved f g r x → Moved g h r y → Moved f h r y
moved_then f g h r x y reached role a b = record {
  run = run_then a.run b.run;
  values = λ q. b.values q ∙ put_twice r (values_of x) (values_of y) f.values g.values q (a.values q);
  role = λ q. b.role q ∙ put_twice r (role_of x) (role_of y) f.role g.role q (a.role q);
  no_copy = λ none q. b.no_copy (a.no_copy none) q;
  elsewhere = λ d is ne. alike_then f g h d (a.elsewhere d is ne) (b.elsewhere d ((run_after f g (reached_invariant f reached) a.run).appointed d is) (λ e. ne (sym role ∙ e)));
}

-- nothing changes that the laws see
pub unmoved : (f : Fleet Record) (r : ℕ) (now : FleetReplica) → f.values r ≡ values_of now → f.role r ≡ role_of now → Moved f f r now
unmoved f r now values role = record {
  run = rests;
  values = λ q. sym (put_both (λ (vs : List (Value Record)). vs ≡ f.values q) r (values_of now) f.values q (λ e. sym values ∙ ap f.values (sym e)) (λ ne. refl));
  role = λ q. sym (put_both (λ (n : ℕ). n ≡ f.role q) r (role_of now) f.role q (λ e. sym role ∙ ap f.role (sym e)) (λ ne. refl));
  no_copy = λ none. none;
  elsewhere = λ d is ne. record { history = refl; current = refl; previous = refl; activated = λ x. x };
}

-- one change of its values
pub one_change : (f : Fleet Record) (r : ℕ) (now : FleetReplica) → (role_of now ≡ 0) ⊎ (role_of now ≡ f.role r) → 1 ≤ length (values_of now)
    → All (λ w. (v : Value Record) × IsValueOf f r v × Turn f r v w) (values_of now) → Moved f (changed_fleet f r (values_of now) (role_of now) 0) r now
one_change f r now role some turns = record {
  run = moves rests (change r (values_of now) (role_of now) 0 (record { some_value = some; turns = turns; keeps_role = role; keeps_copy = inl refl }));
  values = λ q. refl;
  role = λ q. refl;
  no_copy = λ none q. put_both (λ (n : ℕ). n ≡ 0) r 0 f.copying q (λ e. refl) (λ ne. none q);
  elsewhere = λ d is ne. record { history = refl; current = refl; previous = refl; activated = λ x. x };
}

-- ---- the rule

-- the rule is the same
pub record SameRule (f g : Fleet Record) : Type 0 where
  pub appointed : g.appointed ≡ f.appointed
  pub current : g.current ≡ f.current
  pub previous : g.previous ≡ f.previous
  pub latest : g.latest ≡ f.latest
  pub active : g.active ≡ f.active
  pub answered : g.answered ≡ f.answered
  pub told_epoch : g.told_epoch ≡ f.told_epoch
  pub told_length : g.told_length ≡ f.told_length

pub same_rule : (f : Fleet Record) → SameRule f f
same_rule f = record { appointed = refl; current = refl; previous = refl; latest = refl; active = refl; answered = refl; told_epoch = refl; told_length = refl }

pub rule_then : (f g h : Fleet Record) → SameRule f g → SameRule g h → SameRule f h
rule_then f g h a b = record {
  appointed = b.appointed ∙ a.appointed;
  current = b.current ∙ a.current;
  previous = b.previous ∙ a.previous;
  latest = b.latest ∙ a.latest;
  active = b.active ∙ a.active;
  answered = b.answered ∙ a.answered;
  told_epoch = b.told_epoch ∙ a.told_epoch;
  told_length = b.told_length ∙ a.told_length;
}

answer_after : (f g : Fleet Record) (e : Epoch) (r : ℕ) (answer : Option SurveyAnswer) → SameRule f g → AnswerMatches f e r answer → AnswerMatches g e r answer
answer_after f g e r None same is = ap (λ (h : ℕ → ℕ → Bool). h (code e) r) same.answered ∙ is
answer_after f g e r (Some a) same is = (
  ap (λ (h : ℕ → ℕ → Bool). h (code e) r) same.answered ∙ is.0,
  ap (λ (h : ℕ → ℕ → ℕ). h (code e) r) same.told_epoch ∙ is.1,
  ap (λ (h : ℕ → ℕ → ℕ). h (code e) r) same.told_length ∙ is.2,
  is.3,
)

pub rule_after : (m : Machine) (f g : Fleet Record) → SameRule f g → RuleMatches m f → RuleMatches m g
rule_after m f g same is = record {
  coded = is.coded;
  appointed = λ e coded. ap (λ (h : ℕ → Bool). h (code e)) same.appointed ∙ is.appointed e coded;
  only = λ n yes. is.only n (sym (ap (λ (h : ℕ → Bool). h n) same.appointed) ∙ yes);
  members = λ t there. (ap (λ (h : ℕ → List ℕ). h (code t.epoch)) same.current ∙ (is.members t there).0, ap (λ (h : ℕ → List ℕ). h (code t.epoch)) same.previous ∙ (is.members t there).1);
  some_member = is.some_member;
  latest = same.latest ∙ is.latest;
  active = ap (λ (h : ℕ → List ℕ). h g.active) same.current ∙ ap f.current same.active ∙ is.active;
  answers = λ e coded r. answer_after f g e r (answer_of m.answers e r) same (is.answers e coded r);
  surveyed = λ n r yes. is.surveyed n r (sym (ap (λ (h : ℕ → ℕ → Bool). h n r) same.answered) ∙ yes);
  unbooted = is.unbooted;
}

-- the machine has changed, and not what the rule speaks of
pub record SameTerms (old new : Machine) : Type 0 where
  pub terms : terms_of new ≡ terms_of old
  pub config : new.config ≡ old.config
  pub answers : new.answers ≡ old.answers

pub rule_machine : (m n : Machine) (f : Fleet Record) → SameTerms m n → RuleMatches m f → RuleMatches n f
rule_machine m n f same is = record {
  coded = λ t there. is.coded t (subst (λ (ts : List Term). Contains ts t) same.terms there);
  appointed = λ e coded. is.appointed e coded ∙ ap (λ (ts : List Term). list_any (λ (t : Term). is_epoch e t.epoch) ts) (sym same.terms);
  only = is.only;
  members = λ t there. is.members t (subst (λ (ts : List Term). Contains ts t) same.terms there);
  some_member = λ t there. is.some_member t (subst (λ (ts : List Term). Contains ts t) same.terms there);
  latest = is.latest ∙ ap latest_in (sym same.terms);
  active = is.active ∙ sym same.config;
  answers = λ e coded r. subst (λ (xs : List SurveyAnswer). AnswerMatches f e r (answer_of xs e r)) (sym same.answers) (is.answers e coded r);
  surveyed = is.surveyed;
  unbooted = λ none. same.answers ∙ is.unbooted (sym same.terms ∙ none);
}

pub same_terms : (event : Event) (rises : Epoch → Type 0) (m n : Machine) → Follows event rises ⊥ m n → SameTerms m n
same_terms event rises m n x = record { terms = x.terms; config = x.config; answers = elim x.answers [ inl is ↦ is | inr none ↦ absurd none ] }

-- ---- what holds of the others

previous_after : (f g : Fleet Record) (d : ℕ) (p : Option (List ℕ)) → Alike f g d → MatchOption p (f.activated d ≡ true) (λ members. SameMembers members (f.previous d)) → MatchOption p (g.activated d ≡ true) (λ members. SameMembers members (g.previous d))
previous_after f g d None alike is = alike.activated is
previous_after f g d (Some members) alike is = subst (λ (c : List ℕ). SameMembers members c) (sym alike.previous) is

pub leading_after : (f g : Fleet Record) → IsReached f → Run f g → (q : ℕ) (o : OpenReplica) (l : Leading) → Alike f g (code l.epoch) → IsLeading f q o l → IsLeading g q o l
leading_after f g reached run q o l alike is =
    let after = run_after f g (reached_invariant f reached) run in
    let e = code l.epoch in
    record {
      coded = is.coded;
      appointed = after.appointed e is.appointed;
      last = is.last;
      all = alike.history ∙ is.all;
      current = subst (λ (c : List ℕ). SameMembers l.current c) (sym alike.current) is.current;
      previous = previous_after f g e l.previous alike is.previous;
      reached = λ p. omega (arith, is.reached p, after.acknowledged p e);
      own = omega (arith, is.own, after.acknowledged q e);
      chosen = λ a. after.chosen e o.stable is.appointed (is.chosen a);
      waits = λ n. omega (arith, is.waits n, after.start e is.appointed);
    }

pub role_is : (o : OpenReplica) (l : Leading) → o.leading ≡ Some l → role_of (Open o) ≡ code l.epoch
role_is o l lead = ap (λ (x : Option Leading). option_map_or (λ (y : Leading). code y.epoch) x 0) lead

pub there_now : (replicas : List FleetReplica) (r q : ℕ) (now : FleetReplica) → r < length replicas → q ≡ r → now ≡ replica_at (set replicas r now) q
there_now replicas r q now within e = sym (subst (λ (n : ℕ). replica_at (set replicas r now) n ≡ now) (sym e) (get_or-set_same replicas r now _ within))

pub as_before : (replicas : List FleetReplica) (r q : ℕ) (now : FleetReplica) → (q ≡ r → ⊥) → replica_at replicas q ≡ replica_at (set replicas r now) q
as_before replicas r q now ne = sym (get_or-set_other replicas r q now _ ne)

-- ---- what the machine knows of primaries

pub term_there : (e : Epoch) (ts : List Term) → list_any (λ (t : Term). is_epoch e t.epoch) ts ≡ true → (t : Term) × Contains ts t × (e ≡ t.epoch)
term_there e [] h = absurd (false≢true h)
term_there e (t ∷ ts) h = elim (or_cases _ _ h) [
  | inl is ↦ (t, first_member t ts, is_epoch-true e t.epoch is)
  | inr others ↦ let x = term_there e ts others in (x.0, (suc x.1.0, omega (arith, x.1.1), x.1.2), x.2)
]

pub one_term : (e : Epoch) (ts : List Term) (t : Term) → ts ≡ t ∷ [] → list_any (λ (x : Term). is_epoch e x.epoch) ts ≡ true → e ≡ t.epoch
one_term e ts t is h = elim (or_cases _ _ (subst (λ (xs : List Term). list_any (λ (x : Term). is_epoch e x.epoch) xs ≡ true) is h)) [
  | inl same ↦ is_epoch-true e t.epoch same
  | inr none ↦ absurd (false≢true none)
]

pub same_epoch : (e : Epoch) → is_epoch e e ≡ true
same_epoch e = and_from _ _ (eq-eqb e.loss e.loss refl) (eq-eqb e.number e.number refl)

pub begun_term : (e : Epoch) (ones : List Appointment) → begun_in e ones ≡ true → list_any (λ (t : Term). is_epoch e t.epoch) (map term_of ones) ≡ true
begun_term e [] h = h
begun_term e (a ∷ ones) h = elim (or_cases _ _ h) [
  | inl one ↦ or_left (is_epoch e a.epoch) (list_any (λ (t : Term). is_epoch e t.epoch) (map term_of ones)) (and_parts (is_epoch e a.epoch) a.was_active one).0
  | inr others ↦ or_right (is_epoch e a.epoch) (list_any (λ (t : Term). is_epoch e t.epoch) (map term_of ones)) (begun_term e ones others)
]

-- an epoch of one of the terms has a number of its own, and was appointed
pub term_coded : (m : Machine) (f : Fleet Record) (e : Epoch) → RuleMatches m f → list_any (λ (t : Term). is_epoch e t.epoch) (terms_of m) ≡ true → IsCoded e × IsAppointed f (code e)
term_coded m f e rule h =
    let t = term_there e (terms_of m) h in
    let coded : IsCoded e = subst IsCoded (sym t.2) (rule.coded t.0 t.1) in
    (coded, rule.appointed e coded ∙ h)

-- in a boot the first epoch is the only one that was appointed
abbrev pub IsOneTerm : Event → Machine → Type 0
IsOneTerm event m = is_boot event ≡ true → (t : Term) × (terms_of m ≡ t ∷ []) × (t.epoch ≡ first_epoch)

module _ (event : Event) (rises : Epoch → Type 0) (tells : Type 0) (m n : Machine) (f g : Fleet Record) (rule : RuleMatches m f) (boots : IsOneTerm event m) (x : Follows event rises tells m n) (reached : IsReached f) (run : Run f g) where
  begun_after : ((e : Epoch) → has_begun m e ≡ true → IsChosen f (code e) (f.start (code e))) → ((e : Epoch) → rises e → IsChosen g (code e) (g.start (code e))) → (e : Epoch) → has_begun n e ≡ true → IsChosen g (code e) (g.start (code e))
  begun_after before risen e h = elim (x.begun e h) [
    | inr new ↦ risen e new
    | inl old ↦
        let after = run_after f g (reached_invariant f reached) run in
        let is = (term_coded m f e rule (begun_term e m.appointments old)).1 in
        subst (λ (k : ℕ). IsChosen g (code e) k) (sym (after.start (code e) is)) (after.chosen (code e) (f.start (code e)) is (before e old))
  ]

  given_after : ((r : ℕ) (e : Epoch) → has_role m r e ≡ true → list_any (λ (t : Term). is_epoch e t.epoch) (terms_of m) ≡ true) → (r : ℕ) (e : Epoch) → has_role n r e ≡ true → list_any (λ (t : Term). is_epoch e t.epoch) (terms_of n) ≡ true
  given_after before r e h =
      let there : list_any (λ (t : Term). is_epoch e t.epoch) (terms_of m) ≡ true = elim (x.roles r e h) [
        | inl old ↦ before r e old
        | inr first ↦
            let one = boots first.0 in
            subst (λ (ts : List Term). list_any (λ (t : Term). is_epoch e t.epoch) ts ≡ true) (sym one.1) (or_left _ _ (subst (λ (y : Epoch). is_epoch e y ≡ true) (first.1 ∙ sym one.2) (same_epoch e)))
      ] in
      ap (λ (ts : List Term). list_any (λ (t : Term). is_epoch e t.epoch) ts) x.terms ∙ there

  led_after : (r : ℕ) (l e : Epoch) → IsAppointed f (code l) → IsCoded l → (has_role m r e ≡ true → e ≡ l) → has_role n r e ≡ true → e ≡ l
  led_after r l e is coded before h = elim (x.roles r e h) [
    | inl old ↦ before old
    | inr first ↦ let one = boots first.0 in first.1 ∙ sym one.2 ∙ sym (one_term l (terms_of m) one.0 one.1 (sym (rule.appointed l coded) ∙ is))
  ]

-- ---- the fleet

-- the epoch of an open replica that leads is that of the one before
abbrev pub KeepsEpoch : FleetReplica → FleetReplica → Type 0
KeepsEpoch old now = (o : OpenReplica) (l : Leading) → now ≡ Open o → o.leading ≡ Some l → (x : OpenReplica) × (y : Leading) × (old ≡ Open x) × (x.leading ≡ Some y) × (l.epoch ≡ y.epoch)

module _ (m n : Machine) (replicas : List FleetReplica) (f g : Fleet Record) (r : ℕ) (now : FleetReplica) (s : Sound m replicas f) (within : r < length replicas) (moved : Moved f g r now) where
  standing_other : (q : ℕ) (o : OpenReplica) → (q ≡ r → ⊥) → replica_at replicas q ≡ Open o → IsStanding g q o
  standing_other q o ne up =
      let st = s.standing q o up in
      record {
        number = st.number;
        told = st.told;
        settled = st.settled;
        leads = λ l lead.
            let is = st.leads l lead in
            let e = code l.epoch in
            let one : 1 ≤ e = ((reached_invariant f s.reached).branches e is.appointed).positive in
            let own : f.role q ≡ e = s.matches.role q ∙ ap role_of up ∙ role_is o l lead in
            leading_after f g s.reached moved.run q o l (moved.elsewhere e is.appointed (λ other. ne (sym (one_primary f s.reached r q e one other own)))) is;
      }

  matches_after : RuleMatches n g → Matches n (set replicas r now) g
  matches_after rule = record {
    values = λ q. moved.values q ∙ put_both (λ (vs : List (Value Record)). vs ≡ values_of (replica_at (set replicas r now) q)) r (values_of now) f.values q
        (λ e. ap values_of (there_now replicas r q now within e)) (λ ne. s.matches.values q ∙ ap values_of (as_before replicas r q now ne));
    role = λ q. moved.role q ∙ put_both (λ (k : ℕ). k ≡ role_of (replica_at (set replicas r now) q)) r (role_of now) f.role q
        (λ e. ap role_of (there_now replicas r q now within e)) (λ ne. s.matches.role q ∙ ap role_of (as_before replicas r q now ne));
    no_copy = moved.no_copy s.matches.no_copy;
    rule = rule;
  }

  -- The fleet is sound with what the replica is now, if that is as it has to be.
  pub sound_after : RuleMatches n g → RolesMatch n (set replicas r now) g → ((o : OpenReplica) → now ≡ Open o → IsStanding g r o) → ((w : Whole) → Contains (held_by now) w → IsKept w) → Sound n (set replicas r now) g
  sound_after rule roles standing kept = record {
    reached = run_then s.reached moved.run;
    matches = matches_after rule;
    roles = roles;
    nine = length-set replicas r now ∙ s.nine;
    standing = λ q o up. elim (cases_eq q r) [
      | inl e ↦ subst (λ (k : ℕ). IsStanding g k o) (sym e) (standing o (there_now replicas r q now within e ∙ up))
      | inr ne ↦ standing_other q o ne (as_before replicas r q now ne ∙ up)
    ];
    kept = λ q w there. elim (cases_eq q r) [
      | inl e ↦ kept w (subst (λ (x : FleetReplica). Contains (held_by x) w) (sym (there_now replicas r q now within e)) there)
      | inr ne ↦ s.kept q w (subst (λ (x : FleetReplica). Contains (held_by x) w) (sym (as_before replicas r q now ne)) there)
    ];
  }

  -- What the machine knows of primaries is so behind lines that follow, if a replica that leads does so in the epoch in which it did.
  pub roles_after : (event : Event) (rises : Epoch → Type 0) (tells : Type 0) → IsOneTerm event m → Follows event rises tells m n → KeepsEpoch (replica_at replicas r) now → ((e : Epoch) → rises e → IsChosen g (code e) (g.start (code e)))
      → RolesMatch n (set replicas r now) g
  roles_after event rises tells boots x keeps risen = record {
    given = given_after event rises tells m n f g s.matches.rule boots x s.reached moved.run s.roles.given;
    led = λ q o l e up lead h. elim (cases_eq q r) [
      | inl is ↦
          let old = keeps o l (there_now replicas r q now within is ∙ up) lead in
          let st = (s.standing r old.0 old.2).leads old.1 old.3 in
          led_after event rises tells m n f g s.matches.rule boots x s.reached moved.run q old.1.epoch e st.appointed st.coded (λ had. s.roles.led r old.0 old.1 e old.2 old.3 (subst (λ (k : ℕ). has_role m k e ≡ true) is had)) h ∙ sym old.4
      | inr ne ↦
          let before = as_before replicas r q now ne ∙ up in
          let st = (s.standing q o before).leads l lead in
          led_after event rises tells m n f g s.matches.rule boots x s.reached moved.run q l.epoch e st.appointed st.coded (λ had. s.roles.led q o l e before lead had) h
    ];
    begun = begun_after event rises tells m n f g s.matches.rule boots x s.reached moved.run s.roles.begun risen;
  }

-- another machine
pub sound_machine : (event : Event) (rises : Epoch → Type 0) (m n : Machine) (replicas : List FleetReplica) (f : Fleet Record) → IsOneTerm event m → Follows event rises ⊥ m n → ((e : Epoch) → rises e → IsChosen f (code e) (f.start (code e))) → Sound m replicas f
    → Sound n replicas f
sound_machine event rises m n replicas f boots x risen s = record {
  reached = s.reached;
  matches = record { values = s.matches.values; role = s.matches.role; no_copy = s.matches.no_copy; rule = rule_machine m n f (same_terms event rises m n x) s.matches.rule };
  roles = record {
    given = given_after event rises ⊥ m n f f s.matches.rule boots x s.reached rests s.roles.given;
    led = λ q o l e up lead h.
        let st = (s.standing q o up).leads l lead in
        led_after event rises ⊥ m n f f s.matches.rule boots x s.reached rests q l.epoch e st.appointed st.coded (λ had. s.roles.led q o l e up lead had) h;
    begun = begun_after event rises ⊥ m n f f s.matches.rule boots x s.reached rests s.roles.begun risen;
  };
  nine = s.nine;
  standing = s.standing;
  kept = s.kept;
}

pub one_term_after : (event : Event) (rises : Epoch → Type 0) (tells : Type 0) (m n : Machine) → Follows event rises tells m n → IsOneTerm event m → IsOneTerm event n
one_term_after event rises tells m n x boots = λ is. let one = boots is in (one.0, x.terms ∙ one.1, one.2)
