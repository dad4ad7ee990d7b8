-- A machine that is one appointment ahead of the replicas.
use Rattle.std.proofs.Common.{◌≡◌, ◌∙◌, ℕ, suc, ◌-◌, ◌<◌, ◌≤◌, true, false, Bool, ◌⊎◌, List, [], ◌∷◌, ◌++◌, length, map, set, refl, sym, ap, subst, inl, inr, arith, Option, Some, None}
use Rattle.std.specs.Prelude.{Contains, ◌&&◌, ◌||◌, slice_get}
use Rattle.std.specs.Option.{option_map_or}
use Rattle.std.specs.List.{list_any}
use Rattle.std.proofs.lemmas.Bool.{cases_Bool, cases_eq, cases_lt, or_cases, or_left, or_right, and_parts, false≢true, both_ways}
use Rattle.std.proofs.lemmas.List.{length-append, map-append, get_or-set_same, get_or-set_other, get_or_past, length-set, get_or_push}
use Rattle.std.proofs.lemmas.List.Folds.{list_any-append}
use Rattle.std.proofs.lemmas.List.Elements.{Contains-append_cases}
use Rattle.std.proofs.lemmas.Option.{slice_get-get_or}
use Rattle.rc_base.specs.declared.ids.Epoch.{Epoch}
use Rattle.rc_base.specs.Ids.{is_epoch}
use Rattle.rc_base.proofs.SameIds.{is_epoch-true}
use Rattle.config_rule.specs.declared.answers.SurveyAnswer.{SurveyAnswer}
use Rattle.config_rule.specs.Rule.{answer_of}
use Rattle.events.specs.declared.event.Event.{Event}
use Rattle.log_records.specs.declared.record.Record.{Record}
use Rattle.order_machine.specs.Machine.{Machine, Appointment, Replica, has_role, replica, put_replica, without_role, never_opened}
use Rattle.order_machine.specs.Transitions.{appointing, booting, new_role, is_boot, first_epoch}
use Rattle.replica_model.specs.OpenReplica.{OpenReplica, Leading}
use Rattle.fleet_laws.specs.Fleets.{Fleet, put}
use Rattle.fleet_laws.specs.Choice.{IsChosen}
use Rattle.fleet_laws.proofs.Puts.{put_same, put_other, put_split, only_member}
use Rattle.fleet_laws.proofs.Runs.{reached_invariant, run_after}
use Rattle.txn_table.specs.Whole.{Whole}
use Rattle.fleet_run.specs.Scenes.{FleetReplica, held_by}
use Rattle.fleet_run.specs.Scenes.FleetReplica.{Open}
use Rattle.fleet_run.specs.Kernel.{RuleMatches, AnswerMatches, Term, IsCoded, code, terms_of, term_of, latest_in}
use Rattle.fleet_run.specs.Sound.{Sound, IsStanding, IsKept, RolesMatch, has_begun}
use Rattle.fleet_run.proofs.Codes.{same_code}
use Rattle.fleet_run.proofs.MachineLines.{Follows, is_role_of, begun_in}
use Rattle.fleet_run.proofs.Moved.{Moved, same_epoch, begun_term, there_now, as_before, term_coded, sound_after}

-- a term of the epoch with these configurations
abbrev pub new_term : Epoch → List ℕ → List ℕ → Term
new_term e previous current = record { epoch = e; previous = previous; current = current }

-- The second machine has one appointment more, of p to e; and no roles but those of before, of others than p, and that of e. In a boot there
-- was no appointment before.
pub record IsAhead (m n : Machine) (e : Epoch) (p : ℕ) (before now : List ℕ) : Type 0 where
  pub terms : terms_of n ≡ terms_of m ++ new_term e before now ∷ []
  pub answers : n.answers ≡ m.answers
  pub roles : (q : ℕ) (x : Epoch) → has_role n q x ≡ true → ((has_role m q x ≡ true) × (q ≡ p → ⊥)) ⊎ ((x ≡ e) × ((q ≡ p) ⊎ (terms_of m ≡ [])))
  pub begun : (x : Epoch) → has_begun n x ≡ true → has_begun m x ≡ true

-- in a boot the first epoch is to be appointed, and none was
abbrev pub IsFirstOf : Event → Machine → Epoch → Type 0
IsFirstOf event m e = is_boot event ≡ true → (terms_of m ≡ []) × (e ≡ first_epoch)

-- lines leave it one appointment ahead
pub still_ahead : (event : Event) (m n k : Machine) (e : Epoch) (p : ℕ) (before now : List ℕ) → IsFirstOf event m e → Follows event (λ x. ⊥) ⊥ n k → IsAhead m n e p before now → IsAhead m k e p before now
still_ahead event m n k e p before now boots x is = record {
  terms = x.terms ∙ is.terms;
  answers = elim x.answers [ inl same ↦ same ∙ is.answers | inr none ↦ absurd none ];
  roles = λ q y h. elim (x.roles q y h) [
    | inl had ↦ is.roles q y had
    | inr first ↦ let b = boots first.0 in inr (first.1 ∙ sym b.1, inr b.0)
  ];
  begun = λ y h. elim (x.begun y h) [ inl had ↦ is.begun y had | inr none ↦ absurd none ];
}

-- ---- how an appointment begins

begun_push : (x : Epoch) (ones : List Appointment) (a : Appointment) → a.was_active ≡ false → begun_in x (ones ++ a ∷ []) ≡ true → begun_in x ones ≡ true
begun_push x ones a idle h = elim (or_cases (begun_in x ones) (begun_in x (a ∷ [])) (sym (list_any-append (λ (y : Appointment). is_epoch x y.epoch && y.was_active) ones (a ∷ [])) ∙ h)) [
  | inl old ↦ old
  | inr new ↦ elim (or_cases (is_epoch x a.epoch && a.was_active) false new) [
    | inl one ↦ absurd (both_ways a.was_active idle (and_parts (is_epoch x a.epoch) a.was_active one).1)
    | inr none ↦ absurd (false≢true none)
  ]
]

ended_replica : (m : Machine) (p q : ℕ) (y : Replica) → (q ≡ p → ⊥) → replica (put_replica (without_role m p) p y) q ≡ replica m q
ended_replica m p q y ne = get_or-set_other (without_role m p).replicas p q y never_opened ne ∙ get_or-set_other m.replicas p q _ never_opened ne

appointed_role : (m : Machine) (e : Epoch) (p : ℕ) (x : Epoch) (y : Replica) → y.role ≡ Some (new_role e) → is_role_of x (replica (put_replica (without_role m p) p y) p).role ≡ true → x ≡ e
appointed_role m e p x y role h = elim (cases_lt p (length (without_role m p).replicas)) [
  | inl within ↦
      let at : is_role_of x y.role ≡ true = subst (λ (z : Replica). is_role_of x z.role ≡ true) (get_or-set_same (without_role m p).replicas p y never_opened within) h in
      is_epoch-true x e (sym (ap (is_role_of x) role) ∙ at)
  | inr past ↦
      let size : length (set (without_role m p).replicas p y) ≤ p = omega (arith, length-set (without_role m p).replicas p y, past) in
      absurd (false≢true (sym (ap (λ (z : Replica). is_role_of x z.role) (get_or_past (set (without_role m p).replicas p y) p never_opened size)) ∙ h))
]

pub appointing_ahead : (m : Machine) (e : Epoch) (p : ℕ) (members : List ℕ) → IsAhead m (appointing m e p members) e p m.config members
appointing_ahead m e p members = record {
  terms = map-append term_of m.appointments _;
  answers = refl;
  roles = λ q x h. elim (cases_eq q p) [
    | inl is ↦ inr (appointed_role m e p x _ refl (subst (λ (k : ℕ). has_role (appointing m e p members) k x ≡ true) is h), inl is)
    | inr ne ↦ inl (subst (λ (z : Replica). is_role_of x z.role ≡ true) (ended_replica m p q _ ne) h, ne)
  ];
  begun = λ x h. begun_push x m.appointments _ refl h;
}

pub booting_ahead : (m : Machine) (p : ℕ) (members : List ℕ) → m.appointments ≡ [] → ((r : ℕ) (e : Epoch) → has_role m r e ≡ true → list_any (λ (t : Term). is_epoch e t.epoch) (terms_of m) ≡ true) → IsAhead m (booting m p members) first_epoch p members members
booting_ahead m p members none given = record {
  terms = ap (λ (ones : List Appointment). map term_of ones ++ new_term first_epoch members members ∷ []) (sym none);
  answers = refl;
  roles = λ q x h. absurd (false≢true (sym (ap (λ (ones : List Appointment). list_any (λ (t : Term). is_epoch x t.epoch) (map term_of ones)) none) ∙ given q x h));
  begun = λ x h. elim (or_cases (is_epoch x first_epoch && false) false h) [
    | inl one ↦ absurd (false≢true (and_parts (is_epoch x first_epoch) false one).1)
    | inr nothing ↦ absurd (false≢true nothing)
  ];
}

-- ---- the rule behind an appointment

or_none : (b : Bool) → (b || (false || false)) ≡ b
or_none true = refl
or_none false = refl

latest_push : (ts : List Term) (t : Term) → latest_in (ts ++ t ∷ []) ≡ code t.epoch
latest_push ts t =
    let size : length (ts ++ t ∷ []) ≡ suc (length ts) = omega (arith, length-append ts (t ∷ [])) in
    let at : length (ts ++ t ∷ []) - 1 ≡ length ts = omega (arith, size) in
    ap (λ (k : ℕ). option_map_or (λ (x : Term). code x.epoch) (slice_get (ts ++ t ∷ []) k) 0) at
    ∙ ap (λ (x : Option Term). option_map_or (λ (y : Term). code y.epoch) x 0) (slice_get-get_or (ts ++ t ∷ []) (length ts) t (omega (arith, size)))
    ∙ ap (λ (x : Term). code x.epoch) (get_or_push ts t t (length ts) refl)

not_none : {A : Type 0} (x : A) (xs : List A) → xs ++ x ∷ [] ≡ [] → ⊥
not_none x xs is = omega (arith, length-append xs (x ∷ []), ap length is)

-- what the abstract fleet has of an appointment of e
pub record HasTerm (f g : Fleet Record) (e : ℕ) (before now : List ℕ) : Type 0 where
  pub appointed : g.appointed ≡ put e true f.appointed
  pub current : g.current ≡ put e now f.current
  pub previous : g.previous ≡ put e before f.previous
  pub latest : g.latest ≡ e
  pub answered : g.answered ≡ f.answered
  pub told_epoch : g.told_epoch ≡ f.told_epoch
  pub told_length : g.told_length ≡ f.told_length

pub same_answers : (f g : Fleet Record) (e : Epoch) (r : ℕ) (answer : Option SurveyAnswer) → g.answered ≡ f.answered → g.told_epoch ≡ f.told_epoch → g.told_length ≡ f.told_length → AnswerMatches f e r answer → AnswerMatches g e r answer
same_answers f g e r None a b c is = ap (λ (h : ℕ → ℕ → Bool). h (code e) r) a ∙ is
same_answers f g e r (Some x) a b c is = (
  ap (λ (h : ℕ → ℕ → Bool). h (code e) r) a ∙ is.0,
  ap (λ (h : ℕ → ℕ → ℕ). h (code e) r) b ∙ is.1,
  ap (λ (h : ℕ → ℕ → ℕ). h (code e) r) c ∙ is.2,
  is.3,
)

module _ (m n : Machine) (f g : Fleet Record) (e : Epoch) (p : ℕ) (before now : List ℕ) (rule : RuleMatches m f) (ahead : IsAhead m n e p before now) (has : HasTerm f g (code e) before now) (coded : IsCoded e) (fresh : (t : Term) → Contains (terms_of m) t → code t.epoch ≡ code e → ⊥) (some : 1 ≤ length now) (config : g.current g.active ≡ n.config) where
  abbrev new : Term
  new = new_term e before now

  term_cases : (t : Term) → Contains (terms_of n) t → Contains (terms_of m) t ⊎ (t ≡ new_term e before now)
  term_cases t there = elim (Contains-append_cases (terms_of m) (new ∷ []) t (subst (λ (ts : List Term). Contains ts t) ahead.terms there)) [
    | inl old ↦ inl old
    | inr is ↦ inr (only_member new t is)
  ]

  in_terms : (x : Epoch) → list_any (λ (t : Term). is_epoch x t.epoch) (terms_of n) ≡ (list_any (λ (t : Term). is_epoch x t.epoch) (terms_of m) || (is_epoch x e || false))
  in_terms x = ap (λ (ts : List Term). list_any (λ (t : Term). is_epoch x t.epoch) ts) ahead.terms ∙ list_any-append (λ (t : Term). is_epoch x t.epoch) (terms_of m) (new ∷ [])

  appointed_now : (x : Epoch) → IsCoded x → g.appointed (code x) ≡ list_any (λ (t : Term). is_epoch x t.epoch) (terms_of n)
  appointed_now x y = elim (cases_eq (code x) (code e)) [
    | inl same ↦
        let is : is_epoch x e ≡ true = subst (λ (k : Epoch). is_epoch x k ≡ true) (same_code x e y coded same) (same_epoch x) in
        ap (λ (h : ℕ → Bool). h (code x)) has.appointed ∙ put_same (code e) true f.appointed (code x) same ∙ sym (in_terms x ∙ or_right (list_any (λ (t : Term). is_epoch x t.epoch) (terms_of m)) (is_epoch x e || false) (or_left (is_epoch x e) false is))
    | inr ne ↦
        let isnt : is_epoch x e ≡ false = elim (cases_Bool (is_epoch x e)) [ inl had ↦ absurd (ne (ap code (is_epoch-true x e had))) | inr n ↦ n ] in
        ap (λ (h : ℕ → Bool). h (code x)) has.appointed ∙ put_other (code e) true f.appointed (code x) ne ∙ rule.appointed x y
        ∙ sym (in_terms x ∙ ap (λ (b : Bool). list_any (λ (t : Term). is_epoch x t.epoch) (terms_of m) || (b || false)) isnt ∙ or_none (list_any (λ (t : Term). is_epoch x t.epoch) (terms_of m)))
  ]

  pub ahead_rule : RuleMatches n g
  ahead_rule = record {
    coded = λ t there. elim (term_cases t there) [ inl old ↦ rule.coded t old | inr is ↦ subst (λ (x : Term). IsCoded x.epoch) (sym is) coded ];
    appointed = appointed_now;
    only = λ k h. elim (put_split (λ (b : Bool). b ≡ true) (code e) true f.appointed k (sym (ap (λ (a : ℕ → Bool). a k) has.appointed) ∙ h)) [
      | inl is ↦ (e, coded, sym is.0)
      | inr other ↦ rule.only k other.1
    ];
    members = λ t there. elim (term_cases t there) [
      | inl old ↦ (
        ap (λ (h : ℕ → List ℕ). h (code t.epoch)) has.current ∙ put_other (code e) now f.current (code t.epoch) (fresh t old) ∙ (rule.members t old).0,
        ap (λ (h : ℕ → List ℕ). h (code t.epoch)) has.previous ∙ put_other (code e) before f.previous (code t.epoch) (fresh t old) ∙ (rule.members t old).1,
      )
      | inr is ↦ (
        ap (λ (h : ℕ → List ℕ). h (code t.epoch)) has.current ∙ put_same (code e) now f.current (code t.epoch) (ap (λ (x : Term). code x.epoch) is) ∙ ap (λ (x : Term). x.current) (sym is),
        ap (λ (h : ℕ → List ℕ). h (code t.epoch)) has.previous ∙ put_same (code e) before f.previous (code t.epoch) (ap (λ (x : Term). code x.epoch) is) ∙ ap (λ (x : Term). x.previous) (sym is),
      )
    ];
    some_member = λ t there. elim (term_cases t there) [ inl old ↦ rule.some_member t old | inr is ↦ subst (λ (x : Term). 1 ≤ length x.current) (sym is) some ];
    latest = has.latest ∙ sym (ap latest_in ahead.terms ∙ latest_push (terms_of m) new);
    active = config;
    answers = λ x y r. same_answers f g x r (answer_of n.answers x r) has.answered has.told_epoch has.told_length (subst (λ (as' : List SurveyAnswer). AnswerMatches f x r (answer_of as' x r)) (sym ahead.answers) (rule.answers x y r));
    surveyed = λ k r h. rule.surveyed k r (sym (ap (λ (a : ℕ → ℕ → Bool). a k r) has.answered) ∙ h);
    unbooted = λ none. absurd (not_none new (terms_of m) (sym ahead.terms ∙ none));
  }

-- ---- the fleet behind it

module _ (event : Event) (rises : Epoch → Type 0) (m n k : Machine) (replicas : List FleetReplica) (f g : Fleet Record) (e : Epoch) (p : ℕ) (before members : List ℕ) (now : FleetReplica) (s : Sound m replicas f) (boots : IsFirstOf event m e) (ahead : IsAhead m n e p before members) (x : Follows event rises ⊥ n k) (within : p < length replicas) (moved : Moved f g p now) where
  there_new : list_any (λ (t : Term). is_epoch e t.epoch) (terms_of n) ≡ true
  there_new = ap (λ (ts : List Term). list_any (λ (t : Term). is_epoch e t.epoch) ts) ahead.terms ∙ list_any-append (λ (t : Term). is_epoch e t.epoch) (terms_of m) (new_term e before members ∷ [])
      ∙ or_right (list_any (λ (t : Term). is_epoch e t.epoch) (terms_of m)) (is_epoch e e || false) (or_left (is_epoch e e) false (same_epoch e))

  there_old : (y : Epoch) → list_any (λ (t : Term). is_epoch y t.epoch) (terms_of m) ≡ true → list_any (λ (t : Term). is_epoch y t.epoch) (terms_of n) ≡ true
  there_old y h = ap (λ (ts : List Term). list_any (λ (t : Term). is_epoch y t.epoch) ts) ahead.terms ∙ list_any-append (λ (t : Term). is_epoch y t.epoch) (terms_of m) (new_term e before members ∷ [])
      ∙ or_left (list_any (λ (t : Term). is_epoch y t.epoch) (terms_of m)) (is_epoch y e || false) h

  -- a role behind the lines is one of before, of another replica, or it is of the new epoch
  role_cases : (q : ℕ) (y : Epoch) → has_role k q y ≡ true → ((has_role m q y ≡ true) × (q ≡ p → ⊥)) ⊎ ((y ≡ e) × ((q ≡ p) ⊎ (terms_of m ≡ [])))
  role_cases q y h = elim (x.roles q y h) [
    | inl had ↦ ahead.roles q y had
    | inr first ↦ let b = boots first.0 in inr (first.1 ∙ sym b.1, inr b.0)
  ]

  ahead_roles : ((o : OpenReplica) (l : Leading) → now ≡ Open o → o.leading ≡ Some l → l.epoch ≡ e) → ((y : Epoch) → rises y → IsChosen g (code y) (g.start (code y))) → RolesMatch k (set replicas p now) g
  ahead_roles leads risen = record {
    given = λ q y h.
        let in_n : list_any (λ (t : Term). is_epoch y t.epoch) (terms_of n) ≡ true = elim (role_cases q y h) [
          | inl had ↦ there_old y (s.roles.given q y had.0)
          | inr new ↦ subst (λ (z : Epoch). list_any (λ (t : Term). is_epoch z t.epoch) (terms_of n) ≡ true) (sym new.0) there_new
        ] in
        ap (λ (ts : List Term). list_any (λ (t : Term). is_epoch y t.epoch) ts) x.terms ∙ in_n;
    led = λ q o l y up lead h. elim (cases_eq q p) [
      | inl is ↦
          let same = leads o l (there_now replicas p q now within is ∙ up) lead in
          elim (role_cases q y h) [
            | inl had ↦ absurd (had.1 is)
            | inr new ↦ new.0 ∙ sym same
          ]
      | inr ne ↦
          let old = as_before replicas p q now ne ∙ up in
          let st = (s.standing q o old).leads l lead in
          elim (role_cases q y h) [
            | inl had ↦ s.roles.led q o l y old lead had.0
            | inr new ↦ elim new.1 [
              | inl is ↦ absurd (ne is)
              | inr none ↦ absurd (false≢true (sym (s.matches.rule.appointed l.epoch st.coded ∙ ap (λ (ts : List Term). list_any (λ (t : Term). is_epoch l.epoch t.epoch) ts) none) ∙ st.appointed))
            ]
          ]
    ];
    begun = λ y h. elim (x.begun y h) [
      | inr new ↦ risen y new
      | inl had ↦
          let old = ahead.begun y had in
          let after = run_after f g (reached_invariant f s.reached) moved.run in
          let is = (term_coded m f y s.matches.rule (begun_term y m.appointments old)).1 in
          subst (λ (z : ℕ). IsChosen g (code y) z) (sym (after.start (code y) is)) (after.chosen (code y) (f.start (code y)) is (s.roles.begun y old))
    ];
  }

  pub ahead_sound : RuleMatches k g → ((o : OpenReplica) (l : Leading) → now ≡ Open o → o.leading ≡ Some l → l.epoch ≡ e) → ((y : Epoch) → rises y → IsChosen g (code y) (g.start (code y)))
      → ((o : OpenReplica) → now ≡ Open o → IsStanding g p o) → ((w : Whole) → Contains (held_by now) w → IsKept w) → Sound k (set replicas p now) g
  ahead_sound rule leads risen standing kept = sound_after m k replicas f g p now s within moved rule (ahead_roles leads risen) standing kept
