-- The rule of reconfiguration is the guard of the laws' moves.
use Rattle.std.proofs.Common.{◌≡◌, ◌∙◌, ℕ, suc, ◌+◌, ◌<◌, ◌≤◌, true, false, Bool, cond, not, ◌⊎◌, List, [], ◌∷◌, length, map, refl, sym, ap, subst, inl, inr, arith, Option, Some, None, is_some}
use Rattle.std.specs.Prelude.{Contains, ◌&&◌, ◌==◌, nat_le, nat_lt, option_map}
use Rattle.std.specs.Option.{option_map_or}
use Rattle.std.specs.List.{find, list_any, list_all, count_by}
use Rattle.std.proofs.lemmas.Bool.{cases_Bool, cases_lt, or_left, or_right, or_parts, and_parts, and_from, and_cases, false≢true, both_ways, not-true, not-false, leb-true, ltb-false, eqb-true, eq-eqb}
use Rattle.std.proofs.lemmas.List.{length-map, nil_from_length}
use Rattle.std.proofs.lemmas.List.Recursion.{is_count_by}
use Rattle.std.proofs.lemmas.List.Elements.{Contains-append_cases}
use Rattle.rc_base.specs.declared.ids.Epoch.{Epoch}
use Rattle.rc_base.specs.Ids.{epoch_lt, is_epoch}
use Rattle.rc_base.specs.Members.{first_twice}
use Rattle.rc_base.specs.Quorum.{read_quorum}
use Rattle.rc_base.proofs.SameIds.{is_epoch-true}
use Rattle.config_rule.specs.declared.answers.SurveyAnswer.{SurveyAnswer}
use Rattle.config_rule.specs.declared.appointments.Appointed.{Appointed}
use Rattle.config_rule.specs.Rule.{answer_of, has_answered, has_quorum, has_answered_last, tells_most, tells_less, is_answer, is_above, are_members, broken_appointment}
use Rattle.config_rule.proofs.Rising.{first_holds}
use Rattle.events.specs.declared.answer.Answer.{Answer}
use Rattle.events.specs.declared.answer.Answer.TheVariants as answers
use Rattle.events.specs.declared.event.Event.TheVariants.{Boot, Appoint}
use Rattle.log_records.specs.declared.record.Record.{Record}
use Rattle.order_machine.specs.Machine.{Machine, Appointment, is_booted, as_appointed, known_of, replica}
use Rattle.order_machine.specs.Transitions.{refusal, first_epoch}
use Rattle.fleet_laws.specs.Counting.{count, IsReadQuorum}
use Rattle.fleet_laws.specs.Fleets.{Fleet, Value, IsValueOf, IsAppointed}
use Rattle.fleet_laws.specs.Moves.{IsReached, Boots, Appoints}
use Rattle.fleet_laws.proofs.Counts.{count_more}
use Rattle.fleet_laws.proofs.Puts.{only_member}
use Rattle.fleet_laws.proofs.Runs.{reached_invariant}
use Rattle.fleet_run.specs.Kernel.{RuleMatches, AnswerMatches, Term, IsCoded, code, terms_of, term_of}
use Rattle.fleet_run.proofs.Codes.{code_not_less, less_code, same_code}
use Rattle.fleet_run.proofs.Looking.{some_same}
use Rattle.fleet_run.proofs.Moved.{same_epoch}
use Rattle.fleet_run.proofs.Surveying.{term_below, latest_term}

-- ---- what is found

found_step : {A : Type 0} (p : A → Bool) (x : A) (xs : List A) (a : A) (b : Bool) → p x ≡ b → cond b (Some x) (find p xs) ≡ Some a → (find p xs ≡ Some a → (p a ≡ true) × ((q : A → Bool) → q a ≡ true → list_any q xs ≡ true))
    → (p a ≡ true) × ((q : A → Bool) → q a ≡ true → list_any q (x ∷ xs) ≡ true)
found_step p x xs a true is found rest = let same = some_same x a found in (subst (λ (y : _). p y ≡ true) same is, λ q h. or_left (q x) (list_any q xs) (subst (λ (y : _). q y ≡ true) (sym same) h))
found_step p x xs a false is found rest = let r = rest found in (r.0, λ q h. or_right (q x) (list_any q xs) (r.1 q h))

one_more : (k : ℕ) → suc k ≡ 1 + k
one_more k = omega arith

pub contains_term : (t : Term) (ts : List Term) → Contains ts t → list_any (λ (x : Term). is_epoch t.epoch x.epoch) ts ≡ true
contains_term t [] there = absurd (omega (arith, there.1))
contains_term t (x ∷ ts) there = elim (Contains-append_cases (x ∷ []) ts t there) [
  | inl is ↦ or_left (is_epoch t.epoch x.epoch) (list_any (λ (y : Term). is_epoch t.epoch y.epoch) ts) (subst (λ (y : Term). is_epoch t.epoch y.epoch ≡ true) (only_member x t is) (same_epoch t.epoch))
  | inr later ↦ or_right (is_epoch t.epoch x.epoch) (list_any (λ (y : Term). is_epoch t.epoch y.epoch) ts) (contains_term t ts later)
]

pub found_at : {A : Type 0} (p : A → Bool) (xs : List A) (a : A) → find p xs ≡ Some a → (p a ≡ true) × ((q : A → Bool) → q a ≡ true → list_any q xs ≡ true)
found_at p [] a is = absurd (false≢true (ap is_some is))
found_at p (x ∷ xs) a is = found_step p x xs a (p x) refl is (found_at p xs a)

-- ---- refusals

pub none_mapped : {A B : Type 0} (h : A → B) (x : Option A) → option_map h x ≡ None → x ≡ None
none_mapped h None is = refl
none_mapped h (Some a) is = absurd (false≢true (sym (ap is_some is)))

pub passes_else : (b : Bool) (x y : Option Answer) → cond b x y ≡ None → ((b ≡ true) × (x ≡ None)) ⊎ ((b ≡ false) × (y ≡ None))
passes_else true x y is = inl (refl, is)
passes_else false x y is = inr (refl, is)

pub some_refused : {B : Type 0} (a : Answer) → Some a ≡ None → B
some_refused a is = absurd (false≢true (sym (ap is_some is)))

-- an event that isn't refused before the boot comes after it
pub booted_since : (m : Machine) (x : Option Answer) → cond (is_booted m) x (Some (answers.Refused 9)) ≡ None → (is_booted m ≡ true) × (x ≡ None)
booted_since m x is = elim (passes_else (is_booted m) x (Some (answers.Refused 9)) is) [
  | inl since ↦ since
  | inr n ↦ some_refused (answers.Refused 9) n.1
]

pub has_terms : (m : Machine) → is_booted m ≡ true → terms_of m ≡ [] → ⊥
has_terms m booted none =
    let size : length m.appointments ≡ 0 = sym (length-map m.appointments term_of) ∙ ap length none in
    false≢true (sym (ap not (eq-eqb (length m.appointments) 0 size)) ∙ booted)

pub no_appointments : (m : Machine) → is_booted m ≡ false → m.appointments ≡ []
no_appointments m unbooted = nil_from_length m.appointments (eqb-true (length m.appointments) 0 (not-false (length m.appointments == 0) unbooted))

-- what a boot that isn't refused needs
pub record BootIsFine (m : Machine) (p : ℕ) (members : List ℕ) : Type 0 where
  pub unbooted : m.appointments ≡ []
  pub members_fit : are_members members p ≡ true

pub boot_is_fine : (m : Machine) (p : ℕ) (members : List ℕ) → refusal m (Boot p members) ≡ None → BootIsFine m p members
boot_is_fine m p members is = elim (passes_else (is_booted m) (Some (answers.Refused 9)) (cond (are_members members p) None (Some (answers.Refused 2))) is) [
  | inl since ↦ some_refused (answers.Refused 9) since.1
  | inr n ↦ elim (passes_else (are_members members p) None (Some (answers.Refused 2)) n.1) [
    | inl fit ↦ record { unbooted = no_appointments m n.0; members_fit = fit.0 }
    | inr unfit ↦ some_refused (answers.Refused 2) unfit.1
  ]
]

-- what an appointment that isn't refused needs
pub record AppointIsFine (m : Machine) (e : Epoch) (p : ℕ) (members : List ℕ) : Type 0 where
  pub booted : is_booted m ≡ true
  pub above : list_all (λ (t : Term). epoch_lt t.epoch e) (terms_of m) ≡ true
  pub members_fit : are_members members p ≡ true
  pub quorum : has_quorum m.answers m.config e ≡ true
  pub answered : has_answered_last m.answers e p ≡ true
  pub most : tells_most m.answers e p ≡ true

all_mapped : {A B C : Type 0} (p : C → Bool) (g : A → C) (h : A → B) (k : B → C) (xs : List A) → ((x : A) → k (h x) ≡ g x) → list_all (λ y. p (k y)) (map h xs) ≡ list_all (λ x. p (g x)) xs
all_mapped p g h k [] same = refl
all_mapped p g h k (x ∷ xs) same = rw (same x) (ap (λ (b : Bool). p (g x) && b) (all_mapped p g h k xs same))

pub appoint_is_fine : (m : Machine) (e : Epoch) (p : ℕ) (members : List ℕ) → refusal m (Appoint e p members) ≡ None → AppointIsFine m e p members
appoint_is_fine m e p members is =
    let since = booted_since m (option_map answers.Refused (broken_appointment (known_of m) e p members (replica m p).up)) is in
    let none = none_mapped answers.Refused (broken_appointment (known_of m) e p members (replica m p).up) since.1 in
    let after_five : List Bool = (replica m p).up ∷ [] in
    let after_four : List Bool = tells_most m.answers e p ∷ after_five in
    let after_three : List Bool = has_answered_last m.answers e p ∷ after_four in
    let after_two : List Bool = has_quorum m.answers m.config e ∷ after_three in
    let one = first_holds 1 (is_above (known_of m).appointed e) (are_members members p ∷ after_two) none in
    let two = first_holds 2 (are_members members p) after_two one.1 in
    let three = first_holds 3 (has_quorum m.answers m.config e) after_three two.1 in
    let four = first_holds 4 (has_answered_last m.answers e p) after_four three.1 in
    let five = first_holds 5 (tells_most m.answers e p) after_five four.1 in
    record {
      booted = since.0;
      above =
          all_mapped (λ (x : Epoch). epoch_lt x e) (λ (a : Appointment). a.epoch) term_of (λ (t : Term). t.epoch) m.appointments (λ a. refl)
          ∙ sym (all_mapped (λ (x : Epoch). epoch_lt x e) (λ (a : Appointment). a.epoch) as_appointed (λ (a : Appointed). a.epoch) m.appointments (λ a. refl))
          ∙ one.0;
      members_fit = two.0;
      quorum = three.0;
      answered = four.0;
      most = five.0;
    }

pub record Fits (members : List ℕ) (p : ℕ) : Type 0 where
  pub once : first_twice members ≡ None
  pub some : 1 ≤ length members
  pub has : list_any (λ m. m == p) members ≡ true

none_is : {A : Type 0} (x : Option A) → not (is_some x) ≡ true → x ≡ None
none_is None h = refl
none_is (Some a) h = absurd (false≢true h)

pub members_fit : (members : List ℕ) (p : ℕ) → are_members members p ≡ true → Fits members p
members_fit members p h =
    let outer = and_parts (not (is_some (first_twice members)) && (nat_le 1 (length members) && nat_le (length members) 9)) (list_any (λ m. m == p) members) h in
    let inner = and_parts (not (is_some (first_twice members))) (nat_le 1 (length members) && nat_le (length members) 9) outer.0 in
    let sizes = and_parts (nat_le 1 (length members)) (nat_le (length members) 9) inner.1 in
    record { once = none_is (first_twice members) inner.0; some = leb-true 1 (length members) sizes.0; has = outer.1 }

-- ---- answers to surveys

pub answered_is : (f : Fleet Record) (e : Epoch) (r : ℕ) (x : Option SurveyAnswer) → AnswerMatches f e r x → f.answered (code e) r ≡ is_some x
answered_is f e r None is = is
answered_is f e r (Some a) is = is.0

is_given : {A : Type 0} (x : Option A) → is_some x ≡ true → (a : A) × (x ≡ Some a)
is_given None h = absurd (false≢true h)
is_given (Some a) h = (a, refl)

counted : (p : ℕ → Bool) (xs : List ℕ) → count p xs ≡ count_by p xs
counted p xs = is_count_by (count p) p refl (λ x ys. ap (λ (k : ℕ). cond (p x) k (count p ys)) (one_more (count p ys))) xs

module _ (m : Machine) (f : Fleet Record) (e : Epoch) (p : ℕ) (members : List ℕ) (v : Value Record) (reached : IsReached f) (rule : RuleMatches m f) (fine : AppointIsFine m e p members) (coded : IsCoded e) (is_open : f.values p ≡ v ∷ []) where
  read_quorum_has : IsReadQuorum (f.answered (code e)) (f.current f.active)
  read_quorum_has =
      let enough : read_quorum (length m.config) ≤ count_by (has_answered m.answers e) m.config = leb-true (read_quorum (length m.config)) (count_by (has_answered m.answers e) m.config) fine.quorum in
      let more : count (has_answered m.answers e) m.config ≤ count (f.answered (code e)) m.config = count_more (has_answered m.answers e) (f.answered (code e)) (λ r h. answered_is f e r (answer_of m.answers e r) (rule.answers e coded r) ∙ h) m.config in
      subst (λ (c : List ℕ). IsReadQuorum (f.answered (code e)) c) (sym rule.active) (omega (arith, enough, more, counted (has_answered m.answers e) m.config))

  last_parts : (has_answered m.answers e p ≡ true) × (list_any (λ (a : SurveyAnswer). (p == a.from) && epoch_lt e a.epoch) m.answers ≡ false)
  last_parts =
      let parts = and_parts (has_answered m.answers e p) (not (list_any (λ (a : SurveyAnswer). (p == a.from) && epoch_lt e a.epoch) m.answers)) fine.answered in
      (parts.0, not-true (list_any (λ (a : SurveyAnswer). (p == a.from) && epoch_lt e a.epoch) m.answers) parts.1)

  -- p has answered no later survey
  no_later : (d : ℕ) → code e < d → f.answered d p ≡ false
  no_later d later = elim (cases_Bool (f.answered d p)) [
    | inr n ↦ n
    | inl had ↦
        let x = rule.surveyed d p had in
        let at : is_some (answer_of m.answers x.0 p) ≡ true = sym (answered_is f x.0 p (answer_of m.answers x.0 p) (rule.answers x.0 x.1 p)) ∙ ap (λ (k : ℕ). f.answered k p) x.2 ∙ had in
        let a = is_given (answer_of m.answers x.0 p) at in
        let found = found_at (is_answer x.0 p) m.answers a.0 a.1 in
        let own = and_parts (is_epoch x.0 a.0.epoch) (p == a.0.from) found.0 in
        let less : epoch_lt e a.0.epoch ≡ true = subst (λ (y : Epoch). epoch_lt e y ≡ true) (is_epoch-true x.0 a.0.epoch own.0) (less_code e x.0 coded x.1 (omega (arith, later, x.2))) in
        absurd (both_ways (list_any (λ (a : SurveyAnswer). (p == a.from) && epoch_lt e a.epoch) m.answers) last_parts.1 (found.1 (λ (a : SurveyAnswer). (p == a.from) && epoch_lt e a.epoch) (and_from (p == a.0.from) (epoch_lt e a.0.epoch) own.1 less)))
  ]

  -- and no answer tells of more
  greatest_told : (r : ℕ) → f.answered (code e) r ≡ true → (f.told_epoch (code e) r < f.told_epoch (code e) p) ⊎ ((f.told_epoch (code e) r ≡ f.told_epoch (code e) p) × (f.told_length (code e) r ≤ f.told_length (code e) p))
  greatest_told r had =
      let own = is_given (answer_of m.answers e p) last_parts.0 in
      let own_is = subst (λ (x : Option SurveyAnswer). AnswerMatches f e p x) own.1 (rule.answers e coded p) in
      let a = is_given (answer_of m.answers e r) (sym (answered_is f e r (answer_of m.answers e r) (rule.answers e coded r)) ∙ had) in
      let a_is = subst (λ (x : Option SurveyAnswer). AnswerMatches f e r x) a.1 (rule.answers e coded r) in
      let found = found_at (is_answer e r) m.answers a.0 a.1 in
      let same = and_parts (is_epoch e a.0.epoch) (r == a.0.from) found.0 in
      let none : list_any (λ (x : SurveyAnswer). is_epoch e x.epoch && tells_less own.0 x) m.answers ≡ false = not-true (list_any (λ (x : SurveyAnswer). is_epoch e x.epoch && tells_less own.0 x) m.answers) (sym (ap (λ (x : Option SurveyAnswer). option_map_or (λ (o : SurveyAnswer). not (list_any (λ (y : SurveyAnswer). is_epoch e y.epoch && tells_less o y) m.answers)) x true) own.1) ∙ fine.most) in
      let less : tells_less own.0 a.0 ≡ false = elim (cases_Bool (tells_less own.0 a.0)) [
        | inr n ↦ n
        | inl more ↦ absurd (both_ways (list_any (λ (x : SurveyAnswer). is_epoch e x.epoch && tells_less own.0 x) m.answers) none (found.1 (λ (x : SurveyAnswer). is_epoch e x.epoch && tells_less own.0 x) (and_from (is_epoch e a.0.epoch) (tells_less own.0 a.0) same.0 more)))
      ] in
      let parts = or_parts (epoch_lt own.0.last_epoch a.0.last_epoch) (is_epoch own.0.last_epoch a.0.last_epoch && nat_lt own.0.last.0 a.0.last.0) less in
      let low : code a.0.last_epoch ≤ code own.0.last_epoch = code_not_less own.0.last_epoch a.0.last_epoch own_is.3 a_is.3 parts.0 in
      elim (cases_lt (code a.0.last_epoch) (code own.0.last_epoch)) [
        | inl lt ↦ inl (omega (arith, lt, a_is.1, own_is.1))
        | inr ge ↦
            let equal : own.0.last_epoch ≡ a.0.last_epoch = same_code own.0.last_epoch a.0.last_epoch own_is.3 a_is.3 (omega (arith, low, ge)) in
            let is : is_epoch own.0.last_epoch a.0.last_epoch ≡ true = subst (λ (x : Epoch). is_epoch own.0.last_epoch x ≡ true) equal (same_epoch own.0.last_epoch) in
            let not_more : nat_lt own.0.last.0 a.0.last.0 ≡ false = elim (and_cases (is_epoch own.0.last_epoch a.0.last_epoch) (nat_lt own.0.last.0 a.0.last.0) parts.1) [
              | inl isnt ↦ absurd (both_ways (is_epoch own.0.last_epoch a.0.last_epoch) isnt is)
              | inr n ↦ n
            ] in
            inr (omega (arith, a_is.1, own_is.1, low, ge), omega (arith, a_is.2, own_is.2, ltb-false own.0.last.0 a.0.last.0 not_more))
      ]

  pub latest_below : f.latest < code e
  latest_below =
      let latest = latest_term m f rule (has_terms m fine.booted) in
      omega (arith, latest.2, term_below m f e latest.0 rule coded fine.above latest.1)

  pub latest_appointed : IsAppointed f f.latest
  latest_appointed =
      let latest = latest_term m f rule (has_terms m fine.booted) in
      subst (λ (k : ℕ). IsAppointed f k) (sym latest.2) (rule.appointed latest.0.epoch (rule.coded latest.0 latest.1) ∙ contains_term latest.0 (terms_of m) latest.1)

  pub may_appoint : Appoints f (code e) p v
  may_appoint = record {
    above = latest_below;
    one = latest_appointed;
    quorum = read_quorum_has;
    answered = answered_is f e p (answer_of m.answers e p) (rule.answers e coded p) ∙ last_parts.0;
    latest_answer = no_later;
    greatest = greatest_told;
    is_open = is_open;
  }

  -- the epoch last activated is another
  pub active_other : f.active ≡ code e → ⊥
  active_other same =
      let i = reached_invariant f reached in
      let is = i.appointments.activated f.active (i.appointments.is_active f.latest latest_appointed) in
      omega (arith, i.appointments.latest f.active is, latest_below, same)

-- ---- a boot

module _ (m : Machine) (f : Fleet Record) (p : ℕ) (reached : IsReached f) (rule : RuleMatches m f) (unbooted : m.appointments ≡ []) where
  pub no_terms : terms_of m ≡ []
  no_terms = ap (λ (ones : List Appointment). map term_of ones) unbooted

  pub none_appointed : (d : ℕ) → f.appointed d ≡ false
  none_appointed d = elim (cases_Bool (f.appointed d)) [
    | inr n ↦ n
    | inl had ↦
        let x = rule.only d had in
        absurd (false≢true (sym (rule.appointed x.0 x.1 ∙ ap (λ (ts : List Term). list_any (λ (t : Term). is_epoch x.0 t.epoch) ts) no_terms) ∙ ap f.appointed x.2 ∙ had))
  ]

  none_answered : (d r : ℕ) → f.answered d r ≡ false
  none_answered d r = elim (cases_Bool (f.answered d r)) [
    | inr n ↦ n
    | inl had ↦
        let x = rule.surveyed d r had in
        let none : f.answered (code x.0) r ≡ false = answered_is f x.0 r (answer_of m.answers x.0 r) (rule.answers x.0 x.1 r) ∙ ap (λ (as' : List SurveyAnswer). is_some (answer_of as' x.0 r)) (rule.unbooted no_terms) in
        absurd (false≢true (sym none ∙ ap (λ (k : ℕ). f.answered k r) x.2 ∙ had))
  ]

  pub may_boot : Boots f (code first_epoch) p
  may_boot = record { positive = omega arith; first = none_appointed; latest_answer = λ d later. none_answered d p }

  -- no log has anything
  pub empty_logs : (v : Value Record) → IsValueOf f p v → v.log ≡ []
  empty_logs v there = elim (cases_lt 0 (length v.log)) [
    | inr none ↦ nil_from_length v.log (omega (arith, none))
    | inl some ↦
        let c = ((reached_invariant f reached).values p v there).canonical 1 (omega arith) some in
        absurd (false≢true (sym (none_appointed c.0) ∙ c.1.appointed))
  ]
