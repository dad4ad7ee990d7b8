-- On places in a list: what a change at the first that passes a test leaves.
use Rattle.std.proofs.Common.{◌≡◌, ◌∙◌, ◌<◌, ◌≤◌, ltb, ℕ, zero, suc, List, [], ◌∷◌, ◌++◌, Bool, true, false, cond, Option, Some, None, refl, sym, ap, ap₂, arith, length, get_or, set, position}
use Rattle.std.specs.List.{position_or_len}
use Rattle.std.proofs.lemmas.List.Quantifiers.{position-Some}
use Rattle.std.proofs.lemmas.List.Sums.{fails_before_first}
use Rattle.std.proofs.lemmas.Bool.{ltb-false}
use Rattle.rc_base.specs.declared.ids.Epoch.{Epoch}
use Rattle.config_rule.specs.declared.answers.SurveyAnswer.{SurveyAnswer}
use Rattle.config_rule.specs.declared.appointments.Appointed.{Appointed}
use Rattle.rc_base.specs.Ids.{is_epoch}
use Rattle.std.specs.Option.{option_map_or}
use Rattle.config_rule.specs.Kept.{configuration_at}
use Rattle.config_rule.specs.Rule.{Known, is_answer, with_answer, changed_at, appointment_of, made_active, made_current, after_active, after_activation, is_latest, broken_activation}

none_found : {A : Type 0} (b : Bool) (x : A) → cond b (Some x) None ≡ None → b ≡ false
none_found true x e = absurd (cc)
none_found false x e = refl

-- where nothing is found, no item passes
pub fails_all : {X : Type 0} (p : X → Bool) (xs : List X) (d : X) → position p xs ≡ None → (k : ℕ) → k < length xs → p (get_or xs k d) ≡ false
fails_all p xs d none =
    let past : length xs ≤ position_or_len p xs = ltb-false _ _ (none_found (ltb (position_or_len p xs) (length xs)) (position_or_len p xs) none) in
    λ k lt. fails_before_first p xs k d (omega arith)

-- ---- answers

with_answer_at : (answer : SurveyAnswer) (answers : List SurveyAnswer) (i : ℕ) (d : SurveyAnswer) → i < length answers → is_answer answer.epoch answer.from (get_or answers i d) ≡ true
    → ((k : ℕ) → k < i → is_answer answer.epoch answer.from (get_or answers k d) ≡ false) → set answers i answer ≡ with_answer answer answers
with_answer_at answer [] i d lt at before = absurd (omega arith)
with_answer_at answer (a ∷ answers) zero d lt at before = rw at refl
with_answer_at answer (a ∷ answers) (suc i) d lt at before =
    let first : is_answer answer.epoch answer.from a ≡ false = before 0 (omega arith) in
    rw first (ap (λ (ys : List SurveyAnswer). a ∷ ys) (with_answer_at answer answers i d (omega arith) at (λ k below. before (suc k) (omega arith))))

with_answer_last : (answer : SurveyAnswer) (answers : List SurveyAnswer) → ((k : ℕ) → k < length answers → is_answer answer.epoch answer.from (get_or answers k answer) ≡ false)
    → with_answer answer answers ≡ answers ++ answer ∷ []
with_answer_last answer [] none = refl
with_answer_last answer (a ∷ answers) none =
    let first : is_answer answer.epoch answer.from a ≡ false = none 0 (omega arith) in
    rw first (ap (λ (ys : List SurveyAnswer). a ∷ ys) (with_answer_last answer answers (λ k below. none (suc k) (omega arith))))

pub answer_in_place : (answer : SurveyAnswer) (answers : List SurveyAnswer) (i : ℕ) → position (is_answer answer.epoch answer.from) answers ≡ Some i → set answers i answer ≡ with_answer answer answers
answer_in_place answer answers i at =
    let p = position-Some (is_answer answer.epoch answer.from) answers i answer at in
    with_answer_at answer answers i answer p.0 p.1 p.2

pub answer_behind : (answer : SurveyAnswer) (answers : List SurveyAnswer) → position (is_answer answer.epoch answer.from) answers ≡ None → with_answer answer answers ≡ answers ++ answer ∷ []
answer_behind answer answers none = with_answer_last answer answers (fails_all (is_answer answer.epoch answer.from) answers answer none)

-- ---- appointments

abbrev pub of_epoch : Epoch → Appointed → Bool
of_epoch epoch a = is_epoch epoch a.epoch

changed_place : (epoch : Epoch) (change : Appointed → Appointed) (appointed : List Appointed) (i : ℕ) (d : Appointed) → i < length appointed → of_epoch epoch (get_or appointed i d) ≡ true
    → ((k : ℕ) → k < i → of_epoch epoch (get_or appointed k d) ≡ false)
    → (set appointed i (change (get_or appointed i d)) ≡ changed_at epoch change appointed) × (appointment_of appointed epoch ≡ Some (get_or appointed i d))
changed_place epoch change [] i d lt at before = absurd (omega arith)
changed_place epoch change (a ∷ appointed) zero d lt at before = (rw at refl, rw at refl)
changed_place epoch change (a ∷ appointed) (suc i) d lt at before =
    let first : of_epoch epoch a ≡ false = before 0 (omega arith) in
    let rest = changed_place epoch change appointed i d (omega arith) at (λ k below. before (suc k) (omega arith)) in
    (rw first (ap (λ (ys : List Appointed). a ∷ ys) rest.0), rw first rest.1)

pub changed_in_place : (epoch : Epoch) (change : Appointed → Appointed) (appointed : List Appointed) (i : ℕ) (a : Appointed) → position (of_epoch epoch) appointed ≡ Some i → a ≡ get_or appointed i a
    → (set appointed i (change a) ≡ changed_at epoch change appointed) × (appointment_of appointed epoch ≡ Some a)
changed_in_place epoch change appointed i a at is =
    let p = position-Some (of_epoch epoch) appointed i a at in
    let c = changed_place epoch change appointed i a p.0 p.1 p.2 in
    (ap (λ (x : Appointed). set appointed i (change x)) is ∙ c.0, c.1 ∙ ap Some (sym is))

unchanged : (epoch : Epoch) (change : Appointed → Appointed) (appointed : List Appointed) (d : Appointed) → ((k : ℕ) → k < length appointed → of_epoch epoch (get_or appointed k d) ≡ false)
    → (changed_at epoch change appointed ≡ appointed) × (appointment_of appointed epoch ≡ None)
unchanged epoch change [] d none = (refl, refl)
unchanged epoch change (a ∷ appointed) d none =
    let first : of_epoch epoch a ≡ false = none 0 (omega arith) in
    let rest = unchanged epoch change appointed d (λ k below. none (suc k) (omega arith)) in
    (rw first (ap (λ (ys : List Appointed). a ∷ ys) rest.0), rw first rest.1)

pub unchanged_without : (epoch : Epoch) (change : Appointed → Appointed) (appointed : List Appointed) → position (of_epoch epoch) appointed ≡ None
    → (changed_at epoch change appointed ≡ appointed) × (appointment_of appointed epoch ≡ None)
unchanged_without epoch change appointed none =
    let nobody : Appointed = record { epoch = epoch; primary = None; pc = []; cc = []; active = false; activated = false } in
    unchanged epoch change appointed nobody (fails_all (of_epoch epoch) appointed nobody none)

-- ---- the configuration last activated

pub configuration_kept : (appointed : List Appointed) (i place : ℕ) (a d : Appointed) → i < length appointed → (get_or appointed i d).cc ≡ a.cc → configuration_at (set appointed i a) place ≡ configuration_at appointed place
configuration_kept [] i place a d lt same = absurd (omega arith)
configuration_kept (x ∷ xs) zero zero a d lt same = sym same
configuration_kept (x ∷ xs) zero (suc place) a d lt same = refl
configuration_kept (x ∷ xs) (suc i) zero a d lt same = refl
configuration_kept (x ∷ xs) (suc i) (suc place) a d lt same = configuration_kept xs i place a d (omega arith) same

pub configuration_there : (appointed : List Appointed) (i : ℕ) (a : Appointed) → i < length appointed → configuration_at (set appointed i a) i ≡ a.cc
configuration_there [] i a lt = absurd (omega arith)
configuration_there (x ∷ xs) zero a lt = refl
configuration_there (x ∷ xs) (suc i) a lt = configuration_there xs i a (omega arith)

-- ---- what a change leaves of all that is known

abbrev known : List Appointed → List ℕ → List SurveyAnswer → Known
known appointed current answers = record { appointed = appointed; current = current; answers = answers }

pub active_in_place : (epoch : Epoch) (appointed : List Appointed) (place : ℕ) (answers : List SurveyAnswer) (i : ℕ) (a : Appointed) → position (of_epoch epoch) appointed ≡ Some i → a ≡ get_or appointed i a
    → known (set appointed i (made_active a)) (configuration_at (set appointed i (made_active a)) place) answers ≡ after_active (known appointed (configuration_at appointed place) answers) epoch
active_in_place epoch appointed place answers i a at is =
    let p = position-Some (of_epoch epoch) appointed i a at in
    ap₂ (λ (xs : List Appointed) (c : List ℕ). known xs c answers) (changed_in_place epoch made_active appointed i a at is).0
    (configuration_kept appointed i place (made_active a) a p.0 (ap (λ (x : Appointed). x.cc) (sym is)))

pub activated_in_place : (epoch : Epoch) (appointed : List Appointed) (current : List ℕ) (answers : List SurveyAnswer) (i : ℕ) (a : Appointed) → position (of_epoch epoch) appointed ≡ Some i → a ≡ get_or appointed i a
    → known (set appointed i (made_current a)) (configuration_at (set appointed i (made_current a)) i) answers ≡ after_activation (known appointed current answers) epoch
activated_in_place epoch appointed current answers i a at is =
    let p = position-Some (of_epoch epoch) appointed i a at in
    let c = changed_in_place epoch made_current appointed i a at is in
    ap₂ (λ (xs : List Appointed) (c : List ℕ). known xs c answers) c.0
    (configuration_there appointed i (made_current a) p.0 ∙ ap (λ (o : Option Appointed). option_map_or (λ (x : Appointed). x.cc) o current) (sym c.1))

-- ---- the parts of an activation

pub activation_of_none : (k : Known) (epoch : Epoch) → is_latest k.appointed epoch ≡ true → position (of_epoch epoch) k.appointed ≡ None → broken_activation k epoch ≡ Some 8
activation_of_none k epoch latest none = let u = unchanged_without epoch made_current k.appointed none in rw (latest, u.1) refl

pub activation_of : (k : Known) (epoch : Epoch) (i : ℕ) (a : Appointed) (b : Bool) → is_latest k.appointed epoch ≡ true → position (of_epoch epoch) k.appointed ≡ Some i → a ≡ get_or k.appointed i a
    → a.active ≡ b → broken_activation k epoch ≡ cond b None (Some 8)
activation_of k epoch i a b latest at is active =
    let c = changed_in_place epoch made_current k.appointed i a at is in rw (latest, c.1, active) refl
