-- A survey is done, or cut off: the fence rises, and the answer is told.
use Rattle.std.proofs.Common.{◌≡◌, ◌∙◌, ℕ, suc, ◌<◌, ◌≤◌, true, false, Bool, cond, List, [], ◌∷◌, ◌++◌, length, get_or, is_some, ◌-◌, refl, sym, ap, subst, inl, inr, arith, Option, Some, None}
use Rattle.std.specs.Prelude.{All, Contains, ◌==◌, slice_get}
use Rattle.std.specs.Option.{option_map_or}
use Rattle.std.specs.List.{list_all, list_any}
use Rattle.std.proofs.lemmas.Bool.{cases_Bool, and_parts, and_from, false≢true, eqb-true, eq-eqb, both_ways}
use Rattle.std.proofs.lemmas.List.{get_or_default}
use Rattle.std.proofs.lemmas.Option.{slice_get-get_or}
use Rattle.rc_base.specs.declared.ids.Epoch.{Epoch}
use Rattle.rc_base.specs.Ids.{epoch_lt, is_epoch, no_epoch}
use Rattle.rc_base.proofs.SameIds.{is_epoch-true}
use Rattle.config_rule.specs.declared.answers.SurveyAnswer.{SurveyAnswer}
use Rattle.config_rule.specs.Rule.{answer_of, is_answer, with_answer}
use Rattle.log_records.specs.declared.record.Record.{Record}
use Rattle.log_records.specs.declared.record.Physical.TheVariants.{Fence}
use Rattle.txn_table.specs.Epochs.{later}
use Rattle.txn_table.specs.Whole.{Whole, stable_of}
use Rattle.txn_front.specs.Front.{nothing}
use Rattle.replica_model.specs.declared.step.StepEvent.TheVariants as steps
use Rattle.replica_model.specs.OpenReplica.{OpenReplica}
use Rattle.replica_model.specs.Quorums.{looked}
use Rattle.replica_model.specs.Records.{step_block, appended}
use Rattle.replica_model.specs.Steps.{written, cut_off}
use Rattle.order_machine.specs.Machine.{Machine}
use Rattle.fleet_laws.specs.Logs.{last_epoch}
use Rattle.fleet_laws.specs.Fleets.{Fleet, Value, IsValueOf}
use Rattle.fleet_laws.specs.Moves.{Run, Turn, changed as changed_fleet, told as told_fleet}
use Rattle.fleet_laws.specs.Moves.Turn.{raises}
use Rattle.fleet_laws.specs.Moves.Move.{answer}
use Rattle.fleet_laws.specs.Moves.Run.{moves}
use Rattle.fleet_laws.proofs.Puts.{put_same, put_at, all_one, all_member}
use Rattle.fleet_run.specs.Scenes.FleetReplica.{Open}
use Rattle.fleet_run.specs.Kernel.{RuleMatches, AnswerMatches, Term, IsCoded, code, value_of, terms_of, latest_in}
use Rattle.fleet_run.specs.Sound.{IsKept, IsStanding}
use Rattle.fleet_run.proofs.Codes.{code_less, code_not_less, same_code}
use Rattle.fleet_run.proofs.Moved.{Moved, SameRule, one_change}
use Rattle.fleet_run.proofs.Primaries.{cut}
use Rattle.fleet_run.proofs.Writing.{all_more, all_none}
use Rattle.fleet_run.proofs.Stepping.{IsThere, StepDone, StepCut, nothing_done, value_there, kept_two}

-- ---- fences

pub later_code : (a b : Epoch) → IsCoded a → IsCoded b → (code a ≤ code (later a b)) × (code b ≤ code (later a b)) × IsCoded (later a b)
later_code a b x y = elim (cases_Bool (epoch_lt a b)) [
  | inl lt ↦ rw (lt) (let less : code a < code b = code_less a b x y lt in (omega (arith, less), omega arith, y))
  | inr ge ↦ rw (ge) (let less : code b ≤ code a = code_not_less a b x y ge in (omega arith, less, x))
]

abbrev pub fenced : Whole → Epoch → Whole
fenced w e = record w { fence = later w.fence e }

-- what a survey leaves on the disk
pub disk_is : (o : OpenReplica) (e : Epoch) → appended o.disk (step_block o (steps.Survey e)) ≡ fenced o.disk e
disk_is o e = elim (cases_Bool (epoch_lt o.disk.fence e)) [
  | inl lt ↦ ap (λ (b : Bool). appended o.disk (cond b (Fence e ∷ []) [] ++ [])) lt
  | inr ge ↦ ap (λ (b : Bool). appended o.disk (cond b (Fence e ∷ []) [] ++ [])) ge ∙ ap (λ (b : Bool). let w : Whole = record o.disk { fence = cond b e o.disk.fence } in w) (sym ge)
]

-- ---- what was answered

is_own : (e : Epoch) (r : ℕ) (a : SurveyAnswer) → is_answer e r a ≡ true → (e ≡ a.epoch) × (r ≡ a.from)
is_own e r a h = let parts = and_parts (is_epoch e a.epoch) (r == a.from) h in (is_epoch-true e a.epoch parts.0, eqb-true r a.from parts.1)

own_is : (e : Epoch) (r : ℕ) (a : SurveyAnswer) → e ≡ a.epoch → r ≡ a.from → is_answer e r a ≡ true
own_is e r a same from =
    and_from (is_epoch e a.epoch) (r == a.from) (subst (λ (x : Epoch). is_epoch e x ≡ true) same (and_from (e.loss == e.loss) (e.number == e.number) (eq-eqb e.loss e.loss refl) (eq-eqb e.number e.number refl))) (eq-eqb r a.from from)

answer_step : (a b : SurveyAnswer) (bs : List SurveyAnswer) (e : Epoch) (r : ℕ) (x : Bool) → is_answer a.epoch a.from b ≡ x → answer_of (with_answer a bs) e r ≡ cond (is_answer e r a) (Some a) (answer_of bs e r)
    → answer_of (cond x (a ∷ bs) (b ∷ with_answer a bs)) e r ≡ cond (is_answer e r a) (Some a) (answer_of (b ∷ bs) e r)
answer_step a b bs e r true same rest = elim (cases_Bool (is_answer e r a)) [
  | inl own ↦ rw (own) refl
  | inr other ↦
      let is = is_own a.epoch a.from b same in
      let not_b : is_answer e r b ≡ false = elim (cases_Bool (is_answer e r b)) [
        | inl had ↦ let y = is_own e r b had in absurd (both_ways (is_answer e r a) other (own_is e r a (y.0 ∙ sym is.0) (y.1 ∙ sym is.1)))
        | inr n ↦ n
      ] in
      rw (other) (rw (not_b) refl)
]
answer_step a b bs e r false apart rest = elim (cases_Bool (is_answer e r b)) [
  | inl had ↦
      let y = is_own e r b had in
      let not_a : is_answer e r a ≡ false = elim (cases_Bool (is_answer e r a)) [
        | inl own ↦ let z = is_own e r a own in absurd (both_ways (is_answer a.epoch a.from b) apart (own_is a.epoch a.from b (sym z.0 ∙ y.0) (sym z.1 ∙ y.1)))
        | inr n ↦ n
      ] in
      rw (had) (rw (not_a) refl)
  | inr n ↦ rw (n) rest
]

pub answer_with : (a : SurveyAnswer) (bs : List SurveyAnswer) (e : Epoch) (r : ℕ) → answer_of (with_answer a bs) e r ≡ cond (is_answer e r a) (Some a) (answer_of bs e r)
answer_with a [] e r = refl
answer_with a (b ∷ bs) e r = answer_step a b bs e r (is_answer a.epoch a.from b) refl (answer_with a bs e r)

-- ---- the rule behind a survey

module _ (m n : Machine) (f : Fleet Record) (e : Epoch) (r last : ℕ) (epoch : Epoch) (v : Value Record) (rule : RuleMatches m f) (coded : IsCoded e) (epoch_coded : IsCoded epoch) (is_epoch_told : last_epoch v.log ≡ code epoch) (is_last : length v.log ≡ last) (terms : terms_of n ≡ terms_of m) (config : n.config ≡ m.config) (answers : n.answers ≡ with_answer (record { epoch = e; from = r; last_epoch = epoch; last = record { 0 = last } }) m.answers) (booted : terms_of m ≡ [] → ⊥) where
  abbrev new : SurveyAnswer
  new = record { epoch = e; from = r; last_epoch = epoch; last = record { 0 = last } }

  abbrev g : Fleet Record
  g = told_fleet f (code e) r v

  same_answer : (x : Epoch) (q : ℕ) (y : Option SurveyAnswer) → (code x ≡ code e → q ≡ r → ⊥) → AnswerMatches f x q y → AnswerMatches (told_fleet f (code e) r v) x q y
  same_answer x q None apart is = elim (put_at (code e) r true f.answered (code x) q) [
    | inl at ↦ absurd (apart at.0 at.1)
    | inr other ↦ other.1 ∙ is
  ]
  same_answer x q (Some a) apart is = (
    elim (put_at (code e) r true f.answered (code x) q) [ inl at ↦ absurd (apart at.0 at.1) | inr other ↦ other.1 ∙ is.0 ],
    elim (put_at (code e) r (last_epoch v.log) f.told_epoch (code x) q) [ inl at ↦ absurd (apart at.0 at.1) | inr other ↦ other.1 ∙ is.1 ],
    elim (put_at (code e) r (length v.log) f.told_length (code x) q) [ inl at ↦ absurd (apart at.0 at.1) | inr other ↦ other.1 ∙ is.2 ],
    is.3,
  )

  new_answer : (x : Epoch) (q : ℕ) → code x ≡ code e → q ≡ r → AnswerMatches (told_fleet f (code e) r v) x q (Some (record { epoch = e; from = r; last_epoch = epoch; last = record { 0 = last } }))
  new_answer x q same from = (
    elim (put_at (code e) r true f.answered (code x) q) [ inl at ↦ at.2 | inr other ↦ absurd (other.0 same from) ],
    elim (put_at (code e) r (last_epoch v.log) f.told_epoch (code x) q) [ inl at ↦ at.2 ∙ is_epoch_told | inr other ↦ absurd (other.0 same from) ],
    elim (put_at (code e) r (length v.log) f.told_length (code x) q) [ inl at ↦ at.2 ∙ is_last | inr other ↦ absurd (other.0 same from) ],
    epoch_coded,
  )

  any_answer : (x : Epoch) → IsCoded x → (q : ℕ) (b : Bool) → is_answer x q new ≡ b → AnswerMatches (told_fleet f (code e) r v) x q (cond b (Some new) (answer_of m.answers x q))
  any_answer x y q true own = let is = is_own x q new own in new_answer x q (ap code is.0) is.1
  any_answer x y q false other = same_answer x q (answer_of m.answers x q) (λ same from. both_ways (is_answer x q new) other (own_is x q new (same_code x e y coded same) from)) (rule.answers x y q)

  pub survey_rule : RuleMatches n (told_fleet f (code e) r v)
  survey_rule = record {
    coded = λ t there. rule.coded t (subst (λ (ts : List Term). Contains ts t) terms there);
    appointed = λ x y. rule.appointed x y ∙ ap (λ (ts : List Term). list_any (λ (t : Term). is_epoch x t.epoch) ts) (sym terms);
    only = rule.only;
    members = λ t there. rule.members t (subst (λ (ts : List Term). Contains ts t) terms there);
    some_member = λ t there. rule.some_member t (subst (λ (ts : List Term). Contains ts t) terms there);
    latest = rule.latest ∙ ap latest_in (sym terms);
    active = rule.active ∙ sym config;
    answers = λ x y q. subst (λ (z : Option SurveyAnswer). AnswerMatches (told_fleet f (code e) r v) x q z) (sym (ap (λ (as' : List SurveyAnswer). answer_of as' x q) answers ∙ answer_with new m.answers x q)) (any_answer x y q (is_answer x q new) refl);
    surveyed = λ k q yes. elim (put_at (code e) r true f.answered k q) [
      | inl at ↦ (e, coded, sym at.0)
      | inr other ↦ rule.surveyed k q (sym other.1 ∙ yes)
    ];
    unbooted = λ none. absurd (booted (sym terms ∙ none));
  }

-- ---- a survey that is done

-- what a survey leaves, besides the replica itself
pub record Surveyed (f : Fleet Record) (r : ℕ) (e : Epoch) (o x : OpenReplica) : Type 0 where
  pub before : Fleet Record
  pub moved : Moved f (told_fleet before (code e) r (value_of o.stable (fenced o.disk e))) r (Open x)
  pub rule : SameRule f before
  pub standing : IsStanding (told_fleet before (code e) r (value_of o.stable (fenced o.disk e))) r x
  pub kept : IsKept x.disk
  pub ends : x.leading ≡ None

module _ (f : Fleet Record) (r : ℕ) (o : OpenReplica) (e : Epoch) (t : IsThere f r o) (coded : IsCoded e) (above : f.latest < code e) where
  abbrev pub behind : OpenReplica
  behind = record o { disk = fenced o.disk e; leading = None; front = nothing no_epoch }

  pub behind_is : epoch_lt e o.disk.fence ≡ false → looked (written o (steps.Survey e)) ≡ behind
  behind_is ge = ap (λ (b : Bool). looked (cond b o (record o { disk = appended o.disk (step_block o (steps.Survey e)); leading = None; front = nothing no_epoch }))) ge ∙ ap (λ (w : Whole). let x : OpenReplica = record o { disk = w; leading = None; front = nothing no_epoch } in x) (disk_is o e)

  raising : (stable : ℕ) → Turn f r (value_of stable o.disk) (value_of stable (fenced o.disk e))
  raising stable = raises (code (later o.disk.fence e)) (later_code o.disk.fence e t.kept.fence coded).0

  told_same : stable_of (fenced o.disk e) ≤ o.stable
  told_same = t.standing.told

  fenced_kept : IsKept (fenced o.disk e)
  fenced_kept = record { start = t.kept.start; fence = (later_code o.disk.fence e t.kept.fence coded).2; items = t.kept.items }

  pub survey_done : epoch_lt e o.disk.fence ≡ false → Surveyed f r e o (looked (written o (steps.Survey e)))
  survey_done ge =
      let now = Open behind in
      let v = value_of o.stable (fenced o.disk e) in
      let one : Moved f (changed_fleet f r (v ∷ []) 0 0) r now = one_change f r now (inl refl) (omega arith) (all_one (λ (y : Value Record). (z : Value Record) × IsValueOf f r z × Turn f r z y) v (value_of o.stable o.disk, value_there f r o t, raising o.stable)) in
      let h : Fleet Record = changed_fleet f r (v ∷ []) 0 0 in
      let g : Fleet Record = told_fleet h (code e) r v in
      let run : Run f g = moves one.run (answer (code e) r v (record {
        above = above;
        is_open = put_same r (v ∷ []) f.values r refl;
        fence = (later_code o.disk.fence e t.kept.fence coded).1;
        role = put_same r 0 f.role r refl;
      })) in
      subst (λ (x : OpenReplica). Surveyed f r e o x) (sym (behind_is ge)) (record {
        before = h;
        moved = record { run = run; values = one.values; role = one.role; no_copy = one.no_copy; elsewhere = λ d is ne. record { history = refl; current = refl; previous = refl; activated = λ y. y } };
        rule = record { appointed = refl; current = refl; previous = refl; latest = refl; active = refl; answered = refl; told_epoch = refl; told_length = refl };
        standing = record { number = t.standing.number; told = told_same; settled = refl; leads = λ l lead. absurd (false≢true (ap is_some lead)) };
        kept = fenced_kept;
        ends = refl;
      })

  -- a survey below the fence changes nothing
  pub survey_ignored : epoch_lt e o.disk.fence ≡ true → StepDone f r o (looked (written o (steps.Survey e)))
  survey_ignored lt =
      let same : o ≡ looked (written o (steps.Survey e)) = sym t.standing.settled ∙ sym (ap (λ (b : Bool). looked (cond b o (record o { disk = appended o.disk (step_block o (steps.Survey e)); leading = None; front = nothing no_epoch }))) lt) in
      subst (λ (x : OpenReplica). StepDone f r o x) same (nothing_done f r o t)

  pub survey_cut : StepCut f r (cut_off o (steps.Survey e))
  survey_cut =
      let c = cut f r o.stable o.disk (fenced o.disk e) t.values (raising o.stable) t.standing.told told_same in
      subst (λ (w : Whole). StepCut f r (o.disk ∷ w ∷ [])) (sym (disk_is o e)) (record { fleet = c.0; moved = c.1; rule = c.2; kept = kept_two o.disk (fenced o.disk e) t.kept fenced_kept })

-- ---- an epoch above each that was appointed

below_all : (e : Epoch) (ts : List Term) → list_all (λ (x : Term). epoch_lt x.epoch e) ts ≡ true → All (λ (x : Term). epoch_lt x.epoch e ≡ true) ts
below_all e [] above = all_none (λ (x : Term). epoch_lt x.epoch e ≡ true)
below_all e (x ∷ ts) above =
    let parts = and_parts (epoch_lt x.epoch e) (list_all (λ (x : Term). epoch_lt x.epoch e) ts) above in
    all_more (λ (x : Term). epoch_lt x.epoch e ≡ true) x ts parts.0 (below_all e ts parts.1)

-- each of the terms is below an epoch that is above all
pub term_below : (m : Machine) (f : Fleet Record) (e : Epoch) (t : Term) → RuleMatches m f → IsCoded e → list_all (λ (x : Term). epoch_lt x.epoch e) (terms_of m) ≡ true → Contains (terms_of m) t → code t.epoch < code e
term_below m f e t rule coded above there = code_less t.epoch e (rule.coded t there) coded (all_member (λ (x : Term). epoch_lt x.epoch e ≡ true) (terms_of m) t (below_all e (terms_of m) above) there)

last_there : (t : Term) (ts : List Term) → (x : Term) × Contains (t ∷ ts) x × (latest_in (t ∷ ts) ≡ code x.epoch)
last_there t ts =
    let k = length ts in
    let x = get_or (t ∷ ts) k t in
    let here : Contains (t ∷ ts) x = (k, omega arith, get_or_default (t ∷ ts) k x t (omega arith)) in
    (x, here, ap (λ (n : ℕ). option_map_or (λ (y : Term). code y.epoch) (slice_get (t ∷ ts) n) 0) (sized k) ∙ ap (λ (y : Option Term). option_map_or (λ (z : Term). code z.epoch) y 0) (slice_get-get_or (t ∷ ts) k t (omega arith))) where
      sized : (k : ℕ) → suc k - 1 ≡ k
      sized k = omega arith

latest_any : (ts : List Term) → (ts ≡ [] → ⊥) → (x : Term) × Contains ts x × (latest_in ts ≡ code x.epoch)
latest_any [] some = absurd (some refl)
latest_any (t ∷ ts) some = last_there t ts

-- the latest epoch is that of one of the terms
pub latest_term : (m : Machine) (f : Fleet Record) → RuleMatches m f → (terms_of m ≡ [] → ⊥) → (x : Term) × Contains (terms_of m) x × (f.latest ≡ code x.epoch)
latest_term m f rule booted = let x = latest_any (terms_of m) booted in (x.0, x.1, rule.latest ∙ x.2)
