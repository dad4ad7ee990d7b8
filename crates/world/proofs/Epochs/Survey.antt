-- A survey in a world: where it is refused, and what it does.
use Rattle.std.proofs.Common.{◌≡◌, ◌∙◌, sym, ap, ap₂, subst, refl, ℕ, suc, ◌≤◌, ◌<◌, max, Bool, true, false, cond, not, ◌&&◌, nat_lt, List, [], ◌∷◌, ◌++◌, map, Option, Some, None, is_some, Result, Ok, Err, IfOk, OnOk, OnErr, inr, arith}
use Rattle.std.specs.List.{cons_option}
use Rattle.std.proofs.lemmas.Option.{same_Some}
use Rattle.order_machine.specs.AnswerLines.{line_of_answer}
use Rattle.std.specs.Prelude.{option_map}
use Rattle.events.specs.declared.answer.Answer.{Answer}
use Rattle.world.proofs.Exits.FaultCounts.{answer_faultless, fault_first, rose_none, rose_one}
use Rattle.world.proofs.Calls.Steps.{not_below, not_newly}
use Rattle.world.proofs.States.Booted.{once_standing}
use Rattle.rc_base.specs.Counts.{Rose}
use Rattle.rc_base.specs.declared.ids.Epoch.{Epoch}
use Rattle.rc_base.specs.declared.ids.Lsn.{Lsn}
use Rattle.rc_base.specs.Ids.{no_epoch, epoch_lt}
use Rattle.config_rule.specs.declared.answers.SurveyAnswer.{SurveyAnswer}
use Rattle.config_rule.specs.Rule.{Known, is_above, after_answer, with_answer}
use Rattle.disk_model.specs.Disk.{Areas, Marks}
use Rattle.log_store.specs.declared.kept.Kept.{Kept as Log}
use Rattle.log_store.specs.Durable.{StandForOneOf}
use Rattle.txn_table.specs.Epochs.{later}
use Rattle.events.specs.declared.event.Event.TheVariants.{Survey}
use Rattle.order_machine.specs.declared.observation.Observation.{Observation}
use Rattle.order_machine.specs.declared.observation.Observation.TheVariants as says
use Rattle.order_machine.specs.Order.{length_of}
use Rattle.order_machine.specs.Machine as machine
use Rattle.order_machine.specs.Machine.{Machine, replica, order_of, without_role}
use Rattle.order_machine.specs.Transitions.{refusal, down_of, is_above_all, with_survey}
use Rattle.order_machine.specs.Legal.{IsWhole, moved}
use Rattle.txn_front.specs.Front.{nothing}
use Rattle.replica_model.specs.declared.role.Role.{Role}
use Rattle.replica_model.specs.declared.role.Role.TheVariants.{Other}
use Rattle.replica_model.specs.declared.step.StepEvent.TheVariants as steps
use Rattle.replica.specs.Open.{Open}
use Rattle.replica.specs.Step as step_spec
use Rattle.replica.specs.Step.{quiet, outcome, survey_answer}
use Rattle.world.specs.declared.error.WorldError.{WorldError}
use Rattle.world.specs.declared.error.WorldError.TheVariants as errors
use Rattle.world.specs.Course.{AreNoted}
use Rattle.world.specs.Fleet.{faults_in}
use Rattle.world.specs.Kept.{Kept, has_booted}
use Rattle.world.specs.declared.effects.EventEffects.{EventEffects}
use Rattle.world.specs.Handling.{Handles, rule_surveyed}
use Rattle.world.specs.Steps.{no_effects, effects_after, progress_in, told, told_by, cons_if, order_line, log_once}
use Rattle.world.specs.World.{StandsFor, AsRole, Resting, IsOpen, IsRuled, StillHolds, Serves}
use Rattle.world.proofs.Epochs.Previous.{holds_replica}
use Rattle.world.proofs.States.Later.{ruled_of, open_of, closed_stands, open_stands, booted_stands, up_role}
use Rattle.world.proofs.Calls.AtReplica.{shown_low}
use Rattle.world.proofs.Exits.Common.{result_handles, marks_same}
use Rattle.world.proofs.Exits.Limits.{servable}
use Rattle.world.proofs.States.Roleless.{rests_ended}
use Rattle.world.proofs.Epochs.Rule.{survey_same}
use Rattle.world.proofs.Epochs.SurveyStates.{IsSurveyed, answered_surveyed, ignored_surveyed, faulted_surveyed, survey_still}
use Rattle.world.proofs.Epochs.SurveyLines.{RoleEnds, role_ends, survey_noted, shut_of}
use Rattle.events.specs.declared.answer.Answer.TheVariants as answers

-- ---- refusals

refusal_is : (m : Machine) (e : Epoch) (b : Bool) → machine.is_booted m ≡ true → is_above_all m e ≡ b → refusal m (Survey 0 e) ≡ cond b (down_of m 0) (Some (answers.Refused 1))
refusal_is m e b booted above = once_standing m (cond (is_above_all m e) (down_of m 0) (Some (answers.Refused 1))) booted ∙ ap (λ (c : Bool). cond c (down_of m 0) (Some (answers.Refused 1))) above

pub above_is : (k : Kept) (images : Areas → Type 0) (e : Epoch) (known : Known) (b : Bool) → k.rule ≡ Some known → is_above known.appointed e ≡ b → (m : Machine) → StandsFor k images m → is_above_all m e ≡ b
above_is k images e known b rule above m s =
    let r = ruled_of k images m (ap is_some rule) s in
    let same : r.known ≡ known = same_Some r.known known (sym r.rule ∙ rule) in
    sym (survey_same k m r e) ∙ (ap (λ (x : Known). is_above x.appointed e) same ∙ above)

survey_goes : (k : Kept) (images : Areas → Type 0) (e : Epoch) (known : Known) (r : Open) → k.rule ≡ Some known → is_above known.appointed e ≡ true → k.replica ≡ Some r → (m : Machine) → StandsFor k images m → refusal m (Survey 0 e) ≡ None
survey_goes k images e known r rule above some m s =
    refusal_is m e true (booted_stands k images m (ap is_some rule) s) (above_is k images e known true rule above m s)
    ∙ ap (λ (b : Bool). cond b None (Some (answers.Down 0))) (up_role r.role k.last r images m (open_of k images m r (ap is_some rule) some s))

-- ---- the lines

-- a survey tells its answer alone
told_quiet : (r s : Open) (answer : Answer) → nat_lt r.shown s.shown ≡ false → (step_spec.is_active s.role && not (step_spec.is_active r.role)) ≡ false → told r.id r.shown (step_spec.is_active r.role) (quiet s (Some answer)) ≡ line_of_answer answer ∷ []
told_quiet r s answer shown active =
    ap₂ (λ (a b : Bool). map order_line [] ++ cons_if a (says.View r.id s.shown) ++ cons_if b (says.Active r.id) ++ map says.Committed [] ++ cons_option (option_map line_of_answer (Some answer)) []) shown active

pub told_survey : (r : Open) (e : Epoch) → told_by r (steps.Survey e) ≡ line_of_answer (survey_answer r e) ∷ []
told_survey r e = by (epoch_lt e r.fence) (survey_answer r e)
  where
    laid : Open
    laid = record r { fence = later r.fence e; role = Other; front = nothing no_epoch }

    by : (low : Bool) (answer : Answer) → told r.id r.shown (step_spec.is_active r.role) (quiet (cond low r laid) (Some answer)) ≡ line_of_answer answer ∷ []
    by true answer = told_quiet r r answer (not_below r.shown) (not_newly (step_spec.is_active r.role))
    by false answer = told_quiet r laid answer (not_below r.shown) refl

-- none of them tells a fault
pub survey_faultless : (q : ℕ) (r : Open) (e : Epoch) → faults_in q (told_by r (steps.Survey e)) ≡ 0
survey_faultless q r e = ap (faults_in q) (told_survey r e) ∙ answer_faultless q (survey_answer r e)

-- ---- it is answered

abbrev answer_in : Open → Epoch → SurveyAnswer
answer_in r e = record { epoch = e; from = 0; last_epoch = r.epoch; last = r.last }

abbrev pub answered_in : Kept → ℕ → Known → Epoch → Open → Open → Kept
answered_in k number known e r o = record k { last = number; rule = Some (after_answer known (record { epoch = e; from = 0; last_epoch = r.epoch; last = r.last })); order = max k.order r.shown; replica = Some o }

-- the order stays as long as it was
low_order : (k : Kept) (m : Machine) (r : Open) → r.shown ≤ length_of (order_of m 0) → IsRuled k m → max k.order r.shown ≡ length_of (order_of m 0)
low_order k m r low ruled = let was = ruled.order in grind (arith, low, was)

ruled_noted : (k : Kept) (number : ℕ) (known : Known) (e : Epoch) (r o : Open) (images : Areas → Type 0) (m : Machine) → k.rule ≡ Some known → RoleEnds m r.fence → Resting k.last r images (without_role m 0) → r.shown ≤ length_of (order_of m 0) → IsRuled k m → IsRuled (answered_in k number known e r o) (survey_noted e (answer_in r e) (without_role m 0))
ruled_noted k number known e r o images m rule ends rests low ruled =
    let a : SurveyAnswer = answer_in r e in
    let same : ruled.known ≡ known = same_Some ruled.known known (sym ruled.rule ∙ rule) in
    record {
      known = after_answer known a;
      rule = refl;
      appointed = subst (λ (x : Known). AreNoted x.appointed m.appointments) same ruled.appointed;
      current = ap (λ (x : Known). x.current) (sym same) ∙ ruled.current;
      answers = ap (λ (x : Known). with_answer a x.answers) (sym same) ∙ ap (with_answer a) ruled.answers;
      order = low_order k m r low ruled ∙ (ap length_of ends.order ∙ (ap (λ (n : Machine). length_of (order_of n 0)) rests.rests.is ∙ sym (ap (λ (n : Machine). length_of (order_of (survey_noted e a n) 0)) rests.rests.is)));
    }

pub surveyed_still : (k : Kept) (images now : Areas → Type 0) (e : Epoch) (r : Open) → has_booted k ≡ true → k.replica ≡ Some r → ((log : Log) → IsOpen r log images → StandForOneOf log (log_once r (steps.Survey e) log) now) → (m : Machine) → StandsFor k images m → StillHolds m now
surveyed_still k images now e r booted some stop m s = survey_still r.role k.last r images now m e (open_of k images m r booted some s) stop

stop_by : (r o : Open) (e : Epoch) (images now : Areas → Type 0) → IsSurveyed r o e images now → (log : Log) → IsOpen r log images → StandForOneOf log (log_once r (steps.Survey e) log) now
stop_by r o e images now st log is_open c is = inr ((st.stands log is_open).stands c is)

survey_answered : (k new : Kept) (images now : Areas → Type 0) (e : Epoch) (known : Known) (r o : Open) (number : ℕ) (lines : List Observation) → k.rule ≡ Some known → is_above known.appointed e ≡ true → k.replica ≡ Some r → k.last ≤ number → epoch_lt e r.fence ≡ false → IsSurveyed r o e images now → new ≡ answered_in k number known e r o → lines ≡ says.Progress 0 r.epoch r.last.0 ∷ [] → Serves k new images now (Survey 0 e) (Ok lines)
survey_answered k new images now e known r o number lines rule above some rising high st kept told_is =
    subst (λ (w : Kept). Serves k w images now (Survey 0 e) (Ok lines)) (sym kept) (subst (λ (ls : List Observation). Serves k behind images now (Survey 0 e) (Ok ls)) (sym told_is) serves)
  where
    behind : Kept
    behind = answered_in k number known e r o

    line : List Observation
    line = says.Progress 0 r.epoch r.last.0 ∷ []

    serves : (m : Machine) → StandsFor k images m → IsWhole m (Survey 0 e) line × StandsFor behind now (moved m (Survey 0 e) line) × StillHolds m now
    serves m s =
        let booted : has_booted k ≡ true = ap is_some rule in
        let role : AsRole r.role k.last r images m = open_of k images m r booted some s in
        let rests : Resting k.last r images (without_role m 0) = rests_ended r.role k.last r images m refl role in
        let ends : RoleEnds m r.fence = role_ends r.role k.last r images m r.fence role in
        let done = answered_surveyed k.last number r o images now m e rising rests (survey_goes k images e known r rule above some m s) (above_is k images e known true rule above m s) high st in
        let ruled : IsRuled behind (survey_noted e (answer_in r e) (without_role m 0)) = ruled_noted k number known e r o images m rule ends rests (shown_low r.role k.last r images m role) (ruled_of k images m booted s) in
        let there : AsRole o.role number o now (survey_noted e (answer_in r e) (without_role m 0)) = subst (λ (w : Role). AsRole w number o now (survey_noted e (answer_in r e) (without_role m 0))) (sym done.2) done.3 in (
          done.0,
          subst (StandsFor behind now) (sym done.1) (open_stands behind now (survey_noted e (answer_in r e) (without_role m 0)) o refl refl there ruled),
          surveyed_still k images now e r booted some (stop_by r o e images now st) m s,
        )

-- ---- it is ignored

survey_ignored : (k new : Kept) (images now : Areas → Type 0) (e : Epoch) (known : Known) (r o : Open) (number : ℕ) (lines : List Observation) → k.rule ≡ Some known → is_above known.appointed e ≡ true → k.replica ≡ Some r → k.last ≤ number → epoch_lt e r.fence ≡ true → IsSurveyed r o e images now → new ≡ record k { last = number; order = max k.order r.shown; replica = Some o } → lines ≡ says.IgnoredOldEpoch r.fence e ∷ [] → Serves k new images now (Survey 0 e) (Ok lines)
survey_ignored k new images now e known r o number lines rule above some rising low st kept told_is =
    subst (λ (w : Kept). Serves k w images now (Survey 0 e) (Ok lines)) (sym kept) (subst (λ (ls : List Observation). Serves k behind images now (Survey 0 e) (Ok ls)) (sym told_is) serves)
  where
    behind : Kept
    behind = record k { last = number; order = max k.order r.shown; replica = Some o }

    line : List Observation
    line = says.IgnoredOldEpoch r.fence e ∷ []

    serves : (m : Machine) → StandsFor k images m → IsWhole m (Survey 0 e) line × StandsFor behind now (moved m (Survey 0 e) line) × StillHolds m now
    serves m s =
        let booted : has_booted k ≡ true = ap is_some rule in
        let role : AsRole r.role k.last r images m = open_of k images m r booted some s in
        let rests : Resting k.last r images (without_role m 0) = rests_ended r.role k.last r images m refl role in
        let ends : RoleEnds m r.fence = role_ends r.role k.last r images m r.fence role in
        let done = ignored_surveyed k.last number r o images now m e rising role rests ends (survey_goes k images e known r rule above some m s) (above_is k images e known true rule above m s) (holds_replica (Some r) k.last images m role) low st in
        let was = ruled_of k images m booted s in
        let ruled : IsRuled behind m = record { known = was.known; rule = was.rule; appointed = was.appointed; current = was.current; answers = was.answers; order = low_order k m r (shown_low r.role k.last r images m role) was } in (
          done.0,
          subst (StandsFor behind now) (sym done.1) (open_stands behind now m o booted refl done.2 ruled),
          surveyed_still k images now e r booted some (stop_by r o e images now st) m s,
        )

-- ---- its disk faults

survey_faulted : (k new : Kept) (images now : Areas → Type 0) (e : Epoch) (known : Known) (r : Open) (number : ℕ) (lines : List Observation) → k.rule ≡ Some known → is_above known.appointed e ≡ true → k.replica ≡ Some r → k.last ≤ number → ((log : Log) → IsOpen r log images → StandForOneOf log (log_once r (steps.Survey e) log) now) → new ≡ record k { last = number; replica = None } → lines ≡ says.Fault 0 ∷ [] → Serves k new images now (Survey 0 e) (Ok lines)
survey_faulted k new images now e known r number lines rule above some rising stop kept told_is =
    subst (λ (w : Kept). Serves k w images now (Survey 0 e) (Ok lines)) (sym kept) (subst (λ (ls : List Observation). Serves k behind images now (Survey 0 e) (Ok ls)) (sym told_is) serves)
  where
    behind : Kept
    behind = record k { last = number; replica = None }

    line : List Observation
    line = says.Fault 0 ∷ []

    serves : (m : Machine) → StandsFor k images m → IsWhole m (Survey 0 e) line × StandsFor behind now (moved m (Survey 0 e) line) × StillHolds m now
    serves m s =
        let booted : has_booted k ≡ true = ap is_some rule in
        let role : AsRole r.role k.last r images m = open_of k images m r booted some s in
        let rests : Resting k.last r images (without_role m 0) = rests_ended r.role k.last r images m refl role in
        let ends : RoleEnds m e = role_ends r.role k.last r images m e role in
        let done = faulted_surveyed k.last number r images now m e rising rests ends (survey_goes k images e known r rule above some m s) stop in
        let then : Machine = with_survey (shut_of (without_role m 0)) 0 e true in
        let was = ruled_of k images m booted s in
        let order : k.order ≡ length_of (order_of then 0) = was.order ∙ (ap length_of ends.order ∙ (ap (λ (n : Machine). length_of (order_of n 0)) rests.rests.is ∙ sym (ap (λ (n : Machine). length_of (order_of (with_survey (shut_of n) 0 e true) 0)) rests.rests.is))) in
        let ruled : IsRuled behind then = record { known = was.known; rule = was.rule; appointed = was.appointed; current = was.current; answers = was.answers; order = order } in (
          done.0,
          subst (StandsFor behind now) (sym done.1) (closed_stands behind now then booted refl done.2 ruled),
          surveyed_still k images now e r booted some stop m s,
        )

-- ---- which line it is

-- a survey shows nothing more
pub survey_shows : (r : Open) (e : Epoch) → (outcome r (steps.Survey e)).shown ≡ r.shown
survey_shows r e = by (epoch_lt e r.fence)
  where
    by : (low : Bool) → (cond low r (record r { fence = later r.fence e; role = Other; front = nothing no_epoch })).shown ≡ r.shown
    by true = refl
    by false = refl

answer_told : (r : Open) (e : Epoch) → r.id ≡ 0 → epoch_lt e r.fence ≡ false → told_by r (steps.Survey e) ≡ says.Progress 0 r.epoch r.last.0 ∷ []
answer_told r e first high =
    told_survey r e
    ∙ (ap (λ (b : Bool). line_of_answer (cond b (answers.IgnoredOldEpoch r.fence e) (answers.Progress r.id r.epoch r.last.0)) ∷ []) high
    ∙ ap (λ (n : ℕ). says.Progress n r.epoch r.last.0 ∷ []) first)

ignored_told : (r : Open) (e : Epoch) → epoch_lt e r.fence ≡ true → told_by r (steps.Survey e) ≡ says.IgnoredOldEpoch r.fence e ∷ []
ignored_told r e low = told_survey r e ∙ ap (λ (b : Bool). line_of_answer (cond b (answers.IgnoredOldEpoch r.fence e) (answers.Progress r.id r.epoch r.last.0)) ∷ []) low

-- ---- what its handler promises

-- after a survey that a replica answered, or ignored
abbrev pub surveyed_in : Kept → ℕ → Epoch → ℕ → Option (Epoch × Lsn) → ℕ → Option Open → Kept
surveyed_in k number e r answered order replica = record k { last = number; rule = rule_surveyed e r answered k.rule; order = order; replica = replica }

survey_serves : (k new : Kept) (images now : Areas → Type 0) (e : Epoch) (known : Known) (r o : Open) (number : ℕ) (effects : EventEffects) (answered : Option (Epoch × Lsn)) → k.rule ≡ Some known → is_above known.appointed e ≡ true → k.replica ≡ Some r → k.last < number → IsSurveyed r o e images now → r.id ≡ 0 →
    effects ≡ effects_after (no_effects k.order) r (steps.Survey e) → answered ≡ progress_in (outcome r (steps.Survey e)).answer → new ≡ surveyed_in k number e 0 answered effects.order (Some o) → Serves k new images now (Survey 0 e) (Ok effects.lines)
survey_serves k new images now e known r o number effects answered rule above some rising st first told answered_is kept = by (epoch_lt e r.fence) refl
  where
    lines : effects.lines ≡ told_by r (steps.Survey e)
    lines = ap (λ (d : EventEffects). d.lines) told

    order : effects.order ≡ max k.order r.shown
    order = ap (λ (d : EventEffects). d.order) told ∙ ap (max k.order) (survey_shows r e)

    by : (low : Bool) → epoch_lt e r.fence ≡ low → Serves k new images now (Survey 0 e) (Ok effects.lines)
    by false high =
        let answer : answered ≡ Some (r.epoch, r.last) = answered_is ∙ ap (λ (b : Bool). progress_in (Some (cond b (answers.IgnoredOldEpoch r.fence e) (answers.Progress r.id r.epoch r.last.0)))) high in
        survey_answered k new images now e known r o number effects.lines rule above some (omega (arith, rising)) high st
        (kept ∙ (ap (λ (a : Option (Epoch × Lsn)). surveyed_in k number e 0 a effects.order (Some o)) answer
        ∙ (ap (λ (n : ℕ). surveyed_in k number e 0 (Some (r.epoch, r.last)) n (Some o)) order
        ∙ ap (λ (w : Option Known). let n : Kept = record { last = number; rule = rule_surveyed e 0 (Some (r.epoch, r.last)) w; order = max k.order r.shown; replica = Some o } in n) rule)))
        (lines ∙ answer_told r e first high)
    by true low =
        let answer : answered ≡ None = answered_is ∙ ap (λ (b : Bool). progress_in (Some (cond b (answers.IgnoredOldEpoch r.fence e) (answers.Progress r.id r.epoch r.last.0)))) low in
        survey_ignored k new images now e known r o number effects.lines rule above some (omega (arith, rising)) low st
        (kept ∙ (ap (λ (a : Option (Epoch × Lsn)). surveyed_in k number e 0 a effects.order (Some o)) answer ∙ ap (λ (n : ℕ). surveyed_in k number e 0 None n (Some o)) order))
        (lines ∙ ignored_told r e low)

pub survey_handles : {M : Type 0} (images : M → Areas → Type 0) (faults : M → ℕ) (marks : M → Marks) (k new : Kept) (before now : M) (e : Epoch) (known : Known) (r o : Open) (number : ℕ) (effects : EventEffects) (answered : Option (Epoch × Lsn)) (result : Result (List Observation) WorldError) →
    k.rule ≡ Some known → is_above known.appointed e ≡ true → k.replica ≡ Some r → k.last < number → IsSurveyed r o e (images before) (images now) → r.id ≡ 0 → effects ≡ effects_after (no_effects k.order) r (steps.Survey e) → answered ≡ progress_in (outcome r (steps.Survey e)).answer →
    IfOk result (λ lines. lines ≡ effects.lines) → OnOk result (new ≡ surveyed_in k number e 0 answered effects.order (Some o)) → OnErr result (result ≡ Err errors.NoMemory) → ((log : Log) → IsOpen r log (images before) → StandForOneOf log (log_once r (steps.Survey e) log) (images now)) → faults before ≤ faults now → marks now ≡ marks before →
    Handles images faults marks k new before now number (Survey 0 e) result
survey_handles images faults marks k new before now e known r o number effects answered result rule above some rising st first told answered_is lines kept memory stop later same =
    let then : Kept = surveyed_in k number e 0 answered effects.order (Some o) in
    let all : effects.lines ≡ told_by r (steps.Survey e) = ap (λ (d : EventEffects). d.lines) told in
    result_handles images faults marks k new then before now number (Survey 0 e) effects.lines result lines kept memory later same (λ m s. surveyed_still k (images before) (images now) e r (ap is_some rule) some stop m s)
    (record {
      serves = survey_serves k then (images before) (images now) e known r o number effects answered rule above some rising st first told answered_is refl;
      servable = λ m s. servable m (Survey 0 e) refl;
      last = refl;
      others = λ q. ap (faults_in (suc q)) all ∙ survey_faultless (suc q) r e;
      counted = rose_none (faults before) (faults now) later (faults_in 0 effects.lines) (ap (faults_in 0) all ∙ survey_faultless 0 r e);
      armed = same ∙ marks_same (Survey 0 e) effects.lines (marks before) refl;
    })

pub fault_handles : {M : Type 0} (images : M → Areas → Type 0) (faults : M → ℕ) (marks : M → Marks) (k new : Kept) (before now : M) (e : Epoch) (known : Known) (r : Open) (number : ℕ) (effects : EventEffects) (result : Result (List Observation) WorldError) →
    k.rule ≡ Some known → is_above known.appointed e ≡ true → k.replica ≡ Some r → k.last < number → ((log : Log) → IsOpen r log (images before) → StandForOneOf log (log_once r (steps.Survey e) log) (images now)) → effects ≡ no_effects k.order →
    IfOk result (λ given. given ≡ effects.lines ++ says.Fault 0 ∷ []) → OnOk result (new ≡ record k { last = number; order = effects.order; replica = None }) → OnErr result (result ≡ Err errors.NoMemory) → faults before ≤ faults now → Rose (faults before) (faults now) → marks now ≡ marks before →
    Handles images faults marks k new before now number (Survey 0 e) result
fault_handles images faults marks k new before now e known r number effects result rule above some rising stop none given kept memory later rose same =
    let then : Kept = record k { last = number; order = effects.order; replica = None } in
    let lines : List Observation = effects.lines ++ says.Fault 0 ∷ [] in
    let all : lines ≡ says.Fault 0 ∷ [] = ap (λ (d : EventEffects). d.lines ++ says.Fault 0 ∷ []) none in
    result_handles images faults marks k new then before now number (Survey 0 e) lines result given kept memory later same (λ m s. surveyed_still k (images before) (images now) e r (ap is_some rule) some stop m s)
    (record {
      serves = survey_faulted k then (images before) (images now) e known r number lines rule above some (omega (arith, rising)) stop (ap (λ (d : EventEffects). record k { last = number; order = d.order; replica = None }) none) all;
      servable = λ m s. servable m (Survey 0 e) refl;
      last = refl;
      others = λ q. ap (faults_in (suc q)) all ∙ fault_first q;
      counted = rose_one (faults before) (faults now) later rose (faults_in 0 lines) (ap (faults_in 0) all);
      armed = same ∙ marks_same (Survey 0 e) lines (marks before) refl;
    })
