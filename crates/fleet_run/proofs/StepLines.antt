-- The lines of a step, by what they say of an active primary or of a survey.
use Rattle.std.proofs.Common.{◌≡◌, ◌∙◌, ℕ, ◌-◌, true, false, Bool, cond, not, ◌⊎◌, List, [], ◌∷◌, ◌++◌, map, drop, refl, sym, ap, Option, Some, None}
use Rattle.std.specs.Prelude.{All, ◌&&◌, nat_lt}
use Rattle.std.proofs.lemmas.Bool.{and_parts}
use Rattle.std.proofs.lemmas.List.{append-nil}
use Rattle.rc_base.specs.declared.ids.Epoch.{Epoch}
use Rattle.rc_base.specs.declared.ids.TxnId.{TxnId}
use Rattle.txn_table.specs.declared.committed.Committed.{Committed}
use Rattle.events.specs.declared.answer.Answer.{Answer}
use Rattle.events.specs.declared.answer.Answer.TheVariants as answers
use Rattle.events.specs.declared.event.Event.{Event}
use Rattle.order_machine.specs.declared.observation.Observation.{Observation}
use Rattle.order_machine.specs.declared.observation.Observation.TheVariants as says
use Rattle.order_machine.specs.AnswerLines.{line_of_answer}
use Rattle.order_machine.specs.Order.{length_of}
use Rattle.order_machine.specs.Machine.{Machine, has_role, order_of}
use Rattle.order_machine.specs.Transitions.{Position, after}
use Rattle.order_machine.specs.Legal.{behind}
use Rattle.replica_model.specs.declared.step.StepEvent.{StepEvent}
use Rattle.replica_model.specs.declared.step.StepEvent.TheVariants as steps
use Rattle.replica_model.specs.declared.step.Outcome.{Outcome}
use Rattle.replica_model.specs.OpenReplica.{OpenReplica, view_of, is_active}
use Rattle.replica_model.specs.Steps.{written, step_result, step_outcome, step_answer}
use Rattle.fleet_run.specs.Acts.{order_line, order_lines, view_line, active_line, answer_lines, inspection_lines, lines_of_step}
use Rattle.fleet_run.specs.Laws.{is_survey, IsAside}
use Rattle.fleet_run.proofs.MachineLines.{May, MayEach, IsFirst, each_append}
use Rattle.fleet_run.proofs.Writing.{all_first, all_rest}

pub behind_append : (p : Position) (xs ys : List Observation) → behind p (xs ++ ys) ≡ behind (behind p xs) ys
behind_append p [] ys = refl
behind_append p (x ∷ xs) ys = behind_append (after p x) xs ys

module _ (rises : Epoch → Type 0) (tells : Type 0) (event : Event) (m : Machine) where
  orders_may : (cs : List Committed) → MayEach rises tells event m (map order_line cs)
  orders_may [] = tt
  orders_may (c ∷ cs) = (tt, orders_may cs)

  view_may : (r n : ℕ) (b : Bool) → MayEach rises tells event m (cond b (says.View r n ∷ []) [])
  view_may r n true = (tt, tt)
  view_may r n false = tt

  active_may : (r : ℕ) (b : Bool) → (b ≡ true → (e : Epoch) → (has_role m r e ≡ true) ⊎ IsFirst event e → rises e) → MayEach rises tells event m (cond b (says.Active r ∷ []) [])
  active_may r true may = (may refl, tt)
  active_may r false may = tt

  acknowledged_may : (ts : List TxnId) → MayEach rises tells event m (map says.Committed ts)
  acknowledged_may [] = tt
  acknowledged_may (t ∷ ts) = (tt, acknowledged_may ts)

  answer_may : (answer : Answer) → tells ⊎ (is_survey event ≡ false) → May rises tells event m (line_of_answer answer)
  answer_may (answers.Txn t) may = tt
  answer_may answers.Done may = tt
  answer_may answers.True may = tt
  answer_may answers.False may = tt
  answer_may (answers.Value value) may = tt
  answer_may answers.Missing may = tt
  answer_may answers.Absent may = tt
  answer_may answers.WrongKind may = tt
  answer_may (answers.Ended t) may = tt
  answer_may (answers.Locked t) may = tt
  answer_may (answers.NotActive q) may = tt
  answer_may (answers.Down q) may = tt
  answer_may (answers.Refused part) may = tt
  answer_may (answers.Progress q e last) may = may
  answer_may answers.IgnoredUp may = tt
  answer_may (answers.IgnoredOldEpoch fence e) may = tt

  pub answers_may : (x : Option Answer) → tells ⊎ (is_survey event ≡ false) → MayEach rises tells event m (answer_lines x)
  answers_may None may = tt
  answers_may (Some answer) may = (answer_may answer may, tt)

  rows_may : (rows : List (List (List ℕ))) → MayEach rises tells event m (map says.Rows rows)
  rows_may [] = tt
  rows_may (row ∷ rows) = (tt, rows_may rows)

  inspection_may : (o : OpenReplica) (step : StepEvent) → MayEach rises tells event m (inspection_lines o step)
  inspection_may o steps.Inspect = (tt, rows_may _)
  inspection_may o (steps.Client call) = tt
  inspection_may o (steps.Survey e) = tt
  inspection_may o (steps.Appoint a) = tt
  inspection_may o (steps.Activate e) = tt
  inspection_may o steps.Barrier = tt

  aside_may_one : (o : Observation) → IsAside o → May rises tells event m o
  aside_may_one (says.Active r) aside = absurd aside
  aside_may_one (says.Progress r e last) aside = absurd aside
  aside_may_one (says.Up r) aside = tt
  aside_may_one (says.Order t ops) aside = tt
  aside_may_one (says.View r n) aside = tt
  aside_may_one (says.Committed t) aside = tt
  aside_may_one (says.Txn t) aside = tt
  aside_may_one says.Done aside = tt
  aside_may_one (says.Refused part) aside = tt
  aside_may_one (says.Down r) aside = tt
  aside_may_one (says.NotActive r) aside = tt
  aside_may_one (says.Ended t) aside = tt
  aside_may_one (says.Locked t) aside = tt
  aside_may_one says.True aside = tt
  aside_may_one says.False aside = tt
  aside_may_one (says.Value value) aside = tt
  aside_may_one says.Missing aside = tt
  aside_may_one says.Absent aside = tt
  aside_may_one says.WrongKind aside = tt
  aside_may_one (says.Fault r) aside = tt
  aside_may_one says.IgnoredUp aside = tt
  aside_may_one (says.IgnoredOldEpoch fence e) aside = tt
  aside_may_one (says.State r k) aside = tt
  aside_may_one (says.Rows words) aside = tt

  pub aside_may : (lines : List Observation) → All IsAside lines → MayEach rises tells event m lines
  aside_may [] asides = tt
  aside_may (o ∷ lines) asides = (aside_may_one o (all_first IsAside o lines asides), aside_may lines (all_rest IsAside o lines asides))

  told_may : (n : Machine) (o : OpenReplica) (step : StepEvent) (told : Outcome) → (told.active ≡ true → (e : Epoch) → (has_role m o.id e ≡ true) ⊎ IsFirst event e → rises e)
      → MayEach rises tells event m (order_lines n o told.commits ++ view_line o told ++ active_line o step told ++ map says.Committed told.acknowledged)
  told_may n o step told may =
      let a = order_lines n o told.commits in
      let b = view_line o told in
      let c = active_line o step told in
      let d = map says.Committed told.acknowledged in
      each_append rises tells event m (a ++ b ++ c) d
      (each_append rises tells event m (a ++ b) c
      (each_append rises tells event m a b (orders_may (drop (length_of (order_of n o.id) - view_of o) told.commits)) (view_may o.id told.shown (nat_lt (view_of o) told.shown)))
      (active_may o.id (told.active && not (is_active (written o step))) (λ is. may (and_parts told.active (not (is_active (written o step))) is).0)))
      (acknowledged_may told.acknowledged)

  -- the lines before the answer
  abbrev pub first_lines : Machine → OpenReplica → StepEvent → List Observation
  first_lines n o step = order_lines n o (step_outcome o step).commits ++ view_line o (step_outcome o step) ++ active_line o step (step_outcome o step) ++ map says.Committed (step_outcome o step).acknowledged

  told_active : (o : OpenReplica) (step : StepEvent) → (step_outcome o step).active ≡ is_active (step_result o step)
  unfolding step_result step_outcome
  told_active o step = refl

  pub first_may : (n : Machine) (o : OpenReplica) (step : StepEvent) → (is_active (step_result o step) ≡ true → (e : Epoch) → (has_role m o.id e ≡ true) ⊎ IsFirst event e → rises e) → MayEach rises tells event m (first_lines n o step)
  first_may n o step may = told_may n o step (step_outcome o step) (λ is. may (sym (told_active o step) ∙ is))

  pub lines_may : (n : Machine) (o : OpenReplica) (step : StepEvent) (closing : List Observation) → (is_active (step_result o step) ≡ true → (e : Epoch) → (has_role m o.id e ≡ true) ⊎ IsFirst event e → rises e) → MayEach rises tells event m (answer_lines (step_answer o step)) → All IsAside closing
      → MayEach rises tells event m (lines_of_step n o step closing)
  unfolding lines_of_step step_outcome
  lines_may n o step closing may told asides =
      let first = first_lines n o step in
      let answer = answer_lines (step_answer o step) in
      let rows = inspection_lines o step in
      each_append rises tells event m (first ++ answer ++ rows) closing
      (each_append rises tells event m (first ++ answer) rows
      (each_append rises tells event m first answer (first_may n o step may) told)
      (inspection_may o step))
      (aside_may closing asides)

-- a survey has the lines before its answer, and then that
pub survey_lines : (p : Position) (n : Machine) (o : OpenReplica) (e : Epoch) (closing : List Observation)
    → behind p (lines_of_step n o (steps.Survey e) closing) ≡ behind (behind (behind p (first_lines (λ x. Unit {0}) (Unit {0}) p.event n n o (steps.Survey e))) (answer_lines (step_answer o (steps.Survey e)))) closing
unfolding lines_of_step step_outcome
survey_lines p n o e closing =
    let first = first_lines (λ x. Unit {0}) (Unit {0}) p.event n n o (steps.Survey e) in
    let told = answer_lines (step_answer o (steps.Survey e)) in
    behind_append p ((first ++ told) ++ []) closing ∙ ap (λ (q : Position). behind q closing) (ap (behind p) (append-nil (first ++ told)) ∙ behind_append p first told)
