-- Lines of acts that tell little, and where each of the events ends.
use Rattle.std.proofs.Common.{◌≡◌, ◌∙◌, ℕ, ◌-◌, true, false, Bool, cond, not, List, [], ◌∷◌, ◌++◌, length, map, drop, refl, sym, ap, subst, arith, Option, Some, None, is_some}
use Rattle.std.specs.Prelude.{◌&&◌, nat_lt, MatchOption}
use Rattle.std.proofs.lemmas.Bool.{le-ltb, false_from_ne_true}
use Rattle.std.proofs.lemmas.List.{drop_all as drop_past}
use Rattle.order_machine.specs.Order.{length_of}
use Rattle.txn_table.specs.declared.committed.Committed.{Committed}
use Rattle.rc_base.specs.declared.ids.TxnId.{TxnId}
use Rattle.events.specs.declared.answer.Answer.{Answer}
use Rattle.events.specs.declared.event.Event.{Event}
use Rattle.order_machine.specs.declared.observation.Observation.{Observation}
use Rattle.order_machine.specs.declared.observation.Observation.TheVariants as says
use Rattle.order_machine.specs.AnswerLines.{line_of_answer}
use Rattle.order_machine.specs.Machine.{Machine, order_of}
use Rattle.order_machine.specs.Transitions.{Position, refusal, opened}
use Rattle.order_machine.specs.Legal.{behind}
use Rattle.replica_model.specs.declared.step.StepEvent.{StepEvent}
use Rattle.replica_model.specs.declared.step.Outcome.{Outcome}
use Rattle.replica_model.specs.OpenReplica.{OpenReplica, view_of, is_active, shown_commits}
use Rattle.replica_model.specs.Quorums.{looked, newly_shown, acknowledged_by}
use Rattle.replica_model.specs.Steps.{written, step_answer, step_outcome, outcome_of, has_risen}
use Rattle.fleet_run.specs.Scenes.{FleetState, Scene, entered, left}
use Rattle.fleet_run.specs.Acts.{Act, How, Does, Goes, order_line, order_lines, view_line, active_line, answer_lines, inspection_lines, lines_of_step, left_behind}
use Rattle.fleet_run.specs.Acts.Does.{opened as did_open, unopened, took, failed, closed, said}
use Rattle.fleet_run.specs.Acts.Goes.{starts, does}
use Rattle.fleet_run.specs.Plans.{plan}
use Rattle.fleet_run.specs.Rows.{LinesTellMachine}
use Rattle.fleet_run.proofs.StepLines.{behind_append}
use Rattle.fleet_run.proofs.Looking.{drop_all, none_newly}
use Rattle.fleet_run.proofs.Allowed.{still_risen}

-- ---- positions

act_behind : (s t : Scene) (act : Act) (how : How) (lines : List Observation) → Does s act how lines t → t.position ≡ behind s.position lines
act_behind s t act how lines (did_open r ws w down there) = refl
act_behind s t act how lines (unopened r ws down) = refl
act_behind s t act how lines (took r o event closing up may) = refl
act_behind s t act how lines (failed r o event closing up may logs) = refl
act_behind s t act how lines (closed r) = refl
act_behind s t act how lines (said more) = refl

-- the position in a scene is the one behind its lines
pub goes_behind : (s : Scene) (acts : List Act) (lines : List Observation) (t : Scene) (rest : List Act) → Goes s acts lines t rest → t.position ≡ behind s.position lines
goes_behind s acts lines t rest starts = refl
goes_behind s acts lines t rest (does before u act others how more v g d) =
    act_behind u t act how more d ∙ ap (λ (p : Position). behind p more) (goes_behind s acts before u (act ∷ others) g) ∙ sym (behind_append s.position before more)

machine_case : (s t : FleetState) (event : Event) (lines : List Observation) (x : Option Answer)
    → MatchOption x ((scene : Scene) × Goes (entered s event) (plan s event) lines scene [] × (t ≡ left scene)) (λ refused. (lines ≡ line_of_answer refused ∷ []) × (t ≡ s))
    → t.machine ≡ cond (is_some x) s.machine (behind (opened s.machine event) lines).machine
machine_case s t event lines None (scene, goes, is) = ap (λ (u : FleetState). u.machine) is ∙ ap (λ (p : Position). p.machine) (goes_behind (entered s event) (plan s event) lines scene [] goes)
machine_case s t event lines (Some refused) (one, same) = ap (λ (u : FleetState). u.machine) same

pub lines_tell_machine : LinesTellMachine
lines_tell_machine s t event lines goes = machine_case s t event lines (refusal s.machine event) goes

-- whatever holds of the lines so far at the start, and is kept by each act, holds all along
pub walk_lines : (s : Scene) (start : List Act) (Holds : List Observation → Scene → List Act → Type 0)
    → ((lines : List Observation) (t : Scene) (act : Act) (others : List Act) (how : How) (more : List Observation) (u : Scene) → Holds lines t (act ∷ others) → Does t act how more u → Holds (lines ++ more) u (left_behind s.position.event act how others))
    → Holds [] s start → (lines : List Observation) (t : Scene) (rest : List Act) → Goes s start lines t rest → Holds lines t rest
walk_lines s start Holds step at lines t rest starts = at
walk_lines s start Holds step at lines t rest (does before u act others how more v g d) = step before u act others how more t (walk_lines s start Holds step at before u (act ∷ others) g) d

-- one act, and what holds once it went
pub data IsOneAct (s : Scene) (act : Act) (Holds : List Observation → Scene → Type 0) : List Observation → Scene → List Act → Type 0 where
  ahead : IsOneAct s act Holds [] s (act ∷ [])
  behind_it : (lines : List Observation) (t : Scene) → Holds lines t → IsOneAct s act Holds lines t []

module _ (s : Scene) (act : Act) (Holds : List Observation → Scene → Type 0) (goes : (how : How) (lines : List Observation) (t : Scene) → Does s act how lines t → Holds lines t × (left_behind s.position.event act how [] ≡ [])) where
  one_step : (lines : List Observation) (t : Scene) (now : Act) (others : List Act) (how : How) (more : List Observation) (u : Scene) → IsOneAct s act Holds lines t (now ∷ others) → Does t now how more u
      → IsOneAct s act Holds (lines ++ more) u (left_behind s.position.event now how others)
  one_step lines t now others how more u ahead did = let x = goes how more u did in subst (λ (rest : List Act). IsOneAct s act Holds more u rest) (sym x.1) (behind_it more u x.0)

  ended : (lines : List Observation) (t : Scene) (rest : List Act) → IsOneAct s act Holds lines t rest → rest ≡ [] → Holds lines t
  ended lines t rest ahead none = absurd (omega (arith, ap length none))
  ended lines t rest (behind_it ls u holds) none = holds

  -- what the lines of an event of one act are
  pub one_act : (lines : List Observation) (t : Scene) → Goes s (act ∷ []) lines t [] → Holds lines t
  one_act lines t g = ended lines t [] (walk_lines s (act ∷ []) (IsOneAct s act Holds) one_step ahead lines t [] g) refl

-- ---- a step by which nothing rises

drop_none : (n : ℕ) (cs : List Committed) → cs ≡ [] → drop n cs ≡ []
drop_none n cs none = ap (drop n) none ∙ drop_past n [] (omega arith)

never : (r : ℕ) (b : Bool) → cond (b && not b) (says.Active r ∷ []) [] ≡ []
never r true = refl
never r false = refl

module _ (n : Machine) (o : OpenReplica) (step : StepEvent) (rests : looked (written o step) ≡ written o step) (same : view_of (written o step) ≡ view_of o) where
  abbrev x : OpenReplica
  x = written o step

  told_is : step_outcome o step ≡ outcome_of (step_answer o step) (written o step) (written o step)
  unfolding step_outcome
  told_is = ap (outcome_of (step_answer o step) (written o step)) rests

  pub not_due : (step_outcome o step).barrier_due ≡ false
  not_due = ap (λ (told : Outcome). told.barrier_due) told_is ∙ false_from_ne_true (has_risen (written o step) (written o step)) (still_risen (written o step))

  no_commits : newly_shown (written o step) (written o step) ≡ []
  no_commits = drop_all (shown_commits (written o step))

  no_orders : order_lines n o (newly_shown (written o step) (written o step)) ≡ []
  no_orders = ap (map order_line) (drop_none (length_of (order_of n o.id) - view_of o) (newly_shown (written o step) (written o step)) no_commits)

  no_view : cond (nat_lt (view_of o) (view_of (written o step))) (says.View o.id (view_of (written o step)) ∷ []) [] ≡ []
  no_view = ap (λ (b : Bool). cond b (says.View o.id (view_of (written o step)) ∷ []) []) (le-ltb (view_of o) (view_of (written o step)) (omega (arith, same)))

  no_active : cond (is_active (written o step) && not (is_active (written o step))) (says.Active o.id ∷ []) [] ≡ []
  no_active = never o.id (is_active (written o step))

  nobody : acknowledged_by (written o step) (written o step) ≡ []
  nobody = none_newly (written o step) (written o step).leading

  -- it tells its answer, what an inspection tells, and what closes it
  pub idle_lines : (closing : List Observation) → lines_of_step n o step closing ≡ answer_lines (step_answer o step) ++ inspection_lines o step ++ closing
  unfolding lines_of_step
  idle_lines closing =
      let rest : Outcome → List Observation = λ (told : Outcome). order_lines n o told.commits ++ view_line o told ++ active_line o step told ++ map says.Committed told.acknowledged ++ answer_lines told.answer ++ inspection_lines o step ++ closing in
      ap rest told_is
      ∙ ap (λ (ls : List Observation). ls ++ cond (nat_lt (view_of o) (view_of x)) (says.View o.id (view_of x) ∷ []) [] ++ cond (is_active x && not (is_active x)) (says.Active o.id ∷ []) [] ++ map says.Committed (acknowledged_by x x) ++ answer_lines (step_answer o step) ++ inspection_lines o step ++ closing) no_orders
      ∙ ap (λ (ls : List Observation). ls ++ cond (is_active x && not (is_active x)) (says.Active o.id ∷ []) [] ++ map says.Committed (acknowledged_by x x) ++ answer_lines (step_answer o step) ++ inspection_lines o step ++ closing) no_view
      ∙ ap (λ (ls : List Observation). ls ++ map says.Committed (acknowledged_by x x) ++ answer_lines (step_answer o step) ++ inspection_lines o step ++ closing) no_active
      ∙ ap (λ (ts : List TxnId). map says.Committed ts ++ answer_lines (step_answer o step) ++ inspection_lines o step ++ closing) nobody
