-- Steps by which a replica comes to show no more: their lines, and that no Barrier is due.
use Rattle.std.proofs.Common.{◌≡◌, ◌∙◌, ℕ, zero, suc, ◌-◌, ◌<◌, true, false, Bool, not, cond, ◌⊎◌, List, [], ◌∷◌, ◌++◌, length, map, flat_map, drop, set, Option, Some, None, refl, sym, ap, subst, inl, inr, arith, append-nil}
use Rattle.std.specs.Prelude.{◌≢◌, ◌&&◌, ◌||◌, nat_lt}
use Rattle.std.specs.Option.{option_map_or}
use Rattle.std.proofs.lemmas.Bool.{cases_Bool, cases_lt}
use Rattle.std.proofs.lemmas.List.{get_or_past}
use Rattle.std.proofs.lemmas.Bool.Decides.{nat_tests}
use Rattle.rc_base.specs.declared.ids.TxnId.{TxnId}
use Rattle.coll_model.specs.Effect.{folded}
use Rattle.txn_table.specs.declared.base.Base.{Base}
use Rattle.txn_table.specs.declared.committed.Committed.{Committed}
use Rattle.txn_table.specs.Log.{no_base}
use Rattle.events.specs.declared.answer.Answer.{Answer}
use Rattle.events.specs.declared.event.Event.{Event}
use Rattle.order_machine.specs.Transitions.{opened}
use Rattle.order_machine.specs.Legal.{behind}
use Rattle.order_machine.specs.declared.observation.Observation.{Observation}
use Rattle.order_machine.specs.declared.observation.Observation.TheVariants as says
use Rattle.order_machine.specs.Order.{length_of, state_at}
use Rattle.order_machine.specs.Machine.{Machine, replica, order_of}
use Rattle.history_laws.proofs.ShownStates.{shown_state}
use Rattle.replica_model.specs.declared.step.StepEvent.{StepEvent}
use Rattle.replica_model.specs.declared.step.Outcome.{Outcome}
use Rattle.replica_model.specs.OpenReplica.{OpenReplica, Leading, shown_commits, contents_of, view_of, is_active}
use Rattle.replica_model.specs.Quorums.{looked, newly_shown, txns_of, acknowledged_by}
use Rattle.replica_model.specs.Records.{step_block}
use Rattle.replica_model.specs.Steps.{MayStep, cut_off, written, step_result, step_outcome, step_answer, outcome_of}
use Rattle.fleet_run.specs.Scenes.{FleetReplica, FleetState, Scene, replica_at, empty_whole, entered, left}
use Rattle.fleet_run.specs.Scenes.FleetReplica.{Open, Closed}
use Rattle.fleet_run.specs.Plans.{plan}
use Rattle.fleet_run.specs.Acts.Act.{Takes}
use Rattle.fleet_run.specs.Acts.How.{Fine}
use Rattle.fleet_rows.proofs.Forward.{First, first_act, no_act, taken, Took, Broke}
use Rattle.fleet_rows.proofs.Keeping.{Done}
use Rattle.fleet_run.specs.Acts.{Act, How, Goes, left_behind, changed_at, order_line, order_lines, view_line, active_line, answer_lines, inspection_lines, lines_of_step}
use Rattle.fleet_run.proofs.Acting.{closed_open}
use Rattle.fleet_rows.specs.Served.{IsReplicaOf, IsOpenOf}

-- ---- nothing more is shown

drop_none : {A : Type 0} (n : ℕ) → drop {A = A} n [] ≡ []
drop_none zero = refl
drop_none (suc n) = refl

pub drop_all : {A : Type 0} (xs : List A) → drop (length xs) xs ≡ []
drop_all [] = refl
drop_all (x ∷ xs) = drop_all xs

no_less : (n : ℕ) → nat_lt n n ≡ false
no_less n = elim (cases_Bool (nat_lt n n)) [
  | inl lt ↦ absurd (grind (arith, nat_tests))
  | inr ge ↦ ge
]

never_both : (b : Bool) → (b && not b) ≡ false
never_both true = refl
never_both false = refl

-- The replica comes to show no more by looking: no commit, and it is active as before.
pub record IsQuiet (o : OpenReplica) (step : StepEvent) : Type 0 where
  pub wrote : view_of (written o step) ≡ view_of o
  pub none : newly_shown (written o step) (looked (written o step)) ≡ []
  pub view : view_of (looked (written o step)) ≡ view_of o
  pub active : is_active (looked (written o step)) ≡ is_active (written o step)

-- so it is where the step leaves what it wrote, and that shows as much as before
pub quiet_from : (o : OpenReplica) (step : StepEvent) → looked (written o step) ≡ written o step → view_of (written o step) ≡ view_of o → IsQuiet o step
quiet_from o step looks view = record {
  wrote = view;
  none = ap (λ (x : OpenReplica). newly_shown (written o step) x) looks ∙ drop_all (shown_commits (written o step));
  view = ap (λ (x : OpenReplica). view_of x) looks ∙ view;
  active = ap (λ (x : OpenReplica). is_active x) looks;
}

pub result_is : (o : OpenReplica) (step : StepEvent) → step_result o step ≡ looked (written o step)
unfolding step_result
result_is o step = refl

acknowledged_none : (x : OpenReplica) (l : Option Leading) (y : OpenReplica) → newly_shown x y ≡ [] → option_map_or (λ (l : Leading). txns_of l.epoch (newly_shown x y)) l [] ≡ []
acknowledged_none x None y none = refl
acknowledged_none x (Some l) y none = ap (λ (cs : List Committed). txns_of l.epoch cs) none

same_told : (m : Machine) (o x y : OpenReplica) (answer : Option Answer) → newly_shown x y ≡ [] → order_lines m o (outcome_of answer x y).commits ≡ []
same_told m o x y answer none = ap (λ (cs : List Committed). map order_line (drop (length_of (order_of m o.id) - view_of o) cs)) none ∙ ap (map order_line) (drop_none (length_of (order_of m o.id) - view_of o))

same_view : (o x y : OpenReplica) (answer : Option Answer) → view_of y ≡ view_of o → view_line o (outcome_of answer x y) ≡ []
same_view o x y answer same = ap (λ (n : ℕ). cond (nat_lt (view_of o) n) (says.View o.id n ∷ []) []) same ∙ ap (λ (b : Bool). cond b (says.View o.id (view_of o) ∷ []) []) (no_less (view_of o))

outcome_is : (o : OpenReplica) (step : StepEvent) → step_outcome o step ≡ outcome_of (step_answer o step) (written o step) (looked (written o step))
unfolding step_outcome
outcome_is o step = refl

pub quiet_barrier : (o : OpenReplica) (step : StepEvent) → IsQuiet o step → (step_outcome o step).barrier_due ≡ false
quiet_barrier o step q =
    let x = written o step in
    let y = looked x in
    ap (λ (t : Outcome). t.barrier_due) (outcome_is o step)
    ∙ ap (λ (n : ℕ). nat_lt (view_of x) n || (is_active y && not (is_active x))) (q.view ∙ sym q.wrote)
    ∙ ap (λ (b : Bool). b || (is_active y && not (is_active x))) (no_less (view_of x))
    ∙ ap (λ (b : Bool). b && not (is_active x)) q.active
    ∙ never_both (is_active x)

pub quiet_lines : (m : Machine) (o : OpenReplica) (step : StepEvent) (closing : List Observation) → IsQuiet o step → lines_of_step m o step closing ≡ answer_lines (step_answer o step) ++ inspection_lines o step ++ closing
unfolding lines_of_step
quiet_lines m o step closing q =
    let x = written o step in
    let y = looked x in
    let a = step_answer o step in
    ap (λ (t : Outcome). order_lines m o t.commits ++ view_line o t ++ active_line o step t ++ map says.Committed t.acknowledged ++ answer_lines t.answer ++ inspection_lines o step ++ closing) (outcome_is o step)
    ∙ ap (λ (ls : List Observation). ls ++ view_line o (outcome_of a x y) ++ active_line o step (outcome_of a x y) ++ map says.Committed (acknowledged_by x y) ++ answer_lines a ++ inspection_lines o step ++ closing) (same_told m o x y a q.none)
    ∙ ap (λ (ls : List Observation). ls ++ active_line o step (outcome_of a x y) ++ map says.Committed (acknowledged_by x y) ++ answer_lines a ++ inspection_lines o step ++ closing) (same_view o x y a q.view)
    ∙ ap (λ (b : Bool). cond (b && not (is_active x)) (says.Active o.id ∷ []) [] ++ map says.Committed (acknowledged_by x y) ++ answer_lines a ++ inspection_lines o step ++ closing) q.active
    ∙ ap (λ (b : Bool). cond b (says.Active o.id ∷ []) [] ++ map says.Committed (acknowledged_by x y) ++ answer_lines a ++ inspection_lines o step ++ closing) (never_both (is_active x))
    ∙ ap (λ (ts : List TxnId). map says.Committed ts ++ answer_lines a ++ inspection_lines o step ++ closing) (acknowledged_none x y.leading y q.none)

-- ---- an event of one such step

-- how an event went whose one act is a step that shows no more
pub record Stepped (s : FleetState) (event : Event) (r : ℕ) (step : StepEvent) (closing : List Observation) (lines : List Observation) (t : FleetState) (o : OpenReplica) : Type 0 where
  pub lines_are : lines ≡ answer_lines (step_answer o step) ++ inspection_lines o step ++ closing
  pub ends : t ≡ record { machine = (behind (opened s.machine event) (answer_lines (step_answer o step) ++ inspection_lines o step ++ closing)).machine; replicas = set s.replicas r (Open (looked (written o step))) }

pub record Stopped (s : FleetState) (event : Event) (r : ℕ) (step : StepEvent) (lines : List Observation) (t : FleetState) (o : OpenReplica) : Type 0 where
  pub logs : step_block o step ≢ []
  pub lines_are : lines ≡ says.Fault r ∷ []
  pub ends : t ≡ record { machine = (behind (opened s.machine event) (says.Fault r ∷ [])).machine; replicas = set s.replicas r (Closed (cut_off o step)) }

pub record OneStep (s : FleetState) (event : Event) (r : ℕ) (step : StepEvent) (closing : List Observation) (lines : List Observation) (t : FleetState) : Type 0 where
  pub replica : OpenReplica
  pub up : replica_at s.replicas r ≡ Open replica
  pub may : MayStep replica step
  pub went : Stepped s event r step closing lines t replica ⊎ Stopped s event r step lines t replica

module _ (s t : FleetState) (event : Event) (r : ℕ) (step : StepEvent) (closing lines : List Observation) (d : Done s event lines t) (planned : plan s event ≡ Takes r step closing ∷ []) (place : (opened s.machine event).event ≡ event) (quiet : (o : OpenReplica) → replica_at s.replicas r ≡ Open o → IsQuiet o step) where
  abbrev at : Scene
  at = entered s event

  first : First at (Takes r step closing) [] lines d.scene []
  first = first_act at (Takes r step closing) [] lines d.scene (subst (λ (acts : List Act). Goes at acts lines d.scene []) planned d.goes)

  no_more : left_behind (opened s.machine event).event (Takes r step closing) first.how [] ≡ [] → (first.later ≡ []) × (d.scene ≡ first.mid)
  no_more none = no_act first.mid first.later d.scene (subst (λ (acts : List Act). Goes first.mid acts first.later d.scene []) none first.goes)

  all_lines : (told : List Observation) → first.first ≡ told → first.later ≡ [] → lines ≡ told
  all_lines told is none = first.lines_are ∙ ap (λ (ls : List Observation). ls ++ first.later) is ∙ ap (λ (ls : List Observation). told ++ ls) none ∙ append-nil told

  stepped : (o : OpenReplica) → replica_at s.replicas r ≡ Open o → Took at r step closing first.how first.first first.mid o → Stepped s event r step closing lines t o
  stepped o up k =
      let q = quiet o up in
      let own : List Observation = answer_lines (step_answer o step) ++ inspection_lines o step ++ closing in
      let is : lines_of_step (opened s.machine event).machine o step closing ≡ own = quiet_lines (opened s.machine event).machine o step closing q in
      let fine : first.how ≡ Fine false = k.how_is ∙ ap (λ (b : Bool). Fine b) (quiet_barrier o step q) in
      let none = no_more (ap (λ (h : How). left_behind (opened s.machine event).event (Takes r step closing) h []) fine) in
      let scene : d.scene ≡ changed_at at r (Open (looked (written o step))) own =
      none.1 ∙ k.scene_is ∙ ap (λ (ls : List Observation). changed_at at r (Open (step_result o step)) ls) is ∙ ap (λ (x : OpenReplica). changed_at at r (Open x) own) (result_is o step) in
      record { lines_are = all_lines own (k.lines_are ∙ is) none.0; ends = d.ends ∙ ap left scene }

  stopped : (o : OpenReplica) → Broke at r step first.how first.first first.mid o → Stopped s event r step lines t o
  stopped o k =
      let none = no_more (ap (λ (h : How). left_behind (opened s.machine event).event (Takes r step closing) h []) k.how_is) in
      record { logs = k.logs; lines_are = all_lines (says.Fault r ∷ []) k.lines_are none.0; ends = d.ends ∙ ap left (none.1 ∙ k.scene_is) }

  pub one_step : OneStep s event r step closing lines t
  one_step = let k = taken at r step closing first.how first.first first.mid first.done in record {
    replica = k.replica;
    up = k.up;
    may = k.may;
    went = elim k.went [ inl fine ↦ inl (stepped k.replica k.up fine) | inr failed ↦ inr (stopped k.replica failed) ];
  }

-- ---- what is seen

-- an open replica shows the contents that the machine knows
pub sees : (m : Machine) (r : ℕ) (o : OpenReplica) → o.disk.start ≡ no_base → IsOpenOf m r o → state_at (order_of m r) (replica m r).show ≡ contents_of o
sees m r o start is =
    shown_state m r [] (shown_commits o) is.shows
    ∙ ap (λ (b : Base). folded b.contents (flat_map (λ (c : Committed). c.ops) (shown_commits o))) (sym start)

-- ---- an open replica

pub open_is_open : (m : Machine) (r : ℕ) (x : FleetReplica) (o : OpenReplica) → x ≡ Open o → IsReplicaOf m r x → IsOpenOf m r o
open_is_open m r x o same is = subst (λ (y : FleetReplica). IsReplicaOf m r y) same is

-- it is one of the nine
pub inside : (replicas : List FleetReplica) (r : ℕ) (o : OpenReplica) → replica_at replicas r ≡ Open o → r < length replicas
inside replicas r o up = elim (cases_lt r (length replicas)) [
  | inl within ↦ within
  | inr past ↦ closed_open (empty_whole ∷ []) o (sym (get_or_past replicas r (Closed (empty_whole ∷ [])) past) ∙ up)
]
