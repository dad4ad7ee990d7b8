-- Acts: what an event does to one replica after another, and the lines of each.
use Rattle.std.specs.Prelude.{◌≡◌, ◌≢◌, ℕ, ◌-◌, Bool, true, false, not, ◌&&◌, ◌==◌, nat_lt, List, [], ◌∷◌, ◌++◌, length, map, drop, set, Contains, Option, Some, None, if◌then◌else◌}
use Rattle.txn_table.specs.declared.committed.Committed.{Committed}
use Rattle.txn_table.specs.Whole.{Whole}
use Rattle.events.specs.declared.event.Event.{Event}
use Rattle.events.specs.declared.event.Event.TheVariants.{Boot}
use Rattle.events.specs.declared.answer.Answer.{Answer}
use Rattle.order_machine.specs.declared.observation.Observation.{Observation}
use Rattle.order_machine.specs.declared.observation.Observation.TheVariants as says
use Rattle.order_machine.specs.AnswerLines.{line_of_answer}
use Rattle.order_machine.specs.Contents.{rows_of}
use Rattle.order_machine.specs.Order.{length_of}
use Rattle.order_machine.specs.Machine.{Machine, order_of}
use Rattle.order_machine.specs.Legal.{behind}
use Rattle.replica_model.specs.declared.step.StepEvent.{StepEvent}
use Rattle.replica_model.specs.declared.step.StepEvent.TheVariants as steps
use Rattle.replica_model.specs.declared.step.Outcome.{Outcome}
use Rattle.replica_model.specs.OpenReplica.{OpenReplica, contents_of, view_of, is_active, opened_over}
use Rattle.replica_model.specs.Records.{step_block}
use Rattle.replica_model.specs.Steps.{MayStep, written, step_result, step_outcome, cut_off}
use Rattle.fleet_run.specs.Scenes.{FleetReplica, Scene, replica_at, held_by}
use Rattle.fleet_run.specs.Scenes.FleetReplica.{Open, Closed}

-- ---- acts

-- A replica is opened; it takes a step, behind whose lines these come; it is closed; or lines are said.
pub data Act : Type 0 where
  Opens : (r : ℕ) → Act
  Takes : (r : ℕ) → StepEvent → (closing : List Observation) → Act
  Closes : (r : ℕ) → Act
  Says : (lines : List Observation) → Act

-- how it went: it was done, and whether a Barrier is due then; or the disk failed
pub data How : Type 0 where
  Fine : (barrier_due : Bool) → How
  Failed : How

-- ---- the lines of a step

abbrev pub order_line : Committed → Observation
order_line c = says.Order c.txn c.ops

-- those of the commits that come to be shown with which the order grows: all beyond what it has
abbrev pub order_lines : Machine → OpenReplica → List Committed → List Observation
order_lines m o commits = map order_line (drop (length_of (order_of m o.id) - view_of o) commits)

abbrev pub view_line : OpenReplica → Outcome → List Observation
view_line o told = if nat_lt (view_of o) told.shown then says.View o.id told.shown ∷ [] else []

-- it was no active primary behind what the step wrote, and is one then
abbrev pub active_line : OpenReplica → StepEvent → Outcome → List Observation
active_line o event told = if told.active && not (is_active (written o event)) then says.Active o.id ∷ [] else []

abbrev pub answer_lines : Option Answer → List Observation
answer_lines None = []
answer_lines (Some answer) = line_of_answer answer ∷ []

-- an inspection tells how many collections there are, and then each of them
abbrev pub inspection_lines : OpenReplica → StepEvent → List Observation
inspection_lines o steps.Inspect = let rows = rows_of (contents_of o) in says.State o.id (length rows) ∷ map says.Rows rows
inspection_lines o _ = []

-- The lines of a step, by what it tells: the order grows; the replica shows more; it becomes active; transactions are
-- acknowledged; what was asked is answered.
unfoldable pub lines_of_step : Machine → OpenReplica → StepEvent → List Observation → List Observation
lines_of_step m o event closing =
    let told = step_outcome o event in
    order_lines m o told.commits ++ view_line o told ++ active_line o event told ++ map says.Committed told.acknowledged ++ answer_lines told.answer ++ inspection_lines o event ++ closing

-- ---- what an act leaves

-- replica r is another one, behind these lines
abbrev pub changed_at : Scene → ℕ → FleetReplica → List Observation → Scene
changed_at s r now lines = record { position = behind s.position lines; replicas = set s.replicas r now }

abbrev pub opening_lines : ℕ → OpenReplica → List Observation
opening_lines r o = says.Up r ∷ says.View r (view_of o) ∷ []

-- An act goes so, with these lines, and leaves this scene. A mount takes one value that the disk may hold; where the disk fails in it, the disk may hold
-- what it might before. Where it fails in a step that logs, it may hold what it held, or what it holds behind the step.
pub data Does (s : Scene) : Act → How → List Observation → Scene → Type 0 where
  opened : (r : ℕ) (ws : List Whole) (w : Whole) → replica_at s.replicas r ≡ Closed ws → Contains ws w
      → Does s (Opens r) (Fine false) (opening_lines r (opened_over r w)) (changed_at s r (Open (opened_over r w)) (opening_lines r (opened_over r w)))
  unopened : (r : ℕ) (ws : List Whole) → replica_at s.replicas r ≡ Closed ws → Does s (Opens r) Failed (says.Fault r ∷ []) (changed_at s r (Closed ws) (says.Fault r ∷ []))
  took : (r : ℕ) (o : OpenReplica) (event : StepEvent) (closing : List Observation) → replica_at s.replicas r ≡ Open o → MayStep o event
      → Does s (Takes r event closing) (Fine (step_outcome o event).barrier_due) (lines_of_step s.position.machine o event closing) (changed_at s r (Open (step_result o event)) (lines_of_step s.position.machine o event closing))
  failed : (r : ℕ) (o : OpenReplica) (event : StepEvent) (closing : List Observation) → replica_at s.replicas r ≡ Open o → MayStep o event → step_block o event ≢ []
      → Does s (Takes r event closing) Failed (says.Fault r ∷ []) (changed_at s r (Closed (cut_off o event)) (says.Fault r ∷ []))
  closed : (r : ℕ) → Does s (Closes r) (Fine false) [] (changed_at s r (Closed (held_by (replica_at s.replicas r))) [])
  said : (lines : List Observation) → Does s (Says lines) (Fine false) lines (record s { position = behind s.position lines })

-- ---- one act after another

-- the acts that open a replica
abbrev pub only_mounts : List Act → List Act
only_mounts [] = []
only_mounts (Opens r ∷ acts) = Opens r ∷ only_mounts acts
only_mounts (act ∷ acts) = only_mounts acts

-- a Barrier behind the act that made it due; none behind a Barrier
abbrev pub with_barrier : Act → List Act → List Act
with_barrier (Takes r steps.Barrier closing) acts = acts
with_barrier (Takes r event closing) acts = Takes r steps.Barrier [] ∷ acts
with_barrier act acts = acts

-- what goes on behind a mount that failed: in a boot the others are opened, and where it was the primary's, nothing is started
abbrev pub behind_failed_mount : Event → ℕ → List Act → List Act
behind_failed_mount (Boot p members) r acts = if r == p then only_mounts acts else acts
behind_failed_mount event r acts = []

-- the acts that are left once this one went so
abbrev pub left_behind : Event → Act → How → List Act → List Act
left_behind event act (Fine true) acts = with_barrier act acts
left_behind event act (Fine false) acts = acts
left_behind event (Opens r) Failed acts = behind_failed_mount event r acts
left_behind event act Failed acts = []

-- From a scene with these acts to do, such lines lead to another with these acts left: a beginning of an event with any left, and all of
-- it with none.
pub data Goes (s : Scene) (acts : List Act) : List Observation → Scene → List Act → Type 0 where
  starts : Goes s acts [] s acts
  does : (lines : List Observation) (t : Scene) (act : Act) (others : List Act) (how : How) (more : List Observation) (u : Scene)
      → Goes s acts lines t (act ∷ others) → Does t act how more u → Goes s acts (lines ++ more) u (left_behind s.position.event act how others)
