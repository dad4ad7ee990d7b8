-- The lines of a step, from what a replica tells of it and how it stood before.
use Rattle.std.specs.Prelude.{ℕ, Bool, false, not, ◌&&◌, nat_lt, List, [], ◌∷◌, ◌++◌, length, map, drop, Option, Some, None, if◌then◌else◌}
use Rattle.coll_model.specs.Effect.{State}
use Rattle.order_machine.specs.Contents.{rows_of}
use Rattle.order_machine.specs.declared.observation.Observation.{Observation}
use Rattle.order_machine.specs.declared.observation.Observation.TheVariants as says
use Rattle.replica_model.specs.declared.step.StepEvent.{StepEvent}
use Rattle.replica_model.specs.declared.step.StepEvent.TheVariants as steps
use Rattle.replica_model.specs.declared.step.Outcome.{Outcome}
use Rattle.fleet_run.specs.Acts.{order_line, answer_lines}

-- that a replica shows more than it did
abbrev pub view_lines : (id shown now : ℕ) → List Observation
view_lines id shown now = if nat_lt shown now then says.View id now ∷ [] else []

-- that it is active, and wasn't
abbrev pub active_lines : (id : ℕ) (before now : Bool) → List Observation
active_lines id before now = if now && not before then says.Active id ∷ [] else []

-- the line behind a step, if there is one
abbrev pub closing_lines : Option Observation → List Observation
closing_lines None = []
closing_lines (Some line) = line ∷ []

-- the lines of a replica that showed so many commits, of which the order has all but what comes behind the known ones
abbrev pub told_lines : (known id shown : ℕ) (active : Bool) → Outcome → (contents closing : List Observation) → List Observation
told_lines known id shown active told contents closing =
    map order_line (drop known told.commits) ++ view_lines id shown told.shown ++ active_lines id active told.active ++ map says.Committed told.acknowledged ++ answer_lines told.answer ++ contents ++ closing

-- an appointment takes from a replica that it is active
abbrev pub stays_active : StepEvent → Bool → Bool
stays_active (steps.Appoint a) active = false
stays_active _ active = active

-- what an inspection tells of the contents that a replica shows
abbrev pub contents_lines : ℕ → State → StepEvent → List Observation
contents_lines id contents steps.Inspect = says.State id (length (rows_of contents)) ∷ map says.Rows (rows_of contents)
contents_lines id contents _ = []
