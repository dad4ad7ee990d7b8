-- The boot of three replicas, act by act.
use Rattle.std.proofs.Common.{rules, ◌≡◌, ℕ, false, List, [], ◌∷◌, Contains, Bool, refl, sym, subst}
use Rattle.events.specs.declared.event.Event.{Event}
use Rattle.events.specs.declared.event.Event.TheVariants.{Boot}
use Rattle.order_machine.specs.declared.observation.Observation.{Observation}
use Rattle.order_machine.specs.declared.observation.Observation.TheVariants as says
use Rattle.replica_model.specs.declared.step.StepEvent.{StepEvent}
use Rattle.replica_model.specs.declared.step.StepEvent.TheVariants as steps
use Rattle.replica_model.specs.OpenReplica.{OpenReplica, opened_over, is_active}
use Rattle.replica_model.specs.Quorums.{quorum_number}
use Rattle.replica_model.specs.Steps.{MayStep, step_result, step_outcome}
use Rattle.fleet_run.specs.Scenes.{Scene, empty_whole, first_state, entered, left}
use Rattle.fleet_run.specs.Scenes.FleetReplica.{Open}
use Rattle.fleet_run.specs.Acts.{Act, Does, Goes, changed_at, opening_lines, lines_of_step}
use Rattle.fleet_run.specs.Acts.Act.{Opens, Takes}
use Rattle.fleet_run.specs.Acts.How.{Fine}
use Rattle.fleet_run.specs.Acts.Does.{opened, took}
use Rattle.fleet_run.specs.Acts.Goes.{starts, does}
use Rattle.fleet_run.specs.Plans.{plan, boot_appointment, done}
use Rattle.fleet_run.specs.ThreeBoot.{trio, boot_lines, primary_booted, ThreeBoot}

boot : Event
boot = Boot 0 trio

abbrev first_scene : Scene
first_scene = entered first_state (Boot 0 trio)

abbrev start_event : StepEvent
start_event = steps.Appoint (boot_appointment 0 trio)

abbrev start_act : Act
start_act = Takes 0 start_event done

abbrev all_acts : List Act
all_acts = Opens 0 ∷ Opens 1 ∷ Opens 2 ∷ start_act ∷ []

abbrev open_first : ℕ → OpenReplica
open_first r = opened_over r empty_whole

there : Contains (empty_whole ∷ []) empty_whole
there = search rules

abbrev one : Scene
one = changed_at first_scene 0 (Open (open_first 0)) (opening_lines 0 (open_first 0))

abbrev two : Scene
two = changed_at one 1 (Open (open_first 1)) (opening_lines 1 (open_first 1))

abbrev three : Scene
three = changed_at two 2 (Open (open_first 2)) (opening_lines 2 (open_first 2))

mounted : Goes first_scene all_acts (says.Up 0 ∷ says.View 0 0 ∷ says.Up 1 ∷ says.View 1 0 ∷ says.Up 2 ∷ says.View 2 0 ∷ []) three (start_act ∷ [])
mounted =
    does _ two (Opens 2) (start_act ∷ []) (Fine false) (opening_lines 2 (open_first 2)) three
    (does _ one (Opens 1) (Opens 2 ∷ start_act ∷ []) (Fine false) (opening_lines 1 (open_first 1)) two
    (does [] first_scene (Opens 0) (Opens 1 ∷ Opens 2 ∷ start_act ∷ []) (Fine false) (opening_lines 0 (open_first 0)) one starts (opened 0 (empty_whole ∷ []) empty_whole refl there))
    (opened 1 (empty_whole ∷ []) empty_whole refl there))
    (opened 2 (empty_whole ∷ []) empty_whole refl there)

may_start : MayStep (open_first 0) start_event
may_start = record { above = refl; own = refl; member = search rules; before = search rules }

waits : is_active primary_booted ≡ false
unfolding step_result quorum_number
waits = refl

abbrev start_lines : List Observation
start_lines = lines_of_step three.position.machine (open_first 0) start_event done

start_lines_are : start_lines ≡ done
unfolding lines_of_step step_outcome quorum_number
start_lines_are = refl

no_barrier : (step_outcome (open_first 0) start_event).barrier_due ≡ false
unfolding step_outcome quorum_number
no_barrier = refl

booted_goes : Goes first_scene all_acts boot_lines (changed_at three 0 (Open primary_booted) done) []
booted_goes =
    let took_it : Does three start_act (Fine (step_outcome (open_first 0) start_event).barrier_due) start_lines (changed_at three 0 (Open primary_booted) start_lines) = took 0 (open_first 0) start_event done refl may_start in
    let fine : Does three start_act (Fine false) start_lines (changed_at three 0 (Open primary_booted) start_lines) = subst (λ (b : Bool). Does three start_act (Fine b) start_lines (changed_at three 0 (Open primary_booted) start_lines)) no_barrier took_it in
    let is_done : Does three start_act (Fine false) done (changed_at three 0 (Open primary_booted) done) = subst (λ (ls : List Observation). Does three start_act (Fine false) ls (changed_at three 0 (Open primary_booted) ls)) start_lines_are fine in
    does _ three start_act [] (Fine false) done _ mounted is_done

planned : plan first_state (Boot 0 trio) ≡ all_acts
unfolding plan
planned = refl

pub three_boot : ThreeBoot
three_boot = record {
  state = left (changed_at three 0 (Open primary_booted) done);
  goes = (changed_at three 0 (Open primary_booted) done, subst (λ (acts : List Act). Goes first_scene acts boot_lines (changed_at three 0 (Open primary_booted) done) []) (sym planned) booted_goes, refl);
  replicas = refl;
  waits = waits;
}
