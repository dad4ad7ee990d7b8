-- The run in which a commit that was cut off is shown after an appointment, act by act.
use Rattle.std.proofs.Common.{rules, true, false, List, [], ◌∷◌, Contains, refl, ap, length, arith}
use Rattle.events.specs.declared.event.Event.{Event}
use Rattle.events.specs.declared.event.Event.TheVariants.{Boot, Client, Crash, Reboot, Survey, Appoint}
use Rattle.events.specs.declared.call.Call.TheVariants as calls
use Rattle.coll_model.specs.declared.op.Kind.TheVariants.{Dict}
use Rattle.coll_model.specs.declared.op.Op.TheVariants as ops
use Rattle.order_machine.specs.declared.observation.Observation.{Observation}
use Rattle.order_machine.specs.declared.observation.Observation.TheVariants as says
use Rattle.order_machine.specs.Transitions.{first_epoch}
use Rattle.order_machine.specs.Legal.{behind}
use Rattle.txn_table.specs.Whole.{Whole}
use Rattle.replica_model.specs.declared.step.StepEvent.{StepEvent}
use Rattle.replica_model.specs.declared.step.StepEvent.TheVariants as steps
use Rattle.replica_model.specs.OpenReplica.{OpenReplica, opened_over}
use Rattle.replica_model.specs.Quorums.{quorum_number}
use Rattle.replica_model.specs.Records.{appended, step_block}
use Rattle.replica_model.specs.Steps.{step_result, step_outcome, cut_off}
use Rattle.fleet_run.specs.Scenes.{FleetState, Scene, empty_whole, first_state, entered, left}
use Rattle.fleet_run.specs.Scenes.FleetReplica.{Open, Closed}
use Rattle.fleet_run.specs.Acts.{changed_at, lines_of_step}
use Rattle.fleet_run.specs.Acts.Act.{Opens, Takes, Closes, Says}
use Rattle.fleet_run.specs.Acts.How.{Fine, Failed}
use Rattle.fleet_run.specs.Acts.Does.{opened as did_open, took, failed, closed, said}
use Rattle.fleet_run.specs.Acts.Goes.{starts, does}
use Rattle.fleet_run.specs.Plans.{plan, boot_appointment, later_appointment, done, GoesBy}
use Rattle.fleet_run.specs.Plans.FleetRun.{rests, goes}
use Rattle.fleet_run.specs.LostCommit.{second_epoch, the_txn, the_name, LostCommit}

-- ---- the replica, step by step

abbrev boot_step : StepEvent
boot_step = steps.Appoint (boot_appointment 0 (0 ∷ []))

abbrev begin_step : StepEvent
begin_step = steps.Client calls.Begin

abbrev make_step : StepEvent
make_step = steps.Client (calls.Make the_txn the_name Dict)

abbrev commit_step : StepEvent
commit_step = steps.Client (calls.Commit the_txn)

abbrev booted : OpenReplica
booted = step_result (opened_over 0 empty_whole) boot_step

abbrev told : OpenReplica
told = step_result booted steps.Barrier

abbrev begun : OpenReplica
begun = step_result told begin_step

abbrev made : OpenReplica
made = step_result begun make_step

-- what the disk holds behind the commit's write
abbrev written_disk : Whole
written_disk = appended made.disk (step_block made commit_step)

-- ---- the boot

abbrev boot : Event
boot = Boot 0 (0 ∷ [])

abbrev boot_lines : List Observation
boot_lines = says.Up 0 ∷ says.View 0 0 ∷ says.Active 0 ∷ says.Done ∷ []

abbrev boot_mounted : Scene
boot_mounted = changed_at (entered first_state boot) 0 (Open (opened_over 0 empty_whole)) (says.Up 0 ∷ says.View 0 0 ∷ [])

abbrev boot_taken : Scene
boot_taken = changed_at boot_mounted 0 (Open booted) (says.Active 0 ∷ says.Done ∷ [])

abbrev boot_told : Scene
boot_told = changed_at boot_taken 0 (Open told) []

abbrev one : FleetState
one = left boot_told

there : Contains (empty_whole ∷ []) empty_whole
there = search rules

boots : GoesBy first_state (Boot 0 (0 ∷ [])) boot_lines one
unfolding plan step_result step_outcome lines_of_step quorum_number
boots = (
  boot_told,
  does boot_lines boot_taken (Takes 0 steps.Barrier []) [] (Fine false) [] boot_told
      (does (says.Up 0 ∷ says.View 0 0 ∷ []) boot_mounted (Takes 0 boot_step done) [] (Fine true) (says.Active 0 ∷ says.Done ∷ []) boot_taken
      (does [] (entered first_state boot) (Opens 0) (Takes 0 boot_step done ∷ []) (Fine false) (says.Up 0 ∷ says.View 0 0 ∷ []) boot_mounted starts (did_open 0 (empty_whole ∷ []) empty_whole refl there))
      (took 0 (opened_over 0 empty_whole) boot_step done refl (record { above = refl; own = refl; member = search rules; before = search rules })))
      (took 0 booted steps.Barrier [] refl refl),
  refl,
)

-- ---- the transaction, whose commit is cut off

abbrev begin_scene : Scene
begin_scene = changed_at (entered one (Client 0 calls.Begin)) 0 (Open begun) (says.Txn the_txn ∷ [])

abbrev two : FleetState
two = left begin_scene

begins : GoesBy one (Client 0 calls.Begin) (says.Txn the_txn ∷ []) two
unfolding plan step_result step_outcome lines_of_step quorum_number
begins = (begin_scene, does [] (entered one (Client 0 calls.Begin)) (Takes 0 begin_step []) [] (Fine false) (says.Txn the_txn ∷ []) begin_scene starts (took 0 told begin_step [] refl tt), refl)

abbrev make_event : Event
make_event = Client 0 (calls.Make the_txn the_name Dict)

abbrev make_scene : Scene
make_scene = changed_at (entered two make_event) 0 (Open made) (says.True ∷ [])

abbrev three : FleetState
three = left make_scene

makes : GoesBy two (Client 0 (calls.Make the_txn the_name Dict)) (says.True ∷ []) three
unfolding plan step_result step_outcome lines_of_step quorum_number
makes = (make_scene, does [] (entered two make_event) (Takes 0 make_step []) [] (Fine false) (says.True ∷ []) make_scene starts (took 0 begun make_step [] refl refl), refl)

abbrev commit_event : Event
commit_event = Client 0 (calls.Commit the_txn)

abbrev commit_scene : Scene
commit_scene = changed_at (entered three commit_event) 0 (Closed (cut_off made commit_step)) (says.Fault 0 ∷ [])

abbrev four : FleetState
four = left commit_scene

commits : GoesBy three (Client 0 (calls.Commit the_txn)) (says.Fault 0 ∷ []) four
unfolding plan step_result step_outcome lines_of_step quorum_number
commits = (commit_scene, does [] (entered three commit_event) (Takes 0 commit_step []) [] Failed (says.Fault 0 ∷ []) commit_scene starts (failed 0 made commit_step [] refl tt (λ none. absurd (omega (arith, ap length none)))), refl)

-- ---- the crash, and the way back

abbrev closed_scene : Scene
closed_scene = changed_at (entered four (Crash 0 0)) 0 (Closed (cut_off made commit_step)) []

abbrev crash_scene : Scene
crash_scene = record closed_scene { position = behind closed_scene.position done }

abbrev five : FleetState
five = left crash_scene

crashes : GoesBy four (Crash 0 0) (says.Done ∷ []) five
unfolding plan step_result step_outcome lines_of_step quorum_number
crashes = (
  crash_scene,
  does [] closed_scene (Says done) [] (Fine false) done crash_scene (does [] (entered four (Crash 0 0)) (Closes 0) (Says done ∷ []) (Fine false) [] closed_scene starts (closed 0)) (said done),
  refl,
)

abbrev back : OpenReplica
back = opened_over 0 written_disk

abbrev back_scene : Scene
back_scene = changed_at (entered five (Reboot 0)) 0 (Open back) (says.Up 0 ∷ says.View 0 0 ∷ [])

abbrev six : FleetState
six = left back_scene

second_there : Contains (cut_off made commit_step) written_disk
second_there = (1, omega arith, refl)

reboots : GoesBy five (Reboot 0) (says.Up 0 ∷ says.View 0 0 ∷ []) six
unfolding plan step_result step_outcome lines_of_step quorum_number
reboots = (back_scene, does [] (entered five (Reboot 0)) (Opens 0) [] (Fine false) (says.Up 0 ∷ says.View 0 0 ∷ []) back_scene starts (did_open 0 (cut_off made commit_step) written_disk refl second_there), refl)

abbrev survey_step : StepEvent
survey_step = steps.Survey second_epoch

abbrev surveyed : OpenReplica
surveyed = step_result back survey_step

abbrev survey_scene : Scene
survey_scene = changed_at (entered six (Survey 0 second_epoch)) 0 (Open surveyed) (says.Progress 0 first_epoch 5 ∷ [])

abbrev seven : FleetState
seven = left survey_scene

surveys : GoesBy six (Survey 0 second_epoch) (says.Progress 0 first_epoch 5 ∷ []) seven
unfolding plan step_result step_outcome lines_of_step quorum_number
surveys = (survey_scene, does [] (entered six (Survey 0 second_epoch)) (Takes 0 survey_step []) [] (Fine false) (says.Progress 0 first_epoch 5 ∷ []) survey_scene starts (took 0 back survey_step [] refl tt), refl)

-- ---- the appointment, where the order comes

abbrev again_event : Event
again_event = Appoint second_epoch 0 (0 ∷ [])

abbrev again_step : StepEvent
again_step = steps.Appoint (later_appointment seven.machine second_epoch 0 (0 ∷ []))

abbrev again_lines : List Observation
again_lines = says.Order the_txn (ops.Make the_name Dict ∷ []) ∷ says.View 0 1 ∷ says.Active 0 ∷ says.Done ∷ []

abbrev again : OpenReplica
again = step_result surveyed again_step

abbrev again_scene : Scene
again_scene = changed_at (entered seven again_event) 0 (Open again) again_lines

abbrev last : OpenReplica
last = step_result again steps.Barrier

abbrev last_scene : Scene
last_scene = changed_at again_scene 0 (Open last) []

abbrev eight : FleetState
eight = left last_scene

returns : GoesBy seven (Appoint second_epoch 0 (0 ∷ [])) again_lines eight
unfolding plan step_result step_outcome lines_of_step quorum_number
returns = (
  last_scene,
  does again_lines again_scene (Takes 0 steps.Barrier []) [] (Fine false) [] last_scene
      (does [] (entered seven again_event) (Takes 0 again_step done) [] (Fine true) again_lines again_scene starts (took 0 surveyed again_step done refl (record { above = refl; own = refl; member = search rules; before = search rules })))
      (took 0 again steps.Barrier [] refl refl),
  refl,
)

-- ---- the run

pub lost_commit : LostCommit
lost_commit = record {
  state = eight;
  run =
      goes _ seven _ eight
      (goes _ six _ seven
      (goes _ five _ six
      (goes _ four _ five
      (goes _ three _ four
      (goes _ two _ three
      (goes _ one _ two
      (goes [] first_state (record { number = 1; event = Boot 0 (0 ∷ []); lines = boot_lines }) one rests boots)
      begins) makes) commits) crashes) reboots) surveys) returns;
}
