-- The steps of an open replica in an event, and the lines that they print.
use Rattle.std.specs.Prelude.{◌≡◌, ◌≢◌, ◌⊎◌, ℕ, ◌+◌, ◌-◌, nat_lt, max, drop, length, Bool, true, false, not, ◌&&◌, ◌||◌, List, [], ◌∷◌, ◌++◌, map, Option, Some, None, option_map, Ok, if◌then◌else◌}
use Rattle.std.specs.List.{cons_option}
use Rattle.disk_model.specs.Disk.{Areas, Each}
use Rattle.config_rule.specs.declared.appointments.Appointment.{Appointment}
use Rattle.txn_table.specs.declared.committed.Committed.{Committed}
use Rattle.log_store.specs.declared.kept.Kept.{Kept as Log}
use Rattle.log_store.specs.Durable.{durable, StandForOneOf}
use Rattle.log_store.specs.Growth.{after}
use Rattle.order_machine.specs.declared.observation.Observation.{Observation}
use Rattle.order_machine.specs.declared.observation.Observation.TheVariants as says
use Rattle.replica_model.specs.declared.step.Outcome.{Outcome}
use Rattle.replica_model.specs.declared.step.StepEvent.{StepEvent}
use Rattle.replica_model.specs.declared.step.StepEvent.TheVariants as steps
use Rattle.replica.specs.Open.{Open}
use Rattle.replica.specs.Step.{block, outcome, stepped, is_active}
use Rattle.order_machine.specs.AnswerLines.{line_of_answer}
use Rattle.order_machine.specs.Transitions.{first_epoch}
use Rattle.rc_base.specs.declared.ids.Epoch.{Epoch}
use Rattle.rc_base.specs.declared.ids.Lsn.{Lsn}
use Rattle.events.specs.declared.answer.Answer.{Answer}
use Rattle.events.specs.declared.answer.Answer.TheVariants as answers
use Rattle.world.specs.declared.effects.EventEffects.{EventEffects}

-- ---- lines

abbrev pub order_line : Committed → Observation
order_line c = says.Order c.txn c.ops

abbrev pub cons_if : Bool → Observation → List Observation
cons_if true o = o ∷ []
cons_if false o = []

-- that a replica shows more than it did, and became active
abbrev pub told_rise : ℕ → ℕ → Bool → ℕ → Bool → List Observation
told_rise id shown was_active now_shown active = cons_if (nat_lt shown now_shown) (says.View id now_shown) ++ cons_if (active && not was_active) (says.Active id)

-- the lines of an outcome at a replica that showed so many commits, and was active or not
abbrev pub told : ℕ → ℕ → Bool → Outcome → List Observation
told id shown was_active outcome =
    map order_line outcome.commits
    ++ cons_if (nat_lt shown outcome.shown) (says.View id outcome.shown)
    ++ cons_if (outcome.active && not was_active) (says.Active id)
    ++ map says.Committed outcome.acknowledged
    ++ cons_option (option_map line_of_answer outcome.answer) []

abbrev pub told_by : Open → StepEvent → List Observation
told_by r event = told r.id r.shown (is_active r.role) (outcome r event)

-- The lines of a replica that starts an epoch, where the order has so many transactions: it shows all that its log commits,
-- and what is beyond the order enters it.
abbrev pub told_start : ℕ → Open → List Observation
told_start order r =
    map order_line (drop (order - r.shown) r.ahead) ++ told_rise r.id r.shown false (r.shown + length r.ahead) true

-- how far a replica's log reaches by its answer, where it tells that: the epoch and the position of the last record
abbrev pub progress_in : Option Answer → Option (Epoch × Lsn)
progress_in (Some (answers.Progress r last_epoch last)) = Some (last_epoch, record { 0 = last })
progress_in _ = None

-- ---- appointments

-- that of replica 0, alone, to an epoch, where it was alone before
abbrev pub appointment_alone : Epoch → Appointment
appointment_alone epoch = record { epoch = epoch; primary = 0; pc = 0 ∷ []; cc = 0 ∷ [] }

-- that of the boot
abbrev pub first_appointment : Appointment
first_appointment = appointment_alone first_epoch

-- ---- what an event has done so far

-- nothing yet, where the order has so many transactions
abbrev pub no_effects : ℕ → EventEffects
no_effects order = record { order = order; active = false; lines = [] }

-- after a step of a replica
abbrev pub effects_after : EventEffects → Open → StepEvent → EventEffects
effects_after p r event = record {
  order = max p.order (outcome r event).shown;
  active = p.active || ((outcome r event).active && not (is_active r.role));
  lines = p.lines ++ told_by r event;
}

-- after the step with which a replica starts the epoch of an appointment, and its answer
abbrev pub effects_started : EventEffects → Appointment → Open → EventEffects
effects_started p a r = record {
  order = max p.order (outcome r (steps.Appoint a)).shown;
  active = p.active || (outcome r (steps.Appoint a)).active;
  lines = (p.lines ++ told_start p.order r) ++ says.Done ∷ [];
}

-- ---- a step, and the Barrier after it where one is due

abbrev pub is_due : Open → StepEvent → Bool
is_due r event = (outcome r event).barrier_due

abbrev pub finished : Open → StepEvent → Open
finished r event = if is_due r event then stepped (stepped r event) steps.Barrier else stepped r event

-- the log after the step, and after both
abbrev pub log_once : Open → StepEvent → Log → Log
log_once r event log = after log (block r event)

abbrev pub log_twice : Open → StepEvent → Log → Log
log_twice r event log = after (log_once r event log) (block (stepped r event) steps.Barrier)

abbrev pub log_behind : Open → StepEvent → Log → Log
log_behind r event log = if is_due r event then log_twice r event log else log_once r event log

-- The disk failed in the first step, before any line of it, or in the second, after the lines of the first.
abbrev pub IsCutOff : Open → StepEvent → Log → EventEffects → EventEffects → (Areas → Type 0) → Type 0
IsCutOff r event log old new images =
    ((new ≡ old) × (block r event ≢ []) × StandForOneOf log (log_once r event log) images)
    ⊎ ((is_due r event ≡ true) × (new ≡ effects_after old r event) × StandForOneOf (log_once r event log) (log_twice r event log) images)

-- each image holds the log, or that after the first step, or after both
abbrev pub HoldsSome : Open → StepEvent → Log → (Areas → Type 0) → Type 0
HoldsSome r event log images = Each images (λ c. (durable c ≡ Ok log) ⊎ ((durable c ≡ Ok (log_once r event log)) ⊎ ((is_due r event ≡ true) × (durable c ≡ Ok (log_twice r event log)))))
