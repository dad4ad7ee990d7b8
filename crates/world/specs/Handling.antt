-- What the handlers of events have in common: which event is refused, what each handler needs, and what it promises.
use Rattle.std.specs.Prelude.{◌≡◌, ℕ, ◌+◌, ◌<◌, ◌≤◌, nat_lt, length, Bool, false, List, Option, Some, None, is_some, option_map, Result, IfOk, OnOk, if◌then◌else◌}
use Rattle.std.specs.Option.{option_map_or}
use Rattle.rc_base.specs.declared.ids.Epoch.{Epoch}
use Rattle.rc_base.specs.declared.ids.Lsn.{Lsn}
use Rattle.disk_model.specs.Disk.{Areas, Marks}
use Rattle.config_rule.specs.Rule.{Known, is_above, after_answer, after_active}
use Rattle.events.specs.declared.answer.Answer.{Answer}
use Rattle.events.specs.declared.answer.Answer.TheVariants as answers
use Rattle.events.specs.declared.event.Event.{Event}
use Rattle.events.specs.declared.event.Event.TheVariants.{Boot, Client, Arm, Crash, Reboot, Inspect, Survey, Appoint, Activate}
use Rattle.order_machine.specs.declared.observation.Observation.{Observation}
use Rattle.order_machine.specs.Machine.{Machine}
use Rattle.world.specs.declared.error.WorldError.{WorldError}
use Rattle.world.specs.Fleet.{TellsZero, RoseBy, fault_lines, marks_after}
use Rattle.world.specs.Kept.{Kept, has_booted}
use Rattle.world.specs.Limits.{IsServable, most_appointments}
use Rattle.world.specs.World.{StandsFor, Serves}

-- ---- refusals

-- before the boot each other event is refused, and then what else refuses it
abbrev pub once_booted_in : Kept → Option Answer → Option Answer
once_booted_in k refused = if has_booted k then refused else Some (answers.Refused 9)

-- something is asked of a replica that is closed
abbrev pub down_in : Kept → ℕ → Option Answer
down_in k r = if is_some k.replica then None else Some (answers.Down r)

-- a replica is opened that is open
abbrev pub already_up_in : Kept → Option Answer
already_up_in k = if is_some k.replica then Some answers.IgnoredUp else None

-- a survey's epoch isn't above each appointed one, or the replica is closed
abbrev pub survey_in : Kept → ℕ → Epoch → Known → Option Answer
survey_in k r e known = if is_above known.appointed e then down_in k r else Some (answers.Refused 1)

-- The one answer of an event that a world refuses by what it keeps. What breaks a later part of the rule of reconfiguration
-- is told by the rule itself.
abbrev pub refusal_of : Kept → Event → Option Answer
refusal_of k (Boot p members) = if has_booted k then Some (answers.Refused 9) else None
refusal_of k (Client r call) = once_booted_in k None
refusal_of k (Arm r calls) = once_booted_in k (down_in k r)
refusal_of k (Crash r pick) = once_booted_in k None
refusal_of k (Reboot r) = once_booted_in k (already_up_in k)
refusal_of k (Inspect r) = once_booted_in k (down_in k r)
refusal_of k (Survey r e) = option_map_or (survey_in k r e) k.rule (Some (answers.Refused 9))
refusal_of k (Appoint e p members) = once_booted_in k None
refusal_of k (Activate e) = once_booted_in k None

-- ---- what a rule knows

-- after a survey of an epoch at a replica, which answered this, where it did
abbrev pub rule_surveyed : Epoch → ℕ → Option (Epoch × Lsn) → Option Known → Option Known
rule_surveyed e r None rule = rule
rule_surveyed e r (Some last) rule = option_map (λ known. after_answer known (record { epoch = e; from = r; last_epoch = last.0; last = last.1 })) rule

-- once the primary of an epoch was started, and became active or not
abbrev pub rule_active : Epoch → Bool → Option Known → Option Known
rule_active e active rule = if active then option_map (λ known. after_active known e) rule else rule

-- it has taken more appointments than a run has room for, with that of the boot
abbrev pub is_past_limit : Kept → Bool
is_past_limit k = option_map_or (λ known. nat_lt (most_appointments + 1) (length known.appointed)) k.rule false

-- ---- a handler

-- The number of an event rises, within the limit, and world and disk stand for a state of the machine.
pub record IsReady (k : Kept) (images : Areas → Type 0) (number : ℕ) : Type 0 where
  pub rising : k.last < number
  pub within : number ≤ 1000000
  pub stands : (m : Machine) × StandsFor k images m

-- What each handler promises of its event: its lines are whole, and world and disk stand for the state after them; that is so
-- only where the event reaches no limit and is built; the event is counted; no fault of another replica is told, and one of replica 0 only where its disk failed; and the disk is armed and
-- stopped only where the event asks for it.
pub record Handles {M : Type 0} (images : M → Areas → Type 0) (faults : M → ℕ) (marks : M → Marks) (old new : Kept) (before now : M) (number : ℕ) (event : Event) (result : Result (List Observation) WorldError) : Type 0 where
  pub serves : Serves old new (images before) (images now) event result
  pub servable : OnOk result ((m : Machine) → StandsFor old (images before) m → IsServable m event)
  pub last : OnOk result (new.last ≡ number)
  pub others : IfOk result TellsZero
  pub counted : RoseBy (fault_lines 0 result) (faults before) (faults now)
  pub armed : marks now ≡ marks_after event result 0 (marks before)
