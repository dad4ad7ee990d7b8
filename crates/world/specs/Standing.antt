-- The states of the machine in which a world stands once it was booted: replica 0 is the only member.
use Rattle.std.specs.Prelude.{ℕ, Bool, true, false, List, [], ◌∷◌, replicate, Some, None}
use Rattle.rc_base.specs.declared.ids.Epoch.{Epoch}
use Rattle.rc_base.specs.declared.ids.TxnId.{TxnId}
use Rattle.key_locks.specs.Grants.{Grant}
use Rattle.config_rule.specs.declared.answers.SurveyAnswer.{SurveyAnswer}
use Rattle.order_machine.specs.Order.{Entry}
use Rattle.order_machine.specs.Machine.{Machine, Replica, Survey, Appointment, Txn, never_opened}
use Rattle.order_machine.specs.Transitions.{first_epoch}

-- What was decided so far: the appointments, the boot's first and those after it in order; the latest epoch of them; what
-- was answered to surveys; and the surveys that came to replica 0.
pub record Course : Type 0 where
  pub first : Appointment
  pub later : List Appointment
  pub latest : Epoch
  pub answers : List SurveyAnswer
  pub surveys : List Survey

-- the boot's appointment, and whether its primary was ever active
abbrev pub first_appointment : Bool → Appointment
first_appointment was_active = record { epoch = first_epoch; primary = 0; previous = 0 ∷ []; current = 0 ∷ []; dropped = false; was_active = was_active }

-- after the boot
abbrev pub first_course : Bool → Course
first_course was_active = record { first = first_appointment was_active; later = []; latest = first_epoch; answers = []; surveys = [] }

-- replica 0 as the active primary of the latest epoch; open without a role; and closed. It shows so many transactions,
-- or showed them last
abbrev pub serving : Course → ℕ → ℕ → List Grant → Replica
serving course shown begins grants = record {
  up = true;
  show = shown;
  loss = 0;
  role = Some (record { epoch = course.latest; active = true; begins = begins; idle = [] });
  grants = grants;
  surveys = course.surveys;
}

abbrev pub resting : Course → ℕ → Replica
resting course shown = record { up = true; show = shown; loss = 0; role = None; grants = []; surveys = course.surveys }

abbrev pub shut : Course → ℕ → Replica
shut course shown = record { up = false; show = shown; loss = 0; role = None; grants = []; surveys = course.surveys }

abbrev pub standing : List Entry → List TxnId → Replica → List (TxnId × Txn) → Course → Machine
standing entries acknowledged zero txns course = record {
  orders = record { base = 0; start = []; entries = entries } ∷ [];
  acknowledged = acknowledged;
  replicas = zero ∷ replicate 8 never_opened;
  txns = txns;
  appointments = course.first ∷ course.later;
  config = 0 ∷ [];
  answers = course.answers;
}
