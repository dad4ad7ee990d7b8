-- The rule of reconfiguration: what was appointed, what was answered to surveys, and which part of the rule fails.
use Rattle.std.specs.Prelude.{ℕ, ◌+◌, ◌-◌, Bool, true, false, not, ◌&&◌, ◌||◌, ◌==◌, List, [], ◌∷◌, ◌++◌, length, Option, Some, None, is_some, nat_le, nat_lt, find, count_by, slice_get, if◌then◌else◌}
use Rattle.std.specs.List.{list_all, list_any}
use Rattle.std.specs.Option.{option_map_or}
use Rattle.rc_base.specs.declared.ids.Epoch.{Epoch}
use Rattle.rc_base.specs.Members.{first_twice}
use Rattle.rc_base.specs.Quorum.{read_quorum}
use Rattle.config_rule.specs.declared.answers.SurveyAnswer.{SurveyAnswer}
use Rattle.config_rule.specs.declared.appointments.Appointed.{Appointed}
use Rattle.rc_base.specs.Ids.{is_epoch, epoch_lt}

-- what is known of a fleet
pub record Known : Type 0 where
  pub appointed : List Appointed  -- in order; the first is the boot's
  pub current : List ℕ  -- the configuration last activated
  pub answers : List SurveyAnswer  -- to surveys: the latest of each replica to each epoch

-- ---- answers to surveys

abbrev pub is_answer : Epoch → ℕ → SurveyAnswer → Bool
is_answer epoch from a = is_epoch epoch a.epoch && (from == a.from)

-- what the replica answered to a survey of the epoch
abbrev pub answer_of : List SurveyAnswer → Epoch → ℕ → Option SurveyAnswer
answer_of answers epoch from = find (is_answer epoch from) answers

abbrev pub has_answered : List SurveyAnswer → Epoch → ℕ → Bool
has_answered answers epoch from = is_some (answer_of answers epoch from)

-- whether an answer tells of less than another: by the epoch of the last record, and then by its place
abbrev pub tells_less : SurveyAnswer → SurveyAnswer → Bool
tells_less a b = epoch_lt a.last_epoch b.last_epoch || (is_epoch a.last_epoch b.last_epoch && nat_lt a.last.0 b.last.0)

-- with the answer, in place of the replica's earlier one to that epoch
abbrev pub with_answer : SurveyAnswer → List SurveyAnswer → List SurveyAnswer
with_answer answer [] = answer ∷ []
with_answer answer (a ∷ answers) = if is_answer answer.epoch answer.from a then answer ∷ answers else a ∷ with_answer answer answers

-- ---- the parts of the rule, for an appointment of a primary with members to an epoch

-- 1: the epoch is above each appointed epoch
abbrev pub is_above : List Appointed → Epoch → Bool
is_above appointed epoch = list_all (λ a. epoch_lt a.epoch epoch) appointed

-- 2: the members are distinct, 1 to 9, and hold the primary
abbrev pub are_members : List ℕ → ℕ → Bool
are_members members primary =
    not (is_some (first_twice members)) && (nat_le 1 (length members) && nat_le (length members) 9) && list_any (λ m. m == primary) members

-- 3: a read quorum of the configuration last activated has answered a survey of the epoch
abbrev pub has_quorum : List SurveyAnswer → List ℕ → Epoch → Bool
has_quorum answers current epoch = nat_le (read_quorum (length current)) (count_by (has_answered answers epoch) current)

-- 4: the primary has answered it, and no survey above
abbrev pub has_answered_last : List SurveyAnswer → Epoch → ℕ → Bool
has_answered_last answers epoch primary =
    has_answered answers epoch primary && not (list_any (λ a. (primary == a.from) && epoch_lt epoch a.epoch) answers)

-- 5: no answer to it tells of more than the primary's
abbrev pub tells_most : List SurveyAnswer → Epoch → ℕ → Bool
tells_most answers epoch primary =
    option_map_or (λ own. not (list_any (λ a. is_epoch epoch a.epoch && tells_less own a) answers)) (answer_of answers epoch primary) true

-- ---- the parts of the rule, for an activation of an epoch

abbrev pub appointment_of : List Appointed → Epoch → Option Appointed
appointment_of appointed epoch = find (λ a. is_epoch epoch a.epoch) appointed

-- 7: the epoch is the latest appointed
abbrev pub is_latest : List Appointed → Epoch → Bool
is_latest appointed epoch = option_map_or (λ a. is_epoch epoch a.epoch) (slice_get appointed (length appointed - 1)) false

-- 8: its primary has become active in it
abbrev pub was_active : List Appointed → Epoch → Bool
was_active appointed epoch = option_map_or (λ a. a.active) (appointment_of appointed epoch) false

-- ---- the least part that fails

-- the number of the first that fails, counted from the given one
abbrev pub first_broken : ℕ → List Bool → Option ℕ
first_broken part [] = None
first_broken part (holds ∷ parts) = if holds then first_broken (part + 1) parts else Some part

-- parts 1 to 6, of which the last is that the primary is up
abbrev pub broken_appointment : Known → Epoch → ℕ → List ℕ → Bool → Option ℕ
broken_appointment known epoch primary members up =
    first_broken 1
    (is_above known.appointed epoch ∷ are_members members primary ∷ has_quorum known.answers known.current epoch ∷ has_answered_last known.answers epoch primary ∷ tells_most known.answers epoch primary ∷ up ∷ [])

-- parts 7 and 8
abbrev pub broken_activation : Known → Epoch → Option ℕ
broken_activation known epoch = first_broken 7 (is_latest known.appointed epoch ∷ was_active known.appointed epoch ∷ [])

-- ---- what changes

-- with the first appointment of the epoch changed
abbrev pub changed_at : Epoch → (Appointed → Appointed) → List Appointed → List Appointed
changed_at epoch change [] = []
changed_at epoch change (a ∷ appointed) = if is_epoch epoch a.epoch then change a ∷ appointed else a ∷ changed_at epoch change appointed

abbrev pub made_active : Appointed → Appointed
made_active a = record { epoch = a.epoch; primary = a.primary; pc = a.pc; cc = a.cc; active = true; activated = a.activated }

abbrev pub made_current : Appointed → Appointed
made_current a = record { epoch = a.epoch; primary = a.primary; pc = a.pc; cc = a.cc; active = a.active; activated = true }

-- an appointment more: its previous configuration is the one last activated
abbrev pub after_appointment : Known → Epoch → ℕ → List ℕ → Known
after_appointment known epoch primary cc = record known {
  appointed = known.appointed ++ record { epoch = epoch; primary = Some primary; pc = known.current; cc = cc; active = false; activated = false } ∷ [];
}

-- an answer more, in place of the replica's earlier one to that epoch
abbrev pub after_answer : Known → SurveyAnswer → Known
after_answer known answer = record known { answers = with_answer answer known.answers }

-- the primary of the epoch has become active
abbrev pub after_active : Known → Epoch → Known
after_active known epoch = record known { appointed = changed_at epoch made_active known.appointed }

-- the configuration of the epoch is the one last activated
abbrev pub after_activation : Known → Epoch → Known
after_activation known epoch = record {
  appointed = changed_at epoch made_current known.appointed;
  current = option_map_or (λ a. a.cc) (appointment_of known.appointed epoch) known.current;
  answers = known.answers;
}

-- after the boot, of which the primary isn't known here: its epoch is 0.1, and its configuration counts as activated
abbrev pub after_boot : List ℕ → Known
after_boot first = record {
  appointed = record { epoch = record { loss = 0; number = 1 }; primary = None; pc = first; cc = first; active = false; activated = true } ∷ [];
  current = first;
  answers = [];
}
