-- The lines of a survey, and the states behind them.
use Rattle.std.proofs.Common.{◌≡◌, sym, ap, subst, refl, ℕ, Bool, true, false, cond, ◌||◌, List, [], ◌∷◌, Some, None, Option, inl, inr}
use Rattle.std.specs.Prelude.{find, is_some}
use Rattle.std.specs.List.{list_all, list_any}
use Rattle.std.proofs.lemmas.Bool.{false≢true, and_parts, or_cases}
use Rattle.rc_base.specs.declared.ids.Epoch.{Epoch}
use Rattle.rc_base.specs.declared.ids.TxnId.{TxnId}
use Rattle.rc_base.specs.Ids.{is_epoch, epoch_lt}
use Rattle.rc_base.proofs.SameIds.{is_epoch-true}
use Rattle.config_rule.specs.declared.answers.SurveyAnswer.{SurveyAnswer}
use Rattle.config_rule.specs.Rule.{with_answer}
use Rattle.disk_model.specs.Disk.{Areas}
use Rattle.events.specs.declared.event.Event.TheVariants.{Survey}
use Rattle.order_machine.specs.declared.observation.Observation.TheVariants as says
use Rattle.order_machine.specs.Order.{Entry}
use Rattle.order_machine.specs.Machine as machine
use Rattle.order_machine.specs.Machine.{Machine, Appointment, Txn, replica, put_replica, order_of, without_role}
use Rattle.order_machine.specs.Transitions.{HoldsBehind, IsProgress, refusal, at_start, with_survey, is_told}
use Rattle.order_machine.specs.Legal.{IsWhole, moved}
use Rattle.replica_model.specs.declared.role.Role.{Role}
use Rattle.replica_model.specs.declared.role.Role.TheVariants.{Other, Primary}
use Rattle.replica.specs.Open.{Open}
use Rattle.world.specs.Standing.{Course, resting, shut, standing}
use Rattle.world.specs.World.{AsRole}
use Rattle.world.proofs.States.Beginnings.{served_from}
use Rattle.world.proofs.States.RoleEnd.{holds_without_role}

-- ---- the epochs that were appointed

-- are below one that is above them all
pub below_all : (e f : Epoch) (xs : List Appointment) → list_all (λ a. epoch_lt a.epoch e) xs ≡ true → list_any (λ a. is_epoch f a.epoch) xs ≡ true → epoch_lt f e ≡ true
below_all e f [] below there = absurd (false≢true there)
below_all e f (a ∷ xs) below there =
    let parts = and_parts (epoch_lt a.epoch e) (list_all (λ b. epoch_lt b.epoch e) xs) below in
    elim (or_cases (is_epoch f a.epoch) (list_any (λ b. is_epoch f b.epoch) xs) there) [
      | inl here ↦ subst (λ (z : Epoch). epoch_lt z e ≡ true) (sym (is_epoch-true f a.epoch here)) parts.0
      | inr later ↦ below_all e f xs parts.1 later
    ]

found_by : (b rest : Bool) (a : Appointment) (o : Option Appointment) → (rest ≡ true → is_some o ≡ true) → (b || rest) ≡ true → is_some (cond b (Some a) o) ≡ true
found_by true rest a o later there = refl
found_by false rest a o later there = later there

pub found_any : (f : Epoch) (xs : List Appointment) → list_any (λ a. is_epoch f a.epoch) xs ≡ true → is_some (find (λ a. is_epoch f a.epoch) xs) ≡ true
found_any f [] there = absurd (false≢true there)
found_any f (a ∷ xs) there = found_by (is_epoch f a.epoch) (list_any (λ b. is_epoch f b.epoch) xs) a (find (λ b. is_epoch f b.epoch) xs) (found_any f xs) there

-- ---- the machine behind a survey

-- its answer is noted
abbrev pub survey_noted : Epoch → SurveyAnswer → Machine → Machine
survey_noted e a n = record (with_survey n 0 e false) { answers = with_answer a n.answers }

-- a replica without a role is closed
abbrev pub shut_of : Machine → Machine
shut_of n = put_replica n 0 (record (replica n 0) { up = false })

-- what the end of the role of replica 0 leaves, at a state that an open replica stands for
pub record RoleEnds (m : Machine) (f : Epoch) : Type 0 where
  pub order : order_of m 0 ≡ order_of (without_role m 0) 0
  pub shuts : machine.closed m 0 ≡ shut_of (without_role m 0)
  pub told : is_told m f ≡ is_told (without_role m 0) f

pub role_ends : (role : Role) (last : ℕ) (r : Open) (images : Areas → Type 0) (m : Machine) (f : Epoch) → AsRole role last r images m → RoleEnds m f
role_ends Other last r images m f s = subst (λ n. RoleEnds n f) (sym s.rests.is) (record { order = refl; shuts = refl; told = refl })
role_ends (Primary epoch active) last r images m f s = subst (λ n. RoleEnds n f) (sym s.runs.is) (record { order = refl; shuts = refl; told = refl })

-- ---- the lines

-- it tells how far the log reaches
pub progress_serves : (m : Machine) (e : Epoch) (last_epoch : Epoch) (last : ℕ) (entries : List Entry) (acknowledged : List TxnId) (txns : List (TxnId × Txn)) (course : Course) (shown : ℕ) → without_role m 0 ≡ standing entries acknowledged (resting course shown) txns course → refusal m (Survey 0 e) ≡ None → IsProgress m e last_epoch last →
    IsWhole m (Survey 0 e) (says.Progress 0 last_epoch last ∷ [])
    × (moved m (Survey 0 e) (says.Progress 0 last_epoch last ∷ []) ≡ survey_noted e (record { epoch = e; from = 0; last_epoch = last_epoch; last = record { 0 = last } }) (without_role m 0))
progress_serves m e last_epoch last entries acknowledged txns course shown is allowed progress =
    let a : SurveyAnswer = record { epoch = e; from = 0; last_epoch = last_epoch; last = record { 0 = last } } in
    let holds : HoldsBehind (survey_noted e a (without_role m 0)) =
    subst (λ n. HoldsBehind (survey_noted e a n)) (sym is)
    (holds_without_role entries acknowledged (record (resting course shown) { surveys = record { epoch = e; faulted = false } ∷ course.surveys }) txns (record course { answers = with_answer a course.answers }) refl) in
    served_from m (Survey 0 e) (says.Progress 0 last_epoch last ∷ []) (at_start m (Survey 0 e) 0 None []) (λ n. n ≡ survey_noted e a (without_role m 0)) allowed refl
    (record {
      may = (record { named = refl; in_rank = refl; next = refl; goes_on = refl; row = (refl, progress, refl) }, tt);
      complete = record { opened = refl; grown = refl; mounted = refl; told = refl; answered = refl };
      holds = holds;
    })
    refl

-- it is of an epoch below the fence
pub ignored_serves : (m : Machine) (e f : Epoch) → refusal m (Survey 0 e) ≡ None → epoch_lt e f ≡ true → is_told m f ≡ true → HoldsBehind m →
    IsWhole m (Survey 0 e) (says.IgnoredOldEpoch f e ∷ []) × (moved m (Survey 0 e) (says.IgnoredOldEpoch f e ∷ []) ≡ m)
ignored_serves m e f allowed low told holds =
    served_from m (Survey 0 e) (says.IgnoredOldEpoch f e ∷ []) (at_start m (Survey 0 e) 0 None []) (λ n. n ≡ m) allowed refl
    (record {
      may = (record { named = refl; in_rank = refl; next = refl; goes_on = refl; row = (refl, low, told, refl) }, tt);
      complete = record { opened = refl; grown = refl; mounted = refl; told = refl; answered = refl };
      holds = holds;
    })
    refl

-- its disk faults
pub survey_faults : (m : Machine) (e : Epoch) (entries : List Entry) (acknowledged : List TxnId) (txns : List (TxnId × Txn)) (course : Course) (shown : ℕ) → without_role m 0 ≡ standing entries acknowledged (resting course shown) txns course → RoleEnds m e → refusal m (Survey 0 e) ≡ None →
    IsWhole m (Survey 0 e) (says.Fault 0 ∷ [])
    × (moved m (Survey 0 e) (says.Fault 0 ∷ []) ≡ with_survey (shut_of (without_role m 0)) 0 e true)
survey_faults m e entries acknowledged txns course shown is ends allowed =
    let now : with_survey (machine.closed m 0) 0 e true ≡ with_survey (shut_of (without_role m 0)) 0 e true = ap (λ n. with_survey n 0 e true) ends.shuts in
    let holds : HoldsBehind (with_survey (machine.closed m 0) 0 e true) =
    subst HoldsBehind (sym now) (subst (λ n. HoldsBehind (with_survey (shut_of n) 0 e true)) (sym is)
    (holds_without_role entries acknowledged (record (shut course shown) { surveys = record { epoch = e; faulted = true } ∷ course.surveys }) txns course refl)) in
    served_from m (Survey 0 e) (says.Fault 0 ∷ []) (at_start m (Survey 0 e) 0 None []) (λ n. n ≡ with_survey (shut_of (without_role m 0)) 0 e true) allowed refl
    (record {
      may = (record { named = refl; in_rank = refl; next = refl; goes_on = refl; row = inl (refl, refl, refl) }, tt);
      complete = record { opened = refl; grown = refl; mounted = refl; told = refl; answered = refl };
      holds = holds;
    })
    now
