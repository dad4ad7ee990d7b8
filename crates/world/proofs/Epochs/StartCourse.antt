-- What holds of the appointments once replica 0 is appointed to an epoch above all others.
use Rattle.std.proofs.Common.{◌≡◌, ◌∙◌, ap, refl, List, [], ◌∷◌, ◌++◌, Bool, true, false, cond, ◌||◌, inl, inr}
use Rattle.std.specs.List.{list_any, list_all, AllByRecursion}
use Rattle.std.proofs.lemmas.List.Elements.{All-push, All-from_recursion, recursion_from_All}
use Rattle.std.proofs.lemmas.List.Folds.{list_any-append}
use Rattle.std.proofs.Math.Bool.{or-true}
use Rattle.world.proofs.Epochs.SurveyLines.{below_all}
use Rattle.rc_base.specs.declared.ids.Epoch.{Epoch}
use Rattle.rc_base.specs.Ids.{is_epoch, epoch_lt, epoch_le}
use Rattle.rc_base.proofs.SameIds.{is_epoch_same}
use Rattle.log_store.specs.declared.kept.Kept.{Kept as Log}
use Rattle.order_machine.specs.Machine.{Appointment}
use Rattle.order_machine.specs.Transitions.{noting_active}
use Rattle.world.specs.Course.{IsOurs, IsCourse, IsFence, IsLogged, is_appointed}
use Rattle.world.specs.Standing.{Course}
use Rattle.rc_base.proofs.EpochOrder.{epoch_le_refl, epoch_le_lt, epoch_lt_le}
use Rattle.world.proofs.Epochs.StartLines.{appointment_to, appointed_course, active_course}

-- ---- what is below the epoch

-- the latest epoch is below one that is above each appointed
pub latest_below : (course : Course) (e : Epoch) → IsCourse course → list_all (λ a. epoch_lt a.epoch e) (course.first ∷ course.later) ≡ true → epoch_lt course.latest e ≡ true
latest_below course e ruled above = below_all e course.latest (course.first ∷ course.later) above ruled.latest

pub le_below : (f g e : Epoch) → epoch_le f g ≡ true → epoch_lt g e ≡ true → epoch_le f e ≡ true
le_below f g e low up = epoch_lt_le f e (epoch_le_lt f g e low up)

-- ---- what was appointed stays so

appointed_more : (f : Epoch) (xs ys : List Appointment) → list_any (λ a. is_epoch f a.epoch) xs ≡ true → list_any (λ a. is_epoch f a.epoch) (xs ++ ys) ≡ true
appointed_more f xs ys h = list_any-append (λ a. is_epoch f a.epoch) xs ys ∙ rw h refl

appointed_last : (e : Epoch) (xs : List Appointment) → list_any (λ a. is_epoch e a.epoch) (xs ++ appointment_to e ∷ []) ≡ true
appointed_last e xs = list_any-append (λ a. is_epoch e a.epoch) xs (appointment_to e ∷ []) ∙ rw (is_epoch_same e) (or-true (list_any (λ a. is_epoch e a.epoch) xs))

noted_epoch : (f : Epoch) (b : Bool) (a : Appointment) → is_epoch f (cond b (record a { was_active = true }) a).epoch ≡ is_epoch f a.epoch
noted_epoch f true a = refl
noted_epoch f false a = refl

appointed_noted : (f e : Epoch) (xs : List Appointment) → list_any (λ a. is_epoch f a.epoch) (noting_active e xs) ≡ list_any (λ a. is_epoch f a.epoch) xs
appointed_noted f e [] = refl
appointed_noted f e (a ∷ xs) =
    ap (λ (b : Bool). b || list_any (λ a. is_epoch f a.epoch) (noting_active e xs)) (noted_epoch f (is_epoch e a.epoch) a)
    ∙ ap (λ (b : Bool). is_epoch f a.epoch || b) (appointed_noted f e xs)

pub appointed_active : (course : Course) (f : Epoch) → is_appointed course f ≡ true → is_appointed (active_course course) f ≡ true
appointed_active course f h = appointed_noted f course.latest (course.first ∷ course.later) ∙ h

pub appointed_still : (course : Course) (e f : Epoch) → is_appointed course f ≡ true → is_appointed (appointed_course course e) f ≡ true
appointed_still course e f h = appointed_more f (course.first ∷ course.later) (appointment_to e ∷ []) h

-- the new epoch is appointed
pub appointed_now : (course : Course) (e : Epoch) → is_appointed (appointed_course course e) e ≡ true
appointed_now course e = appointed_last e (course.first ∷ course.later)

-- ---- the course

pub course_appointed : (course : Course) (e : Epoch) → IsCourse course → epoch_lt course.latest e ≡ true → IsCourse (appointed_course course e)
course_appointed course e ruled below = record {
  each = All-push (IsOurs e) (course.first ∷ course.later) (appointment_to e)
      (λ k d here. let o = ruled.each k d here in record { primary = o.primary; current = o.current; within = le_below _ course.latest e o.within below })
      (record { primary = refl; current = refl; within = epoch_le_refl e });
  latest = appointed_now course e;
}

ours_noted : (f : Epoch) (b : Bool) (a : Appointment) → IsOurs f a → IsOurs f (cond b (record a { was_active = true }) a)
ours_noted f true a o = record { primary = o.primary; current = o.current; within = o.within }
ours_noted f false a o = o

all_noted : (f e : Epoch) (xs : List Appointment) → AllByRecursion (IsOurs f) xs → AllByRecursion (IsOurs f) (noting_active e xs)
all_noted f e [] h = tt
all_noted f e (a ∷ xs) h = (ours_noted f (is_epoch e a.epoch) a h.0, all_noted f e xs h.1)

pub course_active : (course : Course) → IsCourse course → IsCourse (active_course course)
course_active course ruled = record {
  each = All-from_recursion (IsOurs course.latest) (noting_active course.latest (course.first ∷ course.later)) (all_noted course.latest course.latest (course.first ∷ course.later) (recursion_from_All (IsOurs course.latest) (course.first ∷ course.later) ruled.each));
  latest = appointed_active course course.latest ruled.latest;
}

-- ---- fences and logs

pub fence_appointed : (course : Course) (e f : Epoch) → epoch_lt course.latest e ≡ true → IsFence course f → IsFence (appointed_course course e) f
fence_appointed course e f below (inl low) = inl (le_below f course.latest e low below)
fence_appointed course e f below (inr told) = inr told

pub fence_active : (course : Course) (f : Epoch) → IsFence course f → IsFence (active_course course) f
fence_active course f (inl low) = inl low
fence_active course f (inr told) = inr told

pub logged_appointed : (course : Course) (e : Epoch) (log : Log) → IsLogged course log → IsLogged (appointed_course course e) log
logged_appointed course e log (inl there) = inl (appointed_still course e _ there)
logged_appointed course e log (inr empty) = inr empty

pub logged_active : (course : Course) (log : Log) → IsLogged course log → IsLogged (active_course course) log
logged_active course log (inl there) = inl (appointed_active course _ there)
logged_active course log (inr empty) = inr empty
