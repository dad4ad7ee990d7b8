-- The fence and the last epoch of a primary's log, behind the steps of calls.
use Rattle.std.proofs.Common.{◌≡◌, ◌∙◌, sym, subst, ℕ, zero, suc, Bool, true, false, cond, length, Option, Some, None, inl, refl}
use Rattle.std.specs.Option.{option_map_or}
use Rattle.rc_base.specs.declared.ids.Epoch.{Epoch}
use Rattle.rc_base.specs.Ids.{epoch_lt, epoch_le}
use Rattle.log_store.specs.declared.kept.Kept.{Kept as Log}
use Rattle.txn_table.specs.Epochs.{later}
use Rattle.events.specs.declared.call.Call.{Call}
use Rattle.events.specs.declared.call.Call.TheVariants.{Begin, Make, OnKey, Commit, Abort}
use Rattle.replica.specs.Open.{Open, AgreesWith}
use Rattle.replica.specs.Step.{lengthened, answered, called, logged_by, is_active}
use Rattle.txn_front.specs.Front.{Going, going_of}
use Rattle.world.specs.Course.{IsCourse, IsFence, IsLogged, is_appointed}
use Rattle.world.specs.Standing.{Course}
use Rattle.rc_base.proofs.EpochOrder.{epoch_le_refl}
use Rattle.world.proofs.Calls.Steps.{committed_open, lengthened_epoch}

pub fence_later : (course : Course) (f e : Epoch) → IsFence course f → epoch_le e course.latest ≡ true → IsFence course (later f e)
fence_later course f e fence low = by (epoch_lt f e)
  where
    by : (b : Bool) → IsFence course (cond b e f)
    by true = inl low
    by false = fence

pub fence_lengthened : (course : Course) (n : ℕ) (r : Open) → IsFence course r.fence → epoch_le r.epoch course.latest ≡ true → IsFence course (lengthened n r.epoch r).fence
fence_lengthened course zero r fence low = fence
fence_lengthened course (suc n) r fence low = fence_later course r.fence r.epoch fence low

fence_answered : (course : Course) (r : Open) (n : ℕ) (call : Call) → IsFence course r.fence → epoch_le r.epoch course.latest ≡ true → IsFence course (answered n call r).fence
fence_answered course r n Begin fence low = fence_lengthened course n r fence low
fence_answered course r n (Make t name kind) fence low = fence_lengthened course n r fence low
fence_answered course r n (OnKey t name key asked) fence low = fence_lengthened course n r fence low
fence_answered course r n (Commit t) fence low = by (going_of r.front t)
  where
    by : (o : Option Going) → IsFence course (option_map_or (λ g. committed_open n t g r) o r).fence
    by None = fence
    by (Some g) = fence_lengthened course n r fence low
fence_answered course r n (Abort t) fence low = fence_lengthened course n r fence low

pub fence_called : (course : Course) (r : Open) (call : Call) → IsFence course r.fence → epoch_le r.epoch course.latest ≡ true → IsFence course (called r call).fence
fence_called course r call fence low = by (is_active r.role)
  where
    by : (b : Bool) → IsFence course (cond b (answered (length (logged_by r call)) call r) r).fence
    by true = fence_answered course r (length (logged_by r call)) call fence low
    by false = fence

epoch_answered : (r : Open) (n : ℕ) (call : Call) → (answered n call r).epoch ≡ r.epoch
epoch_answered r n Begin = lengthened_epoch n r
epoch_answered r n (Make t name kind) = lengthened_epoch n r
epoch_answered r n (OnKey t name key asked) = lengthened_epoch n r
epoch_answered r n (Commit t) = by (going_of r.front t)
  where
    by : (o : Option Going) → (option_map_or (λ g. committed_open n t g r) o r).epoch ≡ r.epoch
    by None = refl
    by (Some g) = lengthened_epoch n r
epoch_answered r n (Abort t) = lengthened_epoch n r

pub epoch_called : (r : Open) (call : Call) → (called r call).epoch ≡ r.epoch
epoch_called r call = by (is_active r.role)
  where
    by : (b : Bool) → (cond b (answered (length (logged_by r call)) call r) r).epoch ≡ r.epoch
    by true = epoch_answered r (length (logged_by r call)) call
    by false = refl

-- an epoch that is the latest isn't above it
pub latest_low : (course : Course) (e : Epoch) → e ≡ course.latest → epoch_le e course.latest ≡ true
latest_low course e is = subst (λ f. epoch_le f course.latest ≡ true) (sym is) (epoch_le_refl course.latest)

pub logged_fence : (course : Course) (x : Open) (log : Log) → AgreesWith x log → IsFence course x.fence → IsFence course log.fence
logged_fence course x log agrees fence = subst (IsFence course) (sym agrees.fence) fence

pub logged_latest : (course : Course) (x : Open) (log : Log) → AgreesWith x log → x.epoch ≡ course.latest → IsCourse course → IsLogged course log
logged_latest course x log agrees epoch ruled = inl (subst (λ e. is_appointed course e ≡ true) (sym (agrees.epoch ∙ epoch)) ruled.latest)
