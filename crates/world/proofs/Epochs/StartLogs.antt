-- The logs of a replica that starts an epoch: behind the start, and behind the Barrier that follows it.
use Rattle.std.proofs.Common.{◌≡◌, ◌∙◌, ap, refl, ℕ, ◌+◌, ◌≤◌, Bool, true, false, cond, [], ◌∷◌, ◌++◌, length, arith, append-nil, length-append}
use Rattle.std.proofs.lemmas.List.{take-append-le}
use Rattle.rc_base.specs.declared.ids.Epoch.{Epoch}
use Rattle.rc_base.specs.Ids.{epoch_lt}
use Rattle.log_records.specs.declared.record.Record.TheVariants.{EpochStart}
use Rattle.txn_table.specs.Log.{Items, commits_in, last_epoch}
use Rattle.log_store.specs.declared.kept.Kept.{Kept as Log}
use Rattle.txn_table.specs.Epochs.{later}
use Rattle.replica_model.specs.declared.step.StepEvent.{StepEvent}
use Rattle.replica_model.specs.declared.step.StepEvent.TheVariants as steps
use Rattle.replica.specs.Open.{Open, AgreesWith, shown_in, commits_to}
use Rattle.txn_table.specs.Whole.{stable_in}
use Rattle.replica.specs.Step.{MayStep, stepped, started}
use Rattle.replica.proofs.Lengthened.{commits_after, steps_to}
use Rattle.world.specs.Course.{IsFence}
use Rattle.world.specs.Standing.{Course}
use Rattle.world.specs.Steps.{log_once, log_twice, appointment_alone}

abbrev pub start : Epoch → StepEvent
start e = steps.Appoint (appointment_alone e)

-- the log agrees with the replica behind each of the two steps
pub once_agrees : (r : Open) (log : Log) (e : Epoch) → AgreesWith r log → MayStep r (start e) → AgreesWith (started e r) (log_once r (start e) log)
once_agrees r log e agrees may = (steps_to r log (start e) agrees may).agrees

pub twice_agrees : (r : Open) (log : Log) (e : Epoch) → AgreesWith r log → MayStep r (start e) → AgreesWith (stepped (started e r) steps.Barrier) (log_twice r (start e) log)
twice_agrees r log e agrees may = (steps_to (started e r) (log_once r (start e) log) steps.Barrier (once_agrees r log e agrees may) refl).agrees

-- ---- they commit the same

pub once_commits : (r : Open) (log : Log) (e : Epoch) → AgreesWith r log → MayStep r (start e) → commits_in (log_once r (start e) log).records ≡ commits_in log.records
once_commits r log e agrees may = commits_after r log (start e) agrees may ∙ append-nil (commits_in log.records)

pub twice_commits : (r : Open) (log : Log) (e : Epoch) → AgreesWith r log → MayStep r (start e) → commits_in (log_twice r (start e) log).records ≡ commits_in log.records
twice_commits r log e agrees may =
    commits_after (started e r) (log_once r (start e) log) steps.Barrier (once_agrees r log e agrees may) refl
    ∙ (append-nil (commits_in (log_once r (start e) log).records) ∙ once_commits r log e agrees may)

-- ---- the first shows what the log showed

stable_once : (items : Items) (e f : Epoch) → stable_in (items ++ (e, EpochStart f) ∷ []) ≡ stable_in items
stable_once [] e f = refl
stable_once (item ∷ items) e f = let rest = stable_once items e f in rw rest refl

pub once_shows : (r : Open) (log : Log) (e : Epoch) → AgreesWith r log → shown_in (log_once r (start e) log).records ≡ shown_in log.records
once_shows r log e agrees =
    let low : stable_in log.records ≤ length log.records = let a = agrees.stable_told in let b = agrees.stable_there in let c = agrees.last in omega (arith, a, b, c) in
    ap (λ (n : ℕ). commits_to n (log.records ++ (e, EpochStart e) ∷ [])) (stable_once log.records e e)
    ∙ ap (λ (items : Items). commits_in items) (take-append-le (stable_in log.records) log.records ((e, EpochStart e) ∷ []) low)

-- ---- their epochs

pub once_epoch : (r : Open) (log : Log) (e : Epoch) → AgreesWith r log → MayStep r (start e) → last_epoch (log_once r (start e) log).records ≡ e
once_epoch r log e agrees may = (once_agrees r log e agrees may).epoch

pub twice_epoch : (r : Open) (log : Log) (e : Epoch) → AgreesWith r log → MayStep r (start e) → last_epoch (log_twice r (start e) log).records ≡ e
twice_epoch r log e agrees may = (twice_agrees r log e agrees may).epoch

pub fence_later : (course : Course) (f e : Epoch) → IsFence course f → IsFence course e → IsFence course (later f e)
fence_later course f e old new = by (epoch_lt f e)
  where
    by : (b : Bool) → IsFence course (cond b e f)
    by true = new
    by false = old

-- ---- their lengths

pub once_long : (r : Open) (log : Log) (e : Epoch) → length (log_once r (start e) log).records ≡ length log.records + 1
once_long r log e = length-append log.records ((e, EpochStart e) ∷ [])

pub twice_long : (r : Open) (log : Log) (e : Epoch) → length (log_twice r (start e) log).records ≡ length log.records + 2
twice_long r log e =
    let a = once_long r log e in
    length-append (log_once r (start e) log).records _ ∙ omega (arith, a)
