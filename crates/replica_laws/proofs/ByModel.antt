-- A mount and a step promise what the model says.
use Rattle.std.proofs.Common.{◌≡◌, ◌∙◌, sym, ap, subst, ℕ, ◌+◌, ◌<◌, ◌^◌, false, List, [], ◌∷◌, Option, None, Result, Ok, Err, IfOk, Contains, inl, inr, ◌⊎◌}
use Rattle.std.specs.Option.{ForSome, IsSome}
use Rattle.rc_base.specs.declared.ids.Epoch.{Epoch}
use Rattle.rc_base.specs.Ids.{no_epoch, epoch_lt}
use Rattle.disk_model.specs.Disk.{Areas, Follows}
use Rattle.txn_table.specs.Whole.{Whole, stable_in}
use Rattle.log_store.specs.declared.kept.Kept.{Kept}
use Rattle.log_store.specs.Durable.{durable, StandFor}
use Rattle.log_store.specs.Fold.{no_log}
use Rattle.log_store.specs.Growth.{new_log, after}
use Rattle.log_store.specs.Store.{IsOpenOn, KeepsOrBegins}
use Rattle.txn_front.specs.Front.{Fronted, nothing}
use Rattle.replica_model.specs.declared.role.Role.TheVariants.{Other}
use Rattle.replica_model.specs.declared.step.StepEvent.{StepEvent}
use Rattle.replica_model.specs.declared.step.StepEvent.TheVariants as steps
use Rattle.replica_model.specs.declared.step.Outcome.{Outcome}
use Rattle.replica_model.specs.OpenReplica.{OpenReplica}
use Rattle.replica_model.specs.Records.{step_block}
use Rattle.replica_model.specs.Steps as model
use Rattle.replica.specs.Open.{Open, AreSame, AgreesWith}
use Rattle.replica.specs.Step.{MayStep, block, stepped, outcome, quiet}
use Rattle.replica_laws.specs.Agreement.{AgreesOn, IsStep, HoldsOneOf, whole_of}
use Rattle.replica_laws.specs.Laws.{IsMounted}
use Rattle.replica_laws.specs.Modelled.{StandsIn, IsAlone, IsReady, Took, Opened}
use Rattle.replica_laws.proofs.Shown.{last_is, epoch_is, active_is}
use Rattle.replica_laws.proofs.QuietSteps.{mounts_agree}
use Rattle.replica_laws.proofs.StoppedSteps.{step_logs}
use Rattle.replica_laws.proofs.EveryStep.{steps_agree}

-- where five things hold of a value that there may be, so does what follows of them
pub all_five : {T E : Type 0} → (A B C D F G : T → Type 0) → ((x : T) → A x → B x → C x → D x → F x → G x) → (r : Result T E) → IfOk r A → IfOk r B → IfOk r C → IfOk r D → IfOk r F → IfOk r G
all_five A B C D F G then (Ok x) a b c d f = then x a b c d f
all_five A B C D F G then (Err e) a b c d f = tt

-- ---- a mount

pub opens : (x : Open) (id : ℕ) (told : Outcome) (now : Areas → Type 0) → IsOpenOn x.log now → x.log.log.closed ≡ false → ((v : Kept) × StandFor v now × AgreesWith x v × (x.stable.0 ≡ stable_in v.records))
    → ((x.id ≡ id) × (x.role ≡ Other) × (x.front ≡ nothing no_epoch)) → told ≡ quiet x None → Opened x id told now
opens x id told now opened not_closed held fresh tells =
    let m : IsMounted x id held.0 now = record { stands = held.1; agrees = held.2; stable = held.3; id = fresh.0; role = fresh.1; front = fresh.2; opened = opened; not_closed = not_closed } in
    let done = mounts_agree now x id held.0 m in
    record { log = whole_of held.0; agrees = done.agrees; outcome = tells ∙ done.outcome }

-- a new log is none, as the model sees it
pub mount_stops : (partition : ℕ) (old now : Areas → Type 0) → Follows (KeepsOrBegins partition) old now → (logs : List Whole) → StandsIn logs old → StandsIn logs now
mount_stops partition old now follows logs stands c is =
    let before = follows c is in
    let held : HoldsOneOf logs before.0 = stands before.0 before.1 in
    by before.0 held before.2.0
  where
    by : (d : Areas) → HoldsOneOf logs d → (durable c ≡ durable d) ⊎ ((durable d ≡ Ok no_log) × (durable c ≡ Ok (new_log partition))) → HoldsOneOf logs c
    by d held (inl same) = record { kept = held.kept; is = same ∙ held.is; one = held.one }
    by d held (inr new) =
        let none : no_log ≡ held.kept = let e : Ok no_log ≡ Ok held.kept = sym new.0 ∙ held.is in cc in
        record { kept = new_log partition; is = new.1; one = subst (λ (k : Kept). Contains logs (whole_of k)) (sym none) held.one }

-- ---- a step

pub may_alone : (x : Open) (event : StepEvent) (images : Areas → Type 0) → IsReady x event images → MayStep x event
may_alone x event images ready = by event ready.may ready.alone
  where
    o : OpenReplica
    o = ready.now

    by : (e : StepEvent) → model.MayStep o e → IsAlone o e → MayStep x e
    by (steps.Client call) may alone = may
    by (steps.Survey e) may alone = tt
    by (steps.Appoint a) may alone = record {
      above = ap (λ (e : Epoch). epoch_lt e a.epoch) (sym (epoch_is x o images ready.agrees)) ∙ may.above;
      own = may.own ∙ ready.agrees.id;
      alone = alone.0 ∙ ap (λ (n : ℕ). n ∷ []) ready.agrees.id;
      alone_before = alone.1 ∙ ap (λ (n : ℕ). n ∷ []) ready.agrees.id;
    }
    by (steps.Activate e) may alone = tt
    by steps.Barrier may alone = sym (active_is x o images ready.agrees) ∙ may
    by steps.Inspect may alone = tt

pub has_room : (x : Open) (event : StepEvent) (images : Areas → Type 0) → IsReady x event images → x.last.0 + 2 < 2 ^ 48
has_room x event images ready = subst (λ (n : ℕ). n + 2 < 2 ^ 48) (last_is x ready.now images ready.agrees) ready.room

pub has_count : (x : Open) (event : StepEvent) (images : Areas → Type 0) → IsReady x event images → x.front.begins + 1 < 2 ^ 64
has_count x event images ready = subst (λ (n : ℕ). n + 1 < 2 ^ 64) (sym (ap (λ (f : Fronted). f.begins) ready.agrees.front.same)) ready.counted

pub takes : (x new : Open) (event : StepEvent) (before now : Areas → Type 0) (seen : Option Areas) (told : Outcome) → IsSome seen → ForSome seen before → MayStep x event
    → told ≡ outcome x event → AreSame new (record (stepped x event) { log = new.log })
    → ((v : Kept) → StandFor v before → AgreesWith x v → StandFor (after v (block x event)) now × AgreesWith new (after v (block x event)))
    → IsOpenOn new.log now → new.log.log.closed ≡ false → (o : OpenReplica) → AgreesOn x o before → Took new o event told now
takes x new event before now seen told tells is_image may says kept agrees opened not_closed o a =
    let s : IsStep x new event before now = record { kept = kept; agrees = agrees; opened = opened; not_closed = not_closed } in
    let done = steps_agree before now seen tells is_image event x new o a may s in
    record { outcome = says ∙ done.outcome; agrees = done.then }

pub none_there : (x : Open) (event : StepEvent) (images : Areas → Type 0) (o : OpenReplica) → AgreesOn x o images → step_block o event ≡ [] → block x event ≡ []
none_there x event images o a none = step_logs x o images event a ∙ none
