-- Client calls, in terms of what a world keeps.
use Rattle.std.proofs.Common.{◌≡◌, sym, subst, ℕ, max, ◌<◌, ◌≤◌, true, List, [], ◌∷◌, ◌++◌, Option, Some, None, Result, Ok, Err, IfOk, OnOk, OnErr, ◌*◌, refl, arith}
use Rattle.disk_model.specs.Disk.{Areas}
use Rattle.log_store.specs.declared.kept.Kept.{Kept as Log}
use Rattle.events.specs.declared.event.Event.TheVariants.{Client}
use Rattle.events.specs.declared.call.Call.{Call}
use Rattle.order_machine.specs.declared.observation.Observation.{Observation}
use Rattle.order_machine.specs.declared.observation.Observation.TheVariants as says
use Rattle.order_machine.specs.Machine.{Machine}
use Rattle.order_machine.specs.Legal.{IsWhole, moved}
use Rattle.replica_model.specs.declared.role.Role.{Role}
use Rattle.replica_model.specs.declared.role.Role.TheVariants.{Other, Primary}
use Rattle.replica_model.specs.declared.step.StepEvent.TheVariants as steps
use Rattle.replica.specs.Open.{Open}
use Rattle.replica_model.specs.Steps.{CallFits}
use Rattle.replica.specs.Step.{outcome}
use Rattle.world.specs.declared.error.WorldError.{WorldError}
use Rattle.world.specs.declared.error.WorldError.TheVariants as errors
use Rattle.world.specs.Kept.{Kept, has_booted}
use Rattle.world.specs.Standing.{standing, shut}
use Rattle.world.specs.declared.effects.EventEffects.{EventEffects}
use Rattle.world.specs.Steps.{no_effects, IsCutOff, HoldsSome}
use Rattle.world.specs.World.{StandsFor, Serves, IsOpen, Closed, AsRole, AsReplica, StillHolds}
use Rattle.world.proofs.Calls.AtReplica.{IsDone}
use Rattle.world.proofs.Calls.CommitSteps.{call_done}
use Rattle.world.proofs.Calls.Faults.{call_cut, call_short}
use Rattle.world.proofs.States.Later.{replica_of, ruled_of, as_replica, closed_of, closed_stands, ruled_on, ruled_still, Continues, continues_standing}
use Rattle.world.proofs.States.Logs.{sound_later, sound_txns}
use Rattle.world.proofs.States.HeldOrder.{stands_still}
use Rattle.world.proofs.Calls.Unserved.{down_serves}

-- At each state that the world stands for, these are all lines of the call, and it stands for the state behind them.
abbrev pub ServesCall : Kept → Kept → (Areas → Type 0) → (Areas → Type 0) → Call → List Observation → Type 0
ServesCall old new before now call lines = (m : Machine) → StandsFor old before m → IsWhole m (Client 0 call) lines × StandsFor new now (moved m (Client 0 call) lines) × StillHolds m now

-- after an event that left the order so long
abbrev pub kept : Kept → ℕ → Option Open → ℕ → Kept
kept k number replica order = record k { last = number; order = order; replica = replica }

-- ---- a booted world

stands_open : (k : Kept) (r : Open) (images : Areas → Type 0) (m : Machine) → has_booted k ≡ true → k.replica ≡ Some r → StandsFor k images m → AsReplica (Some r) k.last images m
stands_open k r images m booted there s = subst (λ o. AsReplica o k.last images m) there (replica_of k images m booted s)

pub client_done : (k : Kept) (number : ℕ) (r r' : Open) (call : Call) (before now : Areas → Type 0) (lines : List Observation) → has_booted k ≡ true → k.replica ≡ Some r → k.last < number → IsDone r r' call before now lines → ServesCall k (kept k number (Some r') (max k.order (outcome r (steps.Client call)).shown)) before now call lines
client_done k number r r' call before now lines booted there later d m s =
    let done = call_done k.last number r r' call before now lines m later (stands_open k r before m booted there s) d in
    let most : ℕ = (outcome r (steps.Client call)).shown in
    let new : Kept = kept k number (Some r') (max k.order most) in
    let n : Machine = moved m (Client 0 call) lines in
    (done.0, as_replica new now n booted done.1 (ruled_on k new m n most refl refl done.3 (ruled_of k before m booted s)), done.2)

pub client_cut : (k : Kept) (number : ℕ) (r : Open) (call : Call) (before now : Areas → Type 0) (effects : EventEffects) → has_booted k ≡ true → k.replica ≡ Some r → k.last < number → CallFits call → ((log : Log) → IsOpen r log before → IsCutOff r (steps.Client call) log (no_effects k.order) effects now) → ServesCall k (kept k number None effects.order) before now call (effects.lines ++ says.Fault 0 ∷ [])
client_cut k number r call before now effects booted there later fits cut m s =
    let done = call_cut k.last number r call before now k.order effects m later fits (stands_open k r before m booted there s) cut in
    let new : Kept = kept k number None effects.order in
    let n : Machine = moved m (Client 0 call) (effects.lines ++ says.Fault 0 ∷ []) in
    (done.0, as_replica new now n booted done.1 (ruled_on k new m n done.3.0 refl done.3.1 done.3.2 (ruled_of k before m booted s)), done.2)

-- also where the line of the fault found no memory
pub client_cut_still : (k : Kept) (number : ℕ) (r : Open) (call : Call) (before now : Areas → Type 0) (effects : EventEffects) → has_booted k ≡ true → k.replica ≡ Some r → k.last < number → CallFits call → ((log : Log) → IsOpen r log before → IsCutOff r (steps.Client call) log (no_effects k.order) effects now) → (m : Machine) → StandsFor k before m → StillHolds m now
client_cut_still k number r call before now effects booted there later fits cut m s =
    (call_cut k.last number r call before now k.order effects m later fits (stands_open k r before m booted there s) cut).2

pub client_short : (k : Kept) (r : Open) (call : Call) (before now : Areas → Type 0) → has_booted k ≡ true → k.replica ≡ Some r → CallFits call → ((log : Log) → IsOpen r log before → HoldsSome r (steps.Client call) log now) → (m : Machine) → StandsFor k before m → StillHolds m now
client_short k r call before now booted there fits some m s = call_short k.last r call before now m fits (stands_open k r before m booted there s) some

-- ---- a closed replica, and the time before the boot

pub client_down : (k : Kept) (number : ℕ) (call : Call) (images : Areas → Type 0) (lines : List Observation) → has_booted k ≡ true → k.replica ≡ None → k.last < number → lines ≡ says.Down 0 ∷ [] → ServesCall k (record k { last = number }) images images call lines
client_down k number call images lines booted none later is m s =
    let c = closed_of k images m booted none s in
    let shut_there = c.is_shut in
    let serves = down_serves c.entries shut_there.acknowledged shut_there.shown shut_there.txns shut_there.course call in
    let n : Machine = standing c.entries shut_there.acknowledged (shut shut_there.course shut_there.shown) shut_there.txns shut_there.course in
    let new : Kept = record k { last = number } in
    let then : Closed number images (moved n (Client 0 call) (says.Down 0 ∷ [])) = record {
      entries = c.entries;
      is_shut = record {
        acknowledged = shut_there.acknowledged;
        txns = serves.1.0;
        course = shut_there.course;
        shown = shut_there.shown;
        is = serves.1.1;
        ruled = shut_there.ruled;
        past = serves.1.2.0 shut_there.course c.entries shut_there.acknowledged shut_there.past;
      };
      sound = λ a held. let l = c.sound a held in (l.0, l.1, sound_later c.entries serves.1.0 shut_there.course k.last number l.0 (omega (arith, later)) (sound_txns c.entries shut_there.txns serves.1.0 shut_there.course k.last l.0 (serves.1.2.1 c.entries) l.2));
    } in
    let continues : Continues 0 n (moved n (Client 0 call) (says.Down 0 ∷ [])) = subst (Continues 0 n) (sym serves.1.1) (continues_standing c.entries shut_there.acknowledged shut_there.acknowledged (shut shut_there.course shut_there.shown) (shut shut_there.course shut_there.shown) shut_there.txns serves.1.0 shut_there.course 0 refl refl (omega arith)) in
    let P : Machine → Type 0 = λ at. IsWhole at (Client 0 call) (says.Down 0 ∷ []) × Closed number images (moved at (Client 0 call) (says.Down 0 ∷ [])) × Continues 0 at (moved at (Client 0 call) (says.Down 0 ∷ [])) in
    let all : P m = subst P (sym shut_there.is) (serves.0, then, continues) in
    let stands : StandsFor new images (moved m (Client 0 call) (says.Down 0 ∷ [])) = closed_stands new images (moved m (Client 0 call) (says.Down 0 ∷ [])) booted none all.1 (ruled_still k new m (moved m (Client 0 call) (says.Down 0 ∷ [])) refl refl all.2 (ruled_of k images m booted s)) in
    let Q : List Observation → Type 0 = λ ls. IsWhole m (Client 0 call) ls × StandsFor new images (moved m (Client 0 call) ls) × StillHolds m images in
    subst Q (sym is) (all.0, stands, stands_still k images m s)

-- ---- what the steps of a call need

role_there : (role : Role) (last : ℕ) (r : Open) (images : Areas → Type 0) (m : Machine) → AsRole role last r images m → ((log : Log) × IsOpen r log images) × ((r.last.0 ≤ 3 * last) × (r.front.begins ≤ last))
role_there Other last r images m s = ((s.log, s.is_open), (let l = s.is_open.agrees.last in let k = s.sound.short in omega (arith, l, k), s.few))
role_there (Primary epoch active) last r images m s = ((s.log, s.is_open), (let l = s.is_open.agrees.last in let k = s.short in omega (arith, l, k), s.few))

-- an open replica of a booted world, with its log
pub client_there : (k : Kept) (r : Open) (images : Areas → Type 0) (m : Machine) → has_booted k ≡ true → k.replica ≡ Some r → StandsFor k images m → ((log : Log) × IsOpen r log images) × ((r.last.0 ≤ 3 * k.last) × (r.front.begins ≤ k.last))
client_there k r images m booted there s = role_there r.role k.last r images m (stands_open k r images m booted there s)

-- ---- results

no_memory : (old new : Kept) (before now : Areas → Type 0) (call : Call) (e : WorldError) → ((m : Machine) → StandsFor old before m → StillHolds m now) → ◌≡◌ {A = Result (List Observation) WorldError} (Err e) (Err errors.NoMemory) → Serves old new before now (Client 0 call) (Err e)
no_memory old new before now call e still is =
    let none : e ≡ errors.NoMemory = cc in
    subst (λ x. Serves old new before now (Client 0 call) (Err x)) (sym none) still

pub client_result : (old new then : Kept) (before now : Areas → Type 0) (call : Call) (given : List Observation) (result : Result (List Observation) WorldError) → IfOk result (λ lines. lines ≡ given) → OnOk result (new ≡ then) → OnErr result (result ≡ Err errors.NoMemory) → ((m : Machine) → StandsFor old before m → StillHolds m now) → ServesCall old then before now call given → Serves old new before now (Client 0 call) result
client_result old new then before now call given (Ok lines) told kept_so memory still serves = subst (λ k. Serves old k before now (Client 0 call) (Ok lines)) (sym kept_so) (subst (λ ls. Serves old then before now (Client 0 call) (Ok ls)) (sym told) serves)
client_result old new then before now call given (Err e) told kept_so memory still serves = no_memory old new before now call e still memory
