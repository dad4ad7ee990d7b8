-- What a step of a replica keeps, and when a Barrier may follow it.
use Rattle.std.proofs.Common.{◌≡◌, ◌∙◌, sym, ap, subst, refl, ℕ, zero, suc, ◌+◌, ◌≤◌, max, List, ◌++◌, length, append-nil, Bool, true, false, not, ◌&&◌, ◌||◌, cond, Option, Some, None, Result, Err, Ok, arith, inl, inr, ⊎_elim}
use Rattle.std.specs.Option.{option_map_or}
use Rattle.std.proofs.lemmas.Bool.{false≢true}
use Rattle.std.proofs.Math.Bool.{or-false}
use Rattle.rc_base.specs.Counts.{Counted}
use Rattle.rc_base.specs.declared.ids.Epoch.{Epoch}
use Rattle.rc_base.specs.Ids.{no_epoch, epoch_lt}
use Rattle.disk_model.specs.Disk.{Areas}
use Rattle.log_store.specs.declared.kept.Kept.{Kept as Log}
use Rattle.log_store.specs.Durable.{durable, StandForOneOf}
use Rattle.txn_table.specs.Epochs.{later}
use Rattle.log_store.specs.Growth.{after}
use Rattle.events.specs.declared.call.Call.{Call}
use Rattle.events.specs.declared.call.Call.TheVariants.{Begin, Make, OnKey, Commit, Abort}
use Rattle.order_machine.specs.declared.observation.Observation.{Observation}
use Rattle.txn_front.specs.Front.{Fronted, Going, going_of, nothing, AreAlike}
use Rattle.txn_front.proofs.Fronts.{AreAlike-trans}
use Rattle.replica_model.specs.declared.role.Role.TheVariants.{Other}
use Rattle.replica_model.specs.declared.step.StepEvent.{StepEvent}
use Rattle.replica_model.specs.declared.step.StepEvent.TheVariants as steps
use Rattle.replica.specs.Open.{Open, AreSame, AgreesWith}
use Rattle.replica.specs.Step.{MayStep, stepped, block, answered, logged_by, lengthened, is_active, outcome}
use Rattle.world.specs.declared.effects.EventEffects.{EventEffects}
use Rattle.world.specs.Steps.{effects_after, is_due, told_by, finished, log_once, log_twice, IsCutOff, HoldsSome}
use Rattle.world.specs.World.{IsOpen}
use Rattle.replica.proofs.Lengthened.{steps_to, logged_few}
use Rattle.world.proofs.Calls.AtReplica.{longer}
use Rattle.world.proofs.Calls.Faults.{call_shows, due_active as due_call}
use Rattle.world.proofs.Calls.Steps.{committed_open, quiet_lines}

-- ---- its number stays

lengthened_id : (n : ℕ) (epoch : Epoch) (r : Open) → (lengthened n epoch r).id ≡ r.id
lengthened_id zero epoch r = refl
lengthened_id (suc n) epoch r = refl

answered_id : (r : Open) (n : ℕ) (call : Call) → (answered n call r).id ≡ r.id
answered_id r n Begin = lengthened_id n r.epoch r
answered_id r n (Make t name kind) = lengthened_id n r.epoch r
answered_id r n (OnKey t name key asked) = lengthened_id n r.epoch r
answered_id r n (Commit t) = by (going_of r.front t)
  where
    by : (o : Option Going) → (option_map_or (λ g. committed_open n t g r) o r).id ≡ r.id
    by None = refl
    by (Some g) = lengthened_id n r.epoch r
answered_id r n (Abort t) = lengthened_id n r.epoch r

either_id : (b : Bool) (x y r : Open) → x.id ≡ r.id → y.id ≡ r.id → (cond b x y).id ≡ r.id
either_id true x y r p q = p
either_id false x y r p q = q

pub stepped_id : (r : Open) (event : StepEvent) → (stepped r event).id ≡ r.id
stepped_id r (steps.Client call) = either_id (is_active r.role) (answered (length (logged_by r call)) call r) r r (answered_id r (length (logged_by r call)) call) refl
stepped_id r (steps.Survey epoch) = either_id (epoch_lt epoch r.fence) r (record r { fence = later r.fence epoch; role = Other; front = nothing no_epoch }) r refl refl
stepped_id r (steps.Appoint a) = refl
stepped_id r (steps.Activate epoch) = refl
stepped_id r steps.Barrier = refl
stepped_id r steps.Inspect = refl

-- ---- a Barrier follows a step of a primary that is active then

pub due_active : (r : Open) (event : StepEvent) → is_due r event ≡ true → is_active (stepped r event).role ≡ true
due_active r (steps.Client call) due = due_call r call due
due_active r (steps.Survey epoch) due = absurd (false≢true due)
due_active r (steps.Appoint a) due = refl
due_active r (steps.Activate epoch) due = absurd (false≢true due)
due_active r steps.Barrier due = absurd (false≢true due)
due_active r steps.Inspect due = absurd (false≢true due)

-- ---- the second step

-- what a Barrier logs isn't told by how the log is kept, nor by what goes on
pub barrier_block : (s o : Open) → AreSame o (record s { log = o.log }) → block o steps.Barrier ≡ block s steps.Barrier
barrier_block s o e = ap (λ (x : Open). block x steps.Barrier) e.same

-- the replica behind both steps
pub same_twice : (r o p : Open) (event : StepEvent) → AreSame o (record (stepped r event) { log = o.log }) → AreSame p (record (stepped o steps.Barrier) { log = p.log }) → AreSame p (record (stepped (stepped r event) steps.Barrier) { log = p.log })
same_twice r o p event first second = record {
  same = second.same ∙ ap (λ (x : Open). record (stepped x steps.Barrier) { log = p.log; front = p.front }) first.same;
  front = AreAlike-trans p.front o.front (stepped r event).front second.front first.front;
}

-- behind one step where no Barrier is due, and behind both where one is
pub finished_once : (r o : Open) (event : StepEvent) → is_due r event ≡ false → AreSame o (record (stepped r event) { log = o.log }) → AreSame o (record (finished r event) { log = o.log })
finished_once r o event due a = subst (λ (x : Open). AreSame o (record x { log = o.log })) (sym (ap (λ b. cond b (stepped (stepped r event) steps.Barrier) (stepped r event)) due)) a

pub finished_twice : (r o p : Open) (event : StepEvent) → is_due r event ≡ true → AreSame o (record (stepped r event) { log = o.log }) → AreSame p (record (stepped o steps.Barrier) { log = p.log }) → AreSame p (record (finished r event) { log = p.log })
finished_twice r o p event due first second =
    subst (λ (x : Open). AreSame p (record x { log = p.log })) (sym (ap (λ b. cond b (stepped (stepped r event) steps.Barrier) (stepped r event)) due)) (same_twice r o p event first second)

-- The disk failed in the second step.
pub cut_second : (r o : Open) (event : StepEvent) (log : Log) (old once new : EventEffects) (images : Areas → Type 0) → is_due r event ≡ true → AreSame o (record (stepped r event) { log = o.log }) → once ≡ effects_after old r event → new ≡ once → StandForOneOf (log_once r event log) (log_once o steps.Barrier (log_once r event log)) images → IsCutOff r event log old new images
cut_second r o event log old once new images due kept told untold stands =
    inr (due, untold ∙ told, subst (λ bs. StandForOneOf (log_once r event log) (after (log_once r event log) bs) images) (barrier_block (stepped r event) o kept) stands)

stays_active : (b c : Bool) → (c || (b && not b)) ≡ c
stays_active true c = or-false c
stays_active false c = or-false c

-- a Barrier has no effects, once what the replica shows is in the order
pub barrier_effects : (d : EventEffects) (o : Open) → o.shown ≤ d.order → effects_after d o steps.Barrier ≡ d
barrier_effects d o low =
    let order : max d.order o.shown ≡ d.order = grind (arith, low) in
    let lines : d.lines ++ told_by o steps.Barrier ≡ d.lines = ap (λ ls. d.lines ++ ls) (quiet_lines o None) ∙ append-nil d.lines in
    ap (λ (n : ℕ). record (effects_after d o steps.Barrier) { order = n }) order
    ∙ (ap (λ (b : Bool). record (effects_after d o steps.Barrier) { order = d.order; active = b }) (stays_active (is_active o.role) d.active)
    ∙ ap (λ (ls : List Observation). record d { lines = ls }) lines)

-- where a Barrier is due the replica shows what it tells
pub due_shows : (r : Open) (event : StepEvent) → is_due r event ≡ true → (outcome r event).shown ≡ (stepped r event).shown
due_shows r (steps.Client call) due = call_shows r call due
due_shows r (steps.Survey epoch) due = absurd (false≢true due)
due_shows r (steps.Appoint a) due = refl
due_shows r (steps.Activate epoch) due = absurd (false≢true due)
due_shows r steps.Barrier due = absurd (false≢true due)
due_shows r steps.Inspect due = absurd (false≢true due)

-- what both steps do, where the second is a Barrier
pub effects_twice : (r o : Open) (event : StepEvent) (old once : EventEffects) → AreSame o (record (stepped r event) { log = o.log }) → once ≡ effects_after old r event → (outcome r event).shown ≡ (stepped r event).shown → effects_after once o steps.Barrier ≡ effects_after old r event
effects_twice r o event old once kept told shows =
    let now = ap (λ (x : Open). x.shown) kept.same in
    let all = ap (λ (d : EventEffects). d.order) told in
    let low : o.shown ≤ once.order = grind (arith, now, all, shows) in
    barrier_effects once o low ∙ told

-- a fault in the second step, counted from the first
pub counted_second : {T : Type 0} {S : Type 0} (before once now : ℕ) → before ≤ once → Counted once now S → (T → S) → Counted before now T
counted_second before once now first second same = record { later = let l = second.later in omega arith; rose = λ t. let r = second.rose (same t) in omega arith }

-- the error of a step is handed on
pub handed_on : {T U E : Type 0} (r : Result T E) (e d : E) → (y : E) × (r ≡ Err y) × (y ≡ e) → r ≡ Err d → ◌≡◌ {A = Result U E} (Err e) (Err d)
handed_on r e d y is = let same = sym y.1 ∙ is in let these : y.0 ≡ d = cc in ap Err (sym y.2 ∙ these)

-- where both steps were taken, or the second failed
pub holds_second : (r o : Open) (event : StepEvent) (log : Log) (images : Areas → Type 0) → is_due r event ≡ true → AreSame o (record (stepped r event) { log = o.log }) → StandForOneOf (log_once r event log) (log_once o steps.Barrier (log_once r event log)) images → HoldsSome r event log images
holds_second r o event log images due kept stands = λ c is. ⊎_elim (λ once. inr (inl once)) (λ twice. inr (inr (due, subst (λ bs. durable c ≡ Ok (after (log_once r event log) bs)) (barrier_block (stepped r event) o kept) twice))) (stands c is)

pub stands_second : (r o p : Open) (event : StepEvent) (log : Log) (images : Areas → Type 0) → AreSame o (record (stepped r event) { log = o.log }) → IsOpen p (log_once o steps.Barrier (log_once r event log)) images → IsOpen p (log_twice r event log) images
stands_second r o p event log images kept stands = subst (λ bs. IsOpen p (after (log_once r event log) bs) images) (barrier_block (stepped r event) o kept) stands

-- ---- what a step adds

-- at most two records
pub last_few : (r : Open) (event : StepEvent) (log : Log) → AgreesWith r log → MayStep r event → (stepped r event).last.0 ≤ r.last.0 + 2
last_few r event log agrees may =
    let now = (steps_to r log event agrees may).agrees.last in
    let more = longer r event log in
    let few = logged_few r event in
    let was = agrees.last in
    omega (arith, now, more, few, was)

-- at most one transaction begins
pub alike_begins : (a b : Fronted) → AreAlike a b → a.begins ≡ b.begins
alike_begins a b alike = ap (λ (f : Fronted). f.begins) alike.same
