-- How many faults the lines of an event tell.
use Rattle.std.proofs.Common.{◌≡◌, ◌∙◌, ap, ℕ, suc, ◌+◌, ◌≤◌, Bool, true, false, cond, not, ◌&&◌, nat_lt, List, [], ◌∷◌, ◌++◌, map, Option, Some, None, Result, Ok, Err, IfOk, refl, arith, inl, inr, ◌==◌}
use Rattle.std.specs.List.{cons_option}
use Rattle.std.proofs.lemmas.Bool.Decides.{nat_tests}
use Rattle.rc_base.specs.Counts.{Rose}
use Rattle.rc_base.specs.declared.ids.TxnId.{TxnId}
use Rattle.disk_model.specs.Disk.{Areas}
use Rattle.log_store.specs.declared.kept.Kept.{Kept as Log}
use Rattle.txn_table.specs.declared.committed.Committed.{Committed}
use Rattle.events.specs.declared.call.Call.{Call}
use Rattle.order_machine.specs.declared.observation.Observation.{Observation}
use Rattle.order_machine.specs.declared.observation.Observation.TheVariants as says
use Rattle.replica_model.specs.declared.step.StepEvent.TheVariants as steps
use Rattle.replica.specs.Open.{Open}
use Rattle.replica.specs.Step.{is_active, outcome}
use Rattle.world.specs.declared.error.WorldError.{WorldError}
use Rattle.world.specs.Fleet.{faults_in, fault_lines, is_fault_of, RoseBy, TellsZero}
use Rattle.world.specs.declared.effects.EventEffects.{EventEffects}
use Rattle.world.specs.Steps.{told_by, order_line, cons_if, no_effects, IsCutOff}
use Rattle.order_machine.specs.AnswerLines.{line_of_answer}
use Rattle.std.specs.Prelude.{option_map}
use Rattle.events.specs.declared.answer.Answer.TheVariants as answers
use Rattle.events.specs.declared.answer.Answer.{Answer}

-- ---- lists of lines

one_more : (b : Bool) (n m k : ℕ) → n ≡ m + k → cond b (n + 1) n ≡ cond b (m + 1) m + k
one_more true n m k e = omega (arith, e)
one_more false n m k e = e

pub faults_append : (r : ℕ) (xs ys : List Observation) → faults_in r (xs ++ ys) ≡ faults_in r xs + faults_in r ys
faults_append r [] ys = omega arith
faults_append r (o ∷ os) ys = one_more (is_fault_of r o) (faults_in r (os ++ ys)) (faults_in r os) (faults_in r ys) (faults_append r os ys)

-- the line of an answer tells no fault
pub answer_faultless : (r : ℕ) (told : Answer) → faults_in r (line_of_answer told ∷ []) ≡ 0
answer_faultless r (answers.Txn t) = refl
answer_faultless r answers.Done = refl
answer_faultless r answers.True = refl
answer_faultless r answers.False = refl
answer_faultless r (answers.Value value) = refl
answer_faultless r answers.Missing = refl
answer_faultless r answers.Absent = refl
answer_faultless r answers.WrongKind = refl
answer_faultless r (answers.Ended t) = refl
answer_faultless r (answers.Locked t) = refl
answer_faultless r (answers.NotActive q) = refl
answer_faultless r (answers.Down q) = refl
answer_faultless r (answers.Refused part) = refl
answer_faultless r (answers.Progress q e last) = refl
answer_faultless r answers.IgnoredUp = refl
answer_faultless r (answers.IgnoredOldEpoch fence e) = refl

orders_faultless : (r : ℕ) (cs : List Committed) → faults_in r (map order_line cs) ≡ 0
orders_faultless r [] = refl
orders_faultless r (c ∷ cs) = orders_faultless r cs

committed_faultless : (r : ℕ) (ts : List TxnId) → faults_in r (map says.Committed ts) ≡ 0
committed_faultless r [] = refl
committed_faultless r (t ∷ ts) = committed_faultless r ts

view_faultless : (r id n : ℕ) (b : Bool) → faults_in r (cons_if b (says.View id n)) ≡ 0
view_faultless r id n true = refl
view_faultless r id n false = refl

active_faultless : (r id : ℕ) (b : Bool) → faults_in r (cons_if b (says.Active id)) ≡ 0
active_faultless r id true = refl
active_faultless r id false = refl

-- ---- the lines of a call

answered_part : (q : ℕ) (o : Option Answer) → faults_in q (cons_option (option_map line_of_answer o) []) ≡ 0
answered_part q None = refl
answered_part q (Some told) = answer_faultless q told

none_append : (q : ℕ) (xs ys : List Observation) → faults_in q xs ≡ 0 → faults_in q ys ≡ 0 → faults_in q (xs ++ ys) ≡ 0
none_append q xs ys a b = let e = faults_append q xs ys in omega (arith, e, a, b)

pub told_faultless : (q : ℕ) (r : Open) (call : Call) → faults_in q (told_by r (steps.Client call)) ≡ 0
told_faultless q r call =
    let out = outcome r (steps.Client call) in
    let z1 = orders_faultless q out.commits in
    let z2 = view_faultless q r.id out.shown (nat_lt r.shown out.shown) in
    let z3 = active_faultless q r.id (out.active && not (is_active r.role)) in
    let z4 = committed_faultless q out.acknowledged in
    let z5 = answered_part q out.answer in
    let view = cons_if (nat_lt r.shown out.shown) (says.View r.id out.shown) in
    let active = cons_if (out.active && not (is_active r.role)) (says.Active r.id) in
    let acked = map says.Committed out.acknowledged in
    let last = cons_option (option_map line_of_answer out.answer) [] in
    let orders = map order_line out.commits in
    none_append q (((orders ++ view) ++ active) ++ acked) last (none_append q ((orders ++ view) ++ active) acked (none_append q (orders ++ view) active (none_append q orders view z1 z2) z3) z4) z5

-- ---- a count that rose

pub rose_none : (before now : ℕ) → before ≤ now → (n : ℕ) → n ≡ 0 → RoseBy n before now
rose_none before now later n e = record { later = later; by = omega (arith, later, e) }

pub rose_one : (before now : ℕ) → before ≤ now → Rose before now → (n : ℕ) → n ≡ 1 → RoseBy n before now
rose_one before now later rose n e = record { later = later; by = rw e rose }

-- the lines of a call that the disk cut off, and the line that says so
pub faulted_rise : (r : Open) (call : Call) (log : Log) (order : ℕ) (effects : EventEffects) (images : Areas → Type 0) (before now : ℕ) (result : Result (List Observation) WorldError) → IsCutOff r (steps.Client call) log (no_effects order) effects images → before ≤ now → Rose before now → IfOk result (λ given. given ≡ effects.lines ++ says.Fault 0 ∷ []) → RoseBy (fault_lines 0 result) before now
faulted_rise r call log order effects images before now (Ok given) (inl first) later rose is = rose_one before now later rose (faults_in 0 given) (ap (faults_in 0) (is ∙ ap (λ (done : EventEffects). done.lines ++ says.Fault 0 ∷ []) first.0))
faulted_rise r call log order effects images before now (Ok given) (inr second) later rose is =
    let a = faults_append 0 (told_by r (steps.Client call)) (says.Fault 0 ∷ []) in
    let z = told_faultless 0 r call in
    let n : faults_in 0 given ≡ 1 = ap (faults_in 0) (is ∙ ap (λ (done : EventEffects). done.lines ++ says.Fault 0 ∷ []) second.1) ∙ omega (arith, a, z) in
    rose_one before now later rose (faults_in 0 given) n
faulted_rise r call log order effects images before now (Err e) cut later rose is = rose_none before now later 0 refl

not_first : (q : ℕ) → (0 == suc q) ≡ false
not_first q = by_bool (0 == suc q) refl
  where
    by_bool : (b : Bool) → (0 == suc q) ≡ b → (0 == suc q) ≡ false
    by_bool false e = e
    by_bool true e = absurd (grind (arith, nat_tests, e))

-- a fault of replica 0 is none of another
pub fault_first : (q : ℕ) → faults_in (suc q) (says.Fault 0 ∷ []) ≡ 0
fault_first q = ap (λ b. cond b 1 0) (not_first q)

-- such lines tell no fault of another replica
pub others_told : (r : Open) (call : Call) → TellsZero (told_by r (steps.Client call))
others_told r call q = told_faultless (suc q) r call

pub others_cut : (r : Open) (call : Call) (log : Log) (order : ℕ) (effects : EventEffects) (images : Areas → Type 0) (result : Result (List Observation) WorldError) → IsCutOff r (steps.Client call) log (no_effects order) effects images → IfOk result (λ given. given ≡ effects.lines ++ says.Fault 0 ∷ []) → IfOk result TellsZero
others_cut r call log order effects images (Ok given) (inl first) is = λ q. ap (faults_in (suc q)) (is ∙ ap (λ (done : EventEffects). done.lines ++ says.Fault 0 ∷ []) first.0) ∙ fault_first q
others_cut r call log order effects images (Ok given) (inr second) is = λ q.
    let a = faults_append (suc q) (told_by r (steps.Client call)) (says.Fault 0 ∷ []) in
    let z = told_faultless (suc q) r call in
    let f = fault_first q in
    ap (faults_in (suc q)) (is ∙ ap (λ (done : EventEffects). done.lines ++ says.Fault 0 ∷ []) second.1) ∙ omega (arith, a, z, f)
others_cut r call log order effects images (Err e) cut is = tt

pub rows_faultless : (q : ℕ) (rows : List (List (List ℕ))) → faults_in q (map says.Rows rows) ≡ 0
rows_faultless q [] = refl
rows_faultless q (row ∷ rows) = rows_faultless q rows

pub others_rows : (replica k : ℕ) (rows : List (List (List ℕ))) (lines : List Observation) → lines ≡ says.State replica k ∷ map says.Rows rows → TellsZero lines
others_rows replica k rows lines is q = ap (faults_in (suc q)) is ∙ rows_faultless (suc q) rows
