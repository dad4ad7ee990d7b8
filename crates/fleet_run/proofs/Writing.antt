-- What a step writes: the records behind a log, and what they tell as stable.
use Rattle.std.proofs.Common.{◌≡◌, ◌∙◌, ℕ, zero, suc, ◌+◌, ◌-◌, ◌≤◌, true, false, Bool, cond, List, [], ◌∷◌, ◌++◌, map, drop, refl, sym, ap, subst, arith, Option, Some, None}
use Rattle.std.specs.Prelude.{All, ◌==◌}
use Rattle.std.specs.Option.{option_map_or}
use Rattle.std.proofs.lemmas.Bool.{true≢false}
use Rattle.std.proofs.lemmas.List.{append_assoc, append-nil}
use Rattle.rc_base.specs.declared.ids.Epoch.{Epoch}
use Rattle.rc_base.specs.declared.ids.Lsn.{Lsn}
use Rattle.rc_base.specs.declared.ids.TxnId.{TxnId}
use Rattle.rc_base.specs.Ids.{epoch_lt}
use Rattle.coll_model.specs.declared.op.Op.{Op}
use Rattle.events.specs.declared.call.Call.{Call}
use Rattle.events.specs.declared.call.Call.TheVariants as calls
use Rattle.events.specs.declared.answer.Reply.{Reply}
use Rattle.events.specs.Calls.{txn_named}
use Rattle.log_records.specs.declared.record.Record.{Record}
use Rattle.log_records.specs.declared.record.Record.TheVariants as records
use Rattle.log_records.specs.declared.record.Physical.TheVariants.{Logical}
use Rattle.txn_table.specs.Log.{Items}
use Rattle.txn_table.specs.Whole.{Whole, stable_of, stable_in, stable_told}
use Rattle.txn_front.specs.Front.{Going}
use Rattle.replica_model.specs.OpenReplica.{OpenReplica, last_lsn, is_active}
use Rattle.replica_model.specs.Records.{appended, placed, with_record, reply, begin_due, prev_of, logged_op, logged_call, logged_by, going_in}
use Rattle.fleet_laws.specs.Logs.{Entry, Record as Content}
use Rattle.fleet_laws.specs.Logs.Record.{EpochStart, Barrier, Other}
use Rattle.fleet_laws.specs.Fleets.{Fleet}
use Rattle.fleet_laws.specs.Choice.{IsChosen}
use Rattle.fleet_run.specs.Kernel.{IsCoded, code, content_of, entry_of}
use Rattle.fleet_run.specs.Sound.{IsItem, NamesEpoch}
use Rattle.fleet_run.proofs.Codes.{in_epoch}

-- ---- lists

pub all_none : {A : Type 0} (P : A → Type 0) → All P []
all_none P k d lt = absurd (omega (arith, lt))

pub all_more : {A : Type 0} (P : A → Type 0) (x : A) (xs : List A) → P x → All P xs → All P (x ∷ xs)
all_more P x xs a b zero d lt = a
all_more P x xs a b (suc k) d lt = b k d (omega (arith, lt))

pub all_first : {A : Type 0} (P : A → Type 0) (x : A) (xs : List A) → All P (x ∷ xs) → P x
all_first P x xs h = h 0 x (omega arith)

pub all_rest : {A : Type 0} (P : A → Type 0) (x : A) (xs : List A) → All P (x ∷ xs) → All P xs
all_rest P x xs h k d lt = h (suc k) d (omega (arith, lt))

pub all_both : {A : Type 0} (P : A → Type 0) (xs ys : List A) → All P xs → All P ys → All P (xs ++ ys)
all_both P [] ys a b = b
all_both P (x ∷ xs) ys a b = all_more P x (xs ++ ys) (all_first P x xs a) (all_both P xs ys (all_rest P x xs a) b)

-- ---- the disk behind a block

-- records of an epoch that isn't above the fence leave it
pub placed_are : (w : Whole) (last : ℕ) (e : Epoch) (bodies : List Record) → epoch_lt w.fence e ≡ false → appended w (placed last e bodies) ≡ record w { log = w.log ++ in_epoch e bodies }
placed_are w last e [] ge = ap (λ (log : Items). let x : Whole = record w { log = log } in x) (sym (append-nil w.log))
placed_are w last e (body ∷ bodies) ge =
    let next : Whole = record w { log = w.log ++ (e, body) ∷ [] } in
    let same : with_record w (Logical (record { 0 = last + 1 }) e body) ≡ next = ap (λ (b : Bool). let x : Whole = record w { log = w.log ++ (e, body) ∷ []; fence = cond b e w.fence } in x) ge in
    ap (λ (x : Whole). appended x (placed (last + 1) e bodies)) same
    ∙ placed_are next (last + 1) e bodies ge
    ∙ ap (λ (log : Items). let x : Whole = record w { log = log } in x) (append_assoc w.log ((e, body) ∷ []) (in_epoch e bodies))

-- ---- what a log tells as stable

stable_both : (xs ys : Items) (s : ℕ) → stable_in xs ≤ s → stable_in ys ≤ s → stable_in (xs ++ ys) ≤ s
stable_both [] ys s a b = b
stable_both (x ∷ xs) ys s a b = omega (arith, a, stable_both xs ys s (omega (arith, a)) b)

stable_dropped : (n : ℕ) (ys : Items) (s : ℕ) → stable_in ys ≤ s → stable_in (drop n ys) ≤ s
stable_dropped zero ys s h = h
stable_dropped (suc n) [] s h = h
stable_dropped (suc n) (y ∷ ys) s h = stable_dropped n ys s (omega (arith, h))

stable_behind : (n : ℕ) (xs ys : Items) (s : ℕ) → stable_in (drop n xs) ≤ s → stable_in ys ≤ s → stable_in (drop n (xs ++ ys)) ≤ s
stable_behind zero xs ys s a b = stable_both xs ys s a b
stable_behind (suc n) [] ys s a b = stable_dropped (suc n) ys s b
stable_behind (suc n) (x ∷ xs) ys s a b = stable_behind n xs ys s a b

-- with records that tell no more as stable than this, it tells no more than this
pub told_behind : (w : Whole) (fence : Epoch) (ys : Items) (s : ℕ) → stable_of w ≤ s → stable_in ys ≤ s → stable_of (record w { log = w.log ++ ys; fence = fence }) ≤ s
told_behind w fence ys s a b =
    let old : stable_in (drop (w.base - w.start.at.0) w.log) ≤ s = omega (arith, a) in
    let new : stable_in (drop (w.base - w.start.at.0) (w.log ++ ys)) ≤ s = stable_behind (w.base - w.start.at.0) w.log ys s old b in
    omega (arith, a, new)

-- ---- records that a primary logs

-- what a primary of e may log: no start of an epoch, and a Barrier only of what is chosen, and of no more than is stable
pub record IsFit (f : Fleet Record) (e s : ℕ) (body : Record) : Type 0 where
  pub unmarked : content_of body ≡ EpochStart → ⊥
  pub barriers : (k : ℕ) → content_of body ≡ Barrier k → IsChosen f e k
  pub told : stable_told body ≤ s
  pub names : (x : Epoch) → NamesEpoch x body

pub fit_stable : (f : Fleet Record) (e s : ℕ) (x : Epoch) (bodies : List Record) → All (IsFit f e s) bodies → stable_in (in_epoch x bodies) ≤ s
fit_stable f e s x [] fits = omega arith
fit_stable f e s x (body ∷ bodies) fits = omega (arith, (all_first (IsFit f e s) body bodies fits).told, fit_stable f e s x bodies (all_rest (IsFit f e s) body bodies fits))

pub fit_items : (f : Fleet Record) (e s : ℕ) (x : Epoch) (bodies : List Record) → IsCoded x → All (IsFit f e s) bodies → All IsItem (in_epoch x bodies)
fit_items f e s x [] coded fits = all_none IsItem
fit_items f e s x (body ∷ bodies) coded fits =
    all_more IsItem (x, body) (in_epoch x bodies) (record { coded = coded; names = (all_first (IsFit f e s) body bodies fits).names x }) (fit_items f e s x bodies coded (all_rest (IsFit f e s) body bodies fits))

pub fit_own : (x : Epoch) (bodies : List Record) → All (λ (y : Entry Record). y.epoch ≡ code x) (map entry_of (in_epoch x bodies))
fit_own x [] = all_none (λ (y : Entry Record). y.epoch ≡ code x)
fit_own x (body ∷ bodies) = all_more (λ (y : Entry Record). y.epoch ≡ code x) (entry_of (x, body)) (map entry_of (in_epoch x bodies)) refl (fit_own x bodies)

pub fit_unmarked : (f : Fleet Record) (e s : ℕ) (x : Epoch) (bodies : List Record) → All (IsFit f e s) bodies → All (λ (y : Entry Record). y.content ≡ EpochStart → ⊥) (map entry_of (in_epoch x bodies))
fit_unmarked f e s x [] fits = all_none (λ (y : Entry Record). y.content ≡ EpochStart → ⊥)
fit_unmarked f e s x (body ∷ bodies) fits =
    all_more (λ (y : Entry Record). y.content ≡ EpochStart → ⊥) (entry_of (x, body)) (map entry_of (in_epoch x bodies)) (all_first (IsFit f e s) body bodies fits).unmarked (fit_unmarked f e s x bodies (all_rest (IsFit f e s) body bodies fits))

pub fit_barriers : (f : Fleet Record) (e s : ℕ) (x : Epoch) (bodies : List Record) → All (IsFit f e s) bodies → All (λ (y : Entry Record). (k : ℕ) → y.content ≡ Barrier k → IsChosen f e k) (map entry_of (in_epoch x bodies))
fit_barriers f e s x [] fits = all_none (λ (y : Entry Record). (k : ℕ) → y.content ≡ Barrier k → IsChosen f e k)
fit_barriers f e s x (body ∷ bodies) fits =
    all_more (λ (y : Entry Record). (k : ℕ) → y.content ≡ Barrier k → IsChosen f e k) (entry_of (x, body)) (map entry_of (in_epoch x bodies)) (all_first (IsFit f e s) body bodies fits).barriers (fit_barriers f e s x bodies (all_rest (IsFit f e s) body bodies fits))

-- ---- kinds of records

is_start : {R : Type 0} → Content R → Bool
is_start EpochStart = true
is_start (Barrier k) = false
is_start (Other r) = false

is_barrier : {R : Type 0} → Content R → Bool
is_barrier EpochStart = false
is_barrier (Barrier k) = true
is_barrier (Other r) = false

pub begin_fits : (f : Fleet Record) (e s : ℕ) (t : TxnId) → IsFit f e s (records.Begin t)
unfolding is_start is_barrier
begin_fits f e s t = record { unmarked = λ is. true≢false (sym (ap is_start is)); barriers = λ k is. absurd (true≢false (sym (ap is_barrier is))); told = omega arith; names = λ x. tt }

pub operation_fits : (f : Fleet Record) (e s : ℕ) (t : TxnId) (prev : Lsn) (op : Op) → IsFit f e s (records.Operation t prev op)
unfolding is_start is_barrier
operation_fits f e s t prev op = record { unmarked = λ is. true≢false (sym (ap is_start is)); barriers = λ k is. absurd (true≢false (sym (ap is_barrier is))); told = omega arith; names = λ x. tt }

pub end_fits : (f : Fleet Record) (e s : ℕ) (t : TxnId) (prev : Lsn) (committed : Bool) → IsFit f e s (records.End t prev committed)
unfolding is_start is_barrier
end_fits f e s t prev committed = record { unmarked = λ is. true≢false (sym (ap is_start is)); barriers = λ k is. absurd (true≢false (sym (ap is_barrier is))); told = omega arith; names = λ x. tt }

barrier_place : {R : Type 0} → ℕ → Content R → ℕ
barrier_place s EpochStart = s
barrier_place s (Barrier k) = k
barrier_place s (Other r) = s

pub barrier_fits : (f : Fleet Record) (e s : ℕ) → IsChosen f e s → IsFit f e s (records.Barrier (record { 0 = s }))
unfolding is_start barrier_place
barrier_fits f e s chosen = record {
  unmarked = λ is. true≢false (sym (ap is_start is));
  barriers = λ k is. subst (λ (n : ℕ). IsChosen f e n) (ap (barrier_place s) is) chosen;
  told = omega arith;
  names = λ x. tt;
}

-- ---- what a call logs

due_fits : (f : Fleet Record) (e s : ℕ) (t : TxnId) (b : Bool) → All (IsFit f e s) (cond b (records.Begin t ∷ []) [])
due_fits f e s t true = all_more (IsFit f e s) (records.Begin t) [] (begin_fits f e s t) (all_none (IsFit f e s))
due_fits f e s t false = all_none (IsFit f e s)

op_fits : (f : Fleet Record) (e s : ℕ) (last : Lsn) (t : TxnId) (going : Going) (op : Option Op) → All (IsFit f e s) (logged_op last t going op)
op_fits f e s last t going None = all_none (IsFit f e s)
op_fits f e s last t going (Some op) =
    all_both (IsFit f e s) (begin_due t going) (records.Operation t (prev_of last going) op ∷ []) (due_fits f e s t (going.last.0 == 0))
    (all_more (IsFit f e s) (records.Operation t (prev_of last going) op) [] (operation_fits f e s t (prev_of last going) op) (all_none (IsFit f e s)))

abort_fits : (f : Fleet Record) (e s : ℕ) (t : TxnId) (going : Going) (b : Bool) → All (IsFit f e s) (cond b [] (records.End t going.last false ∷ []))
abort_fits f e s t going true = all_none (IsFit f e s)
abort_fits f e s t going false = all_more (IsFit f e s) (records.End t going.last false) [] (end_fits f e s t going.last false) (all_none (IsFit f e s))

call_fits : (f : Fleet Record) (e s : ℕ) (last : Lsn) (t : TxnId) (going : Going) (call : Call) (told : Option Reply) → All (IsFit f e s) (logged_call last t going call told)
call_fits f e s last t going calls.Begin told = op_fits f e s last t going _
call_fits f e s last t going (calls.Make u name kind) told = op_fits f e s last t going _
call_fits f e s last t going (calls.OnKey u name key call) told = op_fits f e s last t going _
call_fits f e s last t going (calls.Commit u) told =
    all_both (IsFit f e s) (begin_due t going) (records.End t (prev_of last going) true ∷ []) (due_fits f e s t (going.last.0 == 0))
    (all_more (IsFit f e s) (records.End t (prev_of last going) true) [] (end_fits f e s t (prev_of last going) true) (all_none (IsFit f e s)))
call_fits f e s last t going (calls.Abort u) told = abort_fits f e s t going (going.last.0 == 0)

going_fits : (f : Fleet Record) (e s : ℕ) (last : Lsn) (t : TxnId) (call : Call) (told : Option Reply) (x : Option Going) → All (IsFit f e s) (option_map_or (λ going. logged_call last t going call told) x [])
going_fits f e s last t call told None = all_none (IsFit f e s)
going_fits f e s last t call told (Some going) = call_fits f e s last t going call told

named_fits : (f : Fleet Record) (e s : ℕ) (o : OpenReplica) (call : Call) (t : Option TxnId) → All (IsFit f e s) (option_map_or (λ t. option_map_or (λ going. logged_call (last_lsn o) t going call (reply o call)) (going_in o t) []) t [])
named_fits f e s o call None = all_none (IsFit f e s)
named_fits f e s o call (Some t) = going_fits f e s (last_lsn o) t call (reply o call) (going_in o t)

-- whatever a client calls
pub calls_fit : (f : Fleet Record) (e s : ℕ) (o : OpenReplica) (call : Call) → All (IsFit f e s) (logged_by o call)
calls_fit f e s o call = named_fits f e s o call (txn_named call)

-- at a replica that isn't an active primary, no call logs anything
idle_named : (o : OpenReplica) (call : Call) (t : Option TxnId) → is_active o ≡ false → option_map_or (λ t. option_map_or (λ going. logged_call (last_lsn o) t going call (reply o call)) (going_in o t) []) t [] ≡ []
idle_named o call None waits = refl
idle_named o call (Some t) waits = rw (waits) refl

pub idle_logs : (o : OpenReplica) (call : Call) → is_active o ≡ false → logged_by o call ≡ []
idle_logs o call waits = idle_named o call (txn_named call) waits
