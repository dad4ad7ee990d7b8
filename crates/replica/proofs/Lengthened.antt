-- What a step makes of the log and of the replica. Cited by the crates above.
use Rattle.std.proofs.Common.{◌≡◌, ℕ, zero, suc, ◌+◌, ◌≤◌, ◌==◌, Bool, true, false, cond, List, [], ◌∷◌, ◌++◌, length, take, drop, map, Option, Some, None, refl, sym, ap, subst, ◌∙◌, append_assoc, arith}
use Rattle.std.specs.Option.{option_map_or, option_and_then}
use Rattle.std.proofs.lemmas.List.{append-nil, length-append, take-append-le, take-append-drop}
use Rattle.std.proofs.lemmas.Option.{none-some}
use Rattle.std.specs.Ordering.{nat_cmp}
use Rattle.std.specs.Map.{remove_entry}
use Rattle.std.specs.BTreeMap.{is_at}
use Rattle.key_locks.specs.Grants.{released}
use Rattle.rc_base.specs.declared.ids.Epoch.{Epoch}
use Rattle.rc_base.specs.declared.ids.Lsn.{Lsn}
use Rattle.rc_base.specs.declared.ids.TxnId.{TxnId}
use Rattle.rc_base.specs.Ids.{epoch_lt, no_epoch}
use Rattle.rc_base.proofs.EpochOrder.{epoch_le_not, epoch_lt_le}
use Rattle.coll_model.specs.declared.op.Op.{Op}
use Rattle.coll_model.specs.Effect.{State, folded}
use Rattle.events.specs.declared.call.Call.{Call}
use Rattle.events.specs.declared.call.Call.TheVariants as calls
use Rattle.events.specs.declared.answer.Reply.{Reply}
use Rattle.events.specs.Locking.{locks_at, taken}
use Rattle.events.specs.Calls.{txn_named}
use Rattle.events.specs.Answers.{live_reply}
use Rattle.log_records.specs.declared.record.Record.{Record}
use Rattle.log_records.specs.declared.record.Record.TheVariants.{Begin, Operation, End, Barrier, EpochStart}
use Rattle.log_records.specs.declared.record.Physical.TheVariants.{Logical, Fence}
use Rattle.txn_table.specs.declared.committed.Committed.{Committed}
use Rattle.txn_table.specs.Log.{Items, commits_in}
use Rattle.txn_front.specs.Front as front
use Rattle.txn_front.specs.Front.{Fronted, Going, going_of, begun, operated, nothing}
use Rattle.log_store.specs.declared.kept.Kept.{Kept}
use Rattle.txn_table.specs.Epochs.{later}
use Rattle.log_store.specs.Growth.{after_one, after}
use Rattle.replica_model.specs.declared.role.Role.TheVariants.{Other}
use Rattle.replica_model.specs.declared.step.StepEvent.{StepEvent}
use Rattle.replica_model.specs.declared.step.StepEvent.TheVariants as steps
use Rattle.replica.specs.Open.{Open, shown_in, AgreesWith}
use Rattle.txn_table.specs.Whole.{stable_told, stable_in}
use Rattle.replica_model.specs.Records.{begin_due, prev_of, logged_op, logged_call, placed}
use Rattle.replica_model.specs.Steps.{noted}
use Rattle.replica.specs.Step.{is_active, reply, logged_by, logged, going_in, epoch_in, block, behind, lengthened, answered, surveyed, stepped, committed_by, MayStep}
use Rattle.replica.proofs.OneMore.{stable_push, commits_more}
use Rattle.replica.proofs.OneRecord.{barrier_grows, epoch_starts}
use Rattle.txn_front.proofs.Fronts.{IsOver-nothing}
use Rattle.replica.proofs.Calls.{StepsTo, rests, alone, call_steps}

-- ---- commits of a log

-- what a front of a log commits is a front of what it commits
pub commits_prefix : (n : ℕ) (log : Items) → (more : List Committed) × (commits_in (take n log) ++ more ≡ commits_in log)
commits_prefix n log =
    let rest = commits_more (take n log) (drop n log) in
    (rest.0, rest.1 ∙ ap commits_in (take-append-drop n log))

-- ---- the records behind a step

records_placed : (v : Kept) (last : ℕ) (epoch : Epoch) (bodies : List Record) → (after v (placed last epoch bodies)).records ≡ v.records ++ map (λ body. (epoch, body)) bodies
records_placed v last epoch [] = sym (append-nil v.records)
records_placed v last epoch (body ∷ bodies) =
    records_placed (after_one v (Logical (record { 0 = last + 1 }) epoch body)) (last + 1) epoch bodies
    ∙ append_assoc v.records ((epoch, body) ∷ []) (map (λ b. (epoch, b)) bodies)

-- a survey leaves the records
pub records_surveyed : (v : Kept) (r : Open) (epoch : Epoch) → (after v (block r (steps.Survey epoch))).records ≡ v.records
records_surveyed v r epoch = elim (epoch_lt r.fence epoch) as (λ b. (after v (cond b (Fence epoch ∷ []) [] ++ [])).records ≡ v.records) [ true ↦ refl | false ↦ refl ]

pub records_after : (v : Kept) (r : Open) (event : StepEvent) → (after v (block r event)).records ≡ v.records ++ map (λ body. (epoch_in r event, body)) (logged r event)
records_after v r (steps.Client call) = records_placed v r.last.0 r.epoch (logged_by r call)
records_after v r (steps.Survey epoch) = records_surveyed v r epoch ∙ sym (append-nil v.records)
records_after v r (steps.Appoint a) = records_placed v r.last.0 a.epoch (EpochStart a.epoch ∷ [])
records_after v r (steps.Activate epoch) = sym (append-nil v.records)
records_after v r steps.Barrier = records_placed v r.last.0 r.epoch (Barrier r.stable ∷ [])
records_after v r steps.Inspect = sym (append-nil v.records)

identity_placed : (v : Kept) (last : ℕ) (epoch : Epoch) (bodies : List Record) → (after v (placed last epoch bodies)).identity ≡ v.identity
identity_placed v last epoch [] = refl
identity_placed v last epoch (body ∷ bodies) = identity_placed (after_one v (Logical (record { 0 = last + 1 }) epoch body)) (last + 1) epoch bodies

pub identity_after : (v : Kept) (r : Open) (event : StepEvent) → (after v (block r event)).identity ≡ v.identity
identity_after v r (steps.Client call) = identity_placed v r.last.0 r.epoch (logged_by r call)
identity_after v r (steps.Survey epoch) = elim (epoch_lt r.fence epoch) as (λ b. (after v (cond b (Fence epoch ∷ []) [] ++ [])).identity ≡ v.identity) [ true ↦ refl | false ↦ refl ]
identity_after v r (steps.Appoint a) = identity_placed v r.last.0 a.epoch (EpochStart a.epoch ∷ [])
identity_after v r (steps.Activate epoch) = refl
identity_after v r steps.Barrier = identity_placed v r.last.0 r.epoch (Barrier r.stable ∷ [])
identity_after v r steps.Inspect = refl

due_few : (t : TxnId) (going : Going) → length (begin_due t going) ≤ 1
due_few t going = elim (going.last.0 == 0) as (λ b. length (cond b (Begin t ∷ []) []) ≤ 1) [ true ↦ omega arith | false ↦ omega arith ]

op_few : (last : Lsn) (t : TxnId) (going : Going) (op : Option Op) → length (logged_op last t going op) ≤ 2
op_few last t going None = omega arith
op_few last t going (Some op) = omega (arith, length-append (begin_due t going) (Operation t (prev_of last going) op ∷ []), due_few t going)

commit_few : (last : Lsn) (t : TxnId) (going : Going) → length (begin_due t going ++ End t (prev_of last going) true ∷ []) ≤ 2
commit_few last t going = omega (arith, length-append (begin_due t going) (End t (prev_of last going) true ∷ []), due_few t going)

call_few : (last : Lsn) (t : TxnId) (going : Going) (call : Call) (told : Option Reply) → length (logged_call last t going call told) ≤ 2
call_few last t going calls.Begin told = op_few last t going (option_and_then (λ reply. reply.op) told)
call_few last t going (calls.Make u name kind) told = op_few last t going (option_and_then (λ reply. reply.op) told)
call_few last t going (calls.OnKey u name key asked) told = op_few last t going (option_and_then (λ reply. reply.op) told)
call_few last t going (calls.Commit u) told = commit_few last t going
call_few last t going (calls.Abort u) told = elim (going.last.0 == 0) as (λ b. length (cond b [] (End t going.last false ∷ [])) ≤ 2) [ true ↦ omega arith | false ↦ omega arith ]

-- what holds of no records and of those of each call
pub by_call : (P : List Record → Type 0) (r : Open) (call : Call) → P [] → ((t : TxnId) (going : Going) → P (logged_call r.last t going call (reply r call))) → P (logged_by r call)
by_call P r call none some = by (txn_named call)
  where
    goes : (t : TxnId) (o : Option Going) → P (option_map_or (λ going. logged_call r.last t going call (reply r call)) o [])
    goes t None = none
    goes t (Some going) = some t going

    by : (o : Option TxnId) → P (option_map_or (λ t. option_map_or (λ going. logged_call r.last t going call (reply r call)) (going_in r t) []) o [])
    by None = none
    by (Some t) = goes t (going_in r t)

-- a step logs at most two records
pub logged_few : (r : Open) (event : StepEvent) → length (logged r event) ≤ 2
logged_few r (steps.Client call) = by_call (λ bodies. length bodies ≤ 2) r call (omega arith) (λ t going. call_few r.last t going call (reply r call))
logged_few r (steps.Survey epoch) = omega arith
logged_few r (steps.Appoint a) = omega arith
logged_few r (steps.Activate epoch) = omega arith
logged_few r steps.Barrier = omega arith
logged_few r steps.Inspect = omega arith

-- ---- a survey

-- it goes on as no primary, with this fence
laid_down : (r : Open) (v w : Kept) (fence : Epoch) → AgreesWith r v → w.records ≡ v.records → w.identity ≡ v.identity → w.fence ≡ fence → AgreesWith (record r { fence = fence; role = Other; front = nothing no_epoch }) w
laid_down r v w fence a records identity fence_is =
    let new : Open = record r { fence = fence; role = Other; front = nothing no_epoch } in
    let same : (let x : Kept = record { identity = v.identity; fence = fence; records = v.records } in x) ≡ w =
    ap (λ (l : Items). let x : Kept = record { identity = v.identity; fence = fence; records = l } in x) (sym records)
    ∙ ap (λ (i : Option ℕ). let x : Kept = record { identity = i; fence = fence; records = w.records } in x) (sym identity)
    ∙ ap (λ (e : Epoch). let x : Kept = record { identity = w.identity; fence = e; records = w.records } in x) (sym fence_is) in
    subst (AgreesWith new) same (record {
      identity = a.identity;
      fence = refl;
      epoch = a.epoch;
      last = a.last;
      stable_told = a.stable_told;
      stable_there = a.stable_there;
      shown = a.shown;
      contents = a.contents;
      commits = a.commits;
      epochs = a.epochs;
      role = refl;
      over = IsOver-nothing no_epoch r.contents a.over.ordered;
      known = λ n going is. absurd (none-some going is);
    })

survey_steps : (r : Open) (v : Kept) (epoch : Epoch) → AgreesWith r v → StepsTo (surveyed epoch r) v (block r (steps.Survey epoch)) []
survey_steps r v epoch a = by (epoch_lt epoch r.fence) refl (epoch_lt r.fence epoch) refl
  where
    by : (low : Bool) → epoch_lt epoch r.fence ≡ low → (up : Bool) → epoch_lt r.fence epoch ≡ up
        → StepsTo (cond low r (record r { fence = cond up epoch r.fence; role = Other; front = nothing no_epoch })) v (cond up (Fence epoch ∷ []) [] ++ []) []
    by true low true up = absurd (epoch_le_not epoch r.fence (epoch_lt_le epoch r.fence low) up)
    by true low false up = rests r v a
    by false low false up = rests (record r { fence = r.fence; role = Other; front = nothing no_epoch }) v (laid_down r v v r.fence a refl refl a.fence)
    by false low true up = record {
      goes_on = (tt, tt);
      agrees = laid_down r v (after_one v (Fence epoch)) epoch a refl refl (ap (λ (e : Epoch). later e epoch) a.fence ∙ ap (λ (b : Bool). cond b epoch r.fence) up);
      commits = sym (append-nil (commits_in v.records));
    }

-- ---- each step

-- a step goes on with the log, and the replica agrees with the log behind it
pub steps_to : (r : Open) (v : Kept) (event : StepEvent) → AgreesWith r v → MayStep r event → StepsTo (stepped r event) v (block r event) (committed_by r event)
steps_to r v (steps.Client call) a may = call_steps r v call a
steps_to r v (steps.Survey epoch) a may = survey_steps r v epoch a
steps_to r v (steps.Appoint appointment) a may =
    let s = epoch_starts r v appointment.epoch a may.above in
    record { goes_on = (s.may, tt); agrees = s.agrees; commits = s.commits ∙ sym (append-nil (commits_in v.records)) }
steps_to r v (steps.Activate epoch) a may = rests r v a
steps_to r v steps.Barrier a may = alone r (stepped r steps.Barrier) v (Barrier r.stable) [] (barrier_grows r v a may)
steps_to r v steps.Inspect a may = rests r v a

-- a step commits what it says
pub commits_after : (r : Open) (v : Kept) (event : StepEvent) → AgreesWith r v → MayStep r event → commits_in (after v (block r event)).records ≡ commits_in v.records ++ committed_by r event
commits_after r v event a may = (steps_to r v event a may).commits

-- ---- what the log shows behind a step

-- none tells more as stable
abbrev AllTold : ℕ → List Record → Type 0
AllTold n [] = Unit {0}
AllTold n (body ∷ bodies) = (stable_told body ≤ n) × AllTold n bodies

stable_items : (log : Items) (epoch : Epoch) (bodies : List Record) (n : ℕ) → stable_in log ≤ n → AllTold n bodies → stable_in (log ++ map (λ body. (epoch, body)) bodies) ≤ n
stable_items log epoch [] n low told = subst (λ (l : Items). stable_in l ≤ n) (sym (append-nil log)) low
stable_items log epoch (body ∷ bodies) n low told =
    subst (λ (l : Items). stable_in l ≤ n) (append_assoc log ((epoch, body) ∷ []) (map (λ b. (epoch, b)) bodies))
    (stable_items (log ++ (epoch, body) ∷ []) epoch bodies n (stable_push log epoch body n low told.0) told.1)

due_told : (n : ℕ) (b : Bool) (t : TxnId) (bodies : List Record) → AllTold n bodies → AllTold n (cond b (Begin t ∷ []) [] ++ bodies)
due_told n true t bodies h = (omega arith, h)
due_told n false t bodies h = h

op_told : (n : ℕ) (last : Lsn) (t : TxnId) (going : Going) (op : Option Op) → AllTold n (logged_op last t going op)
op_told n last t going None = tt
op_told n last t going (Some op) = due_told n (going.last.0 == 0) t _ (omega arith, tt)

call_told : (n : ℕ) (last : Lsn) (t : TxnId) (going : Going) (call : Call) (told : Option Reply) → AllTold n (logged_call last t going call told)
call_told n last t going calls.Begin told = op_told n last t going (option_and_then (λ reply. reply.op) told)
call_told n last t going (calls.Make u name kind) told = op_told n last t going (option_and_then (λ reply. reply.op) told)
call_told n last t going (calls.OnKey u name key asked) told = op_told n last t going (option_and_then (λ reply. reply.op) told)
call_told n last t going (calls.Commit u) told = due_told n (going.last.0 == 0) t _ (omega arith, tt)
call_told n last t going (calls.Abort u) told = elim (going.last.0 == 0) as (λ b. AllTold n (cond b [] (End t going.last false ∷ []))) [ true ↦ tt | false ↦ (omega arith, tt) ]

logged_told : (r : Open) (event : StepEvent) → AllTold r.stable.0 (logged r event)
logged_told r (steps.Client call) = by_call (AllTold r.stable.0) r call tt (λ t going. call_told r.stable.0 r.last t going call (reply r call))
logged_told r (steps.Survey epoch) = tt
logged_told r (steps.Appoint a) = (omega arith, tt)
logged_told r (steps.Activate epoch) = tt
logged_told r steps.Barrier = (omega arith, tt)
logged_told r steps.Inspect = tt

-- what the log shows, opened behind a step, was committed before the step
pub shows_after : (r : Open) (v : Kept) (event : StepEvent) → AgreesWith r v → MayStep r event → (more : List Committed) × (shown_in (after v (block r event)).records ++ more ≡ commits_in v.records)
shows_after r v event a may =
    let log : Items = v.records ++ map (λ body. (epoch_in r event, body)) (logged r event) in
    let low : stable_in log ≤ r.stable.0 = stable_items v.records (epoch_in r event) (logged r event) r.stable.0 a.stable_told (logged_told r event) in
    let front : take (stable_in log) log ≡ take (stable_in log) v.records = take-append-le (stable_in log) v.records (map (λ body. (epoch_in r event, body)) (logged r event)) (omega (arith, low, a.stable_there, a.last)) in
    let rest = commits_prefix (stable_in log) v.records in
    (rest.0, ap (λ (l : Items). shown_in l ++ rest.0) (records_after v r event) ∙ ap (λ (l : Items). commits_in l ++ rest.0) front ∙ rest.1)

-- ---- how far a step counts

logged_begins : (f : Fronted) (t : TxnId) (lsn : Lsn) → (front.logged f t lsn).begins ≡ f.begins
logged_begins f t lsn = by (going_of f t)
  where
    by : (o : Option Going) → (option_map_or (λ going. front.with_going t.n (record going { last = lsn }) f) o f).begins ≡ f.begins
    by None = refl
    by (Some going) = refl

noted_begins : (count : ℕ) (call : Call) (lsn : Lsn) (f : Fronted) → (noted count call lsn f).begins ≡ f.begins
noted_begins zero call lsn f = refl
noted_begins (suc n) call lsn f = by (txn_named call)
  where
    by : (o : Option TxnId) → (option_map_or (λ t. front.logged f t lsn) o f).begins ≡ f.begins
    by None = refl
    by (Some t) = logged_begins f t lsn

ended_begins : (f : Fronted) (t : TxnId) → (front.ended f t).begins ≡ f.begins
ended_begins f t = by (going_of f t)
  where
    by : (o : Option Going) → (option_map_or (λ going. record f { live = remove_entry (is_at (nat_cmp t.n)) f.live; grants = released f.grants t }) o f).begins ≡ f.begins
    by None = refl
    by (Some going) = refl

operated_begins : (n : ℕ) (going : Going) (op : Option Op) (f : Fronted) → (operated n going op f).begins ≡ f.begins
operated_begins n going None f = refl
operated_begins n going (Some op) f = refl

asked_begins : (f : Fronted) (state : State) (call : Call) (o : Option TxnId) → (option_map_or (λ t. option_map_or (λ going. front.asked f state t going call) (going_of f t) f) o (begun f)).begins ≤ f.begins + 1
asked_begins f state call None = omega arith
asked_begins f state call (Some t) = by (going_of f t)
  where
    by : (o : Option Going) → (option_map_or (λ going. front.asked f state t going call) o f).begins ≤ f.begins + 1
    by None = omega arith
    by (Some going) =
        let seen : State = folded state going.ops in
        let same : (front.asked f state t going call).begins ≡ f.begins = operated_begins t.n going (option_and_then (λ reply. reply.op) (live_reply f.grants seen t call)) (record f { grants = taken f.grants t (locks_at seen call) }) in
        omega (arith, same)

called_begins : (f : Fronted) (state : State) (call : Call) → (front.called f state call).begins ≤ f.begins + 1
called_begins f state call = asked_begins f state call (txn_named call)

commit_begins : (count : ℕ) (r : Open) (t : TxnId) → (answered count (calls.Commit t) r).front.begins ≤ r.front.begins + 1
commit_begins count r t = by (going_of r.front t)
  where
    by : (o : Option Going) → (option_map_or (λ going. record (lengthened count r.epoch r) { shown = r.shown + 1; contents = folded r.contents going.ops; front = front.ended r.front t }) o r).front.begins ≤ r.front.begins + 1
    by None = omega arith
    by (Some going) = omega (arith, ended_begins r.front t)

noted_few : (count : ℕ) (r : Open) (call : Call) (lsn : Lsn) → (noted count call lsn (front.called r.front r.contents call)).begins ≤ r.front.begins + 1
noted_few count r call lsn = omega (arith, noted_begins count call lsn (front.called r.front r.contents call), called_begins r.front r.contents call)

answered_begins : (count : ℕ) (r : Open) (call : Call) → (answered count call r).front.begins ≤ r.front.begins + 1
answered_begins count r calls.Begin = noted_few count r calls.Begin (behind r.last count)
answered_begins count r (calls.Make t name kind) = noted_few count r (calls.Make t name kind) (behind r.last count)
answered_begins count r (calls.OnKey t name key asked) = noted_few count r (calls.OnKey t name key asked) (behind r.last count)
answered_begins count r (calls.Commit t) = commit_begins count r t
answered_begins count r (calls.Abort t) = omega (arith, ended_begins r.front t)

-- a step begins at most one transaction
pub begins_few : (r : Open) (event : StepEvent) → (stepped r event).front.begins ≤ r.front.begins + 1
begins_few r (steps.Client call) = elim (is_active r.role) as (λ b. (cond b (answered (length (logged_by r call)) call r) r).front.begins ≤ r.front.begins + 1) [
  | true ↦ answered_begins (length (logged_by r call)) r call
  | false ↦ omega arith
]
begins_few r (steps.Survey epoch) = elim (epoch_lt epoch r.fence) as (λ b. (cond b r (record r { fence = later r.fence epoch; role = Other; front = nothing no_epoch })).front.begins ≤ r.front.begins + 1) [ true ↦ omega arith | false ↦ omega arith ]
begins_few r (steps.Appoint a) = omega arith
begins_few r (steps.Activate epoch) = omega arith
begins_few r steps.Barrier = omega arith
begins_few r steps.Inspect = omega arith
