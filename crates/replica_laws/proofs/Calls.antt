-- A call at an active primary that commits nothing.
use Rattle.std.proofs.Common.{◌≡◌, ◌∙◌, refl, sym, ap, subst, ℕ, zero, suc, ◌+◌, Bool, true, cond, List, [], ◌∷◌, length, arith, Option, Some, None}
use Rattle.std.specs.Prelude.{option_map}
use Rattle.std.specs.Option.{option_map_or}
use Rattle.std.specs.Ordering.{nat_cmp}
use Rattle.std.specs.Map.{remove_entry}
use Rattle.std.specs.BTreeMap.{is_at}
use Rattle.rc_base.specs.declared.ids.Epoch.{Epoch}
use Rattle.rc_base.specs.declared.ids.Lsn.{Lsn}
use Rattle.rc_base.specs.declared.ids.TxnId.{TxnId}
use Rattle.disk_model.specs.Disk.{Areas}
use Rattle.coll_model.specs.Effect.{State, at_key, folded}
use Rattle.events.specs.declared.call.Call.{Call}
use Rattle.events.specs.declared.call.Call.TheVariants as calls
use Rattle.events.specs.declared.answer.Answer.{Answer}
use Rattle.events.specs.declared.answer.Answer.TheVariants as answers
use Rattle.events.specs.declared.answer.Reply.{Reply}
use Rattle.events.specs.Locking.{locks_at, against}
use Rattle.events.specs.Answers.{plain, make_reply, dictionary_reply, reply_to, locked_or, live_reply}
use Rattle.events.specs.Calls.{txn_named}
use Rattle.txn_table.specs.Whole.{Whole, last_position}
use Rattle.log_store.specs.declared.kept.Kept.{Kept}
use Rattle.log_store.specs.Growth.{after}
use Rattle.txn_front.specs.Front as front
use Rattle.txn_front.specs.Front.{Fronted, Going, AreAlike, going_of, txn_at}
use Rattle.txn_front.proofs.Fronts.{called-alike, logged-alike, ended-alike, told_ended}
use Rattle.replica_model.specs.declared.role.Role.{Role}
use Rattle.replica_model.specs.declared.step.StepEvent.{StepEvent}
use Rattle.replica_model.specs.declared.step.StepEvent.TheVariants as steps
use Rattle.replica_model.specs.OpenReplica.{OpenReplica, Leading, last_lsn, contents_of}
use Rattle.replica_model.specs.Records as records
use Rattle.replica_model.specs.Records.{step_block, appended}
use Rattle.replica_model.specs.Steps.{noted, written, with_block, front_behind, step_answer}
use Rattle.replica.specs.Open.{Open, AgreesWith}
use Rattle.replica.specs.Step.{MayStep, is_active, reply, logged_by, behind, lengthened, answered, block, stepped, outcome, quiet, shown_commits, committed_by}
use Rattle.replica.proofs.OneRecord.{active_primary}
use Rattle.replica.proofs.Puts.{alike_going}
use Rattle.replica_laws.specs.Agreement.{AgreesOn, IsRoleOf, IsStep, StepAgrees, whole_of}
use Rattle.replica_laws.proofs.Shown.{last_is, contents_is, active_is}
use Rattle.replica_laws.proofs.QuietSteps.{all_appended, agrees_then}
use Rattle.replica_laws.proofs.Raised.{at_end, serves_alone, raised_agrees}
use Rattle.replica_laws.proofs.CallBlocks.{reply_is, logged_is, call_logs}

-- ---- what a call leaves

long_role : (count : ℕ) (epoch : Epoch) (x : Open) → (lengthened count epoch x).role ≡ x.role
long_role zero epoch x = refl
long_role (suc n) epoch x = refl

long_id : (count : ℕ) (epoch : Epoch) (x : Open) → (lengthened count epoch x).id ≡ x.id
long_id zero epoch x = refl
long_id (suc n) epoch x = refl

pub long_shown : (count : ℕ) (epoch : Epoch) (x : Open) → (lengthened count epoch x).shown ≡ x.shown
long_shown zero epoch x = refl
long_shown (suc n) epoch x = refl

role_then : (count : ℕ) (call : Call) (x : Open) → (answered count call x).role ≡ x.role
role_then count calls.Begin x = long_role count x.epoch x
role_then count (calls.Make t name kind) x = long_role count x.epoch x
role_then count (calls.OnKey t name key asked) x = long_role count x.epoch x
role_then count (calls.Commit t) x = by (going_of x.front t)
  where
    by : (o : Option Going) → (option_map_or (λ going. record (lengthened count x.epoch x) { shown = x.shown + 1; contents = folded x.contents going.ops; front = front.ended x.front t }) o x).role ≡ x.role
    by None = refl
    by (Some going) = long_role count x.epoch x
role_then count (calls.Abort t) x = long_role count x.epoch x

id_then : (count : ℕ) (call : Call) (x : Open) → (answered count call x).id ≡ x.id
id_then count calls.Begin x = long_id count x.epoch x
id_then count (calls.Make t name kind) x = long_id count x.epoch x
id_then count (calls.OnKey t name key asked) x = long_id count x.epoch x
id_then count (calls.Commit t) x = by (going_of x.front t)
  where
    by : (o : Option Going) → (option_map_or (λ going. record (lengthened count x.epoch x) { shown = x.shown + 1; contents = folded x.contents going.ops; front = front.ended x.front t }) o x).id ≡ x.id
    by None = refl
    by (Some going) = long_id count x.epoch x
id_then count (calls.Abort t) x = long_id count x.epoch x

-- an active primary answers it
pub is_then : (x : Open) (call : Call) → is_active x.role ≡ true → stepped x (steps.Client call) ≡ answered (length (logged_by x call)) call x
is_then x call on = ap (λ (b : Bool). cond b (answered (length (logged_by x call)) call x) x) on

-- behind a step of an active primary all of its log is stable
pub ends_there : (x new : Open) (o : OpenReplica) (event : StepEvent) (before now : Areas → Type 0) (a : AgreesOn x o before) → IsStep x new event before now → is_active (stepped x event).role ≡ true
    → length (after a.kept (block x event)).records ≡ (stepped x event).stable.0
ends_there x new o event before now a s on =
    let w : Kept = after a.kept (block x event) in
    let done : AgreesWith new w = (s.agrees a.kept a.stands a.agrees).1 in
    let role : new.role ≡ (stepped x event).role = ap (λ (r : Open). r.role) s.kept.same in
    let primary = active_primary new w.records new.role refl done.role (ap is_active role ∙ on) in
    done.last ∙ (ap (λ l. l.0) (sym primary.1.stable) ∙ ap (λ (r : Open). r.stable.0) s.kept.same)

-- what the model's disk holds then
pub holds_then : (x : Open) (o : OpenReplica) (event : StepEvent) (images : Areas → Type 0) (a : AgreesOn x o images) → block x event ≡ step_block o event → appended o.disk (step_block o event) ≡ whole_of (after a.kept (block x event))
holds_then x o event images a same =
    ap (appended o.disk) (sym same) ∙ (ap (λ (w : Whole). appended w (block x event)) a.disk ∙ all_appended a.kept (block x event))

-- behind a call the replica agrees with this value of the model's
pub call_there : (before now : Areas → Type 0) (call : Call) (x new : Open) (o q : OpenReplica) (a : AgreesOn x o before) → is_active x.role ≡ true → IsStep x new (steps.Client call) before now
    → q.id ≡ o.id → q.disk ≡ appended o.disk (step_block o (steps.Client call)) → q.stable ≡ last_position q.disk → q.leading ≡ o.leading → AreAlike (stepped x (steps.Client call)).front q.front → AgreesOn new q now
call_there before now call x new o q a on s id disk stable leading alike =
    let event : StepEvent = steps.Client call in
    let same = call_logs x o before call a in
    let is = is_then x call on in
    let role : (stepped x event).role ≡ x.role = ap (λ (r : Open). r.role) is ∙ role_then (length (logged_by x call)) call x in
    let w : Kept = after a.kept (block x event) in
    let e : 0 + length w.records ≡ length w.records = omega arith in
    let end : last_position q.disk ≡ (stepped x event).stable.0 =
    ap last_position (disk ∙ holds_then x o event before a same) ∙ (e ∙ ends_there x new o event before now a s (ap is_active role ∙ on)) in
    agrees_then x new o q event before now a s id (disk ∙ ap (appended o.disk) (sym same)) (stable ∙ end) (ap (λ (r : Open). r.id) is ∙ id_then (length (logged_by x call)) call x)
    (subst (λ (m : Option Leading). IsRoleOf x.id (stepped x event).role m) (sym leading) (subst (λ (r : Role). IsRoleOf x.id r o.leading) (sym role) a.role)) alike

-- ---- a call that shows nothing more, and is answered

pub answered_agrees : (before now : Areas → Type 0) (call : Call) (x new : Open) (o : OpenReplica) → AgreesOn x o before → MayStep x (steps.Client call) → is_active x.role ≡ true → IsStep x new (steps.Client call) before now
    → committed_by x (steps.Client call) ≡ [] → (told : Reply) → reply x call ≡ Some told → (answered (length (logged_by x call)) call x).shown ≡ x.shown
    → AreAlike (answered (length (logged_by x call)) call x).front (front_behind o call) → StepAgrees x new o (steps.Client call) now
answered_agrees before now call x new o a may on s none told replies shows alike =
    let event : StepEvent = steps.Client call in
    let serves = serves_alone x o before a on in
    let p : OpenReplica = record (with_block o event) { front = front_behind o call } in
    let same = call_logs x o before call a in
    let is = is_then x call on in
    let there : AgreesOn new (at_end p) now = call_there before now call x new o (at_end p) a on s refl refl refl refl (subst (λ (r : Open). AreAlike r.front (front_behind o call)) (sym is) alike) in
    let leaves : written o event ≡ p = ap (λ (b : Bool). cond b p o) (active_is x o before a ∙ on) in
    let answer : Option Answer = Some told.answer in
    let as_shown : (stepped x event).shown ≡ x.shown = ap (λ (r : Open). r.shown) is ∙ shows in
    let as_active : is_active (stepped x event).role ≡ is_active x.role = ap (λ (r : Open). is_active r.role) is ∙ ap is_active (role_then (length (logged_by x call)) call x) in
    let tells : outcome x event ≡ quiet (stepped x event) answer =
    ap (λ (r : Option Reply). option_map_or (λ given. quiet x (Some given.answer)) r (shown_commits x (committed_by x event))) replies
    ∙ (ap (λ (n : ℕ). record (quiet x answer) { shown = n }) (sym as_shown)
    ∙ ap (λ (b : Bool). record (quiet x answer) { shown = (stepped x event).shown; active = b }) (sym as_active)) in
    let answers_it : answer ≡ step_answer o event = sym (ap (option_map (λ (r : Reply). r.answer)) (sym (reply_is x o before call a) ∙ replies)) in
    raised_agrees x new o p event before now answer a may s there serves.leading serves.is serves.active serves.current serves.previous serves.stable a.stable (holds_then x o event before a same) none same leaves tells answers_it

-- ---- a call with records of operations

noted_alike : (count : ℕ) (call : Call) (lsn : Lsn) (f g : Fronted) → AreAlike f g → AreAlike (noted count call lsn f) (noted count call lsn g)
noted_alike zero call lsn f g h = h
noted_alike (suc n) call lsn f g h = by (txn_named call)
  where
    by : (o : Option TxnId) → AreAlike (option_map_or (λ t. front.logged f t lsn) o f) (option_map_or (λ t. front.logged g t lsn) o g)
    by None = h
    by (Some t) = logged-alike f g t lsn h

-- what goes on then
item_alike : (x : Open) (o : OpenReplica) (images : Areas → Type 0) (call : Call) → AgreesOn x o images
    → AreAlike (noted (length (logged_by x call)) call (behind x.last (length (logged_by x call))) (front.called x.front x.contents call))
    (noted (length (records.logged_by o call)) call (record { 0 = (last_lsn o).0 + length (records.logged_by o call) }) (front.called o.front (contents_of o) call))
item_alike x o images call a =
    let count : ℕ = length (logged_by x call) in
    let mine : Fronted = noted count call (behind x.last count) (front.called x.front x.contents call) in
    let here : AreAlike mine (noted count call (behind x.last count) (front.called o.front x.contents call)) =
    noted_alike count call (behind x.last count) (front.called x.front x.contents call) (front.called o.front x.contents call) (called-alike x.front o.front x.contents call a.front) in
    subst (λ (n : ℕ). AreAlike mine (noted n call (record { 0 = (last_lsn o).0 + n }) (front.called o.front (contents_of o) call))) (ap length (logged_is x o images call a))
    (subst (λ (n : ℕ). AreAlike mine (noted count call (record { 0 = n + count }) (front.called o.front (contents_of o) call))) (sym (last_is x o images a))
    (subst (λ (s : State). AreAlike mine (noted count call (behind x.last count) (front.called o.front s call))) (sym (contents_is x o images a)) here))

locked_has : (by : Option TxnId) (told : Reply) → (r : Reply) × (locked_or by (Some told) ≡ Some r)
locked_has None told = (told, refl)
locked_has (Some holder) told = (plain (answers.Locked holder), refl)

live_has : (f : Fronted) (state : State) (t : TxnId) (call : Call) → ((seen : State) → (r : Reply) × (reply_to seen call ≡ Some r)) → (o : Option Going)
    → (r : Reply) × (option_map_or (λ going. live_reply f.grants (folded state going.ops) t call) o (Some (plain (answers.Ended t))) ≡ Some r)
live_has f state t call has None = (plain (answers.Ended t), refl)
live_has f state t call has (Some going) =
    let seen : State = folded state going.ops in
    let own = has seen in
    let any = locked_has (against f.grants t (locks_at seen call)) own.0 in
    (any.0, ap (locked_or (against f.grants t (locks_at seen call))) own.1 ∙ any.1)

-- an active primary's answer
replies_on : (x : Open) (call : Call) (told : Reply) → is_active x.role ≡ true → front.told x.front x.contents call ≡ Some told → reply x call ≡ Some told
replies_on x call told on is = ap (λ (b : Bool). cond b (front.told x.front x.contents call) (Some (plain (answers.NotActive x.id)))) on ∙ is

pub begins_agree : (before now : Areas → Type 0) (x new : Open) (o : OpenReplica) → AgreesOn x o before → MayStep x (steps.Client calls.Begin) → is_active x.role ≡ true → IsStep x new (steps.Client calls.Begin) before now → StepAgrees x new o (steps.Client calls.Begin) now
begins_agree before now x new o a may on s =
    let told : Reply = plain (answers.Txn (txn_at x.front (x.front.begins + 1))) in
    answered_agrees before now calls.Begin x new o a may on s refl told (replies_on x calls.Begin told on refl) refl (item_alike x o before calls.Begin a)

pub makes_agree : (before now : Areas → Type 0) (t : TxnId) (name : List ℕ) (kind : _) (x new : Open) (o : OpenReplica) → AgreesOn x o before → MayStep x (steps.Client (calls.Make t name kind)) → is_active x.role ≡ true
    → IsStep x new (steps.Client (calls.Make t name kind)) before now → StepAgrees x new o (steps.Client (calls.Make t name kind)) now
makes_agree before now t name kind x new o a may on s =
    let call : Call = calls.Make t name kind in
    let told = live_has x.front x.contents t call (λ seen. (make_reply name kind (at_key name seen), refl)) (going_of x.front t) in
    answered_agrees before now call x new o a may on s refl told.0 (replies_on x call told.0 on told.1) (long_shown (length (logged_by x call)) x.epoch x) (item_alike x o before call a)

pub key_calls_agree : (before now : Areas → Type 0) (t : TxnId) (name key : List ℕ) (asked : _) (x new : Open) (o : OpenReplica) → AgreesOn x o before → MayStep x (steps.Client (calls.OnKey t name key asked)) → is_active x.role ≡ true
    → IsStep x new (steps.Client (calls.OnKey t name key asked)) before now → StepAgrees x new o (steps.Client (calls.OnKey t name key asked)) now
key_calls_agree before now t name key asked x new o a may on s =
    let call : Call = calls.OnKey t name key asked in
    let told = live_has x.front x.contents t call (λ seen. (dictionary_reply name key asked (at_key name seen), refl)) (going_of x.front t) in
    answered_agrees before now call x new o a may on s refl told.0 (replies_on x call told.0 on told.1) (long_shown (length (logged_by x call)) x.epoch x) (item_alike x o before call a)

-- ---- an abort, and a commit of a transaction that doesn't go on

pub aborts_agree : (before now : Areas → Type 0) (t : TxnId) (x new : Open) (o : OpenReplica) → AgreesOn x o before → MayStep x (steps.Client (calls.Abort t)) → is_active x.role ≡ true
    → IsStep x new (steps.Client (calls.Abort t)) before now → StepAgrees x new o (steps.Client (calls.Abort t)) now
aborts_agree before now t x new o a may on s =
    let call : Call = calls.Abort t in
    let told = live_has x.front x.contents t call (λ seen. (plain answers.Done, refl)) (going_of x.front t) in
    answered_agrees before now call x new o a may on s refl told.0 (replies_on x call told.0 on told.1) (long_shown (length (logged_by x call)) x.epoch x) (ended-alike x.front o.front t a.front)

pub late_commits_agree : (before now : Areas → Type 0) (t : TxnId) (x new : Open) (o : OpenReplica) → AgreesOn x o before → MayStep x (steps.Client (calls.Commit t)) → is_active x.role ≡ true
    → IsStep x new (steps.Client (calls.Commit t)) before now → going_of x.front t ≡ None → StepAgrees x new o (steps.Client (calls.Commit t)) now
late_commits_agree before now t x new o a may on s gone =
    let call : Call = calls.Commit t in
    let count : ℕ = length (logged_by x call) in
    let then : Option Going → Open = λ (m : Option Going). option_map_or (λ going. record (lengthened count x.epoch x) { shown = x.shown + 1; contents = folded x.contents going.ops; front = front.ended x.front t }) m x in
    let told : Reply = plain (answers.Ended t) in
    let none : committed_by x (steps.Client call) ≡ [] =
    ap (λ (m : Option Going). option_map_or (λ going. record { txn = t; ops = going.ops } ∷ []) m []) (ap (λ (b : Bool). cond b (going_of x.front t) None) on ∙ gone) in
    let here : (answered count call x).front ≡ x.front = ap (λ (m : Option Going). (then m).front) gone in
    let away : front_behind o call ≡ o.front = ap (λ (m : Option Going). option_map_or (λ going. record o.front { live = remove_entry (is_at (nat_cmp t.n)) o.front.live }) m o.front) (sym (alike_going x.front o.front t a.front) ∙ gone) in
    answered_agrees before now call x new o a may on s none told (replies_on x call told on (told_ended x.front x.contents call t refl gone)) (ap (λ (m : Option Going). (then m).shown) gone)
    (subst (λ (f : Fronted). AreAlike f (front_behind o call)) (sym here) (subst (AreAlike x.front) (sym away) a.front))
