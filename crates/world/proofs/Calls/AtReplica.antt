-- Client calls at replica 0, by what its steps did.
use Rattle.std.proofs.Common.{◌≡◌, ◌∙◌, sym, ap, subst, ℕ, zero, ◌+◌, ◌*◌, ◌<◌, ◌≤◌, ◌==◌, Bool, true, false, cond, List, [], ◌∷◌, ◌++◌, length, map, Option, Some, None, option_and_then, refl, arith, append-nil, length-append}
use Rattle.std.specs.Option.{option_map_or}
use Rattle.std.specs.List.{cons_option}
use Rattle.std.proofs.lemmas.Bool.{cond-true, cond-false}
use Rattle.std.proofs.lemmas.List.{length-map}
use Rattle.std.proofs.lemmas.Option.{none-some, same_Some}
use Rattle.rc_base.specs.declared.ids.Epoch.{Epoch}
use Rattle.rc_base.specs.declared.ids.TxnId.{TxnId}
use Rattle.rc_base.specs.Ids.{is_txn}
use Rattle.coll_model.specs.declared.op.Op.{Op}
use Rattle.coll_model.specs.Effect.{State, folded}
use Rattle.disk_model.specs.Disk.{Areas}
use Rattle.txn_table.specs.Log.{commits_in}
use Rattle.log_store.specs.declared.kept.Kept.{Kept as Log}
use Rattle.log_store.specs.Durable.{StandFor}
use Rattle.log_store.specs.Store.{Store}
use Rattle.events.specs.declared.event.Event.TheVariants.{Client}
use Rattle.events.specs.declared.call.Call.{Call}
use Rattle.events.specs.declared.call.Call.TheVariants.{Begin, Make, OnKey, Commit, Abort}
use Rattle.order_machine.specs.declared.observation.Observation.{Observation}
use Rattle.order_machine.specs.declared.observation.Observation.TheVariants as says
use Rattle.events.specs.declared.answer.Reply.{Reply}
use Rattle.order_machine.specs.Order.{Entry, length_of}
use Rattle.order_machine.specs.Machine.{Machine, order_of}
use Rattle.events.specs.Answers.{plain, live_reply}
use Rattle.events.specs.Calls.{txn_named}
use Rattle.order_machine.specs.Legal.{IsWhole, moved}
use Rattle.replica_model.specs.declared.role.Role.{Role}
use Rattle.replica_model.specs.declared.role.Role.TheVariants.{Other, Primary}
use Rattle.replica_model.specs.declared.step.StepEvent.TheVariants as steps
use Rattle.replica.specs.Open.{Open, AgreesWith, commits_to}
use Rattle.log_records.specs.declared.record.Record.{Record}
use Rattle.log_records.specs.declared.record.Record.TheVariants as recs
use Rattle.rc_base.specs.declared.ids.Lsn.{Lsn}
use Rattle.key_locks.specs.Grants.{released}
use Rattle.std.specs.Map.{remove_entry}
use Rattle.std.specs.BTreeMap.{is_at}
use Rattle.std.specs.Ordering.{nat_cmp}
use Rattle.std.proofs.lemmas.Bool.Decides.{nat_tests}
use Rattle.txn_front.proofs.Fronts.{told_ended, called_ended}
use Rattle.log_store.specs.Growth.{after}
use Rattle.replica_model.specs.Records.{placed, logged_op, logged_call}
use Rattle.replica_model.specs.Steps.{CallFits, noted}
use Rattle.replica.specs.Step.{reply, is_active, logged, logged_by, called, answered, behind, going_in, committed_by, lengthened, epoch_in, outcome}
use Rattle.txn_front.specs.Front.{Fronted, Going, going_of, told, AreAlike}
use Rattle.txn_front.specs.Front as front
use Rattle.world.specs.Disks.{as_commit}
use Rattle.world.specs.Course.{IsCourse, IsFence}
use Rattle.world.specs.Running.{running, Runs, RunsWith}
use Rattle.world.specs.Standing.{Course, standing, serving, resting}
use Rattle.world.specs.Steps.{told_by, finished, log_once, log_behind}
use Rattle.world.specs.World.{IsOpen, Serving, Resting, AsRole, AsReplica, StillHolds}
use Rattle.world.proofs.Calls.Abort.{Ends, aborted_serves}
use Rattle.world.proofs.Calls.Collection.{IsInCollection, IsAsked, asked_serves, going_told, grants_then}
use Rattle.world.proofs.Calls.Begin.{Begins, begin_serves, next, new_going}
use Rattle.world.proofs.Calls.OneTxn.{ChangesAt, runs_alike}
use Rattle.world.proofs.Calls.AfterEnd.{ended_serves}
use Rattle.world.proofs.Calls.Fronts.{changes_alike, begins_changes, ends_changes, asked_changes, op_then, last_then}
use Rattle.world.proofs.Calls.Steps.{told_is, committed_open, lengthened_shown, lengthened_contents, lengthened_role, lengthened_epoch, one_commit}
use Rattle.world.proofs.States.Later.{Continues, continues_standing}
use Rattle.world.proofs.Calls.LogEpochs.{fence_called, latest_low}
use Rattle.world.proofs.States.Logs.{BeginsWith, begins_still, sound_later, sound_txns}
use Rattle.world.proofs.States.HeldOrder.{of_one}
use Rattle.world.proofs.Calls.Unserved.{not_active_serves}
use Rattle.replica.proofs.Lengthened.{records_after, commits_after, logged_few}
use Rattle.events.specs.declared.answer.Answer.TheVariants as answers
use Rattle.order_machine.specs.AnswerLines.{line_of_answer}

-- ---- what is known of a call once its steps were done

-- the replica over another store, and over what goes on there: only the place of its log and the order of its grants are others
abbrev pub over : Store → Fronted → Open → Open
over store f r = record r { log = store; front = f }

pub record IsDone (r r' : Open) (call : Call) (before now : Areas → Type 0) (given : List Observation) : Type 0 where
  pub kept : r' ≡ over r'.log r'.front (finished r (steps.Client call))
  pub alike : AreAlike r'.front (finished r (steps.Client call)).front
  pub stands : (log : Log) → IsOpen r log before → IsOpen r' (log_behind r (steps.Client call) log) now
  pub lines : given ≡ told_by r (steps.Client call)
  pub fits : CallFits call

-- What a call does at a replica where its steps were done, after which the replica is the second.
abbrev pub IsServed : ℕ → Open → Open → (Areas → Type 0) → Call → List Observation → Machine → Type 0
IsServed number r x now call lines m = IsWhole m (Client 0 call) lines × AsReplica (Some x) number now (moved m (Client 0 call) lines) × StillHolds m now × Continues (outcome r (steps.Client call)).shown m (moved m (Client 0 call) lines)

-- as a role that the replica has
pub as_primary : (number : ℕ) (x : Open) (now : Areas → Type 0) (m : Machine) (epoch : Epoch) (active : Bool) → x.role ≡ Primary epoch active → Serving number x now m → AsRole x.role number x now m
as_primary number x now m epoch active role s = subst (λ r. AsRole r number x now m) (sym role) s

as_other : (number : ℕ) (x : Open) (now : Areas → Type 0) (m : Machine) → x.role ≡ Other → Resting number x now m → AsRole x.role number x now m
as_other number x now m role s = subst (λ r. AsRole r number x now m) (sym role) s

pub primary_active : (r : Open) (log : Log) (epoch : Epoch) (active : Bool) → r.role ≡ Primary epoch active → AgreesWith r log → is_active r.role ≡ true
primary_active r log epoch active role agrees = let p = rw role at agrees.role in rw role p.active

-- an active primary's reply
pub active_reply : (r : Open) (call : Call) → is_active r.role ≡ true → reply r call ≡ told r.front r.contents call
active_reply r call active = cond-true (is_active r.role) (told r.front r.contents call) (Some (plain (answers.NotActive r.id))) active

-- the log behind a step is so many records longer
pub longer : (r : Open) (event : _) (log : Log) → length (log_once r event log).records ≡ length log.records + length (logged r event)
longer r event log = ap length (records_after log r event) ∙ (length-append log.records (map (λ body. (epoch_in r event, body)) (logged r event)) ∙ ap (λ n. length log.records + n) (length-map (logged r event) (λ body. (epoch_in r event, body))))

-- what was acknowledged is held by a log that begins with the entries
pub holds_from : (last : ℕ) (r : Open) (before now : Areas → Type 0) (m : Machine) (log : Log) (s : Serving last r before m) → StandFor log now → BeginsWith s.runs.entries log → StillHolds m now
holds_from last r before now m log s stands begins =
    subst (λ n. StillHolds n now) (sym s.runs.is)
    (begins_still s.runs.entries s.runs.acknowledged (serving s.runs.course (length s.runs.entries) r.front.begins s.runs.grants) s.runs.txns s.runs.course now refl (of_one s.runs.entries now log stands begins))

begins_all : (entries : List Entry) (log : Log) → map as_commit entries ≡ commits_in log.records → BeginsWith entries log
begins_all entries log commits = ([], append-nil (map as_commit entries) ∙ commits)

-- machines that run with the same entries and decisions
pub continues_runs : (front new : Fronted) (shown now_shown : ℕ) (contents state : State) (m n : Machine) (most : ℕ) (h : Runs front shown contents m) → RunsWith h.entries h.course new now_shown state n → most ≤ length h.entries → Continues most m n
continues_runs front new shown now_shown contents state m n most h w low =
    let k = w.0 in
    let N : Machine = running h.entries h.acknowledged h.txns front.begins h.grants h.course in
    let K : List Entry → Course → Machine = λ es c. running es k.acknowledged k.txns new.begins k.grants c in
    let is : n ≡ K h.entries h.course = k.is ∙ (ap (λ es. K es k.course) w.1.0 ∙ ap (K h.entries) w.1.1) in
    subst (λ a. Continues most a n) (sym h.is) (subst (Continues most N) (sym is)
    (continues_standing h.entries h.acknowledged k.acknowledged (serving h.course (length h.entries) front.begins h.grants) (serving h.course (length h.entries) new.begins k.grants) h.txns k.txns h.course most refl refl low))

-- ---- at a replica that rests

pub rests_reply : (r : Open) (call : Call) → r.role ≡ Other → reply r call ≡ Some (plain (answers.NotActive r.id))
rests_reply r call role = cond-false (is_active r.role) (told r.front r.contents call) (Some (plain (answers.NotActive r.id))) (ap is_active role)

-- the log behind these records
abbrev pub log_with : Open → Log → List Record → Log
log_with r log bodies = after log (placed r.last.0 r.epoch bodies)

-- nothing is logged, and nothing changes
pub rests_logs : (r : Open) (call : Call) → is_active r.role ≡ false → logged_by r call ≡ []
rests_logs r call off = by (txn_named call)
  where
    by : (named : Option TxnId) → option_map_or (λ t. option_map_or (λ going. logged_call r.last t going call (reply r call)) (going_in r t) []) named [] ≡ []
    by None = refl
    by (Some t) = ap (λ o. option_map_or (λ going. logged_call r.last t going call (reply r call)) o []) (cond-false (is_active r.role) (going_of r.front t) None off)

-- it shows no more than the order has
pub rests_low : (last : ℕ) (r : Open) (images : Areas → Type 0) (m : Machine) (s : Resting last r images m) → r.shown ≤ length s.entries
rests_low last r images m s =
    let all = ap length s.shows in
    let parts = length-append (commits_to r.stable.0 s.log.records) s.hidden in
    let entries = length-map s.entries as_commit in
    let shown = s.is_open.agrees.shown in
    omega (arith, all, parts, entries, shown)

-- and no open replica does
pub shown_low : (role : Role) (last : ℕ) (r : Open) (images : Areas → Type 0) (m : Machine) → AsRole role last r images m → r.shown ≤ length_of (order_of m 0)
shown_low Other last r images m s = let low = rests_low last r images m s in subst (λ (n : Machine). r.shown ≤ length_of (order_of n 0)) (sym s.rests.is) (omega (arith, low))
shown_low (Primary epoch active) last r images m s = let all = s.runs.all_shown in subst (λ (n : Machine). r.shown ≤ length_of (order_of n 0)) (sym s.runs.is) (omega (arith, all))

pub rests_done : (last number : ℕ) (r r' : Open) (call : Call) (before now : Areas → Type 0) (lines : List Observation) (m : Machine) → last < number → r.role ≡ Other → Resting last r before m → IsDone r r' call before now lines → IsServed number r r' now call lines m
rests_done last number r r' call before now lines m later role s d =
    let off : is_active r.role ≡ false = ap is_active role in
    let quiet = told_is r call (plain (answers.NotActive r.id)) (rests_reply r call role) in
    let same : finished r (steps.Client call) ≡ r = quiet.keeps ∙ cond-false (is_active r.role) (answered (length (logged_by r call)) call r) r off in
    let kept : r' ≡ over r'.log r'.front r = d.kept ∙ ap (over r'.log r'.front) same in
    let begins : r'.front.begins ≡ r.front.begins = ap (λ (f : Fronted). f.begins) d.alike.same ∙ ap (λ (x : Open). x.front.begins) same in
    let no_records : log_behind r (steps.Client call) s.log ≡ s.log = quiet.log s.log ∙ ap (log_with r s.log) (rests_logs r call off) in
    let is_open : IsOpen r' s.log now = subst (λ l. IsOpen r' l now) no_records (d.stands s.log s.is_open) in
    let given : lines ≡ says.NotActive 0 ∷ [] = d.lines ∙ (quiet.lines ∙ ap (λ n. says.NotActive n ∷ []) s.is_open.first) in
    let n : Machine = standing s.entries s.rests.acknowledged (resting s.rests.course r.shown) s.rests.txns s.rests.course in
    let serves = not_active_serves s.entries s.rests.acknowledged r.shown s.rests.txns s.rests.course call in
    let shown : r'.shown ≡ r.shown = ap (λ (x : Open). x.shown) kept in
    let then : Resting number r' now (moved n (Client 0 call) (says.NotActive 0 ∷ [])) = record {
      entries = s.entries;
      rests = record {
        acknowledged = s.rests.acknowledged;
        txns = serves.1.0;
        course = s.rests.course;
        is = serves.1.1 ∙ ap (λ k. standing s.entries s.rests.acknowledged (resting s.rests.course k) serves.1.0 s.rests.course) (sym shown);
        ruled = s.rests.ruled;
        past = serves.1.2.0 s.rests.course s.entries s.rests.acknowledged s.rests.past;
      };
      log = s.log;
      is_open = is_open;
      sound = sound_later s.entries serves.1.0 s.rests.course last number s.log (omega (arith, later)) (sound_txns s.entries s.rests.txns serves.1.0 s.rests.course last s.log (serves.1.2.1 s.entries) s.sound);
      hidden = s.hidden;
      shows = subst (λ (lsn : Lsn). commits_to lsn.0 s.log.records ++ s.hidden ≡ map as_commit s.entries) (sym (ap (λ (x : Open). x.stable) kept)) s.shows;
      few = let k = s.few in omega (arith, k, later, begins);
    } in
    let holds : StillHolds n now = begins_still s.entries s.rests.acknowledged (resting s.rests.course r.shown) s.rests.txns s.rests.course now refl (of_one s.entries now s.log is_open.stands (s.sound.more, s.sound.holds)) in
    let P : Machine → Type 0 = λ k. IsServed number r r' now call (says.NotActive 0 ∷ []) k in
    let Q : List Observation → Type 0 = λ ls. IsServed number r r' now call ls m in
    let most : ℕ = (outcome r (steps.Client call)).shown in
    let low : most ≤ length s.entries = let a = quiet.shows in let b = rests_low last r before m s in omega (arith, a, b) in
    let continues : Continues most n (moved n (Client 0 call) (says.NotActive 0 ∷ [])) = subst (Continues most n) (sym serves.1.1) (continues_standing s.entries s.rests.acknowledged s.rests.acknowledged (resting s.rests.course r.shown) (resting s.rests.course r.shown) s.rests.txns serves.1.0 s.rests.course most refl refl low) in
    subst Q (sym given) (subst P (sym s.rests.is) (serves.0, as_other number r' now (moved n (Client 0 call) (says.NotActive 0 ∷ [])) (ap (λ (x : Open). x.role) kept ∙ role) then, holds, continues))

-- ---- at one that serves

-- a step that shows nothing more
pub record KeepsAll (r x : Open) : Type 0 where
  pub shown : x.shown ≡ r.shown
  pub contents : x.contents ≡ r.contents
  pub role : x.role ≡ r.role
  pub epoch : x.epoch ≡ r.epoch

-- a transaction has records once it has logged an operation
abbrev pub AreRecorded : Fronted → Type 0
AreRecorded f = (t : TxnId) (g : Going) → going_of f t ≡ Some g → (g.last.0 == 0) ≡ (length g.ops == 0)

-- a call that is answered
told_done : (last number : ℕ) (r r' : Open) (call : Call) (before now : Areas → Type 0) (lines : List Observation) (given : Reply) (m : Machine) (epoch : Epoch) (active : Bool) → last < number → r.role ≡ Primary epoch active → (s : Serving last r before m) → IsDone r r' call before now lines → reply r call ≡ Some given →
    IsWhole m (Client 0 call) (line_of_answer given.answer ∷ []) → RunsWith s.runs.entries s.runs.course r'.front r.shown r.contents (moved m (Client 0 call) (line_of_answer given.answer ∷ [])) → KeepsAll r (called r call) → committed_by r (steps.Client call) ≡ [] → r'.front.begins ≤ number → AreRecorded r'.front → IsServed number r r' now call lines m
told_done last number r r' call before now lines given m epoch active later role s d says_so whole runs keeps no_commit few recorded =
    let event = steps.Client call in
    let quiet = told_is r call given says_so in
    let log1 : Log = log_once r event s.log in
    let kept : r' ≡ over r'.log r'.front (called r call) = d.kept ∙ ap (over r'.log r'.front) quiet.keeps in
    let is_open : IsOpen r' log1 now = subst (λ l. IsOpen r' l now) (quiet.log s.log) (d.stands s.log s.is_open) in
    let commits : map as_commit s.runs.entries ≡ commits_in log1.records = s.commits ∙ (sym (append-nil (commits_in s.log.records)) ∙ (ap (λ cs. commits_in s.log.records ++ cs) (sym no_commit) ∙ sym (commits_after r s.log event s.is_open.agrees d.fits))) in
    let short : length log1.records ≤ 3 * number = let k = s.short in let l = longer r event s.log in let f = logged_few r event in omega (arith, k, l, f, later) in
    let shown : r.shown ≡ r'.shown = sym (ap (λ (x : Open). x.shown) kept ∙ keeps.shown) in
    let contents : r.contents ≡ r'.contents = sym (ap (λ (x : Open). x.contents) kept ∙ keeps.contents) in
    let n : Machine = moved m (Client 0 call) (line_of_answer given.answer ∷ []) in
    let runs_now : RunsWith s.runs.entries s.runs.course r'.front r'.shown r'.contents n = subst (λ k. RunsWith s.runs.entries s.runs.course r'.front k r'.contents n) shown (subst (λ c. RunsWith s.runs.entries s.runs.course r'.front r.shown c n) contents runs) in
    let fence : IsFence s.runs.course r'.fence = subst (λ (x : Open). IsFence s.runs.course x.fence) (sym kept) (fence_called s.runs.course r call s.fence (latest_low s.runs.course r.epoch s.epoch)) in
    let then : Serving number r' now n = record {
      runs = runs_now.0;
      ruled = subst IsCourse (sym runs_now.1.1) s.ruled;
      log = log1;
      is_open = is_open;
      epoch = ap (λ (x : Open). x.epoch) kept ∙ (keeps.epoch ∙ (s.epoch ∙ ap (λ (c : Course). c.latest) (sym runs_now.1.1)));
      fence = subst (λ c. IsFence c r'.fence) (sym runs_now.1.1) fence;
      commits = ap (map as_commit) runs_now.1.0 ∙ commits;
      short = short;
      few = few;
      recorded = recorded;
    } in
    let Q : List Observation → Type 0 = λ ls. IsServed number r r' now call ls m in
    subst Q (sym (d.lines ∙ quiet.lines)) (whole, as_primary number r' now n epoch active (ap (λ (x : Open). x.role) kept ∙ (keeps.role ∙ role)) then, holds_from last r before now m log1 s is_open.stands (begins_all s.runs.entries log1 commits), continues_runs r.front r'.front r.shown r'.shown r.contents r'.contents m n (outcome r event).shown s.runs runs_now (let a = quiet.shows in let b = s.runs.all_shown in omega (arith, a, b)))

-- what goes on is recorded as before, but for one transaction
pub recorded_at : (f f' : Fronted) (begins : ℕ) (t : TxnId) (then : Option Going) (grants : _) → ChangesAt f f' begins t then grants → AreRecorded f → ((g : Going) → then ≡ Some g → (g.last.0 == 0) ≡ (length g.ops == 0)) → AreRecorded f'
recorded_at f f' begins t then grants c old new u g is = by (is_txn u t) (sym (c.lookup u) ∙ is)
  where
    by : (b : Bool) → cond b then (going_of f u) ≡ Some g → (g.last.0 == 0) ≡ (length g.ops == 0)
    by true e = new g e
    by false e = old u g e

-- ---- a begin

pub begin_done : (last number : ℕ) (r r' : Open) (before now : Areas → Type 0) (lines : List Observation) (m : Machine) (epoch : Epoch) (active : Bool) → last < number → r.role ≡ Primary epoch active → Serving last r before m → IsDone r r' Begin before now lines → IsServed number r r' now Begin lines m
begin_done last number r r' before now lines m epoch active later role s d =
    let on : is_active r.role ≡ true = primary_active r s.log epoch active role s.is_open.agrees in
    let says_so : reply r Begin ≡ Some (plain (answers.Txn (next r.front))) = active_reply r Begin on in
    let is : called r Begin ≡ record r { front = front.begun r.front } = cond-true (is_active r.role) (record r { front = front.begun r.front }) r on in
    let then : finished r (steps.Client Begin) ≡ record r { front = front.begun r.front } = (told_is r Begin (plain (answers.Txn (next r.front))) says_so).keeps ∙ is in
    let alike : AreAlike r'.front (front.begun r.front) = subst (λ (x : Open). AreAlike r'.front x.front) then d.alike in
    let begins : Begins r.front r'.front = changes_alike r.front (front.begun r.front) r'.front (r.front.begins + 1) (next r.front) (Some new_going) r.front.grants (begins_changes r.front r.contents s.is_open.agrees.over) alike in
    let serves = begin_serves r.front r'.front r.shown r.contents m s.runs begins in
    told_done last number r r' Begin before now lines (plain (answers.Txn (next r.front))) m epoch active later role s d says_so serves.0 serves.1
    (record { shown = ap (λ (x : Open). x.shown) is; contents = ap (λ (x : Open). x.contents) is; role = ap (λ (x : Open). x.role) is; epoch = ap (λ (x : Open). x.epoch) is })
    refl (let k = s.few in let b = begins.begins_now in omega (arith, k, b, later))
    (recorded_at r.front r'.front (r.front.begins + 1) (next r.front) (Some new_going) r.front.grants begins s.recorded (λ g e. by_new g (same_Some new_going g e)))
  where
    by_new : (g : Going) → new_going ≡ g → (g.last.0 == 0) ≡ (length g.ops == 0)
    by_new g e = subst (λ (h : Going). (h.last.0 == 0) ≡ (length h.ops == 0)) e refl

-- ---- a transaction that doesn't go on

pub none_logs : (r : Open) (call : Call) (t : TxnId) → is_active r.role ≡ true → txn_named call ≡ Some t → going_of r.front t ≡ None → logged_by r call ≡ []
none_logs r call t on named none =
    ap (λ o. option_map_or (λ u. option_map_or (λ going. logged_call r.last u going call (reply r call)) (going_in r u) []) o []) named
    ∙ ap (λ o. option_map_or (λ going. logged_call r.last t going call (reply r call)) o []) (cond-true (is_active r.role) (going_of r.front t) None on ∙ none)

-- the front without what goes on under the name
abbrev ended_with : Fronted → TxnId → Fronted
ended_with f u = record f { live = remove_entry (is_at (nat_cmp u.n)) f.live; grants = released f.grants u }

none_answered : (r : Open) (call : Call) (t : TxnId) → txn_named call ≡ Some t → going_of r.front t ≡ None → answered zero call r ≡ r
none_answered r Begin t named none = absurd (none-some t named)
none_answered r (Make u name kind) t named none = ap (λ f. record r { front = f }) (called_ended r.front r.contents (Make u name kind) t named none)
none_answered r (OnKey u name key asked) t named none = ap (λ f. record r { front = f }) (called_ended r.front r.contents (OnKey u name key asked) t named none)
none_answered r (Commit u) t named none =
    let same : u ≡ t = same_Some u t named in
    ap (λ o. option_map_or (λ g. committed_open zero u g r) o r) (ap (going_of r.front) same ∙ none)
none_answered r (Abort u) t named none =
    let same : u ≡ t = same_Some u t named in
    ap (λ o. record r { front = option_map_or (λ going. ended_with r.front u) o r.front }) (ap (going_of r.front) same ∙ none)

none_commits : (r : Open) (call : Call) (t : TxnId) → is_active r.role ≡ true → txn_named call ≡ Some t → going_of r.front t ≡ None → committed_by r (steps.Client call) ≡ []
none_commits r Begin t on named none = refl
none_commits r (Make u name kind) t on named none = refl
none_commits r (OnKey u name key asked) t on named none = refl
none_commits r (Commit u) t on named none =
    ap (λ o. option_map_or (λ (going : Going). one_commit u going) o []) (cond-true (is_active r.role) (going_of r.front u) None on ∙ (ap (going_of r.front) (same_Some u t named) ∙ none))
none_commits r (Abort u) t on named none = refl

pub ended_done : (last number : ℕ) (r r' : Open) (call : Call) (t : TxnId) (before now : Areas → Type 0) (lines : List Observation) (m : Machine) (epoch : Epoch) (active : Bool) → last < number → r.role ≡ Primary epoch active → txn_named call ≡ Some t → going_of r.front t ≡ None → Serving last r before m → IsDone r r' call before now lines → IsServed number r r' now call lines m
ended_done last number r r' call t before now lines m epoch active later role named none s d =
    let on : is_active r.role ≡ true = primary_active r s.log epoch active role s.is_open.agrees in
    let says_so : reply r call ≡ Some (plain (answers.Ended t)) = active_reply r call on ∙ told_ended r.front r.contents call t named none in
    let is : called r call ≡ r = cond-true (is_active r.role) (answered (length (logged_by r call)) call r) r on ∙ (ap (λ bodies. answered (length bodies) call r) (none_logs r call t on named none) ∙ none_answered r call t named none) in
    let then : finished r (steps.Client call) ≡ r = (told_is r call (plain (answers.Ended t)) says_so).keeps ∙ is in
    let alike : AreAlike r'.front r.front = subst (λ (x : Open). AreAlike r'.front x.front) then d.alike in
    let serves = ended_serves r.front r.shown r.contents m call t named s.runs none in
    let begins : r'.front.begins ≡ r.front.begins = ap (λ (f : Fronted). f.begins) alike.same in
    told_done last number r r' call before now lines (plain (answers.Ended t)) m epoch active later role s d says_so serves.0 (runs_alike s.runs.entries s.runs.course r.front r'.front r.shown r.contents (moved m (Client 0 call) (says.Ended t ∷ [])) alike serves.1)
    (record { shown = ap (λ (x : Open). x.shown) is; contents = ap (λ (x : Open). x.contents) is; role = ap (λ (x : Open). x.role) is; epoch = ap (λ (x : Open). x.epoch) is })
    (none_commits r call t on named none) (let k = s.few in omega (arith, k, begins, later))
    (λ u g e. s.recorded u g (sym (ap (λ (f : Fronted). going_of f u) alike.same) ∙ e))

-- ---- a call in a collection

pub collection_logs : (r : Open) (call : Call) (t : TxnId) (g : Going) → is_active r.role ≡ true → IsInCollection call → txn_named call ≡ Some t → going_of r.front t ≡ Some g → (o : Option Reply) → reply r call ≡ o → logged_by r call ≡ logged_op r.last t g (option_and_then (λ given. given.op) o)
collection_logs r call t g on in_one named is o e =
    ap (λ o. option_map_or (λ u. option_map_or (λ going. logged_call r.last u going call (reply r call)) (going_in r u) []) o []) named
    ∙ (ap (λ o. option_map_or (λ going. logged_call r.last t going call (reply r call)) o []) (cond-true (is_active r.role) (going_of r.front t) None on ∙ is)
    ∙ (ap (logged_call r.last t g call) e ∙ by call in_one))
  where
    by : (c : Call) → IsInCollection c → logged_call r.last t g c o ≡ logged_op r.last t g (option_and_then (λ given. given.op) o)
    by Begin i = absurd i
    by (Make u name kind) i = refl
    by (OnKey u name key asked) i = refl
    by (Commit u) i = absurd i
    by (Abort u) i = absurd i

abbrev asked_open : Open → Call → ℕ → Open
asked_open r call count = record (lengthened count r.epoch r) { front = noted count call (behind r.last count) (front.called r.front r.contents call) }

collection_called : (r : Open) (call : Call) → is_active r.role ≡ true → IsInCollection call → called r call ≡ asked_open r call (length (logged_by r call))
collection_called r call on in_one = cond-true (is_active r.role) (answered (length (logged_by r call)) call r) r on ∙ by call (length (logged_by r call)) in_one
  where
    by : (c : Call) (n : ℕ) → IsInCollection c → answered n c r ≡ asked_open r c n
    by Begin n i = absurd i
    by (Make u name kind) n i = refl
    by (OnKey u name key asked) n i = refl
    by (Commit u) n i = absurd i
    by (Abort u) n i = absurd i

pub collection_commits : (r : Open) (call : Call) → IsInCollection call → committed_by r (steps.Client call) ≡ []
collection_commits r Begin i = refl
collection_commits r (Make u name kind) i = refl
collection_commits r (OnKey u name key asked) i = refl
collection_commits r (Commit u) i = absurd i
collection_commits r (Abort u) i = refl

keeps_lengthened : (r : Open) (n : ℕ) (f : Fronted) (x : Open) → x ≡ record (lengthened n r.epoch r) { front = f } → KeepsAll r x
keeps_lengthened r n f x is = record {
  shown = ap (λ (y : Open). y.shown) is ∙ lengthened_shown n r;
  contents = ap (λ (y : Open). y.contents) is ∙ lengthened_contents n r;
  role = ap (λ (y : Open). y.role) is ∙ lengthened_role n r;
  epoch = ap (λ (y : Open). y.epoch) is ∙ lengthened_epoch n r;
}

-- an operation was logged in one record at least
recorded_op : (lasts : Lsn) (t : TxnId) (g : Going) (op : Option Op) → (g.last.0 == 0) ≡ (length g.ops == 0) →
    (let count = length (logged_op lasts t g op) in ((last_then count (behind lasts count) g.last).0 == 0) ≡ (length (g.ops ++ cons_option op []) == 0))
recorded_op lasts t g None old = old ∙ ap (λ (ops : List Op). length ops == 0) (sym (append-nil g.ops))
recorded_op lasts t g (Some op) old = by (g.last.0 == 0)
  where
    some_length : (ops : List Op) → false ≡ (length (ops ++ op ∷ []) == 0)
    some_length [] = refl
    some_length (o ∷ ops) = grind (arith, nat_tests)

    by : (b : Bool) → (let count = length (cond b (recs.Begin t ∷ []) [] ++ recs.Operation t (cond b (record { 0 = lasts.0 + 1 }) g.last) op ∷ []) in ((last_then count (behind lasts count) g.last).0 == 0) ≡ (length (g.ops ++ op ∷ []) == 0))
    by true = let e : ((lasts.0 + 2) == 0) ≡ false = grind (arith, nat_tests) in e ∙ some_length g.ops
    by false = let e : ((lasts.0 + 1) == 0) ≡ false = grind (arith, nat_tests) in e ∙ some_length g.ops

pub asked_done : (last number : ℕ) (r r' : Open) (call : Call) (t : TxnId) (g : Going) (given : Reply) (before now : Areas → Type 0) (lines : List Observation) (m : Machine) (epoch : Epoch) (active : Bool) → last < number → r.role ≡ Primary epoch active → IsInCollection call → txn_named call ≡ Some t → going_of r.front t ≡ Some g → reply r call ≡ Some given → Serving last r before m → IsDone r r' call before now lines → IsServed number r r' now call lines m
asked_done last number r r' call t g given before now lines m epoch active later role in_one named is says_so s d =
    let on : is_active r.role ≡ true = primary_active r s.log epoch active role s.is_open.agrees in
    let count = length (logged_by r call) in
    let x_is = collection_called r call on in_one in
    let then : finished r (steps.Client call) ≡ asked_open r call count = (told_is r call given says_so).keeps ∙ x_is in
    let alike : AreAlike r'.front (noted count call (behind r.last count) (front.called r.front r.contents call)) = subst (λ (x : Open). AreAlike r'.front x.front) then d.alike in
    let told_here : told r.front r.contents call ≡ Some given = sym (active_reply r call on) ∙ says_so in
    let live : live_reply r.front.grants (folded r.contents g.ops) t call ≡ Some given = sym (going_told r.front r.contents call t g named is) ∙ told_here in
    let op_is : op_then r.front r.contents t g call ≡ given.op = ap (option_and_then (λ reply. reply.op)) live in
    let g' : Going = record { last = last_then count (behind r.last count) g.last; ops = g.ops ++ cons_option (op_then r.front r.contents t g call) [] } in
    let changes : ChangesAt r.front r'.front r.front.begins t (Some g') (grants_then r.front r.contents t g call) =
    changes_alike r.front (noted count call (behind r.last count) (front.called r.front r.contents call)) r'.front r.front.begins t (Some g') (grants_then r.front r.contents t g call) (asked_changes r.front r.contents t g call count (behind r.last count) s.is_open.agrees.over named is) alike in
    let asked : IsAsked r.front r'.front r.contents t g call given.op = record { then = g'; ops = ap (λ op. g.ops ++ cons_option op []) op_is; changes = changes } in
    let serves = asked_serves r.front r'.front r.shown r.contents m call t g given in_one named s.runs is told_here asked in
    let logs : logged_by r call ≡ logged_op r.last t g given.op = collection_logs r call t g on in_one named is (Some given) says_so in
    let R : List Record → Option Op → Type 0 = λ bodies op. ((last_then (length bodies) (behind r.last (length bodies)) g.last).0 == 0) ≡ (length (g.ops ++ cons_option op []) == 0) in
    let recorded : (g'.last.0 == 0) ≡ (length g'.ops == 0) = subst (R (logged_by r call)) (sym op_is) (subst (λ bodies. R bodies given.op) (sym logs) (recorded_op r.last t g given.op (s.recorded t g is))) in
    told_done last number r r' call before now lines given m epoch active later role s d says_so serves.0 serves.1
    (keeps_lengthened r count (noted count call (behind r.last count) (front.called r.front r.contents call)) (called r call) x_is)
    (collection_commits r call in_one) (let k = s.few in let b = changes.begins_now in omega (arith, k, b, later))
    (recorded_at r.front r'.front r.front.begins t (Some g') (grants_then r.front r.contents t g call) changes s.recorded (λ h e. subst (λ (z : Going). (z.last.0 == 0) ≡ (length z.ops == 0)) (same_Some g' h e) recorded))

-- ---- an abort

pub aborted_done : (last number : ℕ) (r r' : Open) (t : TxnId) (g : Going) (before now : Areas → Type 0) (lines : List Observation) (m : Machine) (epoch : Epoch) (active : Bool) → last < number → r.role ≡ Primary epoch active → going_of r.front t ≡ Some g → Serving last r before m → IsDone r r' (Abort t) before now lines → IsServed number r r' now (Abort t) lines m
aborted_done last number r r' t g before now lines m epoch active later role is s d =
    let on : is_active r.role ≡ true = primary_active r s.log epoch active role s.is_open.agrees in
    let says_so : reply r (Abort t) ≡ Some (plain answers.Done) = active_reply r (Abort t) on ∙ going_told r.front r.contents (Abort t) t g refl is in
    let count = length (logged_by r (Abort t)) in
    let x_is : called r (Abort t) ≡ record (lengthened count r.epoch r) { front = front.ended r.front t } = cond-true (is_active r.role) (answered count (Abort t) r) r on in
    let then : finished r (steps.Client (Abort t)) ≡ record (lengthened count r.epoch r) { front = front.ended r.front t } = (told_is r (Abort t) (plain answers.Done) says_so).keeps ∙ x_is in
    let alike : AreAlike r'.front (front.ended r.front t) = subst (λ (x : Open). AreAlike r'.front x.front) then d.alike in
    let ends : Ends r.front r'.front t = changes_alike r.front (front.ended r.front t) r'.front r.front.begins t None _ (ends_changes r.front r.contents t g s.is_open.agrees.over is) alike in
    let serves = aborted_serves r.front r'.front r.shown r.contents m t g s.runs is ends in
    told_done last number r r' (Abort t) before now lines (plain answers.Done) m epoch active later role s d says_so serves.0 serves.1
    (keeps_lengthened r count (front.ended r.front t) (called r (Abort t)) x_is)
    refl (let k = s.few in let b = ends.begins_now in omega (arith, k, b, later))
    (recorded_at r.front r'.front r.front.begins t None _ ends s.recorded (λ h e. absurd (none-some h e)))
