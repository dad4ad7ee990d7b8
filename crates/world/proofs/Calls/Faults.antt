-- Client calls at replica 0 whose steps the disk or the memory cut off.
use Rattle.std.proofs.Common.{inl, inr, ◌⊎◌, ◌||◌, ◌&&◌, not, append_assoc, Ok, ◌≡◌, ◌∙◌, sym, ap, subst, ℕ, ◌+◌, ◌<◌, ◌==◌, Bool, true, false, cond, List, [], ◌∷◌, ◌++◌, length, map, Option, Some, None, is_some, refl, arith, append-nil, length-append, max}
use Rattle.std.specs.Option.{option_map_or}
use Rattle.std.proofs.lemmas.Bool.{false≢true, cond-true, cond-false}
use Rattle.rc_base.specs.declared.ids.TxnId.{TxnId}
use Rattle.rc_base.specs.Ids.{is_txn}
use Rattle.coll_model.specs.declared.op.Op.{Op}
use Rattle.std.specs.Map.{lookup}
use Rattle.txn_front.proofs.Fronts.{told_ended}
use Rattle.rc_base.proofs.SameIds.{is_txn_same}
use Rattle.key_locks.specs.Grants.{released}
use Rattle.disk_model.specs.Disk.{Areas, Each}
use Rattle.txn_table.specs.Log.{commits_in}
use Rattle.log_store.specs.declared.kept.Kept.{Kept as Log}
use Rattle.log_store.specs.Durable.{durable, StandForOneOf}
use Rattle.events.specs.declared.event.Event.TheVariants.{Client}
use Rattle.events.specs.declared.call.Call.{Call}
use Rattle.events.specs.declared.call.Call.TheVariants.{Begin, Make, OnKey, Commit, Abort}
use Rattle.order_machine.specs.declared.observation.Observation.{Observation}
use Rattle.order_machine.specs.declared.observation.Observation.TheVariants as says
use Rattle.events.specs.declared.answer.Reply.{Reply}
use Rattle.order_machine.specs.Order.{Entry}
use Rattle.coll_model.specs.Effect.{State}
use Rattle.order_machine.specs.Machine.{Machine, Txn, ended_at, put_txn, put_grants, ops_of}
use Rattle.events.specs.Answers.{plain}
use Rattle.order_machine.specs.Clients.{answer}
use Rattle.events.specs.Calls.{txn_named}
use Rattle.order_machine.specs.Transitions.{asking, going_at, logs, is_ok, ends_logged}
use Rattle.order_machine.specs.Legal.{IsWhole, moved}
use Rattle.replica_model.specs.declared.role.Role.{Role}
use Rattle.replica_model.specs.declared.role.Role.TheVariants.{Other, Primary}
use Rattle.replica_model.specs.declared.step.StepEvent.{StepEvent}
use Rattle.replica_model.specs.declared.step.StepEvent.TheVariants as steps
use Rattle.replica.specs.Open.{Open, AgreesWith}
use Rattle.txn_table.specs.Whole.{stable_in}
use Rattle.log_records.specs.declared.record.Record.TheVariants as recs
use Rattle.replica_model.specs.Records.{placed, logged_op, logged_abort}
use Rattle.replica_model.specs.Steps.{CallFits}
use Rattle.replica.specs.Step.{MayStep, reply, is_active, logged, logged_by, called, answered, committed_by, outcome, stepped, block}
use Rattle.txn_front.specs.Front.{Fronted, Going, going_of, told}
use Rattle.txn_front.specs.Front as front
use Rattle.world.specs.Disks.{as_commit}
use Rattle.world.specs.Course.{IsCourse, MayFollow, IsFence, IsLogged}
use Rattle.world.specs.Running.{Runs}
use Rattle.world.specs.Standing.{Course, standing, serving, resting, shut}
use Rattle.world.specs.Steps.{no_effects, effects_after, told_by, is_due, log_once, log_twice, IsCutOff, HoldsSome}
use Rattle.world.specs.World.{IsOpen, IsSound, IsShutWith, Serving, Closed, AsRole, AsReplica, StillHolds}
use Rattle.world.proofs.Calls.Abort.{Ends}
use Rattle.world.proofs.Calls.Records.{past_asked, commit_follows}
use Rattle.world.proofs.Calls.Collection.{IsInCollection, going_told}
use Rattle.world.proofs.Calls.Begin.{next}
use Rattle.world.proofs.Calls.Commit.{entry_of, with_entry, lines_of, commit_faults}
use Rattle.world.proofs.Calls.Fronts.{ends_changes}
use Rattle.world.proofs.Calls.Steps.{told_is, committed_is, committed_open, lengthened_role}
use Rattle.world.proofs.Calls.AtReplica.{primary_active, active_reply, longer, rests_reply, rests_logs, none_logs, collection_logs, collection_commits}
use Rattle.world.proofs.Calls.CommitSteps.{IsCommit, commit_is, entries_more, begins_less, has_reply}
use Rattle.world.specs.declared.effects.EventEffects.{EventEffects}
use Rattle.world.proofs.States.Later.{Continues, continues_standing, max_none}
use Rattle.world.proofs.Calls.LogEpochs.{fence_called, fence_lengthened, epoch_called, latest_low, logged_fence, logged_latest}
use Rattle.world.proofs.States.Roleless.{serving_logged}
use Rattle.world.proofs.States.Logs.{BeginsWith, begins_still, sound_whole}
use Rattle.world.proofs.Exits.FaultLines.{call_faults}
use Rattle.world.proofs.Calls.Replies.{machine_of, known_of, answer_told}
use Rattle.replica.proofs.Lengthened.{commits_after, shows_after, steps_to, commits_prefix, logged_few}
use Rattle.events.specs.declared.answer.Answer.TheVariants as answers

-- ---- logs

-- the log of a replica that serves is sound, whatever its transactions are
kept_sound : (last number : ℕ) (r : Open) (before : Areas → Type 0) (m : Machine) (txns : List (TxnId × Txn)) → last < number → (s : Serving last r before m) → IsSound s.runs.entries txns s.runs.course number s.log
kept_sound last number r before m txns later s =
    let shows = commits_prefix (stable_in s.log.records) s.log.records in
    sound_whole s.runs.entries txns s.runs.course number s.log shows.0 s.commits shows.1 (logged_fence s.runs.course r s.log s.is_open.agrees s.fence) (serving_logged last r before m s) (let k = s.short in omega (arith, k, later))

-- and the log behind the step of a call
once_sound : (last number : ℕ) (r : Open) (call : Call) (before : Areas → Type 0) (m : Machine) (txns : List (TxnId × Txn)) → last < number → MayStep r (steps.Client call) → (s : Serving last r before m) → MayFollow s.runs.entries txns (committed_by r (steps.Client call)) → IsSound s.runs.entries txns s.runs.course number (log_once r (steps.Client call) s.log)
once_sound last number r call before m txns later may s follow =
    let event : StepEvent = steps.Client call in
    let shows = shows_after r s.log event s.is_open.agrees may in
    let agrees = (steps_to r s.log event s.is_open.agrees may).agrees in
    record {
      more = committed_by r event;
      holds = ap (λ cs. cs ++ committed_by r event) s.commits ∙ sym (commits_after r s.log event s.is_open.agrees may);
      follow = follow;
      hidden = shows.0;
      shows = shows.1 ∙ sym s.commits;
      fence = logged_fence s.runs.course (called r call) (log_once r event s.log) agrees (fence_called s.runs.course r call s.fence (latest_low s.runs.course r.epoch s.epoch));
      logged = logged_latest s.runs.course (called r call) (log_once r event s.log) agrees (epoch_called r call ∙ s.epoch) s.ruled;
      short = let k = s.short in let l = longer r event s.log in let f = logged_few r event in omega (arith, k, l, f, later);
    }

-- a call keeps the role
answered_role : (r : Open) (n : ℕ) (call : Call) → (answered n call r).role ≡ r.role
answered_role r n Begin = lengthened_role n r
answered_role r n (Make t name kind) = lengthened_role n r
answered_role r n (OnKey t name key asked) = lengthened_role n r
answered_role r n (Commit t) = by (going_of r.front t)
  where
    by : (o : Option Going) → (option_map_or (λ g. committed_open n t g r) o r).role ≡ r.role
    by None = refl
    by (Some g) = lengthened_role n r
answered_role r n (Abort t) = lengthened_role n r

role_kept : (r : Open) (call : Call) → (called r call).role ≡ r.role
role_kept r call = by (is_active r.role)
  where
    by : (b : Bool) → (cond b (answered (length (logged_by r call)) call r) r).role ≡ r.role
    by true = answered_role r (length (logged_by r call)) call
    by false = refl

pub due_was : (r : Open) (call : Call) → is_due r (steps.Client call) ≡ true → (b : Bool) → is_active r.role ≡ b → is_active r.role ≡ true
due_was r call due true e = e
due_was r call due false e =
    let says_so : reply r call ≡ Some (plain (answers.NotActive r.id)) = cond-false (is_active r.role) (told r.front r.contents call) (Some (plain (answers.NotActive r.id))) e in
    absurd (false≢true (sym (told_is r call (plain (answers.NotActive r.id)) says_so).not_due ∙ due))

-- the step behind which a Barrier is due leaves an active primary
pub due_active : (r : Open) (call : Call) → is_due r (steps.Client call) ≡ true → is_active (stepped r (steps.Client call)).role ≡ true
due_active r call due = ap is_active (role_kept r call) ∙ due_was r call due (is_active r.role) refl

-- a call that was answered has no Barrier
answered_not_due : (r : Open) (call : Call) (given : Reply) → reply r call ≡ Some given → is_due r (steps.Client call) ≡ true → ⊥
answered_not_due r call given says_so due = false≢true (sym (told_is r call given says_so).not_due ∙ due)

-- where a Barrier is due the replica shows what it tells
pub call_shows : (r : Open) (call : Call) → is_due r (steps.Client call) ≡ true → (outcome r (steps.Client call)).shown ≡ (called r call).shown
call_shows r call due = by call due (due_was r call due (is_active r.role) refl)
  where
    collection : (c : Call) → IsInCollection c → is_due r (steps.Client c) ≡ true → (outcome r (steps.Client c)).shown ≡ (called r c).shown
    collection c in_one d = let given = has_reply r c in_one (reply r c) refl in absurd (answered_not_due r c given.0 given.1 d)

    commit : (t : TxnId) → is_due r (steps.Client (Commit t)) ≡ true → is_active r.role ≡ true → (o : Option Going) → going_of r.front t ≡ o → (outcome r (steps.Client (Commit t))).shown ≡ (called r (Commit t)).shown
    commit t d on None none = absurd (answered_not_due r (Commit t) (plain (answers.Ended t)) (active_reply r (Commit t) on ∙ told_ended r.front r.contents (Commit t) t refl none) d)
    commit t d on (Some g) is =
        let c = committed_is r t g on is (active_reply r (Commit t) on ∙ going_told r.front r.contents (Commit t) t g refl is) in
        c.shows ∙ sym (ap (λ (x : Open). x.shown) c.called_is)

    abort : (t : TxnId) → is_due r (steps.Client (Abort t)) ≡ true → is_active r.role ≡ true → (o : Option Going) → going_of r.front t ≡ o → (outcome r (steps.Client (Abort t))).shown ≡ (called r (Abort t)).shown
    abort t d on None none = absurd (answered_not_due r (Abort t) (plain (answers.Ended t)) (active_reply r (Abort t) on ∙ told_ended r.front r.contents (Abort t) t refl none) d)
    abort t d on (Some g) is = absurd (answered_not_due r (Abort t) (plain answers.Done) (active_reply r (Abort t) on ∙ going_told r.front r.contents (Abort t) t g refl is) d)

    by : (c : Call) → is_due r (steps.Client c) ≡ true → is_active r.role ≡ true → (outcome r (steps.Client c)).shown ≡ (called r c).shown
    by Begin d on = absurd (answered_not_due r Begin (plain (answers.Txn (next r.front))) (active_reply r Begin on) d)
    by (Make t name kind) d on = collection (Make t name kind) tt d
    by (OnKey t name key asked) d on = collection (OnKey t name key asked) tt d
    by (Commit t) d on = commit t d on (going_of r.front t) refl
    by (Abort t) d on = abort t d on (going_of r.front t) refl

-- the fence and the last epoch of the log behind the step of a call, and behind the Barrier too
known_once : (course : Course) (r : Open) (log : Log) (call : Call) → AgreesWith r log → MayStep r (steps.Client call) → IsFence course r.fence → r.epoch ≡ course.latest → IsCourse course → IsFence course (log_once r (steps.Client call) log).fence × IsLogged course (log_once r (steps.Client call) log)
known_once course r log call agrees may fence epoch ruled =
    let then = (steps_to r log (steps.Client call) agrees may).agrees in (
      logged_fence course (called r call) (log_once r (steps.Client call) log) then (fence_called course r call fence (latest_low course r.epoch epoch)),
      logged_latest course (called r call) (log_once r (steps.Client call) log) then (epoch_called r call ∙ epoch) ruled,
    )

known_twice : (course : Course) (r : Open) (log : Log) (call : Call) → AgreesWith r log → MayStep r (steps.Client call) → is_due r (steps.Client call) ≡ true → IsFence course r.fence → r.epoch ≡ course.latest → IsCourse course → IsFence course (log_twice r (steps.Client call) log).fence × IsLogged course (log_twice r (steps.Client call) log)
known_twice course r log call agrees may due fence epoch ruled =
    let x : Open = called r call in
    let log1 : Log = log_once r (steps.Client call) log in
    let then = (steps_to r log (steps.Client call) agrees may).agrees in
    let last = (steps_to x log1 steps.Barrier then (due_active r call due)).agrees in
    let low = latest_low course x.epoch (epoch_called r call ∙ epoch) in (
      logged_fence course (stepped x steps.Barrier) (log_twice r (steps.Client call) log) last (fence_lengthened course 1 x (fence_called course r call fence (latest_low course r.epoch epoch)) low),
      logged_latest course (stepped x steps.Barrier) (log_twice r (steps.Client call) log) last (epoch_called r call ∙ epoch) ruled,
    )

-- the order has grown by one, which is shown, and then the replica is closed
continues_shut : (front : Fronted) (shown most : ℕ) (contents : State) (m n : Machine) (t : TxnId) (g : Going) (h : Runs front shown contents m) (w : IsShutWith (with_entry h.entries t g) n) → w.course ≡ h.course → most ≡ shown + 1 → Continues most m n
continues_shut front shown most contents m n t g h w course one_more =
    let es : List Entry = with_entry h.entries t g in
    let M : Machine = machine_of h in
    let K : Course → Machine = λ c. standing es w.acknowledged (shut c w.shown) w.txns c in
    let is : n ≡ K h.course = w.is ∙ ap K course in
    let count : 0 + length es ≡ max (0 + length h.entries) most = let a = length-append h.entries (entry_of t g ∷ []) in let b = h.all_shown in grind (arith, a, b, one_more) in
    let same : Continues most M (K h.course) = record { appointments = refl; config = refl; answers = refl; order = count } in
    subst (λ a. Continues most a n) (sym h.is) (subst (Continues most M) (sym is) same)

-- ---- a fault

-- What a call does that a fault cut off, after these effects.
abbrev pub IsFaulted : ℕ → (Areas → Type 0) → Call → ℕ → EventEffects → Machine → Type 0
IsFaulted number now call order effects m =
    let lines : List Observation = effects.lines ++ says.Fault 0 ∷ [] in
    let n : Machine = moved m (Client 0 call) lines in
    IsWhole m (Client 0 call) lines × Closed number now n × StillHolds m now × ((most : ℕ) × (effects.order ≡ max order most) × Continues most m n)

-- a step that logs nothing has no block
no_block : (r : Open) (call : Call) → logged_by r call ≡ [] → block r (steps.Client call) ≡ []
no_block r call none = ap (placed r.last.0 r.epoch) none

-- a call that logs nothing meets none
silent_cut : (r : Open) (call : Call) (given : Reply) (log : Log) (order : ℕ) (effects : EventEffects) (now : Areas → Type 0) → reply r call ≡ Some given → logged_by r call ≡ [] → IsCutOff r (steps.Client call) log (no_effects order) effects now → ⊥
silent_cut r call given log order effects now says_so none (inl first) = first.1 (no_block r call none)
silent_cut r call given log order effects now says_so none (inr second) = false≢true (sym (told_is r call given says_so).not_due ∙ second.0)

-- the disk failed in the first step, of a call that logs
first_cut : (last number : ℕ) (r : Open) (call : Call) (before now : Areas → Type 0) (order : ℕ) (effects : EventEffects) (m : Machine) → last < number → MayStep r (steps.Client call) → (s : Serving last r before m) → logs (asking (machine_of s.runs) 0 call) call (answer (machine_of s.runs) 0 call) ≡ true → MayFollow s.runs.entries (ended_at 0 (asking (machine_of s.runs) 0 call).txns) (committed_by r (steps.Client call)) → effects ≡ no_effects order → StandForOneOf s.log (log_once r (steps.Client call) s.log) now → IsFaulted number now call order effects m
first_cut last number r call before now order effects m later may s logging follow none one =
    let n : Machine = machine_of s.runs in
    let faults = call_faults s.runs.entries s.runs.acknowledged (length s.runs.entries) r.front.begins s.runs.grants s.runs.txns s.runs.course call logging in
    let txns : List (TxnId × Txn) = ended_at 0 (asking n 0 call).txns in
    let kept = kept_sound last number r before m txns later s in
    let gone = once_sound last number r call before m txns later may s follow in
    let then : Closed number now (moved n (Client 0 call) (says.Fault 0 ∷ [])) = record {
      entries = s.runs.entries;
      is_shut = record {
        acknowledged = s.runs.acknowledged;
        txns = txns;
        course = s.runs.course;
        shown = length s.runs.entries;
        is = faults.1;
        ruled = s.ruled;
        past = past_asked r.front r.shown r.contents m s.runs call;
      };
      sound = λ c is. either c (one c is) kept gone;
    } in
    let holds : StillHolds n now = begins_still s.runs.entries s.runs.acknowledged (serving s.runs.course (length s.runs.entries) r.front.begins s.runs.grants) s.runs.txns s.runs.course now refl (λ c is. begins c (one c is) kept gone) in
    let P : Machine → Type 0 = λ k. IsFaulted number now call order (no_effects order) k in
    let continues : Continues 0 n (moved n (Client 0 call) (says.Fault 0 ∷ [])) = subst (Continues 0 n) (sym faults.1) (continues_standing s.runs.entries s.runs.acknowledged s.runs.acknowledged (serving s.runs.course (length s.runs.entries) r.front.begins s.runs.grants) (shut s.runs.course (length s.runs.entries)) s.runs.txns txns s.runs.course 0 refl refl (omega arith)) in
    let all : P m = subst P (sym s.runs.is) (faults.0, then, holds, (0, sym (max_none order), continues)) in
    let Q : EventEffects → Type 0 = λ done. IsFaulted number now call order done m in
    subst Q (sym none) all
  where
    either : (c : Areas) → (durable c ≡ Ok s.log) ⊎ (durable c ≡ Ok (log_once r (steps.Client call) s.log)) → IsSound s.runs.entries (ended_at 0 (asking (machine_of s.runs) 0 call).txns) s.runs.course number s.log → IsSound s.runs.entries (ended_at 0 (asking (machine_of s.runs) 0 call).txns) s.runs.course number (log_once r (steps.Client call) s.log) → (log : Log) × (durable c ≡ Ok log) × IsSound s.runs.entries (ended_at 0 (asking (machine_of s.runs) 0 call).txns) s.runs.course number log
    either c (inl e) kept gone = (s.log, e, kept)
    either c (inr e) kept gone = (log_once r (steps.Client call) s.log, e, gone)

    begins : (c : Areas) → (durable c ≡ Ok s.log) ⊎ (durable c ≡ Ok (log_once r (steps.Client call) s.log)) → IsSound s.runs.entries (ended_at 0 (asking (machine_of s.runs) 0 call).txns) s.runs.course number s.log → IsSound s.runs.entries (ended_at 0 (asking (machine_of s.runs) 0 call).txns) s.runs.course number (log_once r (steps.Client call) s.log) → (log : Log) × (durable c ≡ Ok log) × BeginsWith s.runs.entries log
    begins c (inl e) kept gone = (s.log, e, (kept.more, kept.holds))
    begins c (inr e) kept gone = (log_once r (steps.Client call) s.log, e, (gone.more, gone.holds))

-- the disk failed in the second step of a commit, behind its lines
second_cut : (last number : ℕ) (r : Open) (t : TxnId) (g : Going) (before now : Areas → Type 0) (order : ℕ) (effects : EventEffects) (m : Machine) → last < number → (s : Serving last r before m) → going_of r.front t ≡ Some g → IsCommit r s.log t g → effects ≡ effects_after (no_effects order) r (steps.Client (Commit t)) → StandForOneOf (log_once r (steps.Client (Commit t)) s.log) (log_twice r (steps.Client (Commit t)) s.log) now → IsFaulted number now (Commit t) order effects m
second_cut last number r t g before now order effects m later s is c told_so one =
    let event = steps.Client (Commit t) in
    let log1 : Log = log_once r event s.log in
    let log2 : Log = log_twice r event s.log in
    let e : Entry = entry_of t g in
    let ends : Ends r.front (front.ended r.front t) t = ends_changes r.front r.contents t g s.is_open.agrees.over is in
    let given : List Observation = lines_of t g r.shown in
    let lines_are : told_by r event ≡ given = c.committed.lines ∙ ap (λ n. says.Order t g.ops ∷ says.View n (r.shown + 1) ∷ says.Committed t ∷ []) s.is_open.first in
    let faults = commit_faults r.front (front.ended r.front t) r.shown r.contents m t g s.runs s.ruled is ends in
    let shut_there = faults.1.0 in
    let es : List Entry = with_entry s.runs.entries t g in
    let n : Machine = moved m (Client 0 (Commit t)) (given ++ says.Fault 0 ∷ []) in
    let commits1 : map as_commit es ≡ commits_in log1.records = entries_more s.runs.entries e (commits_in s.log.records) (commits_in log1.records) s.commits c.once in
    let commits2 : map as_commit es ≡ commits_in log2.records = entries_more s.runs.entries e (commits_in s.log.records) (commits_in log2.records) s.commits c.twice in
    let shows = commits_prefix (stable_in log1.records) log1.records in
    let k = s.short in
    let o1 = c.long_once in
    let o2 = c.long_twice in
    let known1 = known_once s.runs.course r s.log (Commit t) s.is_open.agrees tt s.fence s.epoch s.ruled in
    let known2 = known_twice s.runs.course r s.log (Commit t) s.is_open.agrees tt c.committed.due s.fence s.epoch s.ruled in
    let course = faults.1.1 in
    let sound1 : IsSound es shut_there.txns shut_there.course number log1 = subst (λ w. IsSound es shut_there.txns w number log1) (sym course) (sound_whole es shut_there.txns s.runs.course number log1 shows.0 commits1 shows.1 known1.0 known1.1 (omega (arith, k, o1, later))) in
    let sound2 : IsSound es shut_there.txns shut_there.course number log2 = subst (λ w. IsSound es shut_there.txns w number log2) (sym course) (sound_whole es shut_there.txns s.runs.course number log2 c.hidden.0 commits2 c.hidden.1 known2.0 known2.1 (omega (arith, k, o2, later))) in
    let then : Closed number now n = record { entries = es; is_shut = shut_there; sound = λ a is. either shut_there.txns shut_there.course a (one a is) sound1 sound2 } in
    let holds : StillHolds m now = subst (λ k. StillHolds k now) (sym s.runs.is)
    (begins_still s.runs.entries s.runs.acknowledged (serving s.runs.course (length s.runs.entries) r.front.begins s.runs.grants) s.runs.txns s.runs.course now refl (λ a is. begins a (one a is) (begins_less s.runs.entries e log1 (commits_in s.log.records) s.commits c.once) (begins_less s.runs.entries e log2 (commits_in s.log.records) s.commits c.twice))) in
    let most : ℕ = (outcome r event).shown in
    let Q : List Observation → Type 0 = λ ls. IsFaulted number now (Commit t) order (record { order = max order most; active = (effects_after (no_effects order) r event).active; lines = ls }) m in
    let continues : Continues most m n = continues_shut r.front r.shown most r.contents m n t g s.runs shut_there course c.committed.shows in
    subst (λ (done : EventEffects). IsFaulted number now (Commit t) order done m) (sym told_so) (subst Q (sym lines_are) (faults.0, then, holds, (most, refl, continues)))
  where
    either : (txns : List (TxnId × Txn)) (course : Course) (a : Areas) → (durable a ≡ Ok (log_once r (steps.Client (Commit t)) s.log)) ⊎ (durable a ≡ Ok (log_twice r (steps.Client (Commit t)) s.log)) → IsSound (with_entry s.runs.entries t g) txns course number (log_once r (steps.Client (Commit t)) s.log) → IsSound (with_entry s.runs.entries t g) txns course number (log_twice r (steps.Client (Commit t)) s.log) → (log : Log) × (durable a ≡ Ok log) × IsSound (with_entry s.runs.entries t g) txns course number log
    either txns course a (inl e) one two = (log_once r (steps.Client (Commit t)) s.log, e, one)
    either txns course a (inr e) one two = (log_twice r (steps.Client (Commit t)) s.log, e, two)

    begins : (a : Areas) → (durable a ≡ Ok (log_once r (steps.Client (Commit t)) s.log)) ⊎ (durable a ≡ Ok (log_twice r (steps.Client (Commit t)) s.log)) → BeginsWith s.runs.entries (log_once r (steps.Client (Commit t)) s.log) → BeginsWith s.runs.entries (log_twice r (steps.Client (Commit t)) s.log) → (log : Log) × (durable a ≡ Ok log) × BeginsWith s.runs.entries log
    begins a (inl e) one two = (log_once r (steps.Client (Commit t)) s.log, e, one)
    begins a (inr e) one two = (log_twice r (steps.Client (Commit t)) s.log, e, two)

-- ---- each kind of call

-- what a call of a transaction that goes on does where it was cut off
abbrev GoingCut : Call → TxnId → Type 1
GoingCut call t = (last number : ℕ) (r : Open) (g : Going) (before now : Areas → Type 0) (order : ℕ) (effects : EventEffects) (m : Machine) → last < number → MayStep r (steps.Client call) → is_active r.role ≡ true → (s : Serving last r before m) → going_of r.front t ≡ Some g → IsCutOff r (steps.Client call) s.log (no_effects order) effects now → IsFaulted number now call order effects m

collection_cut : (call : Call) (t : TxnId) → IsInCollection call → txn_named call ≡ Some t → GoingCut call t
collection_cut call t in_one named last number r g before now order effects m later may on s is cut =
    let given = has_reply r call in_one (reply r call) refl in
    by given.0 given.1 given.0.op refl (collection_logs r call t g on in_one named is (Some given.0) given.1) cut
  where
    by : (given : Reply) → reply r call ≡ Some given → (op : Option Op) → given.op ≡ op → logged_by r call ≡ logged_op r.last t g given.op → IsCutOff r (steps.Client call) s.log (no_effects order) effects now → IsFaulted number now call order effects m
    by given says_so None none logged cut = absurd (silent_cut r call given s.log order effects now says_so (logged ∙ ap (logged_op r.last t g) none) cut)
    by given says_so (Some op) some logged (inl first) =
        let n : Machine = machine_of s.runs in
        let answers : answer n 0 call ≡ Some given = answer_told r.front r.shown r.contents m s.runs call ∙ (sym (active_reply r call on) ∙ says_so) in
        let logging : logs (asking n 0 call) call (answer n 0 call) ≡ true = ap (logs (asking n 0 call) call) answers ∙ ap (λ o. is_some o || (is_ok given.answer && ends_logged (asking n 0 call) call)) some in
        first_cut last number r call before now order effects m later may s logging (subst (MayFollow s.runs.entries (ended_at 0 (asking n 0 call).txns)) (sym (collection_commits r call in_one)) tt) first.0 first.2
    by given says_so (Some op) some logged (inr second) = absurd (false≢true (sym (told_is r call given says_so).not_due ∙ second.0))

commit_cut : (t : TxnId) → GoingCut (Commit t) t
commit_cut t last number r g before now order effects m later may on s is (inl first) =
    let n : Machine = machine_of s.runs in
    let answers : answer n 0 (Commit t) ≡ None = answer_told r.front r.shown r.contents m s.runs (Commit t) ∙ going_told r.front r.contents (Commit t) t g refl is in
    first_cut last number r (Commit t) before now order effects m later may s (ap (logs (asking n 0 (Commit t)) (Commit t)) answers) (commit_follows last r t g before m on s is) first.0 first.2
commit_cut t last number r g before now order effects m later may on s is (inr second) =
    second_cut last number r t g before now order effects m later s is (commit_is r s.log t g on s.is_open.agrees is) second.1 second.2

-- an abort logs where the transaction has records, and so operations
abort_logs : (r : Open) (t : TxnId) (g : Going) → is_active r.role ≡ true → going_of r.front t ≡ Some g → logged_by r (Abort t) ≡ logged_abort t g
abort_logs r t g on is = ap (λ o. option_map_or (λ going. logged_abort t going) o []) (cond-true (is_active r.role) (going_of r.front t) None on ∙ is)

abort_cut : (t : TxnId) → GoingCut (Abort t) t
abort_cut t last number r g before now order effects m later may on s is cut = by (g.last.0 == 0) refl cut
  where
    n : Machine
    n = machine_of s.runs

    says_so : reply r (Abort t) ≡ Some (plain answers.Done)
    says_so = active_reply r (Abort t) on ∙ going_told r.front r.contents (Abort t) t g refl is

    ends : (length g.ops == 0) ≡ false → ends_logged (asking n 0 (Abort t)) (Abort t) ≡ true
    ends some =
        let k = known_of r.front r.shown r.contents m s.runs t g is in
        let there : going_at n 0 t ≡ Some k.txn = cond-true _ (lookup (is_txn t) s.runs.txns) None k.live_there ∙ k.known in
        let F : Option Txn → Machine = λ o. option_map_or (λ x. put_txn (put_grants n 0 (released s.runs.grants t)) t (record x { live = false })) o n in
        ap (λ o. ends_logged (F o) (Abort t)) there
        ∙ (ap (λ b. option_map_or (λ x. not (length (ops_of x) == 0)) (cond b (Some (record k.txn { live = false })) (lookup (is_txn t) s.runs.txns)) false) (is_txn_same t)
        ∙ (ap (λ ops. not (length ops == 0)) k.ops ∙ ap (λ b. not b) some))

    by : (b : Bool) → (g.last.0 == 0) ≡ b → IsCutOff r (steps.Client (Abort t)) s.log (no_effects order) effects now → IsFaulted number now (Abort t) order effects m
    by true empty cut = absurd (silent_cut r (Abort t) (plain answers.Done) s.log order effects now says_so (abort_logs r t g on is ∙ ap (λ b. cond b [] (recs.End t g.last false ∷ [])) empty) cut)
    by false some (inl first) =
        let answers : answer n 0 (Abort t) ≡ Some (plain answers.Done) = answer_told r.front r.shown r.contents m s.runs (Abort t) ∙ (sym (active_reply r (Abort t) on) ∙ says_so) in
        let logging : logs (asking n 0 (Abort t)) (Abort t) (answer n 0 (Abort t)) ≡ true = ap (logs (asking n 0 (Abort t)) (Abort t)) answers ∙ ends (sym (s.recorded t g is) ∙ some) in
        first_cut last number r (Abort t) before now order effects m later may s logging tt first.0 first.2
    by false some (inr second) = absurd (false≢true (sym (told_is r (Abort t) (plain answers.Done) says_so).not_due ∙ second.0))

named_cut : (call : Call) (t : TxnId) → txn_named call ≡ Some t → GoingCut call t → (last number : ℕ) (r : Open) (before now : Areas → Type 0) (order : ℕ) (effects : EventEffects) (m : Machine) → last < number → MayStep r (steps.Client call) → is_active r.role ≡ true → (s : Serving last r before m) → IsCutOff r (steps.Client call) s.log (no_effects order) effects now → (o : Option Going) → going_of r.front t ≡ o → IsFaulted number now call order effects m
named_cut call t named going last number r before now order effects m later may on s cut (Some g) is = going last number r g before now order effects m later may on s is cut
named_cut call t named going last number r before now order effects m later may on s cut None none = absurd (silent_cut r call (plain (answers.Ended t)) s.log order effects now (active_reply r call on ∙ told_ended r.front r.contents call t named none) (none_logs r call t on named none) cut)

primary_cut : (last number : ℕ) (r : Open) (call : Call) (before now : Areas → Type 0) (order : ℕ) (effects : EventEffects) (m : Machine) → last < number → MayStep r (steps.Client call) → is_active r.role ≡ true → (s : Serving last r before m) → IsCutOff r (steps.Client call) s.log (no_effects order) effects now → IsFaulted number now call order effects m
primary_cut last number r Begin before now order effects m later may on s cut = absurd (silent_cut r Begin (plain (answers.Txn (next r.front))) s.log order effects now (active_reply r Begin on) refl cut)
primary_cut last number r (Make t name kind) before now order effects m later may on s cut = let call : Call = Make t name kind in named_cut call t refl (collection_cut call t tt refl) last number r before now order effects m later may on s cut (going_of r.front t) refl
primary_cut last number r (OnKey t name key asked) before now order effects m later may on s cut = let call : Call = OnKey t name key asked in named_cut call t refl (collection_cut call t tt refl) last number r before now order effects m later may on s cut (going_of r.front t) refl
primary_cut last number r (Commit t) before now order effects m later may on s cut = named_cut (Commit t) t refl (commit_cut t) last number r before now order effects m later may on s cut (going_of r.front t) refl
primary_cut last number r (Abort t) before now order effects m later may on s cut = named_cut (Abort t) t refl (abort_cut t) last number r before now order effects m later may on s cut (going_of r.front t) refl

role_cut : (last number : ℕ) (r : Open) (call : Call) (before now : Areas → Type 0) (order : ℕ) (effects : EventEffects) (m : Machine) → last < number → MayStep r (steps.Client call) → (role : Role) → r.role ≡ role → AsRole role last r before m → ((log : Log) → IsOpen r log before → IsCutOff r (steps.Client call) log (no_effects order) effects now) → IsFaulted number now call order effects m
role_cut last number r call before now order effects m later may Other e s cut = absurd (silent_cut r call (plain (answers.NotActive r.id)) s.log order effects now (rests_reply r call e) (rests_logs r call (ap is_active e)) (cut s.log s.is_open))
role_cut last number r call before now order effects m later may (Primary epoch active) e s cut = primary_cut last number r call before now order effects m later may (primary_active r s.log epoch active e s.is_open.agrees) s (cut s.log s.is_open)

-- A call that a fault cut off is told so, and the replica is closed.
pub call_cut : (last number : ℕ) (r : Open) (call : Call) (before now : Areas → Type 0) (order : ℕ) (effects : EventEffects) (m : Machine) → last < number → CallFits call → AsReplica (Some r) last before m → ((log : Log) → IsOpen r log before → IsCutOff r (steps.Client call) log (no_effects order) effects now) → IsFaulted number now call order effects m
call_cut last number r call before now order effects m later fits s cut = role_cut last number r call before now order effects m later fits r.role refl s cut

-- ---- want of memory

-- each log that the steps may leave begins with the order
some_begin : (r : Open) (call : Call) (entries : List Entry) (log : Log) (images : Areas → Type 0) → AgreesWith r log → MayStep r (steps.Client call) → BeginsWith entries log → HoldsSome r (steps.Client call) log images → Each images (λ c. (l : Log) × (durable c ≡ Ok l) × BeginsWith entries l)
some_begin r call entries log images agrees may begins some c is = by_case (some c is)
  where
    once : BeginsWith entries (log_once r (steps.Client call) log)
    once = (begins.0 ++ committed_by r (steps.Client call), sym (append_assoc (map as_commit entries) begins.0 (committed_by r (steps.Client call))) ∙ (ap (λ cs. cs ++ committed_by r (steps.Client call)) begins.1 ∙ sym (commits_after r log (steps.Client call) agrees may)))

    twice : is_due r (steps.Client call) ≡ true → BeginsWith entries (log_twice r (steps.Client call) log)
    twice due =
        let same = commits_after (stepped r (steps.Client call)) (log_once r (steps.Client call) log) steps.Barrier (steps_to r log (steps.Client call) agrees may).agrees (due_active r call due) in
        (once.0, once.1 ∙ sym (same ∙ append-nil (commits_in (log_once r (steps.Client call) log).records)))

    by_case : (durable c ≡ Ok log) ⊎ ((durable c ≡ Ok (log_once r (steps.Client call) log)) ⊎ ((is_due r (steps.Client call) ≡ true) × (durable c ≡ Ok (log_twice r (steps.Client call) log)))) → (l : Log) × (durable c ≡ Ok l) × BeginsWith entries l
    by_case (inl e) = (log, e, begins)
    by_case (inr (inl e)) = (log_once r (steps.Client call) log, e, once)
    by_case (inr (inr e)) = (log_twice r (steps.Client call) log, e.1, twice e.0)

role_short : (last : ℕ) (r : Open) (call : Call) (before now : Areas → Type 0) (m : Machine) → MayStep r (steps.Client call) → (role : Role) → AsRole role last r before m → ((log : Log) → IsOpen r log before → HoldsSome r (steps.Client call) log now) → StillHolds m now
role_short last r call before now m may Other s some =
    subst (λ n. StillHolds n now) (sym s.rests.is)
    (begins_still s.entries s.rests.acknowledged (resting s.rests.course r.shown) s.rests.txns s.rests.course now refl (some_begin r call s.entries s.log now s.is_open.agrees may (s.sound.more, s.sound.holds) (some s.log s.is_open)))
role_short last r call before now m may (Primary epoch active) s some =
    subst (λ n. StillHolds n now) (sym s.runs.is)
    (begins_still s.runs.entries s.runs.acknowledged (serving s.runs.course (length s.runs.entries) r.front.begins s.runs.grants) s.runs.txns s.runs.course now refl (some_begin r call s.runs.entries s.log now s.is_open.agrees may ([], append-nil (map as_commit s.runs.entries) ∙ s.commits) (some s.log s.is_open)))

-- Where memory was wanted, the disk still holds what was acknowledged.
pub call_short : (last : ℕ) (r : Open) (call : Call) (before now : Areas → Type 0) (m : Machine) → CallFits call → AsReplica (Some r) last before m → ((log : Log) → IsOpen r log before → HoldsSome r (steps.Client call) log now) → StillHolds m now
call_short last r call before now m fits s some = role_short last r call before now m fits r.role s some
