-- Commits at replica 0, and each kind of client call.
use Rattle.std.proofs.Common.{◌≡◌, ◌∙◌, sym, ap, subst, ℕ, ◌+◌, ◌*◌, ◌<◌, ◌≤◌, Bool, true, false, cond, List, [], ◌∷◌, ◌++◌, length, map, Option, Some, None, refl, arith, append-nil, length-append, max}
use Rattle.std.specs.Option.{option_map_or}
use Rattle.std.proofs.lemmas.List.{map-append}
use Rattle.std.proofs.lemmas.Option.{none-some}
use Rattle.rc_base.specs.declared.ids.Epoch.{Epoch}
use Rattle.rc_base.specs.declared.ids.TxnId.{TxnId}
use Rattle.coll_model.specs.Effect.{State, folded}
use Rattle.disk_model.specs.Disk.{Areas}
use Rattle.txn_table.specs.declared.committed.Committed.{Committed}
use Rattle.txn_table.specs.Log.{commits_in}
use Rattle.log_store.specs.declared.kept.Kept.{Kept as Log}
use Rattle.events.specs.declared.event.Event.TheVariants.{Client}
use Rattle.events.specs.declared.call.Call.{Call}
use Rattle.events.specs.declared.call.Call.TheVariants.{Begin, Make, OnKey, Commit, Abort}
use Rattle.order_machine.specs.declared.observation.Observation.{Observation}
use Rattle.order_machine.specs.declared.observation.Observation.TheVariants as says
use Rattle.events.specs.declared.answer.Reply.{Reply}
use Rattle.order_machine.specs.Order.{Entry}
use Rattle.order_machine.specs.Machine.{Machine}
use Rattle.key_locks.specs.Grants.{Grant}
use Rattle.events.specs.Locking.{locks_at, against}
use Rattle.events.specs.Answers.{plain, reply_to, live_reply, locked_or}
use Rattle.events.specs.Calls.{txn_named}
use Rattle.order_machine.specs.Legal.{moved}
use Rattle.replica_model.specs.declared.role.Role.{Role}
use Rattle.replica_model.specs.declared.role.Role.TheVariants.{Other, Primary}
use Rattle.replica_model.specs.declared.step.StepEvent.TheVariants as steps
use Rattle.replica.specs.Open.{Open, AgreesWith, shown_in}
use Rattle.replica.specs.Step.{MayStep, reply, is_active, logged_by, lengthened, outcome, stepped}
use Rattle.txn_front.specs.Front.{Fronted, Going, going_of, told, txn_at, AreAlike}
use Rattle.txn_front.specs.Front as front
use Rattle.world.specs.Disks.{as_commit}
use Rattle.world.specs.Course.{IsCourse, IsFence}
use Rattle.world.specs.Running.{running, Runs, RunsWith}
use Rattle.world.specs.Standing.{Course}
use Rattle.world.specs.Steps.{finished, log_once, log_twice}
use Rattle.world.specs.World.{IsOpen, Serving, AsRole, AsReplica}
use Rattle.world.proofs.Calls.Abort.{Ends}
use Rattle.world.proofs.Calls.Collection.{IsInCollection, going_told}
use Rattle.world.proofs.Calls.Commit.{entry_of, with_entry, lines_of, commit_serves}
use Rattle.world.proofs.Calls.Fronts.{changes_alike, ends_changes}
use Rattle.world.proofs.Calls.Steps.{IsCommitted, committed_is, committed_open, lengthened_role, lengthened_epoch}
use Rattle.world.proofs.Calls.AtReplica.{over, IsDone, IsServed, as_primary, primary_active, active_reply, longer, holds_from, rests_done, begin_done, ended_done, asked_done, aborted_done, recorded_at}
use Rattle.world.proofs.States.Later.{Continues}
use Rattle.world.proofs.Calls.LogEpochs.{fence_lengthened, latest_low}
use Rattle.world.proofs.States.Logs.{BeginsWith}
use Rattle.replica.proofs.Lengthened.{commits_after, shows_after, steps_to, logged_few}
use Rattle.events.specs.declared.answer.Answer.TheVariants as answers

-- ---- the commit of what goes on

-- what is known of it
pub record IsCommit (r : Open) (log : Log) (t : TxnId) (g : Going) : Type 0 where
  pub committed : IsCommitted r t g
  pub once : commits_in (log_once r (steps.Client (Commit t)) log).records ≡ commits_in log.records ++ as_commit (entry_of t g) ∷ []
  pub twice : commits_in (log_twice r (steps.Client (Commit t)) log).records ≡ commits_in log.records ++ as_commit (entry_of t g) ∷ []
  pub hidden : (more : List Committed) × (shown_in (log_twice r (steps.Client (Commit t)) log).records ++ more ≡ commits_in (log_twice r (steps.Client (Commit t)) log).records)
  pub long_once : length (log_once r (steps.Client (Commit t)) log).records ≤ length log.records + 2
  pub long_twice : length (log_twice r (steps.Client (Commit t)) log).records ≤ length log.records + 3

pub commit_is : (r : Open) (log : Log) (t : TxnId) (g : Going) → is_active r.role ≡ true → AgreesWith r log → going_of r.front t ≡ Some g → IsCommit r log t g
commit_is r log t g on agrees is =
    let event = steps.Client (Commit t) in
    let answered : reply r (Commit t) ≡ None = active_reply r (Commit t) on ∙ going_told r.front r.contents (Commit t) t g refl is in
    let done = committed_is r t g on is answered in
    let log1 : Log = log_once r event log in
    let may : MayStep r event = tt in
    let once : commits_in log1.records ≡ commits_in log.records ++ as_commit (entry_of t g) ∷ [] = commits_after r log event agrees may ∙ ap (λ cs. commits_in log.records ++ cs) done.commits in
    let agrees1 = (steps_to r log event agrees may).agrees in
    let count = length (logged_by r (Commit t)) in
    let may1 : MayStep (stepped r event) steps.Barrier = ap (λ (x : Open). is_active x.role) done.called_is ∙ (ap is_active (lengthened_role count r) ∙ on) in
    let twice : commits_in (log_twice r event log).records ≡ commits_in log1.records = commits_after (stepped r event) log1 steps.Barrier agrees1 may1 ∙ append-nil (commits_in log1.records) in
    let shows = shows_after (stepped r event) log1 steps.Barrier agrees1 may1 in
    let l1 = longer r event log in
    let l2 = longer (stepped r event) steps.Barrier log1 in
    let f = logged_few r event in
    record {
      committed = done;
      once = once;
      twice = twice ∙ once;
      hidden = (shows.0, shows.1 ∙ sym twice);
      long_once = omega (arith, l1, f);
      long_twice = omega (arith, l1, l2, f);
    }

-- the entries with one more
pub entries_more : (entries : List Entry) (e : Entry) (commits now : List Committed) → map as_commit entries ≡ commits → now ≡ commits ++ as_commit e ∷ [] → map as_commit (entries ++ e ∷ []) ≡ now
entries_more entries e commits now same more = map-append as_commit entries (e ∷ []) ∙ (ap (λ cs. cs ++ as_commit e ∷ []) same ∙ sym more)

pub begins_less : (entries : List Entry) (e : Entry) (log : Log) (commits : List Committed) → map as_commit entries ≡ commits → commits_in log.records ≡ commits ++ as_commit e ∷ [] → BeginsWith entries log
begins_less entries e log commits same more = (as_commit e ∷ [], ap (λ cs. cs ++ as_commit e ∷ []) same ∙ sym more)

-- the order has grown by one, which is shown
pub continues_commit : (front new : Fronted) (shown now_shown most : ℕ) (contents state : State) (m n : Machine) (t : TxnId) (g : Going) (h : Runs front shown contents m) → RunsWith (with_entry h.entries t g) h.course new now_shown state n → most ≡ shown + 1 → Continues most m n
continues_commit front new shown now_shown most contents state m n t g h w one_more =
    let k = w.0 in
    let es : List Entry = with_entry h.entries t g in
    let M : Machine = running h.entries h.acknowledged h.txns front.begins h.grants h.course in
    let K : List Entry → Course → Machine = λ es c. running es k.acknowledged k.txns new.begins k.grants c in
    let is : n ≡ K es h.course = k.is ∙ (ap (λ es. K es k.course) w.1.0 ∙ ap (K es) w.1.1) in
    let count : 0 + length es ≡ max (0 + length h.entries) most = let a = length-append h.entries (entry_of t g ∷ []) in let b = h.all_shown in grind (arith, a, b, one_more) in
    let same : Continues most M (K es h.course) = record { appointments = refl; config = refl; answers = refl; order = count } in
    subst (λ a. Continues most a n) (sym h.is) (subst (Continues most M) (sym is) same)

-- the replica behind both steps
abbrev last_open : (r : Open) → TxnId → Going → Open
last_open r t g = let x : Open = committed_open (length (logged_by r (Commit t))) t g r in lengthened 1 x.epoch x

commit_done : (last number : ℕ) (r r' : Open) (t : TxnId) (g : Going) (before now : Areas → Type 0) (lines : List Observation) (m : Machine) (epoch : Epoch) (active : Bool) → last < number → r.role ≡ Primary epoch active → going_of r.front t ≡ Some g → Serving last r before m → IsDone r r' (Commit t) before now lines → IsServed number r r' now (Commit t) lines m
commit_done last number r r' t g before now lines m epoch active later role is s d =
    let on : is_active r.role ≡ true = primary_active r s.log epoch active role s.is_open.agrees in
    let event = steps.Client (Commit t) in
    let count = length (logged_by r (Commit t)) in
    let c = commit_is r s.log t g on s.is_open.agrees is in
    let log2 : Log = log_twice r event s.log in
    let then : finished r event ≡ last_open r t g = c.committed.keeps ∙ ap (λ (x : Open). lengthened 1 x.epoch x) c.committed.called_is in
    let kept : r' ≡ over r'.log r'.front (last_open r t g) = d.kept ∙ ap (over r'.log r'.front) then in
    let alike : AreAlike r'.front (front.ended r.front t) = subst (λ (x : Open). AreAlike r'.front x.front) then d.alike in
    let ends : Ends r.front r'.front t = changes_alike r.front (front.ended r.front t) r'.front r.front.begins t None _ (ends_changes r.front r.contents t g s.is_open.agrees.over is) alike in
    let is_open : IsOpen r' log2 now = subst (λ l. IsOpen r' l now) (c.committed.log s.log) (d.stands s.log s.is_open) in
    let given : List Observation = lines_of t g r.shown in
    let lines_are : lines ≡ given = d.lines ∙ (c.committed.lines ∙ ap (λ n. says.Order t g.ops ∷ says.View n (r.shown + 1) ∷ says.Committed t ∷ []) s.is_open.first) in
    let serves = commit_serves r.front r'.front r.shown r.contents m t g s.runs is ends in
    let n : Machine = moved m (Client 0 (Commit t)) given in
    let es : List Entry = with_entry s.runs.entries t g in
    let shown : r.shown + 1 ≡ r'.shown = sym (ap (λ (x : Open). x.shown) kept) in
    let contents : folded r.contents g.ops ≡ r'.contents = sym (ap (λ (x : Open). x.contents) kept) in
    let runs_now : RunsWith es s.runs.course r'.front r'.shown r'.contents n = subst (λ k. RunsWith es s.runs.course r'.front k r'.contents n) shown (subst (λ x. RunsWith es s.runs.course r'.front (r.shown + 1) x n) contents serves.1) in
    let commits : map as_commit es ≡ commits_in log2.records = entries_more s.runs.entries (entry_of t g) (commits_in s.log.records) (commits_in log2.records) s.commits c.twice in
    let short : length log2.records ≤ 3 * number = let k = s.short in let l = c.long_twice in omega (arith, k, l, later) in
    let low = latest_low s.runs.course r.epoch s.epoch in
    let x : Open = committed_open count t g r in
    let fence_once : IsFence s.runs.course x.fence = fence_lengthened s.runs.course count r s.fence low in
    let fence : IsFence s.runs.course r'.fence = subst (λ (y : Open). IsFence s.runs.course y.fence) (sym kept) (fence_lengthened s.runs.course 1 x fence_once (latest_low s.runs.course x.epoch (lengthened_epoch count r ∙ s.epoch))) in
    let continues : Continues (outcome r event).shown m n = continues_commit r.front r'.front r.shown r'.shown (outcome r event).shown r.contents r'.contents m n t g s.runs runs_now c.committed.shows in
    let done : Serving number r' now n = record {
      runs = runs_now.0;
      ruled = subst IsCourse (sym runs_now.1.1) s.ruled;
      log = log2;
      is_open = is_open;
      epoch = ap (λ (x : Open). x.epoch) kept ∙ (lengthened_epoch count r ∙ (s.epoch ∙ ap (λ (c : Course). c.latest) (sym runs_now.1.1)));
      fence = subst (λ c. IsFence c r'.fence) (sym runs_now.1.1) fence;
      commits = ap (map as_commit) runs_now.1.0 ∙ commits;
      short = short;
      few = let k = s.few in let b = ends.begins_now in omega (arith, k, b, later);
      recorded = recorded_at r.front r'.front r.front.begins t None _ ends s.recorded (λ h e. absurd (none-some h e));
    } in
    let Q : List Observation → Type 0 = λ ls. IsServed number r r' now (Commit t) ls m in
    subst Q (sym lines_are)
    (serves.0, as_primary number r' now n epoch active (ap (λ (x : Open). x.role) kept ∙ (lengthened_role count r ∙ role)) done, holds_from last r before now m log2 s is_open.stands (begins_less s.runs.entries (entry_of t g) log2 (commits_in s.log.records) s.commits c.twice), continues)

-- ---- each kind of call at a primary

-- a call in a collection has an answer
pub has_reply : (r : Open) (call : Call) → IsInCollection call → (o : Option Reply) → reply r call ≡ o → (given : Reply) × (reply r call ≡ Some given)
has_reply r call in_one (Some given) e = (given, e)
has_reply r call in_one None e = absurd (by_role (is_active r.role) e)
  where
    by_lock : (grants : List Grant) (state : State) (t : TxnId) (c : Call) → IsInCollection c → (by : Option TxnId) → locked_or by (reply_to state c) ≡ None → ⊥
    by_lock grants state t c i (Some held_by) n = none-some _ (sym n)
    by_lock grants state t Begin i None n = i
    by_lock grants state t (Make u name kind) i None n = none-some _ (sym n)
    by_lock grants state t (OnKey u name key asked) i None n = none-some _ (sym n)
    by_lock grants state t (Commit u) i None n = i
    by_lock grants state t (Abort u) i None n = i

    by_going : (t : TxnId) (o : Option Going) → option_map_or (λ going. live_reply r.front.grants (folded r.contents going.ops) t call) o (Some (plain (answers.Ended t))) ≡ None → ⊥
    by_going t None n = none-some _ (sym n)
    by_going t (Some g) n = by_lock r.front.grants (folded r.contents g.ops) t call in_one (against r.front.grants t (locks_at (folded r.contents g.ops) call)) n

    by_name : (o : Option TxnId) → option_map_or (λ t. option_map_or (λ going. live_reply r.front.grants (folded r.contents going.ops) t call) (going_of r.front t) (Some (plain (answers.Ended t)))) o (Some (plain (answers.Txn (txn_at r.front (r.front.begins + 1))))) ≡ None → ⊥
    by_name None n = none-some _ (sym n)
    by_name (Some t) n = by_going t (going_of r.front t) n

    by_role : (b : Bool) → cond b (told r.front r.contents call) (Some (plain (answers.NotActive r.id))) ≡ None → ⊥
    by_role true n = by_name (txn_named call) n
    by_role false n = none-some _ (sym n)

-- what a call of a transaction that goes on does
abbrev GoingDone : Call → TxnId → Type 1
GoingDone call t = (last number : ℕ) (r r' : Open) (g : Going) (before now : Areas → Type 0) (lines : List Observation) (m : Machine) (epoch : Epoch) (active : Bool) → last < number → r.role ≡ Primary epoch active → going_of r.front t ≡ Some g → Serving last r before m → IsDone r r' call before now lines → IsServed number r r' now call lines m

in_collection : (call : Call) (t : TxnId) → IsInCollection call → txn_named call ≡ Some t → GoingDone call t
in_collection call t in_one named last number r r' g before now lines m epoch active later role is s d =
    let given = has_reply r call in_one (reply r call) refl in
    asked_done last number r r' call t g given.0 before now lines m epoch active later role in_one named is given.1 s d

named_done : (call : Call) (t : TxnId) → txn_named call ≡ Some t → GoingDone call t → (last number : ℕ) (r r' : Open) (before now : Areas → Type 0) (lines : List Observation) (m : Machine) (epoch : Epoch) (active : Bool) → last < number → r.role ≡ Primary epoch active → Serving last r before m → IsDone r r' call before now lines → (o : Option Going) → going_of r.front t ≡ o → IsServed number r r' now call lines m
named_done call t named going last number r r' before now lines m epoch active later role s d None none = ended_done last number r r' call t before now lines m epoch active later role named none s d
named_done call t named going last number r r' before now lines m epoch active later role s d (Some g) is = going last number r r' g before now lines m epoch active later role is s d

primary_done : (last number : ℕ) (r r' : Open) (call : Call) (before now : Areas → Type 0) (lines : List Observation) (m : Machine) (epoch : Epoch) (active : Bool) → last < number → r.role ≡ Primary epoch active → Serving last r before m → IsDone r r' call before now lines → IsServed number r r' now call lines m
primary_done last number r r' Begin before now lines m epoch active later role s d = begin_done last number r r' before now lines m epoch active later role s d
primary_done last number r r' (Make t name kind) before now lines m epoch active later role s d = let call : Call = Make t name kind in named_done call t refl (in_collection call t tt refl) last number r r' before now lines m epoch active later role s d (going_of r.front t) refl
primary_done last number r r' (OnKey t name key asked) before now lines m epoch active later role s d = let call : Call = OnKey t name key asked in named_done call t refl (in_collection call t tt refl) last number r r' before now lines m epoch active later role s d (going_of r.front t) refl
primary_done last number r r' (Commit t) before now lines m epoch active later role s d = named_done (Commit t) t refl (λ l n a b g. commit_done l n a b t g) last number r r' before now lines m epoch active later role s d (going_of r.front t) refl
primary_done last number r r' (Abort t) before now lines m epoch active later role s d = named_done (Abort t) t refl (λ l n a b g. aborted_done l n a b t g) last number r r' before now lines m epoch active later role s d (going_of r.front t) refl

role_done : (last number : ℕ) (r r' : Open) (call : Call) (before now : Areas → Type 0) (lines : List Observation) (m : Machine) → last < number → (role : Role) → r.role ≡ role → AsRole role last r before m → IsDone r r' call before now lines → IsServed number r r' now call lines m
role_done last number r r' call before now lines m later Other e s d = rests_done last number r r' call before now lines m later e s d
role_done last number r r' call before now lines m later (Primary epoch active) e s d = primary_done last number r r' call before now lines m epoch active later e s d

-- A call whose steps were done serves at each state.
pub call_done : (last number : ℕ) (r r' : Open) (call : Call) (before now : Areas → Type 0) (lines : List Observation) (m : Machine) → last < number → AsReplica (Some r) last before m → IsDone r r' call before now lines → IsServed number r r' now call lines m
call_done last number r r' call before now lines m later s d = role_done last number r r' call before now lines m later r.role refl s d
