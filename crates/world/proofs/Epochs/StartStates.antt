-- Replica 0 and its disk behind an appointment: it serves, or the disk failed before its lines or behind them.
use Rattle.std.proofs.Common.{◌≡◌, ◌∙◌, sym, ap, subst, refl, ℕ, ◌*◌, ◌≤◌, ◌<◌, List, [], ◌∷◌, ◌++◌, length, map, set, get_or, true, Some, None, Ok, arith, inl, ⊎_elim}
use Rattle.std.proofs.lemmas.Option.{none-some}
use Rattle.rc_base.specs.declared.ids.Epoch.{Epoch}
use Rattle.disk_model.specs.Disk.{Areas, Each}
use Rattle.txn_table.specs.Log.{commits_in, last_epoch}
use Rattle.log_store.specs.declared.kept.Kept.{Kept as Log}
use Rattle.log_store.specs.Durable.{durable, StandForOneOf}
use Rattle.txn_table.specs.Epochs.{later}
use Rattle.events.specs.declared.event.Event.TheVariants.{Appoint}
use Rattle.order_machine.specs.declared.observation.Observation.TheVariants as says
use Rattle.order_machine.specs.Order.{empty_order}
use Rattle.order_machine.specs.Machine.{Machine, Replica, never_opened, without_role, ended_at}
use Rattle.order_machine.specs.Legal.{moved}
use Rattle.txn_front.specs.Front.{Fronted, nothing, going_of}
use Rattle.replica.specs.Open.{Open, AreSame}
use Rattle.txn_table.specs.Whole.{stable_in}
use Rattle.replica.specs.Step.{started}
use Rattle.replica.proofs.Lengthened.{commits_prefix}
use Rattle.world.specs.Course.{IsCourse, IsFence, IsLogged, is_appointed}
use Rattle.world.specs.Disks.{as_commit, HoldsTo, acknowledged_to}
use Rattle.world.specs.Running.{running}
use Rattle.world.specs.Standing.{Course, resting}
use Rattle.world.specs.Steps.{finished, log_once, log_twice, log_behind, HoldsSome}
use Rattle.world.specs.World.{Serving, Closed, AsReplica, IsOpen, IsSound, StillHolds}
use Rattle.world.proofs.Epochs.Appointment.{Appoints, course_of, course_then, course_now, entries_now, below, may_start, all_commits, runs_there, all_lines, appoint_serves, appoint_faults_behind, appoint_faults_first}
use Rattle.world.proofs.Calls.OneTxn.{runs_alike}
use Rattle.rc_base.proofs.EpochOrder.{epoch_le_refl}
use Rattle.world.proofs.States.PastTxns.{past_ended, follow_ended}
use Rattle.world.proofs.States.Logs.{BeginsWith, begins_still, sound_whole}
use Rattle.world.proofs.Epochs.StartCourse.{course_appointed, course_active, fence_appointed, fence_active, logged_appointed, logged_active, appointed_now}
use Rattle.world.proofs.Epochs.StartLines.{appointed_course}
use Rattle.world.proofs.Epochs.StartLogs.{start, once_commits, twice_commits, once_shows, once_epoch, twice_epoch, fence_later, once_long, twice_long}
use Rattle.world.proofs.Epochs.StartMachines.{nothing_going, past_appointed, past_started}

-- ---- what was acknowledged is held still

-- the end of a role names no other order
pub loss_same : (rs : List Replica) → (get_or (set rs 0 (record (get_or rs 0 never_opened) { role = None; grants = [] })) 0 never_opened).loss ≡ (get_or rs 0 never_opened).loss
loss_same [] = refl
loss_same (r ∷ rs) = refl

still_ended : (m : Machine) (images : Areas → Type 0) → StillHolds (without_role m 0) images → StillHolds m images
still_ended m images still booted =
    subst (λ (k : ℕ). Each images (λ c. (log : Log) × (durable c ≡ Ok log) × HoldsTo (get_or m.orders k empty_order) (acknowledged_to m.acknowledged (get_or m.orders k empty_order).entries) log)) (loss_same m.replicas) (still booted)

-- each of the three logs begins with the entries
begins_each : (last : ℕ) (r : Open) (before now : Areas → Type 0) (m : Machine) (e : Epoch) (h : Appoints last r before m e) → HoldsSome r (start e) h.rests.log now → Each now (λ c. (log : Log) × (durable c ≡ Ok log) × BeginsWith h.rests.entries log)
begins_each last r before now m e h holds = λ c is. ⊎_elim
    (λ (old : durable c ≡ Ok h.rests.log). (h.rests.log, old, (h.rests.sound.more, h.rests.sound.holds)))
    (λ behind. ⊎_elim
    (λ (once : durable c ≡ Ok (log_once r (start e) h.rests.log)). (log_once r (start e) h.rests.log, once, (h.rests.sound.more, h.rests.sound.holds ∙ sym (once_commits r h.rests.log e h.rests.is_open.agrees (may_start last r before m e h)))))
    (λ twice. (log_twice r (start e) h.rests.log, twice.1, (h.rests.sound.more, h.rests.sound.holds ∙ sym (twice_commits r h.rests.log e h.rests.is_open.agrees (may_start last r before m e h)))))
    behind)
    (holds c is)

pub start_still : (last : ℕ) (r : Open) (before now : Areas → Type 0) (m : Machine) (e : Epoch) (h : Appoints last r before m e) → HoldsSome r (start e) h.rests.log now → StillHolds m now
start_still last r before now m e h holds = still_ended m now
    (subst (λ (n : Machine). StillHolds n now) (sym h.rests.rests.is)
    (begins_still h.rests.entries h.rests.rests.acknowledged (resting (course_of h) r.shown) h.rests.rests.txns (course_of h) now refl (begins_each last r before now m e h holds)))

-- ---- courses

course_is : (last : ℕ) (r : Open) (before : Areas → Type 0) (m : Machine) (e : Epoch) (h : Appoints last r before m e) → IsCourse (course_then h)
course_is last r before m e h = course_appointed (course_of h) e h.rests.rests.ruled (below last r before m e h)

-- a fence and a log of before
fence_was : (last : ℕ) (r : Open) (before : Areas → Type 0) (m : Machine) (e : Epoch) (h : Appoints last r before m e) → IsFence (course_then h) h.rests.log.fence
fence_was last r before m e h = fence_appointed (course_of h) e h.rests.log.fence (below last r before m e h) h.rests.sound.fence

-- and those of the epoch
fence_here : (course : Course) (e : Epoch) → IsFence (appointed_course course e) e
fence_here course e = inl (epoch_le_refl e)

logged_here : (course : Course) (e : Epoch) (log : Log) → last_epoch log.records ≡ e → IsLogged (appointed_course course e) log
logged_here course e log is = inl (subst (λ (f : Epoch). is_appointed (appointed_course course e) f ≡ true) (sym is) (appointed_now course e))

fence_once : (last : ℕ) (r : Open) (before : Areas → Type 0) (m : Machine) (e : Epoch) (h : Appoints last r before m e) → IsFence (course_then h) (later h.rests.log.fence e)
fence_once last r before m e h = fence_later (course_then h) h.rests.log.fence e (fence_was last r before m e h) (fence_here (course_of h) e)

fence_twice : (last : ℕ) (r : Open) (before : Areas → Type 0) (m : Machine) (e : Epoch) (h : Appoints last r before m e) → IsFence (course_then h) (later (later h.rests.log.fence e) e)
fence_twice last r before m e h = fence_later (course_then h) (later h.rests.log.fence e) e (fence_once last r before m e h) (fence_here (course_of h) e)

-- ---- it serves

pub start_serving : (last number : ℕ) (r x : Open) (before now : Areas → Type 0) (m : Machine) (e : Epoch) (order : ℕ) (h : Appoints last r before m e) → order ≡ length h.rests.entries → last < number → AreSame x (record (finished r (start e)) { log = x.log }) → IsOpen x (log_behind r (start e) h.rests.log) now →
    AsReplica (Some x) number now (moved m (Appoint e 0 (0 ∷ [])) (all_lines order r))
start_serving last number r x before now m e order h counted rising kept o =
    let y : Open = record (finished r (start e)) { log = x.log; front = x.front } in
    let log2 : Log = log_twice r (start e) h.rests.log in
    let n : Machine = running (entries_now h) h.rests.rests.acknowledged h.rests.rests.txns 0 [] (course_now h) in
    let may = may_start last r before m e h in
    let agrees = h.rests.is_open.agrees in
    let runs = runs_alike (entries_now h) (course_now h) (nothing e) x.front (started e r).shown (started e r).contents n kept.front (runs_there last r before m e h) in
    let course : course_now h ≡ runs.0.course = sym runs.1.1 in
    let fence : IsFence (course_then h) (later (later r.fence e) e) = subst (λ (f : Epoch). IsFence (course_then h) (later (later f e) e)) agrees.fence (fence_twice last r before m e h) in
    let served : Serving number y now n = record {
      runs = runs.0;
      ruled = subst IsCourse course (course_active (course_then h) (course_is last r before m e h));
      log = log2;
      is_open = subst (λ (z : Open). IsOpen z log2 now) kept.same o;
      epoch = ap (λ (c : Course). c.latest) course;
      fence = subst (λ (c : Course). IsFence c (later (later r.fence e) e)) course (fence_active (course_then h) (later (later r.fence e) e) fence);
      commits = ap (map as_commit) runs.1.0 ∙ (all_commits last r before m e h ∙ sym (twice_commits r h.rests.log e agrees may));
      short = let s = h.rests.sound.short in let l = twice_long r h.rests.log e in omega (arith, s, l, rising);
      few = let none : x.front.begins ≡ 0 = ap (λ (g : Fronted). g.begins) kept.front.same in omega (arith, none);
      recorded = λ t going is. absurd (none-some going (sym (ap (λ (g : Fronted). going_of g t) kept.front.same ∙ nothing_going e t) ∙ is));
    } in
    subst (λ (k : Machine). AsReplica (Some x) number now k) (sym (appoint_serves last r before m e order h counted).1)
    (subst (λ (z : Open). AsReplica (Some z) number now n) (sym kept.same) served)

-- ---- the disk failed before its lines

first_sound : (last number : ℕ) (r : Open) (before : Areas → Type 0) (m : Machine) (e : Epoch) (h : Appoints last r before m e) → last < number → IsSound h.rests.entries (ended_at 0 h.rests.rests.txns) (course_then h) number h.rests.log
first_sound last number r before m e h rising = record {
  more = h.rests.sound.more;
  holds = h.rests.sound.holds;
  follow = follow_ended h.rests.entries h.rests.rests.txns h.rests.sound.more h.rests.sound.follow;
  hidden = h.rests.sound.hidden;
  shows = h.rests.sound.shows;
  fence = fence_was last r before m e h;
  logged = logged_appointed (course_of h) e h.rests.log h.rests.sound.logged;
  short = let s = h.rests.sound.short in omega (arith, s, rising);
}

once_sound : (last number : ℕ) (r : Open) (before : Areas → Type 0) (m : Machine) (e : Epoch) (h : Appoints last r before m e) → last < number → IsSound h.rests.entries (ended_at 0 h.rests.rests.txns) (course_then h) number (log_once r (start e) h.rests.log)
once_sound last number r before m e h rising =
    let may = may_start last r before m e h in
    let agrees = h.rests.is_open.agrees in
    record {
      more = h.rests.sound.more;
      holds = h.rests.sound.holds ∙ sym (once_commits r h.rests.log e agrees may);
      follow = follow_ended h.rests.entries h.rests.rests.txns h.rests.sound.more h.rests.sound.follow;
      hidden = h.rests.sound.hidden;
      shows = ap (λ cs. cs ++ h.rests.sound.hidden) (once_shows r h.rests.log e agrees) ∙ h.rests.sound.shows;
      fence = fence_once last r before m e h;
      logged = logged_here (course_of h) e (log_once r (start e) h.rests.log) (once_epoch r h.rests.log e agrees may);
      short = let s = h.rests.sound.short in let l = once_long r h.rests.log e in omega (arith, s, l, rising);
    }

pub start_closed_first : (last number : ℕ) (r : Open) (before now : Areas → Type 0) (m : Machine) (e : Epoch) (h : Appoints last r before m e) → last < number → StandForOneOf h.rests.log (log_once r (start e) h.rests.log) now →
    Closed number now (moved m (Appoint e 0 (0 ∷ [])) (says.Fault 0 ∷ []))
start_closed_first last number r before now m e h rising one = record {
  entries = h.rests.entries;
  is_shut = record {
    acknowledged = h.rests.rests.acknowledged;
    txns = ended_at 0 h.rests.rests.txns;
    course = course_then h;
    shown = r.shown;
    is = (appoint_faults_first last r before m e h).1;
    ruled = course_is last r before m e h;
    past = past_appointed (course_of h) e h.rests.entries h.rests.rests.acknowledged (ended_at 0 h.rests.rests.txns) (below last r before m e h) (past_ended (course_of h) h.rests.entries h.rests.rests.acknowledged h.rests.rests.txns h.rests.rests.past);
  };
  sound = λ c is. ⊎_elim
      (λ (old : durable c ≡ Ok h.rests.log). (h.rests.log, old, first_sound last number r before m e h rising))
      (λ (once : durable c ≡ Ok (log_once r (start e) h.rests.log)). (log_once r (start e) h.rests.log, once, once_sound last number r before m e h rising))
      (one c is);
}

-- ---- the disk failed behind them

behind_sound : (last number : ℕ) (r : Open) (before : Areas → Type 0) (m : Machine) (e : Epoch) (h : Appoints last r before m e) (log : Log) → commits_in log.records ≡ commits_in h.rests.log.records → IsFence (course_then h) log.fence → IsLogged (course_then h) log → length log.records ≤ 3 * number →
    IsSound (entries_now h) (ended_at 0 h.rests.rests.txns) (course_now h) number log
behind_sound last number r before m e h log same fence logged short =
    let shows = commits_prefix (stable_in log.records) log.records in
    sound_whole (entries_now h) (ended_at 0 h.rests.rests.txns) (course_now h) number log shows.0 (all_commits last r before m e h ∙ sym same) shows.1 (fence_active (course_then h) log.fence fence) (logged_active (course_then h) log logged) short

pub start_closed_behind : (last number : ℕ) (r : Open) (before now : Areas → Type 0) (m : Machine) (e : Epoch) (order : ℕ) (h : Appoints last r before m e) → order ≡ length h.rests.entries → last < number → HoldsSome r (start e) h.rests.log now →
    Closed number now (moved m (Appoint e 0 (0 ∷ [])) (all_lines order r ++ says.Fault 0 ∷ []))
start_closed_behind last number r before now m e order h counted rising holds =
    let may = may_start last r before m e h in
    let agrees = h.rests.is_open.agrees in
    let log1 : Log = log_once r (start e) h.rests.log in
    let log2 : Log = log_twice r (start e) h.rests.log in
    let few = h.rests.sound.short in
    let long1 = once_long r h.rests.log e in
    let long2 = twice_long r h.rests.log e in
    record {
      entries = entries_now h;
      is_shut = record {
        acknowledged = h.rests.rests.acknowledged;
        txns = ended_at 0 h.rests.rests.txns;
        course = course_now h;
        shown = length (entries_now h);
        is = (appoint_faults_behind last r before m e order h counted).1;
        ruled = course_active (course_then h) (course_is last r before m e h);
        past = past_started (course_of h) e h.rests.entries h.rests.rests.acknowledged (ended_at 0 h.rests.rests.txns) h.rests.sound.more (below last r before m e h) (past_ended (course_of h) h.rests.entries h.rests.rests.acknowledged h.rests.rests.txns h.rests.rests.past) (follow_ended h.rests.entries h.rests.rests.txns h.rests.sound.more h.rests.sound.follow);
      };
      sound = λ c is. ⊎_elim
          (λ (old : durable c ≡ Ok h.rests.log). (h.rests.log, old, behind_sound last number r before m e h h.rests.log refl (fence_was last r before m e h) (logged_appointed (course_of h) e h.rests.log h.rests.sound.logged) (omega (arith, few, rising))))
          (λ behind. ⊎_elim
          (λ (once : durable c ≡ Ok log1). (log1, once, behind_sound last number r before m e h log1 (once_commits r h.rests.log e agrees may) (fence_once last r before m e h) (logged_here (course_of h) e log1 (once_epoch r h.rests.log e agrees may)) (omega (arith, few, long1, rising))))
          (λ twice. (log2, twice.1, behind_sound last number r before m e h log2 (twice_commits r h.rests.log e agrees may) (fence_twice last r before m e h) (logged_here (course_of h) e log2 (twice_epoch r h.rests.log e agrees may)) (omega (arith, few, long2, rising))))
          behind)
          (holds c is);
    }
