-- An appointment of replica 0, alone, to an epoch, where it is open: what it tells, and the states behind it.
use Rattle.std.proofs.Common.{◌≡◌, ◌∙◌, sym, ap, subst, refl, ℕ, ◌+◌, ◌-◌, true, false, List, [], ◌∷◌, ◌++◌, length, map, drop, Some, None, arith, append-nil, length-append, append_assoc, inl, inr}
use Rattle.std.specs.List.{list_all}
use Rattle.std.proofs.lemmas.List.{length-map, append_cancel_left}
use Rattle.world.proofs.Epochs.SurveyLines.{below_all}
use Rattle.world.proofs.States.Logs.{ops_of_entries}
use Rattle.rc_base.specs.declared.ids.Epoch.{Epoch}
use Rattle.rc_base.specs.declared.ids.TxnId.{TxnId}
use Rattle.rc_base.specs.Ids.{epoch_lt}
use Rattle.coll_model.specs.Effect.{folded}
use Rattle.disk_model.specs.Disk.{Areas}
use Rattle.txn_table.specs.declared.committed.Committed.{Committed}
use Rattle.txn_table.specs.Log.{commits_in, last_epoch}
use Rattle.events.specs.declared.event.Event.TheVariants.{Appoint}
use Rattle.order_machine.specs.declared.observation.Observation.{Observation}
use Rattle.order_machine.specs.declared.observation.Observation.TheVariants as says
use Rattle.order_machine.specs.Order.{Entry}
use Rattle.order_machine.specs.Machine.{Machine, Txn, replica, without_role, closed, ended_at, put_role}
use Rattle.order_machine.specs.Transitions.{Position, HoldsBehind, refusal, opened, at_start, new_role}
use Rattle.order_machine.specs.Legal.{IsWhole, moved}
use Rattle.txn_front.specs.Front.{nothing}
use Rattle.replica.specs.Open as opens
use Rattle.replica.specs.Open.{Open, commits_to}
use Rattle.replica.specs.Step.{MayStep, started}
use Rattle.world.specs.Course.{MayFollow, IsLogged}
use Rattle.world.specs.Disks.{as_commit}
use Rattle.world.specs.Running.{running, state_of, RunsWith}
use Rattle.world.specs.Standing.{Course, standing, shut}
use Rattle.world.specs.Steps.{told_start, log_once}
use Rattle.world.specs.World.{Resting}
use Rattle.rc_base.proofs.EpochOrder.{epoch_lt_none}
use Rattle.world.proofs.Exits.FaultLines.{fault_behind}
use Rattle.world.proofs.States.NothingPending.{holds_behind}
use Rattle.world.proofs.States.Beginnings.{served_from}
use Rattle.world.proofs.Epochs.StartCourse.{latest_below}
use Rattle.world.proofs.Epochs.StartLines.{appointed_course, active_course, as_entry, with_more, start_at, start_lines, Starts, starts}
use Rattle.world.proofs.Epochs.StartLogs.{start, once_agrees, once_commits}
use Rattle.world.proofs.Epochs.StartMachines.{started_with}
use Rattle.world.proofs.States.RoleEnd.{holds_without_role}

-- Once the role of the replica has ended it rests, and the epoch is above each appointed.
pub record Appoints (last : ℕ) (r : Open) (images : Areas → Type 0) (m : Machine) (e : Epoch) : Type 0 where
  pub rests : Resting last r images (without_role m 0)
  pub above : list_all (λ a. epoch_lt a.epoch e) m.appointments ≡ true
  pub unrefused : refusal m (Appoint e 0 (0 ∷ [])) ≡ None

-- ---- what it stands on

-- the course before, as replica 0 is appointed, and once it is active
abbrev pub course_of : {last : ℕ} {r : Open} {images : Areas → Type 0} {m : Machine} {e : Epoch} → Appoints last r images m e → Course
course_of h = h.rests.rests.course

abbrev pub course_then : {last : ℕ} {r : Open} {images : Areas → Type 0} {m : Machine} {e : Epoch} → Appoints last r images m e → Course
course_then {e} h = appointed_course h.rests.rests.course e

abbrev pub course_now : {last : ℕ} {r : Open} {images : Areas → Type 0} {m : Machine} {e : Epoch} → Appoints last r images m e → Course
course_now {e} h = active_course (appointed_course h.rests.rests.course e)

-- the order behind it
abbrev pub entries_now : {last : ℕ} {r : Open} {images : Areas → Type 0} {m : Machine} {e : Epoch} → Appoints last r images m e → List Entry
entries_now h = with_more h.rests.entries h.rests.sound.more

pub above_course : (last : ℕ) (r : Open) (images : Areas → Type 0) (m : Machine) (e : Epoch) (h : Appoints last r images m e) → list_all (λ a. epoch_lt a.epoch e) ((course_of h).first ∷ (course_of h).later) ≡ true
above_course last r images m e h = subst (λ xs. list_all (λ a. epoch_lt a.epoch e) xs ≡ true) (ap (λ (n : Machine). n.appointments) h.rests.rests.is) h.above

pub below : (last : ℕ) (r : Open) (images : Areas → Type 0) (m : Machine) (e : Epoch) (h : Appoints last r images m e) → epoch_lt (course_of h).latest e ≡ true
below last r images m e h = latest_below (course_of h) e h.rests.rests.ruled (above_course last r images m e h)

pub may_start : (last : ℕ) (r : Open) (images : Areas → Type 0) (m : Machine) (e : Epoch) (h : Appoints last r images m e) → MayStep r (start e)
may_start last r images m e h = record {
  above = by h.rests.sound.logged;
  own = sym h.rests.is_open.first;
  alone = ap (λ n. n ∷ []) (sym h.rests.is_open.first);
  alone_before = ap (λ n. n ∷ []) (sym h.rests.is_open.first);
}
  where
    by : IsLogged (course_of h) h.rests.log → epoch_lt r.epoch e ≡ true
    by (inl there) = subst (λ (f : Epoch). epoch_lt f e ≡ true) h.rests.is_open.agrees.epoch (below_all e (last_epoch h.rests.log.records) ((course_of h).first ∷ (course_of h).later) (above_course last r images m e h) there)
    by (inr empty) = subst (λ (f : Epoch). epoch_lt f e ≡ true) (sym (ap last_epoch empty) ∙ h.rests.is_open.agrees.epoch) (epoch_lt_none (course_of h).latest e (below last r images m e h))

opened_there : (last : ℕ) (r : Open) (images : Areas → Type 0) (m : Machine) (e : Epoch) (h : Appoints last r images m e) → opened m (Appoint e 0 (0 ∷ [])) ≡ start_at h.rests.entries h.rests.rests.acknowledged h.rests.rests.txns (course_then h) r.shown
opened_there last r images m e h = ap
    (λ (w : Machine). at_start (let ended = put_role w 0 (Some (new_role e)) in record ended {
      appointments = w.appointments ++ record { epoch = e; primary = 0; previous = w.config; current = 0 ∷ []; dropped = false; was_active = false } ∷ [];
    }) (Appoint e 0 (0 ∷ [])) 0 None [])
    h.rests.rests.is

-- ---- the order

map_more : (entries : List Entry) (c : Committed) → map as_commit (entries ++ as_entry c ∷ []) ≡ map as_commit entries ++ c ∷ []
map_more [] c = refl
map_more (e ∷ entries) c = ap (λ cs. as_commit e ∷ cs) (map_more entries c)

more_commits : (entries : List Entry) (txns : List (TxnId × Txn)) (more : List Committed) → MayFollow entries txns more → map as_commit (with_more entries more) ≡ map as_commit entries ++ more
more_commits entries txns [] follow = sym (append-nil (map as_commit entries))
more_commits entries txns (c ∷ []) follow = map_more entries c
more_commits entries txns (c ∷ d ∷ more) follow = absurd follow

-- the order is all that the log commits
pub all_commits : (last : ℕ) (r : Open) (images : Areas → Type 0) (m : Machine) (e : Epoch) (h : Appoints last r images m e) → map as_commit (entries_now h) ≡ commits_in h.rests.log.records
all_commits last r images m e h = more_commits h.rests.entries h.rests.rests.txns h.rests.sound.more h.rests.sound.follow ∙ h.rests.sound.holds

-- and is shown
shows_all : (last : ℕ) (r : Open) (images : Areas → Type 0) (m : Machine) (e : Epoch) (h : Appoints last r images m e) → commits_to (started e r).stable.0 (log_once r (start e) h.rests.log).records ≡ map as_commit (entries_now h)
shows_all last r images m e h =
    let may = may_start last r images m e h in
    let once = once_agrees r h.rests.log e h.rests.is_open.agrees may in
    sym (append-nil (commits_to (started e r).stable.0 (log_once r (start e) h.rests.log).records)) ∙ (sym once.commits ∙ (once_commits r h.rests.log e h.rests.is_open.agrees may ∙ sym (all_commits last r images m e h)))

pub shown_now : (last : ℕ) (r : Open) (images : Areas → Type 0) (m : Machine) (e : Epoch) (h : Appoints last r images m e) → r.shown + length r.ahead ≡ length (entries_now h)
shown_now last r images m e h =
    let once = once_agrees r h.rests.log e h.rests.is_open.agrees (may_start last r images m e h) in
    sym once.shown ∙ (ap length (shows_all last r images m e h) ∙ length-map (entries_now h) as_commit)

contents_now : (last : ℕ) (r : Open) (images : Areas → Type 0) (m : Machine) (e : Epoch) (h : Appoints last r images m e) → (started e r).contents ≡ state_of (entries_now h)
contents_now last r images m e h =
    let once = once_agrees r h.rests.log e h.rests.is_open.agrees (may_start last r images m e h) in
    sym once.contents ∙ (ap opens.state_of (shows_all last r images m e h) ∙ ap (folded []) (ops_of_entries (entries_now h)))

pub shown_before : (last : ℕ) (r : Open) (images : Areas → Type 0) (m : Machine) (e : Epoch) (h : Appoints last r images m e) → r.shown + length h.rests.hidden ≡ length h.rests.entries
shown_before last r images m e h =
    let counted = h.rests.is_open.agrees.shown in
    let parts = length-append (commits_to r.stable.0 h.rests.log.records) h.rests.hidden in
    let all = ap length h.rests.shows in
    let n = length-map h.rests.entries as_commit in
    omega (arith, counted, parts, all, n)

-- ---- its lines

drop_front : (xs ys : List Committed) (n : ℕ) → n ≡ length xs → drop n (xs ++ ys) ≡ ys
drop_front xs ys n is = subst (λ k. drop k (xs ++ ys) ≡ ys) (sym is) (front xs)
  where
    front : (zs : List Committed) → drop (length zs) (zs ++ ys) ≡ ys
    front [] = refl
    front (z ∷ zs) = front zs

ahead_is : (last : ℕ) (r : Open) (images : Areas → Type 0) (m : Machine) (e : Epoch) (h : Appoints last r images m e) → r.ahead ≡ h.rests.hidden ++ h.rests.sound.more
ahead_is last r images m e h =
    let shown = commits_to r.stable.0 h.rests.log.records in
    append_cancel_left shown r.ahead (h.rests.hidden ++ h.rests.sound.more)
    (sym h.rests.is_open.agrees.commits ∙ (sym h.rests.sound.holds ∙ (ap (λ cs. cs ++ h.rests.sound.more) (sym h.rests.shows) ∙ append_assoc shown h.rests.hidden h.rests.sound.more)))

pub lines_are : (last : ℕ) (r : Open) (images : Areas → Type 0) (m : Machine) (e : Epoch) (order : ℕ) (h : Appoints last r images m e) → order ≡ length h.rests.entries → told_start order r ≡ start_lines r.shown h.rests.sound.more (r.shown + length r.ahead)
lines_are last r images m e order h counted =
    let before = shown_before last r images m e h in
    let left : drop (order - r.shown) r.ahead ≡ h.rests.sound.more = ap (drop (order - r.shown)) (ahead_is last r images m e h) ∙ drop_front h.rests.hidden h.rests.sound.more (order - r.shown) (omega (arith, counted, before)) in
    rw (left, h.rests.is_open.first) refl

pub starts_there : (last : ℕ) (r : Open) (images : Areas → Type 0) (m : Machine) (e : Epoch) (h : Appoints last r images m e) →
    Starts (start_at h.rests.entries h.rests.rests.acknowledged h.rests.rests.txns (course_then h) r.shown) (start_lines r.shown h.rests.sound.more (r.shown + length r.ahead) ++ says.Done ∷ []) (running (entries_now h) h.rests.rests.acknowledged h.rests.rests.txns 0 [] (course_now h))
starts_there last r images m e h =
    starts h.rests.entries h.rests.rests.acknowledged h.rests.rests.txns (course_then h) r.shown (r.shown + length r.ahead) h.rests.sound.more h.rests.sound.follow (shown_now last r images m e h) (let b = shown_before last r images m e h in omega (arith, b)) h.rests.rests.past.held

pub runs_there : (last : ℕ) (r : Open) (images : Areas → Type 0) (m : Machine) (e : Epoch) (h : Appoints last r images m e) →
    RunsWith (entries_now h) (course_now h) (nothing e) (started e r).shown (started e r).contents (running (entries_now h) h.rests.rests.acknowledged h.rests.rests.txns 0 [] (course_now h))
runs_there last r images m e h =
    started_with (course_of h) e h.rests.entries h.rests.rests.acknowledged h.rests.rests.txns h.rests.sound.more (started e r).shown (started e r).contents (below last r images m e h) h.rests.rests.past h.rests.sound.follow (shown_now last r images m e h) (contents_now last r images m e h)

abbrev pub all_lines : ℕ → Open → List Observation
all_lines order r = told_start order r ++ says.Done ∷ []

-- ---- the lines and where they lead

pub appoint_serves : (last : ℕ) (r : Open) (images : Areas → Type 0) (m : Machine) (e : Epoch) (order : ℕ) (h : Appoints last r images m e) → order ≡ length h.rests.entries →
    IsWhole m (Appoint e 0 (0 ∷ [])) (all_lines order r) × (moved m (Appoint e 0 (0 ∷ [])) (all_lines order r) ≡ running (entries_now h) h.rests.rests.acknowledged h.rests.rests.txns 0 [] (course_now h))
appoint_serves last r images m e order h counted =
    let event = Appoint e 0 (0 ∷ []) in
    let n : Machine = running (entries_now h) h.rests.rests.acknowledged h.rests.rests.txns 0 [] (course_now h) in
    let s = starts_there last r images m e h in
    let runs = runs_there last r images m e h in
    subst (λ ls. IsWhole m event (ls ++ says.Done ∷ []) × (moved m event (ls ++ says.Done ∷ []) ≡ n)) (sym (lines_are last r images m e order h counted))
    (served_from m event _ _ (λ at. at ≡ n) h.unrefused (opened_there last r images m e h)
    (record { may = s.may; complete = s.complete; holds = subst HoldsBehind (sym s.is) (holds_behind (nothing e) (started e r).shown (started e r).contents n runs.0) })
    s.is)

-- a fault of the disk behind them
pub appoint_faults_behind : (last : ℕ) (r : Open) (images : Areas → Type 0) (m : Machine) (e : Epoch) (order : ℕ) (h : Appoints last r images m e) → order ≡ length h.rests.entries →
    IsWhole m (Appoint e 0 (0 ∷ [])) (all_lines order r ++ says.Fault 0 ∷ [])
    × (moved m (Appoint e 0 (0 ∷ [])) (all_lines order r ++ says.Fault 0 ∷ []) ≡ standing (entries_now h) h.rests.rests.acknowledged (shut (course_now h) (length (entries_now h))) (ended_at 0 h.rests.rests.txns) (course_now h))
appoint_faults_behind last r images m e order h counted =
    let event = Appoint e 0 (0 ∷ []) in
    let n : Machine = running (entries_now h) h.rests.rests.acknowledged h.rests.rests.txns 0 [] (course_now h) in
    let lines : List Observation = start_lines r.shown h.rests.sound.more (r.shown + length r.ahead) ++ says.Done ∷ [] in
    let is_lines : all_lines order r ≡ lines = ap (λ ls. ls ++ says.Done ∷ []) (lines_are last r images m e order h counted) in
    let s : Starts (opened m event) lines n = subst (λ (p : Position). Starts p lines n) (sym (opened_there last r images m e h)) (starts_there last r images m e h) in
    let serves = subst (λ ls. IsWhole m event ls × (moved m event ls ≡ n)) is_lines (appoint_serves last r images m e order h counted) in
    let done = fault_behind m event lines tt tt refl h.unrefused serves.0 s.rose s.answered (subst (λ (k : Machine). (replica k 0).up ≡ true) (sym s.is) refl) s.unfaulted
    (subst (λ (k : Machine). HoldsBehind (closed k 0)) (sym s.is) (holds_without_role (entries_now h) h.rests.rests.acknowledged (shut (course_now h) (length (entries_now h))) (ended_at 0 h.rests.rests.txns) (course_now h) refl)) in
    subst (λ ls. IsWhole m event (ls ++ says.Fault 0 ∷ []) × (moved m event (ls ++ says.Fault 0 ∷ []) ≡ standing (entries_now h) h.rests.rests.acknowledged (shut (course_now h) (length (entries_now h))) (ended_at 0 h.rests.rests.txns) (course_now h))) (sym is_lines)
    (done.0, done.1 ∙ ap (λ (k : Machine). closed k 0) serves.1)

-- a fault of the disk before each line
pub appoint_faults_first : (last : ℕ) (r : Open) (images : Areas → Type 0) (m : Machine) (e : Epoch) (h : Appoints last r images m e) →
    IsWhole m (Appoint e 0 (0 ∷ [])) (says.Fault 0 ∷ [])
    × (moved m (Appoint e 0 (0 ∷ [])) (says.Fault 0 ∷ []) ≡ standing h.rests.entries h.rests.rests.acknowledged (shut (course_then h) r.shown) (ended_at 0 h.rests.rests.txns) (course_then h))
appoint_faults_first last r images m e h =
    let n : Machine = standing h.rests.entries h.rests.rests.acknowledged (shut (course_then h) r.shown) (ended_at 0 h.rests.rests.txns) (course_then h) in
    served_from m (Appoint e 0 (0 ∷ [])) (says.Fault 0 ∷ []) _ (λ at. at ≡ n) h.unrefused (opened_there last r images m e h)
    (record {
      may = (record { named = refl; in_rank = refl; next = refl; goes_on = refl; row = inl (refl, refl, refl) }, tt);
      complete = record { opened = refl; grown = refl; mounted = refl; told = refl; answered = refl };
      holds = holds_without_role h.rests.entries h.rests.rests.acknowledged (shut (course_then h) r.shown) (ended_at 0 h.rests.rests.txns) (course_then h) refl;
    })
    refl
