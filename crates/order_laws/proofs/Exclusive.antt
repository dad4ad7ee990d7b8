-- Each event leaves the locks of every replica exclusive.
use Rattle.std.proofs.Common.{ℕ, Bool, true, false, sym, subst, List, [], ◌∷◌, ◌++◌, drop, Option, Some, None}
use Rattle.std.specs.Prelude.{is_some, option_map}
use Rattle.std.specs.Option.{option_map_or}
use Rattle.std.proofs.lemmas.Bool.{cond_both}
use Rattle.rc_base.specs.declared.ids.Epoch.{Epoch}
use Rattle.rc_base.specs.declared.ids.TxnId.{TxnId}
use Rattle.events.specs.declared.event.Event.{Event}
use Rattle.events.specs.declared.event.Event.TheVariants.{Boot, Client, Arm, Crash, Reboot, Inspect, Survey, Appoint, Activate}
use Rattle.events.specs.declared.call.Call.{Call}
use Rattle.events.specs.declared.call.Call.TheVariants.{Begin, Make, OnKey, Commit, Abort}
use Rattle.order_machine.specs.declared.observation.Observation.{Observation}
use Rattle.order_machine.specs.declared.observation.Observation.TheVariants as says
use Rattle.events.specs.declared.answer.Answer.{Answer}
use Rattle.events.specs.declared.answer.Answer.TheVariants as answers
use Rattle.events.specs.declared.answer.Reply.{Reply}
use Rattle.key_locks.specs.Grants.{released}
use Rattle.events.specs.Locking.{locks_at, taken}
use Rattle.lock_laws.specs.Protected.{AreExclusive}
use Rattle.order_machine.specs.Machine.{Machine, Replica, Role, Txn, Appointment, never_opened, empty_machine, replica, role_of, txn_of, grants_of, put_txn, put_grants, appointment_of, put_replica, without_role, closed}
use Rattle.events.specs.Calls.{CallRecord, txn_named}
use Rattle.order_machine.specs.Clients.{begun_by, noted, one_more_begun, seen}
use Rattle.order_machine.specs.Transitions.{Position, first_epoch, new_role, refusal, opened, going_at, asking, asking_locks, appointing, activating_of, up_again, with_first_role, showing, activated, with_survey, failed, surveyed, answering, answered_by, after}
use Rattle.order_machine.specs.Legal.{Step, behind, moved, moved_all}
use Rattle.order_laws.specs.Laws.{LocksExclude}
use Rattle.events.proofs.Lists.{at_each}
use Rattle.order_machine.proofs.Machines.{never_put}
use Rattle.lock_laws.proofs.ProtectedGrants.{AreExclusive-nil, AreExclusive-released, AreExclusive-taken}

-- ---- a change of one replica

exclude_put : (m : Machine) (r : ℕ) (new : Replica) → LocksExclude m → AreExclusive new.grants → LocksExclude (put_replica m r new)
exclude_put m r new all here = at_each (λ q x. AreExclusive x.grants) m.replicas r new never_opened all here

exclude_first_role : (m : Machine) (event : Event) (mounts : List ℕ) → LocksExclude m → LocksExclude (with_first_role m event mounts)
exclude_first_role m (Boot p members) [] all =
    let new : Replica = record (replica m p) { role = Some (new_role first_epoch) } in
    cond_both (replica m p).up (put_replica m p new) m LocksExclude (λ _. exclude_put m p new all (all p)) (λ _. all)
exclude_first_role m (Boot p members) (q ∷ mounts) all = all
exclude_first_role m (Client r call) mounts all = all
exclude_first_role m (Arm r calls) mounts all = all
exclude_first_role m (Crash r pick) mounts all = all
exclude_first_role m (Reboot r) mounts all = all
exclude_first_role m (Inspect r) mounts all = all
exclude_first_role m (Survey r e) mounts all = all
exclude_first_role m (Appoint e p members) mounts all = all
exclude_first_role m (Activate e) mounts all = all

exclude_active : (m : Machine) (r : ℕ) (o : Option Role) → LocksExclude m → LocksExclude (option_map_or (activated m r) o m)
exclude_active m r None all = all
exclude_active m r (Some role) all = exclude_put m r (record (replica m r) { role = Some (record role { active = true }) }) all (all r)

exclude_closed : (m : Machine) (r : ℕ) → LocksExclude m → LocksExclude (closed m r)
exclude_closed m r all = exclude_put m r (record (replica m r) { up = false; role = None; grants = [] }) all AreExclusive-nil

exclude_role_ended : (m : Machine) (r : ℕ) → LocksExclude m → LocksExclude (without_role m r)
exclude_role_ended m r all = exclude_put m r (record (replica m r) { role = None; grants = [] }) all AreExclusive-nil

exclude_survey : (m : Machine) (r : ℕ) (e : Epoch) (faulted : Bool) → LocksExclude m → LocksExclude (with_survey m r e faulted)
exclude_survey m r e faulted all = exclude_put m r (record (replica m r) { surveys = record { epoch = e; faulted = faulted } ∷ (replica m r).surveys }) all (all r)

exclude_failed : (m : Machine) (event : Event) (r : ℕ) → LocksExclude m → LocksExclude (failed m event r)
exclude_failed m (Boot p members) r all = exclude_closed m r all
exclude_failed m (Client p call) r all = exclude_closed m r all
exclude_failed m (Arm p calls) r all = exclude_closed m r all
exclude_failed m (Crash p pick) r all = exclude_closed m r all
exclude_failed m (Reboot p) r all = exclude_closed m r all
exclude_failed m (Inspect p) r all = exclude_closed m r all
exclude_failed m (Survey p e) r all = exclude_survey (closed m r) r e true (exclude_closed m r all)
exclude_failed m (Appoint e p members) r all = exclude_closed m r all
exclude_failed m (Activate e) r all = exclude_closed m r all

exclude_surveyed : (m : Machine) (event : Event) (r : ℕ) (e : Epoch) (last : ℕ) → LocksExclude m → LocksExclude (surveyed m event r e last)
exclude_surveyed m (Boot p members) r e last all = all
exclude_surveyed m (Client p call) r e last all = all
exclude_surveyed m (Arm p calls) r e last all = all
exclude_surveyed m (Crash p pick) r e last all = all
exclude_surveyed m (Reboot p) r e last all = all
exclude_surveyed m (Inspect p) r e last all = all
exclude_surveyed m (Survey p of) r e last all = exclude_survey (without_role m r) r of false (exclude_role_ended m r all)
exclude_surveyed m (Appoint of p members) r e last all = all
exclude_surveyed m (Activate of) r e last all = all

-- ---- answers

exclude_noted : (m : Machine) (t : TxnId) (call : CallRecord) → LocksExclude m → LocksExclude (noted m t call)
exclude_noted m t call all = by (txn_of m t)
  where
    by : (o : Option Txn) → LocksExclude (option_map_or (λ x. put_txn m t (record x { calls = x.calls ++ call ∷ [] })) o m)
    by None = all
    by (Some x) = all

exclude_begun : (m : Machine) (r : ℕ) (told : Answer) → LocksExclude m → LocksExclude (begun_by m r told)
exclude_begun m r (answers.Txn t) all = exclude_put m r (record (replica m r) { role = option_map one_more_begun (role_of m r) }) all (all r)
exclude_begun m r answers.Done all = all
exclude_begun m r answers.True all = all
exclude_begun m r answers.False all = all
exclude_begun m r (answers.Value value) all = all
exclude_begun m r answers.Missing all = all
exclude_begun m r answers.Absent all = all
exclude_begun m r answers.WrongKind all = all
exclude_begun m r (answers.Ended t) all = all
exclude_begun m r (answers.Locked t) all = all
exclude_begun m r (answers.NotActive q) all = all
exclude_begun m r (answers.Down q) all = all
exclude_begun m r (answers.Refused part) all = all
exclude_begun m r (answers.Progress q e last) all = all
exclude_begun m r answers.IgnoredUp all = all
exclude_begun m r (answers.IgnoredOldEpoch fence e) all = all

exclude_answered : (m : Machine) (event : Event) (reply : Reply) → LocksExclude m → LocksExclude (answered_by m event reply)
exclude_answered m (Boot p members) reply all = all
exclude_answered m (Arm r calls) reply all = all
exclude_answered m (Crash r pick) reply all = all
exclude_answered m (Reboot r) reply all = all
exclude_answered m (Inspect r) reply all = all
exclude_answered m (Survey r e) reply all = all
exclude_answered m (Appoint e p members) reply all = all
exclude_answered m (Activate e) reply all = all
exclude_answered m (Client r call) reply all = by_name (txn_named call)
  where
    by_name : (named : Option TxnId) → LocksExclude (option_map_or (λ t. noted m t (record { call = call; answer = reply.answer; op = reply.op })) named (begun_by m r reply.answer))
    by_name None = exclude_begun m r reply.answer all
    by_name (Some t) = exclude_noted m t (record { call = call; answer = reply.answer; op = reply.op }) all

exclude_client : (m : Machine) (event : Event) (client : Option Reply) → LocksExclude m → LocksExclude (option_map_or (answered_by m event) client m)
exclude_client m event None all = all
exclude_client m event (Some reply) all = exclude_answered m event reply all

exclude_answer : (p : Position) → LocksExclude p.machine → LocksExclude (answering p).machine
exclude_answer p all = exclude_client p.machine p.event p.client all

-- ---- lines

exclude_showing : (m : Machine) (r n : ℕ) → LocksExclude m → LocksExclude (showing m r n)
exclude_showing m r n all = exclude_put m r (record (replica m r) { show = n }) all (all r)

exclude_line : (p : Position) (o : Observation) → LocksExclude p.machine → LocksExclude (after p o).machine
exclude_line p (says.Up r) all = exclude_put p.machine r (up_again (replica p.machine r)) all AreExclusive-nil
exclude_line p (says.Order t ops) all = all
exclude_line p (says.View r n) all =
    let shown = exclude_showing p.machine r n all in
    cond_both (is_some p.opening) (record p { machine = with_first_role (showing p.machine r n) p.event p.mounts; opening = None }) (record p { machine = showing p.machine r n; growing = false; rose = r ∷ p.rose }) (λ q. LocksExclude q.machine)
    (λ _. exclude_first_role (showing p.machine r n) p.event p.mounts shown) (λ _. shown)
exclude_line p (says.Active r) all = exclude_active p.machine r (role_of p.machine r) all
exclude_line p (says.Committed t) all =
    let grants = released (grants_of p.machine p.primary) t in
    exclude_put p.machine p.primary (record (replica p.machine p.primary) { grants = grants }) all (AreExclusive-released (grants_of p.machine p.primary) t (all p.primary))
exclude_line p says.Done all = exclude_answer p all
exclude_line p (says.Refused part) all = exclude_answer p all
exclude_line p (says.Txn t) all = exclude_answer p all
exclude_line p (says.Down r) all = exclude_answer p all
exclude_line p (says.NotActive r) all = exclude_answer p all
exclude_line p (says.Ended t) all = exclude_answer p all
exclude_line p (says.Locked t) all = exclude_answer p all
exclude_line p says.True all = exclude_answer p all
exclude_line p says.False all = exclude_answer p all
exclude_line p (says.Value value) all = exclude_answer p all
exclude_line p says.Missing all = exclude_answer p all
exclude_line p says.Absent all = exclude_answer p all
exclude_line p says.WrongKind all = exclude_answer p all
exclude_line p (says.Fault r) all = exclude_first_role (failed p.machine p.event r) p.event (drop 1 p.mounts) (exclude_failed p.machine p.event r all)
exclude_line p says.IgnoredUp all = exclude_answer p all
exclude_line p (says.IgnoredOldEpoch fence e) all = exclude_answer p all
exclude_line p (says.Progress r e last) all = exclude_surveyed p.machine p.event r e last all
exclude_line p (says.State r n) all = all
exclude_line p (says.Rows words) all = all

-- ---- events and runs

exclude_going : (m : Machine) (f : Txn → Machine) → LocksExclude m → ((x : Txn) → LocksExclude (f x)) → (o : Option Txn) → LocksExclude (option_map_or f o m)
exclude_going m f all going None = all
exclude_going m f all going (Some x) = going x

exclude_locks : (m : Machine) (r : ℕ) (t : TxnId) (call : Call) → LocksExclude m → LocksExclude (asking_locks m r t call)
exclude_locks m r t call all =
    exclude_going m (λ x. put_grants m r (taken (grants_of m r) t (locks_at (seen m r x) call))) all
    (λ x. exclude_put m r (record (replica m r) { grants = taken (grants_of m r) t (locks_at (seen m r x) call) }) all (AreExclusive-taken (grants_of m r) t (locks_at (seen m r x) call) (all r)))
    (going_at m r t)

exclude_asking : (m : Machine) (r : ℕ) (call : Call) → LocksExclude m → LocksExclude (asking m r call)
exclude_asking m r Begin all = all
exclude_asking m r (Make t name kind) all = exclude_locks m r t (Make t name kind) all
exclude_asking m r (OnKey t name key call) all = exclude_locks m r t (OnKey t name key call) all
exclude_asking m r (Commit t) all = exclude_going m (λ x. put_txn m t (record x { live = false; asked = true })) all (λ x. all) (going_at m r t)
exclude_asking m r (Abort t) all =
    exclude_going m (λ x. put_txn (put_grants m r (released (grants_of m r) t)) t (record x { live = false })) all
    (λ x. exclude_put m r (record (replica m r) { grants = released (grants_of m r) t }) all (AreExclusive-released (grants_of m r) t (all r)))
    (going_at m r t)

exclude_appointing : (m : Machine) (e : Epoch) (p : ℕ) (members : List ℕ) → LocksExclude m → LocksExclude (appointing m e p members)
exclude_appointing m e p members all =
    let ended = exclude_role_ended m p all in
    exclude_put (without_role m p) p (record (replica (without_role m p) p) { role = Some (new_role e) }) ended (ended p)

exclude_activating : (m : Machine) (o : Option Appointment) → LocksExclude m → LocksExclude (option_map_or (activating_of m) o m)
exclude_activating m None all = all
exclude_activating m (Some a) all = all

exclude_opened : (m : Machine) (event : Event) → LocksExclude m → LocksExclude (opened m event).machine
exclude_opened m (Boot p members) all = all
exclude_opened m (Client r call) all = exclude_asking m r call all
exclude_opened m (Arm r calls) all = all
exclude_opened m (Crash r pick) all = exclude_closed m r all
exclude_opened m (Reboot r) all = all
exclude_opened m (Inspect r) all = all
exclude_opened m (Survey r e) all = all
exclude_opened m (Appoint e p members) all = exclude_appointing m e p members all
exclude_opened m (Activate e) all = exclude_activating m (appointment_of m e) all

exclude_lines : (p : Position) (lines : List Observation) → LocksExclude p.machine → LocksExclude (behind p lines).machine
exclude_lines p [] all = all
exclude_lines p (o ∷ lines) all = exclude_lines (after p o) lines (exclude_line p o all)

exclude_moved : (m : Machine) (event : Event) (lines : List Observation) → LocksExclude m → LocksExclude (moved m event lines)
exclude_moved m event lines all =
    cond_both (is_some (refusal m event)) m (behind (opened m event) lines).machine LocksExclude (λ _. all) (λ _. exclude_lines (opened m event) lines (exclude_opened m event all))

exclude_run : (m : Machine) (steps : List Step) → LocksExclude m → LocksExclude (moved_all m steps)
exclude_run m [] all = all
exclude_run m (s ∷ steps) all = exclude_run (moved m s.event s.lines) steps (exclude_moved m s.event s.lines all)

pub exclude_world : (steps : List Step) → LocksExclude (moved_all empty_machine steps)
exclude_world steps = exclude_run empty_machine steps (λ r. subst (λ x. AreExclusive x.grants) (sym (never_put r)) AreExclusive-nil)
