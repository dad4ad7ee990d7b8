-- Each line leaves the orders as they are, or adds an entry to one.
use Rattle.std.proofs.Common.{◌≡◌, ◌∙◌, ℕ, true, false, List, [], ◌∷◌, ◌++◌, get_or, set, drop, length, append-nil, append_assoc, Option, Some, None, refl, sym, ap, inl, inr}
use Rattle.std.specs.Prelude.{is_some}
use Rattle.std.specs.Option.{option_map_or}
use Rattle.std.proofs.lemmas.Bool.{cond_both, cases_lt, cases_eq}
use Rattle.std.proofs.lemmas.List.{get_or-set_same, get_or-set_other, set_past}
use Rattle.rc_base.specs.declared.ids.Epoch.{Epoch}
use Rattle.rc_base.specs.declared.ids.TxnId.{TxnId}
use Rattle.coll_model.specs.declared.op.Op.{Op}
use Rattle.events.specs.declared.event.Event.{Event}
use Rattle.events.specs.declared.event.Event.TheVariants.{Boot, Client, Arm, Crash, Reboot, Inspect, Survey, Appoint, Activate}
use Rattle.events.specs.declared.call.Call.{Call}
use Rattle.events.specs.declared.call.Call.TheVariants.{Begin, Make, OnKey, Commit, Abort}
use Rattle.order_machine.specs.declared.observation.Observation.{Observation}
use Rattle.order_machine.specs.declared.observation.Observation.TheVariants as says
use Rattle.events.specs.declared.answer.Answer.{Answer}
use Rattle.events.specs.declared.answer.Answer.TheVariants as answers
use Rattle.events.specs.declared.answer.Reply.{Reply}
use Rattle.key_locks.specs.Grants.{released}
use Rattle.events.specs.Locking.{locks_at, taken}
use Rattle.order_machine.specs.Order.{Entry, Order, empty_order}
use Rattle.order_machine.specs.Machine.{Machine, Role, Txn, Appointment, appointment_of, grants_of, put_grants, replica, put_role, put_txn, role_of, txn_of, order_of, closed}
use Rattle.order_machine.specs.Clients.{begun_by, noted, seen}
use Rattle.events.specs.Calls.{txn_named}
use Rattle.order_machine.specs.Transitions.{Position, first_epoch, opened, going_at, asking, asking_locks, appointing, activating_of, activating, failed, surveyed, answering, answered_by, after, ordering, showing, with_first_role, new_role, now_active, activated}
use Rattle.order_machine.specs.Legal.{Filter, Step, behind, IsBegun, moved, IsLegal, moved_all}
use Rattle.order_laws.specs.Laws.{entries_of, OrdersGrow}
use Rattle.order_laws.proofs.Runs.{moved_by, run_keeps}

-- ---- growth

grow_same : (m n : Machine) → n.orders ≡ m.orders → OrdersGrow m n
grow_same m n e loss = ([], ap (λ os. (get_or os loss empty_order).entries) e ∙ sym (append-nil (entries_of m loss)))

grow_more : (m n o : Machine) → OrdersGrow m n → OrdersGrow n o → OrdersGrow m o
grow_more m n o first then loss =
    let a = first loss in
    let b = then loss in
    (a.0 ++ b.0, b.1 ∙ (ap (λ es. es ++ b.0) a.1 ∙ append_assoc (entries_of m loss) a.0 b.0))

-- ---- lines

same_first_role : (m : Machine) (event : Event) (mounts : List ℕ) → (with_first_role m event mounts).orders ≡ m.orders
same_first_role m (Boot p members) [] = cond_both (replica m p).up (put_role m p (Some (new_role first_epoch))) m (λ x. x.orders ≡ m.orders) (λ _. refl) (λ _. refl)
same_first_role m (Boot p members) (q ∷ mounts) = refl
same_first_role m (Client r call) mounts = refl
same_first_role m (Arm r calls) mounts = refl
same_first_role m (Crash r pick) mounts = refl
same_first_role m (Reboot r) mounts = refl
same_first_role m (Inspect r) mounts = refl
same_first_role m (Survey r e) mounts = refl
same_first_role m (Appoint e p members) mounts = refl
same_first_role m (Activate e) mounts = refl

same_noted : (m : Machine) (f : Txn → Txn) (t : TxnId) (o : Option Txn) → (option_map_or (λ x. put_txn m t (f x)) o m).orders ≡ m.orders
same_noted m f t None = refl
same_noted m f t (Some x) = refl

same_active : (m : Machine) (r : ℕ) (o : Option Role) → (option_map_or (activated m r) o m).orders ≡ m.orders
same_active m r None = refl
same_active m r (Some role) = refl

same_begun : (m : Machine) (r : ℕ) (told : Answer) → (begun_by m r told).orders ≡ m.orders
same_begun m r (answers.Txn t) = refl
same_begun m r answers.Done = refl
same_begun m r answers.True = refl
same_begun m r answers.False = refl
same_begun m r (answers.Value value) = refl
same_begun m r answers.Missing = refl
same_begun m r answers.Absent = refl
same_begun m r answers.WrongKind = refl
same_begun m r (answers.Ended t) = refl
same_begun m r (answers.Locked t) = refl
same_begun m r (answers.NotActive q) = refl
same_begun m r (answers.Down q) = refl
same_begun m r (answers.Refused part) = refl
same_begun m r (answers.Progress q e last) = refl
same_begun m r answers.IgnoredUp = refl
same_begun m r (answers.IgnoredOldEpoch fence e) = refl

same_answered_at : (m : Machine) (r : ℕ) (call : Call) (reply : Reply) (named : Option TxnId) → (option_map_or (λ t. noted m t (record { call = call; answer = reply.answer; op = reply.op })) named (begun_by m r reply.answer)).orders ≡ m.orders
same_answered_at m r call reply None = same_begun m r reply.answer
same_answered_at m r call reply (Some t) = same_noted m (λ x. record x { calls = x.calls ++ record { call = call; answer = reply.answer; op = reply.op } ∷ [] }) t (txn_of m t)

same_answered : (m : Machine) (event : Event) (reply : Reply) → (answered_by m event reply).orders ≡ m.orders
same_answered m (Boot p members) reply = refl
same_answered m (Arm r calls) reply = refl
same_answered m (Crash r pick) reply = refl
same_answered m (Reboot r) reply = refl
same_answered m (Inspect r) reply = refl
same_answered m (Survey r e) reply = refl
same_answered m (Appoint e p members) reply = refl
same_answered m (Activate e) reply = refl
same_answered m (Client r call) reply = same_answered_at m r call reply (txn_named call)

grow_ordering : (m : Machine) (r : ℕ) (t : TxnId) (ops : List Op) → OrdersGrow m (ordering m r t ops)
grow_ordering m r t ops loss =
    let at = (replica m r).loss in
    let e : Entry = record { txn = t; ops = ops } in
    let old = order_of m r in
    let new : Order = record old { entries = old.entries ++ e ∷ [] } in
    elim (cases_eq loss at) [
      | inl same ↦ elim (cases_lt at (length m.orders)) [
        | inl lt ↦ (e ∷ [], ap (λ l. (get_or (set m.orders at new) l empty_order).entries) same ∙ (ap (λ o. o.entries) (get_or-set_same m.orders at new empty_order lt) ∙ ap (λ l. entries_of m l ++ e ∷ []) (sym same)))
        | inr le ↦ ([], ap (λ os. (get_or os loss empty_order).entries) (set_past m.orders at new le) ∙ sym (append-nil (entries_of m loss)))
      ]
      | inr apart ↦ ([], ap (λ o. o.entries) (get_or-set_other m.orders at loss new empty_order apart) ∙ sym (append-nil (entries_of m loss)))
    ]

same_failed : (m : Machine) (event : Event) (r : ℕ) → (failed m event r).orders ≡ m.orders
same_failed m (Boot p members) r = refl
same_failed m (Client p call) r = refl
same_failed m (Arm p calls) r = refl
same_failed m (Crash p pick) r = refl
same_failed m (Reboot p) r = refl
same_failed m (Inspect p) r = refl
same_failed m (Survey p e) r = refl
same_failed m (Appoint e p members) r = refl
same_failed m (Activate e) r = refl

same_surveyed : (m : Machine) (event : Event) (r : ℕ) (e : Epoch) (last : ℕ) → (surveyed m event r e last).orders ≡ m.orders
same_surveyed m (Boot p members) r e last = refl
same_surveyed m (Client p call) r e last = refl
same_surveyed m (Arm p calls) r e last = refl
same_surveyed m (Crash p pick) r e last = refl
same_surveyed m (Reboot p) r e last = refl
same_surveyed m (Inspect p) r e last = refl
same_surveyed m (Survey p of) r e last = refl
same_surveyed m (Appoint of p members) r e last = refl
same_surveyed m (Activate of) r e last = refl

same_client : (m : Machine) (event : Event) (client : Option Reply) → (option_map_or (answered_by m event) client m).orders ≡ m.orders
same_client m event None = refl
same_client m event (Some reply) = same_answered m event reply

grow_answer : (p : Position) → OrdersGrow p.machine (answering p).machine
grow_answer p = grow_same p.machine (answering p).machine (same_client p.machine p.event p.client)

grow_line : (p : Position) (o : Observation) → OrdersGrow p.machine (after p o).machine
grow_line p (says.Order t ops) = grow_ordering p.machine p.primary t ops
grow_line p (says.View r n) = grow_same p.machine (after p (says.View r n)).machine
    (cond_both (is_some p.opening) (record p { machine = with_first_role (showing p.machine r n) p.event p.mounts; opening = None }) (record p { machine = showing p.machine r n; growing = false; rose = r ∷ p.rose }) (λ q. q.machine.orders ≡ p.machine.orders) (λ _. same_first_role (showing p.machine r n) p.event p.mounts) (λ _. refl))
grow_line p (says.Active r) = grow_same p.machine (now_active p.machine r) (same_active p.machine r (role_of p.machine r))
grow_line p (says.Up r) = grow_same p.machine (after p (says.Up r)).machine refl
grow_line p (says.Committed t) = grow_same p.machine (after p (says.Committed t)).machine refl
grow_line p says.Done = grow_answer p
grow_line p (says.Refused part) = grow_answer p
grow_line p (says.Txn t) = grow_answer p
grow_line p (says.Down r) = grow_answer p
grow_line p (says.NotActive r) = grow_answer p
grow_line p (says.Ended t) = grow_answer p
grow_line p says.True = grow_answer p
grow_line p says.False = grow_answer p
grow_line p (says.Value value) = grow_answer p
grow_line p says.Missing = grow_answer p
grow_line p says.Absent = grow_answer p
grow_line p says.WrongKind = grow_answer p
grow_line p (says.Fault r) = grow_same p.machine (after p (says.Fault r)).machine (same_first_role (failed p.machine p.event r) p.event (drop 1 p.mounts) ∙ same_failed p.machine p.event r)
grow_line p says.IgnoredUp = grow_answer p
grow_line p (says.State r n) = grow_same p.machine p.machine refl
grow_line p (says.Rows words) = grow_same p.machine p.machine refl
grow_line p (says.Locked t) = grow_answer p
grow_line p (says.IgnoredOldEpoch fence e) = grow_answer p
grow_line p (says.Progress r e last) = grow_same p.machine (surveyed p.machine p.event r e last) (same_surveyed p.machine p.event r e last)

-- ---- events and runs

same_going : (m : Machine) (f : Txn → Machine) → ((x : Txn) → (f x).orders ≡ m.orders) → (o : Option Txn) → (option_map_or f o m).orders ≡ m.orders
same_going m f same None = refl
same_going m f same (Some x) = same x

same_asking_locks : (m : Machine) (r : ℕ) (t : TxnId) (call : Call) → (asking_locks m r t call).orders ≡ m.orders
same_asking_locks m r t call = same_going m (λ x. put_grants m r (taken (grants_of m r) t (locks_at (seen m r x) call))) (λ x. refl) (going_at m r t)

same_asking : (m : Machine) (r : ℕ) (call : Call) → (asking m r call).orders ≡ m.orders
same_asking m r Begin = refl
same_asking m r (Make t name kind) = same_asking_locks m r t (Make t name kind)
same_asking m r (OnKey t name key call) = same_asking_locks m r t (OnKey t name key call)
same_asking m r (Commit t) = same_going m (λ x. put_txn m t (record x { live = false; asked = true })) (λ x. refl) (going_at m r t)
same_asking m r (Abort t) = same_going m (λ x. put_txn (put_grants m r (released (grants_of m r) t)) t (record x { live = false })) (λ x. refl) (going_at m r t)

same_activating : (m : Machine) (o : Option Appointment) → (option_map_or (activating_of m) o m).orders ≡ m.orders
same_activating m None = refl
same_activating m (Some a) = refl

grow_opened : (m : Machine) (event : Event) → OrdersGrow m (opened m event).machine
grow_opened m (Boot p members) = grow_same m (opened m (Boot p members)).machine refl
grow_opened m (Client r call) = grow_same m (asking m r call) (same_asking m r call)
grow_opened m (Arm r calls) = grow_same m m refl
grow_opened m (Crash r pick) = grow_same m (closed m r) refl
grow_opened m (Reboot r) = grow_same m m refl
grow_opened m (Inspect r) = grow_same m m refl
grow_opened m (Survey r e) = grow_same m m refl
grow_opened m (Appoint e p members) = grow_same m (appointing m e p members) refl
grow_opened m (Activate e) = grow_same m (activating m e) (same_activating m (appointment_of m e))

grow_lines : (p : Position) (lines : List Observation) → OrdersGrow p.machine (behind p lines).machine
grow_lines p [] = grow_same p.machine p.machine refl
grow_lines p (o ∷ lines) = grow_more p.machine (after p o).machine (behind (after p o) lines).machine (grow_line p o) (grow_lines (after p o) lines)

pub grow_moved : (m : Machine) (event : Event) (lines : List Observation) → IsBegun m event lines → OrdersGrow m (moved m event lines)
grow_moved m event lines h = moved_by (OrdersGrow m) m event lines h (grow_same m m refl)
    (λ _ _. grow_more m (opened m event).machine (behind (opened m event) lines).machine (grow_opened m event) (grow_lines (opened m event) lines))

pub grow_run : (filters : List Filter) (m : Machine) (steps : List Step) → IsLegal filters m steps → OrdersGrow m (moved_all m steps)
grow_run filters m steps h =
    run_keeps (OrdersGrow m) (λ n event lines grown begun. grow_more m n (moved n event lines) grown (grow_moved n event lines begun)) filters m steps (grow_same m m refl) h
