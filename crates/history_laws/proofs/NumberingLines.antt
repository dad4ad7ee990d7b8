-- The names of transactions count on over each line of an event.
use Rattle.std.proofs.Common.{◌≡◌, ◌∙◌, ℕ, ◌+◌, Bool, true, false, cond, drop, List, [], ◌∷◌, ◌++◌, Option, Some, None, option_map, is_some, find, refl, sym, ap, subst}
use Rattle.std.specs.List.{AllByRecursion}
use Rattle.std.specs.Option.{option_map_or}
use Rattle.std.specs.Map.{lookup}
use Rattle.std.proofs.lemmas.Bool.{false≢true, cond_both, cond-true}
use Rattle.std.proofs.lemmas.Option.{none-some, same_Some}
use Rattle.rc_base.specs.declared.ids.Epoch.{Epoch}
use Rattle.rc_base.specs.declared.ids.TxnId.{TxnId}
use Rattle.rc_base.specs.Ids.{is_epoch, is_txn}
use Rattle.rc_base.proofs.SameIds.{is_txn_same}
use Rattle.key_locks.specs.Grants.{released}
use Rattle.config_rule.specs.Rule.{first_broken, broken_appointment, is_above, are_members, has_quorum, has_answered_last, tells_most}
use Rattle.config_rule.proofs.Rising.{first_holds}
use Rattle.events.specs.declared.event.Event.{Event}
use Rattle.events.specs.declared.event.Event.TheVariants.{Boot, Client, Arm, Crash, Reboot, Inspect, Survey, Appoint, Activate}
use Rattle.events.specs.declared.call.Call.{Call}
use Rattle.events.specs.declared.call.Call.TheVariants.{Begin, Make, OnKey, Commit, Abort}
use Rattle.events.specs.declared.answer.Answer.TheVariants as answers
use Rattle.events.specs.Locking.{locks_at, taken}
use Rattle.events.proofs.Lists.{at_each}
use Rattle.order_machine.specs.declared.observation.Observation.{Observation}
use Rattle.order_machine.specs.declared.observation.Observation.TheVariants as says
use Rattle.order_machine.specs.Machine.{Machine, Replica, Role, Txn, Appointment, never_opened, empty_machine, replica, put_txn, put_role, put_grants, txn_of, role_of, grants_of, appointment_of, known_of, has_role, is_booted, without_role, closed}
use Rattle.order_machine.specs.Clients.{seen}
use Rattle.order_machine.specs.Transitions.{Position, first_epoch, new_role, refusal, opened, booting, appointing, dropping, activating_of, going_at, asking, asking_abort, asking_locks, MayBeDone, MayTellProgress, MayIgnoreOldEpoch, May, event_primary, after, up_again, with_first_role, showing, noting_active, activated, with_survey, failed, surveyed, answering}
use Rattle.order_machine.specs.Legal.{Lines, behind}
use Rattle.order_laws.proofs.Kept.{StaysAppointed, stays_noting, stays_dropping, stays_beside}
use Rattle.order_laws.proofs.Steps.{IsBooting, booting_first_role, booting_answered, booting_failed}
use Rattle.order_laws.proofs.Opened.{first_boot, unbooted, not_appointed, appointed_last}
use Rattle.order_laws.proofs.Runs.{moved_by, run_keeps}
use Rattle.history_laws.specs.Invariant.Numbering.{RoleNumbering, Numbering}
use Rattle.history_laws.specs.Laws.{LinesKeepNumbering, EventsKeepNumbering, RunsKeepNumbering}
use Rattle.history_laws.proofs.CallCases.{live_at, aborted}
use Rattle.history_laws.proofs.EventLines.{TextState, Unanswered, no_fault, answer_keeps, told, text_line, text_opened}
use Rattle.history_laws.proofs.NumberingSteps.{numbering_replica, numbering_beside, numbering_put, numbering_cases, empty_is_numbered, changes_keep_numbering}

-- ---- appointments change

numbering_appointments : (m : Machine) (config : List ℕ) (new : List Appointment) → StaysAppointed m.appointments new → Numbering m → Numbering (record m { appointments = new; config = config })
numbering_appointments m config new stays n = record {
  replicas = λ r. record { closed = (n.replicas r).closed; role = λ role e. role_stays r role ((n.replicas r).role role e) };
  home = λ t x known.
      let a = n.home t x known in
      let b = stays t.epoch a.0 a.1 in
      (b.0, b.1, b.2 ∙ a.2);
}
  where
    role_stays : (r : ℕ) (role : Role) → RoleNumbering m.txns m.appointments r role → RoleNumbering m.txns new r role
    role_stays r role old = let b = stays role.epoch old.appointment old.appointed in record {
      appointment = b.0;
      appointed = b.1;
      primary = b.2 ∙ old.primary;
      counted = old.counted;
    }

-- ---- a new role

-- an open replica has the role of an epoch that was appointed to it, and in which nothing was begun
numbering_new_role : (m : Machine) (r : ℕ) (e : Epoch) (a : Appointment) → (replica m r).up ≡ true → appointment_of m e ≡ Some a → a.primary ≡ r → ((t : TxnId) (x : Txn) → txn_of m t ≡ Some x → t.epoch ≡ e → ⊥)
    → Numbering m → Numbering (put_role m r (Some (new_role e)))
numbering_new_role m r e a up appointed primary none n = numbering_replica m r (record (replica m r) { role = Some (new_role e) }) (record {
  closed = λ down. absurd (false≢true (sym down ∙ up));
  role = λ role is. subst (RoleNumbering m.txns m.appointments r) (same_Some (new_role e) role is) (record {
    appointment = a;
    appointed = appointed;
    primary = primary;
    counted = λ t x known epoch. absurd (none t x known epoch);
  });
}) n

-- the first one
numbering_first_role : (m : Machine) (event : Event) (mounts : List ℕ) → ((primary : ℕ) (members : List ℕ) → event ≡ Boot primary members → IsBooting m.txns m.appointments primary) → Numbering m → Numbering (with_first_role m event mounts)
numbering_first_role m (Boot p members) [] booting n =
    let b = booting p members refl in
    cond_both (replica m p).up (put_role m p (Some (new_role first_epoch))) m Numbering
    (λ up. numbering_new_role m p first_epoch b.appointment up b.appointed b.first (λ t x known epoch. none-some x (ap (lookup (is_txn t)) (sym b.none) ∙ known)) n)
    (λ _. n)
numbering_first_role m (Boot p members) (q ∷ mounts) booting n = n
numbering_first_role m (Client r call) mounts booting n = n
numbering_first_role m (Arm r calls) mounts booting n = n
numbering_first_role m (Crash r pick) mounts booting n = n
numbering_first_role m (Reboot r) mounts booting n = n
numbering_first_role m (Inspect r) mounts booting n = n
numbering_first_role m (Survey r e) mounts booting n = n
numbering_first_role m (Appoint e p members) mounts booting n = n
numbering_first_role m (Activate e) mounts booting n = n

-- ---- lines that change the machine

numbering_activated : (m : Machine) (r : ℕ) (o : Option Role) → role_of m r ≡ o → Numbering m → Numbering (option_map_or (activated m r) o m)
numbering_activated m r None e n = n
numbering_activated m r (Some role) e n =
    let active : Role = record role { active = true } in
    let old = (n.replicas r).role role e in
    let put : Numbering (put_role m r (Some active)) = numbering_replica m r (record (replica m r) { role = Some active }) (record {
      closed = λ down. absurd (none-some role (sym ((n.replicas r).closed down) ∙ e));
      role = λ other is. subst (RoleNumbering m.txns m.appointments r) (same_Some active other is) (record {
        appointment = old.appointment;
        appointed = old.appointed;
        primary = old.primary;
        counted = old.counted;
      });
    }) n in
    numbering_appointments (put_role m r (Some active)) m.config (noting_active role.epoch m.appointments) (stays_noting role.epoch m.appointments) put

numbering_surveyed : (m : Machine) (r : ℕ) (e : Epoch) (faulted : Bool) → Numbering m → Numbering (with_survey m r e faulted)
numbering_surveyed m r e faulted n = numbering_beside m r (record (replica m r) { surveys = record { epoch = e; faulted = faulted } ∷ (replica m r).surveys }) refl refl n

numbering_closed : (m : Machine) (r : ℕ) → Numbering m → Numbering (closed m r)
numbering_closed m r n = (changes_keep_numbering.role_end m r n).1

numbering_failed : (m : Machine) (event : Event) (r : ℕ) → Numbering m → Numbering (failed m event r)
numbering_failed m (Boot p members) r n = numbering_closed m r n
numbering_failed m (Client q call) r n = numbering_closed m r n
numbering_failed m (Arm q calls) r n = numbering_closed m r n
numbering_failed m (Crash q pick) r n = numbering_closed m r n
numbering_failed m (Reboot q) r n = numbering_closed m r n
numbering_failed m (Inspect q) r n = numbering_closed m r n
numbering_failed m (Survey q e) r n = numbering_surveyed (closed m r) r e true (numbering_closed m r n)
numbering_failed m (Appoint e p members) r n = numbering_closed m r n
numbering_failed m (Activate e) r n = numbering_closed m r n

numbering_progress : (m : Machine) (event : Event) (r : ℕ) (e : Epoch) (last : ℕ) → Numbering m → Numbering (surveyed m event r e last)
numbering_progress m (Boot p members) r e last n = n
numbering_progress m (Client q call) r e last n = n
numbering_progress m (Arm q calls) r e last n = n
numbering_progress m (Crash q pick) r e last n = n
numbering_progress m (Reboot q) r e last n = n
numbering_progress m (Inspect q) r e last n = n
numbering_progress m (Survey q of) r e last n =
    let k = numbering_surveyed (without_role m r) r of false (changes_keep_numbering.role_end m r n).0 in
    record { replicas = k.replicas; home = k.home }
numbering_progress m (Appoint of p members) r e last n = n
numbering_progress m (Activate of) r e last n = n

-- ---- a line

-- during a boot nothing was begun
abbrev Boots : Position → Type 0
Boots p = (primary : ℕ) (members : List ℕ) → p.event ≡ Boot primary members → IsBooting p.machine.txns p.machine.appointments primary

-- Within an event that began at the machine the names count on, and its calls are answered as it stands there.
record NumberingState (m : Machine) (p : Position) : Type 0 where
  text : TextState m p
  now : Numbering p.machine
  boots : Boots p

booting_activated : (m : Machine) (r : ℕ) (o : Option Role) (primary : ℕ) → IsBooting m.txns m.appointments primary → IsBooting (option_map_or (activated m r) o m).txns (option_map_or (activated m r) o m).appointments primary
booting_activated m r None primary b = b
booting_activated m r (Some role) primary b = let a = stays_noting role.epoch m.appointments first_epoch b.appointment b.appointed in record {
  none = b.none;
  appointment = a.0;
  appointed = a.1;
  first = a.2 ∙ b.first;
}

boots_answered : (p : Position) (rank : ℕ) → Boots p → Boots (record (answering p) { rank = rank })
boots_answered p rank b = λ q members e. booting_answered p.machine p.event p.client q members e (b q members e)

boots_line : (p : Position) (o : Observation) → Boots p → May p o → Boots (after p o)
boots_line p (says.Up r) b h = b
boots_line p (says.Order t ops) b h = b
boots_line p (says.View r shown) b h =
    cond_both (is_some p.opening) (record p { machine = with_first_role (showing p.machine r shown) p.event p.mounts; opening = None }) (record p { machine = showing p.machine r shown; growing = false; rose = r ∷ p.rose }) Boots
    (λ _ q members e. booting_first_role (showing p.machine r shown) p.event p.mounts q (b q members e))
    (λ _. b)
boots_line p (says.Active r) b h = λ q members e. booting_activated p.machine r (role_of p.machine r) q (b q members e)
boots_line p (says.Committed t) b h = b
boots_line p says.Done b h = boots_answered p 6 b
boots_line p (says.Refused part) b h = boots_answered p 6 b
boots_line p (says.Txn t) b h = boots_answered p 6 b
boots_line p (says.Down r) b h = boots_answered p 6 b
boots_line p (says.NotActive r) b h = boots_answered p 6 b
boots_line p (says.Ended t) b h = boots_answered p 6 b
boots_line p (says.Locked t) b h = boots_answered p 6 b
boots_line p says.True b h = boots_answered p 6 b
boots_line p says.False b h = boots_answered p 6 b
boots_line p (says.Value value) b h = boots_answered p 6 b
boots_line p says.Missing b h = boots_answered p 6 b
boots_line p says.Absent b h = boots_answered p 6 b
boots_line p says.WrongKind b h = boots_answered p 6 b
boots_line p (says.Fault r) b h =
    λ q members e. booting_first_role (failed p.machine p.event r) p.event (drop 1 p.mounts) q (booting_failed p.machine p.event r q members e (b q members e))
boots_line p says.IgnoredUp b h = boots_answered p 6 b
boots_line p (says.IgnoredOldEpoch fence of) b h = boots_answered p 6 b
boots_line p (says.Progress r of last) b h = λ q members e. absurd (subst (λ (x : Event). MayTellProgress p x r of last) e h.row)
boots_line p (says.State r k) b h = b
boots_line p (says.Rows words) b h = b

module _ (m : Machine) (n : Numbering m) (p : Position) (s : NumberingState m p) where
  answered_now : Unanswered p → Numbering (answering p).machine
  answered_now free = answer_keeps Numbering m (λ r. numbering_cases m r n) n p s.text free s.now

  now_line : (o : Observation) → May p o → Numbering (after p o).machine
  now_line (says.Up r) h = numbering_replica p.machine r (up_again (replica p.machine r)) (record { closed = λ down. refl; role = λ role e. absurd (none-some role e) }) s.now
  now_line (says.Order t ops) h = record { replicas = s.now.replicas; home = s.now.home }
  now_line (says.View r shown) h =
      let shows = changes_keep_numbering.view p.machine r shown s.now in
      cond_both (is_some p.opening) (record p { machine = with_first_role (showing p.machine r shown) p.event p.mounts; opening = None }) (record p { machine = showing p.machine r shown; growing = false; rose = r ∷ p.rose }) (λ (q : Position). Numbering q.machine)
      (λ _. numbering_first_role (showing p.machine r shown) p.event p.mounts s.boots shows)
      (λ _. shows)
  now_line (says.Active r) h = numbering_activated p.machine r (role_of p.machine r) refl s.now
  now_line (says.Committed t) h = changes_keep_numbering.acknowledgement p.machine p.primary t s.now
  now_line says.Done h = answered_now (λ r call e. ((subst (λ (x : Event). MayBeDone p x) e h.row).1, no_fault p says.Done h r call e))
  now_line (says.Refused part) h = absurd h.row
  now_line (says.Txn t) h = answered_now (told p (says.Txn t) h h.row)
  now_line (says.Down r) h = answered_now (told p (says.Down r) h h.row)
  now_line (says.NotActive r) h = answered_now (told p (says.NotActive r) h h.row)
  now_line (says.Ended t) h = answered_now (told p (says.Ended t) h h.row)
  now_line (says.Locked t) h = answered_now (told p (says.Locked t) h h.row)
  now_line says.True h = answered_now (told p says.True h h.row)
  now_line says.False h = answered_now (told p says.False h h.row)
  now_line (says.Value value) h = answered_now (told p (says.Value value) h h.row)
  now_line says.Missing h = answered_now (told p says.Missing h h.row)
  now_line says.Absent h = answered_now (told p says.Absent h h.row)
  now_line says.WrongKind h = answered_now (told p says.WrongKind h h.row)
  now_line (says.Fault r) h =
      numbering_first_role (failed p.machine p.event r) p.event (drop 1 p.mounts) (λ q members e. booting_failed p.machine p.event r q members e (s.boots q members e)) (numbering_failed p.machine p.event r s.now)
  now_line says.IgnoredUp h = absurd h.row
  now_line (says.IgnoredOldEpoch fence of) h = answered_now (λ r call e. absurd (subst (λ (x : Event). MayIgnoreOldEpoch p x fence of) e h.row))
  now_line (says.Progress r of last) h = numbering_progress p.machine p.event r of last s.now
  now_line (says.State r k) h = s.now
  now_line (says.Rows words) h = s.now

  numbering_line : (o : Observation) → May p o → NumberingState m (after p o)
  numbering_line o h = record { text = text_line m n p o s.text h; now = now_line o h; boots = boots_line p o s.boots h }

numbering_lines : (m : Machine) (n : Numbering m) (p : Position) (lines : List Observation) → NumberingState m p → Lines p lines → NumberingState m (behind p lines)
numbering_lines m n p [] s h = s
numbering_lines m n p (o ∷ lines) s h = numbering_lines m n (after p o) lines (numbering_line m n p s o h.0) h.1

-- ---- the start of an event

-- a call
numbering_asking : (m : Machine) (n : Numbering m) (r : ℕ) (call : Call) → Numbering (asking m r call)
numbering_asking m n r call = by call
  where
    locks : (t : TxnId) (asked : Call) → Numbering (asking_locks m r t asked)
    locks t asked = by_going (going_at m r t)
      where
        by_going : (o : Option Txn) → Numbering (option_map_or (λ x. put_grants m r (taken (grants_of m r) t (locks_at (seen m r x) asked))) o m)
        by_going None = n
        by_going (Some x) = numbering_beside m r (record (replica m r) { grants = taken (grants_of m r) t (locks_at (seen m r x) asked) }) refl refl n

    abort : (t : TxnId) → Numbering (asking_abort m r t)
    abort t = by_going (going_at m r t) refl
      where
        by_going : (o : Option Txn) → going_at m r t ≡ o → Numbering (option_map_or (λ x. put_txn (put_grants m r (released (grants_of m r) t)) t (record x { live = false })) o m)
        by_going None e = n
        by_going (Some x) e =
            numbering_put (put_grants m r (released (grants_of m r) t)) t x (aborted x) (live_at m r t x e).known refl (numbering_beside m r (record (replica m r) { grants = released (grants_of m r) t }) refl refl n)

    by : (asked : Call) → Numbering (asking m r asked)
    by Begin = n
    by (Make t name kind) = locks t (Make t name kind)
    by (OnKey t name key asked) = locks t (OnKey t name key asked)
    by (Commit t) = changes_keep_numbering.request m r t n
    by (Abort t) = abort t

-- the first boot
numbering_booting : (m : Machine) (n : Numbering m) (p : ℕ) (members : List ℕ) → m.appointments ≡ [] → Numbering (booting m p members)
numbering_booting m n p members none =
    numbering_appointments m members (booting m p members).appointments (subst (λ (old : List Appointment). StaysAppointed old (booting m p members).appointments) (sym none) (λ f a found. absurd (none-some a found))) n

first_appointed : (m : Machine) (p : ℕ) (members : List ℕ) → refusal m (Boot p members) ≡ None → m.appointments ≡ []
first_appointed m p members h = unbooted m (first_boot (is_booted m) (are_members members p) h)

-- before it nothing was begun
no_txns : (txns : List (TxnId × Txn)) → ((t : TxnId) (x : Txn) → lookup (is_txn t) txns ≡ Some x → ⊥) → txns ≡ []
no_txns [] none = refl
no_txns (entry ∷ txns) none = absurd (none entry.0 entry.1 (cond-true (is_txn entry.0 entry.0) (Some entry.1) (lookup (is_txn entry.0) txns) (is_txn_same entry.0)))

none_begun : (m : Machine) → Numbering m → m.appointments ≡ [] → m.txns ≡ []
none_begun m n none =
    no_txns m.txns (λ t x known. let a = n.home t x known in none-some a.0 (ap (λ (others : List Appointment). find (λ b. is_epoch t.epoch b.epoch) others) (sym none) ∙ a.1))

-- no part of the rule is broken
all_hold : (part : ℕ) (bs : List Bool) → first_broken part bs ≡ None → AllByRecursion (λ b. b ≡ true) bs
all_hold part [] e = tt
all_hold part (b ∷ bs) e = let first = first_holds part b bs e in (first.0, all_hold (part + 1) bs first.1)

unbroken : (booted : Bool) (o : Option ℕ) → cond booted (option_map answers.Refused o) (Some (answers.Refused 9)) ≡ None → o ≡ None
unbroken true None e = refl
unbroken true (Some part) e = absurd (cc)
unbroken false o e = absurd (cc)

-- An appointment is of an epoch that is new, to a replica that is open: its role has begun nothing.
numbering_appointing : (m : Machine) (n : Numbering m) (e : Epoch) (p : ℕ) (members : List ℕ) → (replica m p).up ≡ true → appointment_of m e ≡ None → Numbering (appointing m e p members)
numbering_appointing m n e p members up none = numbering_new_role later p e new open_still (appointed_last e m.appointments new none refl) refl none_there (numbering_appointments ended m.config all (stays_beside m.appointments (new ∷ [])) before)
  where
    new : Appointment
    new = record { epoch = e; primary = p; previous = m.config; current = members; dropped = false; was_active = false }

    all : List Appointment
    all = m.appointments ++ new ∷ []

    ended : Machine
    ended = without_role m p

    later : Machine
    later = record ended { appointments = all }

    before : Numbering ended
    before = (changes_keep_numbering.role_end m p n).0

    open_still : (replica later p).up ≡ true
    open_still =
        at_each (λ (k : ℕ) (x : Replica). k ≡ p → x.up ≡ true) m.replicas p (record (replica m p) { role = None; grants = [] }) never_opened
        (λ k e. subst (λ (j : ℕ). (replica m j).up ≡ true) (sym e) up) (λ _. up) p refl

    none_there : (t : TxnId) (x : Txn) → txn_of later t ≡ Some x → t.epoch ≡ e → ⊥
    none_there t x known epoch =
        let a = before.home t x known in
        none-some a.0 (sym none ∙ (ap (λ (f : Epoch). find (λ b. is_epoch f b.epoch) m.appointments) (sym epoch) ∙ a.1))

numbering_activating : (m : Machine) (n : Numbering m) (o : Option Appointment) → Numbering (option_map_or (activating_of m) o m)
numbering_activating m n None = n
numbering_activating m n (Some a) =
    numbering_appointments m a.current (cond (has_role m a.primary a.epoch) (dropping a.epoch m.appointments) m.appointments)
    (cond_both (has_role m a.primary a.epoch) (dropping a.epoch m.appointments) m.appointments (StaysAppointed m.appointments) (λ _. stays_dropping a.epoch m.appointments) (λ _ f b found. (b, found, refl))) n

now_opened : (m : Machine) (n : Numbering m) (event : Event) → refusal m event ≡ None → Numbering (opened m event).machine
now_opened m n (Boot p members) h = numbering_booting m n p members (first_appointed m p members h)
now_opened m n (Client r call) h = numbering_asking m n r call
now_opened m n (Arm r calls) h = n
now_opened m n (Crash r pick) h = numbering_closed m r n
now_opened m n (Reboot r) h = n
now_opened m n (Inspect r) h = n
now_opened m n (Survey r e) h = n
now_opened m n (Appoint e p members) h =
    let parts = all_hold 1 (is_above (known_of m).appointed e ∷ are_members members p ∷ has_quorum m.answers m.config e ∷ has_answered_last m.answers e p ∷ tells_most m.answers e p ∷ (replica m p).up ∷ []) (unbroken (is_booted m) (broken_appointment (known_of m) e p members (replica m p).up) h) in
    numbering_appointing m n e p members parts.1.1.1.1.1.0 (not_appointed e m.appointments parts.0)
now_opened m n (Activate e) h = numbering_activating m n (appointment_of m e)

boots_opened : (m : Machine) → Numbering m → (event : Event) → refusal m event ≡ None → Boots (opened m event)
boots_opened m n (Boot p members) h = λ q others e. record {
  none = none_begun m n (first_appointed m p members h);
  appointment = record { epoch = first_epoch; primary = p; previous = members; current = members; dropped = false; was_active = false };
  appointed = refl;
  first = ap (event_primary m) e;
}
boots_opened m n (Client r call) h = λ q others e. absurd (cc)
boots_opened m n (Arm r calls) h = λ q others e. absurd (cc)
boots_opened m n (Crash r pick) h = λ q others e. absurd (cc)
boots_opened m n (Reboot r) h = λ q others e. absurd (cc)
boots_opened m n (Inspect r) h = λ q others e. absurd (cc)
boots_opened m n (Survey r of) h = λ q others e. absurd (cc)
boots_opened m n (Appoint of p members) h = λ q others e. absurd (cc)
boots_opened m n (Activate of) h = λ q others e. absurd (cc)

-- ---- the laws

pub lines_keep_numbering : LinesKeepNumbering
lines_keep_numbering m event lines n none may =
    (numbering_lines m n (opened m event) lines (record { text = text_opened m event; now = now_opened m n event none; boots = boots_opened m n event none }) may).now

pub events_keep_numbering : EventsKeepNumbering
events_keep_numbering m event lines n begun = moved_by Numbering m event lines begun n (lines_keep_numbering m event lines n)

pub runs_keep_numbering : RunsKeepNumbering
runs_keep_numbering filters steps legal = run_keeps Numbering events_keep_numbering filters empty_machine steps empty_is_numbered legal
