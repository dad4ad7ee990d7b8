-- The start of an event that isn't refused keeps what machines keep.
use Rattle.std.proofs.Common.{◌≡◌, ◌∙◌, ℕ, Bool, true, false, ◌&&◌, cond, eqb, length, List, [], ◌∷◌, ◌++◌, map, Option, Some, None, refl, sym, ap, subst, inl, inr, arith}
use Rattle.std.specs.Prelude.{find, option_and_then, option_map, not}
use Rattle.std.specs.List.{list_all}
use Rattle.std.specs.Option.{option_map_or}
use Rattle.std.specs.Map.{lookup}
use Rattle.std.proofs.lemmas.Bool.{cond_both, cond-true, cond-false, cases_Bool, and_parts, eqb-true, not-false, false≢true}
use Rattle.std.proofs.lemmas.Bool.Decides.{nat_tests}
use Rattle.std.proofs.lemmas.List.{nil_from_length}
use Rattle.std.proofs.lemmas.Option.{none-some, same_Some}
use Rattle.rc_base.specs.declared.ids.Epoch.{Epoch}
use Rattle.rc_base.specs.declared.ids.TxnId.{TxnId}
use Rattle.coll_model.specs.declared.op.Op.{Op}
use Rattle.events.specs.declared.event.Event.{Event}
use Rattle.events.specs.declared.event.Event.TheVariants.{Boot, Client, Arm, Crash, Reboot, Inspect, Survey, Appoint, Activate}
use Rattle.events.specs.declared.call.Call.{Call}
use Rattle.events.specs.declared.call.Call.TheVariants.{Begin, Make, OnKey, Commit, Abort}
use Rattle.events.specs.declared.answer.Answer.TheVariants as answers
use Rattle.events.specs.declared.answer.Reply.{Reply}
use Rattle.key_locks.specs.Grants.{released}
use Rattle.config_rule.specs.Rule.{are_members}
use Rattle.rc_base.specs.Ids.{is_epoch, is_txn, epoch_lt}
use Rattle.rc_base.proofs.SameIds.{is_epoch_same}
use Rattle.order_machine.specs.Machine.{Machine, Txn, Appointment, put_txn, txn_of, role_of, replica, grants_of, put_grants, appointment_of, as_appointed, has_role, is_booted, is_active, is_live, live_txn, without_role, closed}
use Rattle.events.specs.Locking.{locks_at, taken}
use Rattle.events.specs.Answers.{plain, live_reply}
use Rattle.order_machine.specs.Clients.{answer, served, seen, next_txn}
use Rattle.events.specs.Calls.{txn_named}
use Rattle.order_machine.specs.Transitions.{refusal, opened, at_start, booting, going_at, asking, asking_commit, asking_abort, asking_locks, new_role, appointing, dropping, activating_of, activating, latest_primary, first_epoch}
use Rattle.order_laws.proofs.Kept.{Kept, OfRole, StaysAppointed, kept_put, kept_put_known, kept_grants, kept_closed, kept_role_ended, kept_appointments, stays_beside, stays_dropping, no_txns}
use Rattle.order_laws.proofs.Steps.{KeptAt, IsCalling}

-- ---- boot

-- a boot that isn't refused is the first
pub first_boot : (booted members : Bool) → cond booted (Some (answers.Refused 9)) (cond members None (Some (answers.Refused 2))) ≡ None → booted ≡ false
first_boot true members h = absurd (cc)
first_boot false members h = refl

pub unbooted : (m : Machine) → is_booted m ≡ false → m.appointments ≡ []
unbooted m h = nil_from_length m.appointments (eqb-true (length m.appointments) 0 (not-false (eqb (length m.appointments) 0) h))

kept_booting : (m : Machine) (k : Kept m) (p : ℕ) (members : List ℕ) → m.appointments ≡ [] → Kept (booting m p members)
kept_booting m k p members none = record {
  order = k.order;
  one = k.one;
  replicas = λ r. record {
    loss = (k.replicas r).loss;
    within = (k.replicas r).within;
    role = λ role is. let old = (k.replicas r).role role is in absurd (none-some old.appointment (ap (λ others. find (λ a. is_epoch role.epoch a.epoch) others) (sym none) ∙ old.appointed));
  };
  held = k.held;
  once = k.once;
  asked = k.asked;
  unbooted = λ e. absurd (cc);
  named = λ t x known. absurd (no_txns m k t x known none);
  unasked = k.unasked;
}

kept_boot : (m : Machine) (k : Kept m) (p : ℕ) (members : List ℕ) → refusal m (Boot p members) ≡ None → KeptAt (opened m (Boot p members))
kept_boot m k p members h =
    let none = unbooted m (first_boot (is_booted m) (are_members members p) h) in
    record {
      machine = kept_booting m k p members none;
      opening = λ r e. absurd (none-some r e);
      booting = λ q others e. record {
        none = k.unbooted none;
        appointment = record { epoch = first_epoch; primary = p; previous = members; current = members; dropped = false; was_active = false };
        appointed = refl;
        first = ap boot_primary e;
      };
      calling = λ r call e. absurd (cc);
    }
  where
    boot_primary : Event → ℕ
    boot_primary (Boot q others) = q
    boot_primary _ = 0

-- ---- calls

-- a transaction that goes on is known
going_known : (m : Machine) (r : ℕ) (t : TxnId) (x : Txn) → going_at m r t ≡ Some x → txn_of m t ≡ Some x
going_known m r t x =
    cond_both (is_active m r) (live_txn m r t) None (λ o. o ≡ Some x → txn_of m t ≡ Some x)
    (λ _. cond_both (is_live m r t) (txn_of m t) None (λ o. o ≡ Some x → txn_of m t ≡ Some x) (λ _ h. h) (λ _ h. absurd (none-some x h)))
    (λ _ h. absurd (none-some x h))

kept_asking_commit : (m : Machine) (k : Kept m) (r : ℕ) (t : TxnId) → Kept (asking_commit m r t)
kept_asking_commit m k r t = asked (going_at m r t) refl
  where
    asked : (o : Option Txn) → going_at m r t ≡ o → Kept (option_map_or (λ x. put_txn m t (record x { live = false; asked = true })) o m)
    asked None going = k
    asked (Some x) going = kept_put_known m k t x (record x { live = false; asked = true }) (going_known m r t x going) (λ _. (refl, refl)) (λ live. absurd (false≢true live))

kept_asking_abort : (m : Machine) (k : Kept m) (r : ℕ) (t : TxnId) → Kept (asking_abort m r t)
kept_asking_abort m k r t = asked (going_at m r t) refl
  where
    asked : (o : Option Txn) → going_at m r t ≡ o → Kept (option_map_or (λ x. put_txn (put_grants m r (released (grants_of m r) t)) t (record x { live = false })) o m)
    asked None going = k
    asked (Some x) going =
        kept_put_known (put_grants m r (released (grants_of m r) t)) (kept_grants m k r (released (grants_of m r) t)) t x (record x { live = false }) (going_known m r t x going) (λ asked. (asked, refl)) (λ live. absurd (false≢true live))

kept_asking_locks : (m : Machine) (k : Kept m) (r : ℕ) (t : TxnId) (call : Call) → Kept (asking_locks m r t call)
kept_asking_locks m k r t call = asked (going_at m r t)
  where
    asked : (o : Option Txn) → Kept (option_map_or (λ x. put_grants m r (taken (grants_of m r) t (locks_at (seen m r x) call))) o m)
    asked None = k
    asked (Some x) = kept_grants m k r (taken (grants_of m r) t (locks_at (seen m r x) call))

kept_asking : (m : Machine) (k : Kept m) (r : ℕ) (call : Call) → Kept (asking m r call)
kept_asking m k r Begin = k
kept_asking m k r (Make t name kind) = kept_asking_locks m k r t (Make t name kind)
kept_asking m k r (OnKey t name key call) = kept_asking_locks m k r t (OnKey t name key call)
kept_asking m k r (Commit t) = kept_asking_commit m k r t
kept_asking m k r (Abort t) = kept_asking_abort m k r t

-- the locks of a call are nothing that is known of a transaction
same_txns : (m : Machine) (r : ℕ) (t : TxnId) (call : Call) → (asking_locks m r t call).txns ≡ m.txns
same_txns m r t call = asked (going_at m r t)
  where
    asked : (o : Option Txn) → (option_map_or (λ x. put_grants m r (taken (grants_of m r) t (locks_at (seen m r x) call))) o m).txns ≡ m.txns
    asked None = refl
    asked (Some x) = refl

-- the operation of an answer is that of an open, active primary's
abbrev op_of : Option Reply → Option Op
op_of o = option_and_then (λ reply. reply.op) o

op_served : (up active : Bool) (r : ℕ) (o : Option Reply) → op_of o ≡ None → op_of (cond (not up) (Some (plain (answers.Down r))) (cond (not active) (Some (plain (answers.NotActive r))) o)) ≡ None
op_served false active r o h = refl
op_served true false r o h = refl
op_served true true r o h = h

-- no call of a transaction logs anything once its commit was asked
logs_nothing : (m : Machine) (k : Kept m) (r : ℕ) (call : Call) (t : TxnId) (x : Txn) → txn_named call ≡ Some t → txn_of m t ≡ Some x → x.asked ≡ true → op_of (answer m r call) ≡ None
logs_nothing m k r call t x named known asked =
    op_served (replica m r).up (is_active m r) r (served m r call)
    (ap (λ o. op_of (option_map_or (λ u. option_map_or (λ y. live_reply (grants_of m r) (seen m r y) u call) (live_txn m r u) (Some (plain (answers.Ended u)))) o (Some (plain (answers.Txn (next_txn (role_of m r))))))) named
    ∙ ap (λ o. op_of (option_map_or (λ y. live_reply (grants_of m r) (seen m r y) t call) o (Some (plain (answers.Ended t))))) not_live)
  where
    by_live : (live here : Bool) → (live ≡ true → ⊥) → (live && here) ≡ false
    by_live true here h = absurd (h refl)
    by_live false here h = refl

    not_live : live_txn m r t ≡ None
    not_live =
        cond-false (is_live m r t) (txn_of m t) None
        (ap (λ o. option_map_or (λ y. y.live && eqb y.home r) o false) known ∙ by_live x.live (eqb x.home r) (λ live. false≢true (sym (k.unasked t x known live) ∙ asked)))

no_op_of_commit : (m : Machine) (r : ℕ) (t : TxnId) → op_of (answer m r (Commit t)) ≡ None
no_op_of_commit m r t = op_served (replica m r).up (is_active m r) r (served m r (Commit t)) (by_live (live_txn m r t))
  where
    by_live : (o : Option Txn) → op_of (option_map_or (λ y. None) o (Some (plain (answers.Ended t)))) ≡ None
    by_live None = refl
    by_live (Some y) = refl

no_op_of_abort : (m : Machine) (r : ℕ) (t : TxnId) → op_of (answer m r (Abort t)) ≡ None
no_op_of_abort m r t = op_served (replica m r).up (is_active m r) r (served m r (Abort t)) (by_live (live_txn m r t))
  where
    by_live : (o : Option Txn) → op_of (option_map_or (λ y. Some (plain answers.Done)) o (Some (plain (answers.Ended t)))) ≡ None
    by_live None = refl
    by_live (Some y) = refl

-- one that asks for locks
calling_locks : (m : Machine) (k : Kept m) (r : ℕ) (call : Call) (u : TxnId) → txn_named call ≡ Some u → IsCalling (asking_locks m r u call) r call (answer m r call)
calling_locks m k r call u named = record {
  begins = λ e. absurd (none-some u (sym e ∙ named));
  logs = λ t x e known asked. logs_nothing m k r call t x e (ap (lookup (is_txn t)) (sym (same_txns m r u call)) ∙ known) asked;
}

calling_opened : (m : Machine) (k : Kept m) (r : ℕ) (call : Call) → IsCalling (asking m r call) r call (answer m r call)
calling_opened m k r Begin = record { begins = λ e. refl; logs = λ t x e. absurd (none-some t e) }
calling_opened m k r (Make u name kind) = calling_locks m k r (Make u name kind) u refl
calling_opened m k r (OnKey u name key call) = calling_locks m k r (OnKey u name key call) u refl
calling_opened m k r (Commit u) = record { begins = λ e. absurd (none-some u (sym e)); logs = λ t x e known asked. no_op_of_commit m r u }
calling_opened m k r (Abort u) = record { begins = λ e. absurd (none-some u (sym e)); logs = λ t x e known asked. no_op_of_abort m r u }

kept_call : (m : Machine) (k : Kept m) (r : ℕ) (call : Call) → KeptAt (opened m (Client r call))
kept_call m k r call = record {
  machine = kept_asking m k r call;
  opening = λ q e. absurd (none-some q e);
  booting = λ q members e. absurd (cc);
  calling = λ q other e _.
      subst (λ x. IsCalling (asking m r call) x other (answer m r call)) (ap (replica_called r) e) (subst (λ x. IsCalling (asking m r call) r x (answer m r call)) (ap (called call) e) (calling_opened m k r call));
}
  where
    replica_called : ℕ → Event → ℕ
    replica_called default (Client q other) = q
    replica_called default _ = default

    called : Call → Event → Call
    called default (Client q other) = other
    called default _ = default

-- ---- appointments

-- an appointment that isn't refused is of an epoch above each appointed one
is_above_before : (booted above : Bool) (others : Option ℕ) → cond booted (option_map answers.Refused (cond above others (Some 1))) (Some (answers.Refused 9)) ≡ None → above ≡ true
is_above_before true true others h = refl
is_above_before true false others h = absurd (cc)
is_above_before false above others h = absurd (cc)

not_itself : (a e : Epoch) → epoch_lt a e ≡ true → is_epoch e a ≡ false
not_itself a e below = grind (arith, nat_tests)

pub not_appointed : (e : Epoch) (old : List Appointment) → list_all (λ a. epoch_lt a.epoch e) (map as_appointed old) ≡ true → find (λ a. is_epoch e a.epoch) old ≡ None
not_appointed e [] above = refl
not_appointed e (a ∷ old) above =
    let parts = and_parts (epoch_lt a.epoch e) (list_all (λ b. epoch_lt b.epoch e) (map as_appointed old)) above in
    cond-false (is_epoch e a.epoch) (Some a) (find (λ b. is_epoch e b.epoch) old) (not_itself a.epoch e parts.0) ∙ not_appointed e old parts.1

pub appointed_last : (e : Epoch) (old : List Appointment) (new : Appointment) → find (λ a. is_epoch e a.epoch) old ≡ None → new.epoch ≡ e → find (λ a. is_epoch e a.epoch) (old ++ new ∷ []) ≡ Some new
appointed_last e [] new none same = cond-true (is_epoch e new.epoch) (Some new) None (ap (is_epoch e) same ∙ is_epoch_same e)
appointed_last e (a ∷ old) new none same =
    elim (cases_Bool (is_epoch e a.epoch)) [
      | inl here ↦ absurd (none-some a (sym none ∙ cond-true (is_epoch e a.epoch) (Some a) (find (λ b. is_epoch e b.epoch) old) here))
      | inr other ↦
          cond-false (is_epoch e a.epoch) (Some a) (find (λ b. is_epoch e b.epoch) (old ++ new ∷ [])) other
          ∙ appointed_last e old new (sym (cond-false (is_epoch e a.epoch) (Some a) (find (λ b. is_epoch e b.epoch) old) other) ∙ none) same
    ]

kept_appointing : (m : Machine) (k : Kept m) (e : Epoch) (p : ℕ) (members : List ℕ) → find (λ a. is_epoch e a.epoch) m.appointments ≡ None → Kept (appointing m e p members)
kept_appointing m k e p members none =
    let new : Appointment = record { epoch = e; primary = p; previous = m.config; current = members; dropped = false; was_active = false } in
    let all = m.appointments ++ new ∷ [] in
    let ended = without_role m p in
    let before : Kept ended = kept_role_ended m k p in
    let later : Kept (record ended { appointments = all }) = kept_appointments ended before m.config all (stays_beside m.appointments (new ∷ [])) in
    kept_put (record ended { appointments = all }) later p (record (replica ended p) { role = Some (new_role e) }) (record {
      loss = (later.replicas p).loss;
      within = (later.replicas p).within;
      role = λ role is. subst (OfRole later.order m.acknowledged ended.txns all p (replica ended p).show) (same_Some (new_role e) role is) (record {
        appointment = new;
        appointed = appointed_last e m.appointments new none refl;
        primary = refl;
        counted = λ t x epoch known. let a = before.named t x known in absurd (none-some a.0 (sym none ∙ (ap (λ f. find (λ b. is_epoch f b.epoch) m.appointments) (sym epoch) ∙ a.1)));
        shows = λ active. absurd (false≢true active);
      });
    })

kept_activating : (m : Machine) (k : Kept m) (e : Epoch) → Kept (activating m e)
kept_activating m k e = of (appointment_of m e)
  where
    of : (o : Option Appointment) → Kept (option_map_or (activating_of m) o m)
    of None = k
    of (Some a) = kept_appointments m k a.current (cond (has_role m a.primary a.epoch) (dropping a.epoch m.appointments) m.appointments)
        (cond_both (has_role m a.primary a.epoch) (dropping a.epoch m.appointments) m.appointments (StaysAppointed m.appointments) (λ _. stays_dropping a.epoch m.appointments) (λ _ f b found. (b, found, refl)))

-- ---- the others

-- an event that is neither a boot nor a call begins where nothing is opened
kept_other : (m : Machine) (k : Kept m) (event : Event) (primary : ℕ) (mounts : List ℕ) → ((q : ℕ) (members : List ℕ) → event ≡ Boot q members → ⊥) → ((q : ℕ) (call : Call) → event ≡ Client q call → ⊥) → KeptAt (at_start m event primary None mounts)
kept_other m k event primary mounts no_boot no_call = record {
  machine = k;
  opening = λ q e. absurd (none-some q e);
  booting = λ q members e. absurd (no_boot q members e);
  calling = λ q call e. absurd (no_call q call e);
}

pub kept_opened : (m : Machine) (k : Kept m) (event : Event) → refusal m event ≡ None → KeptAt (opened m event)
kept_opened m k (Boot p members) h = kept_boot m k p members h
kept_opened m k (Client r call) h = kept_call m k r call
kept_opened m k (Arm r calls) h = kept_other m k (Arm r calls) r [] (λ q members e. cc) (λ q call e. cc)
kept_opened m k (Crash r pick) h = kept_other (closed m r) (kept_closed m k r) (Crash r pick) r [] (λ q members e. cc) (λ q call e. cc)
kept_opened m k (Reboot r) h = kept_other m k (Reboot r) r (r ∷ []) (λ q members e. cc) (λ q call e. cc)
kept_opened m k (Inspect r) h = kept_other m k (Inspect r) r [] (λ q members e. cc) (λ q call e. cc)
kept_opened m k (Survey r epoch) h = kept_other m k (Survey r epoch) r [] (λ q members e. cc) (λ q call e. cc)
kept_opened m k (Appoint epoch p members) h =
    let above = is_above_before (is_booted m) (list_all (λ a. epoch_lt a.epoch epoch) (map as_appointed m.appointments)) _ h in
    kept_other (appointing m epoch p members) (kept_appointing m k epoch p members (not_appointed epoch m.appointments above)) (Appoint epoch p members) p [] (λ q others e. cc) (λ q call e. cc)
kept_opened m k (Activate epoch) h = kept_other (activating m epoch) (kept_activating m k epoch) (Activate epoch) (latest_primary m) [] (λ q members e. cc) (λ q call e. cc)
