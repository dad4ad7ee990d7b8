-- Each line of an event leaves texts what they are.
use Rattle.std.proofs.Common.{◌≡◌, ◌∙◌, ◌⊎◌, inl, inr, ℕ, suc, true, false, ◌&&◌, ◌||◌, eqb, cond, length, drop, List, [], ◌∷◌, Option, Some, None, is_some, is_none, refl, sym, ap, subst, arith}
use Rattle.std.specs.Option.{option_map_or}
use Rattle.std.proofs.lemmas.Bool.{false≢true, cond_both, eqb-true}
use Rattle.rc_base.specs.declared.ids.Epoch.{Epoch}
use Rattle.rc_base.specs.declared.ids.TxnId.{TxnId}
use Rattle.events.specs.declared.event.Event.{Event}
use Rattle.events.specs.declared.event.Event.TheVariants.{Boot, Client, Arm, Crash, Reboot, Inspect, Survey, Appoint, Activate}
use Rattle.events.specs.declared.call.Call.{Call}
use Rattle.events.specs.declared.call.Call.TheVariants.{Begin, Make, OnKey, Commit, Abort}
use Rattle.events.specs.declared.answer.Reply.{Reply}
use Rattle.events.specs.Locking.{locks_at, taken}
use Rattle.key_locks.specs.Grants.{released}
use Rattle.order_machine.specs.declared.observation.Observation.{Observation}
use Rattle.order_machine.specs.declared.observation.Observation.TheVariants as says
use Rattle.order_machine.specs.Machine.{Machine, Role, Txn, Appointment, replica, put_txn, put_grants, grants_of, role_of, put_role, appointment_of, ended_at, closed}
use Rattle.order_machine.specs.Clients.{answer, seen}
use Rattle.order_machine.specs.Transitions.{Position, first_epoch, new_role, is_boot, is_call, is_opening, is_reconfiguration, opened, at_start, booting, in_order, appointing, activating, latest_primary, going_at, asking, asking_locks, asking_abort, activating_of, activated, with_first_role, showing, failed, surveyed, answering, answered_by, after, May, MayAnswer, MayBeDone, MayIgnoreOldEpoch}
use Rattle.order_machine.specs.Legal.{Lines, behind}
use Rattle.history_laws.specs.QuietCalls.{SettledStay}
use Rattle.history_laws.specs.Laws.{EventsKeepTexts}
use Rattle.history_laws.specs.Invariant.Numbering.{Numbering}
use Rattle.history_laws.proofs.QuietSuffixes.{SettledStay-itself, SettledStay-trans, SettledStay-ended}
use Rattle.history_laws.proofs.TextSteps.{IsText-settled}
use Rattle.history_laws.proofs.CallCases.{live_at, aborted, CallCases, after_answer}
use Rattle.history_laws.proofs.SettledSteps.{settled_live, settled_cases, settled_request}

-- Within an event that began at the machine: what had ended on request stays so; and until a call is answered or cut off by a fault, it has no answer of its own, or
-- the one that it had as the event began, and the machine is as it was asked.
pub record TextState (m : Machine) (p : Position) : Type 0 where
  pub stays : SettledStay m.txns p.machine.txns
  pub calling : (r : ℕ) (call : Call) → p.event ≡ Client r call → p.answered ≡ false → length p.faulted ≡ 0 → (p.client ≡ None) ⊎ ((p.client ≡ answer m r call) × (p.machine ≡ asking m r call))

-- ---- calls that were granted

granted_grows : (event : Event) (client : Option Reply) (r : ℕ) (call : Call) → event ≡ Client r call → ((is_call event && is_none client) || is_reconfiguration event) ≡ true → client ≡ None
granted_grows event None r call e h = refl
granted_grows event (Some reply) r call e h = absurd (false≢true (subst (λ (x : Event). ((is_call x && false) || is_reconfiguration x) ≡ true) e h))

granted_view : (event : Event) (client : Option Reply) (r : ℕ) (call : Call) → event ≡ Client r call → (is_opening event || ((is_call event && is_none client) || is_reconfiguration event)) ≡ true → client ≡ None
granted_view event None r call e h = refl
granted_view event (Some reply) r call e h = absurd (false≢true (subst (λ (x : Event). (is_opening x || ((is_call x && false) || is_reconfiguration x)) ≡ true) e h))

granted_active : (event : Event) (client : Option Reply) (r : ℕ) (call : Call) → event ≡ Client r call → (is_boot event || ((is_call event && is_none client) || is_reconfiguration event)) ≡ true → client ≡ None
granted_active event None r call e h = refl
granted_active event (Some reply) r call e h = absurd (false≢true (subst (λ (x : Event). (is_boot x || ((is_call x && false) || is_reconfiguration x)) ≡ true) e h))

-- ---- what leaves the transactions as they are

first_role_txns : (m : Machine) (event : Event) (mounts : List ℕ) → (with_first_role m event mounts).txns ≡ m.txns
first_role_txns m (Boot p members) [] = cond_both (replica m p).up (put_role m p (Some (new_role first_epoch))) m (λ (n : Machine). n.txns ≡ m.txns) (λ _. refl) (λ _. refl)
first_role_txns m (Boot p members) (q ∷ mounts) = refl
first_role_txns m (Client r call) mounts = refl
first_role_txns m (Arm r calls) mounts = refl
first_role_txns m (Crash r pick) mounts = refl
first_role_txns m (Reboot r) mounts = refl
first_role_txns m (Inspect r) mounts = refl
first_role_txns m (Survey r e) mounts = refl
first_role_txns m (Appoint e p members) mounts = refl
first_role_txns m (Activate e) mounts = refl

active_txns : (m : Machine) (r : ℕ) (o : Option Role) → (option_map_or (activated m r) o m).txns ≡ m.txns
active_txns m r None = refl
active_txns m r (Some role) = refl

failed_txns : (m : Machine) (event : Event) (r : ℕ) → (failed m event r).txns ≡ ended_at r m.txns
failed_txns m (Boot p members) r = refl
failed_txns m (Client q call) r = refl
failed_txns m (Arm q calls) r = refl
failed_txns m (Crash q pick) r = refl
failed_txns m (Reboot q) r = refl
failed_txns m (Inspect q) r = refl
failed_txns m (Survey q e) r = refl
failed_txns m (Appoint e p members) r = refl
failed_txns m (Activate e) r = refl

surveyed_stays : (start : List (TxnId × Txn)) (m : Machine) (event : Event) (r : ℕ) (e : Epoch) (last : ℕ) → SettledStay start m.txns → SettledStay start (surveyed m event r e last).txns
surveyed_stays start m (Boot p members) r e last stays = stays
surveyed_stays start m (Client q call) r e last stays = stays
surveyed_stays start m (Arm q calls) r e last stays = stays
surveyed_stays start m (Crash q pick) r e last stays = stays
surveyed_stays start m (Reboot q) r e last stays = stays
surveyed_stays start m (Inspect q) r e last stays = stays
surveyed_stays start m (Survey q of) r e last stays = SettledStay-trans start m.txns (ended_at r m.txns) stays (SettledStay-ended r m.txns)
surveyed_stays start m (Appoint of p members) r e last stays = stays
surveyed_stays start m (Activate of) r e last stays = stays

-- ---- answers

either_same : (P : Machine → Type 0) (n : Machine) (o : Option Reply) → P n → P (option_map_or (λ reply. n) o n)
either_same P n None h = h
either_same P n (Some reply) h = h

-- a call that isn't answered yet, nor cut off
abbrev pub Unanswered : Position → Type 0
Unanswered p = (r : ℕ) (call : Call) → p.event ≡ Client r call → (p.answered ≡ false) × (length p.faulted ≡ 0)

-- what holds after each answer holds behind its line
pub answer_keeps : (P : Machine → Type 0) (m : Machine) → ((r : ℕ) → CallCases P m r) → Numbering m → (p : Position) → TextState m p → Unanswered p → P p.machine → P (answering p).machine
answer_keeps P m cases n p s free now = by p.event refl
  where
    client : (r : ℕ) (call : Call) → (p.client ≡ None) ⊎ ((p.client ≡ answer m r call) × (p.machine ≡ asking m r call)) → P (option_map_or (answered_by p.machine (Client r call)) p.client p.machine)
    client r call (inl none) = subst (λ (o : Option Reply). P (option_map_or (answered_by p.machine (Client r call)) o p.machine)) (sym none) now
    client r call (inr is) = by_reply p.client refl
      where
        by_reply : (o : Option Reply) → p.client ≡ o → P (option_map_or (answered_by p.machine (Client r call)) o p.machine)
        by_reply None e = now
        by_reply (Some reply) e = subst (λ (now : Machine). P (answered_by now (Client r call) reply)) (sym is.1) (after_answer P m r (cases r) call reply n (sym is.0 ∙ e))

    same : P (option_map_or (λ reply. p.machine) p.client p.machine)
    same = either_same P p.machine p.client now

    by : (event : Event) → p.event ≡ event → P (option_map_or (answered_by p.machine event) p.client p.machine)
    by (Boot q members) e = same
    by (Client r call) e = let f = free r call e in client r call (s.calling r call e f.0 f.1)
    by (Arm r calls) e = same
    by (Crash r pick) e = same
    by (Reboot r) e = same
    by (Inspect r) e = same
    by (Survey r of) e = same
    by (Appoint of q members) e = same
    by (Activate of) e = same

answered_line : (m : Machine) → Numbering m → (p : Position) (rank : ℕ) → TextState m p → Unanswered p → TextState m (record (answering p) { rank = rank })
answered_line m n p rank s free = record { stays = answer_keeps (λ now. SettledStay m.txns now.txns) m (settled_cases m) n p s free s.stays; calling = λ r call e unanswered. absurd (false≢true (sym unanswered)) }

pub no_fault : (p : Position) (o : Observation) → May p o → (r : ℕ) (call : Call) → p.event ≡ Client r call → length p.faulted ≡ 0
no_fault p o h r call e = eqb-true (length p.faulted) 0 (subst (λ (x : Event). (is_boot x || eqb (length p.faulted) 0) ≡ true) e h.goes_on)

-- a line that answers
pub told : (p : Position) (o : Observation) → May p o → MayAnswer p o → Unanswered p
told p o h row = λ r call e. (row.1, no_fault p o h r call e)

-- ---- a line

pub text_line : (m : Machine) → Numbering m → (p : Position) (o : Observation) → TextState m p → May p o → TextState m (after p o)
text_line m n p (says.Up r) s h = record { stays = s.stays; calling = λ q call e unanswered faults. absurd (false≢true (subst (λ (x : Event). is_opening x ≡ true) e h.named)) }
text_line m n p (says.Order t ops) s h = record { stays = s.stays; calling = λ q call e unanswered faults. inl (granted_grows p.event p.client q call e h.named) }
text_line m n p (says.View r shown) s h =
    cond_both (is_some p.opening) (record p { machine = with_first_role (showing p.machine r shown) p.event p.mounts; opening = None }) (record p { machine = showing p.machine r shown; growing = false; rose = r ∷ p.rose })
    (λ (q : Position). TextState m (record q { rank = cond (is_some p.opening) 0 3 }))
    (λ _. record { stays = subst (SettledStay m.txns) (sym (first_role_txns (showing p.machine r shown) p.event p.mounts)) s.stays; calling = λ q call e unanswered faults. inl (granted_view p.event p.client q call e h.named) })
    (λ _. record { stays = s.stays; calling = λ q call e unanswered faults. inl (granted_view p.event p.client q call e h.named) })
text_line m n p (says.Active r) s h = record {
  stays = subst (SettledStay m.txns) (sym (active_txns p.machine r (role_of p.machine r))) s.stays;
  calling = λ q call e unanswered faults. inl (granted_active p.event p.client q call e h.named);
}
text_line m n p (says.Committed t) s h = record { stays = s.stays; calling = λ q call e unanswered faults. inl (granted_grows p.event p.client q call e h.named) }
text_line m n p says.Done s h =
    answered_line m n p 6 s (λ r call e. ((subst (λ (x : Event). MayBeDone p x) e h.row).1, no_fault p says.Done h r call e))
text_line m n p (says.Refused part) s h = absurd h.row
text_line m n p (says.Txn t) s h = answered_line m n p 6 s (told p (says.Txn t) h h.row)
text_line m n p (says.Down q) s h = answered_line m n p 6 s (told p (says.Down q) h h.row)
text_line m n p (says.NotActive q) s h = answered_line m n p 6 s (told p (says.NotActive q) h h.row)
text_line m n p (says.Ended t) s h = answered_line m n p 6 s (told p (says.Ended t) h h.row)
text_line m n p (says.Locked t) s h = answered_line m n p 6 s (told p (says.Locked t) h h.row)
text_line m n p says.True s h = answered_line m n p 6 s (told p says.True h h.row)
text_line m n p says.False s h = answered_line m n p 6 s (told p says.False h h.row)
text_line m n p (says.Value value) s h = answered_line m n p 6 s (told p (says.Value value) h h.row)
text_line m n p says.Missing s h = answered_line m n p 6 s (told p says.Missing h h.row)
text_line m n p says.Absent s h = answered_line m n p 6 s (told p says.Absent h h.row)
text_line m n p says.WrongKind s h = answered_line m n p 6 s (told p says.WrongKind h h.row)
text_line m n p (says.Fault r) s h = record {
  stays =
      subst (SettledStay m.txns) (sym (first_role_txns (failed p.machine p.event r) p.event (drop 1 p.mounts) ∙ failed_txns p.machine p.event r))
      (SettledStay-trans m.txns p.machine.txns (ended_at r p.machine.txns) s.stays (SettledStay-ended r p.machine.txns));
  calling = λ q call e unanswered faults. let bad : suc (length p.faulted) ≡ 0 = faults in absurd (omega arith);
}
text_line m n p says.IgnoredUp s h = absurd h.row
text_line m n p (says.IgnoredOldEpoch fence of) s h =
    answered_line m n p 6 s (λ r call e. absurd (subst (λ (x : Event). MayIgnoreOldEpoch p x fence of) e h.row))
text_line m n p (says.Progress r e last) s h = record {
  stays = surveyed_stays m.txns p.machine p.event r e last s.stays;
  calling = λ q call is unanswered. absurd (false≢true (sym unanswered));
}
text_line m n p (says.State r k) s h = record { stays = s.stays; calling = λ q call e unanswered. absurd (false≢true (sym unanswered)) }
text_line m n p (says.Rows words) s h = record { stays = s.stays; calling = s.calling }

text_lines : (m : Machine) → Numbering m → (p : Position) (lines : List Observation) → TextState m p → Lines p lines → TextState m (behind p lines)
text_lines m n p [] s h = s
text_lines m n p (o ∷ lines) s h = text_lines m n (after p o) lines (text_line m n p o s h.0) h.1

-- ---- the start of an event

asking_stays : (m : Machine) (r : ℕ) (call : Call) → SettledStay m.txns (asking m r call).txns
asking_stays m r call = by call
  where
    locks : (t : TxnId) (asked : Call) → SettledStay m.txns (asking_locks m r t asked).txns
    locks t asked = by_going (going_at m r t)
      where
        by_going : (o : Option Txn) → SettledStay m.txns (option_map_or (λ x. put_grants m r (taken (grants_of m r) t (locks_at (seen m r x) asked))) o m).txns
        by_going None = SettledStay-itself m.txns
        by_going (Some x) = SettledStay-itself m.txns

    abort : (t : TxnId) → SettledStay m.txns (asking_abort m r t).txns
    abort t = by_going (going_at m r t) refl
      where
        by_going : (o : Option Txn) → going_at m r t ≡ o → SettledStay m.txns (option_map_or (λ x. put_txn (put_grants m r (released (grants_of m r) t)) t (record x { live = false })) o m).txns
        by_going None e = SettledStay-itself m.txns
        by_going (Some x) e = let at = live_at m r t x e in settled_live m.txns t x (aborted x) at.known at.live

    by : (asked : Call) → SettledStay m.txns (asking m r asked).txns
    by Begin = SettledStay-itself m.txns
    by (Make t name kind) = locks t (Make t name kind)
    by (OnKey t name key asked) = locks t (OnKey t name key asked)
    by (Commit t) = settled_request m r t
    by (Abort t) = abort t

-- an event that is no call
no_client : {P : Type 0} (event : Event) (r : ℕ) (call : Call) → is_call event ≡ false → event ≡ Client r call → P
no_client event r call none e = absurd (false≢true (sym none ∙ ap is_call e))

other_event : (m now : Machine) (event : Event) (primary : ℕ) (mounts : List ℕ) → is_call event ≡ false → SettledStay m.txns now.txns → TextState m (at_start now event primary None mounts)
other_event m now event primary mounts none stays = record { stays = stays; calling = λ r call e unanswered faults. no_client event r call none e }

activating_stays : (m : Machine) (o : Option Appointment) → SettledStay m.txns (option_map_or (activating_of m) o m).txns
activating_stays m None = SettledStay-itself m.txns
activating_stays m (Some a) = SettledStay-itself m.txns

called_replica : ℕ → Event → ℕ
called_replica default (Client r call) = r
called_replica default _ = default

called : Call → Event → Call
called default (Client r call) = call
called default _ = default

pub text_opened : (m : Machine) (event : Event) → TextState m (opened m event)
unfolding called_replica called
text_opened m (Boot p members) = other_event m (booting m p members) (Boot p members) p (in_order members) refl (SettledStay-itself m.txns)
text_opened m (Client r call) = record {
  stays = asking_stays m r call;
  calling = λ q other e unanswered faults.
      let A : ℕ → Call → Type 0 = λ k c. (answer m r call ≡ answer m k c) × (asking m r call ≡ asking m k c) in
      inr (subst (λ (k : ℕ). A k other) (ap (called_replica r) e) (subst (λ (c : Call). A r c) (ap (called call) e) (refl, refl)));
}
text_opened m (Arm r calls) = other_event m m (Arm r calls) r [] refl (SettledStay-itself m.txns)
text_opened m (Crash r pick) = other_event m (closed m r) (Crash r pick) r [] refl (SettledStay-ended r m.txns)
text_opened m (Reboot r) = other_event m m (Reboot r) r (r ∷ []) refl (SettledStay-itself m.txns)
text_opened m (Inspect r) = other_event m m (Inspect r) r [] refl (SettledStay-itself m.txns)
text_opened m (Survey r e) = other_event m m (Survey r e) r [] refl (SettledStay-itself m.txns)
text_opened m (Appoint e p members) = other_event m (appointing m e p members) (Appoint e p members) p [] refl (SettledStay-ended p m.txns)
text_opened m (Activate e) = other_event m (activating m e) (Activate e) (latest_primary m) [] refl (activating_stays m (appointment_of m e))

-- ---- the law

pub events_keep_texts : EventsKeepTexts
events_keep_texts m event lines n may start commits text =
    IsText-settled m.txns (behind (opened m event) lines).machine.txns (text_lines m n (opened m event) lines (text_opened m event) may).stays start commits text
