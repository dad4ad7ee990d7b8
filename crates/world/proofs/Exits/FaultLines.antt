-- A fault of the disk: in the step of a call, before its answer, and behind the whole lines of an event.
use Rattle.std.proofs.Common.{◌≡◌, ◌∙◌, ℕ, ◌≤◌, List, [], ◌∷◌, ◌++◌, drop, length, Bool, true, false, cond, not, ◌&&◌, ◌==◌, Option, Some, None, MatchOption, refl, sym, ap, subst, arith, inl, inr}
use Rattle.std.specs.Prelude.{is_some, is_none}
use Rattle.std.specs.Option.{option_map_or}
use Rattle.std.specs.List.{list_any}
use Rattle.std.proofs.lemmas.Bool.{or_right, cond-false, le-leb}
use Rattle.rc_base.specs.declared.ids.TxnId.{TxnId}
use Rattle.events.specs.declared.event.Event.{Event}
use Rattle.events.specs.declared.event.Event.TheVariants.{Boot, Client, Arm, Crash, Reboot, Inspect, Survey, Appoint, Activate}
use Rattle.events.specs.declared.call.Call.{Call}
use Rattle.events.specs.declared.call.Call.TheVariants.{Begin, Make, OnKey, Commit, Abort}
use Rattle.order_machine.specs.declared.observation.Observation.{Observation}
use Rattle.order_machine.specs.declared.observation.Observation.TheVariants as says
use Rattle.order_machine.specs.AnswerLines.{line_of_answer}
use Rattle.order_machine.specs.Order.{Entry}
use Rattle.order_machine.specs.Machine.{Machine, Txn, replica, closed, ended_at, never_opened, put_role, put_txn, put_grants}
use Rattle.key_locks.specs.Grants.{Grant, released}
use Rattle.events.specs.Locking.{locks_at, taken}
use Rattle.order_machine.specs.Clients.{answer, seen}
use Rattle.order_machine.specs.Transitions.{event_primary, is_actor, Position, HoldsBehind, IsComplete, May, refusal, opened, at_start, asking, asking_locks, going_at, after, showing, logs, failed, is_boot, has_answer, with_first_role, new_role, first_epoch}
use Rattle.order_machine.specs.Legal.{Lines, behind, IsServed, IsWhole, moved}
use Rattle.events.proofs.Lists.{at_written}
use Rattle.world.specs.Standing.{Course, serving, shut, standing}
use Rattle.world.proofs.States.Booted.{call_unrefused}
use Rattle.world.proofs.States.Beginnings.{served_from}
use Rattle.world.proofs.States.RoleEnd.{holds_without_role}

-- ---- in the step of a call

-- as a call is asked at most the transactions and the grants change
abbrev Asked : List Entry → List TxnId → ℕ → ℕ → Course → Machine → Type 0
Asked entries acknowledged shown begins course m = (others : List (TxnId × Txn)) × ((grants : List Grant) × (m ≡ standing entries acknowledged (serving course shown begins grants) others course))

by_going : (entries : List Entry) (acknowledged : List TxnId) (shown begins : ℕ) (course : Course) (f : Txn → Machine) (m : Machine) → ((x : Txn) → Asked entries acknowledged shown begins course (f x)) → Asked entries acknowledged shown begins course m → (o : Option Txn) → Asked entries acknowledged shown begins course (option_map_or f o m)
by_going entries acknowledged shown begins course f m each same None = same
by_going entries acknowledged shown begins course f m each same (Some x) = each x

asking_stands : (entries : List Entry) (acknowledged : List TxnId) (shown begins : ℕ) (grants : List Grant) (txns : List (TxnId × Txn)) (course : Course) (call : Call) →
    Asked entries acknowledged shown begins course (asking (standing entries acknowledged (serving course shown begins grants) txns course) 0 call)
asking_stands entries acknowledged shown begins grants txns course call = by call
  where
    m : Machine
    m = standing entries acknowledged (serving course shown begins grants) txns course

    same : Asked entries acknowledged shown begins course m
    same = (txns, (grants, refl))

    locks : (t : TxnId) (c : Call) → Asked entries acknowledged shown begins course (asking_locks m 0 t c)
    locks t c = by_going entries acknowledged shown begins course (λ x. put_grants m 0 (taken grants t (locks_at (seen m 0 x) c))) m (λ x. (txns, (taken grants t (locks_at (seen m 0 x) c), refl))) same (going_at m 0 t)

    by : (c : Call) → Asked entries acknowledged shown begins course (asking m 0 c)
    by Begin = same
    by (Make t name kind) = locks t (Make t name kind)
    by (OnKey t name key asked) = locks t (OnKey t name key asked)
    by (Commit t) = by_going entries acknowledged shown begins course (λ x. put_txn m t (record x { live = false; asked = true })) m (λ x. ((t, record x { live = false; asked = true }) ∷ txns, (grants, refl))) same (going_at m 0 t)
    by (Abort t) = by_going entries acknowledged shown begins course (λ x. put_txn (put_grants m 0 (released grants t)) t (record x { live = false })) m (λ x. ((t, record x { live = false }) ∷ txns, (released grants t, refl))) same (going_at m 0 t)

-- a fault stands in place of the answer of a call that logs
pub call_faults : (entries : List Entry) (acknowledged : List TxnId) (shown begins : ℕ) (grants : List Grant) (txns : List (TxnId × Txn)) (course : Course) (call : Call) →
    (let m : Machine = standing entries acknowledged (serving course shown begins grants) txns course in
    logs (asking m 0 call) call (answer m 0 call) ≡ true →
    IsWhole m (Client 0 call) (says.Fault 0 ∷ [])
    × (moved m (Client 0 call) (says.Fault 0 ∷ []) ≡ standing entries acknowledged (shut course shown) (ended_at 0 (asking m 0 call).txns) course))
call_faults entries acknowledged shown begins grants txns course call = λ logged.
    let m : Machine = standing entries acknowledged (serving course shown begins grants) txns course in
    let asked = asking_stands entries acknowledged shown begins grants txns course call in
    let n : Machine = standing entries acknowledged (serving course shown begins asked.1.0) asked.0 course in
    let p : Position = at_start n (Client 0 call) 0 (answer m 0 call) [] in
    let logged_there : logs n call (answer m 0 call) ≡ true = ap (λ k. logs k call (answer m 0 call)) (sym asked.1.1) ∙ logged in
    served_from m (Client 0 call) (says.Fault 0 ∷ []) p (λ at. at ≡ standing entries acknowledged (shut course shown) (ended_at 0 (asking m 0 call).txns) course) (call_unrefused entries acknowledged (serving course shown begins grants) txns course call) (ap (λ at. at_start at (Client 0 call) 0 (answer m 0 call) []) asked.1.1)
    (record {
      may = (record { named = refl; in_rank = refl; next = refl; goes_on = refl; row = inl (refl, refl, logged_there, refl) }, tt);
      complete = record { opened = refl; grown = refl; mounted = refl; told = refl; answered = refl };
      holds = holds_without_role entries acknowledged (shut course shown) (ended_at 0 asked.0) course refl;
    })
    (ap (λ (k : Machine). standing entries acknowledged (shut course shown) (ended_at 0 k.txns) course) (sym asked.1.1))

-- ---- behind the lines of an event

behind_more : (p : Position) (lines more : List Observation) → behind p (lines ++ more) ≡ behind (behind p lines) more
behind_more p [] more = refl
behind_more p (o ∷ lines) more = behind_more (after p o) lines more

Lines_more : (p : Position) (lines more : List Observation) → Lines p lines → Lines (behind p lines) more → Lines p (lines ++ more)
Lines_more p [] more h then = then
Lines_more p (o ∷ lines) more h then = (h.0, Lines_more (after p o) lines more h.1 then)

-- a line changes neither the event nor the bound on ranks
pub record IsOf (event : Event) (primary : ℕ) (p : Position) : Type 0 where
  pub primary_same : p.primary ≡ primary
  pub same : p.event ≡ event
  pub rank : p.rank ≤ 9

either : {A : Type 0} (P : A → Type 0) (b : Bool) (x y : A) → P x → P y → P (cond b x y)
either P true x y p q = p
either P false x y p q = q

of_after : (event : Event) (primary : ℕ) (p : Position) (o : Observation) → IsOf event primary p → IsOf event primary (after p o)
of_after event primary p (says.Up r) h = record { primary_same = h.primary_same; same = h.same; rank = omega arith }
of_after event primary p (says.Order t ops) h = record { primary_same = h.primary_same; same = h.same; rank = omega arith }
of_after event primary p (says.View r n) h = record {
  primary_same = either (λ q. q.primary ≡ primary) (is_some p.opening) (record p { machine = with_first_role (showing p.machine r n) p.event p.mounts; opening = None }) (record p { machine = showing p.machine r n; growing = false; rose = r ∷ p.rose }) h.primary_same h.primary_same;
  same = either (λ q. q.event ≡ event) (is_some p.opening) (record p { machine = with_first_role (showing p.machine r n) p.event p.mounts; opening = None }) (record p { machine = showing p.machine r n; growing = false; rose = r ∷ p.rose }) h.same h.same;
  rank = either (λ n. n ≤ 9) (is_some p.opening) 0 3 (omega arith) (omega arith);
}
of_after event primary p (says.Active r) h = record { primary_same = h.primary_same; same = h.same; rank = omega arith }
of_after event primary p (says.Committed t) h = record { primary_same = h.primary_same; same = h.same; rank = omega arith }
of_after event primary p (says.Fault r) h = record { primary_same = h.primary_same; same = h.same; rank = either (λ n. n ≤ 9) (length p.mounts == 0) 9 0 (omega arith) (omega arith) }
of_after event primary p (says.State r n) h = record { primary_same = h.primary_same; same = h.same; rank = omega arith }
of_after event primary p (says.Rows words) h = record { primary_same = h.primary_same; same = h.same; rank = omega arith }
of_after event primary p (says.Refused part) h = record { primary_same = h.primary_same; same = h.same; rank = omega arith }
of_after event primary p says.IgnoredUp h = record { primary_same = h.primary_same; same = h.same; rank = omega arith }
of_after event primary p (says.IgnoredOldEpoch f e) h = record { primary_same = h.primary_same; same = h.same; rank = omega arith }
of_after event primary p (says.Progress r e l) h = record { primary_same = h.primary_same; same = h.same; rank = omega arith }
of_after event primary p (says.Txn t) h = record { primary_same = h.primary_same; same = h.same; rank = omega arith }
of_after event primary p says.Done h = record { primary_same = h.primary_same; same = h.same; rank = omega arith }
of_after event primary p (says.Down q) h = record { primary_same = h.primary_same; same = h.same; rank = omega arith }
of_after event primary p (says.NotActive q) h = record { primary_same = h.primary_same; same = h.same; rank = omega arith }
of_after event primary p (says.Ended t) h = record { primary_same = h.primary_same; same = h.same; rank = omega arith }
of_after event primary p (says.Locked t) h = record { primary_same = h.primary_same; same = h.same; rank = omega arith }
of_after event primary p says.True h = record { primary_same = h.primary_same; same = h.same; rank = omega arith }
of_after event primary p says.False h = record { primary_same = h.primary_same; same = h.same; rank = omega arith }
of_after event primary p (says.Value value) h = record { primary_same = h.primary_same; same = h.same; rank = omega arith }
of_after event primary p says.Missing h = record { primary_same = h.primary_same; same = h.same; rank = omega arith }
of_after event primary p says.Absent h = record { primary_same = h.primary_same; same = h.same; rank = omega arith }
of_after event primary p says.WrongKind h = record { primary_same = h.primary_same; same = h.same; rank = omega arith }

of_behind : (event : Event) (primary : ℕ) (p : Position) (lines : List Observation) → IsOf event primary p → IsOf event primary (behind p lines)
of_behind event primary p [] h = h
of_behind event primary p (o ∷ lines) h = of_behind event primary (after p o) lines (of_after event primary p o h)

of_opened : (m : Machine) (event : Event) → IsOf event (event_primary m event) (opened m event)
of_opened m (Boot p members) = record { primary_same = refl; same = refl; rank = omega arith }
of_opened m (Client r call) = record { primary_same = refl; same = refl; rank = omega arith }
of_opened m (Arm r calls) = record { primary_same = refl; same = refl; rank = omega arith }
of_opened m (Crash r pick) = record { primary_same = refl; same = refl; rank = omega arith }
of_opened m (Reboot r) = record { primary_same = refl; same = refl; rank = omega arith }
of_opened m (Inspect r) = record { primary_same = refl; same = refl; rank = omega arith }
of_opened m (Survey r e) = record { primary_same = refl; same = refl; rank = omega arith }
of_opened m (Appoint e p members) = record { primary_same = refl; same = refl; rank = omega arith }
of_opened m (Activate e) = record { primary_same = refl; same = refl; rank = omega arith }

-- the event has its answer
answered_has : (p : Position) (event : Event) → p.answered ≡ true → has_answer p event ≡ true
answered_has p (Boot primary members) e = rw e refl
answered_has p (Client r call) e = rw e refl
answered_has p (Arm r calls) e = rw e refl
answered_has p (Crash r pick) e = rw e refl
answered_has p (Reboot r) e = refl
answered_has p (Inspect r) e = rw e refl
answered_has p (Survey r epoch) e = rw e refl
answered_has p (Appoint epoch primary members) e = rw e refl
answered_has p (Activate epoch) e = rw e refl

-- a boot, if it is one, has this primary
abbrev pub boots_at : Event → ℕ → Type 0
boots_at (Boot p members) r = p ≡ r
boots_at _ r = Unit {0}

abbrev pub IsNoSurvey : Event → Type 0
IsNoSurvey (Survey r e) = ⊥
IsNoSurvey _ = Unit {0}

-- a closed primary has no first role
no_first_role : (m : Machine) (event : Event) (mounts : List ℕ) → boots_at event 0 → (replica m 0).up ≡ false → with_first_role m event mounts ≡ m
no_first_role m (Boot p members) [] is down =
    let there : (replica m p).up ≡ false = subst (λ r. (replica m r).up ≡ false) (sym is) down in
    cond-false (replica m p).up (put_role m p (Some (new_role first_epoch))) m there
no_first_role m (Boot p members) (r ∷ rs) is down = refl
no_first_role m (Client r call) mounts is down = refl
no_first_role m (Arm r calls) mounts is down = refl
no_first_role m (Crash r pick) mounts is down = refl
no_first_role m (Reboot r) mounts is down = refl
no_first_role m (Inspect r) mounts is down = refl
no_first_role m (Survey r e) mounts is down = refl
no_first_role m (Appoint e p members) mounts is down = refl
no_first_role m (Activate e) mounts is down = refl

closed_down : (m : Machine) → (replica (closed m 0) 0).up ≡ false
closed_down m = at_written (λ r. r.up ≡ false) m.replicas 0 (record (replica m 0) { up = false; role = None; grants = [] }) never_opened refl refl

-- what the fault does to the machine: it closes the replica, in an event that is no survey
fails_closed : (m : Machine) (event : Event) → IsNoSurvey event → failed m event 0 ≡ closed m 0
fails_closed m (Boot p members) none = refl
fails_closed m (Client r call) none = refl
fails_closed m (Arm r calls) none = refl
fails_closed m (Crash r pick) none = refl
fails_closed m (Reboot r) none = refl
fails_closed m (Inspect r) none = refl
fails_closed m (Survey r e) none = absurd none
fails_closed m (Appoint e p members) none = refl
fails_closed m (Activate e) none = refl

-- the machine behind the fault
fault_closes : (event : Event) (primary : ℕ) (p : Position) → IsOf event primary p → boots_at event 0 → IsNoSurvey event → (after p (says.Fault 0)).machine ≡ closed p.machine 0
fault_closes event primary p h is none =
    ap (λ m. with_first_role m p.event (drop 1 p.mounts)) (fails_closed p.machine p.event (subst IsNoSurvey (sym h.same) none))
    ∙ no_first_role (closed p.machine 0) p.event (drop 1 p.mounts) (subst (λ e. boots_at e 0) (sym h.same) is) (closed_down p.machine)

-- it may come behind all lines of an event with its answer, in which the replica became active or showed more
fault_may : (event : Event) (primary : ℕ) (p : Position) → IsOf event primary p → is_actor primary event 0 ≡ true → IsComplete p → HoldsBehind p.machine → list_any (λ q. q == 0) p.rose ≡ true → p.answered ≡ true → (replica p.machine 0).up ≡ true → p.faulted ≡ [] → May p (says.Fault 0)
fault_may event primary p h acts complete holds rose answered up whole = record {
  named = refl;
  in_rank = le-leb p.rank 9 h.rank;
  next = ap (λ o. is_none o && not p.growing) complete.opened ∙ ap (λ g. not g) complete.grown;
  goes_on = or_right (is_boot p.event) (length p.faulted == 0) (ap (λ rs. length rs == 0) whole);
  row = inr (record { acts = ap (λ (n : ℕ). is_actor n p.event 0) h.primary_same ∙ (ap (λ (e : Event). is_actor primary e 0) h.same ∙ acts); rose = rose; answered = answered; nothing_due = λ t pending. holds.not_shown 0 t pending; is_up = up });
}

pub fault_behind : (m : Machine) (event : Event) (lines : List Observation) → boots_at event 0 → IsNoSurvey event → is_actor (event_primary m event) event 0 ≡ true → refusal m event ≡ None → IsWhole m event lines →
    list_any (λ q. q == 0) (behind (opened m event) lines).rose ≡ true → (behind (opened m event) lines).answered ≡ true → (replica (behind (opened m event) lines).machine 0).up ≡ true → (behind (opened m event) lines).faulted ≡ [] →
    HoldsBehind (closed (behind (opened m event) lines).machine 0) →
    IsWhole m event (lines ++ says.Fault 0 ∷ []) × (moved m event (lines ++ says.Fault 0 ∷ []) ≡ closed (moved m event lines) 0)
fault_behind m event lines at_zero no_survey acts none whole rose answered up unfaulted holds =
    let p : Position = behind (opened m event) lines in
    let primary : ℕ = event_primary m event in
    let kept : IsOf event primary p = of_behind event primary (opened m event) lines (of_opened m event) in
    let served : IsServed (opened m event) lines = subst (λ o. MatchOption o (IsServed (opened m event) lines) (λ refused. lines ≡ line_of_answer refused ∷ [])) none whole in
    let complete = served.complete in
    let closes : (after p (says.Fault 0)).machine ≡ closed p.machine 0 = fault_closes event primary p kept at_zero no_survey in
    let then : behind (opened m event) (lines ++ says.Fault 0 ∷ []) ≡ after p (says.Fault 0) = behind_more (opened m event) lines (says.Fault 0 ∷ []) in
    let moves : moved m event lines ≡ p.machine = rw none refl in
    served_from m event (lines ++ says.Fault 0 ∷ []) (opened m event) (λ at. at ≡ closed (moved m event lines) 0) none refl
    (record {
      may = Lines_more (opened m event) lines (says.Fault 0 ∷ []) served.may (fault_may event primary p kept acts complete served.holds rose answered up unfaulted, tt);
      complete = subst IsComplete (sym then) (record {
        opened = complete.opened;
        grown = complete.grown;
        mounted = ap (drop 1) complete.mounted;
        told = complete.told;
        answered = answered_has (after p (says.Fault 0)) p.event answered;
      });
      holds = subst (λ q. HoldsBehind q.machine) (sym then) (subst HoldsBehind (sym closes) holds);
    })
    (ap (λ q. q.machine) then ∙ (closes ∙ ap (λ at. closed at 0) (sym moves)))
