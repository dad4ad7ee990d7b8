-- The guard at the replica that acts.
use Rattle.std.proofs.Common.{◌≡◌, ◌∙◌, ℕ, true, false, length, List, [], ◌∷◌, ◌++◌, append-nil, get_or, Option, Some, None, option_map, inl, inr, refl, sym, ap, subst}
use Rattle.std.specs.List.{IsDistinct}
use Rattle.std.specs.Option.{option_map_or}
use Rattle.std.specs.Map.{lookup}
use Rattle.std.proofs.lemmas.Bool.{false≢true, cases_lt, cases_eq}
use Rattle.std.proofs.lemmas.Option.{none-some, same_Some}
use Rattle.std.proofs.lemmas.List.{get_or-set_same, get_or_past}
use Rattle.std.proofs.lemmas.List.Elements.{All-nil}
use Rattle.rc_base.specs.declared.ids.TxnId.{TxnId}
use Rattle.rc_base.specs.Ids.{is_txn}
use Rattle.rc_base.proofs.SameIds.{is_txn_flip}
use Rattle.coll_model.specs.Effect.{State}
use Rattle.key_locks.specs.Grants.{Grant, released}
use Rattle.events.specs.declared.call.Call.{Call}
use Rattle.events.specs.declared.answer.Reply.{Reply}
use Rattle.events.specs.Calls.{CallRecord}
use Rattle.events.specs.Locking.{Lock, locks_at, taken}
use Rattle.events.specs.Answers.{live_reply}
use Rattle.events.specs.Replay.{Replays}
use Rattle.events.proofs.Lists.{at_each}
use Rattle.lock_laws.specs.Protected.{AreExclusive}
use Rattle.lock_laws.proofs.ProtectedGrants.{AreExclusive-nil, AreExclusive-taken, AreExclusive-released}
use Rattle.lock_laws.proofs.ProtectedCalls.{note_of, Replays-from_protected, AreProtected-taken, AreProtected-released, AreProtected-push, IsCallProtected-live}
use Rattle.txn_table.specs.declared.committed.Committed.{Committed}
use Rattle.order_machine.specs.Order.{Order, empty_order, state_at}
use Rattle.order_machine.specs.Machine.{Machine, Replica, Txn, never_opened, replica, put_replica, put_txn, txn_of, grants_of, put_grants, role_of, is_active}
use Rattle.order_machine.specs.Clients.{begun, new_txn, one_more_begun, seen}
use Rattle.order_machine.specs.Transitions.{asking_commit, showing}
use Rattle.history_laws.specs.Texts.{state_after, has_commit}
use Rattle.history_laws.specs.LockGuards.{PendingCommit, LockGuard, shown_at, ReplicaGuard, ShownCommits}
use Rattle.history_laws.specs.Laws.{after_call, commit_of, CommitsLengthenTexts, IdleIsGuarded, CallsKeepGuards, RequestsArePending, ViewsKeepGuards, AcknowledgementsKeepGuards}
use Rattle.history_laws.proofs.TextSteps.{state_after-append, IsText-settled, IsText-front, IsText-push}
use Rattle.history_laws.proofs.CallCases.{LiveAt, live_at, with_call, aborted, CallCases, after_answer}
use Rattle.history_laws.proofs.GuardSteps.{live_not_pending, LockGuard-shown, LockGuard-put, LockGuard-push, LockGuard-released}
use Rattle.history_laws.proofs.SettledSteps.{put_there, settled_request}
use Rattle.history_laws.proofs.ShownStates.{shown_state, shown_commit, text_ended, live_not_committed, once_apart}
use Rattle.history_laws.proofs.Elsewhere.{Elsewhere, guard_elsewhere, quiet_elsewhere, elsewhere_cases}

-- ---- one replica is put

-- an active one is there
put_here : (m : Machine) (r : ℕ) (new : Replica) → is_active m r ≡ true → replica (put_replica m r new) r ≡ new
put_here m r new active =
    elim (cases_lt r (length m.replicas)) [
      | inl lt ↦ get_or-set_same m.replicas r new never_opened lt
      | inr le ↦ absurd (false≢true (sym (ap (λ (rep : Replica). option_map_or (λ role. role.active) rep.role false) (get_or_past m.replicas r never_opened le)) ∙ active))
    ]

-- the guard at a replica like this one
abbrev GuardAt : List (TxnId × Txn) → List Order → ℕ → List Committed → Replica → Type 0
GuardAt txns orders r pending rep = LockGuard txns rep.grants r (state_at (get_or orders rep.loss empty_order) rep.show) pending

guard_here : (m : Machine) (r : ℕ) (new : Replica) (txns : List (TxnId × Txn)) (pending : List Committed) → is_active m r ≡ true → GuardAt txns m.orders r pending new → GuardAt txns m.orders r pending (replica (put_replica m r new) r)
guard_here m r new txns pending active g = subst (GuardAt txns m.orders r pending) (sym (put_here m r new active)) g

-- wherever it is
guard_put : (m : Machine) (r : ℕ) (new : Replica) (pending : List Committed) → ReplicaGuard m r pending → GuardAt m.txns m.orders r pending new → GuardAt m.txns m.orders r pending (replica (put_replica m r new) r)
guard_put m r new pending g here =
    at_each (λ k rep. k ≡ r → GuardAt m.txns m.orders r pending rep) m.replicas r new never_opened
    (λ k e. subst (λ (j : ℕ). GuardAt m.txns m.orders r pending (replica m j)) (sym e) g) (λ _. here) r refl

-- ---- answered calls

begins_guarded : (m : Machine) (r : ℕ) (pending : List Committed) → ReplicaGuard m r pending → (t : TxnId) → is_active m r ≡ true → txn_of m t ≡ None → ReplicaGuard (begun m r t) r pending
begins_guarded m r pending g t active none =
    guard_here m r (record (replica m r) { role = option_map one_more_begun (role_of m r) }) ((t, new_txn m r) ∷ m.txns) pending active
    (LockGuard-put m.txns (grants_of m r) (grants_of m r) r (shown_at m r) pending t (new_txn m r) (λ x known. absurd (none-some x (sym none ∙ known))) g.exclusive (λ u calls apart h. h) (λ home live. tt) g)

live_known : (m : Machine) (r : ℕ) (t : TxnId) (x : Txn) → LiveAt m r t x → (y : Txn) → txn_of m t ≡ Some y → y.live ≡ true
live_known m r t x at y known = ap (λ (w : Txn). w.live) (same_Some y x (sym known ∙ at.known)) ∙ at.live

locks_guarded : (m : Machine) (r : ℕ) (pending : List Committed) → ReplicaGuard m r pending → (t : TxnId) (x : Txn) (call : Call) (reply : Reply) → LiveAt m r t x → live_reply (grants_of m r) (seen m r x) t call ≡ Some reply
    → ReplicaGuard (put_txn (put_grants m r (taken (grants_of m r) t (locks_at (seen m r x) call))) t (with_call x (note_of call reply))) r pending
locks_guarded m r pending g t x call reply at e =
    let gs : List Grant = grants_of m r in
    let locks : List Lock = locks_at (seen m r x) call in
    let now : List Grant = taken gs t locks in
    let c : CallRecord = note_of call reply in
    guard_here m r (record (replica m r) { grants = now }) ((t, with_call x c) ∷ m.txns) pending at.active
    (LockGuard-put m.txns gs now r (shown_at m r) pending t (with_call x c) (live_known m r t x at) (AreExclusive-taken gs t locks g.exclusive) (λ u calls apart h. AreProtected-taken gs t locks u (shown_at m r) calls h)
    (λ home live. AreProtected-push now t (shown_at m r) x.calls c (AreProtected-taken gs t locks t (shown_at m r) x.calls (g.live t x at.known at.home at.live)) (IsCallProtected-live gs t (seen m r x) call reply e)) g)

aborts_guarded : (m : Machine) (r : ℕ) (pending : List Committed) → ReplicaGuard m r pending → (t : TxnId) (x : Txn) → LiveAt m r t x → ReplicaGuard (put_txn (put_grants m r (released (grants_of m r) t)) t (aborted x)) r pending
aborts_guarded m r pending g t x at =
    let gs : List Grant = grants_of m r in
    guard_here m r (record (replica m r) { grants = released gs t }) ((t, aborted x) ∷ m.txns) pending at.active
    (LockGuard-put m.txns gs (released gs t) r (shown_at m r) pending t (aborted x) (live_known m r t x at) (AreExclusive-released gs t g.exclusive)
    (λ u calls apart h. AreProtected-released gs t u (shown_at m r) calls (is_txn_flip t u ∙ apart) h) (λ home live. absurd (false≢true live)) g)

own_cases : (m : Machine) (r : ℕ) (pending : List Committed) → ReplicaGuard m r pending → CallCases (λ now. ReplicaGuard now r pending) m r
own_cases m r pending g = record {
  same = g;
  quiet = λ t x c known quiet. guard_elsewhere r m (put_txn m t (with_call x c)) (quiet_elsewhere r m t x c known quiet) pending g;
  begins = λ t next active none. begins_guarded m r pending g t active none;
  locks = λ t x call reply at e. locks_guarded m r pending g t x call reply at e;
  aborts = λ t x c at quiet.
      let mid : Machine = put_txn (put_grants m r (released (grants_of m r) t)) t (aborted x) in
      guard_elsewhere r mid (put_txn mid t (with_call (aborted x) c)) (quiet_elsewhere r mid t (aborted x) c (put_there m.txns t (aborted x)) quiet) pending (aborts_guarded m r pending g t x at);
}

pub calls_keep_guards : CallsKeepGuards
calls_keep_guards m r call reply numbering is q pending g =
    elim (cases_eq q r) [
      | inl e ↦ subst (λ (k : ℕ). ReplicaGuard (after_call m r call reply) k pending) (sym e) (after_answer (λ now. ReplicaGuard now r pending) m r (own_cases m r pending (subst (λ (k : ℕ). ReplicaGuard m k pending) e g)) call reply numbering is)
      | inr apart ↦ guard_elsewhere q m (after_call m r call reply) (after_answer (Elsewhere q m) m r (elsewhere_cases m r q apart) call reply numbering is) pending g
    ]

-- ---- requests

-- a live transaction's commit is pending
commit_pends : (m : Machine) (r : ℕ) (t : TxnId) (x : Txn) (pending : List Committed) → LiveAt m r t x → ReplicaGuard m r pending → ReplicaGuard (put_txn m t (record x { live = false; asked = true })) r (pending ++ commit_of t x ∷ [])
commit_pends m r t x pending at g =
    let gs : List Grant = grants_of m r in
    let done : Txn = record x { live = false; asked = true } in
    LockGuard-push ((t, done) ∷ m.txns) gs r (shown_at m r) pending (commit_of t x)
    (LockGuard-put m.txns gs gs r (shown_at m r) pending t done (live_known m r t x at) g.exclusive (λ u calls apart h. h) (λ home live. absurd (false≢true live)) g)
    (record {
      txn = done;
      known = put_there m.txns t done;
      requested = refl;
      ended = refl;
      home = at.home;
      whole = refl;
      protected = g.live t x at.known at.home at.live;
    })
    (live_not_pending m.txns gs r (shown_at m r) t x at.known at.live pending g.unshown)

abbrev requested : Machine → TxnId → Option Txn → Machine
requested m t o = option_map_or (λ x. put_txn m t (record x { live = false; asked = true })) o m

pub requests_are_pending : RequestsArePending
requests_are_pending m r t x pending going g =
    subst (λ (o : Option Txn). ReplicaGuard (requested m t o) r (pending ++ commit_of t x ∷ [])) (sym going) (commit_pends m r t x pending (live_at m r t x going) g)

-- its calls replay after all that is pending
replays_there : (m : Machine) (r : ℕ) (start : State) (shown pending : List Committed) → ShownCommits m r start shown → ReplicaGuard m r pending → (t : TxnId) (x : Txn) → LiveAt m r t x → Replays (state_after start (shown ++ pending)) x.calls
replays_there m r start shown pending s g t x at =
    let gs : List Grant = grants_of m r in
    let all = LockGuard-shown m.txns gs r (shown_at m r) pending [] (subst (LockGuard m.txns gs r (shown_at m r)) (sym (append-nil pending)) g) in
    let here : Replays (state_after (shown_at m r) pending) x.calls = Replays-from_protected gs t (state_after (shown_at m r) pending) x.calls (all.live t x at.known at.home at.live) in
    subst (λ (state : State). Replays state x.calls) (sym (state_after-append start shown pending ∙ ap (λ (state : State). state_after state pending) (sym (shown_state m r start shown s)))) here

pub commits_lengthen_texts : CommitsLengthenTexts
commits_lengthen_texts m r start shown pending s g text t x going =
    let at = live_at m r t x going in
    let done : Txn = record x { live = false; asked = true } in
    let now : List (TxnId × Txn) = (asking_commit m r t).txns in
    let known : lookup (is_txn t) now ≡ Some done = ap (λ (o : Option Txn). lookup (is_txn t) (requested m t o).txns) going ∙ put_there m.txns t done in
    IsText-push now start (shown ++ pending) (commit_of t x) (IsText-settled m.txns now (settled_request m r t) start (shown ++ pending) text)
    (record { txn = done; known = known; requested = refl; ended = refl; whole = refl; replays = replays_there m r start shown pending s g t x at })
    (live_not_committed m.txns start (shown ++ pending) t x text.serial at.known at.live)

-- ---- what is shown

grants_kept : (m : Machine) (r : ℕ) (new : Replica) → new.grants ≡ grants_of m r → grants_of (put_replica m r new) r ≡ grants_of m r
grants_kept m r new same =
    at_each (λ k rep. k ≡ r → rep.grants ≡ grants_of m r) m.replicas r new never_opened (λ k e. ap (grants_of m) e) (λ _. same) r refl

pub views_keep_guards : ViewsKeepGuards
views_keep_guards m r n start shown now later old new g =
    let then : Machine = showing m r n in
    let state : shown_at then r ≡ state_after (shown_at m r) now =
    shown_state then r start (shown ++ now) new ∙ (state_after-append start shown now ∙ ap (λ (s : State). state_after s now) (sym (shown_state m r start shown old))) in
    subst (λ (gs : List Grant). LockGuard m.txns gs r (shown_at then r) later) (sym (grants_kept m r (record (replica m r) { show = n }) refl))
    (subst (λ (s : State). LockGuard m.txns (grants_of m r) r s later) (sym state) (LockGuard-shown m.txns (grants_of m r) r (shown_at m r) now later g))

pub acknowledgements_keep_guards : AcknowledgementsKeepGuards
acknowledgements_keep_guards m r t start shown pending s text is g =
    let has : has_commit shown t ≡ true = sym (shown_commit m r start shown s t) ∙ is in
    let front = IsText-front m.txns start shown pending text in
    let done = text_ended m.txns start shown t front.serial has in
    guard_put m r (record (replica m r) { grants = released (grants_of m r) t }) pending g
    (LockGuard-released m.txns (grants_of m r) r (shown_at m r) pending t done.0 done.1 done.2 (once_apart shown pending t text.once has) g)

-- ---- nothing goes on

pub idle_is_guarded : IdleIsGuarded
unfolding IsDistinct
idle_is_guarded m r idle ordered = record {
  ordered = ordered;
  exclusive = subst AreExclusive (sym idle.free) AreExclusive-nil;
  live = λ t x known home live. absurd (false≢true (sym (idle.over t x known home) ∙ live));
  unshown = All-nil (PendingCommit m.txns (grants_of m r) r (shown_at m r));
  once = tt;
}
