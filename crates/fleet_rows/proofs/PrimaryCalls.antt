-- A call at an active primary that is answered and logs nothing: a begin, one of a transaction that has ended, one that reads or is refused, and the abort of a transaction that has logged nothing.
use Rattle.std.proofs.Common.{◌≡◌, ◌∙◌, ℕ, ◌+◌, ◌<◌, Bool, true, false, not, cond, List, [], ◌∷◌, length, Option, Some, None, refl, sym, ap, subst}
use Rattle.std.specs.Prelude.{◌&&◌, ◌||◌, ◌==◌, Contains, is_some, option_map, option_and_then}
use Rattle.std.specs.Option.{option_map_or}
use Rattle.std.proofs.lemmas.Bool.{true≢false}
use Rattle.std.proofs.lemmas.Option.{none-some, same_Some}
use Rattle.std.proofs.lemmas.List.{get_or-set_same}
use Rattle.rc_base.specs.declared.ids.TxnId.{TxnId}
use Rattle.rc_base.proofs.SameIds.{is_txn_same}
use Rattle.coll_model.specs.declared.op.Op.{Op}
use Rattle.coll_model.specs.Effect.{State, folded}
use Rattle.key_locks.specs.Grants.{Grant, Alike, released}
use Rattle.log_records.specs.declared.record.Record.{Record}
use Rattle.log_records.specs.declared.record.Record.TheVariants.{End}
use Rattle.txn_table.specs.Log.{no_base}
use Rattle.lock_laws.proofs.ProtectedGrants.{Alike-taken}
use Rattle.lock_laws.proofs.ProtectedCalls.{note_of}
use Rattle.events.specs.declared.call.Call.{Call}
use Rattle.events.specs.declared.call.Call.TheVariants.{Begin, Make, OnKey, Commit, Abort}
use Rattle.events.specs.declared.answer.Answer.TheVariants as answers
use Rattle.events.specs.declared.answer.Reply.{Reply}
use Rattle.events.specs.Calls.{CallRecord, txn_named}
use Rattle.events.specs.Locking.{locks_at, taken}
use Rattle.events.specs.Answers.{plain, live_reply}
use Rattle.order_machine.specs.Order.{state_at}
use Rattle.order_machine.specs.Machine.{Machine, Replica, Txn, never_opened, replica, put_txn, put_grants, txn_of, role_of, grants_of, live_txn, is_active, ops_of, order_of}
use Rattle.order_machine.specs.Clients.{answer, served, seen, next_txn, noted}
use Rattle.order_machine.specs.Transitions.{asking, asking_locks, going_at, logs, ends_logged}
use Rattle.history_laws.specs.Laws.{after_call}
use Rattle.history_laws.proofs.CallCases.{LiveAt, live_at, with_call, aborted}
use Rattle.history_laws.proofs.Elsewhere.{Elsewhere, quiet_elsewhere}
use Rattle.history_laws.proofs.QuietSuffixes.{HomeStays-itself}
use Rattle.txn_front.specs.Front as front
use Rattle.txn_front.specs.Front.{Fronted, Going, going_of, txn_at}
use Rattle.txn_front.proofs.Fronts.{called_ended, called_live, told_live}
use Rattle.std.specs.Map.{remove_entry}
use Rattle.std.specs.BTreeMap.{is_at}
use Rattle.std.specs.Ordering.{nat_cmp}
use Rattle.rc_base.specs.declared.ids.Epoch.{Epoch}
use Rattle.order_machine.specs.Clients.{begun_by, begun, one_more_begun}
use Rattle.order_machine.specs.Transitions.{is_ok}
use Rattle.fleet_rows.proofs.QuietCalls.{Leaves, active_same, block_none, written_over, primary_now, open_now}
use Rattle.replica_model.specs.OpenReplica as replicas
use Rattle.replica_model.specs.OpenReplica.{OpenReplica, Leading, shown_commits, unshown_commits, contents_of, last_lsn}
use Rattle.replica_model.specs.Quorums.{looked}
use Rattle.replica_model.specs.Records.{reply, logged_by, logged_call, logged_op, going_in}
use Rattle.replica_model.specs.Steps as steps_of
use Rattle.replica_model.specs.Steps.{written, step_answer, front_behind}
use Rattle.fleet_laws.proofs.Puts.{first_member}
use Rattle.fleet_run.specs.Scenes.{FleetReplica, FleetState, replica_at, held_by}
use Rattle.fleet_run.specs.Scenes.FleetReplica.{Open}
use Rattle.fleet_rows.specs.Served.{Served, IsOpenOf, IsPrimaryOf, IsFrontOf, IsLoggedBy}
use Rattle.fleet_rows.proofs.Keeping.{replica_elsewhere}
use Rattle.fleet_rows.proofs.QuietSteps.{sees}
use Rattle.fleet_rows.proofs.FrontSteps.{begin_logged, abort_logged, looked_front, told_same, begin_changes, locks_changes, abort_changes}

-- ---- one transaction in both

pub known_going : (m : Machine) (r : ℕ) (f : Fronted) (t : TxnId) (x : Txn) → IsFrontOf m r f → live_txn m r t ≡ Some x → (y : Going) × (going_of f t ≡ Some y) × (y.ops ≡ ops_of x)
known_going m r f t x is live = by (going_of f t) refl
  where
    by : (o : Option Going) → going_of f t ≡ o → (y : Going) × (going_of f t ≡ Some y) × (y.ops ≡ ops_of x)
    by None e = absurd (none-some (ops_of x) (sym (sym (ap (λ (k : Option Txn). option_map (λ (z : Txn). ops_of z) k) live) ∙ is.going t ∙ ap (λ (k : Option Going). option_map (λ (z : Going). z.ops) k) e)))
    by (Some y) e = (y, e, same_Some y.ops (ops_of x) (sym (sym (ap (λ (k : Option Txn). option_map (λ (z : Txn). ops_of z) k) live) ∙ is.going t ∙ ap (λ (k : Option Going). option_map (λ (z : Going). z.ops) k) e)))

none_going : (m : Machine) (r : ℕ) (f : Fronted) (t : TxnId) → IsFrontOf m r f → live_txn m r t ≡ None → going_of f t ≡ None
none_going m r f t is none = by (going_of f t) refl
  where
    by : (o : Option Going) → going_of f t ≡ o → going_of f t ≡ None
    by None e = e
    by (Some y) e = absurd (none-some y.ops (sym (ap (λ (k : Option Txn). option_map (λ (z : Txn). ops_of z) k) none) ∙ is.going t ∙ ap (λ (k : Option Going). option_map (λ (z : Going). z.ops) k) e))

-- ---- the machine behind a call

asking_none : (m : Machine) (r : ℕ) (call : Call) (t : TxnId) → txn_named call ≡ Some t → going_at m r t ≡ None → asking m r call ≡ m
asking_none m r Begin t named none = absurd (none-some t named)
asking_none m r (Make u name kind) t named none = ap (λ (k : Option Txn). option_map_or (λ x. put_grants m r (taken (grants_of m r) u (locks_at (seen m r x) (Make u name kind)))) k m) (ap (going_at m r) (same_Some u t named) ∙ none)
asking_none m r (OnKey u name key call) t named none = ap (λ (k : Option Txn). option_map_or (λ x. put_grants m r (taken (grants_of m r) u (locks_at (seen m r x) (OnKey u name key call)))) k m) (ap (going_at m r) (same_Some u t named) ∙ none)
asking_none m r (Commit u) t named none = ap (λ (k : Option Txn). option_map_or (λ x. put_txn m u (record x { live = false; asked = true })) k m) (ap (going_at m r) (same_Some u t named) ∙ none)
asking_none m r (Abort u) t named none = ap (λ (k : Option Txn). option_map_or (λ x. put_txn (put_grants m r (released (grants_of m r) u)) u (record x { live = false })) k m) (ap (going_at m r) (same_Some u t named) ∙ none)

pub noted_after : (m : Machine) (r : ℕ) (call : Call) (told : Reply) (t : TxnId) → txn_named call ≡ Some t → after_call m r call told ≡ noted (asking m r call) t (note_of call told)
noted_after m r call told t named = ap (λ (k : Option TxnId). option_map_or (λ u. noted (asking m r call) u (note_of call told)) k (begun_by (asking m r call) r told.answer)) named

pub noted_at : (m : Machine) (t : TxnId) (x : Txn) (c : CallRecord) → txn_of m t ≡ Some x → noted m t c ≡ put_txn m t (with_call x c)
noted_at m t x c known = ap (λ (k : Option Txn). option_map_or (λ y. put_txn m t (with_call y c)) k m) known

noted_elsewhere : (r : ℕ) (m : Machine) (t : TxnId) (call : Call) → Elsewhere r m (noted m t (note_of call (plain (answers.Ended t))))
noted_elsewhere r m t call = by (txn_of m t) refl
  where
    by : (o : Option Txn) → txn_of m t ≡ o → Elsewhere r m (option_map_or (λ y. put_txn m t (with_call y (note_of call (plain (answers.Ended t))))) o m)
    by None e = record { same = refl; orders = refl; stays = HomeStays-itself r m.txns }
    by (Some x) e = quiet_elsewhere r m t x (note_of call (plain (answers.Ended t))) e (record { passed = refl; unlogged = refl })

pub granted_now : (m : Machine) (r : ℕ) (gs : List Grant) → r < length m.replicas → replica (put_grants m r gs) r ≡ record (replica m r) { grants = gs }
granted_now m r gs lt = get_or-set_same m.replicas r (record (replica m r) { grants = gs }) never_opened lt

-- ---- what is behind a call

behind_none : (o : OpenReplica) (call : Call) (t : TxnId) → txn_named call ≡ Some t → going_of o.front t ≡ None → logged_by o call ≡ [] → front_behind o call ≡ o.front
behind_none o Begin t named none unlogged = absurd (none-some t named)
behind_none o (Make u name kind) t named none unlogged =
    ap (λ (bodies : List Record). steps_of.noted (length bodies) (Make u name kind) (record { 0 = (last_lsn o).0 + length bodies }) (front.called o.front (contents_of o) (Make u name kind))) unlogged
    ∙ called_ended o.front (contents_of o) (Make u name kind) t named none
behind_none o (OnKey u name key call) t named none unlogged =
    ap (λ (bodies : List Record). steps_of.noted (length bodies) (OnKey u name key call) (record { 0 = (last_lsn o).0 + length bodies }) (front.called o.front (contents_of o) (OnKey u name key call))) unlogged
    ∙ called_ended o.front (contents_of o) (OnKey u name key call) t named none
behind_none o (Commit u) t named none unlogged = ap (λ (k : Option Going). option_map_or (λ (g : Going). record o.front { live = remove_entry (is_at (nat_cmp u.n)) o.front.live }) k o.front) (ap (going_of o.front) (same_Some u t named) ∙ none)
behind_none o (Abort u) t named none unlogged =
    ap (λ (k : Option Going). option_map_or (λ (g : Going). record o.front { live = remove_entry (is_at (nat_cmp u.n)) o.front.live; grants = released o.front.grants u }) k o.front) (ap (going_of o.front) (same_Some u t named) ∙ none)

module _ (s : FleetState) (v : Served s) (r : ℕ) (call : Call) (told : Reply) (is : answer s.machine r call ≡ Some told) (o : OpenReplica) (up : replica_at s.replicas r ≡ Open o) (l : Leading) (lead : o.leading ≡ Some l) (active : l.active ≡ true) (here : IsOpenOf s.machine r o) (p : IsPrimaryOf s.machine r o l) (lt : r < length s.machine.replicas) where
  pub on : replicas.is_active o ≡ true
  on = ap (λ (x : Option Leading). option_map_or (λ (y : Leading). y.active) x false) lead ∙ active

  on_too : is_active s.machine r ≡ true
  on_too = active_same s.machine r o here ∙ on

  pub served_told : served s.machine r call ≡ Some told
  served_told =
      sym (ap (λ (b : Bool). cond (not b) (Some (plain (answers.Down r))) (cond (not (is_active s.machine r)) (Some (plain (answers.NotActive r))) (served s.machine r call))) here.up ∙ ap (λ (b : Bool). cond (not b) (Some (plain (answers.NotActive r))) (served s.machine r call)) on_too)
      ∙ is

  start : o.disk.start ≡ no_base
  start = (v.sound.kept r o.disk (subst (λ (x : FleetReplica). Contains (held_by x) o.disk) (sym up) (first_member o.disk []))).start

  pub saw : state_at (order_of s.machine r) (replica s.machine r).show ≡ contents_of o
  saw = sees s.machine r o start here

  pub next_same : next_txn (role_of s.machine r) ≡ txn_at o.front (o.front.begins + 1)
  next_same =
      ap next_txn p.has
      ∙ ap (λ (e : Epoch). let t : TxnId = record { epoch = e; n = p.role.begins + 1 } in t) (p.epoch ∙ sym p.front_epoch)
      ∙ ap (λ (n : ℕ). let t : TxnId = record { epoch = o.front.epoch; n = n + 1 } in t) p.begins

  pub replied_told : reply o call ≡ Some told
  replied_told =
      ap (λ (b : Bool). cond b (front.told o.front (contents_of o) call) (Some (plain (answers.NotActive o.id)))) on
      ∙ told_same s.machine r o.front (contents_of o) call p.front saw next_same ∙ served_told

  pub settled : looked o ≡ o
  settled = (v.sound.standing r o up).settled

  leaves : (g : Fronted) → logged_by o call ≡ [] → front_behind o call ≡ g → IsOpenOf (after_call s.machine r call told) r (record o { front = g }) → Leaves s.machine r call told o (record o { front = g })
  leaves g none behind_is own = record {
    written_is = written_over o call g on none behind_is;
    unlogged = block_none o call none;
    replied = replied_told;
    looks = looked_front o l g lead active settled;
    disk = refl;
    stable = refl;
    own = own;
  }

  -- the primary, over a machine in which its role is as it was
  same_role : (g : Fronted) → g.begins ≡ o.front.begins → g.epoch ≡ o.front.epoch → role_of (after_call s.machine r call told) r ≡ role_of s.machine r → IsFrontOf (after_call s.machine r call told) r g → IsLoggedBy o.disk g → IsOpenOf (after_call s.machine r call told) r (record o { front = g })
  same_role g begins epoch role fronts logged =
      open_now s v r call told is o l lead active here p lt g (primary_now s v r call told is o l lead active here p lt g p.role (role ∙ p.has) p.epoch p.active (p.begins ∙ sym begins) (epoch ∙ p.front_epoch) fronts logged)

  -- ---- a begin

  begin_leaves : call ≡ Begin → Leaves s.machine r call told o (record o { front = front.begun o.front })
  begin_leaves same =
      let m = s.machine in
      let f = o.front in
      let t = txn_at f (f.begins + 1) in
      let told_is : plain (answers.Txn (next_txn (role_of m r))) ≡ told = same_Some (plain (answers.Txn (next_txn (role_of m r)))) told (sym (ap (served m r) same) ∙ served_told) in
      let now_is : after_call m r call told ≡ begun m r t =
      ap (λ (k : Call). after_call m r k told) same ∙ ap (λ (z : Reply). begun_by m r z.answer) (sym told_is) ∙ ap (begun m r) next_same in
      let put_is : replica (begun m r t) r ≡ record (replica m r) { role = option_map one_more_begun (role_of m r) } = get_or-set_same m.replicas r (record (replica m r) { role = option_map one_more_begun (role_of m r) }) never_opened lt in
      let has : role_of (after_call m r call told) r ≡ Some (one_more_begun p.role) = ap (λ (k : Machine). role_of k r) now_is ∙ ap (λ (y : Replica). y.role) put_is ∙ ap (option_map one_more_begun) p.has in
      let fronts : IsFrontOf (after_call m r call told) r (front.begun f) = subst (λ (k : Machine). IsFrontOf k r (front.begun f)) (sym now_is) (begin_changes m (begun m r t) r f p.front (ap (λ (y : Replica). y.grants) put_is) refl) in
      leaves (front.begun f) (ap (logged_by o) same) (ap (front_behind o) same)
      (open_now s v r call told is o l lead active here p lt (front.begun f)
      (primary_now s v r call told is o l lead active here p lt (front.begun f) (one_more_begun p.role) has p.epoch p.active (ap (λ (n : ℕ). n + 1) p.begins) p.front_epoch fronts (begin_logged o.disk f p.logged)))

  -- ---- a transaction that doesn't go on

  module _ (t : TxnId) (named : txn_named call ≡ Some t) where
    pub live_is : (x : Option Txn) → going_at s.machine r t ≡ x → live_txn s.machine r t ≡ x
    live_is x e = sym (ap (λ (b : Bool). cond b (live_txn s.machine r t) None) on_too) ∙ e

    pub served_by : (x : Option Txn) → live_txn s.machine r t ≡ x → option_map_or (λ (y : Txn). live_reply (grants_of s.machine r) (seen s.machine r y) t call) x (Some (plain (answers.Ended t))) ≡ Some told
    served_by x e =
        sym (ap (λ (k : Option TxnId). option_map_or (λ u. option_map_or (λ y. live_reply (grants_of s.machine r) (seen s.machine r y) u call) (live_txn s.machine r u) (Some (plain (answers.Ended u)))) k (Some (plain (answers.Txn (next_txn (role_of s.machine r)))))) named
        ∙ ap (λ (k : Option Txn). option_map_or (λ (y : Txn). live_reply (grants_of s.machine r) (seen s.machine r y) t call) k (Some (plain (answers.Ended t)))) e)
        ∙ served_told

    pub logged_named : (y : Option Going) → going_of o.front t ≡ y → logged_by o call ≡ option_map_or (λ (g : Going). logged_call (last_lsn o) t g call (reply o call)) y []
    logged_named y e =
        ap (λ (k : Option TxnId). option_map_or (λ u. option_map_or (λ (g : Going). logged_call (last_lsn o) u g call (reply o call)) (going_in o u) []) k []) named
        ∙ ap (λ (b : Bool). option_map_or (λ (g : Going). logged_call (last_lsn o) t g call (reply o call)) (cond b (going_of o.front t) None) []) on
        ∙ ap (λ (k : Option Going). option_map_or (λ (g : Going). logged_call (last_lsn o) t g call (reply o call)) k []) e

    ended_leaves : going_at s.machine r t ≡ None → Leaves s.machine r call told o (record o { front = o.front })
    ended_leaves none =
        let no_live = live_is None none in
        let gone = none_going s.machine r o.front t p.front no_live in
        let ended : plain (answers.Ended t) ≡ told = same_Some (plain (answers.Ended t)) told (served_by None no_live) in
        let unlogged = logged_named None gone in
        let now_is : after_call s.machine r call told ≡ noted s.machine t (note_of call (plain (answers.Ended t))) =
        noted_after s.machine r call told t named ∙ ap (λ (k : Machine). noted k t (note_of call told)) (asking_none s.machine r call t named none) ∙ ap (λ (z : Reply). noted s.machine t (note_of call z)) (sym ended) in
        leaves o.front unlogged (behind_none o call t named gone unlogged)
        (subst (λ (k : Machine). IsOpenOf k r o) (sym now_is) (replica_elsewhere r s.machine (noted s.machine t (note_of call (plain (answers.Ended t)))) (Open o) (noted_elsewhere r s.machine t call) here))

    -- ---- a call of a live one

    module _ (x : Txn) (going : going_at s.machine r t ≡ Some x) where
      pub at : LiveAt s.machine r t x
      at = live_at s.machine r t x going

      pub there : (y : Going) × (going_of o.front t ≡ Some y) × (y.ops ≡ ops_of x)
      there = known_going s.machine r o.front t x p.front (live_is (Some x) going)

      saw_own : seen s.machine r x ≡ folded (contents_of o) there.0.ops
      saw_own = ap (λ (z : State). folded z (ops_of x)) saw ∙ ap (λ (ops : List Op). folded (contents_of o) ops) (sym there.2)

      abbrev pub gs : List Grant
      gs = taken (grants_of s.machine r) t (locks_at (seen s.machine r x) call)

      abbrev pub hs : List Grant
      hs = taken o.front.grants t (locks_at (folded (contents_of o) there.0.ops) call)

      pub alike_now : Alike gs hs
      alike_now =
          subst (λ (z : State). Alike gs (taken o.front.grants t (locks_at z call))) saw_own
          (Alike-taken (grants_of s.machine r) o.front.grants p.front.grants t (locks_at (seen s.machine r x) call))

      pub live_front : live_reply o.front.grants (folded (contents_of o) there.0.ops) t call ≡ Some told
      live_front =
          sym (told_live o.front (contents_of o) call t there.0 named there.1)
          ∙ told_same s.machine r o.front (contents_of o) call p.front saw next_same ∙ served_told

      called_is : told.op ≡ None → front.called o.front (contents_of o) call ≡ record o.front { grants = hs }
      called_is unlogged_op =
          called_live o.front (contents_of o) call t there.0 named there.1
          ∙ ap (λ (k : Option Reply). front.operated t.n there.0 (option_and_then (λ (z : Reply). z.op) k) (record o.front { grants = hs })) live_front
          ∙ ap (λ (k : Option Op). front.operated t.n there.0 k (record o.front { grants = hs })) unlogged_op

      -- it asks for locks
      locks_leaves : told.op ≡ None → asking s.machine r call ≡ asking_locks s.machine r t call → logged_call (last_lsn o) t there.0 call (reply o call) ≡ logged_op (last_lsn o) t there.0 (option_and_then (λ (z : Reply). z.op) (reply o call))
          → front_behind o call ≡ steps_of.noted (length (logged_by o call)) call (record { 0 = (last_lsn o).0 + length (logged_by o call) }) (front.called o.front (contents_of o) call) → Leaves s.machine r call told o (record o { front = record o.front { grants = hs } })
      locks_leaves unlogged_op asks logs behind_is =
          let c = note_of call told in
          let n : Machine = put_txn (put_grants s.machine r gs) t (with_call x c) in
          let unlogged : logged_by o call ≡ [] =
          logged_named (Some there.0) there.1 ∙ logs ∙ ap (λ (k : Option Reply). logged_op (last_lsn o) t there.0 (option_and_then (λ (z : Reply). z.op) k)) replied_told
          ∙ ap (λ (k : Option Op). logged_op (last_lsn o) t there.0 k) unlogged_op in
          let now_is : after_call s.machine r call told ≡ n =
          noted_after s.machine r call told t named
          ∙ ap (λ (k : Machine). noted k t c) (asks ∙ ap (λ (k : Option Txn). option_map_or (λ y. put_grants s.machine r (taken (grants_of s.machine r) t (locks_at (seen s.machine r y) call))) k s.machine) going)
          ∙ noted_at (put_grants s.machine r gs) t x c at.known in
          leaves (record o.front { grants = hs }) unlogged
          (behind_is ∙ ap (λ (bodies : List Record). steps_of.noted (length bodies) call (record { 0 = (last_lsn o).0 + length bodies }) (front.called o.front (contents_of o) call)) unlogged ∙ called_is unlogged_op)
          (same_role (record o.front { grants = hs }) refl refl (ap (λ (k : Machine). role_of k r) now_is ∙ ap (λ (y : Replica). y.role) (granted_now s.machine r gs lt))
          (subst (λ (k : Machine). IsFrontOf k r (record o.front { grants = hs })) (sym now_is)
          (locks_changes s.machine r o.front t x c gs hs p.front at.known at.live at.home unlogged_op alike_now (ap (λ (y : Replica). y.grants) (granted_now s.machine r gs lt))))
          (record { begun = p.logged.begun; each = p.logged.each; counted = p.logged.counted }))

      -- it is aborted, and has logged nothing
      abort_leaves : call ≡ Abort t → logs s.machine call (Some told) ≡ false → Leaves s.machine r call told o (record o { front = front.ended o.front t })
      abort_leaves same quiet =
          let m = s.machine in
          let f = o.front in
          let y : Going = there.0 in
          let c = note_of call told in
          let gone = released (grants_of m r) t in
          let k1 : Machine = put_txn (put_grants m r gone) t (aborted x) in
          let n : Machine = put_txn k1 t (with_call (aborted x) c) in
          let done : plain answers.Done ≡ told = same_Some (plain answers.Done) told (sym (ap (λ (k : Call). live_reply (grants_of m r) (seen m r x) t k) same) ∙ served_by (Some x) (live_is (Some x) going)) in
          let few : not (length (ops_of x) == 0) ≡ false =
          sym (ap (λ (o : Option Txn). option_map_or (λ (z : Txn). not (length (ops_of z) == 0)) o false) at.known)
          ∙ (ap (λ (z : Reply). is_some z.op || (is_ok z.answer && ends_logged m (Abort t))) done ∙ ap (λ (k : Call). logs m k (Some told)) (sym same)) ∙ quiet in
          let none : (length (ops_of x) == 0) ≡ true = not_false (length (ops_of x) == 0) few in
          let no_record : (y.last.0 == 0) ≡ true = p.front.recorded t y there.1 ∙ ap (λ (ops : List Op). length ops == 0) there.2 ∙ none in
          let unlogged : logged_by o call ≡ [] =
          logged_named (Some y) there.1 ∙ ap (λ (k : Call). logged_call (last_lsn o) t y k (reply o call)) same
          ∙ ap (λ (b : Bool). cond b [] (End t y.last false ∷ [])) no_record in
          let known : txn_of k1 t ≡ Some (aborted x) = ap (λ (b : Bool). cond b (Some (aborted x)) (txn_of m t)) (is_txn_same t) in
          let now_is : after_call m r call told ≡ n =
          noted_after m r call told t named
          ∙ ap (λ (k : Machine). noted k t c) (ap (asking m r) same ∙ ap (λ (o : Option Txn). option_map_or (λ z. put_txn (put_grants m r gone) t (record z { live = false })) o m) going)
          ∙ noted_at k1 t (aborted x) c known in
          let shape : front.ended f t ≡ record f { live = remove_entry (is_at (nat_cmp t.n)) f.live; grants = released f.grants t } =
          ap (λ (o : Option Going). option_map_or (λ (z : Going). record f { live = remove_entry (is_at (nat_cmp t.n)) f.live; grants = released f.grants t }) o f) there.1 in
          leaves (front.ended f t) unlogged (ap (front_behind o) same)
          (same_role (front.ended f t) (ap (λ (h : Fronted). h.begins) shape) (ap (λ (h : Fronted). h.epoch) shape) (ap (λ (k : Machine). role_of k r) now_is ∙ ap (λ (z : Replica). z.role) (granted_now m r gone lt))
          (subst (λ (k : Machine). IsFrontOf k r (front.ended f t)) (sym now_is) (abort_changes m r f t x y c p.front there.1 (ap (λ (z : Replica). z.grants) (granted_now m r gone lt))))
          (abort_logged o.disk f t y p.front.rising there.1 p.logged))
        where
          not_false : (b : Bool) → not b ≡ false → b ≡ true
          not_false true e = refl
          not_false false e = absurd (true≢false e)

      -- its commit has no answer
      commit_answered : {A : Type 0} → call ≡ Commit t → A
      commit_answered same = absurd (none-some told (sym (ap (λ (k : Call). live_reply (grants_of s.machine r) (seen s.machine r x) t k) same) ∙ served_by (Some x) (live_is (Some x) going)))

-- ---- all of them

pub active_leaves : (s : FleetState) (v : Served s) (r : ℕ) (call : Call) (told : Reply) (is : answer s.machine r call ≡ Some told) (o : OpenReplica) (up : replica_at s.replicas r ≡ Open o) (l : Leading) (lead : o.leading ≡ Some l) (active : l.active ≡ true)
    (here : IsOpenOf s.machine r o) (p : IsPrimaryOf s.machine r o l) (lt : r < length s.machine.replicas) (op : told.op ≡ None) → logs s.machine call (Some told) ≡ false → (x : OpenReplica) × Leaves s.machine r call told o x
active_leaves s v r Begin told is o up l lead active here p lt op quiet = (record o { front = front.begun o.front }, begin_leaves s v r Begin told is o up l lead active here p lt refl)
active_leaves s v r (Make t name kind) told is o up l lead active here p lt op quiet = by (going_at s.machine r t) refl
  where
    by : (k : Option Txn) → going_at s.machine r t ≡ k → (x : OpenReplica) × Leaves s.machine r (Make t name kind) told o x
    by None e = (record o { front = o.front }, ended_leaves s v r (Make t name kind) told is o up l lead active here p lt t refl e)
    by (Some x) e = (_, locks_leaves s v r (Make t name kind) told is o up l lead active here p lt t refl x e op refl refl refl)
active_leaves s v r (OnKey t name key asked) told is o up l lead active here p lt op quiet = by (going_at s.machine r t) refl
  where
    by : (k : Option Txn) → going_at s.machine r t ≡ k → (x : OpenReplica) × Leaves s.machine r (OnKey t name key asked) told o x
    by None e = (record o { front = o.front }, ended_leaves s v r (OnKey t name key asked) told is o up l lead active here p lt t refl e)
    by (Some x) e = (_, locks_leaves s v r (OnKey t name key asked) told is o up l lead active here p lt t refl x e op refl refl refl)
active_leaves s v r (Commit t) told is o up l lead active here p lt op quiet = by (going_at s.machine r t) refl
  where
    by : (k : Option Txn) → going_at s.machine r t ≡ k → (x : OpenReplica) × Leaves s.machine r (Commit t) told o x
    by None e = (record o { front = o.front }, ended_leaves s v r (Commit t) told is o up l lead active here p lt t refl e)
    by (Some x) e = commit_answered s v r (Commit t) told is o up l lead active here p lt t refl x e refl
active_leaves s v r (Abort t) told is o up l lead active here p lt op quiet = by (going_at s.machine r t) refl
  where
    by : (k : Option Txn) → going_at s.machine r t ≡ k → (x : OpenReplica) × Leaves s.machine r (Abort t) told o x
    by None e = (record o { front = o.front }, ended_leaves s v r (Abort t) told is o up l lead active here p lt t refl e)
    by (Some x) e = (record o { front = front.ended o.front t }, abort_leaves s v r (Abort t) told is o up l lead active here p lt t refl x e refl quiet)
