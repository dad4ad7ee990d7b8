-- A look of an active primary leaves what goes on there alike in the machine.
use Rattle.std.proofs.Common.{◌≡◌, ◌∙◌, ℕ, ◌+◌, ◌-◌, true, false, Bool, cond, not, List, [], ◌∷◌, ◌++◌, length, map, take, get_or, refl, sym, ap, ap₂, subst, arith, Option, Some, None}
use Rattle.std.specs.Prelude.{◌&&◌, max}
use Rattle.std.specs.Map.{lookup}
use Rattle.std.proofs.lemmas.Bool.{false≢true}
use Rattle.std.proofs.lemmas.List.{length-append, length-map, get_or-set_same}
use Rattle.rc_base.specs.declared.ids.TxnId.{TxnId}
use Rattle.rc_base.specs.Ids.{is_txn}
use Rattle.key_locks.specs.Grants.{Grant, released}
use Rattle.txn_table.specs.declared.base.Base.{Base}
use Rattle.txn_table.specs.declared.committed.Committed.{Committed}
use Rattle.txn_table.specs.Log.{no_base}
use Rattle.txn_table.specs.Whole.{count_to}
use Rattle.txn_front.specs.Front.{Fronted, going_of}
use Rattle.order_machine.specs.declared.observation.Observation.{Observation}
use Rattle.order_machine.specs.declared.observation.Observation.TheVariants as says
use Rattle.order_machine.specs.Order.{state_at, empty_order}
use Rattle.order_machine.specs.Machine.{Machine, Txn, Replica, replica, role_of, order_of, grants_of, never_opened}
use Rattle.order_machine.specs.Transitions.{Position, acknowledging, after}
use Rattle.order_machine.specs.Legal.{behind}
use Rattle.replica_model.specs.declared.step.StepEvent.{StepEvent}
use Rattle.replica_model.specs.OpenReplica.{OpenReplica, Leading, is_active, shown_commits}
use Rattle.replica_model.specs.Quorums.{looked, unlocked_all, acknowledged_by, quorum_number, is_of_epoch, is_active_at}
use Rattle.replica_model.specs.Quorums as quorums
use Rattle.replica_model.specs.Steps.{written, step_result, step_outcome}
use Rattle.history_laws.specs.LockGuards.{entry_of}
use Rattle.fleet_run.specs.Acts.{order_lines, view_line, active_line}
use Rattle.fleet_run.specs.Rows.{BeginsOrder}
use Rattle.fleet_run.specs.Phases.{IsAtStart, ComesToShow, ShowsBehind}
use Rattle.fleet_run.specs.Fronts.{FrontAgrees, showing_lines, LooksKeepFronts}
use Rattle.fleet_run.proofs.StepLines.{behind_append}
use Rattle.fleet_run.proofs.Agreeing.{begins_contents}
use Rattle.fleet_run.proofs.Looking.{looked_none, looked_as, none_newly}
use Rattle.fleet_run.proofs.OrderLines.{order_and_view_may_come}
use Rattle.fleet_run.proofs.OwnCalls.{live_of, GoesAlike, up_there}
use Rattle.fleet_run.proofs.Rising.{first_shown}

-- ---- acknowledgements

-- the replica with another front
abbrev fronted : OpenReplica → Fronted → OpenReplica
fronted o f = record o { front = f }

unlocks_one : (m : Machine) (r : ℕ) (o : OpenReplica) (t : TxnId) → FrontAgrees m r o → FrontAgrees (acknowledging m r t) r (record o { front = record o.front { grants = released o.front.grants t } })
unlocks_one m r o t is =
    let at : replica (acknowledging m r t) r ≡ record (replica m r) { grants = released (grants_of m r) t } = get_or-set_same m.replicas r _ never_opened (up_there m r is.up) in
    record {
      number = is.number;
      up = ap (λ (z : Replica). z.up) at ∙ is.up;
      active = is.active;
      role = (is.role.0, ap (λ (z : Replica). z.role) at ∙ is.role.1, is.role.2, is.role.3, is.role.4);
      contents = is.contents ∙ sym (ap (λ (z : Replica). state_at (get_or m.orders z.loss empty_order) z.show) at);
      grants = ap (λ (gs : List Grant). released gs t) is.grants ∙ sym (ap (λ (z : Replica). z.grants) at);
      going = is.going;
    }

unlocks_all : (ts : List TxnId) (q : Position) (r : ℕ) (o : OpenReplica) → q.primary ≡ r → FrontAgrees q.machine r o → FrontAgrees (behind q (map says.Committed ts)).machine r (record o { front = unlocked_all o.front ts })
unlocks_all [] q r o primary is = is
unlocks_all (t ∷ ts) q r o primary is =
    let one = subst (λ (k : ℕ). FrontAgrees (acknowledging q.machine k t) r (record o { front = record o.front { grants = released o.front.grants t } })) (sym primary) (unlocks_one q.machine r o t is) in
    unlocks_all ts (after q (says.Committed t)) r (record o { front = record o.front { grants = released o.front.grants t } }) primary one

-- ---- the look

-- by what it comes to keep as stable, the locks of what is acknowledged go
abbrev LooksSo : OpenReplica → OpenReplica → Type 0
LooksSo x y = (y.id ≡ x.id) × (y.front ≡ unlocked_all x.front (acknowledged_by x y)) × (is_active x ≡ true → is_active y ≡ true)

looks_rising : (x : OpenReplica) (l : Leading) (b : Bool) → LooksSo x (quorums.acknowledging x (cond b (record x { stable = max x.stable (quorum_number x l); leading = Some (let k : Leading = record l { active = true } in k) }) x))
looks_rising x l true = (refl, refl, λ on. refl)
looks_rising x l false = (refl, refl, λ on. on)

looks_so : (x : OpenReplica) (lead : Option Leading) → x.leading ≡ lead → LooksSo x (looked x)
looks_so x None none =
    subst (λ (z : OpenReplica). LooksSo x z) (sym (looked_none x none)) (refl, sym (ap (unlocked_all x.front) (none_newly x x.leading)), λ on. on)
looks_so x (Some l) some =
    subst (λ (z : OpenReplica). LooksSo x z) (sym (looked_as x l some)) (looks_rising x l (is_active_at x l (quorum_number x l)))

module _ (p q : Position) (x y : OpenReplica) (r : ℕ) (ordered now : List Committed) (last : ℕ) (shown : ShowsBehind p q r ordered now last) (role : role_of q.machine r ≡ role_of p.machine r) (is : FrontAgrees p.machine r x) (number : y.id ≡ x.id) (active : is_active y ≡ true) (start : y.disk.start ≡ no_base) (commits : shown_commits y ≡ now) where
  size_is : count_to y.disk y.stable ≡ length now
  size_is = ap₂ (λ (b : Base) (cs : List Committed). b.count + length cs) start commits ∙ omega arith

  begins : BeginsOrder (order_of q.machine r) y.disk y.stable
  begins = record {
    within = omega (arith, size_is, ap length shown.order.1.entries, length-map shown.order.0 entry_of, ap length shown.order.3.1, length-append now shown.order.3.0);
    entries =
        ap (λ (k : ℕ). take (k - (order_of q.machine r).base) (order_of q.machine r).entries) (size_is ∙ sym shown.shows) ∙ first_shown p q r ordered now last shown ∙ ap (map entry_of) (sym commits);
  }

  looks_alike : FrontAgrees q.machine r (record y { front = x.front })
  looks_alike = record {
    number = number ∙ is.number;
    up = shown.up ∙ is.up;
    active = active;
    role = (is.role.0, role ∙ is.role.1, is.role.2, is.role.3, is.role.4);
    contents = begins_contents (order_of q.machine r) y.disk y.stable shown.order.1.start_is start begins ∙ ap (λ (k : ℕ). state_at (order_of q.machine r) k) (size_is ∙ sym shown.shows);
    grants = is.grants ∙ sym shown.grants;
    going = λ t. subst (λ (txns : List (TxnId × Txn)). GoesAlike (going_of x.front t) (live_of r (lookup (is_txn t) txns))) (sym shown.txns) (is.going t);
  }

no_line : (a w : Bool) (r : ℕ) → w ≡ true → cond (a && not w) (says.Active r ∷ []) [] ≡ []
no_line true true r on = refl
no_line false true r on = refl
no_line a false r off = absurd (false≢true off)

module _ (p : Position) (o : OpenReplica) (step : StepEvent) (before ordered now later : List Committed) (begin : IsAtStart p o.id) (c : ComesToShow p o (step_outcome o step) before ordered now later) (is : FrontAgrees p.machine o.id (written o step)) where
  abbrev first : List Observation
  first = order_lines p.machine o (step_outcome o step).commits ++ view_line o (step_outcome o step)

  acknowledged_is : (step_outcome o step).acknowledged ≡ acknowledged_by (written o step) (step_result o step)
  unfolding step_outcome step_result
  acknowledged_is = refl

  result_is : step_result o step ≡ looked (written o step)
  unfolding step_result
  result_is = refl

  no_active : active_line o step (step_outcome o step) ≡ []
  no_active = no_line (step_outcome o step).active (is_active (written o step)) o.id is.active

  looks : (step_result o step).disk.start ≡ no_base → shown_commits (step_result o step) ≡ now → FrontAgrees (behind p (showing_lines p.machine o step)).machine o.id (step_result o step)
  looks start commits =
      let come = order_and_view_may_come p o (step_outcome o step) before ordered now later begin c in
      let shown = come.1 in
      let q = behind p (order_lines p.machine o (step_outcome o step).commits ++ view_line o (step_outcome o step)) in
      let y = step_result o step in
      let parts = subst (λ (z : OpenReplica). LooksSo (written o step) z) (sym result_is) (looks_so (written o step) (written o step).leading refl) in
      let alike = looks_alike p q (written o step) y o.id ordered now 3 shown.shown shown.role is parts.0 (parts.2 is.active) start commits in
      let ts = (step_outcome o step).acknowledged in
      let done = unlocks_all ts q o.id (record y { front = (written o step).front }) (shown.shown.primary ∙ begin.primary) alike in
      let front_is : unlocked_all (written o step).front ts ≡ y.front = ap (unlocked_all (written o step).front) acknowledged_is ∙ sym parts.1 in
      let whole : FrontAgrees (behind q (map says.Committed ts)).machine o.id y = subst (λ (f : Fronted). FrontAgrees (behind q (map says.Committed ts)).machine o.id (record y { front = f })) front_is done in
      let lines : behind p (showing_lines p.machine o step) ≡ behind q (map says.Committed ts) =
      behind_append p (first ++ active_line o step (step_outcome o step)) (map says.Committed ts)
      ∙ ap (λ (z : Position). behind z (map says.Committed ts)) (behind_append p first (active_line o step (step_outcome o step)) ∙ ap (behind q) no_active) in
      subst (λ (z : Position). FrontAgrees z.machine o.id y) (sym lines) whole

pub looks_keep_fronts : LooksKeepFronts
looks_keep_fronts p o step before ordered now later begin c is start commits = looks p o step before ordered now later begin c is start commits
