-- Later primaries show more, and acknowledgements may come where they stand.
use Rattle.std.proofs.Common.{◌≡◌, ◌∙◌, ℕ, ◌<◌, true, false, Bool, cond, not, ◌⊎◌, List, [], ◌∷◌, ◌++◌, length, map, take, filter, set, get_or, refl, sym, ap, ap₂, subst, inl, inr, arith, Option, Some, None}
use Rattle.std.specs.Prelude.{Contains, ◌&&◌, ◌||◌, ◌==◌, is_none}
use Rattle.std.specs.Option.{option_map_or}
use Rattle.std.proofs.lemmas.Bool.{cases_Bool, cases_eq, cases_lt, eq-eqb, and_left, or_cases, or_left, or_right, or_parts, and_from, and_right, le-leb, false≢true, both_ways, false_from_ne_true}
use Rattle.std.proofs.lemmas.List.{append_assoc, append-nil, get_or-set_same, get_or-set_other, set_past}
use Rattle.std.proofs.lemmas.List.Folds.{list_any-append}
use mathlib.Core.List.{IsPrefix}
use Rattle.rc_base.specs.declared.ids.Epoch.{Epoch}
use Rattle.rc_base.specs.declared.ids.TxnId.{TxnId}
use Rattle.rc_base.specs.Ids.{is_epoch, is_txn}
use Rattle.rc_base.proofs.SameIds.{is_txn-true}
use Rattle.log_records.specs.declared.record.Record.{Record}
use Rattle.txn_table.specs.declared.committed.Committed.{Committed}
use Rattle.order_machine.specs.declared.observation.Observation.{Observation}
use Rattle.order_machine.specs.declared.observation.Observation.TheVariants as says
use Rattle.key_locks.specs.Grants.{released}
use Rattle.order_machine.specs.Order.{Order, Entry, empty_order, holds, before as before_it}
use Rattle.order_machine.specs.Machine.{Machine, Role, Replica, replica, role_of, order_of, is_pending, is_shown, is_acknowledged, has_role, put_replica, grants_of, never_opened}
use Rattle.order_machine.specs.Transitions.{Position, May, MayCommit, acknowledging, after, is_boot}
use Rattle.order_machine.specs.Legal.{Lines, behind}
use Rattle.replica_model.specs.Quorums.{txns_of}
use Rattle.fleet_laws.specs.Logs.{Entry as Logged, Agree}
use Rattle.fleet_laws.proofs.Agreement.{agree_trans, agree_self}
use Rattle.fleet_laws.proofs.After.{history_after}
use Rattle.fleet_laws.proofs.Derived.{chosen_begins_later}
use Rattle.fleet_laws.proofs.Prefixes.{take_begins}
use Rattle.fleet_laws.proofs.Puts.{first_member}
use Rattle.fleet_laws.proofs.Runs.{reached_invariant, run_after}
use Rattle.fleet_laws.proofs.Use.{chosen_within}
use Rattle.history_laws.specs.Texts.{has_commit, AreOnce}
use Rattle.history_laws.specs.LockGuards.{entry_of as order_entry, OrderCommits}
use Rattle.fleet_run.specs.Scenes.{FleetReplica, held_by}
use Rattle.fleet_run.specs.Kernel.{code, entry_of}
use Rattle.fleet_run.specs.Acknowledging.{LaterPrimariesShowMore, IsNewlyShown, AcknowledgementsMayCome}
use Rattle.history_laws.proofs.TextSteps.{once_new}
use Rattle.history_laws.proofs.ShownStates.{once_apart}
use Rattle.fleet_run.proofs.Codes.{code_less}
use Rattle.fleet_run.proofs.Moved.{same_epoch}
use Rattle.fleet_run.proofs.Pending.{asked_in, shown_is, shown_alike}
use Rattle.fleet_run.proofs.Following.{logs_to}

-- ---- later primaries

pub later_primaries_show_more : LaterPrimariesShowMore
later_primaries_show_more m n replicas now f g s run u r q o x l k up lead active up_x lead_x active_x less =
    let i = reached_invariant f s.reached in
    let j = reached_invariant g u.reached in
    let after = run_after f g i run in
    let old = (s.standing r o up).leads l lead in
    let new = (u.standing q x up_x).leads k lead_x in
    let d = code l.epoch in
    let e = code k.epoch in
    let chosen = old.chosen active in
    let shown = new.chosen active_x in
    let within = chosen_within f i d o.stable old.appointed chosen in
    let lt : code l.epoch < code k.epoch = code_less l.epoch k.epoch old.coded new.coded less in
    let begins = chosen_begins_later g j d e o.stable (after.appointed d old.appointed) new.appointed lt (after.chosen d o.stable old.appointed chosen) in
    let own : Agree o.stable (map entry_of o.disk.log) (f.history d) = subst (λ (log : List (Logged Record)). Agree o.stable log (f.history d)) old.all (agree_self o.stable (f.history d) within) in
    let agree : Agree o.stable (map entry_of o.disk.log) (map entry_of x.disk.log) =
    agree_trans (history_after f g after d o.stable (map entry_of o.disk.log) old.appointed own) (subst (λ (log : List (Logged Record)). Agree o.stable (g.history d) log) new.all begins.1) in
    let kept_o = s.kept r o.disk (subst (λ (z : FleetReplica). Contains (held_by z) o.disk) (sym up) (first_member o.disk [])) in
    let kept_x = u.kept q x.disk (subst (λ (z : FleetReplica). Contains (held_by z) x.disk) (sym up_x) (first_member x.disk [])) in
    let same : take o.stable o.disk.log ≡ take o.stable x.disk.log = logs_to o.stable o.disk.log x.disk.log kept_o.items kept_x.items agree in
    subst (λ (z : List (Epoch × Record)). IsPrefix z (take x.stable x.disk.log)) (sym same) (take_begins o.stable x.stable x.disk.log (omega (arith, begins.0, shown.from)))

-- ---- what an acknowledgement changes

-- a replica with other locks has the role that it had, and shows what it showed
pub record IsAlike (x y : Replica) : Type 0 where
  pub role : y.role ≡ x.role
  pub show : y.show ≡ x.show
  pub loss : y.loss ≡ x.loss

pub alike_at : (m : Machine) (r : ℕ) (y : Replica) → IsAlike (replica m r) y → (q : ℕ) → IsAlike (replica m q) (replica (put_replica m r y) q)
alike_at m r y same q = elim (cases_eq q r) [
  | inr ne ↦ let at = get_or-set_other m.replicas r q y never_opened ne in record { role = ap (λ (z : Replica). z.role) at; show = ap (λ (z : Replica). z.show) at; loss = ap (λ (z : Replica). z.loss) at }
  | inl is ↦ elim (cases_lt r (length m.replicas)) [
    | inl within ↦
        let at : replica (put_replica m r y) q ≡ y = ap (λ (k : ℕ). get_or (set m.replicas r y) k never_opened) is ∙ get_or-set_same m.replicas r y never_opened within in
        let old : replica m q ≡ replica m r = ap (replica m) is in
        record {
          role = ap (λ (z : Replica). z.role) at ∙ same.role ∙ ap (λ (z : Replica). z.role) (sym old);
          show = ap (λ (z : Replica). z.show) at ∙ same.show ∙ ap (λ (z : Replica). z.show) (sym old);
          loss = ap (λ (z : Replica). z.loss) at ∙ same.loss ∙ ap (λ (z : Replica). z.loss) (sym old);
        }
    | inr past ↦
        let at = ap (λ (rs : List Replica). get_or rs q never_opened) (set_past m.replicas r y past) in
        record { role = ap (λ (z : Replica). z.role) at; show = ap (λ (z : Replica). z.show) at; loss = ap (λ (z : Replica). z.loss) at }
  ]
]

module _ (m : Machine) (r : ℕ) (t : TxnId) where
  abbrev n : Machine
  n = acknowledging m r t

  alike_now : (q : ℕ) → IsAlike (replica m q) (replica (acknowledging m r t) q)
  alike_now q = alike_at m r (record (replica m r) { grants = released (grants_of m r) t }) (record { role = refl; show = refl; loss = refl }) q

  shown_now : (q : ℕ) (u : TxnId) → is_shown (acknowledging m r t) q u ≡ is_shown m q u
  shown_now q u =
      let a = alike_now q in
      shown_is (acknowledging m r t) q u ∙ shown_alike m.orders (replica (acknowledging m r t) q) (replica m q) u a.show a.loss ∙ sym (shown_is m q u)

  order_now : (q : ℕ) → order_of (acknowledging m r t) q ≡ order_of m q
  order_now q = ap (λ (l : ℕ). get_or m.orders l empty_order) (alike_now q).loss

  -- pending is what was pending, but what is acknowledged
  pending_now : (q : ℕ) (u : TxnId) → is_pending (acknowledging m r t) q u ≡ (asked_in m.txns q u && (has_role m q u.epoch && not (is_txn u t || is_acknowledged m u)))
  pending_now q u = ap (λ (x : Option Role). asked_in m.txns q u && (option_map_or (λ role. is_epoch u.epoch role.epoch) x false && not (is_txn u t || is_acknowledged m u))) (alike_now q).role

  pending_other : (q : ℕ) (u : TxnId) → is_txn u t ≡ false → is_pending (acknowledging m r t) q u ≡ is_pending m q u
  pending_other q u other = pending_now q u ∙ ap (λ (b : Bool). asked_in m.txns q u && (has_role m q u.epoch && not (b || is_acknowledged m u))) other

  pending_own : (q : ℕ) (u : TxnId) → is_txn u t ≡ true → is_pending (acknowledging m r t) q u ≡ false
  pending_own q u own =
      pending_now q u ∙ ap (λ (b : Bool). asked_in m.txns q u && (has_role m q u.epoch && not (b || is_acknowledged m u))) own
      ∙ and_right (asked_in m.txns q u) (has_role m q u.epoch && false) (and_right (has_role m q u.epoch) false refl)

  still_done : (q : ℕ) (u : TxnId) → is_pending m q u ≡ false → is_pending (acknowledging m r t) q u ≡ false
  still_done q u gone = elim (cases_Bool (is_txn u t)) [
    | inl own ↦ pending_own q u own
    | inr other ↦ pending_other q u other ∙ gone
  ]

-- ---- the order before a transaction

pub holds_commits : (cs : List Committed) (u : TxnId) → holds (map order_entry cs) u ≡ has_commit cs u
holds_commits [] u = refl
holds_commits (c ∷ cs) u = ap (λ (b : Bool). is_txn u c.txn || b) (holds_commits cs u)

pub self_txn : (t : TxnId) → is_txn t t ≡ true
self_txn t = and_from (is_epoch t.epoch t.epoch) (t.n == t.n) (same_epoch t.epoch) (eq-eqb t.n t.n refl)

before_split : (xs ys : List Committed) (c : Committed) → has_commit xs c.txn ≡ false → before_it c.txn (map order_entry (xs ++ c ∷ ys)) ≡ map order_entry xs
before_split [] ys c apart = ap (λ (b : Bool). cond b [] (order_entry c ∷ before_it c.txn (map order_entry ys))) (self_txn c.txn)
before_split (x ∷ xs) ys c apart =
    let parts = or_parts (is_txn c.txn x.txn) (has_commit xs c.txn) apart in
    ap (λ (b : Bool). cond b [] (order_entry x ∷ before_it c.txn (map order_entry (xs ++ c ∷ ys)))) parts.0 ∙ ap (λ (es : List Entry). order_entry x ∷ es) (before_split xs ys c parts.1)

-- ---- one after another

module _ (p : Position) (r : ℕ) (epoch : Epoch) (before : List Committed) (c : Committed) (cs later : List Committed) (x : IsNewlyShown p r epoch before (c ∷ cs) later) where
  same_list : ((before ++ c ∷ []) ++ cs) ++ later ≡ (before ++ c ∷ cs) ++ later
  same_list = ap (λ (ys : List Committed). ys ++ later) (append_assoc before (c ∷ []) cs)

  one_list : (before ++ c ∷ cs) ++ later ≡ before ++ c ∷ (cs ++ later)
  one_list = append_assoc before (c ∷ cs) later

  new_to_before : has_commit before c.txn ≡ false
  new_to_before = once_new before (cs ++ later) c (subst AreOnce one_list x.once)

  not_again : (t : TxnId) → has_commit cs t ≡ true → is_txn t c.txn ≡ false
  not_again t there = false_from_ne_true (is_txn t c.txn) (λ same.
      let own : has_commit (before ++ c ∷ []) c.txn ≡ true = list_any-append (λ (y : Committed). is_txn c.txn y.txn) before (c ∷ []) ∙ or_right (has_commit before c.txn) (is_txn c.txn c.txn || false) (or_left (is_txn c.txn c.txn) false (self_txn c.txn)) in
      let apart : has_commit (cs ++ later) c.txn ≡ false = once_apart (before ++ c ∷ []) (cs ++ later) c.txn (subst AreOnce (append_assoc (before ++ c ∷ []) cs later) (subst AreOnce (sym same_list) x.once)) own in
      let parts = or_parts (has_commit cs c.txn) (has_commit later c.txn) (sym (list_any-append (λ (y : Committed). is_txn c.txn y.txn) cs later) ∙ apart) in
      both_ways (has_commit cs c.txn) parts.0 (subst (λ (u : TxnId). has_commit cs u ≡ true) (is_txn-true t c.txn same) there))

  cases_before : (t : TxnId) → has_commit (before ++ c ∷ []) t ≡ true → (has_commit before t ≡ true) ⊎ (t ≡ c.txn)
  cases_before t h = elim (or_cases (has_commit before t) (is_txn t c.txn || false) (sym (list_any-append (λ (y : Committed). is_txn t y.txn) before (c ∷ [])) ∙ h)) [
    | inl old ↦ inl old
    | inr new ↦ elim (or_cases (is_txn t c.txn) false new) [ inl own ↦ inr (is_txn-true t c.txn own) | inr none ↦ absurd (false≢true none) ]
  ]

  -- a commit of another epoch isn't pending
  passes_by : is_epoch c.txn.epoch epoch ≡ false → IsNewlyShown p r epoch (before ++ c ∷ []) cs later
  passes_by other = record {
    primary = x.primary;
    grows = x.grows;
    rank = x.rank;
    opening = x.opening;
    growing = x.growing;
    faulted = x.faulted;
    role = x.role;
    order = subst (λ (ys : List Committed). OrderCommits (order_of p.machine r) [] ys) (sym same_list) x.order;
    once = subst AreOnce (sym same_list) x.once;
    done = λ t h. elim (cases_before t h) [
      | inl old ↦ x.done t old
      | inr own ↦ ap (is_pending p.machine r) own ∙ not_its (role_of p.machine r) refl
    ];
    pending = λ t h. x.pending t (or_right (is_txn t c.txn) (has_commit cs t) h);
    shown = λ t h. x.shown t (or_right (is_txn t c.txn) (has_commit cs t) h);
    elsewhere = λ t h. x.elsewhere t (or_right (is_txn t c.txn) (has_commit cs t) h);
  } where
    not_its : (role : Option Role) → role_of p.machine r ≡ role → is_pending p.machine r c.txn ≡ false
    not_its None none =
        and_right (asked_in p.machine.txns r c.txn) (has_role p.machine r c.txn.epoch && not (is_acknowledged p.machine c.txn))
        (and_left (has_role p.machine r c.txn.epoch) (not (is_acknowledged p.machine c.txn)) (ap (λ (z : Option Role). option_map_or (λ role. is_epoch c.txn.epoch role.epoch) z false) none))
    not_its (Some role) some =
        and_right (asked_in p.machine.txns r c.txn) (has_role p.machine r c.txn.epoch && not (is_acknowledged p.machine c.txn))
        (and_left (has_role p.machine r c.txn.epoch) (not (is_acknowledged p.machine c.txn))
        (ap (λ (z : Option Role). option_map_or (λ role. is_epoch c.txn.epoch role.epoch) z false) some ∙ ap (is_epoch c.txn.epoch) (x.role role some) ∙ other))

  module _ (own_epoch : is_epoch c.txn.epoch epoch ≡ true) where
    own_new : has_commit (c ∷ cs) c.txn ≡ true
    own_new = or_left (is_txn c.txn c.txn) (has_commit cs c.txn) (self_txn c.txn)

    may_commit : MayCommit p c.txn
    may_commit = record {
      pending = subst (λ (k : ℕ). is_pending p.machine k c.txn ≡ true) (sym x.primary) (x.pending c.txn own_new own_epoch);
      shown = subst (λ (k : ℕ). is_shown p.machine k c.txn ≡ true) (sym x.primary) (x.shown c.txn own_new own_epoch);
      first = λ u h. subst (λ (k : ℕ). is_pending p.machine k u ≡ false) (sym x.primary) (x.done u
          (sym (holds_commits before u) ∙ ap (λ (es : List Entry). holds es u) (sym (ap (before_it c.txn) (x.order.entries ∙ ap (map order_entry) one_list) ∙ before_split before (cs ++ later) c new_to_before))
          ∙ ap (λ (k : ℕ). holds (before_it c.txn (order_of p.machine k).entries) u) (sym x.primary) ∙ h));
      elsewhere = λ q role has on le. x.elsewhere c.txn own_new own_epoch q role has on le;
    }

    may_come : May p (says.Committed c.txn)
    may_come = record {
      named = x.grows;
      in_rank = le-leb p.rank 5 x.rank;
      next = ap₂ (λ (o : Option ℕ) (b : Bool). is_none o && not b) x.opening x.growing;
      goes_on = ap (λ (rs : List ℕ). is_boot p.event || (length rs == 0)) x.faulted ∙ or_right (is_boot p.event) true refl;
      row = may_commit;
    }

    comes_after : IsNewlyShown (after p (says.Committed c.txn)) r epoch (before ++ c ∷ []) cs later
    comes_after =
        let m = p.machine in
        let k = p.primary in
        record {
          primary = x.primary;
          grows = x.grows;
          rank = omega arith;
          opening = x.opening;
          growing = x.growing;
          faulted = x.faulted;
          role = λ role has. x.role role (sym (alike_now m k c.txn r).role ∙ has);
          order = subst (λ (o : Order). OrderCommits o [] (((before ++ c ∷ []) ++ cs) ++ later)) (sym (order_now m k c.txn r)) (subst (λ (ys : List Committed). OrderCommits (order_of m r) [] ys) (sym same_list) x.order);
          once = subst AreOnce (sym same_list) x.once;
          done = λ t h. elim (cases_before t h) [
            | inl old ↦ still_done m k c.txn r t (x.done t old)
            | inr own ↦ pending_own m k c.txn r t (subst (λ (u : TxnId). is_txn u c.txn ≡ true) (sym own) (self_txn c.txn))
          ];
          pending = λ t h e. pending_other m k c.txn r t (not_again t h) ∙ x.pending t (or_right (is_txn t c.txn) (has_commit cs t) h) e;
          shown = λ t h e. shown_now m k c.txn r t ∙ x.shown t (or_right (is_txn t c.txn) (has_commit cs t) h) e;
          elsewhere = λ t h e q role has on le. shown_now m k c.txn q t ∙ x.elsewhere t (or_right (is_txn t c.txn) (has_commit cs t) h) e q role (sym (alike_now m k c.txn q).role ∙ has) on le;
        }

abbrev IsAnswered : Position → ℕ → List Committed → List Observation → Type 0
IsAnswered p r shown lines = Lines p lines × ((t : TxnId) → has_commit shown t ≡ true → is_pending (behind p lines).machine r t ≡ false)

come_step : (p : Position) (r : ℕ) (epoch : Epoch) (before : List Committed) (c : Committed) (cs later : List Committed) (b : Bool) → is_epoch c.txn.epoch epoch ≡ b → IsNewlyShown p r epoch before (c ∷ cs) later
    → ((q : Position) → IsNewlyShown q r epoch (before ++ c ∷ []) cs later → IsAnswered q r ((before ++ c ∷ []) ++ cs) (map says.Committed (txns_of epoch cs)))
    → IsAnswered p r (before ++ c ∷ cs) (map says.Committed (map (λ (y : Committed). y.txn) (cond b (c ∷ filter (λ (y : Committed). is_epoch y.txn.epoch epoch) cs) (filter (λ (y : Committed). is_epoch y.txn.epoch epoch) cs))))
come_step p r epoch before c cs later true own x rest =
    let next = rest (after p (says.Committed c.txn)) (comes_after p r epoch before c cs later x own) in
    ((may_come p r epoch before c cs later x own, next.0), λ t h. next.1 t (subst (λ (ys : List Committed). has_commit ys t ≡ true) (sym (append_assoc before (c ∷ []) cs)) h))
come_step p r epoch before c cs later false other x rest =
    let next = rest p (passes_by p r epoch before c cs later x other) in
    (next.0, λ t h. next.1 t (subst (λ (ys : List Committed). has_commit ys t ≡ true) (sym (append_assoc before (c ∷ []) cs)) h))

come : (new : List Committed) (p : Position) (r : ℕ) (epoch : Epoch) (before later : List Committed) → IsNewlyShown p r epoch before new later → IsAnswered p r (before ++ new) (map says.Committed (txns_of epoch new))
come [] p r epoch before later x = (tt, λ t h. x.done t (subst (λ (ys : List Committed). has_commit ys t ≡ true) (append-nil before) h))
come (c ∷ cs) p r epoch before later x = come_step p r epoch before c cs later (is_epoch c.txn.epoch epoch) refl x (λ q y. come cs q r epoch (before ++ c ∷ []) later y)

pub acknowledgements_may_come : AcknowledgementsMayCome
acknowledgements_may_come p r epoch before new later x = come new p r epoch before later x
