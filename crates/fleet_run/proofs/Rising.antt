-- The line that a primary is active may come where it stands.
use Rattle.std.proofs.Common.{◌≡◌, ◌∙◌, ℕ, ◌+◌, ◌-◌, ◌<◌, true, false, Bool, cond, not, List, [], ◌∷◌, ◌++◌, length, map, take, get_or, refl, sym, ap, ap₂, subst, inl, inr, arith, Option, Some, is_some}
use Rattle.std.specs.Prelude.{◌&&◌, ◌||◌, ◌==◌, is_none}
use Rattle.std.specs.Option.{option_map_or}
use Rattle.std.specs.List.{list_any}
use Rattle.std.proofs.lemmas.Bool.{cases_lt, and_parts, or_right, le-leb, false≢true}
use Rattle.std.proofs.lemmas.List.{map-append, length-map, take_at, get_or-set_same, get_or-set_other, get_or_past}
use Rattle.rc_base.specs.declared.ids.TxnId.{TxnId}
use Rattle.rc_base.specs.Ids.{is_txn}
use Rattle.txn_table.specs.declared.committed.Committed.{Committed}
use Rattle.events.specs.declared.event.Event.{Event}
use Rattle.events.specs.declared.answer.Reply.{Reply}
use Rattle.order_machine.specs.declared.observation.Observation.{Observation}
use Rattle.order_machine.specs.declared.observation.Observation.TheVariants as says
use Rattle.order_machine.specs.Order.{Order, Entry, empty_order, first_of, holds}
use Rattle.order_machine.specs.Machine.{Role, Replica, replica, role_of, order_of, is_shown, never_opened}
use Rattle.order_machine.specs.Transitions.{Position, May, after, activated, may_grow, is_boot, is_call, is_reconfiguration, is_actor}
use Rattle.order_machine.specs.Legal.{Lines, behind}
use Rattle.replica_model.specs.declared.step.StepEvent.{StepEvent}
use Rattle.replica_model.specs.declared.step.Outcome.{Outcome}
use Rattle.replica_model.specs.OpenReplica.{OpenReplica, is_active}
use Rattle.replica_model.specs.Steps.{written}
use Rattle.history_laws.specs.Texts.{has_commit}
use Rattle.history_laws.specs.LockGuards.{entry_of, OrderCommits}
use Rattle.fleet_run.specs.Acts.{order_lines, view_line, active_line}
use Rattle.fleet_run.specs.Phases.{IsAtStart, ShowsBehind, HasShown}
use Rattle.fleet_run.specs.Acknowledging.{MayRise, risen, ActiveMayCome}
use Rattle.fleet_run.proofs.StepLines.{behind_append}
use Rattle.fleet_run.proofs.OrderLines.{lines_append, order_and_view_may_come}
use Rattle.fleet_run.proofs.Acknowledged.{holds_commits}

-- ---- what is shown

module _ (p q : Position) (r : ℕ) (ordered now : List Committed) (last : ℕ) (x : ShowsBehind p q r ordered now last) where
  pub first_shown : first_of (order_of q.machine r) (replica q.machine r).show ≡ map entry_of now
  first_shown =
      let k : (replica q.machine r).show - (order_of q.machine r).base ≡ length now = omega (arith, x.shows, x.base) in
      ap₂ (λ (n : ℕ) (es : List Entry). take n es) k (x.order.1.entries ∙ ap (map entry_of) (sym x.order.3.1) ∙ map-append entry_of now x.order.3.0)
      ∙ take_at (map entry_of now) (map entry_of x.order.3.0) (length now) (length-map now entry_of)

  pub is_shown_now : (t : TxnId) → has_commit now t ≡ true → is_shown q.machine r t ≡ true
  is_shown_now t h = ap (λ (es : List Entry). holds es t) first_shown ∙ holds_commits now t ∙ h

-- ---- the line

active_stays : (a w : Bool) → (a && not w) ≡ false → (a || w) ≡ w
active_stays true true h = refl
active_stays true false h = absurd (false≢true (sym h))
active_stays false w h = refl

was_off : (w : Bool) → not w ≡ true → w ≡ false
was_off true h = absurd (false≢true h)
was_off false h = refl

module _ (p q : Position) (o : OpenReplica) (step : StepEvent) (told : Outcome) (ordered now : List Committed) (start : IsAtStart p o.id) (rises : MayRise p o step told now) (x : HasShown p q o.id ordered now) where
  has_now : role_of q.machine o.id ≡ Some rises.role
  has_now = x.role ∙ rises.has

  grows_now : may_grow q ≡ true
  grows_now = ap₂ (λ (e : Event) (c : Option Reply). (is_call e && is_none c) || is_reconfiguration e) x.shown.event x.shown.client ∙ start.grows

  may_be : told.active ≡ true → is_active (written o step) ≡ false → May q (says.Active o.id)
  may_be on off = record {
    named = or_right (is_boot q.event) (may_grow q) grows_now;
    in_rank = le-leb (q.rank + 1) 4 (omega (arith, x.shown.rank));
    next = ap₂ (λ (k : Option ℕ) (b : Bool). is_none k && not b) x.shown.opening x.shown.growing;
    goes_on = ap (λ (rs : List ℕ). is_boot q.event || (length rs == 0)) x.shown.faulted ∙ or_right (is_boot q.event) true refl;
    row = record {
      role = rises.role;
      has = has_now;
      not_yet = rises.active ∙ off;
      shows = λ t a le. is_shown_now p q o.id ordered now 3 x.shown t (rises.shows on t (sym (ap (λ (ts : List TxnId). list_any (is_txn t) ts) x.shown.acknowledged) ∙ a) le);
      acts = ap₂ (λ (k : ℕ) (e : Event). is_actor k e o.id) x.shown.primary x.shown.event ∙ start.acts;
    };
  }

  -- r is one of the machine's replicas
  among : o.id < length q.machine.replicas
  among = elim (cases_lt o.id (length q.machine.replicas)) [
    | inl lt ↦ lt
    | inr past ↦ absurd (false≢true (sym (ap (λ (z : Replica). is_some z.role) (get_or_past q.machine.replicas o.id never_opened past)) ∙ ap is_some has_now))
  ]

  abbrev now_on : Role
  now_on = record rises.role { active = true }

  abbrev there : Position
  there = record q { machine = activated q.machine o.id rises.role; rose = o.id ∷ q.rose; rank = 4 }

  after_is : after q (says.Active o.id) ≡ record q { machine = activated q.machine o.id rises.role; rose = o.id ∷ q.rose; rank = 4 }
  after_is = ap (λ (z : Option Role). let u : Position = record q { machine = option_map_or (activated q.machine o.id) z q.machine; rose = o.id ∷ q.rose; rank = 4 } in u) has_now

  replica_on : replica (activated q.machine o.id rises.role) o.id ≡ record (replica q.machine o.id) { role = Some (record rises.role { active = true }) }
  replica_on = get_or-set_same q.machine.replicas o.id _ never_opened among

  order_on : order_of (activated q.machine o.id rises.role) o.id ≡ order_of q.machine o.id
  order_on = ap (λ (z : Replica). get_or q.machine.orders z.loss empty_order) replica_on

  shows_there : ShowsBehind p (record q { machine = activated q.machine o.id rises.role; rose = o.id ∷ q.rose; rank = 4 }) o.id ordered now 4
  shows_there = record {
    order = (x.shown.order.0, subst (λ (z : Order). OrderCommits z [] x.shown.order.0) (sym order_on) x.shown.order.1, x.shown.order.2, x.shown.order.3);
    base = ap (λ (z : Order). z.base) order_on ∙ x.shown.base;
    shows = ap (λ (z : Replica). z.show) replica_on ∙ x.shown.shows;
    up = ap (λ (z : Replica). z.up) replica_on ∙ x.shown.up;
    grants = ap (λ (z : Replica). z.grants) replica_on ∙ x.shown.grants;
    elsewhere = λ k ne. get_or-set_other q.machine.replicas o.id k _ never_opened ne ∙ x.shown.elsewhere k ne;
    rank = omega arith;
    opening = x.shown.opening;
    growing = x.shown.growing;
    faulted = x.shown.faulted;
    txns = x.shown.txns;
    acknowledged = x.shown.acknowledged;
    event = x.shown.event;
    primary = x.shown.primary;
    client = x.shown.client;
  }

  shows_same : ShowsBehind p q o.id ordered now 4
  shows_same = record {
    order = x.shown.order;
    base = x.shown.base;
    shows = x.shown.shows;
    up = x.shown.up;
    grants = x.shown.grants;
    elsewhere = x.shown.elsewhere;
    rank = omega (arith, x.shown.rank);
    opening = x.shown.opening;
    growing = x.shown.growing;
    faulted = x.shown.faulted;
    txns = x.shown.txns;
    acknowledged = x.shown.acknowledged;
    event = x.shown.event;
    primary = x.shown.primary;
    client = x.shown.client;
  }

  abbrev Come : List Observation → Type 0
  Come lines = Lines q lines × ShowsBehind p (behind q lines) o.id ordered now 4 × (role_of (behind q lines).machine o.id ≡ Some (risen rises.role told))

  rises_now : (b : Bool) → (told.active && not (is_active (written o step))) ≡ b
      → Lines q (cond b (says.Active o.id ∷ []) []) × ShowsBehind p (behind q (cond b (says.Active o.id ∷ []) [])) o.id ordered now 4 × (role_of (behind q (cond b (says.Active o.id ∷ []) [])).machine o.id ≡ Some (risen rises.role told))
  rises_now true is =
      let parts = and_parts told.active (not (is_active (written o step))) is in (
        (may_be parts.0 (was_off (is_active (written o step)) parts.1), tt),
        subst (λ (z : Position). ShowsBehind p z o.id ordered now 4) (sym after_is) shows_there,
        ap (λ (z : Position). role_of z.machine o.id) after_is ∙ ap (λ (z : Replica). z.role) replica_on ∙ ap (λ (b : Bool). Some (let z : Role = record rises.role { active = b || rises.role.active } in z)) (sym parts.0),
      )
  rises_now false is = (
    tt,
    shows_same,
    has_now
        ∙ ap (λ (b : Bool). Some (let z : Role = record rises.role { active = b } in z))
        (rises.active ∙ sym (active_stays told.active (is_active (written o step)) is) ∙ ap (λ (b : Bool). told.active || b) (sym rises.active)),
  )

pub active_may_come : ActiveMayCome
active_may_come p o step told before ordered now later start c rises =
    let first = order_lines p.machine o told.commits ++ view_line o told in
    let last = active_line o step told in
    let come = order_and_view_may_come p o told before ordered now later start c in
    let more = rises_now p (behind p first) o step told ordered now start rises come.1 (told.active && not (is_active (written o step))) refl in
    let same : behind p (first ++ last) ≡ behind (behind p first) last = behind_append p first last in (
      lines_append p first last come.0 more.0,
      subst (λ (z : Position). ShowsBehind p z o.id ordered now 4) (sym same) more.1,
      ap (λ (z : Position). role_of z.machine o.id) same ∙ more.2,
    )
