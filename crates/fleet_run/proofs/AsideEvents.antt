-- Events that commit nothing and appoint nobody have whole lines.
use Rattle.std.proofs.Common.{◌≡◌, ◌∙◌, ℕ, ◌<◌, ◌≤◌, true, false, ◌⊎◌, List, [], ◌∷◌, set, get_or, refl, sym, ap, ap₂, subst, inl, inr, arith, None, is_some}
use Rattle.std.specs.Prelude.{Contains}
use Rattle.std.proofs.lemmas.Bool.{cases_lt, eq-eqb, false≢true}
use Rattle.std.proofs.lemmas.List.{length-set, get_or-set_same, get_or_past, set-set}
use Rattle.rc_base.specs.declared.ids.Epoch.{Epoch}
use Rattle.rc_base.specs.Ids.{no_epoch}
use Rattle.log_records.specs.declared.record.Record.{Record}
use Rattle.txn_table.specs.Whole.{Whole, stable_of}
use Rattle.events.specs.declared.event.Event.TheVariants.{Arm, Crash, Reboot}
use Rattle.order_machine.specs.declared.observation.Observation.TheVariants as says
use Rattle.order_machine.specs.Order.{Order, length_of, empty_order}
use Rattle.order_machine.specs.Machine.{Machine, Replica, replica, put_replica, order_of, closed, never_opened}
use Rattle.order_machine.specs.Transitions.{HoldsBehind, opened, showing, up_again, is_told}
use Rattle.order_machine.specs.Legal.{IsServed, behind}
use Rattle.replica_model.specs.OpenReplica.{OpenReplica, view_of, opened_over}
use Rattle.fleet_laws.specs.Fleets.{Fleet}
use Rattle.fleet_laws.proofs.Puts.{only_member}
use Rattle.fleet_run.specs.Scenes.{FleetReplica, replica_at, held_by}
use Rattle.fleet_run.specs.Scenes.FleetReplica.{Open, Closed}
use Rattle.fleet_run.specs.Acts.{opening_lines}
use Rattle.fleet_run.specs.Plans.{done}
use Rattle.fleet_run.specs.Sound.{Sound}
use Rattle.fleet_run.specs.Rows.{BeginsOrder, AgreesClosed, Agrees}
use Rattle.fleet_run.proofs.Taking.{there_early}
use Rattle.fleet_run.proofs.Pending.{fewer_holds, one_fewer, ended_asked}
use Rattle.fleet_run.proofs.Agreeing.{begins_less, still_told, was_surveyed, agrees_open, agrees_closed, agrees_set}

module _ (m : Machine) (replicas : List FleetReplica) (f : Fleet Record) (s : Sound m replicas f) (is : Agrees m replicas) where
  -- ---- closings and faults

  abbrev pub down_replica : ℕ → Replica
  down_replica r = record (replica m r) { up = false; role = None; grants = [] }

  pub open_begins : (r : ℕ) (o : OpenReplica) → replica_at replicas r ≡ Open o → BeginsOrder is.order o.disk (stable_of o.disk)
  open_begins r o up =
      let t = there_early m replicas f r o s up in
      begins_less is.order o.disk (stable_of o.disk) o.stable is.base t.kept.start t.standing.told (agrees_open m m replicas is r o up).begins

  closed_at : (r : ℕ) (x : FleetReplica) → replica_at replicas r ≡ x → AgreesClosed (down_replica r) is.order (held_by x)
  closed_at r (Open o) up = record { down = refl; role = refl; begins = λ w c. subst (λ (u : Whole). BeginsOrder is.order u (stable_of u)) (sym (only_member o.disk w c)) (open_begins r o up) }
  closed_at r (Closed ws) down = record { down = refl; role = refl; begins = (agrees_closed m m replicas is r ws down).begins }

  pub closed_holds : (r : ℕ) → HoldsBehind (closed m r)
  closed_holds r = fewer_holds m (closed m r) (one_fewer m (closed m r) r (down_replica r) (inl refl) refl refl refl refl (λ q t. ended_asked r q t m.txns)) is.behind

  -- whatever fences the logs of a closed replica have
  pub closed_agrees : (r : ℕ) (ws : List Whole) → AgreesClosed (down_replica r) is.order ws → ((w : Whole) → r < 9 → Contains ws w → (w.fence ≡ no_epoch) ⊎ (is_told (closed m r) w.fence ≡ true)) → Agrees (closed m r) (set replicas r (Closed ws))
  closed_agrees r ws at fences = agrees_set m (closed m r) replicas is r (Closed ws) (down_replica r) s.nine refl refl refl (is.losses r) (λ within. at) (λ e h. h) fences (closed_holds r)

  pub held_fences : (r : ℕ) (w : Whole) → r < 9 → Contains (held_by (replica_at replicas r)) w → (w.fence ≡ no_epoch) ⊎ (is_told (closed m r) w.fence ≡ true)
  held_fences r w within c = elim (is.fences r w c) [
    | inl none ↦ inl none
    | inr told ↦ inr (still_told m (closed m r) r (down_replica r) w.fence refl refl (λ h. h) told)
  ]

  pub crash_agrees : (r : ℕ) → Agrees (closed m r) (set replicas r (Closed (held_by (replica_at replicas r))))
  crash_agrees r = closed_agrees r (held_by (replica_at replicas r)) (closed_at r (replica_at replicas r) refl) (held_fences r)

  -- ---- armings and crashes

  pub arm_served : (r k : ℕ) → IsServed (opened m (Arm r k)) done
  arm_served r k = record {
    may = (record { named = refl; in_rank = refl; next = refl; goes_on = refl; row = refl }, tt);
    complete = record { opened = refl; grown = refl; mounted = refl; told = refl; answered = refl };
    holds = is.behind;
  }

  pub crash_served : (r k : ℕ) → IsServed (opened m (Crash r k)) done
  crash_served r k = record {
    may = (record { named = refl; in_rank = refl; next = refl; goes_on = refl; row = refl }, tt);
    complete = record { opened = refl; grown = refl; mounted = refl; told = refl; answered = refl };
    holds = closed_holds r;
  }

  -- ---- a reboot

  pub replaced_at : (r : ℕ) (y : Replica) → r < 9 → replica (put_replica m r y) r ≡ y
  replaced_at r y within = get_or-set_same m.replicas r y never_opened (omega (arith, within, is.nine))

  replaced_loss : (r : ℕ) (y : Replica) → y.loss ≡ 0 → (replica (put_replica m r y) r).loss ≡ 0
  replaced_loss r y none = elim (cases_lt r 9) [
    | inl within ↦ ap (λ (z : Replica). z.loss) (replaced_at r y within) ∙ none
    | inr past ↦ ap (λ (z : Replica). z.loss) (get_or_past (set m.replicas r y) r never_opened (omega (arith, past, length-set m.replicas r y, is.nine)))
  ]

  abbrev raised : ℕ → Machine
  raised r = put_replica m r (up_again (replica m r))

  order_raised : (r : ℕ) → order_of (put_replica m r (up_again (replica m r))) r ≡ is.order
  order_raised r = ap₂ (λ (os : List Order) (l : ℕ). get_or os l empty_order) is.orders (replaced_loss r (up_again (replica m r)) (is.losses r))

  module _ (r : ℕ) (ws : List Whole) (down : replica_at replicas r ≡ Closed ws) where
    closed_is : AgreesClosed (replica m r) is.order ws
    closed_is = agrees_closed m m replicas is r ws down

    module _ (w : Whole) (held : Contains ws w) where
      abbrev n : ℕ
      n = view_of (opened_over r w)

      abbrev shown_replica : Replica
      shown_replica = record (replica (put_replica m r (up_again (replica m r))) r) { show = view_of (opened_over r w) }

      abbrev reopened : Machine
      reopened = showing (put_replica m r (up_again (replica m r))) r (view_of (opened_over r w))

      reopened_replicas : (showing (put_replica m r (up_again (replica m r))) r (view_of (opened_over r w))).replicas ≡ set m.replicas r shown_replica
      reopened_replicas = set-set m.replicas r (up_again (replica m r)) shown_replica

      role_gone : shown_replica.role ≡ None
      role_gone = elim (cases_lt r 9) [
        | inl within ↦ ap (λ (z : Replica). z.role) (replaced_at r (up_again (replica m r)) within)
        | inr past ↦ ap (λ (z : Replica). z.role) (get_or_past (set m.replicas r (up_again (replica m r))) r never_opened (omega (arith, past, length-set m.replicas r (up_again (replica m r)), is.nine)))
      ]

      reopened_holds : HoldsBehind (showing (put_replica m r (up_again (replica m r))) r (view_of (opened_over r w)))
      reopened_holds = fewer_holds m reopened (one_fewer m reopened r shown_replica (inl role_gone) reopened_replicas refl refl refl (λ q t. refl)) is.behind

      pub reboot_served : IsServed (opened m (Reboot r)) (opening_lines r (opened_over r w))
      reboot_served = record {
        may = (
          record { named = refl; in_rank = refl; next = refl; goes_on = refl; row = (closed_is.down, ([], refl)) },
          (
            record {
              named = refl;
              in_rank = refl;
              next = eq-eqb r r refl;
              goes_on = refl;
              row = record {
                within = subst (λ (o : Order). view_of (opened_over r w) ≤ length_of o) (sym (order_raised r)) (closed_is.begins w held).within;
                all_that_grew = λ grew. absurd (false≢true grew);
                grew_here = λ grew. absurd (false≢true grew);
                more = λ none. absurd (false≢true (sym (ap is_some none)));
                primary = λ none. absurd (false≢true (sym (ap is_some none)));
                acts = eq-eqb r r refl;
              };
            },
            tt,
          ),
        );
        complete = record { opened = refl; grown = refl; mounted = refl; told = refl; answered = refl };
        holds = reopened_holds;
      }

      surveys_kept : (e : Epoch) → was_surveyed e (replica m r) ≡ true → (r < 9) ⊎ (9 ≤ r) → was_surveyed e shown_replica ≡ true
      surveys_kept e h (inl within) = ap (was_surveyed e) (ap (λ (z : Replica). let y : Replica = record z { show = view_of (opened_over r w) } in y) (replaced_at r (up_again (replica m r)) within)) ∙ h
      surveys_kept e h (inr past) = absurd (false≢true (sym (ap (was_surveyed e) (get_or_past m.replicas r never_opened (omega (arith, past, is.nine)))) ∙ h))

      pub reboot_agrees : Agrees (behind (opened m (Reboot r)) (opening_lines r (opened_over r w))).machine (set replicas r (Open (opened_over r w)))
      reboot_agrees = agrees_set m reopened replicas is r (Open (opened_over r w)) shown_replica s.nine reopened_replicas refl refl
          (replaced_loss r (up_again (replica m r)) (is.losses r))
          (λ within. record { up = ap (λ (z : Replica). z.up) (replaced_at r (up_again (replica m r)) within); shows = refl; begins = closed_is.begins w held; role = role_gone })
          (λ e h. surveys_kept e h (cases_lt r 9))
          (λ u within c. elim (is.fences r u (subst (λ (x : FleetReplica). Contains (held_by x) u) (sym down) (subst (λ (z : Whole). Contains ws z) (sym (only_member w u c)) held))) [
            | inl none ↦ inl none
            | inr told ↦ inr (still_told m reopened r shown_replica u.fence refl reopened_replicas (λ h. surveys_kept u.fence h (inl within)) told)
          ])
          reopened_holds

    pub unmount_served : IsServed (opened m (Reboot r)) (says.Fault r ∷ [])
    unmount_served = record {
      may = (record { named = refl; in_rank = refl; next = refl; goes_on = refl; row = inl (closed_is.down, ([], refl)) }, tt);
      complete = record { opened = refl; grown = refl; mounted = refl; told = refl; answered = refl };
      holds = closed_holds r;
    }

    pub unmount_agrees : Agrees (closed m r) (set replicas r (Closed ws))
    unmount_agrees = closed_agrees r ws (closed_at r (Closed ws) down) (λ w within c. held_fences r w within (subst (λ (x : FleetReplica). Contains (held_by x) w) (sym down) c))
