-- A primary is appointed, and starts its epoch; or its disk fails in that.
use Rattle.std.proofs.Common.{◌≡◌, ◌∙◌, ℕ, suc, ◌<◌, ◌≤◌, max, true, Bool, List, [], ◌∷◌, ◌++◌, length, map, refl, sym, ap, subst, inl, inr, arith, Some}
use Rattle.std.specs.Prelude.{All, Contains}
use Rattle.std.proofs.lemmas.Bool.{cases_Bool, false≢true}
use Rattle.std.proofs.lemmas.List.{map-append}
use Rattle.rc_base.specs.declared.ids.Epoch.{Epoch}
use Rattle.rc_base.specs.Ids.{epoch_lt}
use Rattle.config_rule.specs.declared.appointments.Appointment.{Appointment}
use Rattle.log_records.specs.declared.record.Record.{Record}
use Rattle.log_records.specs.declared.record.Record.TheVariants as records
use Rattle.txn_table.specs.Epochs.{later}
use Rattle.txn_table.specs.Whole.{Whole, stable_of}
use Rattle.txn_front.specs.Front.{nothing}
use Rattle.progress_vector.specs.Vectors.{epoch_at as epoch_at_start}
use Rattle.replica_model.specs.declared.step.StepEvent.TheVariants as steps
use Rattle.replica_model.specs.OpenReplica.{OpenReplica, Leading}
use Rattle.replica_model.specs.Quorums.{looked}
use Rattle.replica_model.specs.Steps.{written, cut_off, appointed_to}
use Rattle.fleet_laws.specs.Logs.{Entry}
use Rattle.fleet_laws.specs.Logs.Record.{EpochStart}
use Rattle.fleet_laws.specs.Fleets.{Fleet, Value, IsValueOf, IsAppointed}
use Rattle.fleet_laws.specs.Moves.{IsReached, Turn, Boots, Appoints, booted, appointed as appointed_fleet, changed as changed_fleet}
use Rattle.fleet_laws.specs.Moves.Move.{boot, appoint}
use Rattle.fleet_laws.specs.Moves.Run.{rests, moves}
use Rattle.fleet_laws.specs.Moves.Turn.{stays}
use Rattle.fleet_laws.proofs.Puts.{put_same, put_other, put_both, first_member}
use Rattle.fleet_laws.proofs.Runs.{reached_invariant, run_after}
use Rattle.fleet_run.specs.Scenes.{FleetReplica}
use Rattle.fleet_run.specs.Scenes.FleetReplica.{Open, Closed}
use Rattle.fleet_run.specs.Kernel.{IsCoded, code, entry_of, value_of, values_of, role_of}
use Rattle.fleet_run.specs.Sound.{IsItem, IsKept, IsLeading, IsStanding, SameMembers}
use Rattle.fleet_run.proofs.Codes.{last_append, code_less, code_not_less}
use Rattle.fleet_run.proofs.Moved.{Moved, SameRule, moved_then, run_then, rule_then, one_change}
use Rattle.fleet_run.proofs.Looking.{IsWritten, looks, some_same}
use Rattle.fleet_run.proofs.Writing.{told_behind, all_both, all_more, all_none}
use Rattle.fleet_run.proofs.Primaries.{Prepared, Wrote, cut, wrote, along, log_on, moved_by}
use Rattle.fleet_run.proofs.Stepping.{IsThere, kept_two, value_there}
use Rattle.fleet_run.proofs.Ahead.{HasTerm}

-- ---- the moves of the laws

-- What the laws' move leaves: the epoch's history is the log of p and the start of the epoch, and p has the role.
pub record Given (f g : Fleet Record) (e p : ℕ) (before now : List ℕ) (log : List (Entry Record)) : Type 0 where
  pub prepared : Prepared f g p
  pub has : HasTerm f g e before now
  pub role : g.role p ≡ e
  pub history : g.history e ≡ log ++ record { epoch = e; content = EpochStart } ∷ []
  pub start : g.start e ≡ suc (length log)

pub given_appoint : (f : Fleet Record) (e p : ℕ) (v : Value Record) (members : List ℕ) → IsReached f → Appoints f e p v → Given f (appointed_fleet f e p v members) e p (f.current f.active) members v.log
given_appoint f e p v members reached may =
    let i = reached_invariant f reached in
    let fresh : (d : ℕ) → IsAppointed f d → d ≡ e → ⊥ = λ d is same. omega (arith, i.appointments.latest d is, may.above, same) in
    record {
      prepared = record {
        run = moves rests (appoint e p v members may);
        values = λ q. refl;
        role = λ q ne. put_other p e f.role q ne;
        no_copy = λ none. none;
        elsewhere = λ d is ne. record {
          history = put_other e (v.log ++ record { epoch = e; content = EpochStart } ∷ []) f.history d (fresh d is);
          current = put_other e members f.current d (fresh d is);
          previous = put_other e (f.current f.active) f.previous d (fresh d is);
          activated = λ x. x;
        };
        other_role = λ d is ne same. fresh d is (sym same ∙ put_same p e f.role p refl);
      };
      has = record { appointed = refl; current = refl; previous = refl; latest = refl; answered = refl; told_epoch = refl; told_length = refl };
      role = put_same p e f.role p refl;
      history = put_same e (v.log ++ record { epoch = e; content = EpochStart } ∷ []) f.history e refl;
      start = put_same e (suc (length v.log)) f.start e refl;
    }

pub given_boot : (f : Fleet Record) (e p : ℕ) (members : List ℕ) → Boots f e p → Given f (booted f e p members) e p members members []
given_boot f e p members may =
    let fresh : (d : ℕ) → IsAppointed f d → d ≡ e → ⊥ = λ d is same. false≢true (sym (may.first d) ∙ is) in
    record {
      prepared = record {
        run = moves rests (boot e p members may);
        values = λ q. refl;
        role = λ q ne. put_other p e f.role q ne;
        no_copy = λ none. none;
        elsewhere = λ d is ne. record {
          history = put_other e (record { epoch = e; content = EpochStart } ∷ []) f.history d (fresh d is);
          current = put_other e members f.current d (fresh d is);
          previous = put_other e members f.previous d (fresh d is);
          activated = λ x. put_both (λ (b : Bool). b ≡ true) e true f.activated d (λ same. refl) (λ other. x);
        };
        other_role = λ d is ne same. fresh d is (sym same ∙ put_same p e f.role p refl);
      };
      has = record { appointed = refl; current = refl; previous = refl; latest = refl; answered = refl; told_epoch = refl; told_length = refl };
      role = put_same p e f.role p refl;
      history = put_same e (record { epoch = e; content = EpochStart } ∷ []) f.history e refl;
      start = put_same e 1 f.start e refl;
    }

-- ---- the step

later_most : (a b : Epoch) → IsCoded a → IsCoded b → code (later a b) ≡ max (code a) (code b)
later_most a b x y = elim (cases_Bool (epoch_lt a b)) [
  | inl lt ↦ rw (lt) (let less : code a < code b = code_less a b x y lt in omega (arith, less))
  | inr ge ↦ rw (ge) (let less : code b ≤ code a = code_not_less a b x y ge in omega (arith, less))
]

later_coded : (a b : Epoch) → IsCoded a → IsCoded b → IsCoded (later a b)
later_coded a b x y = elim (cases_Bool (epoch_lt a b)) [
  | inl lt ↦ rw (lt) y
  | inr ge ↦ rw (ge) x
]

abbrev pub start_item : Epoch → Epoch × Record
start_item e = (e, records.EpochStart e)

-- what the disk holds behind the start of the epoch
abbrev pub started : Whole → Epoch → Whole
started w e = record w { log = w.log ++ start_item e ∷ []; fence = later w.fence e }

-- the epoch of the role that was given is the appointment's
own_epoch : (a : Appointment) (l : Leading) → (y : Leading) × (Some (appointed_to a) ≡ Some y) × (l.epoch ≡ y.epoch) → l.epoch ≡ a.epoch
own_epoch a l y = y.2 ∙ ap (λ (z : Leading). z.epoch) (sym (some_same (appointed_to a) y.0 y.1))

pub record Begun (f g : Fleet Record) (r : ℕ) (now : FleetReplica) : Type 0 where
  pub fleet : Fleet Record
  pub moved : Moved f fleet r now
  pub rule : SameRule g fleet

module _ (f g : Fleet Record) (p : ℕ) (o : OpenReplica) (a : Appointment) (before now : List ℕ) (t : IsThere f p o) (coded : IsCoded a.epoch) (given : Given f g (code a.epoch) p before now (map entry_of o.disk.log)) (cc : SameMembers a.cc now) (pc : SameMembers a.pc before) where
  abbrev e : ℕ
  e = code a.epoch

  reached_given : IsReached g
  reached_given = run_then t.reached given.prepared.run

  values_given : g.values p ≡ value_of o.stable o.disk ∷ []
  values_given = given.prepared.values p ∙ t.values

  appointed_given : IsAppointed g (code a.epoch)
  appointed_given = ap (λ (h : ℕ → Bool). h (code a.epoch)) given.has.appointed ∙ put_same (code a.epoch) true f.appointed (code a.epoch) refl

  history_given : g.history (code a.epoch) ≡ map entry_of (started o.disk a.epoch).log
  history_given = given.history ∙ sym (map-append entry_of o.disk.log (start_item a.epoch ∷ []))

  turn_given : Turn g p (value_of o.stable o.disk) (value_of o.stable (started o.disk a.epoch))
  turn_given = along g p (code a.epoch) o.stable o.disk (started o.disk a.epoch) appointed_given given.role history_given refl refl (later_most o.disk.fence a.epoch t.kept.fence coded) (log_on o.disk (start_item a.epoch ∷ []))

  told_given : stable_of (started o.disk a.epoch) ≤ o.stable
  told_given = told_behind o.disk (later o.disk.fence a.epoch) (start_item a.epoch ∷ []) o.stable t.standing.told (omega arith)

  kept_given : IsKept (started o.disk a.epoch)
  kept_given = record {
    start = t.kept.start;
    fence = later_coded o.disk.fence a.epoch t.kept.fence coded;
    items = all_both IsItem o.disk.log (start_item a.epoch ∷ []) t.kept.items (all_more IsItem (start_item a.epoch) [] (record { coded = coded; names = refl }) (all_none IsItem));
  }

  -- what is stable is below the start of the epoch
  stable_given : o.stable < g.start (code a.epoch)
  stable_given =
      let safe = ((reached_invariant f t.reached).values p (value_of o.stable o.disk) (value_there f p o t)).safe in
      let within : o.stable ≤ length (map entry_of o.disk.log) = elim safe [ inl none ↦ omega (arith, none) | inr x ↦ x.2.agree.right ] in
      omega (arith, within, given.start)

  abbrev primary : OpenReplica
  primary = record { id = o.id; disk = started o.disk a.epoch; stable = o.stable; leading = Some (appointed_to a); front = nothing a.epoch }

  -- what is known of the primary once it has written
  pub record Start : Type 0 where
    pub fleet : Fleet Record
    pub moved : Moved f fleet p (Open (looked primary))
    pub rule : SameRule g fleet
    pub standing : IsStanding fleet p (looked primary)
    pub kept : IsKept (looked primary).disk
    pub epoch : (l : Leading) → (looked primary).leading ≡ Some l → l.epoch ≡ a.epoch

  pub start_done : Start
  start_done =
      let w : Wrote g p (code a.epoch) primary = wrote g p (code a.epoch) (value_of o.stable o.disk) primary appointed_given values_given turn_given given.role refl history_given in
      let after = run_after g w.fleet (reached_invariant g reached_given) w.moved.run in
      let ready : IsWritten w.fleet p primary = record {
        reached = run_then reached_given w.moved.run;
        values = w.moved.values p ∙ put_same p (values_of (Open primary)) g.values p refl;
        role = w.moved.role p ∙ put_same p (role_of (Open primary)) g.role p refl;
        number = t.standing.number;
        start = t.kept.start;
        told = told_given;
        leads = λ y same. subst (λ (z : Leading). IsLeading w.fleet p primary z) (some_same (appointed_to a) y same) (record {
          coded = coded;
          appointed = after.appointed (code a.epoch) appointed_given;
          last = last_append (epoch_at_start o.disk.start.entries o.disk.start.at.0) o.disk.log (start_item a.epoch ∷ []);
          all = w.all;
          current = subst (λ (c : List ℕ). SameMembers a.cc c) (sym (ap (λ (h : ℕ → List ℕ). h (code a.epoch)) (w.rule.current ∙ given.has.current) ∙ put_same (code a.epoch) now f.current (code a.epoch) refl)) cc;
          previous = subst (λ (c : List ℕ). SameMembers a.pc c) (sym (ap (λ (h : ℕ → List ℕ). h (code a.epoch)) (w.rule.previous ∙ given.has.previous) ∙ put_same (code a.epoch) before f.previous (code a.epoch) refl)) pc;
          reached = λ q. omega arith;
          own = w.own;
          chosen = λ active. absurd (false≢true active);
          waits = λ waits. omega (arith, stable_given, w.start (code a.epoch));
        });
      } in
      let h = looks w.fleet p primary ready in
      let both : Moved g h.fleet p (Open (looked primary)) = moved_then g w.fleet h.fleet p (Open primary) (Open (looked primary)) reached_given (ready.role ∙ sym given.role) w.moved h.moved in
      record {
        fleet = h.fleet;
        moved = moved_by f g h.fleet p (Open (looked primary)) t.reached given.prepared both;
        rule = rule_then g w.fleet h.fleet w.rule h.rule;
        standing = h.standing;
        kept = subst IsKept (sym h.disk) kept_given;
        epoch = λ l lead. own_epoch a l (h.epoch l lead);
      }

  pub start_written : written o (steps.Appoint a) ≡ primary
  start_written = refl

  pub start_cut : Begun f g p (Closed (cut_off o (steps.Appoint a))) × ((w : Whole) → Contains (cut_off o (steps.Appoint a)) w → IsKept w)
  start_cut =
      let c = cut g p o.stable o.disk (started o.disk a.epoch) values_given turn_given t.standing.told told_given in (
        record { fleet = c.0; moved = moved_by f g c.0 p (Closed (o.disk ∷ started o.disk a.epoch ∷ [])) t.reached given.prepared c.1; rule = c.2 },
        kept_two o.disk (started o.disk a.epoch) t.kept kept_given,
      )

-- ---- the mount of the primary failed

each_stays : (f : Fleet Record) (r : ℕ) (vs : List (Value Record)) → ((v : Value Record) → Contains vs v → IsValueOf f r v) → All (λ w. (v : Value Record) × IsValueOf f r v × Turn f r v w) vs
each_stays f r [] there = all_none (λ (w : Value Record). (v : Value Record) × IsValueOf f r v × Turn f r v w)
each_stays f r (v ∷ vs) there =
    all_more (λ (w : Value Record). (v : Value Record) × IsValueOf f r v × Turn f r v w) v vs (v, there v (first_member v vs), stays) (each_stays f r vs (λ x c. there x (suc c.0, omega (arith, c.1), c.2)))

pub start_unmounted : (f g : Fleet Record) (e p : ℕ) (before now : List ℕ) (log : List (Entry Record)) (ws : List Whole) → IsReached f → Given f g e p before now log → f.values p ≡ values_of (Closed ws) → Begun f g p (Closed ws)
start_unmounted f g e p before now log ws reached given values =
    let i = reached_invariant f reached in
    let at : g.values p ≡ values_of (Closed ws) = given.prepared.values p ∙ values in
    let some = i.some_value p in
    let has : Contains (values_of (Closed ws)) some.0 = subst (λ (vs : List (Value Record)). Contains vs some.0) values some.1 in
    let size : 1 ≤ length (values_of (Closed ws)) = omega (arith, has.1) in
    let moved : Moved g (changed_fleet g p (values_of (Closed ws)) (role_of (Closed ws)) 0) p (Closed ws) = one_change g p (Closed ws) (inl refl) size (each_stays g p (values_of (Closed ws)) (λ v c. subst (λ (vs : List (Value Record)). Contains vs v) (sym at) c)) in
    record {
      fleet = changed_fleet g p (values_of (Closed ws)) (role_of (Closed ws)) 0;
      moved = moved_by f g (changed_fleet g p (values_of (Closed ws)) (role_of (Closed ws)) 0) p (Closed ws) reached given.prepared moved;
      rule = record { appointed = refl; current = refl; previous = refl; latest = refl; active = refl; answered = refl; told_epoch = refl; told_length = refl };
    }
