-- Steps that leave the rule of reconfiguration: calls, Barriers, activations and inspections, done and cut off.
use Rattle.std.proofs.Common.{◌≡◌, ◌∙◌, ℕ, ◌≤◌, true, false, Bool, cond, List, [], ◌∷◌, ◌++◌, map, refl, sym, ap, subst, inl, inr, arith, Option, Some, None}
use Rattle.std.specs.Prelude.{All, Contains, MatchOption, option_map}
use Rattle.std.specs.Option.{option_map_or}
use Rattle.std.proofs.lemmas.Bool.{cases_Bool, false≢true}
use Rattle.std.proofs.lemmas.List.{append-nil}
use Rattle.rc_base.specs.declared.ids.Epoch.{Epoch}
use Rattle.rc_base.specs.Ids.{is_epoch, no_epoch}
use Rattle.rc_base.proofs.SameIds.{is_epoch-true}
use Rattle.events.specs.declared.call.Call.{Call}
use Rattle.log_records.specs.declared.record.Record.{Record}
use Rattle.log_records.specs.declared.record.Record.TheVariants as records
use Rattle.progress_vector.specs.Vectors.{epoch_at as epoch_at_start}
use Rattle.txn_table.specs.declared.base.Base.{Base}
use Rattle.txn_table.specs.Log.{Items, last_epoch_from, last_from}
use Rattle.txn_table.specs.Whole.{Whole, stable_of, epoch_of}
use Rattle.txn_front.specs.Front.{Fronted}
use Rattle.replica_model.specs.declared.step.StepEvent.TheVariants as steps
use Rattle.replica_model.specs.OpenReplica.{OpenReplica, Leading, last_lsn, is_active}
use Rattle.replica_model.specs.Quorums.{looked}
use Rattle.replica_model.specs.Records.{appended, placed, step_block, logged_by}
use Rattle.replica_model.specs.Steps.{written, cut_off, dropping, front_behind}
use Rattle.fleet_laws.specs.Logs.{last_epoch}
use Rattle.fleet_laws.specs.Fleets.{Fleet, Value, IsValueOf}
use Rattle.fleet_laws.specs.Moves.{IsReached, Turn, grown}
use Rattle.fleet_laws.proofs.Puts.{first_member, put_same, all_member}
use Rattle.fleet_laws.proofs.Runs.{reached_invariant, run_after}
use Rattle.fleet_run.specs.Scenes.FleetReplica.{Open, Closed}
use Rattle.fleet_run.specs.Kernel.{IsCoded, code, entry_of, value_of, values_of, role_of}
use Rattle.fleet_run.specs.Sound.{IsItem, IsKept, IsLeading, IsStanding, SameMembers}
use Rattle.fleet_run.proofs.Codes.{in_epoch, last_append, last_in_epoch, not_less_code, no_epoch_coded}
use Rattle.fleet_run.proofs.Moved.{Moved, SameRule, moved_then, run_then, rule_then, same_rule, unmoved, role_is}
use Rattle.fleet_run.proofs.Looking.{IsWritten, looks, whole_epoch, some_same}
use Rattle.fleet_run.proofs.Writing.{IsFit, all_both, all_more, all_none, all_first, all_rest, placed_are, told_behind, fit_stable, fit_items, calls_fit, barrier_fits, idle_logs}
use Rattle.fleet_run.proofs.Primaries.{Prepared, Wrote, cut, wrote, along, log_on, moved_by, grow_prepared, grow_all}

-- An open replica that stands in a sound fleet.
pub record IsThere (f : Fleet Record) (r : ℕ) (o : OpenReplica) : Type 0 where
  pub reached : IsReached f
  pub values : f.values r ≡ values_of (Open o)
  pub role : f.role r ≡ role_of (Open o)
  pub standing : IsStanding f r o
  pub kept : IsKept o.disk

-- A step of it is done, by moves that leave the rule of reconfiguration.
pub record StepDone (f : Fleet Record) (r : ℕ) (o x : OpenReplica) : Type 0 where
  pub fleet : Fleet Record
  pub moved : Moved f fleet r (Open x)
  pub rule : SameRule f fleet
  pub standing : IsStanding fleet r x
  pub kept : IsKept x.disk
  pub epoch : (l : Leading) → x.leading ≡ Some l → (y : Leading) × (o.leading ≡ Some y) × (l.epoch ≡ y.epoch)

-- or cut off
pub record StepCut (f : Fleet Record) (r : ℕ) (ws : List Whole) : Type 0 where
  pub fleet : Fleet Record
  pub moved : Moved f fleet r (Closed ws)
  pub rule : SameRule f fleet
  pub kept : (w : Whole) → Contains ws w → IsKept w

pub kept_two : (w u : Whole) → IsKept w → IsKept u → (x : Whole) → Contains (w ∷ u ∷ []) x → IsKept x
kept_two w u a b x c = all_member IsKept (w ∷ u ∷ []) x (all_more IsKept w (u ∷ []) a (all_more IsKept u [] b (all_none IsKept))) c

last_more : (w : Whole) (e : Epoch) (more : List Record) → epoch_of w ≡ e → epoch_of (record w { log = w.log ++ in_epoch e more }) ≡ e
last_more w e [] is = ap (λ (log : Items). last_epoch_from w.start log) (append-nil w.log) ∙ is
last_more w e (body ∷ more) is = last_append (epoch_at_start w.start.entries w.start.at.0) w.log (in_epoch e (body ∷ more)) ∙ last_in_epoch e more

previous_then : (f g : Fleet Record) (e : ℕ) → ((d : ℕ) → g.activated d ≡ f.activated d) → g.previous e ≡ f.previous e → (p : Option (List ℕ))
    → MatchOption p (f.activated e ≡ true) (λ members. SameMembers members (f.previous e)) → MatchOption p (g.activated e ≡ true) (λ members. SameMembers members (g.previous e))
previous_then f g e same before None is = same e ∙ is
previous_then f g e same before (Some members) is = subst (λ (c : List ℕ). SameMembers members c) (sym before) is

items_coded : (e : Epoch) (items : Items) → IsCoded e → All IsItem items → IsCoded (last_from e items)
items_coded e [] coded is = coded
items_coded e (item ∷ items) coded is = items_coded item.0 items (all_first IsItem item items is).coded (all_rest IsItem item items is)

-- the epoch of the last record has a number of its own
pub kept_epoch : (w : Whole) → IsKept w → IsCoded (epoch_of w)
kept_epoch w kept = subst (λ (b : Base). IsCoded (last_epoch_from b w.log)) (sym kept.start) (items_coded no_epoch w.log no_epoch_coded kept.items)

-- ---- what holds of it

module _ (f : Fleet Record) (r : ℕ) (o : OpenReplica) (t : IsThere f r o) where
  pub value_there : IsValueOf f r (value_of o.stable o.disk)
  value_there = subst (λ (vs : List (Value Record)). Contains vs (value_of o.stable o.disk)) (sym t.values) (first_member (value_of o.stable o.disk) [])

  pub fenced_there : code (epoch_of o.disk) ≤ code o.disk.fence
  fenced_there =
      let fenced : last_epoch (map entry_of o.disk.log) ≤ code o.disk.fence = ((reached_invariant f t.reached).values r (value_of o.stable o.disk) value_there).fenced in
      omega (arith, fenced, whole_epoch o.disk t.kept.start)

  -- nothing is written
  pub unwritten : IsWritten f r o
  unwritten = record { reached = t.reached; values = t.values; role = t.role; number = t.standing.number; start = t.kept.start; told = t.standing.told; leads = t.standing.leads }

  pub nothing_done : StepDone f r o o
  nothing_done = record { fleet = f; moved = unmoved f r (Open o) t.values t.role; rule = same_rule f; standing = t.standing; kept = t.kept; epoch = λ l lead. (l, lead, refl) }

  looked_done : (x : OpenReplica) → IsWritten f r x → IsKept x.disk → ((l : Leading) → x.leading ≡ Some l → (y : Leading) × (o.leading ≡ Some y) × (l.epoch ≡ y.epoch)) → StepDone f r o (looked x)
  looked_done x w kept epoch =
      let h = looks f r x w in
      record {
        fleet = h.fleet;
        moved = h.moved;
        rule = h.rule;
        standing = h.standing;
        kept = subst IsKept (sym h.disk) kept;
        epoch = λ l lead. let y = h.epoch l lead in let z = epoch y.0 y.1 in (z.0, z.1, y.2 ∙ z.2);
      }

  -- ---- a primary writes

  module _ (l : Leading) (lead : o.leading ≡ Some l) (bodies : List Record) (fits : All (IsFit f (code l.epoch) o.stable) bodies) where
    abbrev disk_then : Whole
    disk_then = record o.disk { log = o.disk.log ++ in_epoch l.epoch bodies }

    is_then : IsLeading f r o l
    is_then = t.standing.leads l lead

    role_then : f.role r ≡ code l.epoch
    role_then = t.role ∙ role_is o l lead

    abbrev grown_then : Fleet Record
    grown_then = grown f (code l.epoch) (map entry_of (in_epoch l.epoch bodies))

    prepared_then : Prepared f (grown f (code l.epoch) (map entry_of (in_epoch l.epoch bodies))) r
    prepared_then = grow_prepared f r o l t.reached role_then is_then bodies fits

    grown_rule : SameRule f (grown f (code l.epoch) (map entry_of (in_epoch l.epoch bodies)))
    grown_rule = record { appointed = refl; current = refl; previous = refl; latest = refl; active = refl; answered = refl; told_epoch = refl; told_length = refl }

    low_then : code l.epoch ≤ code o.disk.fence
    low_then = omega (arith, fenced_there, ap code is_then.last)

    turn_then : Turn (grown f (code l.epoch) (map entry_of (in_epoch l.epoch bodies))) r (value_of o.stable o.disk) (value_of o.stable (record o.disk { log = o.disk.log ++ in_epoch l.epoch bodies }))
    turn_then =
        along (grown f (code l.epoch) (map entry_of (in_epoch l.epoch bodies))) r (code l.epoch) o.stable o.disk (record o.disk { log = o.disk.log ++ in_epoch l.epoch bodies }) is_then.appointed role_then
        (grow_all f r o l t.reached role_then is_then bodies fits) refl refl (omega (arith, low_then)) (log_on o.disk (in_epoch l.epoch bodies))

    told_then : stable_of (record o.disk { log = o.disk.log ++ in_epoch l.epoch bodies }) ≤ o.stable
    told_then = told_behind o.disk o.disk.fence (in_epoch l.epoch bodies) o.stable t.standing.told (fit_stable f (code l.epoch) o.stable l.epoch bodies fits)

    kept_then : IsKept (record o.disk { log = o.disk.log ++ in_epoch l.epoch bodies })
    kept_then = record {
      start = t.kept.start;
      fence = t.kept.fence;
      items = all_both IsItem o.disk.log (in_epoch l.epoch bodies) t.kept.items (fit_items f (code l.epoch) o.stable l.epoch bodies is_then.coded fits);
    }

    last_then : epoch_of (record o.disk { log = o.disk.log ++ in_epoch l.epoch bodies }) ≡ l.epoch
    last_then = last_more o.disk l.epoch bodies is_then.last

    -- the primary behind it, whatever goes on then
    abbrev primary_then : Fronted → OpenReplica
    primary_then front = record { id = o.id; disk = record o.disk { log = o.disk.log ++ in_epoch l.epoch bodies }; stable = o.stable; leading = o.leading; front = front }

    pub primary_done : (front : Fronted) → StepDone f r o (looked (record { id = o.id; disk = record o.disk { log = o.disk.log ++ in_epoch l.epoch bodies }; stable = o.stable; leading = o.leading; front = front }))
    primary_done front =
        let x = primary_then front in
        let e = code l.epoch in
        let w : Wrote grown_then r e x = wrote grown_then r e (value_of o.stable o.disk) x is_then.appointed t.values turn_then role_then (role_is x l lead) (grow_all f r o l t.reached role_then is_then bodies fits) in
        let m : Moved f w.fleet r (Open x) = moved_by f grown_then w.fleet r (Open x) t.reached prepared_then w.moved in
        let after = run_after f w.fleet (reached_invariant f t.reached) m.run in
        let ready : IsWritten w.fleet r x = record {
          reached = run_then t.reached m.run;
          values = w.moved.values r ∙ put_same r (values_of (Open x)) grown_then.values r refl;
          role = w.moved.role r ∙ put_same r (role_of (Open x)) grown_then.role r refl;
          number = t.standing.number;
          start = t.kept.start;
          told = told_then;
          leads = λ y same.
              let is_y : l ≡ y = some_same l y (sym lead ∙ same) in
              subst (λ (z : Leading). IsLeading w.fleet r x z) is_y (record {
                coded = is_then.coded;
                appointed = after.appointed e is_then.appointed;
                last = last_then;
                all = w.all;
                current = subst (λ (c : List ℕ). SameMembers l.current c) (sym (ap (λ (h : ℕ → List ℕ). h e) w.rule.current)) is_then.current;
                previous = previous_then f w.fleet e w.activated (ap (λ (h : ℕ → List ℕ). h e) w.rule.previous) l.previous is_then.previous;
                reached = λ q. omega (arith, is_then.reached q, after.acknowledged q e);
                own = w.own;
                chosen = λ a. after.chosen e o.stable is_then.appointed (is_then.chosen a);
                waits = λ n. omega (arith, is_then.waits n, after.start e is_then.appointed);
              });
        } in
        let h = looks w.fleet r x ready in
        record {
          fleet = h.fleet;
          moved = moved_then f w.fleet h.fleet r (Open x) (Open (looked x)) t.reached (ready.role ∙ role_is x l lead ∙ sym role_then) m h.moved;
          rule = rule_then f w.fleet h.fleet (rule_then f grown_then w.fleet grown_rule w.rule) h.rule;
          standing = h.standing;
          kept = subst IsKept (sym h.disk) kept_then;
          epoch = λ z same. h.epoch z same;
        }

    pub primary_cut : StepCut f r (o.disk ∷ record o.disk { log = o.disk.log ++ in_epoch l.epoch bodies } ∷ [])
    primary_cut =
        let c = cut grown_then r o.stable o.disk disk_then t.values turn_then t.standing.told told_then in
        record {
          fleet = c.0;
          moved = moved_by f grown_then c.0 r (Closed (o.disk ∷ disk_then ∷ [])) t.reached prepared_then c.1;
          rule = rule_then f grown_then c.0 grown_rule c.2;
          kept = kept_two o.disk disk_then t.kept kept_then;
        }

-- ---- one step after another

module _ (f : Fleet Record) (r : ℕ) (o : OpenReplica) (t : IsThere f r o) where
  -- the records that a step places are behind the log, since their epoch isn't above the fence
  placed_there : (bodies : List Record) → appended o.disk (placed (last_lsn o).0 (epoch_of o.disk) bodies) ≡ record o.disk { log = o.disk.log ++ in_epoch (epoch_of o.disk) bodies }
  placed_there bodies = placed_are o.disk (last_lsn o).0 (epoch_of o.disk) bodies (not_less_code o.disk.fence (epoch_of o.disk) t.kept.fence (kept_epoch o.disk t.kept) (fenced_there f r o t))

  -- an active primary
  leader : (x : Option Leading) → o.leading ≡ x → is_active o ≡ true → (l : Leading) × (o.leading ≡ Some l) × (l.active ≡ true)
  leader None is active = absurd (false≢true (sym (ap (λ (y : Option Leading). option_map_or (λ (l : Leading). l.active) y false) is) ∙ active))
  leader (Some l) is active = (l, is, sym (ap (λ (y : Option Leading). option_map_or (λ (l : Leading). l.active) y false) is) ∙ active)

  -- ---- a client's call

  call_active : (call : Call) → is_active o ≡ true → StepDone f r o (looked (written o (steps.Client call))) × StepCut f r (cut_off o (steps.Client call))
  call_active call active =
      let l = leader o.leading refl active in
      let is = t.standing.leads l.0 l.1 in
      let bodies = logged_by o call in
      let fits : All (IsFit f (code l.0.epoch) o.stable) bodies = calls_fit f (code l.0.epoch) o.stable o call in
      let disk : record o.disk { log = o.disk.log ++ in_epoch l.0.epoch bodies } ≡ appended o.disk (step_block o (steps.Client call)) =
      ap (λ (e : Epoch). let w : Whole = record o.disk { log = o.disk.log ++ in_epoch e bodies } in w) (sym is.last) ∙ sym (placed_there bodies) in
      let behind : record { id = o.id; disk = record o.disk { log = o.disk.log ++ in_epoch l.0.epoch bodies }; stable = o.stable; leading = o.leading; front = front_behind o call } ≡ written o (steps.Client call) =
      ap (λ (w : Whole). let x : OpenReplica = record { id = o.id; disk = w; stable = o.stable; leading = o.leading; front = front_behind o call } in x) disk
      ∙ sym (ap (λ (b : Bool). cond b (record o { disk = appended o.disk (step_block o (steps.Client call)); front = front_behind o call }) o) active) in (
        subst (λ (x : OpenReplica). StepDone f r o (looked x)) behind (primary_done f r o t l.0 l.1 bodies fits (front_behind o call)),
        subst (λ (w : Whole). StepCut f r (o.disk ∷ w ∷ [])) disk (primary_cut f r o t l.0 l.1 bodies fits),
      )

  call_idle : (call : Call) → is_active o ≡ false → StepDone f r o (looked (written o (steps.Client call))) × (step_block o (steps.Client call) ≡ [])
  call_idle call waits =
      let behind : o ≡ looked (written o (steps.Client call)) = sym t.standing.settled ∙ sym (ap (λ (b : Bool). looked (cond b (record o { disk = appended o.disk (step_block o (steps.Client call)); front = front_behind o call }) o)) waits) in (
        subst (λ (x : OpenReplica). StepDone f r o x) behind (nothing_done f r o t),
        ap (λ (bodies : List Record). placed (last_lsn o).0 (epoch_of o.disk) bodies) (idle_logs o call waits),
      )

  -- ---- a Barrier

  pub barrier_step : is_active o ≡ true → StepDone f r o (looked (written o steps.Barrier)) × StepCut f r (cut_off o steps.Barrier)
  barrier_step active =
      let l = leader o.leading refl active in
      let is = t.standing.leads l.0 l.1 in
      let bodies = records.Barrier (record { 0 = o.stable }) ∷ [] in
      let fits : All (IsFit f (code l.0.epoch) o.stable) bodies = all_more (IsFit f (code l.0.epoch) o.stable) _ [] (barrier_fits f (code l.0.epoch) o.stable (is.chosen l.2)) (all_none (IsFit f (code l.0.epoch) o.stable)) in
      let disk : record o.disk { log = o.disk.log ++ in_epoch l.0.epoch bodies } ≡ appended o.disk (step_block o steps.Barrier) =
      ap (λ (e : Epoch). let w : Whole = record o.disk { log = o.disk.log ++ in_epoch e bodies } in w) (sym is.last) ∙ sym (placed_there bodies) in
      let behind : record { id = o.id; disk = record o.disk { log = o.disk.log ++ in_epoch l.0.epoch bodies }; stable = o.stable; leading = o.leading; front = o.front } ≡ written o steps.Barrier =
      ap (λ (w : Whole). let x : OpenReplica = record { id = o.id; disk = w; stable = o.stable; leading = o.leading; front = o.front } in x) disk in (
        subst (λ (x : OpenReplica). StepDone f r o (looked x)) behind (primary_done f r o t l.0 l.1 bodies fits o.front),
        subst (λ (w : Whole). StepCut f r (o.disk ∷ w ∷ [])) disk (primary_cut f r o t l.0 l.1 bodies fits),
      )

  -- ---- an activation

  dropped_leading : (e : Epoch) (l : Leading) (b : Bool) → is_epoch l.epoch e ≡ b → f.activated (code e) ≡ true → IsLeading f r o l → IsLeading f r (record o { leading = Some (cond b (record l { previous = None }) l) }) (cond b (record l { previous = None }) l)
  dropped_leading e l true same on is = record {
    coded = is.coded;
    appointed = is.appointed;
    last = is.last;
    all = is.all;
    current = is.current;
    previous = subst (λ (x : Epoch). f.activated (code x) ≡ true) (sym (is_epoch-true l.epoch e same)) on;
    reached = is.reached;
    own = is.own;
    chosen = is.chosen;
    waits = is.waits;
  }
  dropped_leading e l false other on is = record {
    coded = is.coded;
    appointed = is.appointed;
    last = is.last;
    all = is.all;
    current = is.current;
    previous = is.previous;
    reached = is.reached;
    own = is.own;
    chosen = is.chosen;
    waits = is.waits;
  }

  dropped_epoch : (e : Epoch) (l : Leading) (b : Bool) → (cond b (record l { previous = None }) l).epoch ≡ l.epoch
  dropped_epoch e l true = refl
  dropped_epoch e l false = refl

  activation_at : (e : Epoch) (x : Option Leading) → o.leading ≡ x → f.activated (code e) ≡ true → StepDone f r o (looked (record o { leading = option_map (dropping e) x }))
  activation_at e None lead on = subst (λ (y : Option Leading). StepDone f r o (looked (record o { leading = y }))) lead (subst (λ (x : OpenReplica). StepDone f r o x) (sym t.standing.settled) (nothing_done f r o t))
  activation_at e (Some l) lead on =
      let x : OpenReplica = record o { leading = Some (dropping e l) } in
      let same : (dropping e l).epoch ≡ l.epoch = dropped_epoch e l (is_epoch l.epoch e) in
      looked_done f r o t x
      (record {
        reached = t.reached;
        values = t.values;
        role = t.role ∙ role_is o l lead ∙ ap code (sym same);
        number = t.standing.number;
        start = t.kept.start;
        told = t.standing.told;
        leads = λ y is. subst (λ (z : Leading). IsLeading f r x z) (some_same (dropping e l) y is) (dropped_leading e l (is_epoch l.epoch e) refl on (t.standing.leads l lead));
      })
      t.kept (λ y is. (l, lead, ap (λ (z : Leading). z.epoch) (sym (some_same (dropping e l) y is)) ∙ same))

  pub activation_step : (e : Epoch) → f.activated (code e) ≡ true → StepDone f r o (looked (written o (steps.Activate e)))
  activation_step e on = activation_at e o.leading refl on

  -- ---- an inspection

  pub inspection_step : StepDone f r o (looked (written o steps.Inspect))
  inspection_step = subst (λ (x : OpenReplica). StepDone f r o x) (sym t.standing.settled) (nothing_done f r o t)

  -- ---- a call, whether it logs or not

  pub call_step : (call : Call) → StepDone f r o (looked (written o (steps.Client call))) × ((step_block o (steps.Client call) ≡ [] → ⊥) → StepCut f r (cut_off o (steps.Client call)))
  call_step call = elim (cases_Bool (is_active o)) [
    | inl active ↦ let s = call_active call active in (s.0, λ logs. s.1)
    | inr waits ↦ let s = call_idle call waits in (s.0, λ logs. absurd (logs s.1))
  ]
