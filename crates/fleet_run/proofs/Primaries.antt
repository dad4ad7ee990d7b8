-- A primary writes: what it logs lengthens the history of its epoch, done or cut off.
use Rattle.std.proofs.Common.{◌≡◌, ◌∙◌, ℕ, ◌≤◌, max, List, [], ◌∷◌, ◌++◌, length, map, take, refl, sym, ap, subst, inl, inr, arith}
use Rattle.std.specs.Prelude.{All, Contains}
use Rattle.std.proofs.lemmas.List.{length-map, map-append, take_all}
use Rattle.rc_base.specs.declared.ids.Epoch.{Epoch}
use Rattle.log_records.specs.declared.record.Record.{Record}
use Rattle.txn_table.specs.Whole.{Whole, stable_of}
use Rattle.replica_model.specs.OpenReplica.{OpenReplica, Leading}
use Rattle.fleet_laws.specs.Logs.{Entry, Agree, epoch_at}
use Rattle.fleet_laws.specs.Fleets.{Fleet, Value, put, IsValueOf, IsAppointed}
use Rattle.fleet_laws.specs.Moves.{Run, IsReached, Turn, changed as changed_fleet, acknowledged as acknowledged_fleet, grown}
use Rattle.fleet_laws.specs.Moves.Turn.{stays, forgets, logs}
use Rattle.fleet_laws.specs.Moves.Move.{change, acknowledge, grow}
use Rattle.fleet_laws.specs.Moves.Run.{rests, moves}
use Rattle.fleet_laws.proofs.Agreement.{agree_append, agree_epoch}
use Rattle.fleet_laws.proofs.Puts.{put_same, put_other, put_both, first_member, all_one}
use Rattle.fleet_laws.proofs.Runs.{reached_invariant, run_after}
use Rattle.fleet_run.specs.Scenes.{FleetReplica}
use Rattle.fleet_run.specs.Scenes.FleetReplica.{Open, Closed}
use Rattle.fleet_run.specs.Kernel.{code, entry_of, value_of, values_of, role_of}
use Rattle.fleet_run.specs.Sound.{IsLeading}
use Rattle.fleet_run.proofs.Codes.{in_epoch}
use Rattle.fleet_run.proofs.Moved.{Moved, Alike, SameRule, alike_then, run_then, put_twice}
use Rattle.fleet_run.proofs.Writing.{IsFit, all_more, all_none, fit_own, fit_unmarked, fit_barriers}

-- ---- moves that change no value

-- Moves before the replica changes: no value is another, no other role, and other epochs than that of its role are as they were.
pub record Prepared (f g : Fleet Record) (r : ℕ) : Type 0 where
  pub run : Run f g
  pub values : (q : ℕ) → g.values q ≡ f.values q
  pub role : (q : ℕ) → (q ≡ r → ⊥) → g.role q ≡ f.role q
  pub no_copy : ((q : ℕ) → f.copying q ≡ 0) → (q : ℕ) → g.copying q ≡ 0
  pub elsewhere : (d : ℕ) → IsAppointed f d → (f.role r ≡ d → ⊥) → Alike f g d
  pub other_role : (d : ℕ) → IsAppointed f d → (f.role r ≡ d → ⊥) → g.role r ≡ d → ⊥

pub moved_by : (f g h : Fleet Record) (r : ℕ) (now : FleetReplica) → IsReached f → Prepared f g r → Moved g h r now → Moved f h r now
moved_by f g h r now reached a b = record {
  run = run_then a.run b.run;
  values = λ q. b.values q ∙ put_both (λ (vs : List (Value Record)). vs ≡ put r (values_of now) f.values q) r (values_of now) g.values q
      (λ e. sym (put_same r (values_of now) f.values q e)) (λ ne. a.values q ∙ sym (put_other r (values_of now) f.values q ne));
  role = λ q. b.role q ∙ put_both (λ (n : ℕ). n ≡ put r (role_of now) f.role q) r (role_of now) g.role q
      (λ e. sym (put_same r (role_of now) f.role q e)) (λ ne. a.role q ne ∙ sym (put_other r (role_of now) f.role q ne));
  no_copy = λ none q. b.no_copy (a.no_copy none) q;
  elsewhere = λ d is ne. alike_then f g h d (a.elsewhere d is ne) (b.elsewhere d ((run_after f g (reached_invariant f reached) a.run).appointed d is) (a.other_role d is ne));
}

-- ---- a write that is cut off

all_two : {A : Type 0} (P : A → Type 0) (x y : A) → P x → P y → All P (x ∷ y ∷ [])
all_two P x y a b = all_more P x (y ∷ []) a (all_more P y [] b (all_none P))

-- The disk holds what it held or what it holds behind the write: the one and the other value, and then both forget what isn't told.
pub cut : (g : Fleet Record) (r stable : ℕ) (w u : Whole) → g.values r ≡ value_of stable w ∷ [] → Turn g r (value_of stable w) (value_of stable u) → stable_of w ≤ stable → stable_of u ≤ stable
    → (h : Fleet Record) × Moved g h r (Closed (w ∷ u ∷ [])) × SameRule g h
cut g r stable w u values turn a b =
    let v = value_of stable w in
    let x = value_of stable u in
    let now = Closed (w ∷ u ∷ []) in
    let here : IsValueOf g r v = subst (λ (vs : List (Value Record)). Contains vs v) (sym values) (first_member v []) in
    let both : List (Value Record) = v ∷ x ∷ [] in
    let h1 : Fleet Record = changed_fleet g r both 0 0 in
    let first : All (λ (y : Value Record). (z : Value Record) × IsValueOf g r z × Turn g r z y) both = all_two (λ (y : Value Record). (z : Value Record) × IsValueOf g r z × Turn g r z y) v x (v, here, stays) (v, here, turn) in
    let at : h1.values r ≡ both = put_same r both g.values r refl in
    let old : IsValueOf h1 r v = subst (λ (vs : List (Value Record)). Contains vs v) (sym at) (first_member v (x ∷ [])) in
    let new : IsValueOf h1 r x = subst (λ (vs : List (Value Record)). Contains vs x) (sym at) (1, omega arith, refl) in
    let low_w : w.base ≤ stable_of w = omega arith in
    let low_u : u.base ≤ stable_of u = omega arith in
    let second : All (λ (y : Value Record). (z : Value Record) × IsValueOf h1 r z × Turn h1 r z y) (values_of now) =
    all_two (λ (y : Value Record). (z : Value Record) × IsValueOf h1 r z × Turn h1 r z y) (value_of (stable_of w) w) (value_of (stable_of u) u) (v, old, forgets (stable_of w) low_w a) (x, new, forgets (stable_of u) low_u b) in
    let h2 : Fleet Record = changed_fleet h1 r (values_of now) 0 0 in (
      h2,
      record {
        run = moves (moves rests (change r both 0 0 (record { some_value = omega arith; turns = first; keeps_role = inl refl; keeps_copy = inl refl }))) (change r (values_of now) 0 0 (record { some_value = omega arith; turns = second; keeps_role = inl refl; keeps_copy = inl refl }));
        values = λ q. put_twice r both (values_of now) g.values h1.values q refl;
        role = λ q. put_twice r 0 0 g.role h1.role q refl;
        no_copy = λ none q. put_both (λ (n : ℕ). n ≡ 0) r 0 h1.copying q (λ e. refl) (λ ne. put_both (λ (n : ℕ). n ≡ 0) r 0 g.copying q (λ e. refl) (λ x. none q));
        elsewhere = λ d is ne. record { history = refl; current = refl; previous = refl; activated = λ y. y };
      },
      record { appointed = refl; current = refl; previous = refl; latest = refl; active = refl; answered = refl; told_epoch = refl; told_length = refl },
    )

-- ---- a write that is done

-- what holds once the primary of e has written and acknowledged its own log
pub record Wrote (g : Fleet Record) (r e : ℕ) (now : OpenReplica) : Type 0 where
  pub fleet : Fleet Record
  pub moved : Moved g fleet r (Open now)
  pub rule : SameRule g fleet
  pub all : fleet.history e ≡ map entry_of now.disk.log
  pub own : length now.disk.log ≤ fleet.acknowledged r e
  pub start : (d : ℕ) → fleet.start d ≡ g.start d
  pub activated : (d : ℕ) → fleet.activated d ≡ g.activated d

module _ (g : Fleet Record) (r e : ℕ) (v : Value Record) (now : OpenReplica) (appointed : IsAppointed g e) (values : g.values r ≡ v ∷ []) (turn : Turn g r v (value_of now.stable now.disk)) (role : g.role r ≡ e) (new_role : role_of (Open now) ≡ e) (all : g.history e ≡ map entry_of now.disk.log) where
  abbrev next : Value Record
  next = value_of now.stable now.disk

  abbrev h1 : Fleet Record
  h1 = changed_fleet g r (values_of (Open now)) (role_of (Open now)) 0

  abbrev h2 : Fleet Record
  h2 = acknowledged_fleet h1 r e (length now.disk.log)

  size : length now.disk.log ≤ length (map entry_of now.disk.log)
  size = omega (arith, length-map now.disk.log entry_of)

  wrote_number : max (g.acknowledged r e) (length now.disk.log) ≡ h2.acknowledged r e
  wrote_number = sym (ap (λ (x : ℕ → ℕ). x e) (put_same r (put e (max (g.acknowledged r e) (length now.disk.log)) (g.acknowledged r)) g.acknowledged r refl) ∙ put_same e (max (g.acknowledged r e) (length now.disk.log)) (g.acknowledged r) e refl)

  -- its value changes, and then it acknowledges all of its log
  pub wrote : Wrote g r e now
  wrote =
      let here : IsValueOf g r v = subst (λ (vs : List (Value Record)). Contains vs v) (sym values) (first_member v []) in
      let turns : All (λ (y : Value Record). (z : Value Record) × IsValueOf g r z × Turn g r z y) (next ∷ []) = all_one (λ (y : Value Record). (z : Value Record) × IsValueOf g r z × Turn g r z y) next (v, here, turn) in
      let one : Run g h1 = moves rests (change r (values_of (Open now)) (role_of (Open now)) 0 (record { some_value = omega arith; turns = turns; keeps_role = inr (new_role ∙ sym role); keeps_copy = inl refl })) in
      let is_open : h1.values r ≡ next ∷ [] = put_same r (values_of (Open now)) g.values r refl in
      let leads : h1.role r ≡ e = put_same r (role_of (Open now)) g.role r refl ∙ new_role in
      let two : Run g h2 = moves one (acknowledge r e (length now.disk.log) next (record {
        appointed = appointed;
        is_open = is_open;
        may = inr leads;
        has = size;
        within = omega (arith, size, ap length all);
        same = ap (λ (log : List (Entry Record)). epoch_at log (length now.disk.log)) (sym all);
      })) in
      record {
        fleet = h2;
        moved = record {
          run = two;
          values = λ q. refl;
          role = λ q. refl;
          no_copy = λ none q. put_both (λ (n : ℕ). n ≡ 0) r 0 g.copying q (λ x. refl) (λ ne. none q);
          elsewhere = λ d is ne. record { history = refl; current = refl; previous = refl; activated = λ y. y };
        };
        rule = record { appointed = refl; current = refl; previous = refl; latest = refl; active = refl; answered = refl; told_epoch = refl; told_length = refl };
        all = all;
        own = omega (arith, wrote_number);
        start = λ d. refl;
        activated = λ d. refl;
      }

-- ---- what a primary logs

-- the log goes on along the history of the epoch, with the fence at least at it
pub along : (g : Fleet Record) (r e stable : ℕ) (w u : Whole) → IsAppointed g e → g.role r ≡ e → g.history e ≡ map entry_of u.log → u.head ≡ w.head → u.base ≡ w.base → code u.fence ≡ max (code w.fence) e
    → Agree (length (map entry_of w.log)) (map entry_of w.log) (map entry_of u.log) → Turn g r (value_of stable w) (value_of stable u)
along g r e stable w u appointed role all head base fence agree =
    let v = value_of stable w in
    let m = length (map entry_of u.log) in
    let turn : Turn g r v (record { log = take m (g.history e); head = w.head; base = w.base; fence = max (code w.fence) e; stable = stable }) = logs e m appointed role agree.right (omega (arith, ap length all)) (agree_epoch (length (map entry_of w.log)) (length (map entry_of w.log)) (map entry_of w.log) (map entry_of u.log) (omega arith) agree ∙ ap (λ (log : List (Entry Record)). epoch_at log (length (map entry_of w.log))) (sym all)) in
    let log_is : take m (g.history e) ≡ map entry_of u.log = ap (take m) all ∙ take_all m (map entry_of u.log) (omega arith) in
    let one : Turn g r v (record { log = map entry_of u.log; head = w.head; base = w.base; fence = max (code w.fence) e; stable = stable }) = subst (λ (log : List (Entry Record)). Turn g r v (record { log = log; head = w.head; base = w.base; fence = max (code w.fence) e; stable = stable })) log_is turn in
    let two : Turn g r v (record { log = map entry_of u.log; head = w.head; base = w.base; fence = code u.fence; stable = stable }) = subst (λ (k : ℕ). Turn g r v (record { log = map entry_of u.log; head = w.head; base = w.base; fence = k; stable = stable })) (sym fence) one in
    let three : Turn g r v (record { log = map entry_of u.log; head = u.head; base = w.base; fence = code u.fence; stable = stable }) = subst (λ (k : ℕ). Turn g r v (record { log = map entry_of u.log; head = k; base = w.base; fence = code u.fence; stable = stable })) (sym head) two in
    subst (λ (k : ℕ). Turn g r v (record { log = map entry_of u.log; head = u.head; base = k; fence = code u.fence; stable = stable })) (sym base) three

pub log_on : (w : Whole) (items : List (Epoch × Record)) → Agree (length (map entry_of w.log)) (map entry_of w.log) (map entry_of (w.log ++ items))
log_on w items = subst (λ (log : List (Entry Record)). Agree (length (map entry_of w.log)) (map entry_of w.log) log) (sym (map-append entry_of w.log items)) (agree_append (length (map entry_of w.log)) (map entry_of w.log) (map entry_of items) (omega arith))

module _ (f : Fleet Record) (r : ℕ) (o : OpenReplica) (l : Leading) (reached : IsReached f) (role : f.role r ≡ code l.epoch) (is : IsLeading f r o l) (bodies : List Record) (fits : All (IsFit f (code l.epoch) o.stable) bodies) where
  abbrev entries : List (Entry Record)
  entries = map entry_of (in_epoch l.epoch bodies)

  abbrev longer : Fleet Record
  longer = grown f (code l.epoch) (map entry_of (in_epoch l.epoch bodies))

  -- the history grows by what the primary is to write
  pub grow_prepared : Prepared f (grown f (code l.epoch) (map entry_of (in_epoch l.epoch bodies))) r
  grow_prepared = record {
    run = moves rests (grow r (code l.epoch) (map entry_of (in_epoch l.epoch bodies)) (record {
      appointed = is.appointed;
      role = role;
      own = fit_own l.epoch bodies;
      unmarked = fit_unmarked f (code l.epoch) o.stable l.epoch bodies fits;
      barriers = fit_barriers f (code l.epoch) o.stable l.epoch bodies fits;
    }));
    values = λ q. refl;
    role = λ q ne. refl;
    no_copy = λ none. none;
    elsewhere = λ d there ne. record {
      history = put_other (code l.epoch) (f.history (code l.epoch) ++ map entry_of (in_epoch l.epoch bodies)) f.history d (λ e. ne (role ∙ sym e));
      current = refl;
      previous = refl;
      activated = λ x. x;
    };
    other_role = λ d there ne. ne;
  }

  pub grow_all : (grown f (code l.epoch) (map entry_of (in_epoch l.epoch bodies))).history (code l.epoch) ≡ map entry_of (o.disk.log ++ in_epoch l.epoch bodies)
  grow_all = put_same (code l.epoch) (f.history (code l.epoch) ++ map entry_of (in_epoch l.epoch bodies)) f.history (code l.epoch) refl ∙ ap (λ (log : List (Entry Record)). log ++ map entry_of (in_epoch l.epoch bodies)) is.all ∙ sym (map-append entry_of o.disk.log (in_epoch l.epoch bodies))
