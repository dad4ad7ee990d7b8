-- What follows for the logs of a sound fleet.
use Rattle.std.proofs.Common.{◌≡◌, ◌∙◌, ℕ, zero, suc, ◌<◌, ◌≤◌, true, Bool, ◌⊎◌, List, [], ◌∷◌, length, map, take, drop, get_or, refl, sym, ap, ap₂, subst, inl, inr, arith}
use Rattle.std.specs.Prelude.{All, Contains}
use Rattle.std.proofs.Math.ListN.{get_or-map}
use Rattle.std.proofs.lemmas.Bool.{cases_lt, cases_order}
use Rattle.std.proofs.lemmas.List.{length-map, take-map}
use Rattle.std.proofs.lemmas.List.Elements.{Contains-append_cases}
use mathlib.Core.List.{IsPrefix}
use Rattle.rc_base.specs.declared.ids.Epoch.{Epoch}
use Rattle.rc_base.specs.Ids.{no_epoch}
use Rattle.log_records.specs.declared.record.Record.{Record}
use Rattle.log_records.specs.declared.record.Record.TheVariants as records
use Rattle.txn_table.specs.Log.{Items, last_from}
use Rattle.txn_table.specs.Whole.{Whole, stable_of}
use Rattle.order_machine.specs.Machine.{Machine}
use Rattle.fleet_laws.specs.Counting.{IsWriteQuorum}
use Rattle.fleet_laws.specs.Logs.{Entry, Agree, Record as Content, epoch_at, no_entry}
use Rattle.fleet_laws.specs.Logs.Record.{EpochStart, Barrier, Other}
use Rattle.fleet_laws.specs.Fleets.{Fleet, Value, IsValueOf}
use Rattle.fleet_laws.specs.Invariant.{Invariant}
use Rattle.fleet_laws.proofs.Agreement.{agree_none, agree_self, agree_sym, agree_trans, agree_less}
use Rattle.fleet_laws.proofs.After.{safe_after, history_after}
use Rattle.fleet_laws.specs.Choice.{IsSafe}
use Rattle.fleet_laws.specs.Growth.{ComesAfter}
use Rattle.fleet_laws.specs.Moves.{Run}
use Rattle.fleet_laws.proofs.Derived.{same_prefix_lem, chosen_begins_later, held_later}
use Rattle.fleet_laws.proofs.Prefixes.{take_begins, front_begins}
use Rattle.fleet_laws.proofs.Puts.{first_member, only_member}
use Rattle.fleet_laws.proofs.Runs.{reached_invariant, run_after}
use Rattle.fleet_run.specs.Scenes.{FleetReplica, replica_at, held_by}
use Rattle.fleet_run.specs.Scenes.FleetReplica.{Open, Closed}
use Rattle.fleet_run.specs.Kernel.{code, content_of, entry_of, value_of, values_of}
use Rattle.fleet_run.specs.Sound.{Sound, IsItem, NamesEpoch}
use Rattle.fleet_run.specs.Laws.{LogsHaveSamePrefix, StableLogsAreOne, WhatIsShownIsHeld, stable_logs}
use Rattle.fleet_run.proofs.Codes.{same_code, place_code}
use Rattle.fleet_run.proofs.Writing.{all_none, all_more, all_first, all_rest}

-- ---- logs are one where the laws see one

-- the record that the laws see so, in its epoch
record_of : Epoch → Content Record → Record
record_of e EpochStart = records.EpochStart e
record_of e (Barrier k) = records.Barrier (record { 0 = k })
record_of e (Other body) = body

record_back : (e : Epoch) (body : Record) → NamesEpoch e body → record_of e (content_of body) ≡ body
unfolding record_of
record_back e (records.Begin txn) names = refl
record_back e (records.Operation txn prev op) names = refl
record_back e (records.End txn prev committed) names = refl
record_back e (records.Barrier stable) names = refl
record_back e (records.EpochStart named) names = ap records.EpochStart (sym names)

item_same : (x y : Epoch × Record) → IsItem x → IsItem y → entry_of x ≡ entry_of y → x ≡ y
item_same x y a b is =
    let epoch : x.0 ≡ y.0 = same_code x.0 y.0 a.coded b.coded (ap (λ (z : Entry Record). z.epoch) is) in
    let body : x.1 ≡ y.1 = sym (record_back x.0 x.1 a.names) ∙ ap₂ (λ (e : Epoch) (c : Content Record). record_of e c) epoch (ap (λ (z : Entry Record). z.content) is) ∙ record_back y.0 y.1 b.names in
    ap₂ (λ (e : Epoch) (r : Record). let z : Epoch × Record = (e, r) in z) epoch body

items_same : (xs ys : Items) → All IsItem xs → All IsItem ys → map entry_of xs ≡ map entry_of ys → xs ≡ ys
items_same [] [] a b is = refl
items_same [] (y ∷ ys) a b is = absurd (omega (arith, ap length is))
items_same (x ∷ xs) [] a b is = absurd (omega (arith, ap length is))
items_same (x ∷ xs) (y ∷ ys) a b is =
    ap₂ (λ (z : Epoch × Record) (zs : Items). z ∷ zs) (item_same x y (all_first IsItem x xs a) (all_first IsItem y ys b) (ap (λ (l : List (Entry Record)). get_or l 0 no_entry) is))
    (items_same xs ys (all_rest IsItem x xs a) (all_rest IsItem y ys b) (ap (λ (l : List (Entry Record)). drop 1 l) is))

items_to : (n : ℕ) (xs : Items) → All IsItem xs → All IsItem (take n xs)
items_to zero xs a = all_none IsItem
items_to (suc n) [] a = all_none IsItem
items_to (suc n) (x ∷ xs) a = all_more IsItem x (take n xs) (all_first IsItem x xs a) (items_to n xs (all_rest IsItem x xs a))

-- logs that agree to a place are one up to it
pub logs_to : (n : ℕ) (xs ys : Items) → All IsItem xs → All IsItem ys → Agree n (map entry_of xs) (map entry_of ys) → take n xs ≡ take n ys
logs_to n xs ys a b agree = items_same (take n xs) (take n ys) (items_to n xs a) (items_to n ys b) (sym (take-map entry_of n xs) ∙ agree.same ∙ take-map entry_of n ys)

-- ---- what a replica has

map_has : {A B : Type 0} (h : A → B) (xs : List A) (x : A) → Contains xs x → Contains (map h xs) (h x)
map_has h xs x c = (c.0, subst (λ (n : ℕ). c.0 < n) (sym (length-map xs h)) c.1, get_or-map h xs c.0 x ∙ ap h c.2)

has_mapped : {A B : Type 0} (h : A → B) (xs : List A) (y : B) → Contains (map h xs) y → (x : A) × Contains xs x × (y ≡ h x)
has_mapped h [] y c = absurd (omega (arith, c.1))
has_mapped h (x ∷ xs) y c = elim (Contains-append_cases (h x ∷ []) (map h xs) y c) [
  | inl is ↦ (x, first_member x xs, only_member (h x) y is)
  | inr later ↦ let z = has_mapped h xs y later in (z.0, (suc z.1.0, omega (arith, z.1.1), z.1.2), z.2)
]

held_value : (x : FleetReplica) (w : Whole) → Contains (held_by x) w → (s : ℕ) × Contains (values_of x) (value_of s w)
held_value (Open o) w c = (o.stable, subst (λ (u : Whole). Contains (values_of (Open o)) (value_of o.stable u)) (sym (only_member o.disk w c)) (first_member (value_of o.stable o.disk) []))
held_value (Closed ws) w c = (stable_of w, map_has (λ (u : Whole). value_of (stable_of u) u) ws w c)

-- what is stable somewhere is a beginning of a log that is held there
record IsStableOf (x : FleetReplica) (a : Items) : Type 0 where
  whole : Whole
  stable : ℕ
  held : Contains (held_by x) whole
  value : Contains (values_of x) (value_of stable whole)
  is : a ≡ take stable whole.log

stable_of_replica : (x : FleetReplica) (a : Items) → Contains (stable_logs x) a → IsStableOf x a
stable_of_replica (Open o) a c = record {
  whole = o.disk;
  stable = o.stable;
  held = first_member o.disk [];
  value = first_member (value_of o.stable o.disk) [];
  is = only_member (take o.stable o.disk.log) a c;
}
stable_of_replica (Closed ws) a c =
    let w = has_mapped (λ (u : Whole). take (stable_of u) u.log) ws a c in
    record { whole = w.0; stable = stable_of w.0; held = w.1; value = map_has (λ (u : Whole). value_of (stable_of u) u) ws w.0 w.1; is = w.2 }

-- ---- the laws

module _ (m : Machine) (replicas : List FleetReplica) (f : Fleet Record) (s : Sound m replicas f) where
  known : Invariant f
  known = reached_invariant f s.reached

  in_fleet : (r : ℕ) (v : Value Record) → Contains (values_of (replica_at replicas r)) v → IsValueOf f r v
  in_fleet r v c = subst (λ (vs : List (Value Record)). Contains vs v) (sym (s.matches.values r)) c

  prefix : (r q : ℕ) (w u : Whole) → Contains (held_by (replica_at replicas r)) w → Contains (held_by (replica_at replicas q)) u → (n : ℕ) → n ≤ length w.log → n ≤ length u.log → last_from no_epoch (take n w.log) ≡ last_from no_epoch (take n u.log)
      → take n w.log ≡ take n u.log
  prefix r q w u a b n le_w le_u same =
      let v = held_value (replica_at replicas r) w a in
      let x = held_value (replica_at replicas q) u b in
      let epochs : epoch_at (map entry_of w.log) n ≡ epoch_at (map entry_of u.log) n = sym (place_code w.log n le_w) ∙ ap code same ∙ place_code u.log n le_u in
      logs_to n w.log u.log (s.kept r w a).items (s.kept q u b).items
      (same_prefix_lem f known r q (value_of v.0 w) (value_of x.0 u) (in_fleet r (value_of v.0 w) v.1) (in_fleet q (value_of x.0 u) x.1) n (omega (arith, le_w, length-map w.log entry_of)) (omega (arith, le_u, length-map u.log entry_of)) epochs)

  -- what is stable in a value is safe in it, and within it
  safe_in : (r : ℕ) (v : Value Record) → IsValueOf f r v → IsSafe f.histories f.configurations f.acknowledged v.fence v.log v.stable × (v.stable ≤ length v.log)
  safe_in r v there =
      let safe = (known.values r v there).safe in
      (safe, elim safe [ inl none ↦ omega (arith, none) | inr x ↦ x.2.agree.right ])

-- of two beginnings of logs that are safe, the one that isn't longer begins the other
safe_agree : (g : Fleet Record) → Invariant g → (low high s t : ℕ) (a b : List (Entry Record)) → IsSafe g.histories g.configurations g.acknowledged low a s → IsSafe g.histories g.configurations g.acknowledged high b t → s ≤ t → Agree s a b
safe_agree g i low high s t a b (inl none) y le = subst (λ (n : ℕ). Agree n a b) (sym none) (agree_none a b)
safe_agree g i low high s t a b (inr x) (inl none) le = let zero_too : s ≡ 0 = omega (arith, le, none) in subst (λ (n : ℕ). Agree n a b) (sym zero_too) (agree_none a b)
safe_agree g i low high s t a b (inr x) (inr y) le = elim (cases_order x.0 y.0) [
  | inl same ↦ agree_trans (agree_sym x.2.agree) (agree_less s t (g.history x.0) b le (subst (λ (e : ℕ). Agree t (g.history e) b) (sym same) y.2.agree))
  | inr (inl lt) ↦
      let k = chosen_begins_later g i x.0 y.0 x.1 x.2.appointed y.2.appointed lt x.2.chosen in
      agree_trans (agree_sym x.2.agree) (agree_trans (agree_less s x.1 (g.history x.0) (g.history y.0) x.2.past k.1) (agree_less s t (g.history y.0) b le y.2.agree))
  | inr (inr gt) ↦
      let k = chosen_begins_later g i y.0 x.0 y.1 y.2.appointed x.2.appointed gt y.2.chosen in
      agree_trans (agree_sym x.2.agree) (agree_trans (agree_sym (agree_less s y.1 (g.history y.0) (g.history x.0) (omega (arith, le, y.2.past)) k.1)) (agree_less s t (g.history y.0) b le y.2.agree))
]

module _ (m n : Machine) (replicas now : List FleetReplica) (f g : Fleet Record) (s : Sound m replicas f) (run : Run f g) (u : Sound n now g) where
  later : ComesAfter f g
  later = run_after f g (known m replicas f s) run

  -- what was stable is safe later too
  safe_later : (r : ℕ) (v : Value Record) → IsValueOf f r v → IsSafe g.histories g.configurations g.acknowledged v.fence v.log v.stable
  safe_later r v there =
      let safe = safe_in m replicas f s r v there in
      safe_after f g later v.fence v.fence v.log v.log v.stable (omega arith) (agree_self v.stable v.log safe.1) safe.0

  module _ (r q : ℕ) (a b : Items) (x : IsStableOf (replica_at replicas r) a) (y : IsStableOf (replica_at now q) b) where
    abbrev old : Value Record
    old = value_of x.stable x.whole

    abbrev new : Value Record
    new = value_of y.stable y.whole

    old_safe : IsSafe g.histories g.configurations g.acknowledged (code x.whole.fence) (map entry_of x.whole.log) x.stable
    old_safe = safe_later r (value_of x.stable x.whole) (in_fleet m replicas f s r (value_of x.stable x.whole) x.value)

    new_safe : IsSafe g.histories g.configurations g.acknowledged (code y.whole.fence) (map entry_of y.whole.log) y.stable
    new_safe = (safe_in n now g u q (value_of y.stable y.whole) (in_fleet n now g u q (value_of y.stable y.whole) y.value)).0

    begins_new : x.stable ≤ y.stable → IsPrefix a b
    begins_new le =
        let agree = safe_agree g (known n now g u) (code x.whole.fence) (code y.whole.fence) x.stable y.stable (map entry_of x.whole.log) (map entry_of y.whole.log) old_safe new_safe le in
        let same : take x.stable x.whole.log ≡ take x.stable y.whole.log = logs_to x.stable x.whole.log y.whole.log (s.kept r x.whole x.held).items (u.kept q y.whole y.held).items agree in
        subst (λ (z : Items). IsPrefix z b) (sym (x.is ∙ same)) (subst (λ (z : Items). IsPrefix (take x.stable y.whole.log) z) (sym y.is) (take_begins x.stable y.stable y.whole.log le))

    begins_old : y.stable ≤ x.stable → IsPrefix b a
    begins_old le =
        let agree = safe_agree g (known n now g u) (code y.whole.fence) (code x.whole.fence) y.stable x.stable (map entry_of y.whole.log) (map entry_of x.whole.log) new_safe old_safe le in
        let same : take y.stable y.whole.log ≡ take y.stable x.whole.log = logs_to y.stable y.whole.log x.whole.log (u.kept q y.whole y.held).items (s.kept r x.whole x.held).items agree in
        subst (λ (z : Items). IsPrefix z a) (sym (y.is ∙ same)) (subst (λ (z : Items). IsPrefix (take y.stable x.whole.log) z) (sym x.is) (take_begins y.stable x.stable x.whole.log le))

  one : (r q : ℕ) (a b : Items) → Contains (stable_logs (replica_at replicas r)) a → Contains (stable_logs (replica_at now q)) b → IsPrefix a b ⊎ IsPrefix b a
  one r q a b c d =
      let x = stable_of_replica (replica_at replicas r) a c in
      let y = stable_of_replica (replica_at now q) b d in
      elim (cases_lt y.stable x.stable) [
        | inl lt ↦ inr (begins_old r q a b x y (omega (arith, lt)))
        | inr le ↦ inl (begins_new r q a b x y le)
      ]

  held : (r : ℕ) (shown : Items) → Contains (stable_logs (replica_at replicas r)) shown
      → (shown ≡ []) ⊎ ((p : ℕ → Bool) × IsWriteQuorum p m.config × ((q : ℕ) → p q ≡ true → (w : Whole) → Contains (held_by (replica_at now q)) w → IsPrefix shown w.log))
  held r shown c =
      let x = stable_of_replica (replica_at replicas r) shown c in
      let v = value_of x.stable x.whole in
      elim (safe_in m replicas f s r v (in_fleet m replicas f s r v x.value)).0 [
        | inl none ↦ inl (x.is ∙ ap (λ (k : ℕ). take k x.whole.log) none)
        | inr e ↦
            let h = held_later f (known m replicas f s) g (known n now g u) later e.0 e.1 e.2.appointed e.2.chosen in
            let begins : Agree x.stable (map entry_of x.whole.log) (g.history e.0) = history_after f g later e.0 x.stable (map entry_of x.whole.log) e.2.appointed (agree_sym e.2.agree) in
            inr (
              h.0,
              subst (λ (c : List ℕ). IsWriteQuorum h.0 c) s.matches.rule.active h.1,
              λ q is w there.
                  let k = held_value (replica_at now q) w there in
                  let agree : Agree x.stable (map entry_of x.whole.log) (map entry_of w.log) = agree_trans begins (agree_less x.stable e.1 (g.history e.0) (map entry_of w.log) e.2.past (h.2 q is (value_of k.0 w) (in_fleet n now g u q (value_of k.0 w) k.1))) in
                  let same : take x.stable x.whole.log ≡ take x.stable w.log = logs_to x.stable x.whole.log w.log (s.kept r x.whole x.held).items (u.kept q w there).items agree in
                  subst (λ (z : Items). IsPrefix z w.log) (sym (x.is ∙ same)) (front_begins x.stable w.log),
            )
      ]

pub logs_have_same_prefix : LogsHaveSamePrefix
logs_have_same_prefix m replicas f s r q w u a b n le_w le_u same = prefix m replicas f s r q w u a b n le_w le_u same

pub stable_logs_are_one : StableLogsAreOne
stable_logs_are_one m n replicas now f g s run u r q a b c d = one m n replicas now f g s run u r q a b c d

pub what_is_shown_is_held : WhatIsShownIsHeld
what_is_shown_is_held m n replicas now f g s run u r shown c = held m n replicas now f g s run u r shown c
