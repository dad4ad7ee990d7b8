-- The machine and the replicas go on to agree where one replica is another.
use Rattle.std.proofs.Common.{◌≡◌, ◌∙◌, ℕ, zero, suc, ◌+◌, ◌-◌, ◌<◌, ◌≤◌, true, Bool, ◌⊎◌, List, [], ◌∷◌, ◌++◌, length, map, take, drop, set, get_or, refl, sym, ap, ap₂, subst, inl, inr, arith, is_some}
use Rattle.std.specs.Prelude.{Contains, ◌||◌}
use Rattle.std.specs.List.{list_any, flat_map, find}
use Rattle.std.proofs.lemmas.Bool.{cases_eq, cases_lt, or_cases, or_left, or_right}
use Rattle.std.proofs.lemmas.List.{append-nil, append_assoc, length-append, length-map, map-append, take-take, take-append-drop, take_at, length-set, get_or-set_same, get_or-set_other, set_past}
use Rattle.rc_base.specs.declared.ids.Epoch.{Epoch}
use Rattle.rc_base.specs.Ids.{no_epoch, is_epoch}
use Rattle.coll_model.specs.Effect.{State, folded}
use Rattle.coll_model.specs.declared.op.Op.{Op}
use Rattle.txn_table.specs.declared.base.Base.{Base}
use Rattle.txn_table.specs.declared.committed.Committed.{Committed}
use Rattle.txn_table.specs.Log.{Items, no_base, commits_from}
use Rattle.txn_table.specs.Whole.{Whole, commits_to, count_to, contents_to}
use Rattle.txn_table.proofs.LogGrowth.{commits_from-push}
use Rattle.order_machine.specs.Order.{Order, Entry, empty_order, first_of, state_at}
use Rattle.order_machine.specs.Machine.{Machine, Replica, Appointment, replica, order_of, never_opened, appointment_of}
use Rattle.order_machine.specs.Transitions.{is_told, HoldsBehind}
use Rattle.replica_model.specs.OpenReplica.{OpenReplica}
use Rattle.fleet_run.specs.Scenes.{FleetReplica, replica_at, held_by}
use Rattle.fleet_run.specs.Scenes.FleetReplica.{Open, Closed}
use Rattle.fleet_run.specs.Rows.{order_entry, BeginsOrder, AgreesOpen, AgreesClosed, AgreesAt, Agrees}
use Rattle.fleet_run.proofs.Moved.{there_now, as_before}

-- ---- beginnings of the order

-- what a longer log commits begins with what it committed
pub commits_more : (start : Base) (ys xs : Items) → (more : List Committed) × (commits_from start (xs ++ ys) ≡ commits_from start xs ++ more)
commits_more start [] xs = ([], ap (commits_from start) (append-nil xs) ∙ sym (append-nil (commits_from start xs)))
commits_more start (y ∷ ys) xs =
    let rest = commits_more start ys (xs ++ y ∷ []) in
    let one = commits_from-push start xs y in (
      _,
      ap (commits_from start) (sym (append_assoc xs (y ∷ []) ys)) ∙ rest.1 ∙ ap (λ (cs : List Committed). cs ++ rest.0) one ∙ append_assoc (commits_from start xs) _ rest.0,
    )

commits_to_more : (w : Whole) (a b : ℕ) → a ≤ b → (more : List Committed) × (commits_to w b ≡ commits_to w a ++ more)
commits_to_more w a b le =
    let k = a - w.start.at.0 in
    let l = b - w.start.at.0 in
    let low : k ≤ l = omega (arith, le) in
    let split : take l w.log ≡ take k w.log ++ drop k (take l w.log) = sym (take-append-drop k (take l w.log)) ∙ ap (λ (xs : Items). xs ++ drop k (take l w.log)) (take-take k l w.log low) in
    let rest = commits_more w.start (drop k (take l w.log)) (take k w.log) in
    (rest.0, ap (commits_from w.start) split ∙ rest.1)

-- a log whose commits to a position begin the order has such to each position below
pub begins_less : (order : Order) (w : Whole) (a b : ℕ) → order.base ≡ 0 → w.start ≡ no_base → a ≤ b → BeginsOrder order w b → BeginsOrder order w a
begins_less order w a b base start le is =
    let more = commits_to_more w a b le in
    let none : w.start.count ≡ 0 = ap (λ (x : Base). x.count) start in
    let size : length (commits_to w b) ≡ length (commits_to w a) + length more.0 = ap length more.1 ∙ length-append (commits_to w a) more.0 in
    let k = count_to w a - order.base in
    let l = count_to w b - order.base in
    let low : k ≤ l = omega (arith, size) in
    let at : length (map order_entry (commits_to w a)) ≡ k = length-map (commits_to w a) order_entry ∙ omega (arith, none, base) in
    record {
      within = omega (arith, is.within, size);
      entries =
          sym (take-take k l order.entries low)
          ∙ ap (take k) (is.entries ∙ ap (map order_entry) more.1 ∙ map-append order_entry (commits_to w a) more.0)
          ∙ take_at (map order_entry (commits_to w a)) (map order_entry more.0) k at;
    }

same_operations : (cs : List Committed) → flat_map (λ (e : Entry). e.ops) (map order_entry cs) ≡ flat_map (λ (c : Committed). c.ops) cs
same_operations [] = refl
same_operations (c ∷ cs) = ap (λ (ops : List Op). c.ops ++ ops) (same_operations cs)

-- what the log has at the position is the state there
pub begins_contents : (order : Order) (w : Whole) (s : ℕ) → order.start ≡ [] → w.start ≡ no_base → BeginsOrder order w s → contents_to w s ≡ state_at order (count_to w s)
begins_contents order w s start base is =
    ap (λ (b : Base). folded b.contents (flat_map (λ (c : Committed). c.ops) (commits_to w s))) base
    ∙ ap (λ (ops : List Op). folded [] ops) (sym (ap (λ (es : List Entry). flat_map (λ (e : Entry). e.ops) es) is.entries ∙ same_operations (commits_to w s)))
    ∙ ap (λ (st : State). folded st (flat_map (λ (e : Entry). e.ops) (first_of order (count_to w s)))) (sym start)

-- ---- what was told

any_set : {A : Type 0} (p : A → Bool) (xs : List A) (i : ℕ) (y d : A) → (p (get_or xs i d) ≡ true → p y ≡ true) → list_any p xs ≡ true → list_any p (set xs i y) ≡ true
any_set p [] i y d keeps h = h
any_set p (x ∷ xs) zero y d keeps h = elim (or_cases (p x) (list_any p xs) h) [
  | inl is ↦ or_left (p y) (list_any p xs) (keeps is)
  | inr others ↦ or_right (p y) (list_any p xs) others
]
any_set p (x ∷ xs) (suc i) y d keeps h = elim (or_cases (p x) (list_any p xs) h) [
  | inl is ↦ or_left (p x) (list_any p (set xs i y)) is
  | inr others ↦ or_right (p x) (list_any p (set xs i y)) (any_set p xs i y d keeps others)
]

pub any_at : {A : Type 0} (p : A → Bool) (xs : List A) (i : ℕ) (y : A) → i < length xs → p y ≡ true → list_any p (set xs i y) ≡ true
any_at p [] i y lt h = absurd (omega (arith, lt))
any_at p (x ∷ xs) zero y lt h = or_left (p y) (list_any p xs) h
any_at p (x ∷ xs) (suc i) y lt h = or_right (p x) (list_any p (set xs i y)) (any_at p xs i y (omega (arith, lt)) h)

-- whether the replica was surveyed for the epoch
abbrev pub was_surveyed : Epoch → Replica → Bool
was_surveyed e r = list_any (λ s. is_epoch e s.epoch) r.surveys

-- what was told stays told
pub still_told : (m n : Machine) (r : ℕ) (y : Replica) (e : Epoch) → n.appointments ≡ m.appointments → n.replicas ≡ set m.replicas r y → (was_surveyed e (replica m r) ≡ true → was_surveyed e y ≡ true) → is_told m e ≡ true → is_told n e ≡ true
still_told m n r y e appointments replicas keeps h =
    let same : is_some (appointment_of n e) ≡ is_some (appointment_of m e) = ap (λ (ones : List Appointment). is_some (find (λ a. is_epoch e a.epoch) ones)) appointments in
    elim (or_cases (is_some (appointment_of m e)) (list_any (was_surveyed e) m.replicas) h) [
      | inl is ↦ or_left (is_some (appointment_of n e)) (list_any (was_surveyed e) n.replicas) (same ∙ is)
      | inr there ↦ or_right (is_some (appointment_of n e)) (list_any (was_surveyed e) n.replicas) (ap (list_any (was_surveyed e)) replicas ∙ any_set (was_surveyed e) m.replicas r y never_opened keeps there)
    ]

-- ---- one replica is another

module _ (m n : Machine) (replicas : List FleetReplica) (is : Agrees m replicas) where
  pub agrees_order : (q : ℕ) → order_of m q ≡ is.order
  agrees_order q = ap₂ (λ (os : List Order) (l : ℕ). get_or os l empty_order) is.orders (is.losses q)

  pub agrees_at : (q : ℕ) (x : FleetReplica) → replica_at replicas q ≡ x → AgreesAt (replica m q) is.order x
  agrees_at q x at = subst (λ (z : FleetReplica). AgreesAt (replica m q) is.order z) at (is.each q)

  pub agrees_open : (q : ℕ) (o : OpenReplica) → replica_at replicas q ≡ Open o → AgreesOpen (replica m q) is.order o
  agrees_open q o up = agrees_at q (Open o) up

  pub agrees_closed : (q : ℕ) (ws : List Whole) → replica_at replicas q ≡ Closed ws → AgreesClosed (replica m q) is.order ws
  agrees_closed q ws down = agrees_at q (Closed ws) down

  -- with another replica in the machine and in the fleet
  pub agrees_set : (r : ℕ) (x : FleetReplica) (y : Replica) → length replicas ≡ 9 → n.replicas ≡ set m.replicas r y → n.orders ≡ m.orders → n.appointments ≡ m.appointments → y.loss ≡ 0 → (r < 9 → AgreesAt y is.order x)
      → ((e : Epoch) → was_surveyed e (replica m r) ≡ true → was_surveyed e y ≡ true)
      → ((w : Whole) → r < 9 → Contains (held_by x) w → (w.fence ≡ no_epoch) ⊎ (is_told n w.fence ≡ true)) → HoldsBehind n → Agrees n (set replicas r x)
  agrees_set r x y nine machine orders appointments loss at surveys fences behind = record {
    order = is.order;
    orders = orders ∙ is.orders;
    start = is.start;
    base = is.base;
    losses = λ q. elim (now q) [
      | inl here ↦ ap (λ (z : Replica). z.loss) here.2.0 ∙ loss
      | inr there ↦ ap (λ (z : Replica). z.loss) there.0 ∙ is.losses q
    ];
    nine = ap length machine ∙ length-set m.replicas r y ∙ is.nine;
    each = λ q. elim (now q) [
      | inl here ↦ subst (λ (z : FleetReplica). AgreesAt (replica n q) is.order z) here.2.1 (subst (λ (z : Replica). AgreesAt z is.order x) (sym here.2.0) (at here.1))
      | inr there ↦ subst (λ (z : FleetReplica). AgreesAt (replica n q) is.order z) there.1 (subst (λ (z : Replica). AgreesAt z is.order (replica_at replicas q)) (sym there.0) (is.each q))
    ];
    fences = λ q w c. elim (now q) [
      | inl here ↦ fences w here.1 (subst (λ (z : FleetReplica). Contains (held_by z) w) (sym here.2.1) c)
      | inr there ↦ elim (is.fences q w (subst (λ (z : FleetReplica). Contains (held_by z) w) (sym there.1) c)) [
        | inl none ↦ inl none
        | inr told ↦ inr (still_told m n r y w.fence appointments machine (surveys w.fence) told)
      ]
    ];
    behind = behind;
  } where
    -- it is the replica that was set, or one that stays
    now : (q : ℕ) → ((q ≡ r) × (r < 9) × ((replica n q ≡ y) × (x ≡ replica_at (set replicas r x) q))) ⊎ ((replica n q ≡ replica m q) × (replica_at replicas q ≡ replica_at (set replicas r x) q))
    now q = elim (cases_eq q r) [
      | inr ne ↦ inr (ap (λ (rs : List Replica). get_or rs q never_opened) machine ∙ get_or-set_other m.replicas r q y never_opened ne, as_before replicas r q x ne)
      | inl same ↦ elim (cases_lt r 9) [
        | inl within ↦ inl (
          same,
          within,
          (ap₂ (λ (rs : List Replica) (k : ℕ). get_or rs k never_opened) machine same ∙ get_or-set_same m.replicas r y never_opened (omega (arith, within, is.nine)), there_now replicas r q x (omega (arith, within, nine)) same),
        )
        | inr past ↦ inr (
          ap (λ (rs : List Replica). get_or rs q never_opened) (machine ∙ set_past m.replicas r y (omega (arith, past, is.nine))),
          ap (λ (rs : List FleetReplica). replica_at rs q) (sym (set_past replicas r x (omega (arith, past, nine)))),
        )
      ]
    ]

  -- with the same replicas in the machine
  pub agrees_same : n.replicas ≡ m.replicas → n.orders ≡ m.orders → n.appointments ≡ m.appointments → HoldsBehind n → Agrees n replicas
  agrees_same machine orders appointments behind = record {
    order = is.order;
    orders = orders ∙ is.orders;
    start = is.start;
    base = is.base;
    losses = λ q. ap (λ (rs : List Replica). (get_or rs q never_opened).loss) machine ∙ is.losses q;
    nine = ap length machine ∙ is.nine;
    each = λ q. subst (λ (z : Replica). AgreesAt z is.order (replica_at replicas q)) (sym (ap (λ (rs : List Replica). get_or rs q never_opened) machine)) (is.each q);
    fences = λ q w c. elim (is.fences q w c) [
      | inl none ↦ inl none
      | inr told ↦ inr (ap₂ (λ (ones : List Appointment) (rs : List Replica). is_some (find (λ a. is_epoch w.fence a.epoch) ones) || list_any (was_surveyed w.fence) rs) appointments machine ∙ told)
    ];
    behind = behind;
  }
