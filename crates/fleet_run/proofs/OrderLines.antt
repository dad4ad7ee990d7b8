-- The lines of the order and of the view may come where they stand.
use Rattle.std.proofs.Common.{◌≡◌, ◌∙◌, ℕ, ◌+◌, ◌-◌, ◌<◌, ◌≤◌, true, false, Bool, cond, ◌⊎◌, List, [], ◌∷◌, ◌++◌, length, map, drop, get_or, refl, sym, ap, ap₂, subst, inl, inr, arith, Option, None, is_some}
use Rattle.std.specs.Prelude.{◌||◌, ◌==◌, is_none, nat_lt}
use Rattle.std.specs.Option.{option_map_or}
use Rattle.std.proofs.lemmas.Bool.{cases_lt, or_right, ltb-true, ltb-false, le-leb, false≢true}
use Rattle.std.proofs.lemmas.List.{append_assoc, append-nil, nil_from_length, map-append, length-append, length-map, length-set, drop-drop, drop_at, drop_all as drop_past, get_or-set_same, get_or-set_other, get_or_past}
use mathlib.Core.List.{IsPrefix}
use Rattle.txn_table.specs.declared.committed.Committed.{Committed}
use Rattle.txn_table.specs.Log.{Items, no_base, commits_from, commits_in}
use Rattle.order_machine.specs.declared.observation.Observation.{Observation}
use Rattle.order_machine.specs.declared.observation.Observation.TheVariants as says
use Rattle.order_machine.specs.Order.{Order, Entry, length_of, empty_order}
use Rattle.order_machine.specs.Machine.{Machine, Replica, replica, role_of, order_of, never_opened}
use Rattle.order_machine.specs.Transitions.{Position, May, MayOrder, ordering, showing, after, changed, may_grow, is_opening, is_boot, next_rank, is_actor, with_first_role}
use Rattle.order_machine.specs.Legal.{Lines, behind}
use Rattle.replica_model.specs.declared.step.Outcome.{Outcome}
use Rattle.replica_model.specs.OpenReplica.{OpenReplica, view_of}
use Rattle.history_laws.specs.Texts.{IsText}
use Rattle.history_laws.specs.LockGuards.{entry_of, OrderCommits}
use Rattle.history_laws.proofs.ShownStates.{next_may_be_ordered}
use Rattle.fleet_laws.proofs.Prefixes.{prefix_self}
use Rattle.fleet_run.specs.Acts.{order_line, order_lines, view_line}
use Rattle.fleet_run.specs.Phases.{StableCommitsAreOne, IsAtStart, ComesToShow, HasShown, OrderAndViewMayCome}
use Rattle.fleet_run.proofs.StepLines.{behind_append}
use Rattle.fleet_run.proofs.Agreeing.{commits_more}
use Rattle.fleet_run.proofs.Following.{stable_logs_are_one}

-- ---- one order

pub prefix_commits : (a b : Items) → IsPrefix a b → IsPrefix (commits_in a) (commits_in b)
prefix_commits a b is = let more = commits_more no_base is.0 a in (more.0, sym more.1 ∙ ap (commits_from no_base) is.1)

pub stable_commits_are_one : StableCommitsAreOne
stable_commits_are_one m n replicas now f g s run u r q a b c d = elim (stable_logs_are_one m n replicas now f g s run u r q a b c d) [
  | inl first ↦ inl (prefix_commits a b first)
  | inr second ↦ inr (prefix_commits b a second)
]

-- ---- lines of the order

pub lines_append : (p : Position) (xs ys : List Observation) → Lines p xs → Lines (behind p xs) ys → Lines p (xs ++ ys)
lines_append p [] ys a b = b
lines_append p (x ∷ xs) ys a b = (a.0, lines_append (after p x) xs ys a.1 b)

-- what lines of the order leave as it was
record HasGrown (p q : Position) : Type 0 where
  replicas : q.machine.replicas ≡ p.machine.replicas
  txns : q.machine.txns ≡ p.machine.txns
  acknowledged : q.machine.acknowledged ≡ p.machine.acknowledged
  appointments : q.machine.appointments ≡ p.machine.appointments
  primary : q.primary ≡ p.primary
  acts : (r : ℕ) → is_actor q.primary q.event r ≡ is_actor p.primary p.event r
  opening : q.opening ≡ p.opening
  faulted : q.faulted ≡ p.faulted
  grows : may_grow q ≡ may_grow p
  event : q.event ≡ p.event
  client : q.client ≡ p.client
  rank : p.rank ≤ 2 → q.rank ≤ 2

grown_self : (p : Position) → HasGrown p p
grown_self p = record { replicas = refl; txns = refl; acknowledged = refl; appointments = refl; primary = refl; acts = λ r. refl; opening = refl; faulted = refl; grows = refl; event = refl; client = refl; rank = λ le. le }

grown_more : (p : Position) (c : Committed) (q : Position) → HasGrown (after p (order_line c)) q → HasGrown p q
grown_more p c q x = record {
  replicas = x.replicas;
  txns = x.txns;
  acknowledged = x.acknowledged;
  appointments = x.appointments;
  primary = x.primary;
  acts = x.acts;
  opening = x.opening;
  faulted = x.faulted;
  grows = x.grows;
  event = x.event;
  client = x.client;
  rank = λ le. x.rank (omega arith);
}

-- the order with one more
order_push : (m : Machine) (r : ℕ) (c : Committed) → (replica m r).loss < length m.orders → order_of (ordering m r c.txn c.ops) r ≡ record (order_of m r) { entries = (order_of m r).entries ++ record { txn = c.txn; ops = c.ops } ∷ [] }
order_push m r c there = get_or-set_same m.orders (replica m r).loss _ empty_order there

-- The commits of a text come into the order one after another.
orders_may : (cs : List Committed) (p : Position) (first later : List Committed) → may_grow p ≡ true → p.rank ≤ 2 → p.opening ≡ None → p.faulted ≡ [] → (replica p.machine p.primary).loss < length p.machine.orders → IsText p.machine.txns [] ((first ++ cs) ++ later)
    → OrderCommits (order_of p.machine p.primary) [] first
    → Lines p (map order_line cs) × OrderCommits (order_of (behind p (map order_line cs)).machine p.primary) [] (first ++ cs) × ((order_of (behind p (map order_line cs)).machine p.primary).base ≡ (order_of p.machine p.primary).base) × HasGrown p (behind p (map order_line cs))
orders_may [] p first later grows rank opening faulted there text is = (tt, subst (λ (xs : List Committed). OrderCommits (order_of p.machine p.primary) [] xs) (sym (append-nil first)) is, refl, grown_self p)
orders_may (c ∷ cs) p first later grows rank opening faulted there text is =
    let q = after p (order_line c) in
    let row : MayOrder p c.txn c.ops = next_may_be_ordered p [] first (cs ++ later) c (subst (λ (xs : List Committed). IsText p.machine.txns [] xs) (append_assoc first (c ∷ cs) later) text) is in
    let may : May p (order_line c) = record {
      named = grows;
      in_rank = le-leb p.rank 2 rank;
      next = ap is_none opening;
      goes_on = ap (λ (rs : List ℕ). is_boot p.event || (length rs == 0)) faulted ∙ or_right (is_boot p.event) true refl;
      row = row;
    } in
    let pushed = order_push p.machine p.primary c there in
    let commits : OrderCommits (order_of q.machine p.primary) [] (first ++ c ∷ []) = record {
      start_is = ap (λ (o : Order). o.start) pushed ∙ is.start_is;
      entries = ap (λ (o : Order). o.entries) pushed ∙ ap (λ (es : List Entry). es ++ entry_of c ∷ []) is.entries ∙ sym (map-append entry_of first (c ∷ []));
    } in
    let still : (replica q.machine q.primary).loss < length q.machine.orders = omega (arith, there, length-set p.machine.orders (replica p.machine p.primary).loss (record (order_of p.machine p.primary) { entries = (order_of p.machine p.primary).entries ++ record { txn = c.txn; ops = c.ops } ∷ [] })) in
    let same : (first ++ c ∷ []) ++ cs ≡ first ++ c ∷ cs = append_assoc first (c ∷ []) cs in
    let rest = orders_may cs q (first ++ c ∷ []) later grows (omega arith) opening faulted still (subst (λ (xs : List Committed). IsText p.machine.txns [] (xs ++ later)) (sym same) text) commits in (
      (may, rest.0),
      subst (λ (xs : List Committed). OrderCommits (order_of (behind q (map order_line cs)).machine p.primary) [] xs) same rest.1,
      rest.2 ∙ ap (λ (o : Order). o.base) pushed,
      grown_more p c (behind q (map order_line cs)) rest.3,
    )

-- ---- the line of the view

module _ (q : Position) (r n : ℕ) (grows : may_grow q ≡ true) (rank : q.rank ≤ 2) (opening : q.opening ≡ None) (faulted : q.faulted ≡ []) (role : is_some (role_of q.machine r) ≡ true) (acts : is_actor q.primary q.event r ≡ true) where
  view_is : changed q (says.View r n) ≡ record q { machine = showing q.machine r n; growing = false; rose = r ∷ q.rose }
  view_is = ap (λ (x : Option ℕ). cond (is_some x) (record q { machine = with_first_role (showing q.machine r n) q.event q.mounts; opening = None }) (record q { machine = showing q.machine r n; growing = false; rose = r ∷ q.rose })) opening

  view_rank : next_rank q (says.View r n) ≡ 3
  view_rank = ap (λ (x : Option ℕ). cond (is_some x) 0 3) opening

  view_may : n ≤ length_of (order_of q.machine r) → (q.growing ≡ true → n ≡ length_of (order_of q.machine r)) → (q.growing ≡ true → r ≡ q.primary) → (replica q.machine r).show < n → May q (says.View r n)
  view_may within grew here more = record {
    named = or_right (is_opening q.event) (may_grow q) grows;
    in_rank = le-leb (q.rank + 1) 3 (omega (arith, rank));
    next = ap (λ (x : Option ℕ). option_map_or (λ (opening : ℕ). opening == r) x true) opening;
    goes_on = ap (λ (rs : List ℕ). is_boot q.event || (length rs == 0)) faulted ∙ or_right (is_boot q.event) true refl;
    row = record {
      within = within;
      all_that_grew = grew;
      grew_here = here;
      more = λ none. more;
      primary = λ none. role;
      acts = acts;
    };
  }

  -- r is one of the machine's replicas
  among : r < length q.machine.replicas
  among = elim (cases_lt r (length q.machine.replicas)) [
    | inl lt ↦ lt
    | inr past ↦ absurd (false≢true (sym (ap (λ (x : Replica). is_some x.role) (get_or_past q.machine.replicas r never_opened past)) ∙ role))
  ]

  shown_replica : replica (showing q.machine r n) r ≡ record (replica q.machine r) { show = n }
  shown_replica = get_or-set_same q.machine.replicas r _ never_opened among

  order_shown : order_of (showing q.machine r n) r ≡ order_of q.machine r
  order_shown = ap (λ (x : Replica). get_or q.machine.orders x.loss empty_order) shown_replica

-- ---- both

rest_of : (p : Position) (o : OpenReplica) (told : Outcome) (before ordered now later : List Committed) → ComesToShow p o told before ordered now later → order_lines p.machine o told.commits ≡ map order_line (drop (length ordered) now)
rest_of p o told before ordered now later c =
    let size : length_of (order_of p.machine o.id) ≡ length ordered = omega (arith, c.base, ap length c.order.entries, length-map ordered entry_of) in
    let all : length before + (length ordered - length before) ≡ length ordered = omega (arith, c.begins) in
    ap (map order_line)
    (ap (λ (k : ℕ). drop (k - view_of o) told.commits) size
    ∙ ap (λ (k : ℕ). drop (length ordered - k) told.commits) c.view
    ∙ ap (drop (length ordered - length before)) c.commits
    ∙ drop-drop (length ordered - length before) (length before) now
    ∙ ap (λ (k : ℕ). drop k now) all)

view_of_lines : (o : OpenReplica) (told : Outcome) (before now : List Committed) → view_of o ≡ length before → told.shown ≡ length now → view_line o told ≡ cond (nat_lt (length before) (length now)) (says.View o.id (length now) ∷ []) []
view_of_lines o told before now a b = ap₂ (λ (k n : ℕ). cond (nat_lt k n) (says.View o.id n ∷ []) []) a b

-- with the order as it is behind its lines
module _ (p q : Position) (r : ℕ) (start : IsAtStart p r) (before ordered now longer : List Committed) (x : HasGrown p q) (order : OrderCommits (order_of q.machine r) [] longer) (base : (order_of q.machine r).base ≡ 0) (shows : (replica p.machine r).show ≡ length before) (first : IsPrefix ordered longer) (second : IsPrefix now longer) (fits : (q.growing ≡ false) ⊎ (now ≡ longer)) (rests : length now ≤ length before → q.growing ≡ false) where
  size_is : length_of (order_of q.machine r) ≡ length longer
  size_is = omega (arith, base, ap length order.entries, length-map longer entry_of)

  role_now : is_some (role_of q.machine r) ≡ true
  role_now = ap (λ (rs : List Replica). is_some (get_or rs r never_opened).role) x.replicas ∙ start.role

  show_now : (replica q.machine r).show ≡ length before
  show_now = ap (λ (rs : List Replica). (get_or rs r never_opened).show) x.replicas ∙ shows

  prefix_size : length now ≤ length longer
  prefix_size = omega (arith, ap length second.1, length-append now second.0)

  shows_more : (b : Bool) → nat_lt (length before) (length now) ≡ b → length before ≤ length now → Lines q (cond b (says.View r (length now) ∷ []) []) × HasShown p (behind q (cond b (says.View r (length now) ∷ []) [])) r ordered now
  shows_more true lt le =
      let more : length before < length now = ltb-true (length before) (length now) lt in
      let grows = x.grows ∙ start.grows in
      let rank = x.rank start.rank in
      let opening = x.opening ∙ start.opening in
      let faulted = x.faulted ∙ start.faulted in
      let acts = x.acts r ∙ start.acts in
      let n = length now in
      let u = after q (says.View r n) in
      let is : changed q (says.View r n) ≡ record q { machine = showing q.machine r n; growing = false; rose = r ∷ q.rose } = view_is q r n grows rank opening faulted role_now acts in (
        (
          view_may q r n grows rank opening faulted role_now acts (omega (arith, prefix_size, size_is))
              (λ grew. elim fits [ inl waits ↦ absurd (false≢true (sym waits ∙ grew)) | inr same ↦ ap length same ∙ sym size_is ])
              (λ grew. sym (x.primary ∙ start.primary)) (omega (arith, show_now, more)),
          tt,
        ),
        record {
          shown = record {
            base = ap (λ (z : Position). (order_of z.machine r).base) is ∙ ap (λ (o : Order). o.base) (order_shown q r n grows rank opening faulted role_now acts) ∙ base;
            up = ap (λ (z : Position). (replica z.machine r).up) is ∙ ap (λ (z : Replica). z.up) (shown_replica q r n grows rank opening faulted role_now acts) ∙ ap (λ (rs : List Replica). (get_or rs r never_opened).up) x.replicas;
            grants = ap (λ (z : Position). (replica z.machine r).grants) is ∙ ap (λ (z : Replica). z.grants) (shown_replica q r n grows rank opening faulted role_now acts) ∙ ap (λ (rs : List Replica). (get_or rs r never_opened).grants) x.replicas;
            elsewhere = λ k ne. ap (λ (z : Position). replica z.machine k) is ∙ get_or-set_other q.machine.replicas r k _ never_opened ne ∙ ap (λ (rs : List Replica). get_or rs k never_opened) x.replicas;
            event = ap (λ (z : Position). z.event) is ∙ x.event;
            primary = ap (λ (z : Position). z.primary) is ∙ x.primary;
            client = ap (λ (z : Position). z.client) is ∙ x.client;
            order = (
              longer,
              subst (λ (o : Order). OrderCommits o [] longer) (sym (ap (λ (z : Position). order_of z.machine r) is ∙ order_shown q r n grows rank opening faulted role_now acts)) order,
              first,
              second,
            );
            shows = ap (λ (z : Position). (replica z.machine r).show) is ∙ ap (λ (z : Replica). z.show) (shown_replica q r n grows rank opening faulted role_now acts);
            rank = omega (arith, view_rank q r n grows rank opening faulted role_now acts);
            opening = ap (λ (z : Position). z.opening) is ∙ opening;
            growing = ap (λ (z : Position). z.growing) is;
            faulted = ap (λ (z : Position). z.faulted) is ∙ faulted;
            txns = ap (λ (z : Position). z.machine.txns) is ∙ x.txns;
            acknowledged = ap (λ (z : Position). z.machine.acknowledged) is ∙ x.acknowledged;
          };
          role = ap (λ (z : Position). role_of z.machine r) is ∙ ap (λ (z : Replica). z.role) (shown_replica q r n grows rank opening faulted role_now acts) ∙ ap (λ (rs : List Replica). (get_or rs r never_opened).role) x.replicas;
          appointments = ap (λ (z : Position). z.machine.appointments) is ∙ x.appointments;
        },
      )
  shows_more false ge le =
      let less : length now ≤ length before = ltb-false (length before) (length now) ge in (
        tt,
        record {
          shown = record {
            base = base;
            up = ap (λ (rs : List Replica). (get_or rs r never_opened).up) x.replicas;
            grants = ap (λ (rs : List Replica). (get_or rs r never_opened).grants) x.replicas;
            elsewhere = λ k ne. ap (λ (rs : List Replica). get_or rs k never_opened) x.replicas;
            event = x.event;
            primary = x.primary;
            client = x.client;
            order = (longer, order, first, second);
            shows = show_now ∙ omega (arith, less, le);
            rank = omega (arith, x.rank start.rank);
            opening = x.opening ∙ start.opening;
            growing = rests less;
            faulted = x.faulted ∙ start.faulted;
            txns = x.txns;
            acknowledged = x.acknowledged;
          };
          role = ap (λ (rs : List Replica). (get_or rs r never_opened).role) x.replicas;
          appointments = x.appointments;
        },
      )

-- the lines of the order, and behind them that of the view
both_come : (p : Position) (o : OpenReplica) (told : Outcome) (before ordered now later : List Committed) → IsAtStart p o.id → (c : ComesToShow p o told before ordered now later) → (first view : List Observation)
    → order_lines p.machine o told.commits ≡ first → view_line o told ≡ view → Lines p first → Lines (behind p first) view × HasShown p (behind (behind p first) view) o.id ordered now
    → Lines p (order_lines p.machine o told.commits ++ view_line o told) × HasShown p (behind p (order_lines p.machine o told.commits ++ view_line o told)) o.id ordered now
both_come p o told before ordered now later start c first view is_first is_view a b =
    let lines : first ++ view ≡ order_lines p.machine o told.commits ++ view_line o told = ap₂ (λ (xs ys : List Observation). xs ++ ys) (sym is_first) (sym is_view) in (
      subst (λ (ls : List Observation). Lines p ls) lines (lines_append p first view a b.0),
      subst (λ (ls : List Observation). HasShown p (behind p ls) o.id ordered now) lines (subst (λ (z : Position). HasShown p z o.id ordered now) (sym (behind_append p first view)) b.1),
    )

module _ (p : Position) (o : OpenReplica) (told : Outcome) (before ordered now later : List Committed) (start : IsAtStart p o.id) (c : ComesToShow p o told before ordered now later) where
  abbrev lines : List Observation
  lines = order_lines p.machine o told.commits ++ view_line o told

  -- what comes to be shown goes on behind the order
  goes_on : (rest : List Committed) → ordered ++ rest ≡ now → Lines p (order_lines p.machine o told.commits ++ view_line o told) × HasShown p (behind p (order_lines p.machine o told.commits ++ view_line o told)) o.id ordered now
  goes_on rest is =
      let behind_order : drop (length ordered) now ≡ rest = ap (drop (length ordered)) (sym is) ∙ drop_at ordered rest (length ordered) refl in
      let all = orders_may rest p ordered later start.grows start.rank start.opening start.faulted (subst (λ (r : ℕ). (replica p.machine r).loss < length p.machine.orders) (sym start.primary) c.order_there)
      (subst (λ (xs : List Committed). IsText p.machine.txns [] (xs ++ later)) (sym is) c.text) (subst (λ (r : ℕ). OrderCommits (order_of p.machine r) [] ordered) (sym start.primary) c.order) in
      let q = behind p (map order_line rest) in
      let order : OrderCommits (order_of q.machine o.id) [] (ordered ++ rest) = subst (λ (r : ℕ). OrderCommits (order_of q.machine r) [] (ordered ++ rest)) start.primary all.1 in
      let base : (order_of q.machine o.id).base ≡ 0 = subst (λ (r : ℕ). (order_of q.machine r).base ≡ (order_of p.machine r).base) start.primary all.2 ∙ c.base in
      let none : length now ≤ length before → q.growing ≡ false = λ le. ap (λ (rs : List Committed). (behind p (map order_line rs)).growing) (nil_from_length rest (omega (arith, le, c.begins, ap length is, length-append ordered rest))) ∙ start.growing in
      both_come p o told before ordered now later start c (map order_line rest) (cond (nat_lt (length before) (length now)) (says.View o.id (length now) ∷ []) [])
      (rest_of p o told before ordered now later c ∙ ap (map order_line) behind_order) (view_of_lines o told before now c.view c.shown) all.0
      (shows_more p q o.id start before ordered now (ordered ++ rest) all.3 order base c.shows (rest, refl) ([], append-nil now ∙ sym is) (inr (sym is)) none (nat_lt (length before) (length now)) refl c.more)

  -- what comes to be shown is in the order
  is_ordered : (rest : List Committed) → now ++ rest ≡ ordered → Lines p (order_lines p.machine o told.commits ++ view_line o told) × HasShown p (behind p (order_lines p.machine o told.commits ++ view_line o told)) o.id ordered now
  is_ordered rest is =
      let past : drop (length ordered) now ≡ [] = drop_past (length ordered) now (omega (arith, ap length is, length-append now rest)) in
      both_come p o told before ordered now later start c [] (cond (nat_lt (length before) (length now)) (says.View o.id (length now) ∷ []) [])
      (rest_of p o told before ordered now later c ∙ ap (map order_line) past) (view_of_lines o told before now c.view c.shown) tt
      (shows_more p p o.id start before ordered now ordered (grown_self p) c.order c.base c.shows (prefix_self ordered) (rest, is) (inl start.growing) (λ le. start.growing) (nat_lt (length before) (length now)) refl c.more)

pub order_and_view_may_come : OrderAndViewMayCome
order_and_view_may_come p o told before ordered now later start c = elim c.one [
  | inl first ↦ goes_on p o told before ordered now later start c first.0 first.1
  | inr second ↦ is_ordered p o told before ordered now later start c second.0 second.1
]
