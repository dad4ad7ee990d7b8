-- A primary looks at what has been reached.
use Rattle.std.proofs.Common.{◌≡◌, ◌∙◌, ℕ, zero, suc, ◌+◌, ◌-◌, ◌≤◌, ◌==◌, ◌||◌, max, true, false, Bool, cond, leb, ◌⊎◌, List, [], ◌∷◌, length, map, take, drop, refl, sym, ap, subst, inl, inr, arith, Option, Some, None}
use Rattle.std.specs.Prelude.{Contains, MatchOption, unwrap_or, nat_le, filter}
use Rattle.std.specs.Option.{option_map_or}
use Rattle.std.proofs.lemmas.Bool.{cases_Bool, cases_lt, cases_eq, and_parts, leb-true, le-leb, true≢false, eq-eqb, ne_eqb, cond-true, cond-false}
use Rattle.std.proofs.lemmas.List.{length-map}
use Rattle.rc_base.specs.declared.ids.TxnId.{TxnId}
use Rattle.rc_base.specs.Quorum.{write_quorum}
use Rattle.log_records.specs.declared.record.Record.{Record}
use Rattle.txn_table.specs.declared.committed.Committed.{Committed}
use Rattle.txn_table.specs.declared.base.Base.{Base}
use Rattle.txn_table.specs.Log.{no_base, last_epoch_from}
use Rattle.txn_table.specs.Whole.{Whole, stable_of, last_position, epoch_of, log_to}
use Rattle.rc_base.proofs.SameIds.{is_epoch-true}
use Rattle.txn_front.specs.Front.{Fronted}
use Rattle.replica_model.specs.OpenReplica.{OpenReplica, Leading, shown_commits}
use Rattle.replica_model.specs.Quorums.{reached_by, has_quorum, is_reached, greatest, quorum_number, is_of_epoch, is_active_at, stable_at, newly_shown, txns_of, unlocked_all, acknowledged_by, acknowledging, looked}
use Rattle.fleet_laws.specs.Counting.{count, IsWriteQuorum, IsWriteQuorumOfEach}
use Rattle.fleet_laws.specs.Fleets.{Fleet, Value, IsValueOf}
use Rattle.fleet_laws.specs.Logs.{Entry, Agree, epoch_at, last_epoch}
use Rattle.fleet_laws.specs.Choice.{IsChosen, IsSafe, reaches, configurations_of}
use Rattle.fleet_laws.specs.Moves.{Turn, IsReached, changed as changed_fleet}
use Rattle.fleet_laws.specs.Moves.Turn.{learns}
use Rattle.fleet_laws.proofs.Agreement.{agree_self}
use Rattle.fleet_laws.proofs.Tree.{past_start, epoch_at-zero}
use Rattle.fleet_laws.proofs.Use.{both_enough, chosen_within}
use Rattle.fleet_laws.proofs.Puts.{first_member, all_one}
use Rattle.fleet_laws.proofs.Runs.{reached_invariant}
use Rattle.fleet_laws.proofs.Counts.{count_yes, count_no, count_more}
use Rattle.fleet_run.specs.Scenes.FleetReplica.{Open}
use Rattle.fleet_run.specs.Kernel.{code, entry_of, value_of, values_of, role_of}
use Rattle.fleet_run.specs.Sound.{IsLeading, IsStanding, SameMembers, known_reached}
use Rattle.fleet_run.proofs.Codes.{last_code, place_code}
use Rattle.fleet_run.proofs.Moved.{Moved, SameRule, same_rule, unmoved, one_change, role_is}

pub some_same : {A : Type 0} (x y : A) → Some x ≡ Some y → x ≡ y
some_same x y e = ap (λ z. unwrap_or z x) e

-- ---- what looking changes

pub drop_all : {A : Type 0} (xs : List A) → drop (length xs) xs ≡ []
drop_all [] = refl
drop_all (x ∷ xs) = drop_all xs

pub none_newly : (o : OpenReplica) (x : Option Leading) → option_map_or (λ l. txns_of l.epoch (newly_shown o o)) x [] ≡ []
none_newly o None = refl
none_newly o (Some l) = ap (λ (cs : List Committed). txns_of l.epoch cs) (drop_all (shown_commits o))

acknowledging_itself : (o : OpenReplica) → acknowledging o o ≡ o
acknowledging_itself o = ap (λ (ts : List TxnId). let x : OpenReplica = record o { front = unlocked_all o.front ts } in x) (none_newly o o.leading)

pub looked_as : (o : OpenReplica) (l : Leading) → o.leading ≡ Some l → looked o ≡ acknowledging o (stable_at o l (quorum_number o l))
looked_as o l lead = ap (λ (x : Option Leading). option_map_or (λ y. acknowledging o (stable_at o y (quorum_number o y))) x o) lead

pub looked_none : (o : OpenReplica) → o.leading ≡ None → looked o ≡ o
looked_none o none = ap (λ (x : Option Leading). option_map_or (λ y. acknowledging o (stable_at o y (quorum_number o y))) x o) none

abbrev active_now : Leading → Leading
active_now l = record l { active = true }

-- the replica with more stable
abbrev pub risen : OpenReplica → Leading → ℕ → Fronted → OpenReplica
risen o l stable front = record { id = o.id; disk = o.disk; stable = stable; leading = Some (active_now l); front = front }

pub looked_rests : (o : OpenReplica) (l : Leading) → o.leading ≡ Some l → is_active_at o l (quorum_number o l) ≡ false → looked o ≡ o
looked_rests o l lead waits =
    looked_as o l lead
    ∙ ap (λ (b : Bool). acknowledging o (cond b (record o { stable = max o.stable (quorum_number o l); leading = Some (active_now l) }) o)) waits
    ∙ acknowledging_itself o

pub looked_rises : (o : OpenReplica) (l : Leading) → o.leading ≡ Some l → is_active_at o l (quorum_number o l) ≡ true → (front : Fronted) × (looked o ≡ risen o l (max o.stable (quorum_number o l)) front)
looked_rises o l lead rises =
    let x : OpenReplica = record o { stable = max o.stable (quorum_number o l); leading = Some (active_now l) } in (
      unlocked_all o.front (acknowledged_by o x),
      looked_as o l lead ∙ ap (λ (b : Bool). acknowledging o (cond b x o)) rises,
    )

-- an active primary that keeps as stable what has been reached has looked
looked_again : (o : OpenReplica) (l : Leading) → o.leading ≡ Some l → l.active ≡ true → quorum_number o l ≤ o.stable → looked o ≡ o
looked_again o l lead active within =
    let n = quorum_number o l in
    let most : max o.stable n ≡ o.stable = omega (arith, within) in
    let same : active_now l ≡ l = ap (λ (b : Bool). let y : Leading = record l { active = b } in y) (sym active) in
    looked_as o l lead
    ∙ ap (λ (b : Bool). acknowledging o (cond (b || is_of_epoch o.disk l.epoch n) (record o { stable = max o.stable n; leading = Some (active_now l) }) o)) active
    ∙ ap (λ (k : ℕ). acknowledging o (record o { stable = k; leading = Some (active_now l) })) most
    ∙ ap (λ (y : Leading). acknowledging o (record o { leading = Some y })) same
    ∙ ap (λ (y : Option Leading). acknowledging o (record o { leading = y })) (sym lead)
    ∙ acknowledging_itself o

risen_number : (o : OpenReplica) (l : Leading) (stable : ℕ) (front : Fronted) → quorum_number (risen o l stable front) (active_now l) ≡ quorum_number o l
unfolding quorum_number
risen_number o l stable front = refl

pub risen_settled : (o : OpenReplica) (l : Leading) (stable : ℕ) (front : Fronted) → quorum_number o l ≤ stable → looked (risen o l stable front) ≡ risen o l stable front
risen_settled o l stable front within = looked_again (risen o l stable front) (active_now l) refl refl (omega (arith, risen_number o l stable front, within))

-- ---- quorum numbers

greatest_step : (passes : ℕ → Bool) (n : ℕ) (b : Bool) → passes (suc n) ≡ b → (greatest passes n ≡ 0) ⊎ (passes (greatest passes n) ≡ true)
    → (cond b (suc n) (greatest passes n) ≡ 0) ⊎ (passes (cond b (suc n) (greatest passes n)) ≡ true)
greatest_step passes n true is rest = inr is
greatest_step passes n false is rest = rest

greatest_passes : (passes : ℕ → Bool) (n : ℕ) → (greatest passes n ≡ 0) ⊎ (passes (greatest passes n) ≡ true)
greatest_passes passes zero = inl refl
greatest_passes passes (suc n) = greatest_step passes n (passes (suc n)) refl (greatest_passes passes n)

within_step : (n k : ℕ) (b : Bool) → k ≤ n → cond b (suc n) k ≤ suc n
within_step n k true le = omega arith
within_step n k false le = omega (arith, le)

greatest_within : (passes : ℕ → Bool) (n : ℕ) → greatest passes n ≤ n
greatest_within passes zero = omega arith
greatest_within passes (suc n) = within_step n (greatest passes n) (passes (suc n)) (greatest_within passes n)

pub number_within : (o : OpenReplica) (l : Leading) → quorum_number o l ≤ last_position o.disk
unfolding quorum_number
number_within o l = greatest_within (is_reached o l) (last_position o.disk)

number_reached : (o : OpenReplica) (l : Leading) → 1 ≤ quorum_number o l → is_reached o l (quorum_number o l) ≡ true
unfolding quorum_number
number_reached o l some = elim (greatest_passes (is_reached o l) (last_position o.disk)) [
  | inl none ↦ absurd (omega (arith, some, none))
  | inr is ↦ is
]

filter_step : (p : ℕ → Bool) (x : ℕ) (xs : List ℕ) (b : Bool) → p x ≡ b → length (filter p xs) ≡ count p xs → length (cond b (x ∷ filter p xs) (filter p xs)) ≡ count p (x ∷ xs)
filter_step p x xs true is rest = ap suc rest ∙ sym (count_yes p x xs is)
filter_step p x xs false is rest = rest ∙ sym (count_no p x xs is)

pub filter_counts : (p : ℕ → Bool) (xs : List ℕ) → length (filter p xs) ≡ count p xs
filter_counts p [] = refl
filter_counts p (x ∷ xs) = filter_step p x xs (p x) refl (filter_counts p xs)

quorum_from : (reached known : ℕ → ℕ) (n : ℕ) (members c : List ℕ) → ((q : ℕ) → reached q ≤ known q) → SameMembers members c → has_quorum reached n members ≡ true → IsWriteQuorum (λ q. leb n (known q)) c
quorum_from reached known n members c le same is =
    let enough : write_quorum (length members) ≤ length (filter (λ m. nat_le n (reached m)) members) = leb-true (write_quorum (length members)) (length (filter (λ m. nat_le n (reached m)) members)) is in
    let more : count (λ m. nat_le n (reached m)) members ≤ count (λ q. leb n (known q)) members = count_more (λ m. nat_le n (reached m)) (λ q. leb n (known q)) (λ q yes. le-leb n (known q) (omega (arith, leb-true n (reached q) yes, le q))) members in
    let size : write_quorum (length members) ≡ write_quorum (length c) = ap write_quorum same.sizes in
    omega (arith, enough, more, size, filter_counts (λ m. nat_le n (reached m)) members, same.counts (λ q. leb n (known q)))

-- ---- what a quorum has reached is chosen

-- the position to which a replica has reached the log is at or below what it acknowledged
reached_within : (f : Fleet Record) (r : ℕ) (o : OpenReplica) (l : Leading) → o.id ≡ r → o.disk.start ≡ no_base → IsLeading f r o l → (q : ℕ) → reached_by o l q ≤ f.acknowledged q (code l.epoch)
reached_within f r o l number start is q = elim (cases_eq q o.id) [
  | inl own ↦
      let at : reached_by o l q ≡ last_position o.disk = cond-true (q == o.id) _ _ (eq-eqb q o.id own) in
      let all : last_position o.disk ≡ 0 + length o.disk.log = ap (λ (b : Base). b.at.0 + length o.disk.log) start in
      let mine : length o.disk.log ≤ f.acknowledged q (code l.epoch) = subst (λ (k : ℕ). length o.disk.log ≤ f.acknowledged k (code l.epoch)) (sym (own ∙ number)) is.own in
      omega (arith, at, all, mine)
  | inr other ↦
      let at : reached_by o l q ≡ known_reached l q = cond-false (q == o.id) _ _ (ne_eqb q o.id other) in
      omega (arith, at, is.reached q)
]

previous_counts : (f : Fleet Record) (o : OpenReplica) (l : Leading) (n : ℕ) (p : Option (List ℕ)) → ((q : ℕ) → reached_by o l q ≤ f.acknowledged q (code l.epoch))
    → MatchOption p (f.activated (code l.epoch) ≡ true) (λ members. SameMembers members (f.previous (code l.epoch))) → option_map_or (λ members. has_quorum (reached_by o l) n members) p true ≡ true
    → IsWriteQuorum (reaches f.acknowledged (code l.epoch) n) (f.current (code l.epoch)) → IsWriteQuorumOfEach (reaches f.acknowledged (code l.epoch) n) (configurations_of f.configurations (code l.epoch))
previous_counts f o l n None within is passes own =
    let e = code l.epoch in
    subst (λ (cs : List (List ℕ)). IsWriteQuorumOfEach (reaches f.acknowledged e n) cs) (sym (cond-true (f.activated e) (f.current e ∷ []) (f.previous e ∷ f.current e ∷ []) is)) (own, tt)
previous_counts f o l n (Some members) within is passes own =
    let e = code l.epoch in
    both_enough (reaches f.acknowledged e n) f.configurations e (quorum_from (reached_by o l) (λ q. f.acknowledged q e) n members (f.previous e) within is passes, (own, tt))

quorum_chosen : (f : Fleet Record) (r : ℕ) (o : OpenReplica) (l : Leading) → o.id ≡ r → o.disk.start ≡ no_base → IsLeading f r o l → 1 ≤ quorum_number o l → f.start (code l.epoch) ≤ quorum_number o l
    → IsChosen f (code l.epoch) (quorum_number o l)
quorum_chosen f r o l number start is some from =
    let n = quorum_number o l in
    let e = code l.epoch in
    let within = reached_within f r o l number start is in
    let passes = and_parts (has_quorum (reached_by o l) n l.current) _ (number_reached o l some) in
    record {
      from = from;
      by = previous_counts f o l n l.previous within is.previous passes.1 (quorum_from (reached_by o l) (λ q. f.acknowledged q e) n l.current (f.current e) within is.current passes.0);
    }

-- ---- an open replica

pub whole_epoch : (w : Whole) → w.start ≡ no_base → code (epoch_of w) ≡ last_epoch (map entry_of w.log)
whole_epoch w start = ap (λ (b : Base). code (last_epoch_from b w.log)) start ∙ last_code w.log

pub epoch_to : (w : Whole) (n : ℕ) → w.start ≡ no_base → n ≤ length w.log → code (last_epoch_from w.start (log_to w n)) ≡ epoch_at (map entry_of w.log) n
epoch_to w n start within =
    let all : n - 0 ≡ n = omega arith in
    ap (λ (b : Base). code (last_epoch_from b (take (n - b.at.0) w.log))) start ∙ ap (λ (k : ℕ). code (last_epoch_from no_base (take k w.log))) all ∙ place_code w.log n within

-- A replica behind what a step wrote, before it looks.
pub record IsWritten (f : Fleet Record) (r : ℕ) (o : OpenReplica) : Type 0 where
  pub reached : IsReached f
  pub values : f.values r ≡ values_of (Open o)
  pub role : f.role r ≡ role_of (Open o)
  pub number : o.id ≡ r
  pub start : o.disk.start ≡ no_base
  pub told : stable_of o.disk ≤ o.stable
  pub leads : (l : Leading) → o.leading ≡ Some l → IsLeading f r o l

-- what it is once it has looked
pub record HasLooked (f : Fleet Record) (r : ℕ) (o x : OpenReplica) : Type 0 where
  pub fleet : Fleet Record
  pub moved : Moved f fleet r (Open x)
  pub rule : SameRule f fleet
  pub standing : IsStanding fleet r x
  pub disk : x.disk ≡ o.disk
  pub epoch : (l : Leading) → x.leading ≡ Some l → (y : Leading) × (o.leading ≡ Some y) × (l.epoch ≡ y.epoch)

module _ (f : Fleet Record) (r : ℕ) (o : OpenReplica) (w : IsWritten f r o) where
  rests_looked : looked o ≡ o → HasLooked f r o o
  rests_looked is = record {
    fleet = f;
    moved = unmoved f r (Open o) w.values w.role;
    rule = same_rule f;
    standing = record { number = w.number; told = w.told; settled = is; leads = w.leads };
    disk = refl;
    epoch = λ l lead. (l, lead, refl);
  }

  module _ (l : Leading) (lead : o.leading ≡ Some l) where
    abbrev value : Value Record
    value = value_of o.stable o.disk

    here : IsValueOf f r value
    here = subst (λ (vs : List (Value Record)). Contains vs value) (sym w.values) (first_member value [])

    number_in : quorum_number o l ≤ length o.disk.log
    number_in = omega (arith, number_within o l, ap (λ (b : Base). b.at.0 + length o.disk.log) w.start)

    -- the number is past the start of the epoch, where the log is of the epoch there
    from_start : is_of_epoch o.disk l.epoch (quorum_number o l) ≡ true → (1 ≤ quorum_number o l) × (f.start (code l.epoch) ≤ quorum_number o l)
    from_start of =
        let i = reached_invariant f w.reached in
        let is = w.leads l lead in
        let at : code l.epoch ≡ epoch_at (map entry_of o.disk.log) (quorum_number o l) = sym (ap code (is_epoch-true _ l.epoch of)) ∙ epoch_to o.disk (quorum_number o l) w.start number_in in
        let one : 1 ≤ code l.epoch = (i.branches (code l.epoch) is.appointed).positive in
        let some : 1 ≤ quorum_number o l = elim (cases_lt 0 (quorum_number o l)) [
          | inl lt ↦ lt
          | inr none ↦
              let zero_at : quorum_number o l ≡ 0 = omega (arith, none) in
              absurd (omega (arith, one, at, ap (epoch_at (map entry_of o.disk.log)) zero_at, epoch_at-zero (map entry_of o.disk.log)))
        ] in
        (some, past_start f.histories i.branches (map entry_of o.disk.log) (i.values r value here).canonical (code l.epoch) (quorum_number o l) some (omega (arith, number_in, length-map o.disk.log entry_of)) (sym at))

    more_chosen : (b : Bool) → l.active ≡ b → is_active_at o l (quorum_number o l) ≡ true → IsChosen f (code l.epoch) (max o.stable (quorum_number o l))
    more_chosen true active rises =
        let is = w.leads l lead in
        let had = is.chosen active in
        elim (cases_lt o.stable (quorum_number o l)) [
          | inl more ↦
              let most : max o.stable (quorum_number o l) ≡ quorum_number o l = omega (arith, more) in
              subst (λ (k : ℕ). IsChosen f (code l.epoch) k) (sym most) (quorum_chosen f r o l w.number w.start is (omega (arith, more)) (omega (arith, had.from, more)))
          | inr less ↦
              let most : max o.stable (quorum_number o l) ≡ o.stable = omega (arith, less) in
              subst (λ (k : ℕ). IsChosen f (code l.epoch) k) (sym most) had
        ]
    more_chosen false waits rises =
        let is = w.leads l lead in
        let of : is_of_epoch o.disk l.epoch (quorum_number o l) ≡ true = sym (ap (λ (b : Bool). b || is_of_epoch o.disk l.epoch (quorum_number o l)) waits) ∙ rises in
        let from = from_start of in
        let most : max o.stable (quorum_number o l) ≡ quorum_number o l = omega (arith, is.waits waits, from.1) in
        subst (λ (k : ℕ). IsChosen f (code l.epoch) k) (sym most) (quorum_chosen f r o l w.number w.start is from.0 from.1)

    rises_looked : (front : Fronted) → is_active_at o l (quorum_number o l) ≡ true → HasLooked f r o (risen o l (max o.stable (quorum_number o l)) front)
    rises_looked front rises =
        let i = reached_invariant f w.reached in
        let is = w.leads l lead in
        let s = max o.stable (quorum_number o l) in
        let x = risen o l s front in
        let chosen = more_chosen l.active refl rises in
        let within : s ≤ length (f.history (code l.epoch)) = chosen_within f i (code l.epoch) s is.appointed chosen in
        let agree : Agree s (f.history (code l.epoch)) (map entry_of o.disk.log) = subst (λ (log : List (Entry Record)). Agree s (f.history (code l.epoch)) log) is.all (agree_self s (f.history (code l.epoch)) within) in
        let fenced : last_epoch (map entry_of o.disk.log) ≤ code o.disk.fence = (i.values r value here).fenced in
        let low : code l.epoch ≤ code o.disk.fence = omega (arith, fenced, whole_epoch o.disk w.start, ap code is.last) in
        let safe : IsSafe f.histories f.configurations f.acknowledged (code o.disk.fence) (map entry_of o.disk.log) s = inr (code l.epoch, s, record { appointed = is.appointed; low = low; past = omega arith; chosen = chosen; agree = agree }) in
        let turn : Turn f r value (value_of s o.disk) = learns s (omega arith) safe in
        let moved : Moved f (changed_fleet f r (values_of (Open x)) (role_of (Open x)) 0) r (Open x) = one_change f r (Open x) (inr (sym (w.role ∙ role_is o l lead))) (omega arith) (all_one (λ (y : Value Record). (v : Value Record) × IsValueOf f r v × Turn f r v y) (value_of s o.disk) (value, here, turn)) in
        record {
          fleet = changed_fleet f r (values_of (Open x)) (role_of (Open x)) 0;
          moved = moved;
          rule = record { appointed = refl; current = refl; previous = refl; latest = refl; active = refl; answered = refl; told_epoch = refl; told_length = refl };
          standing = record {
            number = w.number;
            told = omega (arith, w.told);
            settled = risen_settled o l s front (omega arith);
            leads = λ y same.
                let now : active_now l ≡ y = some_same (active_now l) y same in
                subst (λ (z : Leading). IsLeading (changed_fleet f r (values_of (Open x)) (role_of (Open x)) 0) r x z) now (record {
                  coded = is.coded;
                  appointed = is.appointed;
                  last = is.last;
                  all = is.all;
                  current = is.current;
                  previous = is.previous;
                  reached = is.reached;
                  own = is.own;
                  chosen = λ a. chosen;
                  waits = λ n. absurd (true≢false n);
                });
          };
          disk = refl;
          epoch = λ y same. (l, lead, ap (λ (z : Leading). z.epoch) (sym (some_same (active_now l) y same)));
        }

    looks_leading : HasLooked f r o (looked o)
    looks_leading = elim (cases_Bool (is_active_at o l (quorum_number o l))) [
      | inl rises ↦ let x = looked_rises o l lead rises in subst (λ (y : OpenReplica). HasLooked f r o y) (sym x.1) (rises_looked x.0 rises)
      | inr waits ↦ let same = looked_rests o l lead waits in subst (λ (y : OpenReplica). HasLooked f r o y) (sym same) (rests_looked same)
    ]

  looks_any : (x : Option Leading) → o.leading ≡ x → HasLooked f r o (looked o)
  looks_any None none = let same = looked_none o none in subst (λ (y : OpenReplica). HasLooked f r o y) (sym same) (rests_looked same)
  looks_any (Some l) lead = looks_leading l lead

  -- A look is moves of the replication laws: the stable number rises to what a quorum has reached, and that is chosen.
  pub looks : HasLooked f r o (looked o)
  looks = looks_any o.leading refl
