-- What a table stands for, after each of its calls.
use Rattle.std.proofs.Common.{append_assoc, ◌≡◌, ℕ, ◌<◌, ◌≤◌, Bool, true, false, cond, leb, List, [], ◌∷◌, ◌++◌, map, filter, Option, Some, None, refl, sym, ap, ◌∙◌, inl, inr, arith}
use Rattle.std.proofs.lemmas.List.{append-nil}
use Rattle.std.proofs.lemmas.List.Elements.{filter-append}
use Rattle.std.proofs.lemmas.Bool.{cases_lt, lt-leb, le-leb, lt-ltb, le-ltb}
use Rattle.std.specs.List.{AllByRecursion}
use Rattle.rc_base.specs.declared.ids.Lsn.{Lsn}
use Rattle.rc_base.specs.declared.ids.TxnId.{TxnId}
use Rattle.coll_model.specs.declared.op.Op.{Op}
use Rattle.log_records.specs.declared.record.Record.{Record}
use Rattle.log_records.specs.declared.record.Record.TheVariants.{Begin, Operation, End, Barrier, EpochStart}
use Rattle.log_records.specs.declared.pending.PendingTxn.{PendingTxn}
use Rattle.txn_table.specs.declared.known.Ending.{Ending}
use Rattle.txn_table.specs.declared.known.Ending.TheVariants.{ByEnd}
use Rattle.txn_table.specs.declared.known.Known.{Known}
use Rattle.txn_table.specs.declared.committed.Committed.{Committed}
use Rattle.rc_base.specs.Ids.{is_txn}
use Rattle.txn_table.specs.Commits.{Logged, commits, commits_behind, commit_in, one_or_none, txn_lt, op_at, ops_in, ending_at, ending_in, first_of, seen, begun_at, begun, put, put_all, known, is_pending, goes_on, as_pending, pending_in, pending, to, behind}
use Rattle.txn_table.specs.Tables.{State, StandsFor, RiseBetween, IsBelow, Rise, RiseByTxn, followed, with_records, position, ending_to, trimmed, cut, ends_above, recent, lesser, greater}
use Rattle.txn_table.proofs.Places.{all_put}
use Rattle.txn_table.proofs.Sorting.{InOrder, order_from_rise, order_put_all, order_filter, order_map, filter_put_all, put_all_same, put_all_append}
use Rattle.txn_table.proofs.Records.{same_known, known_append, none_if_open}

-- ---- positions

low_high : (low high : ℕ) (rs : List Logged) → RiseBetween low high rs → low ≤ high
low_high low high [] h = h
low_high low high (r ∷ rs) h = omega (arith, low_high r.0.0 high rs h.1)

-- all of them are above the position
abbrev pub Above : ℕ → List Logged → Type 0
Above lsn records = AllByRecursion (λ r. lsn < r.0.0) records

-- all of them are at or below it
abbrev pub AtMost : ℕ → List Logged → Type 0
AtMost lsn records = AllByRecursion (λ r. r.0.0 ≤ lsn) records

above_from : (lsn low high : ℕ) (rs : List Logged) → lsn ≤ low → RiseBetween low high rs → Above lsn rs
above_from lsn low high [] le h = tt
above_from lsn low high (r ∷ rs) le h = (omega arith, above_from lsn r.0.0 high rs (omega arith) h.1)

behind_above : (lsn : Lsn) (low high : ℕ) (rs : List Logged) → RiseBetween low high rs → Above lsn.0 (behind lsn rs)
behind_above lsn low high [] h = tt
behind_above lsn low high (r ∷ rs) h =
    elim (cases_lt lsn.0 r.0.0) [
      | inl lt ↦ rw (lt-leb r.0.0 lsn.0 lt) (lt, above_from lsn.0 r.0.0 high rs (omega arith) h.1)
      | inr ge ↦ rw (le-leb r.0.0 lsn.0 ge) (behind_above lsn r.0.0 high rs h.1)
    ]

to_at_most : (lsn : Lsn) (rs : List Logged) → AtMost lsn.0 (to lsn rs)
to_at_most lsn [] = tt
to_at_most lsn (r ∷ rs) =
    elim (cases_lt lsn.0 r.0.0) [
      | inl lt ↦ rw (lt-leb r.0.0 lsn.0 lt) tt
      | inr ge ↦ rw (le-leb r.0.0 lsn.0 ge) (ge, to_at_most lsn rs)
    ]

to_and_behind : (lsn : Lsn) (low high : ℕ) (rs : List Logged) → RiseBetween low high rs → to lsn rs ++ behind lsn rs ≡ rs
to_and_behind lsn low high [] h = refl
to_and_behind lsn low high (r ∷ rs) h =
    elim (cases_lt lsn.0 r.0.0) [
      | inl lt ↦ rw (lt-leb r.0.0 lsn.0 lt) refl
      | inr ge ↦ rw (le-leb r.0.0 lsn.0 ge) (ap (λ (xs : List Logged). r ∷ xs) (to_and_behind lsn r.0.0 high rs h.1))
    ]

rise_push : (low high : ℕ) (rs : List Logged) (r : Logged) → high < r.0.0 → RiseBetween low high rs → RiseBetween low r.0.0 (rs ++ r ∷ [])
rise_push low high [] r lt h = (omega arith, omega arith)
rise_push low high (x ∷ rs) r lt h = (h.0, rise_push x.0.0 high rs r lt h.1)

rise_higher : (low high higher : ℕ) (rs : List Logged) → high ≤ higher → RiseBetween low high rs → RiseBetween low higher rs
rise_higher low high higher [] le h = omega arith
rise_higher low high higher (r ∷ rs) le h = (h.0, rise_higher r.0.0 high higher rs le h.1)

lesser_of : (a b : Lsn) (n : ℕ) → n ≤ a.0 → n ≤ b.0 → n ≤ (lesser a b).0
lesser_of a b n p q = elim (leb a.0 b.0) as (λ (t : Bool). n ≤ (cond t a b).0) [ true ↦ p | false ↦ q ]

greater_left : (a b : Lsn) → a.0 ≤ (greater a b).0
greater_left a b = elim (cases_lt b.0 a.0) [ inl lt ↦ rw (lt-leb a.0 b.0 lt) (omega arith) | inr ge ↦ rw (le-leb a.0 b.0 ge) ge ]

greater_right : (a b : Lsn) → b.0 ≤ (greater a b).0
greater_right a b = elim (cases_lt b.0 a.0) [ inl lt ↦ rw (lt-leb a.0 b.0 lt) (omega arith) | inr ge ↦ rw (le-leb a.0 b.0 ge) (omega arith) ]

rise_to : (lsn last : Lsn) (low : ℕ) (rs : List Logged) → low ≤ lsn.0 → RiseBetween low last.0 rs → RiseBetween low (lesser lsn last).0 (to lsn rs)
rise_to lsn last low [] le h = lesser_of lsn last low le h
rise_to lsn last low (r ∷ rs) le h =
    elim (cases_lt lsn.0 r.0.0) [
      | inl lt ↦ rw (lt-leb r.0.0 lsn.0 lt) (lesser_of lsn last low le (omega (arith, low_high r.0.0 last.0 rs h.1)))
      | inr ge ↦ rw (le-leb r.0.0 lsn.0 ge) (h.0, rise_to lsn last r.0.0 rs ge h.1)
    ]

rise_behind : (lsn last : Lsn) (low : ℕ) (rs : List Logged) → RiseBetween low last.0 rs → RiseBetween lsn.0 (greater lsn last).0 (behind lsn rs)
rise_behind lsn last low [] h = greater_left lsn last
rise_behind lsn last low (r ∷ rs) h =
    elim (cases_lt lsn.0 r.0.0) [
      | inl lt ↦ rw (lt-leb r.0.0 lsn.0 lt) (lt, rise_higher r.0.0 last.0 (greater lsn last).0 rs (greater_right lsn last) h.1)
      | inr ge ↦ rw (le-leb r.0.0 lsn.0 ge) (rise_behind lsn last r.0.0 rs h.1)
    ]

-- ---- what is known at a position

abbrev pub EndsBy : ℕ → Option Ending → Type 0
EndsBy lsn None = Unit {0}
EndsBy lsn (Some ending) = (position ending).0 ≤ lsn

abbrev pub EndsAbove : ℕ → Option Ending → Type 0
EndsAbove lsn None = Unit {0}
EndsAbove lsn (Some ending) = lsn < (position ending).0

abbrev pub OpsTo : ℕ → List (Lsn × Op) → Type 0
OpsTo lsn ops = AllByRecursion (λ o. o.0.0 ≤ lsn) ops

-- no record of it is above the position
pub record IsWithin (lsn : ℕ) (k : Known) : Type 0 where
  pub begin : k.begin.0 ≤ lsn
  pub ops : OpsTo lsn k.ops
  pub ending : EndsBy lsn k.ending

ops_both : (lsn : ℕ) (xs ys : List (Lsn × Op)) → OpsTo lsn xs → OpsTo lsn ys → OpsTo lsn (xs ++ ys)
ops_both lsn [] ys h k = k
ops_both lsn (x ∷ xs) ys h k = (h.0, ops_both lsn xs ys h.1 k)

op_to : (txn : TxnId) (lsn : ℕ) (at : Lsn) (body : Record) → at.0 ≤ lsn → OpsTo lsn (op_at txn at body)
op_to txn lsn at (Begin other) le = tt
op_to txn lsn at (Operation other prev op) le = elim (is_txn other txn) as (λ b. OpsTo lsn (cond b ((at, op) ∷ []) [])) [ true ↦ (le, tt) | false ↦ tt ]
op_to txn lsn at (End other prev committed) le = tt
op_to txn lsn at (Barrier stable) le = tt
op_to txn lsn at (EpochStart epoch) le = tt

ops_to : (txn : TxnId) (lsn : ℕ) (xs : List Logged) → AtMost lsn xs → OpsTo lsn (ops_in txn xs)
ops_to txn lsn [] h = tt
ops_to txn lsn (r ∷ xs) h = ops_both lsn (op_at txn r.0 r.1) (ops_in txn xs) (op_to txn lsn r.0 r.1 h.0) (ops_to txn lsn xs h.1)

first_by : (lsn : ℕ) (a b : Option Ending) → EndsBy lsn a → EndsBy lsn b → EndsBy lsn (first_of a b)
first_by lsn None b h k = k
first_by lsn (Some e) b h k = h

end_by : (txn : TxnId) (lsn : ℕ) (at : Lsn) (body : Record) → at.0 ≤ lsn → EndsBy lsn (ending_at txn at body)
end_by txn lsn at (Begin other) le = tt
end_by txn lsn at (Operation other prev op) le = tt
end_by txn lsn at (End other prev committed) le = elim (is_txn other txn) as (λ b. EndsBy lsn (cond b (Some (ByEnd at)) None)) [ true ↦ le | false ↦ tt ]
end_by txn lsn at (Barrier stable) le = tt
end_by txn lsn at (EpochStart epoch) le = le

ends_by : (txn : TxnId) (lsn : ℕ) (xs : List Logged) → AtMost lsn xs → EndsBy lsn (ending_in txn xs)
ends_by txn lsn [] h = tt
ends_by txn lsn (r ∷ xs) h = first_by lsn (ending_at txn r.0 r.1) (ending_in txn xs) (end_by txn lsn r.0 r.1 h.0) (ends_by txn lsn xs h.1)

first_above : (lsn : ℕ) (a b : Option Ending) → EndsAbove lsn a → EndsAbove lsn b → EndsAbove lsn (first_of a b)
first_above lsn None b h k = k
first_above lsn (Some e) b h k = h

end_above : (txn : TxnId) (lsn : ℕ) (at : Lsn) (body : Record) → lsn < at.0 → EndsAbove lsn (ending_at txn at body)
end_above txn lsn at (Begin other) lt = tt
end_above txn lsn at (Operation other prev op) lt = tt
end_above txn lsn at (End other prev committed) lt = elim (is_txn other txn) as (λ b. EndsAbove lsn (cond b (Some (ByEnd at)) None)) [ true ↦ lt | false ↦ tt ]
end_above txn lsn at (Barrier stable) lt = tt
end_above txn lsn at (EpochStart epoch) lt = lt

all_end_above : (txn : TxnId) (lsn : ℕ) (ys : List Logged) → Above lsn ys → EndsAbove lsn (ending_in txn ys)
all_end_above txn lsn [] h = tt
all_end_above txn lsn (r ∷ ys) h = first_above lsn (ending_at txn r.0 r.1) (ending_in txn ys) (end_above txn lsn r.0 r.1 h.0) (all_end_above txn lsn ys h.1)

seen_within : (lsn : ℕ) (xs : List Logged) (p : PendingTxn) → AtMost lsn xs → p.begin.0 ≤ lsn → OpsTo lsn p.ops → IsWithin lsn (seen xs p)
seen_within lsn xs p h b o = record { begin = b; ops = ops_both lsn p.ops (ops_in p.txn xs) o (ops_to p.txn lsn xs h); ending = ends_by p.txn lsn xs h }

ops_higher : (low high : ℕ) (ops : List (Lsn × Op)) → low ≤ high → OpsTo low ops → OpsTo high ops
ops_higher low high [] le h = tt
ops_higher low high (o ∷ ops) le h = (omega arith, ops_higher low high ops le h.1)

base_within : (floor lsn : ℕ) (xs : List Logged) (base : List PendingTxn) → floor ≤ lsn → AtMost lsn xs → AllByRecursion (IsBelow floor) base → AllByRecursion (IsWithin lsn) (map (seen xs) base)
base_within floor lsn xs [] le h b = tt
base_within floor lsn xs (p ∷ base) le h b = (seen_within lsn xs p h (omega (arith, b.0.begin)) (ops_higher floor lsn p.ops le b.0.ops), base_within floor lsn xs base le h b.1)

all_both : (P : Known → Type 0) (xs ys : List Known) → AllByRecursion P xs → AllByRecursion P ys → AllByRecursion P (xs ++ ys)
all_both P [] ys h k = k
all_both P (x ∷ xs) ys h k = (h.0, all_both P xs ys h.1 k)

begun_at_within : (lsn : ℕ) (at : Lsn) (body : Record) (xs : List Logged) → at.0 ≤ lsn → AtMost lsn xs → AllByRecursion (IsWithin lsn) (begun_at at body xs)
begun_at_within lsn at (Begin txn) xs le h = (seen_within lsn xs (record { txn = txn; begin = at; ops = [] }) h le tt, tt)
begun_at_within lsn at (Operation txn prev op) xs le h = tt
begun_at_within lsn at (End txn prev committed) xs le h = tt
begun_at_within lsn at (Barrier stable) xs le h = tt
begun_at_within lsn at (EpochStart epoch) xs le h = tt

begun_within : (lsn : ℕ) (xs : List Logged) → AtMost lsn xs → AllByRecursion (IsWithin lsn) (begun xs)
begun_within lsn [] h = tt
begun_within lsn (r ∷ xs) h = all_both (IsWithin lsn) (begun_at r.0 r.1 xs) (begun xs) (begun_at_within lsn r.0 r.1 xs h.0 h.1) (begun_within lsn xs h.1)

all_put_all : (P : Known → Type 0) (acc ks : List Known) → AllByRecursion P acc → AllByRecursion P ks → AllByRecursion P (put_all acc ks)
all_put_all P acc [] h k = h
all_put_all P acc (x ∷ ks) h k = all_put_all P (put x acc) ks (all_put P x acc k.0 h) k.1

known_within : (floor lsn : ℕ) (base : List PendingTxn) (xs : List Logged) → floor ≤ lsn → AtMost lsn xs → AllByRecursion (IsBelow floor) base → AllByRecursion (IsWithin lsn) (known base xs)
known_within floor lsn base xs le h b = all_put_all (IsWithin lsn) [] (map (seen xs) base ++ begun xs) tt (all_both (IsWithin lsn) (map (seen xs) base) (begun xs) (base_within floor lsn xs base le h b) (begun_within lsn xs h))

-- ---- what begins above a position

begun_at_above : (lsn : ℕ) (at : Lsn) (body : Record) (ys : List Logged) → lsn < at.0 → Above lsn ys → AllByRecursion (λ k. (lsn < k.begin.0) × EndsAbove lsn k.ending) (begun_at at body ys)
begun_at_above lsn at (Begin txn) ys lt h = ((lt, all_end_above txn lsn ys h), tt)
begun_at_above lsn at (Operation txn prev op) ys lt h = tt
begun_at_above lsn at (End txn prev committed) ys lt h = tt
begun_at_above lsn at (Barrier stable) ys lt h = tt
begun_at_above lsn at (EpochStart epoch) ys lt h = tt

begun_above : (lsn : ℕ) (ys : List Logged) → Above lsn ys → AllByRecursion (λ k. (lsn < k.begin.0) × EndsAbove lsn k.ending) (begun ys)
begun_above lsn [] h = tt
begun_above lsn (r ∷ ys) h = all_both (λ k. (lsn < k.begin.0) × EndsAbove lsn k.ending) (begun_at r.0 r.1 ys) (begun ys) (begun_at_above lsn r.0 r.1 ys h.0 h.1) (begun_above lsn ys h.1)

-- ---- a cut

ops_none : (txn : TxnId) (lsn at : Lsn) (body : Record) → lsn.0 < at.0 → filter (λ o. leb o.0.0 lsn.0) (op_at txn at body) ≡ []
ops_none txn lsn at (Begin other) lt = refl
ops_none txn lsn at (Operation other prev op) lt =
    elim (is_txn other txn) as (λ b. filter (λ (o : Lsn × Op). leb o.0.0 lsn.0) (cond b ((at, op) ∷ []) []) ≡ []) [
      | true ↦ rw (lt-leb at.0 lsn.0 lt) refl
      | false ↦ refl
    ]
ops_none txn lsn at (End other prev committed) lt = refl
ops_none txn lsn at (Barrier stable) lt = refl
ops_none txn lsn at (EpochStart epoch) lt = refl

all_ops_none : (txn : TxnId) (lsn : Lsn) (ys : List Logged) → Above lsn.0 ys → filter (λ o. leb o.0.0 lsn.0) (ops_in txn ys) ≡ []
all_ops_none txn lsn [] h = refl
all_ops_none txn lsn (r ∷ ys) h =
    filter-append (λ (o : Lsn × Op). leb o.0.0 lsn.0) (op_at txn r.0 r.1) (ops_in txn ys)
    ∙ ap (λ (os : List (Lsn × Op)). os ++ filter (λ (o : Lsn × Op). leb o.0.0 lsn.0) (ops_in txn ys)) (ops_none txn lsn r.0 r.1 h.0)
    ∙ all_ops_none txn lsn ys h.1

ops_kept : (lsn : Lsn) (ops : List (Lsn × Op)) → OpsTo lsn.0 ops → filter (λ o. leb o.0.0 lsn.0) ops ≡ ops
ops_kept lsn [] h = refl
ops_kept lsn (o ∷ ops) h = rw (le-leb o.0.0 lsn.0 h.0) (ap (λ (os : List (Lsn × Op)). o ∷ os) (ops_kept lsn ops h.1))

no_end : (lsn : Lsn) (e : Option Ending) → EndsAbove lsn.0 e → ending_to lsn e ≡ None
no_end lsn None h = refl
no_end lsn (Some e) h = rw (lt-leb (position e).0 lsn.0 h) refl

end_kept : (lsn : Lsn) (a b : Option Ending) → EndsBy lsn.0 a → EndsAbove lsn.0 b → ending_to lsn (first_of a b) ≡ a
end_kept lsn None b h k = no_end lsn b k
end_kept lsn (Some e) b h k = rw (le-leb (position e).0 lsn.0 h) refl

trim_back : (lsn : Lsn) (ys : List Logged) (k : Known) → Above lsn.0 ys → IsWithin lsn.0 k → trimmed lsn (followed ys k) ≡ k
trim_back lsn ys k h w =
    same_known k.txn k.begin _ _ _ _
    (filter-append (λ (o : Lsn × Op). leb o.0.0 lsn.0) k.ops (ops_in k.txn ys)
    ∙ ap (λ (os : List (Lsn × Op)). filter (λ (o : Lsn × Op). leb o.0.0 lsn.0) k.ops ++ os) (all_ops_none k.txn lsn ys h)
    ∙ append-nil (filter (λ (o : Lsn × Op). leb o.0.0 lsn.0) k.ops)
    ∙ ops_kept lsn k.ops w.ops)
    (end_kept lsn k.ending (ending_in k.txn ys) w.ending (all_end_above k.txn lsn.0 ys h))

trim_all_back : (lsn : Lsn) (ys : List Logged) (ks : List Known) → Above lsn.0 ys → AllByRecursion (IsWithin lsn.0) ks → map (trimmed lsn) (map (followed ys) ks) ≡ ks
trim_all_back lsn ys [] h w = refl
trim_all_back lsn ys (k ∷ ks) h w =
    ap (λ (x : Known). x ∷ map (trimmed lsn) (map (followed ys) ks)) (trim_back lsn ys k h w.0)
    ∙ ap (λ (xs : List Known). k ∷ xs) (trim_all_back lsn ys ks h w.1)

begun_kept : (lsn : Lsn) (ys : List Logged) (ks : List Known) → AllByRecursion (IsWithin lsn.0) ks → filter (λ k. leb k.begin.0 lsn.0) (map (followed ys) ks) ≡ map (followed ys) ks
begun_kept lsn ys [] w = refl
begun_kept lsn ys (k ∷ ks) w = rw (le-leb k.begin.0 lsn.0 w.0.begin) (ap (λ (xs : List Known). followed ys k ∷ xs) (begun_kept lsn ys ks w.1))

none_begun : (lsn : Lsn) (ks : List Known) → AllByRecursion (λ k. (lsn.0 < k.begin.0) × EndsAbove lsn.0 k.ending) ks → filter (λ k. leb k.begin.0 lsn.0) ks ≡ []
none_begun lsn [] h = refl
none_begun lsn (k ∷ ks) h = rw (lt-leb k.begin.0 lsn.0 h.0.0) (none_begun lsn ks h.1)

in_order : (base : List PendingTxn) (xs ys : List Logged) → InOrder (map (followed ys) (known base xs))
in_order base xs ys = order_map (followed ys) (λ k. refl) (known base xs) (order_put_all [] (map (seen xs) base ++ begun xs) tt)

cut_back : (lsn : Lsn) (base : List PendingTxn) (xs ys : List Logged) → Above lsn.0 ys → AllByRecursion (IsWithin lsn.0) (known base xs) → cut lsn (known base (xs ++ ys)) ≡ known base xs
cut_back lsn base xs ys h w =
    let k : List Known = known base xs in
    let p : Known → Bool = λ k. leb k.begin.0 lsn.0 in
    ap (cut lsn) (known_append base xs ys)
    ∙ ap (map (trimmed lsn)) (filter_put_all p (map (followed ys) k) (begun ys) (in_order base xs ys)
    ∙ ap (put_all (filter p (map (followed ys) k))) (none_begun lsn (begun ys) (begun_above lsn.0 ys h))
    ∙ begun_kept lsn ys k w)
    ∙ trim_all_back lsn ys k h w

-- what was known at a position
pub cut_is : (floor lsn : Lsn) (high : ℕ) (base : List PendingTxn) (rs : List Logged) → floor.0 ≤ lsn.0 → RiseBetween floor.0 high rs → AllByRecursion (IsBelow floor.0) base → cut lsn (known base rs) ≡ known base (to lsn rs)
cut_is floor lsn high base rs le h b =
    ap (λ (xs : List Logged). cut lsn (known base xs)) (sym (to_and_behind lsn floor.0 high rs h))
    ∙ cut_back lsn base (to lsn rs) (behind lsn rs) (behind_above lsn floor.0 high rs h) (known_within floor.0 lsn.0 base (to lsn rs) le (to_at_most lsn rs) b)

-- ---- a raised floor

ends_test : (lsn : Lsn) (e : Option Ending) → EndsAbove lsn.0 e → ends_above lsn e ≡ true
ends_test lsn None h = refl
ends_test lsn (Some e) h = lt-ltb lsn.0 (position e).0 h

ends_not : (lsn : Lsn) (e : Ending) → (position e).0 ≤ lsn.0 → ends_above lsn (Some e) ≡ false
ends_not lsn e h = le-ltb lsn.0 (position e).0 h

all_recent : (lsn : Lsn) (ks : List Known) → AllByRecursion (λ k. (lsn.0 < k.begin.0) × EndsAbove lsn.0 k.ending) ks → recent lsn ks ≡ ks
all_recent lsn [] h = refl
all_recent lsn (k ∷ ks) h = rw (ends_test lsn k.ending h.0.1) (ap (λ (xs : List Known). k ∷ xs) (all_recent lsn ks h.1))

ends_same : (lsn : Lsn) (a b : Option Ending) → EndsBy lsn.0 a → EndsAbove lsn.0 b → ends_above lsn (first_of a b) ≡ goes_on a
ends_same lsn None b h k = ends_test lsn b k
ends_same lsn (Some e) b h k = ends_not lsn e h

recent_step : (lsn : Lsn) (ys : List Logged) (k : Known) (ks : List Known) → ends_above lsn (followed ys k).ending ≡ is_pending k → recent lsn (map (followed ys) ks) ≡ map (followed ys) (filter is_pending ks) → (b : Bool) → is_pending k ≡ b → recent lsn (map (followed ys) (k ∷ ks)) ≡ map (followed ys) (filter is_pending (k ∷ ks))
recent_step lsn ys k ks e ih true h = rw (e, h) (ap (λ (xs : List Known). followed ys k ∷ xs) ih)
recent_step lsn ys k ks e ih false h = rw (e, h) ih

recent_map : (lsn : Lsn) (ys : List Logged) (ks : List Known) → Above lsn.0 ys → AllByRecursion (IsWithin lsn.0) ks → recent lsn (map (followed ys) ks) ≡ map (followed ys) (filter is_pending ks)
recent_map lsn ys [] h w = refl
recent_map lsn ys (k ∷ ks) h w = recent_step lsn ys k ks (ends_same lsn k.ending (ending_in k.txn ys) w.0.ending (all_end_above k.txn lsn.0 ys h)) (recent_map lsn ys ks h w.1) (is_pending k) refl

open_seen : (ys : List Logged) (k : Known) → is_pending k ≡ true → seen ys (as_pending k) ≡ followed ys k
open_seen ys k h = same_known k.txn k.begin _ _ _ _ refl (ap (λ (e : Option Ending). first_of e (ending_in k.txn ys)) (sym (none_if_open k.ending h)))

seen_step : (ys : List Logged) (k : Known) (ks : List Known) → map (seen ys) (map as_pending (filter is_pending ks)) ≡ map (followed ys) (filter is_pending ks) → (b : Bool) → is_pending k ≡ b → map (seen ys) (map as_pending (filter is_pending (k ∷ ks))) ≡ map (followed ys) (filter is_pending (k ∷ ks))
seen_step ys k ks ih true h = rw h (ap (λ (x : Known). x ∷ map (seen ys) (map as_pending (filter is_pending ks))) (open_seen ys k h) ∙ ap (λ (xs : List Known). followed ys k ∷ xs) ih)
seen_step ys k ks ih false h = rw h ih

seen_again : (ys : List Logged) (ks : List Known) → map (seen ys) (pending_in ks) ≡ map (followed ys) (filter is_pending ks)
seen_again ys [] = refl
seen_again ys (k ∷ ks) = seen_step ys k ks (seen_again ys ks) (is_pending k) refl

recent_back : (lsn : Lsn) (base : List PendingTxn) (xs ys : List Logged) → Above lsn.0 ys → AllByRecursion (IsWithin lsn.0) (known base xs) → recent lsn (known base (xs ++ ys)) ≡ known (pending base xs) ys
recent_back lsn base xs ys h w =
    let k : List Known = known base xs in
    let p : Known → Bool = λ k. ends_above lsn k.ending in
    let order : InOrder k = order_put_all [] (map (seen xs) base ++ begun xs) tt in
    let kept : List Known = map (followed ys) (filter is_pending k) in
    let kept_order : InOrder kept = order_map (followed ys) (λ k. refl) (filter is_pending k) (order_filter is_pending k order) in
    ap (recent lsn) (known_append base xs ys)
    ∙ filter_put_all p (map (followed ys) k) (begun ys) (in_order base xs ys)
    ∙ ap (put_all (filter p (map (followed ys) k))) (all_recent lsn (begun ys) (begun_above lsn.0 ys h))
    ∙ ap (λ (zs : List Known). put_all zs (begun ys)) (recent_map lsn ys k h w)
    ∙ ap (λ (zs : List Known). put_all zs (begun ys)) (sym (put_all_same kept kept_order))
    ∙ sym (put_all_append [] kept (begun ys))
    ∙ ap (λ (zs : List Known). put_all [] (zs ++ begun ys)) (sym (seen_again ys k))

pub recent_is : (floor lsn : Lsn) (high : ℕ) (base : List PendingTxn) (rs : List Logged) → floor.0 ≤ lsn.0 → RiseBetween floor.0 high rs → AllByRecursion (IsBelow floor.0) base → recent lsn (known base rs) ≡ known (pending base (to lsn rs)) (behind lsn rs)
recent_is floor lsn high base rs le h b =
    ap (λ (xs : List Logged). recent lsn (known base xs)) (sym (to_and_behind lsn floor.0 high rs h))
    ∙ recent_back lsn base (to lsn rs) (behind lsn rs) (behind_above lsn floor.0 high rs h) (known_within floor.0 lsn.0 base (to lsn rs) le (to_at_most lsn rs) b)

below_step : (lsn : ℕ) (k : Known) (ks : List Known) → IsWithin lsn k → AllByRecursion (IsBelow lsn) (pending_in ks) → (b : Bool) → is_pending k ≡ b → AllByRecursion (IsBelow lsn) (pending_in (k ∷ ks))
below_step lsn k ks w ih true h = rw h (record { begin = w.begin; ops = w.ops }, ih)
below_step lsn k ks w ih false h = rw h ih

pending_below : (lsn : ℕ) (ks : List Known) → AllByRecursion (IsWithin lsn) ks → AllByRecursion (IsBelow lsn) (pending_in ks)
pending_below lsn [] w = tt
pending_below lsn (k ∷ ks) w = below_step lsn k ks w.0 (pending_below lsn ks w.1) (is_pending k) refl

-- ---- tables

all_lt_seen : (txn : TxnId) (base : List PendingTxn) → AllByRecursion (λ p. txn_lt txn p.txn ≡ true) base → AllByRecursion (λ k. txn_lt txn k.txn ≡ true) (map (seen []) base)
all_lt_seen txn [] h = tt
all_lt_seen txn (p ∷ base) h = (h.0, all_lt_seen txn base h.1)

pub rise_seen : (base : List PendingTxn) → RiseByTxn base → Rise (map (seen []) base)
rise_seen [] h = tt
rise_seen (p ∷ base) h = (all_lt_seen p.txn base h.0, rise_seen base h.1)

pub stands_new : (at : Lsn) (base : List PendingTxn) → RiseByTxn base → AllByRecursion (IsBelow at.0) base → StandsFor (record { floor = at; last = at; txns = map (seen []) base }) base []
stands_new at base r b = record {
  txns = sym (ap (put_all []) (append-nil (map (seen []) base)) ∙ put_all_same (map (seen []) base) (order_from_rise (map (seen []) base) (rise_seen base r)));
  rise = omega arith;
  base_below = b;
}

pub stands_taken : (t : State) (base : List PendingTxn) (rs : List Logged) (lsn : Lsn) (body : Record) → t.last.0 < lsn.0 → StandsFor t base rs → StandsFor (record { floor = t.floor; last = lsn; txns = with_records t.txns ((lsn, body) ∷ []) }) base (rs ++ (lsn, body) ∷ [])
stands_taken t base rs lsn body lt s = record {
  txns = ap (λ (ks : List Known). with_records ks ((lsn, body) ∷ [])) s.txns ∙ sym (known_append base rs ((lsn, body) ∷ []));
  rise = rise_push t.floor.0 t.last.0 rs (lsn, body) lt s.rise;
  base_below = s.base_below;
}

pub stands_cut : (t : State) (base : List PendingTxn) (rs : List Logged) (lsn : Lsn) → t.floor.0 ≤ lsn.0 → StandsFor t base rs → StandsFor (record { floor = t.floor; last = lesser lsn t.last; txns = cut lsn t.txns }) base (to lsn rs)
stands_cut t base rs lsn le s = record {
  txns = ap (cut lsn) s.txns ∙ cut_is t.floor lsn t.last.0 base rs le s.rise s.base_below;
  rise = rise_to lsn t.last t.floor.0 rs le s.rise;
  base_below = s.base_below;
}

pub stands_recent : (t : State) (base : List PendingTxn) (rs : List Logged) (lsn : Lsn) → t.floor.0 < lsn.0 → StandsFor t base rs → StandsFor (record { floor = lsn; last = greater lsn t.last; txns = recent lsn t.txns }) (pending base (to lsn rs)) (behind lsn rs)
stands_recent t base rs lsn lt s =
    let le : t.floor.0 ≤ lsn.0 = omega arith in
    record {
      txns = ap (recent lsn) s.txns ∙ recent_is t.floor lsn t.last.0 base rs le s.rise s.base_below;
      rise = rise_behind lsn t.last t.floor.0 rs s.rise;
      base_below = pending_below lsn.0 (known base (to lsn rs)) (known_within t.floor.0 lsn.0 base (to lsn rs) le (to_at_most lsn rs) s.base_below);
    }

-- what is pending at a position
pub pending_is : (t : State) (base : List PendingTxn) (rs : List Logged) (lsn : Lsn) → t.floor.0 ≤ lsn.0 → StandsFor t base rs → pending_in (cut lsn t.txns) ≡ pending base (to lsn rs)
pending_is t base rs lsn le s = ap pending_in (ap (cut lsn) s.txns ∙ cut_is t.floor lsn t.last.0 base rs le s.rise s.base_below)

-- ---- commits

commits_more : (base : List PendingTxn) (before rs : List Logged) (r : Logged) → commits_behind base before (rs ++ r ∷ []) ≡ commits_behind base before rs ++ one_or_none (commit_in (known base (before ++ rs)) r.1)
commits_more base before [] r =
    append-nil (one_or_none (commit_in (known base before) r.1))
    ∙ ap (λ (xs : List Logged). one_or_none (commit_in (known base xs) r.1)) (sym (append-nil before))
commits_more base before (x ∷ rs) r =
    let here : List Committed = one_or_none (commit_in (known base before) x.1) in
    ap (λ (cs : List Committed). here ++ cs) (commits_more base (before ++ x ∷ []) rs r)
    ∙ sym (append_assoc here (commits_behind base (before ++ x ∷ []) rs) (one_or_none (commit_in (known base ((before ++ x ∷ []) ++ rs)) r.1)))
    ∙ ap (λ (xs : List Logged). (here ++ commits_behind base (before ++ x ∷ []) rs) ++ one_or_none (commit_in (known base xs) r.1)) (append_assoc before (x ∷ []) rs)

-- what commits with one more record comes behind what committed before
pub commits_push : (base : List PendingTxn) (rs : List Logged) (r : Logged) → commits base (rs ++ r ∷ []) ≡ commits base rs ++ one_or_none (commit_in (known base rs) r.1)
commits_push base rs r = commits_more base [] rs r
