-- What a primary has reached behind records that commit nothing: it comes to show no more.
use Rattle.std.proofs.Common.{◌≡◌, ◌∙◌, ℕ, zero, suc, ◌-◌, ◌≤◌, ◌==◌, Bool, true, false, cond, ◌⊎◌, List, [], ◌∷◌, ◌++◌, length, take, drop, Option, Some, None, refl, sym, ap, inl, inr, arith, append-nil}
use Rattle.std.specs.Prelude.{nat_le, filter, unwrap_or}
use Rattle.std.specs.Option.{option_map_or}
use Rattle.std.specs.Map.{lookup}
use Rattle.std.proofs.lemmas.Bool.{cases_lt, cases_eq, and_parts, and_from, leb-true, le-leb, false≢true, eq-eqb, ne_eqb, cond-true, cond-false}
use Rattle.std.proofs.lemmas.List.{length-append, append_assoc}
use Rattle.rc_base.specs.Quorum.{write_quorum}
use Rattle.txn_table.specs.declared.base.Base.{Base}
use Rattle.txn_table.specs.declared.committed.Committed.{Committed}
use Rattle.txn_table.specs.Commits.{one_or_none, commit_in}
use Rattle.txn_table.specs.Log.{Items, commits_from, known_from}
use Rattle.txn_table.specs.Whole.{last_position}
use Rattle.txn_table.proofs.LogGrowth.{commits_from-push}
use Rattle.replica_model.specs.OpenReplica.{OpenReplica, Leading}
use Rattle.replica_model.specs.Quorums.{reached_by, has_quorum, is_reached, greatest, quorum_number}
use Rattle.fleet_laws.specs.Counting.{count}
use Rattle.fleet_laws.proofs.Counts.{count_more}
use Rattle.fleet_run.proofs.Looking.{filter_counts}

-- ---- beginnings of what a log commits

pub commits_begin : (start : Base) (xs ys : Items) → (more : List Committed) × (commits_from start (xs ++ ys) ≡ commits_from start xs ++ more)
commits_begin start xs [] = ([], ap (commits_from start) (append-nil xs) ∙ sym (append-nil (commits_from start xs)))
commits_begin start xs (y ∷ ys) =
    let one : List Committed = one_or_none (commit_in (known_from start xs) y.1) in
    let rest = commits_begin start (xs ++ y ∷ []) ys in (
      one ++ rest.0,
      ap (commits_from start) (sym (append_assoc xs (y ∷ []) ys)) ∙ rest.1 ∙ ap (λ (cs : List Committed). cs ++ rest.0) (commits_from-push start xs (y.0, y.1)) ∙ append_assoc (commits_from start xs) one rest.0,
    )

take_drop : {A : Type 0} (n : ℕ) (xs : List A) → take n xs ++ drop n xs ≡ xs
take_drop zero xs = refl
take_drop (suc n) [] = refl
take_drop {A} (suc n) (x ∷ xs) = ap (λ (ys : List A). x ∷ ys) (take_drop n xs)

none_more : {A : Type 0} (xs ys : List A) → length (xs ++ ys) ≤ length xs → ys ≡ []
none_more xs [] le = refl
none_more xs (y ∷ ys) le = absurd (omega (arith, le, length-append xs (y ∷ ys)))

-- what stands between two beginnings that commit the same commits that
pub commits_between : (start : Base) (xs ys zs : Items) → commits_from start ((xs ++ ys) ++ zs) ≡ commits_from start xs → commits_from start (xs ++ ys) ≡ commits_from start xs
commits_between start xs ys zs same =
    let a = commits_begin start xs ys in
    let b = commits_begin start (xs ++ ys) zs in
    let none : a.0 ≡ [] = none_more (commits_from start xs) a.0 (omega (arith, ap (λ (cs : List Committed). length cs) (sym a.1), ap (λ (cs : List Committed). length cs) (sym b.1 ∙ same), length-append (commits_from start (xs ++ ys)) b.0)) in
    a.1 ∙ ap (λ (cs : List Committed). commits_from start xs ++ cs) none ∙ append-nil (commits_from start xs)

-- to each position past a log, one that commits no more has the same commits
pub commits_past : (start : Base) (log ys : Items) (n : ℕ) → length log ≤ n → commits_from start (log ++ ys) ≡ commits_from start log → commits_from start (take n (log ++ ys)) ≡ commits_from start log
commits_past start log ys n past same =
    let k : ℕ = n - length log in
    let is : take n (log ++ ys) ≡ log ++ take k ys = take_past log ys n past in
    ap (commits_from start) is ∙ commits_between start log (take k ys) (drop k ys) (ap (commits_from start) (append_assoc log (take k ys) (drop k ys) ∙ ap (λ (zs : Items). log ++ zs) (take_drop k ys)) ∙ same)
  where
    take_past : (xs zs : Items) (j : ℕ) → length xs ≤ j → take j (xs ++ zs) ≡ xs ++ take (j - length xs) zs
    take_past [] zs j le = ap (λ (i : ℕ). take i zs) (omega arith)
    take_past (x ∷ xs) zs zero le = absurd (omega (arith, le))
    take_past (x ∷ xs) zs (suc j) le = ap (λ (ws : Items). x ∷ ws) (take_past xs zs j (omega (arith, le)) ∙ ap (λ (i : ℕ). xs ++ take i zs) (omega arith))

-- ---- the greatest number that passes

least_step : (passes : ℕ → Bool) (k n : ℕ) → n ≤ suc k → passes n ≡ true → (n ≤ k → n ≤ greatest passes k) → (b : Bool) → passes (suc k) ≡ b → (n ≡ suc k) ⊎ ((n ≡ suc k) → ⊥) → n ≤ cond b (suc k) (greatest passes k)
least_step passes k n le is rest true e c = omega (arith, le)
least_step passes k n le is rest false e (inl same) = absurd (false≢true (sym e ∙ ap passes (sym same) ∙ is))
least_step passes k n le is rest false e (inr apart) = rest (elim (cases_lt k n) [ inl past ↦ absurd (apart (omega (arith, le, past))) | inr low ↦ low ])

pub greatest_least : (passes : ℕ → Bool) (bound n : ℕ) → n ≤ bound → passes n ≡ true → n ≤ greatest passes bound
greatest_least passes zero n le is = omega (arith, le)
greatest_least passes (suc k) n le is = least_step passes k n le is (λ low. greatest_least passes k n low is) (passes (suc k)) refl (cases_eq n (suc k))

greatest_is : (passes : ℕ → Bool) (bound : ℕ) → (greatest passes bound ≡ 0) ⊎ (passes (greatest passes bound) ≡ true)
greatest_is passes zero = inl refl
greatest_is passes (suc k) = by (passes (suc k)) refl (greatest_is passes k)
  where
    by : (b : Bool) → passes (suc k) ≡ b → (greatest passes k ≡ 0) ⊎ (passes (greatest passes k) ≡ true) → (cond b (suc k) (greatest passes k) ≡ 0) ⊎ (passes (cond b (suc k) (greatest passes k)) ≡ true)
    by true e rest = inr e
    by false e rest = rest

-- ---- quorums

quorum_more : (a b : ℕ → ℕ) (n k : ℕ) (members : List ℕ) → ((q : ℕ) → n ≤ a q → k ≤ b q) → has_quorum a n members ≡ true → has_quorum b k members ≡ true
quorum_more a b n k members more is =
    let had : write_quorum (length members) ≤ length (filter (λ m. nat_le n (a m)) members) = leb-true (write_quorum (length members)) (length (filter (λ m. nat_le n (a m)) members)) is in
    let grown : count (λ m. nat_le n (a m)) members ≤ count (λ m. nat_le k (b m)) members = count_more (λ m. nat_le n (a m)) (λ m. nat_le k (b m)) (λ q yes. le-leb k (b q) (more q (leb-true n (a q) yes))) members in
    le-leb (write_quorum (length members)) (length (filter (λ m. nat_le k (b m)) members)) (omega (arith, had, grown, filter_counts (λ m. nat_le n (a m)) members, filter_counts (λ m. nat_le k (b m)) members))

reached_more : (o x : OpenReplica) (l : Leading) (n k : ℕ) → ((q : ℕ) → n ≤ reached_by o l q → k ≤ reached_by x l q) → is_reached o l n ≡ true → is_reached x l k ≡ true
reached_more o x l n k more is =
    let parts = and_parts (has_quorum (reached_by o l) n l.current) (option_map_or (λ members. has_quorum (reached_by o l) n members) l.previous true) is in
    and_from (has_quorum (reached_by x l) k l.current) (option_map_or (λ members. has_quorum (reached_by x l) k members) l.previous true) (quorum_more (reached_by o l) (reached_by x l) n k l.current more parts.0) (before l.previous parts.1)
  where
    before : (p : Option (List ℕ)) → option_map_or (λ members. has_quorum (reached_by o l) n members) p true ≡ true → option_map_or (λ members. has_quorum (reached_by x l) k members) p true ≡ true
    before None is = refl
    before (Some members) is = quorum_more (reached_by o l) (reached_by x l) n k members more is

-- A longer log of the primary raises the quorum number only where all of the log before was reached.
pub number_more : (o x : OpenReplica) (l : Leading) → x.id ≡ o.id → last_position o.disk ≤ last_position x.disk → (quorum_number x l ≤ quorum_number o l) ⊎ (last_position o.disk ≤ quorum_number o l)
unfolding quorum_number
number_more o x l same longer = elim (greatest_is (is_reached x l) (last_position x.disk)) [
  | inl none ↦ inl (omega (arith, none))
  | inr passes ↦
      let n = greatest (is_reached x l) (last_position x.disk) in
      elim (cases_lt (last_position o.disk) n) [
        | inl past ↦
            inr (greatest_least (is_reached o l) (last_position o.disk) (last_position o.disk) (omega arith)
            (reached_more x o l n (last_position o.disk) (λ q le. other q n le (omega (arith, past)) (omega arith)) passes))
        | inr within ↦
            inl (greatest_least (is_reached o l) (last_position o.disk) n (omega (arith, within))
            (reached_more x o l n n (λ q le. other q n le (omega arith) (omega (arith, within))) passes))
      ]
]
  where
    other : (q n : ℕ) → n ≤ reached_by x l q → {k : ℕ} → k ≤ n → k ≤ last_position o.disk → k ≤ reached_by o l q
    other q n le {k} low own = elim (cases_eq q o.id) [
      | inl here ↦
          let at : reached_by o l q ≡ last_position o.disk = cond-true (q == o.id) (last_position o.disk) (unwrap_or (lookup (λ other. q == other) l.reached) 0) (eq-eqb q o.id here) in
          omega (arith, at, own)
      | inr apart ↦
          let at : reached_by o l q ≡ unwrap_or (lookup (λ other. q == other) l.reached) 0 = cond-false (q == o.id) (last_position o.disk) (unwrap_or (lookup (λ other. q == other) l.reached) 0) (ne_eqb q o.id apart) in
          let there : reached_by x l q ≡ unwrap_or (lookup (λ other. q == other) l.reached) 0 = cond-false (q == x.id) (last_position x.disk) (unwrap_or (lookup (λ other. q == other) l.reached) 0) (ne_eqb q x.id (λ e. apart (e ∙ same))) in
          omega (arith, at, there, le, low)
    ]
