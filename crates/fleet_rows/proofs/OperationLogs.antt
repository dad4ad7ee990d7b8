-- The log, the front and the look of a primary behind an operation: it comes to show no more.
use Rattle.std.proofs.Common.{◌≡◌, ◌∙◌, ℕ, zero, suc, ◌+◌, ◌-◌, ◌≤◌, ◌==◌, ◌||◌, max, Bool, true, false, cond, ◌⊎◌, List, [], ◌∷◌, ◌++◌, length, take, drop, Option, Some, None, refl, sym, ap, subst, inl, inr, arith, append-nil}
use Rattle.std.specs.Option.{option_map_or}
use Rattle.std.proofs.lemmas.Bool.{cases_eq, false≢true, eqb-true, eq-eqb}
use Rattle.std.proofs.lemmas.List.{length-append, take-append-le, append_assoc}
use Rattle.rc_base.specs.declared.ids.Epoch.{Epoch}
use Rattle.rc_base.specs.declared.ids.Lsn.{Lsn}
use Rattle.rc_base.specs.declared.ids.TxnId.{TxnId}
use Rattle.coll_model.specs.declared.op.Op.{Op}
use Rattle.log_records.specs.declared.record.Record.{Record}
use Rattle.log_records.specs.declared.record.Record.TheVariants.{Begin, Operation}
use Rattle.txn_table.specs.declared.base.Base.{Base}
use Rattle.txn_table.specs.declared.committed.Committed.{Committed}
use Rattle.txn_table.specs.declared.known.Known.{Known}
use Rattle.order_machine.specs.Machine.{Machine}
use Rattle.txn_table.specs.Commits.{with_txn}
use Rattle.txn_table.specs.Log.{Items, known_from, commits_from, IsLogFrom, last_epoch_from}
use Rattle.txn_table.specs.Whole.{Whole, last_position, commits_to, stable_of, stable_in}
use Rattle.txn_front.specs.Front.{Fronted, Going}
use Rattle.replica_model.specs.OpenReplica.{OpenReplica, Leading, shown_commits}
use Rattle.replica_model.specs.Quorums.{looked, quorum_number, is_of_epoch, stable_at, acknowledging, newly_shown, txns_of, unlocked_all}
use Rattle.replica_model.specs.Records.{begin_due, prev_of}
use Rattle.fleet_run.proofs.Codes.{in_epoch}
use Rattle.fleet_run.proofs.Writing.{told_behind}
use Rattle.fleet_rows.specs.Served.{BeginsOrder, IsKnownAs, told_commits}
use Rattle.fleet_rows.proofs.QuietSteps.{drop_all}
use Rattle.fleet_rows.proofs.FrontSteps.{reached_stable}
use Rattle.fleet_rows.proofs.LogRecords.{Grown, begin_grown, operation_grown}
use Rattle.fleet_rows.proofs.Reaching.{commits_begin, commits_past, number_more}

-- ---- the log

-- the records of an operation: a Begin before the first one
abbrev pub op_bodies : Lsn → TxnId → Going → Op → List Record
op_bodies last t y op = begin_due t y ++ Operation t (prev_of last y) op ∷ []

-- what goes on then
abbrev pub op_going : Lsn → TxnId → Going → Op → Going
op_going last t y op = record { last = record { 0 = last.0 + length (op_bodies last t y op) }; ops = y.ops ++ op ∷ [] }

pub grown_both : (start : Base) (a b c : Items) (t : TxnId) (g h : Going) → Grown start a b t g → Grown start b c t h → Grown start a c t h
grown_both start a b c t g h x y = record {
  rules = y.rules;
  commits = y.commits ∙ x.commits;
  own = y.own;
  others = λ u away. y.others u away ∙ x.others u away;
  epoch = y.epoch ∙ x.epoch;
}

abbrev last_of_log : Base → Items → Lsn
last_of_log start log = record { 0 = start.at.0 + length log }

first_op : (start : Base) (log : Items) (t : TxnId) (y : Going) (op : Op) → IsLogFrom start log → t.epoch ≡ last_epoch_from start log → with_txn t (known_from start log) ≡ None → y.ops ≡ []
    → Grown start log (log ++ in_epoch (last_epoch_from start log) (Begin t ∷ Operation t (record { 0 = (last_of_log start log).0 + 1 }) op ∷ [])) t (record { last = record { 0 = (last_of_log start log).0 + 2 }; ops = y.ops ++ op ∷ [] })
first_op start log t y op rules epoch none no_ops =
    let e = last_epoch_from start log in
    let log1 : Items = log ++ (e, Begin t) ∷ [] in
    let at : Lsn = record { 0 = length log + (start.at.0 + 1) } in
    let y1 : Going = record { last = at; ops = y.ops } in
    let a : Grown start log log1 t y1 = begin_grown start log t y.ops rules epoch none no_ops in
    let b = operation_grown start log1 t y1 op a.rules a.own (omega arith) in
    let place_is : (let l : Lsn = record { 0 = length log1 + (start.at.0 + 1) } in l) ≡ record { 0 = (last_of_log start log).0 + 2 } = ap (λ (n : ℕ). let l : Lsn = record { 0 = n } in l) (omega (arith, length-append log ((e, Begin t) ∷ []))) in
    let at_is : at ≡ record { 0 = (last_of_log start log).0 + 1 } = ap (λ (n : ℕ). let l : Lsn = record { 0 = n } in l) (omega arith) in
    let item : Epoch → Lsn → Items = λ (x : Epoch) (l : Lsn). log1 ++ (x, Operation t l op) ∷ [] in
    let new_is : item (last_epoch_from start log1) at ≡ log ++ in_epoch e (Begin t ∷ Operation t (record { 0 = (last_of_log start log).0 + 1 }) op ∷ []) =
    ap (λ (x : Epoch). item x at) a.epoch ∙ ap (item e) at_is ∙ append_assoc log ((e, Begin t) ∷ []) ((e, Operation t (record { 0 = (last_of_log start log).0 + 1 }) op) ∷ []) in
    subst (λ (zs : Items). Grown start log zs t (record { last = record { 0 = (last_of_log start log).0 + 2 }; ops = y.ops ++ op ∷ [] })) new_is
    (subst (λ (l : Lsn). Grown start log (item (last_epoch_from start log1) at) t (record { last = l; ops = y.ops ++ op ∷ [] })) place_is (grown_both start log log1 (item (last_epoch_from start log1) at) t y1 _ a b))

later_op : (start : Base) (log : Items) (t : TxnId) (y : Going) (op : Op) → IsLogFrom start log → IsKnownAs y (with_txn t (known_from start log)) → 1 ≤ y.last.0
    → Grown start log (log ++ in_epoch (last_epoch_from start log) (Operation t y.last op ∷ [])) t (record { last = record { 0 = (last_of_log start log).0 + 1 }; ops = y.ops ++ op ∷ [] })
later_op start log t y op rules known some =
    let b = operation_grown start log t y op rules known some in
    let place_is : (let l : Lsn = record { 0 = length log + (start.at.0 + 1) } in l) ≡ record { 0 = (last_of_log start log).0 + 1 } = ap (λ (n : ℕ). let l : Lsn = record { 0 = n } in l) (omega arith) in
    subst (λ (l : Lsn). Grown start log (log ++ in_epoch (last_epoch_from start log) (Operation t y.last op ∷ [])) t (record { last = l; ops = y.ops ++ op ∷ [] })) place_is b

unknown_first : (start : Base) (log : Items) (t : TxnId) (y : Going) → IsKnownAs y (with_txn t (known_from start log)) → y.last.0 ≡ 0 → (with_txn t (known_from start log) ≡ None) × (y.ops ≡ [])
unknown_first start log t y known zero_is = by (with_txn t (known_from start log)) refl known
  where
    by : (k : Option Known) → with_txn t (known_from start log) ≡ k → IsKnownAs y k → (with_txn t (known_from start log) ≡ None) × (y.ops ≡ [])
    by None e h = (e, h.1)
    by (Some k) e h = absurd (omega (arith, h.0, zero_is))

-- the log with the records of an operation
pub op_grown : (start : Base) (log : Items) (t : TxnId) (y : Going) (op : Op) → IsLogFrom start log → t.epoch ≡ last_epoch_from start log → IsKnownAs y (with_txn t (known_from start log))
    → Grown start log (log ++ in_epoch (last_epoch_from start log) (op_bodies (last_of_log start log) t y op)) t (op_going (last_of_log start log) t y op)
op_grown start log t y op rules epoch known = by (y.last.0 == 0) refl
  where
    last : Lsn
    last = last_of_log start log

    of : Bool → List Record
    of b = cond b (Begin t ∷ []) [] ++ Operation t (cond b (record { 0 = last.0 + 1 }) y.last) op ∷ []

    by : (b : Bool) → (y.last.0 == 0) ≡ b → Grown start log (log ++ in_epoch (last_epoch_from start log) (cond b (Begin t ∷ []) [] ++ Operation t (cond b (record { 0 = last.0 + 1 }) y.last) op ∷ [])) t (record { last = record { 0 = last.0 + length (cond b (Begin t ∷ []) [] ++ Operation t (cond b (record { 0 = last.0 + 1 }) y.last) op ∷ []) }; ops = y.ops ++ op ∷ [] })
    by true e = let no = unknown_first start log t y known (eqb-true y.last.0 0 e) in first_op start log t y op rules epoch no.0 no.1
    by false e = later_op start log t y op rules known (elim (cases_eq y.last.0 0) [
      | inl none ↦ absurd (false≢true (sym e ∙ eq-eqb y.last.0 0 none))
      | inr some ↦ omega (arith, some)
    ])

-- ---- what it tells as stable

-- what a longer log tells as stable begins what was shown, where it tells no more than that
pub told_begins : (m : Machine) (w : Whole) (ys : Items) (s : ℕ) → stable_of w ≤ s → stable_in ys ≤ s → s - w.start.at.0 ≤ length w.log → BeginsOrder m (commits_to w s) → BeginsOrder m (told_commits (record w { log = w.log ++ ys }))
told_begins m w ys s told none within b =
    let w2 : Whole = record w { log = w.log ++ ys } in
    let n = stable_of w2 in
    let less : n ≤ s = told_behind w w.fence ys s told none in
    let i : ℕ = n - w.start.at.0 in
    let j : ℕ = s - w.start.at.0 in
    let front_is : take i (w.log ++ ys) ≡ take i (take j w.log) = take-append-le i w.log ys (omega (arith, less, within)) ∙ sym (take_less i j w.log (omega (arith, less))) in
    let more = commits_begin w.start (take i (take j w.log)) (drop i (take j w.log)) in
    let all : commits_to w s ≡ told_commits w2 ++ more.0 = ap (commits_from w.start) (sym (take_drop i (take j w.log))) ∙ more.1 ∙ ap (λ (cs : List Committed). cs ++ more.0) (ap (commits_from w.start) (sym front_is)) in
    record {
      later = more.0 ++ b.later;
      entries = b.entries;
      one = b.one;
      is = b.is ∙ ap (λ (cs : List Committed). cs ++ b.later) all ∙ append_assoc (told_commits w2) more.0 b.later;
    }
  where
    take_drop : (k : ℕ) (xs : Items) → take k xs ++ drop k xs ≡ xs
    take_drop zero xs = refl
    take_drop (suc k) [] = refl
    take_drop (suc k) (x ∷ xs) = ap (λ (zs : Items). x ∷ zs) (take_drop k xs)

    take_less : (k j : ℕ) (xs : Items) → k ≤ j → take k (take j xs) ≡ take k xs
    take_less zero j xs le = refl
    take_less (suc k) zero xs le = absurd (omega (arith, le))
    take_less (suc k) (suc j) [] le = refl
    take_less (suc k) (suc j) (x ∷ xs) le = ap (λ (zs : Items). x ∷ zs) (take_less k j xs (omega (arith, le)))

pub ops_tell_nothing : (e : Epoch) (last : Lsn) (t : TxnId) (y : Going) (op : Op) (s : ℕ) → stable_in (in_epoch e (op_bodies last t y op)) ≤ s
ops_tell_nothing e last t y op s = by (y.last.0 == 0)
  where
    by : (b : Bool) → stable_in (in_epoch e (cond b (Begin t ∷ []) [] ++ Operation t (cond b (record { 0 = last.0 + 1 }) y.last) op ∷ [])) ≤ s
    by true = omega arith
    by false = omega arith

-- ---- the look

-- the commits that are shown to a position of a longer log, where it commits no more
pub shown_past : (w : Whole) (ys : Items) (s n : ℕ) → s ≤ n → s - w.start.at.0 ≤ length w.log → commits_from w.start (w.log ++ ys) ≡ commits_from w.start w.log → (n ≤ s) ⊎ (last_position w ≤ s) → commits_to (record w { log = w.log ++ ys }) n ≡ commits_to w s
shown_past w ys s n le within same (inl low) =
    let is : n ≡ s = omega (arith, le, low) in
    ap (λ (k : ℕ). commits_from w.start (take (k - w.start.at.0) (w.log ++ ys))) is ∙ ap (commits_from w.start) (take-append-le (s - w.start.at.0) w.log ys within)
shown_past w ys s n le within same (inr past) =
    commits_past w.start w.log ys (n - w.start.at.0) (omega (arith, le, past)) same
    ∙ sym (ap (commits_from w.start) (ap (take (s - w.start.at.0)) (sym (append-nil w.log))) ∙ commits_past w.start w.log [] (s - w.start.at.0) (omega (arith, past)) (ap (commits_from w.start) (append-nil w.log)))

-- the primary over the longer log, with another front
abbrev pub behind_op : OpenReplica → Items → Fronted → OpenReplica
behind_op o ys g = record o { disk = record o.disk { log = o.disk.log ++ ys }; front = g }

abbrev pub after_op : OpenReplica → Items → Fronted → ℕ → OpenReplica
after_op o ys g stable = record o { disk = record o.disk { log = o.disk.log ++ ys }; stable = stable; front = g }

-- how it looks then
pub record LooksOn (o : OpenReplica) (ys : Items) (g : Fronted) : Type 0 where
  pub stable : ℕ
  pub is : looked (behind_op o ys g) ≡ after_op o ys g stable
  pub more : o.stable ≤ stable
  pub shows : shown_commits (after_op o ys g stable) ≡ shown_commits o
  pub before : shown_commits (behind_op o ys g) ≡ shown_commits o

pub looks_on : (o : OpenReplica) (l : Leading) (ys : Items) (g : Fronted) → o.leading ≡ Some l → l.active ≡ true → looked o ≡ o → o.stable - o.disk.start.at.0 ≤ length o.disk.log → commits_from o.disk.start (o.disk.log ++ ys) ≡ commits_from o.disk.start o.disk.log → LooksOn o ys g
looks_on o l ys g lead active settled within same =
    let x = behind_op o ys g in
    let q = quorum_number x l in
    let n = max o.stable q in
    let reached = reached_stable o l lead active settled in
    let longer : last_position o.disk ≤ last_position x.disk = omega (arith, length-append o.disk.log ys) in
    let either : (n ≤ o.stable) ⊎ (last_position o.disk ≤ o.stable) = elim (number_more o x l refl longer) [
      | inl low ↦ inl (omega (arith, low, reached))
      | inr past ↦ inr (omega (arith, past, reached))
    ] in
    let shows = shown_past o.disk ys o.stable n (omega arith) within same either in
    let before = shown_past o.disk ys o.stable o.stable (omega arith) within same (inl (omega arith)) in
    let led : Leading = record l { active = true } in
    let y : OpenReplica = record x { stable = n; leading = Some led } in
    let none : newly_shown x y ≡ [] = ap (λ (cs : List Committed). drop (length cs) (shown_commits y)) before ∙ ap (drop (length (shown_commits o))) shows ∙ drop_all (shown_commits o) in
    record {
      stable = n;
      is =
          ap (λ (k : Option Leading). option_map_or (λ (z : Leading). acknowledging x (stable_at x z (quorum_number x z))) k x) lead
          ∙ ap (λ (b : Bool). acknowledging x (cond (b || is_of_epoch x.disk l.epoch q) y x)) active
          ∙ ap (λ (cs : List Committed). let z : OpenReplica = record y { front = unlocked_all g (txns_of l.epoch cs) } in z) none
          ∙ ap (λ (b : Bool). let z : OpenReplica = record x { stable = n; leading = Some (record l { active = b }) } in z) (sym active)
          ∙ ap (λ (k : Option Leading). let z : OpenReplica = record x { stable = n; leading = k } in z) (sym lead);
      more = omega arith;
      shows = shows;
      before = before;
    }
