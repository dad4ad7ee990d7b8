-- The front of a primary behind an operation, and the order that it shows.
use Rattle.std.proofs.Common.{◌≡◌, ◌∙◌, ℕ, zero, suc, ◌-◌, ◌≤◌, ◌==◌, false, List, [], ◌∷◌, ◌++◌, length, take, drop, map, get_or, Option, Some, refl, sym, ap, subst, inl, inr, arith}
use Rattle.std.specs.Prelude.{option_map, option_and_then}
use Rattle.std.specs.Option.{option_map_or}
use Rattle.std.specs.List.{cons_option}
use Rattle.std.specs.List.Sorted.{IsStrictlySortedBy}
use Rattle.std.specs.Map.{keys_of}
use Rattle.std.specs.Ordering.{nat_cmp}
use Rattle.std.proofs.lemmas.Bool.{cases_Bool, ne_eqb}
use Rattle.std.proofs.lemmas.Option.{same_Some}
use Rattle.std.proofs.lemmas.List.{length-append}
use Rattle.std.proofs.lemmas.List.Elements.{filter_map-append}
use Rattle.rc_base.specs.declared.ids.Lsn.{Lsn}
use Rattle.rc_base.specs.declared.ids.TxnId.{TxnId}
use Rattle.rc_base.specs.Ids.{is_txn}
use Rattle.rc_base.proofs.SameIds.{is_txn-true}
use Rattle.coll_model.specs.declared.op.Op.{Op}
use Rattle.coll_model.specs.Effect.{State, folded}
use Rattle.log_records.specs.declared.record.Record.{Record}
use Rattle.log_records.specs.declared.record.Record.TheVariants.{Operation}
use Rattle.txn_table.specs.declared.committed.Committed.{Committed}
use Rattle.txn_table.specs.Commits.{with_txn}
use Rattle.txn_table.specs.Log.{Items, known_from, commits_in}
use Rattle.txn_table.specs.Whole.{Whole}
use Rattle.events.specs.declared.call.Call.{Call}
use Rattle.events.specs.declared.answer.Reply.{Reply}
use Rattle.events.specs.Calls.{CallRecord, txn_named}
use Rattle.events.specs.Locking.{locks_at, taken}
use Rattle.order_machine.specs.Order.{Order, Entry, empty_order, first_of}
use Rattle.order_machine.specs.Machine.{Machine, Txn, replica, order_of, ops_of}
use Rattle.history_laws.specs.LockGuards.{ShownCommits, entry_of}
use Rattle.history_laws.proofs.CallCases.{with_call}
use Rattle.txn_front.specs.Front as front
use Rattle.txn_front.specs.Index as index
use Rattle.txn_front.specs.Front.{Fronted, Going, going_of}
use Rattle.txn_front.proofs.Entries.{rising_inserted}
use Rattle.txn_front.proofs.Fronts.{going_of-logged, going_of-logged_other, going_of-called, going_of-called_other, called_live, told_live}
use Rattle.replica_model.specs.Records.{begin_due, prev_of}
use Rattle.replica_model.specs.Steps as steps_of
use Rattle.fleet_laws.specs.Fleets.{Fleet}
use Rattle.fleet_rows.specs.Served.{BeginsOrder, IsOrderOf, IsKnownAs, IsLoggedBy}
use Rattle.fleet_rows.proofs.LogRecords.{Grown}
use Rattle.fleet_rows.proofs.OperationLogs.{op_bodies, op_going}

-- ---- the front

pub noted_some : (n : ℕ) (call : Call) (lsn : Lsn) (f : Fronted) → 1 ≤ n → steps_of.noted n call lsn f ≡ option_map_or (λ t. front.logged f t lsn) (txn_named call) f
noted_some zero call lsn f some = absurd (omega (arith, some))
noted_some (suc n) call lsn f some = refl

pub some_bodies : (last : Lsn) (t : TxnId) (y : Going) (op : Op) → 1 ≤ length (op_bodies last t y op)
some_bodies last t y op = omega (arith, length-append (begin_due t y) (Operation t (prev_of last y) op ∷ []))

-- the front behind an operation
module _ (f : Fronted) (state : State) (call : Call) (t : TxnId) (y : Going) (op : Op) (last : Lsn) (named : txn_named call ≡ Some t) (there : going_of f t ≡ Some y) (rising : IsStrictlySortedBy nat_cmp (keys_of f.live)) (told_op : option_and_then (λ (z : Reply). z.op) (front.told f state call) ≡ Some op) where
  abbrev pub now_front : Fronted
  now_front = front.logged (front.called f state call) t (op_going last t y op).last

  pub op_own : going_of now_front t ≡ Some (op_going last t y op)
  op_own =
      going_of-logged (front.called f state call) t (op_going last t y op).last
      ∙ ap (λ (o : Option Going). option_map {T = Going} {U = Going} (λ going. record going { last = (op_going last t y op).last }) o)
      (going_of-called f state call t named ∙ ap (λ (o : Option Op). option_map (λ (going : Going). index.noted going o) (going_of f t)) told_op ∙ ap (λ (o : Option Going). option_map (λ (going : Going). index.noted going (Some op)) o) there)

  pub op_other : (u : TxnId) → is_txn t u ≡ false → going_of now_front u ≡ going_of f u
  op_other u away = going_of-logged_other (front.called f state call) t (op_going last t y op).last u away ∙ going_of-called_other f state call t u named away

  -- one after the other
  called_shape : front.called f state call ≡ front.with_going t.n (record y { ops = y.ops ++ op ∷ [] }) (record f { grants = taken f.grants t (locks_at (folded state y.ops) call) })
  called_shape =
      called_live f state call t y named there
      ∙ ap (λ (o : Option Op). front.operated t.n y o (record f { grants = taken f.grants t (locks_at (folded state y.ops) call) }))
      (ap (option_and_then (λ (z : Reply). z.op)) (sym (told_live f state call t y named there)) ∙ told_op)

  now_shape : now_front ≡ front.with_going t.n (op_going last t y op) (front.called f state call)
  now_shape =
      ap (λ (o : Option Going). option_map_or (λ (going : Going). front.with_going t.n (record going { last = (op_going last t y op).last }) (front.called f state call)) o (front.called f state call))
      (going_of-called f state call t named ∙ ap (λ (o : Option Op). option_map (λ (going : Going). index.noted going o) (going_of f t)) told_op ∙ ap (λ (o : Option Going). option_map (λ (going : Going). index.noted going (Some op)) o) there)

  pub op_shape : now_front ≡ front.with_going t.n (op_going last t y op) (front.with_going t.n (record y { ops = y.ops ++ op ∷ [] }) (record f { grants = taken f.grants t (locks_at (folded state y.ops) call) }))
  op_shape = now_shape ∙ ap (λ (g : Fronted). front.with_going t.n (op_going last t y op) g) called_shape

  pub op_rising : IsStrictlySortedBy nat_cmp (keys_of now_front.live)
  op_rising = subst (λ (g : Fronted). IsStrictlySortedBy nat_cmp (keys_of g.live)) (sym op_shape) (rising_inserted t.n (op_going last t y op) _ (rising_inserted t.n (record y { ops = y.ops ++ op ∷ [] }) f.live rising))

  pub op_recorded : (z : Going) → going_of now_front t ≡ Some z → (z.last.0 == 0) ≡ (length z.ops == 0)
  op_recorded z at = subst (λ (g : Going). (g.last.0 == 0) ≡ (length g.ops == 0)) (same_Some (op_going last t y op) z (sym op_own ∙ at))
      (ne_eqb (op_going last t y op).last.0 0 (λ e. let n = some_bodies last t y op in omega (arith, e, n)) ∙ sym (ne_eqb (length (y.ops ++ op ∷ [])) 0 (λ e. let n = length-append y.ops (op ∷ []) in omega (arith, e, n))))

  -- what the log knows of it
  pub op_logged : (w : Whole) (ys : Items) → IsLoggedBy w f → t.epoch ≡ f.epoch → Grown w.start w.log (w.log ++ ys) t (op_going last t y op) → IsLoggedBy (record w { log = w.log ++ ys }) now_front
  op_logged w ys is epoch grown =
      let same_begins : now_front.begins ≡ f.begins = ap (λ (g : Fronted). g.begins) op_shape in
      let same_epoch : now_front.epoch ≡ f.epoch = ap (λ (g : Fronted). g.epoch) op_shape in
      let counted_there = is.begun t y there in
      record {
        begun = λ u z at. elim (cases_Bool (is_txn t u)) [
          | inl same ↦ let n : t.n ≡ u.n = ap (λ (k : TxnId). k.n) (is_txn-true t u same) in omega (arith, n, same_begins, counted_there)
          | inr other ↦ let n = is.begun u z (sym (op_other u other) ∙ at) in omega (arith, n, same_begins)
        ];
        each = λ u z at. elim (cases_Bool (is_txn t u)) [
          | inl same ↦
              let here : t ≡ u = is_txn-true t u same in
              subst (λ (k : TxnId). IsKnownAs z (with_txn k (known_from w.start (w.log ++ ys)))) here
              (subst (λ (g : Going). IsKnownAs g (with_txn t (known_from w.start (w.log ++ ys)))) (same_Some (op_going last t y op) z (sym op_own ∙ ap (going_of now_front) here ∙ at)) grown.own)
          | inr other ↦ subst (IsKnownAs z) (sym (grown.others u other)) (is.each u z (sym (op_other u other) ∙ at))
        ];
        counted = λ u k at of. elim (cases_Bool (is_txn t u)) [
          | inl same ↦ let n : t.n ≡ u.n = ap (λ (j : TxnId). j.n) (is_txn-true t u same) in omega (arith, n, same_begins, counted_there)
          | inr other ↦ let n = is.counted u k (sym (grown.others u other) ∙ at) (of ∙ same_epoch) in omega (arith, n, same_begins)
        ];
      }

-- the operations of a transaction with one call more
pub op_ops : (x : Txn) (c : CallRecord) (op : Op) → c.op ≡ Some op → ops_of (with_call x c) ≡ ops_of x ++ op ∷ []
op_ops x c op has = filter_map-append (λ (k : CallRecord). k.op) x.calls (c ∷ []) ∙ ap (λ (o : Option Op). ops_of x ++ cons_option o []) has

-- ---- the order that is shown

abbrev entry_back : Entry → Committed
entry_back e = record { txn = e.txn; ops = e.ops }

map_back : (cs : List Committed) → map entry_back (map entry_of cs) ≡ cs
map_back [] = refl
map_back (c ∷ cs) = ap (λ (ds : List Committed). c ∷ ds) (map_back cs)

take_entries : (n : ℕ) (cs : List Committed) → take n (map entry_of cs) ≡ map entry_of (take n cs)
take_entries zero cs = refl
take_entries (suc n) [] = refl
take_entries (suc n) (c ∷ cs) = ap (λ (es : List Entry). entry_of c ∷ es) (take_entries n cs)

take_drop : {A : Type 0} (n : ℕ) (xs : List A) → take n xs ++ drop n xs ≡ xs
take_drop zero xs = refl
take_drop (suc n) [] = refl
take_drop {A} (suc n) (x ∷ xs) = ap (λ (ys : List A). x ∷ ys) (take_drop n xs)

-- what a replica shows begins the order
pub shown_begins : (m : Machine) (f : Fleet Record) (r : ℕ) (commits : List Committed) → IsOrderOf m f → (replica m r).loss ≡ 0 → ShownCommits m r [] commits → BeginsOrder m commits
shown_begins m f r commits o loss s =
    let all = commits_in o.log in
    let n = (replica m r).show in
    let order : order_of m r ≡ record { base = 0; start = []; entries = map entry_of all } = ap (λ (l : ℕ). get_or m.orders l empty_order) loss ∙ ap (λ (os : List Order). get_or os 0 empty_order) o.one in
    let none : n - 0 ≡ n = omega arith in
    let shown : map entry_of (take n all) ≡ map entry_of commits = sym (take_entries n all) ∙ ap (λ (k : ℕ). take k (map entry_of all)) (sym none) ∙ sym (ap (λ (z : Order). first_of z n) order) ∙ s.entries in
    let is : take n all ≡ commits = sym (map_back (take n all)) ∙ ap (map entry_back) shown ∙ map_back commits in
    record { later = drop n all; entries = all; one = o.one; is = sym (take_drop n all) ∙ ap (λ (cs : List Committed). cs ++ drop n all) is }
