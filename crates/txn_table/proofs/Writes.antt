-- On what the steps of a table write.
use Rattle.std.proofs.Common.{◌≡◌, ℕ, zero, suc, ◌+◌, ◌<◌, Bool, true, false, cond, leb, ◌&&◌, List, [], ◌∷◌, ◌++◌, length, map, drop, set, get_or, Option, Some, None, refl, sym, ap, subst, ◌∙◌, append_assoc, add-one, inl, inr, arith}
use Rattle.std.proofs.Math.Seq.{drop-cons}
use Rattle.std.proofs.lemmas.Option.{get_or_from_slice_get}
use Rattle.std.proofs.lemmas.Bool.{cases_lt, lt-leb, le-leb, lt-ltb, le-ltb}
use Rattle.std.specs.List.{slice_get, insert}
use Rattle.rc_base.specs.declared.ids.Lsn.{Lsn}
use Rattle.rc_base.specs.declared.ids.TxnId.{TxnId}
use Rattle.coll_model.specs.declared.op.Op.{Op}
use Rattle.log_records.specs.declared.record.Record.TheVariants.{Begin, Operation, End}
use Rattle.log_records.specs.declared.pending.PendingTxn.{PendingTxn}
use Rattle.txn_table.specs.declared.known.Ending.{Ending}
use Rattle.txn_table.specs.declared.known.Ending.TheVariants.{ByEnd}
use Rattle.txn_table.specs.declared.known.Known.{Known}
use Rattle.rc_base.specs.Ids.{is_txn}
use Rattle.rc_base.proofs.SameIds.{is_txn_flip}
use Rattle.txn_table.specs.Commits.{last_position, with_txn, ops_of, put, seen, is_pending, goes_on, as_pending, pending_in}
use Rattle.txn_table.specs.Tables.{Rise, place, IsLinkedAt, followed, with_records, position, ending_to, trimmed, cut, ends_above}
use Rattle.txn_table.proofs.Places.{changed, known_here, put_is, rise_put}
use Rattle.txn_table.proofs.Records.{begin_changes_none, operation_of_other, operation_of_own, end_of_other, end_of_own}

pub last_is : (begin : Lsn) (ops : List (Lsn × Op)) (n : ℕ) (o : Lsn × Op) → n + 1 ≡ length ops → slice_get ops n ≡ Some o → o.0 ≡ last_position begin ops
last_is begin [] n o e g = absurd (omega arith)
last_is begin (x ∷ []) zero o e g = let h : x ≡ o = cc in ap (λ (y : Lsn × Op). y.0) (sym h)
last_is begin (x ∷ []) (suc n) o e g = absurd (omega arith)
last_is begin (x ∷ y ∷ ops) zero o e g = absurd (omega arith)
last_is begin (x ∷ y ∷ ops) (suc n) o e g = last_is x.0 (y ∷ ops) n o (omega arith) g

-- what is read at the place of a linked transaction
linked_is : (ks : List Known) (txn : TxnId) (prev : Lsn) (at : ℕ) (r : Known) → (l : IsLinkedAt ks txn prev at) → r ≡ get_or ks at r → r ≡ l.0
linked_is ks txn prev at r l e = e ∙ get_or_from_slice_get ks at l.0 r l.1

pub linked_ops : (ks : List Known) (txn : TxnId) (prev : Lsn) (at : ℕ) (r : Known) → Rise ks → IsLinkedAt ks txn prev at → r ≡ get_or ks at r → ops_of (with_txn txn ks) ≡ map (λ o. o.1) r.ops
linked_ops ks txn prev at r h l e =
    ap ops_of (known_here txn ks at l.0 h l.2 l.1 l.3)
    ∙ ap (λ (k : Known). map (λ (o : Lsn × Op). o.1) k.ops) (sym (linked_is ks txn prev at r l e))

written : (f : Known → Known) (txn : TxnId) → ((o : Known) → is_txn txn o.txn ≡ false → f o ≡ o) → (ks : List Known) (prev : Lsn) (at : ℕ) (new : Known) → Rise ks → (l : IsLinkedAt ks txn prev at) → new ≡ f l.0 → set ks at new ≡ map f ks
written f txn g ks prev at new h l e =
    ap (λ (k : Known). set ks at k) e
    ∙ ap (λ (n : ℕ). set ks n (f l.0)) l.2
    ∙ sym (changed f txn g l.0 ks h l.3 (ap (slice_get ks) (sym l.2) ∙ l.1))

pub operation_written : (lsn prev : Lsn) (txn : TxnId) (op : Op) (ks : List Known) (at : ℕ) (r : Known) (ops : List (Lsn × Op)) → Rise ks → IsLinkedAt ks txn prev at → r ≡ get_or ks at r → ops ≡ r.ops ++ (lsn, op) ∷ [] → set ks at (record { txn = r.txn; begin = r.begin; ops = ops; ending = r.ending }) ≡ map (followed ((lsn, Operation txn prev op) ∷ [])) ks
operation_written lsn prev txn op ks at r ops h l e o =
    let same : r ≡ l.0 = linked_is ks txn prev at r l e in
    let own : is_txn txn r.txn ≡ true = is_txn_flip txn r.txn ∙ ap (λ (k : Known). is_txn k.txn txn) same ∙ l.3 in
    let f : Known → Known = followed ((lsn, Operation txn prev op) ∷ []) in
    written f txn (operation_of_other lsn prev txn op) ks prev at (record { txn = r.txn; begin = r.begin; ops = ops; ending = r.ending }) h l
    (ap (λ (os : List (Lsn × Op)). let k : Known = record { txn = r.txn; begin = r.begin; ops = os; ending = r.ending } in k) o
    ∙ sym (operation_of_own lsn prev txn op r own)
    ∙ ap f same)

pub end_written : (lsn prev : Lsn) (txn : TxnId) (committed : Bool) (ks : List Known) (at : ℕ) (r : Known) → Rise ks → IsLinkedAt ks txn prev at → r ≡ get_or ks at r → set ks at (record { txn = r.txn; begin = r.begin; ops = r.ops; ending = Some (ByEnd lsn) }) ≡ map (followed ((lsn, End txn prev committed) ∷ [])) ks
end_written lsn prev txn committed ks at r h l e =
    let same : r ≡ l.0 = linked_is ks txn prev at r l e in
    let own : is_txn txn r.txn ≡ true = is_txn_flip txn r.txn ∙ ap (λ (k : Known). is_txn k.txn txn) same ∙ l.3 in
    let going : is_pending r ≡ true = ap (λ (k : Known). is_pending k) same ∙ l.4 in
    let f : Known → Known = followed ((lsn, End txn prev committed) ∷ []) in
    written f txn (end_of_other lsn prev txn committed) ks prev at (record { txn = r.txn; begin = r.begin; ops = r.ops; ending = Some (ByEnd lsn) }) h l
    (sym (end_of_own lsn prev txn committed r own going) ∙ ap f same)

pub begin_written : (lsn : Lsn) (txn : TxnId) (ks : List Known) (at : ℕ) (new : Known) → new ≡ seen [] (record { txn = txn; begin = lsn; ops = [] }) → at ≡ place txn ks → with_txn txn ks ≡ None → insert ks at new ≡ with_records ks ((lsn, Begin txn) ∷ [])
begin_written lsn txn ks at new e p none =
    let k : Known = seen [] (record { txn = txn; begin = lsn; ops = [] }) in
    ap (insert ks at) e
    ∙ ap (λ (n : ℕ). insert ks n k) p
    ∙ sym (put_is k ks none)
    ∙ ap (put k) (sym (begin_changes_none lsn txn ks))

-- ---- what was pending

still : (lsn : Lsn) (e : Option Ending) → goes_on (ending_to lsn e) ≡ ends_above lsn e
still lsn None = refl
still lsn (Some e) =
    elim (cases_lt lsn.0 (position e).0) [
      | inl lt ↦ rw (lt-leb (position e).0 lsn.0 lt, lt-ltb lsn.0 (position e).0 lt) refl
      | inr ge ↦ rw (le-leb (position e).0 lsn.0 ge, le-ltb lsn.0 (position e).0 ge) refl
    ]

abbrev pub was_pending : Lsn → Known → Bool
was_pending lsn k = leb k.begin.0 lsn.0 && ends_above lsn k.ending

pending_step : (lsn : Lsn) (k : Known) (ks : List Known) (b : Bool) → leb k.begin.0 lsn.0 ≡ b → (d : Bool) → ends_above lsn k.ending ≡ d → pending_in (cut lsn (k ∷ ks)) ≡ cond (was_pending lsn k) (as_pending (trimmed lsn k) ∷ []) [] ++ pending_in (cut lsn ks)
pending_step lsn k ks false e d f = rw e refl
pending_step lsn k ks true e true f = let g : goes_on (ending_to lsn k.ending) ≡ true = still lsn k.ending ∙ f in rw (e, f, g) refl
pending_step lsn k ks true e false f = let g : goes_on (ending_to lsn k.ending) ≡ false = still lsn k.ending ∙ f in rw (e, f, g) refl

front : (ks : List Known) (i : ℕ) (k : Known) → i < length ks → k ≡ get_or ks i k → drop i ks ≡ k ∷ drop (i + 1) ks
front ks i k lt e = rw add-one (drop-cons ks i k lt ∙ ap (λ (x : Known). x ∷ drop (suc i) ks) (sym e))

pub pending_taken : (lsn : Lsn) (ks : List Known) (i : ℕ) (k : Known) (out total : List PendingTxn) → i < length ks → k ≡ get_or ks i k → was_pending lsn k ≡ true → out ++ pending_in (cut lsn (drop i ks)) ≡ total → (out ++ as_pending (trimmed lsn k) ∷ []) ++ pending_in (cut lsn (drop (i + 1) ks)) ≡ total
pending_taken lsn ks i k out total lt e w inv =
    append_assoc out (as_pending (trimmed lsn k) ∷ []) (pending_in (cut lsn (drop (i + 1) ks)))
    ∙ ap (λ (ps : List PendingTxn). out ++ ps)
    (sym (ap (λ (xs : List Known). pending_in (cut lsn xs)) (front ks i k lt e)
    ∙ pending_step lsn k (drop (i + 1) ks) (leb k.begin.0 lsn.0) refl (ends_above lsn k.ending) refl
    ∙ ap (λ b. cond b (as_pending (trimmed lsn k) ∷ []) [] ++ pending_in (cut lsn (drop (i + 1) ks))) w))
    ∙ inv

pub pending_left : (lsn : Lsn) (ks : List Known) (i : ℕ) (k : Known) (out total : List PendingTxn) → i < length ks → k ≡ get_or ks i k → was_pending lsn k ≡ false → out ++ pending_in (cut lsn (drop i ks)) ≡ total → out ++ pending_in (cut lsn (drop (i + 1) ks)) ≡ total
pending_left lsn ks i k out total lt e w inv =
    ap (λ (ps : List PendingTxn). out ++ ps)
    (sym (ap (λ (xs : List Known). pending_in (cut lsn xs)) (front ks i k lt e)
    ∙ pending_step lsn k (drop (i + 1) ks) (leb k.begin.0 lsn.0) refl (ends_above lsn k.ending) refl
    ∙ ap (λ b. cond b (as_pending (trimmed lsn k) ∷ []) [] ++ pending_in (cut lsn (drop (i + 1) ks))) w))
    ∙ inv

pub rise_begun : (lsn : Lsn) (txn : TxnId) (ks : List Known) → Rise ks → with_txn txn ks ≡ None → Rise (with_records ks ((lsn, Begin txn) ∷ []))
rise_begun lsn txn ks h none =
    let k : Known = seen [] (record { txn = txn; begin = lsn; ops = [] }) in
    subst Rise (ap (put k) (sym (begin_changes_none lsn txn ks))) (rise_put k ks h none)
