-- Rows and records, one after another.
use Rattle.std.proofs.Common.{append_assoc, ◌≡◌, ℕ, zero, suc, ◌+◌, Bool, true, false, ◌&&◌, List, [], ◌∷◌, ◌++◌, length, get_or, Option, Some, None, refl, sym, ap, ◌∙◌, subst, arith}
use Rattle.std.specs.Prelude.{IsTrue, if◌then◌else◌}
use Rattle.std.specs.Option.{is_none}
use Rattle.std.proofs.lemmas.Bool.{and_parts, false≢true}
use Rattle.std.proofs.lemmas.List.{append-nil}
use Rattle.rc_base.specs.declared.ids.Lsn.{Lsn}
use Rattle.rc_base.specs.declared.ids.Epoch.{Epoch}
use Rattle.log_records.specs.declared.record.Record.{Record}
use Rattle.log_store.specs.declared.kept.Row.{Row}
use Rattle.txn_table.specs.Commits.{fault_in}
use Rattle.txn_table.specs.Log.{Items, last_from, may_stand, known_in}
use Rattle.log_store.specs.Fold.{items_of, is_in_place, first_wrong}

pub items_of-append : (xs ys : List Row) → items_of (xs ++ ys) ≡ items_of xs ++ items_of ys
items_of-append [] ys = refl
items_of-append (row ∷ xs) ys = ap (λ (l : List (Epoch × Record)). (row.epoch, row.body) ∷ l) (items_of-append xs ys)

pub length-items_of : (rows : List Row) → length (items_of rows) ≡ length rows
length-items_of [] = refl
length-items_of (row ∷ rows) = omega (arith, length-items_of rows)

-- the last row's epoch
pub last_row : (e : Epoch) (rows : List Row) (d : Row) (i : ℕ) → i + 1 ≡ length rows → last_from e (items_of rows) ≡ (get_or rows i d).epoch
last_row e [] d i is = absurd (omega arith)
last_row e (row ∷ []) d i is = let first : i ≡ 0 = omega arith in ap (λ (k : ℕ). (get_or (row ∷ []) k d).epoch) (sym first)
last_row e (row ∷ next ∷ rows) d zero is = absurd (omega arith)
last_row e (row ∷ next ∷ rows) d (suc i) is = last_row row.epoch (next ∷ rows) d i (omega arith)

-- a row that may stand keeps them right
pub right-push : (before : Items) (rows : List Row) (row : Row) → first_wrong before rows ≡ None → is_in_place (before ++ items_of rows) row ≡ true → first_wrong before (rows ++ row ∷ []) ≡ None
right-push before [] row right stands = ap (λ (b : Bool). if b then None else Some row.place) (subst (λ (l : Items). is_in_place l row ≡ true) (append-nil before) stands)
right-push before (first ∷ rows) row right stands =
    let behind : Items = before ++ (first.epoch, first.body) ∷ [] in
    by (is_in_place before first) right
    (λ e. right-push behind rows row e (subst (λ (l : Items). is_in_place l row ≡ true) (sym (append_assoc before ((first.epoch, first.body) ∷ []) (items_of rows))) stands))
  where
    by : (b : Bool) → (if b then first_wrong (before ++ (first.epoch, first.body) ∷ []) rows else Some first.place) ≡ None
        → (first_wrong (before ++ (first.epoch, first.body) ∷ []) rows ≡ None → first_wrong (before ++ (first.epoch, first.body) ∷ []) (rows ++ row ∷ []) ≡ None)
        → (if b then first_wrong (before ++ (first.epoch, first.body) ∷ []) (rows ++ row ∷ []) else Some first.place) ≡ None
    by true e rest = rest e
    by false e rest = absurd cc

-- the tests of a row, one by one
pub in_place : (before : Items) (row : Row) → IsTrue (may_stand (length before + 1) row.epoch row.body) → fault_in (known_in before) row.body ≡ None → is_in_place before row ≡ true
in_place before row stands linked =
    ap (λ (b : Bool). b && is_none (fault_in (known_in before) row.body)) stands ∙ ap (λ (o : Option (Lsn × Lsn)). is_none o) linked

pub stands_in_place : (before : Items) (row : Row) → is_in_place before row ≡ true → IsTrue (may_stand (length before + 1) row.epoch row.body)
stands_in_place before row is = by (may_stand (length before + 1) row.epoch row.body) (is_none (fault_in (known_in before) row.body)) is
  where
    by : (a b : Bool) → a && b ≡ true → a ≡ true
    by true b e = refl
    by false b e = e

pub linked_in_place : (before : Items) (row : Row) → is_in_place before row ≡ true → fault_in (known_in before) row.body ≡ None
linked_in_place before row is = by (fault_in (known_in before) row.body) (and_parts (may_stand (length before + 1) row.epoch row.body) (is_none (fault_in (known_in before) row.body)) is).1
  where
    by : (o : Option (Lsn × Lsn)) → is_none o ≡ true → o ≡ None
    by None e = refl
    by (Some fault) e = absurd (false≢true e)
