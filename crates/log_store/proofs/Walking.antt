-- Rows that are judged one by one, with a table of the records before.
use Rattle.std.proofs.Common.{◌≡◌, ℕ, ◌+◌, Bool, true, false, ◌&&◌, List, [], ◌∷◌, ◌++◌, length, drop, Option, Some, None, Result, Ok, Err, refl, sym, ap, ◌∙◌, subst, arith}
use Rattle.std.specs.Prelude.{if◌then◌else◌}
use Rattle.std.specs.Option.{is_none}
use Rattle.std.proofs.lemmas.List.{length-append}
use Rattle.rc_base.specs.declared.ids.Epoch.{Epoch}
use Rattle.rc_base.specs.declared.ids.Lsn.{Lsn}
use Rattle.log_records.specs.declared.record.Record.{Record}
use Rattle.txn_table.specs.declared.known.Known.{Known}
use Rattle.txn_table.specs.declared.error.TableError.{TableError}
use Rattle.txn_table.specs.declared.error.TableError.TheVariants.{BadLink}
use Rattle.txn_table.specs.Commits.{Logged, fault_in}
use Rattle.txn_table.specs.Tables.{State, StandsFor, RefusesExactly}
use Rattle.txn_table.specs.Log.{Items, may_stand, numbered}
use Rattle.txn_table.proofs.LogGrowth.{logged_at, numbered-push}
use Rattle.log_store.specs.declared.kept.Row.{Row}
use Rattle.log_store.specs.Fold.{is_in_place, first_wrong}

-- ---- one row

pub taken_linked : {X : Type 0} (fault : Option (Lsn × Lsn)) (lsn : Lsn) (x : X) → RefusesExactly fault lsn (Ok x) → fault ≡ None
taken_linked None lsn x exact = refl
taken_linked (Some fault) lsn x exact = absurd cc

pub refused_unlinked : {X : Type 0} (fault : Option (Lsn × Lsn)) (lsn at prev wanted : Lsn) (result : Result X TableError) → result ≡ Err (BadLink at prev wanted) → RefusesExactly fault lsn result → is_none fault ≡ false
refused_unlinked None lsn at prev wanted result is exact = absurd (exact at prev wanted is)
refused_unlinked (Some fault) lsn at prev wanted result is exact = refl

-- ---- the rows

-- The rows to a place were taken: the table stands for their records, and the rest of the rows tells what all tell.
pub record IsReached (rows : List Row) (i : ℕ) (table : State) : Type 0 where
  pub before : Items
  pub size : length before ≡ i
  pub last : table.last.0 ≡ i
  pub stands : StandsFor table [] (numbered 1 before)
  pub rest : first_wrong before (drop i rows) ≡ first_wrong [] rows

abbrev item_of : Row → Epoch × Record
item_of row = (row.epoch, row.body)

-- what is found of a row, by the table and by the records
abbrev told_of : State → ℕ → Row → Bool
told_of table lsn row = may_stand lsn row.epoch row.body && is_none (fault_in table.txns row.body)

module _ (rows : List Row) (i : ℕ) (table : State) (row : Row) (reached : IsReached rows i table) (next : drop i rows ≡ row ∷ drop (i + 1) rows) where
  test : told_of table (i + 1) row ≡ is_in_place reached.before row
  test =
      ap (λ (n : ℕ). may_stand (n + 1) row.epoch row.body && is_none (fault_in table.txns row.body)) (sym reached.size)
      ∙ ap (λ (ks : List Known). may_stand (length reached.before + 1) row.epoch row.body && is_none (fault_in ks row.body)) reached.stands.txns

  -- what the rest tells, by this row
  first : (b : Bool) → b ≡ told_of table (i + 1) row → (if b then first_wrong (reached.before ++ item_of row ∷ []) (drop (i + 1) rows) else Some row.place) ≡ first_wrong [] rows
  first b is =
      ap (λ (c : Bool). if c then first_wrong (reached.before ++ item_of row ∷ []) (drop (i + 1) rows) else Some row.place) (is ∙ test)
      ∙ ap (λ (l : List Row). first_wrong reached.before l) (sym next) ∙ reached.rest

  pub reached_wrong : false ≡ told_of table (i + 1) row → Some row.place ≡ first_wrong [] rows
  reached_wrong is = first false is

  pub reached_more : (new : State) → true ≡ told_of table (i + 1) row → new.last.0 ≡ i + 1 → ((records : List Logged) → StandsFor table [] records → StandsFor new [] (records ++ logged_at (i + 1) (item_of row) ∷ [])) → IsReached rows (i + 1) new
  reached_more new is last stands = record {
    before = reached.before ++ item_of row ∷ [];
    size = omega (arith, length-append reached.before (item_of row ∷ []), reached.size);
    last = last;
    stands = subst (λ (rs : List Logged). StandsFor new [] rs)
        (ap (λ (n : ℕ). numbered 1 reached.before ++ logged_at (n + 1) (item_of row) ∷ []) (sym reached.size) ∙ sym (numbered-push 1 reached.before (item_of row)))
        (stands (numbered 1 reached.before) reached.stands);
    rest = first true is;
  }

pub reached_none : (rows : List Row) (table : State) → table.last.0 ≡ 0 → StandsFor table [] [] → IsReached rows 0 table
reached_none rows table last stands = record { before = []; size = refl; last = last; stands = stands; rest = refl }

pub reached_all : (rows : List Row) (i : ℕ) (table : State) → IsReached rows i table → drop i rows ≡ [] → None ≡ first_wrong [] rows
reached_all rows i table reached none = ap (λ (l : List Row). first_wrong reached.before l) (sym none) ∙ reached.rest
