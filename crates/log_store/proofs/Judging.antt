-- What a folded and judged area holds is a log.
use Rattle.std.proofs.Common.{append_assoc, ◌≡◌, ℕ, ◌+◌, ◌==◌, Bool, true, false, ◌&&◌, nat_le, List, [], ◌∷◌, ◌++◌, length, Option, Some, None, Ok, refl, sym, ap, subst}
use Rattle.std.specs.Prelude.{IsTrue, if◌then◌else◌, nat_le}
use Rattle.std.specs.Option.{option_and_then}
use Rattle.std.proofs.lemmas.Bool.{and_parts}
use Rattle.std.proofs.lemmas.List.{append-nil}
use Rattle.rc_base.specs.declared.ids.Epoch.{Epoch}
use Rattle.gated_log.specs.declared.block.Block.{Block}
use Rattle.log_records.specs.declared.record.Record.{Record}
use Rattle.log_records.specs.declared.record.Physical.{Physical}
use Rattle.log_records.specs.declared.record.Physical.TheVariants.{Logical, Fence, TruncateTail, CheckpointDone, Reset, Head}
use Rattle.txn_table.specs.Log.{Items, last_epoch, may_follow, IsLogAfter, IsLog, no_base}
use Rattle.log_store.specs.declared.fold.Standing.{Standing}
use Rattle.log_store.specs.declared.kept.Kept.{Kept}
use Rattle.log_store.specs.declared.kept.Row.{Row}
use Rattle.log_store.specs.Payload.{records_of}
use Rattle.log_store.specs.Fold.{told, and_then, items_of, is_in_place, first_wrong, opening, step, folded, reset_at, opened, behind_items, behind_block, behind_blocks, no_log, held_by}
use Rattle.log_store.specs.Durable.{second_holds, durable_of}
use Rattle.log_store.proofs.Rows.{items_of-append, stands_in_place, linked_in_place}
use Rattle.log_store.proofs.Growing.{held, ok_is}

-- each record's epoch may follow those before it
abbrev Follow : Items → Items → Type 0
Follow before [] = Unit {0}
Follow before (item ∷ items) = IsTrue (may_follow (last_epoch before) item.0 item.1) × Follow (before ++ item ∷ []) items

follow_push : (before items : Items) (item : Epoch × Record) → Follow before items → IsTrue (may_follow (last_epoch (before ++ items)) item.0 item.1) → Follow before (items ++ item ∷ [])
follow_push before [] item all may = (subst (λ (l : Items). IsTrue (may_follow (last_epoch l) item.0 item.1)) (append-nil before) may, tt)
follow_push before (first ∷ items) item all may =
    (all.0, follow_push (before ++ first ∷ []) items item all.1 (subst (λ (l : Items). IsTrue (may_follow (last_epoch l) item.0 item.1)) (sym (append_assoc before (first ∷ []) items)) may))

abbrev InOrder : Standing → Type 0
InOrder s = Follow [] (items_of s.rows)

abbrev InOrderOrNone : Option Standing → Type 0
InOrderOrNone None = Unit {0}
InOrderOrNone (Some s) = InOrder s

-- ---- the fold

some_is : {X : Type 0} (x y : X) → ◌≡◌ {A = Option X} (Some x) (Some y) → x ≡ y
some_is x y e = cc

step_order : (place : ℕ) (s : Standing) (item : Physical) (t : Standing) → InOrder s → step place s item ≡ Some t → InOrder t
step_order place s (Fence epoch) t order is = subst (λ (l : List Row). Follow [] (items_of l)) (ap (λ (u : Standing). u.rows) (some_is _ t is)) order
step_order place s (Logical lsn epoch body) t order is = by ((lsn.0 == length s.rows + 1) && may_follow (last_epoch (items_of s.rows)) epoch body) refl is
  where
    row : Row
    row = record { place = place; epoch = epoch; body = body }

    next : Standing
    next = record { identity = s.identity; fenced = s.fenced; rows = s.rows ++ row ∷ [] }

    by : (b : Bool) → ((lsn.0 == length s.rows + 1) && may_follow (last_epoch (items_of s.rows)) epoch body) ≡ b → (if b then Some next else None) ≡ Some t → InOrder t
    by true may e =
        let follows = (and_parts (lsn.0 == length s.rows + 1) (may_follow (last_epoch (items_of s.rows)) epoch body) may).1 in
        subst InOrder (some_is next t e) (subst (λ (l : Items). Follow [] l) (sym (items_of-append s.rows (row ∷ []))) (follow_push [] (items_of s.rows) (epoch, body) order follows))
    by false may e = absurd cc
step_order place s (TruncateTail lsn) t order is = absurd cc
step_order place s (CheckpointDone slot at len) t order is = absurd cc
step_order place s (Reset slot at len) t order is = absurd cc
step_order place s (Head generation partition) t order is = absurd cc

folded_order : (place : ℕ) (items : List Physical) (s t : Standing) → InOrder s → folded place s items ≡ Some t → InOrder t
folded_order place [] s t order is = subst InOrder (some_is s t is) order
folded_order place (item ∷ items) s t order is = by (step place s item) refl is (λ u. folded_order place items u t)
  where
    by : (o : Option Standing) → step place s item ≡ o → option_and_then (λ u. folded place u items) o ≡ Some t → ((u : Standing) → InOrder u → folded place u items ≡ Some t → InOrder t) → InOrder t
    by None was e rest = absurd cc
    by (Some u) was e rest = rest u (step_order place s item u order was) e

opened_order : (place : ℕ) (items : List Physical) (t : Standing) → opened place items ≡ Some t → InOrder t
opened_order place [] t is = absurd cc
opened_order place (Head generation partition ∷ items) t is = by (nat_le 1 generation && nat_le generation (1 + reset_at items)) is
  where
    by : (b : Bool) → (if b then folded place (opening partition) items else None) ≡ Some t → InOrder t
    by true e = folded_order place items (opening partition) t tt e
    by false e = absurd cc
opened_order place (Logical lsn epoch body ∷ items) t is = absurd cc
opened_order place (Fence epoch ∷ items) t is = absurd cc
opened_order place (TruncateTail lsn ∷ items) t is = absurd cc
opened_order place (CheckpointDone slot at len ∷ items) t is = absurd cc
opened_order place (Reset slot at len ∷ items) t is = absurd cc

items_order : (place : ℕ) (s : Option Standing) (items : List Physical) (t : Standing) → InOrderOrNone s → behind_items place s items ≡ Some t → InOrder t
items_order place None items t order is = opened_order place items t is
items_order place (Some s) items t order is = folded_order place items s t order is

block_order : (s : Option Standing) (block : Block) (t : Standing) → InOrderOrNone s → behind_block s block ≡ Some t → InOrder t
block_order s block t order is = by (records_of block.payload) is
  where
    by : (o : Option (List Physical)) → option_and_then (behind_items block.place s) o ≡ Some t → InOrder t
    by None e = absurd cc
    by (Some items) e = items_order block.place s items t order e

blocks_order : (area : ℕ) (blocks : List Block) (s t : Option Standing) → InOrderOrNone s → behind_blocks area s blocks ≡ Ok t → InOrderOrNone t
blocks_order area [] s t order is = subst InOrderOrNone (ok_is s t is) order
blocks_order area (block ∷ blocks) s t order is = by (behind_block s block) refl is (λ u. blocks_order area blocks (Some u) t)
  where
    by : (o : Option Standing) → behind_block s block ≡ o → and_then (λ u. behind_blocks area (Some u) blocks) (told area block.place o) ≡ Ok t
        → ((u : Standing) → InOrder u → behind_blocks area (Some u) blocks ≡ Ok t → InOrderOrNone t) → InOrderOrNone t
    by None was e rest = absurd cc
    by (Some u) was e rest = rest u (block_order s block u order was) e

-- ---- the judgement

rows_log : (before : Items) (rows : List Row) → first_wrong before rows ≡ None → Follow before (items_of rows) → IsLogAfter no_base before (items_of rows)
rows_log before [] right all = tt
rows_log before (row ∷ rows) right all = by (is_in_place before row) refl right (λ e. rows_log (before ++ (row.epoch, row.body) ∷ []) rows e all.1)
  where
    by : (b : Bool) → is_in_place before row ≡ b → (if b then first_wrong (before ++ (row.epoch, row.body) ∷ []) rows else Some row.place) ≡ None
        → (first_wrong (before ++ (row.epoch, row.body) ∷ []) rows ≡ None → IsLogAfter no_base (before ++ (row.epoch, row.body) ∷ []) (items_of rows))
        → IsLogAfter no_base before ((row.epoch, row.body) ∷ items_of rows)
    by true is e rest = (record { follows = all.0; stands = stands_in_place before row is; linked = linked_in_place before row is }, rest e)
    by false is e rest = absurd cc

held_log : (area : ℕ) (blocks : List Block) (v : Kept) → held_by area blocks ≡ Ok v → IsLog v.records
held_log area [] v e = subst (λ (w : Kept). IsLog w.records) (ok_is no_log v e) tt
held_log area (block ∷ blocks) v e =
    let h = held area block blocks v e in
    subst (λ (w : Kept). IsLog w.records) h.kept (rows_log [] h.standing.rows h.right (blocks_order area (block ∷ blocks) None (Some h.standing) tt h.is))

-- what a disk holds is a log
pub durable_log : (zero one : List Block) (v : Kept) → durable_of zero one ≡ Ok v → IsLog v.records
durable_log zero one v e = by (second_holds zero one) e
  where
    by : (b : Bool) → (if b then held_by 1 one else held_by 0 zero) ≡ Ok v → IsLog v.records
    by true is = held_log 1 one v is
    by false is = held_log 0 zero v is
