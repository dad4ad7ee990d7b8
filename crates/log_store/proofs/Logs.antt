-- What the records change that go on with a log.
use Rattle.std.proofs.Common.{append_assoc, ◌≡◌, ℕ, ◌+◌, List, [], ◌∷◌, ◌++◌, length, refl, sym, ◌∙◌, arith}
use Rattle.std.proofs.lemmas.List.{append-nil, length-append}
use Rattle.log_records.specs.declared.record.Physical.{Physical}
use Rattle.log_records.specs.declared.record.Physical.TheVariants.{Logical, Fence, TruncateTail, CheckpointDone, Reset, Head}
use Rattle.txn_table.proofs.LogGrowth.{log_push}
use Rattle.txn_table.specs.Log.{Items, IsLogAfter, IsLog, no_base}
use Rattle.log_store.specs.declared.kept.Kept.{Kept}
use Rattle.log_store.specs.Growth.{after_one, after, GoesOn}

-- the logical records among these
abbrev pub items_in : List Physical → Items
items_in [] = []
items_in (Logical lsn epoch body ∷ items) = (epoch, body) ∷ items_in items
items_in (Fence epoch ∷ items) = items_in items
items_in (TruncateTail lsn ∷ items) = items_in items
items_in (CheckpointDone slot at len ∷ items) = items_in items
items_in (Reset slot at len ∷ items) = items_in items
items_in (Head generation partition ∷ items) = items_in items

pub after_records : (v : Kept) (items : List Physical) → (after v items).records ≡ v.records ++ items_in items
after_records v [] = sym (append-nil v.records)
after_records v (Logical lsn epoch body ∷ items) = after_records (after_one v (Logical lsn epoch body)) items ∙ append_assoc v.records ((epoch, body) ∷ []) (items_in items)
after_records v (Fence epoch ∷ items) = after_records (after_one v (Fence epoch)) items
after_records v (TruncateTail lsn ∷ items) = after_records v items
after_records v (CheckpointDone slot at len ∷ items) = after_records v items
after_records v (Reset slot at len ∷ items) = after_records v items
after_records v (Head generation partition ∷ items) = after_records v items

pub after_identity : (v : Kept) (items : List Physical) → (after v items).identity ≡ v.identity
after_identity v [] = refl
after_identity v (Logical lsn epoch body ∷ items) = after_identity (after_one v (Logical lsn epoch body)) items
after_identity v (Fence epoch ∷ items) = after_identity (after_one v (Fence epoch)) items
after_identity v (TruncateTail lsn ∷ items) = after_identity v items
after_identity v (CheckpointDone slot at len ∷ items) = after_identity v items
after_identity v (Reset slot at len ∷ items) = after_identity v items
after_identity v (Head generation partition ∷ items) = after_identity v items

-- the records of a log from this position on
abbrev pub placed : ℕ → Items → List Physical
placed lsn [] = []
placed lsn (item ∷ items) = Logical (record { 0 = lsn }) item.0 item.1 ∷ placed (lsn + 1) items

pub after_items : (v : Kept) (lsn : ℕ) (items : Items) → (after v (placed lsn items)).records ≡ v.records ++ items
after_items v lsn [] = sym (append-nil v.records)
after_items v lsn (item ∷ items) = after_items (after_one v (Logical (record { 0 = lsn }) item.0 item.1)) (lsn + 1) items ∙ append_assoc v.records (item ∷ []) items

-- records that may stand behind a log, at the next positions, go on with it
pub goes_on_items : (v : Kept) (lsn : ℕ) (items : Items) → lsn ≡ length v.records + 1 → IsLogAfter no_base v.records items → GoesOn v (placed lsn items)
goes_on_items v lsn [] at may = tt
goes_on_items v lsn (item ∷ items) at may =
    let next : Kept = after_one v (Logical (record { 0 = lsn }) item.0 item.1) in
    ((at, may.0), goes_on_items next (lsn + 1) items (omega (arith, at, length-append v.records (item ∷ []))) may.1)

-- records that go on with a log keep it one
pub goes_on_log : (v : Kept) (items : List Physical) → IsLog v.records → GoesOn v items → IsLog (after v items).records
goes_on_log v [] is goes = is
goes_on_log v (Logical lsn epoch body ∷ items) is goes = goes_on_log (after_one v (Logical lsn epoch body)) items (log_push no_base v.records epoch body is goes.0.1) goes.1
goes_on_log v (Fence epoch ∷ items) is goes = goes_on_log (after_one v (Fence epoch)) items is goes.1
goes_on_log v (TruncateTail lsn ∷ items) is goes = absurd goes.0
goes_on_log v (CheckpointDone slot at len ∷ items) is goes = absurd goes.0
goes_on_log v (Reset slot at len ∷ items) is goes = absurd goes.0
goes_on_log v (Head generation partition ∷ items) is goes = absurd goes.0
