-- What a table stands for: the transactions pending at a base, and the records behind it.
use Rattle.std.specs.Prelude.{◌≡◌, ℕ, suc, ◌<◌, ◌≤◌, Bool, true, List, [], ◌∷◌, ◌++◌, map, filter, Option, Some, None, Result, Err, IsErrOf, slice_get, nat_le, nat_lt, if◌then◌else◌}
use Rattle.std.specs.List.{AllByRecursion}
use Rattle.rc_base.specs.declared.ids.TxnId.{TxnId}
use Rattle.rc_base.specs.declared.ids.Lsn.{Lsn}
use Rattle.log_records.specs.declared.pending.PendingTxn.{PendingTxn}
use Rattle.txn_table.specs.declared.known.Ending.{Ending}
use Rattle.txn_table.specs.declared.known.Ending.TheVariants.{ByEnd, ByEpoch}
use Rattle.txn_table.specs.declared.known.Known.{Known}
use Rattle.txn_table.specs.declared.error.TableError.{TableError}
use Rattle.txn_table.specs.declared.error.TableError.TheVariants.{BadLink}
use Rattle.rc_base.specs.Ids.{is_txn}
use Rattle.txn_table.specs.Commits.{Logged, is_pending, last_of, txn_lt, ops_in, ending_in, first_of, begun, put_all, known}

-- a table: its floor, the position of the last record that it took (the floor where there is none), and the
-- transactions that it knows
pub record State : Type 0 where
  pub floor : Lsn
  pub last : Lsn
  pub txns : List Known

-- positions rise, above low and not above high
abbrev pub RiseBetween : ℕ → ℕ → List Logged → Type 0
RiseBetween low high [] = low ≤ high
RiseBetween low high (r ∷ records) = (low < r.0.0) × RiseBetween r.0.0 high records

-- no record of the pending transaction is above the position
pub record IsBelow (lsn : ℕ) (p : PendingTxn) : Type 0 where
  pub begin : p.begin.0 ≤ lsn
  pub ops : AllByRecursion (λ o. o.0.0 ≤ lsn) p.ops

-- the table of a log whose base, at the table's floor, has these pending transactions, and behind it these records
pub record StandsFor (table : State) (base : List PendingTxn) (records : List Logged) : Type 0 where
  pub txns : table.txns ≡ known base records
  pub rise : RiseBetween table.floor.0 table.last.0 records
  pub base_below : AllByRecursion (IsBelow table.floor.0) base

-- transactions rise
abbrev pub Rise : List Known → Type 0
Rise [] = Unit {0}
Rise (k ∷ ks) = AllByRecursion (λ other. txn_lt k.txn other.txn ≡ true) ks × Rise ks

abbrev pub RiseByTxn : List PendingTxn → Type 0
RiseByTxn [] = Unit {0}
RiseByTxn (p ∷ ps) = AllByRecursion (λ other. txn_lt p.txn other.txn ≡ true) ps × RiseByTxn ps

-- a transaction, after further records
abbrev pub followed : List Logged → Known → Known
followed records k = record { txn = k.txn; begin = k.begin; ops = k.ops ++ ops_in k.txn records; ending = first_of k.ending (ending_in k.txn records) }

-- the transactions, after further records
abbrev pub with_records : List Known → List Logged → List Known
with_records ks records = put_all (map (followed records) ks) (begun records)

abbrev pub position : Ending → Lsn
position (ByEnd lsn) = lsn
position (ByEpoch lsn) = lsn

-- an end that is not above a position
abbrev pub ending_to : Lsn → Option Ending → Option Ending
ending_to lsn None = None
ending_to lsn (Some ending) = if nat_le (position ending).0 lsn.0 then Some ending else None

-- a transaction that began at or below a position, as it was there
abbrev pub trimmed : Lsn → Known → Known
trimmed lsn k = record { txn = k.txn; begin = k.begin; ops = filter (λ o. nat_le o.0.0 lsn.0) k.ops; ending = ending_to lsn k.ending }

-- the transactions as they were at a position
abbrev pub cut : Lsn → List Known → List Known
cut lsn ks = map (trimmed lsn) (filter (λ k. nat_le k.begin.0 lsn.0) ks)

abbrev pub ends_above : Lsn → Option Ending → Bool
ends_above lsn None = true
ends_above lsn (Some ending) = nat_lt lsn.0 (position ending).0

-- the transactions that were pending at a position or begin behind it
abbrev pub recent : Lsn → List Known → List Known
recent lsn ks = filter (λ k. ends_above lsn k.ending) ks

abbrev pub lesser : Lsn → Lsn → Lsn
lesser a b = if nat_le a.0 b.0 then a else b

abbrev pub greater : Lsn → Lsn → Lsn
greater a b = if nat_le a.0 b.0 then b else a

-- the place of a transaction among rising ones: how many in front are below it
abbrev pub place : TxnId → List Known → ℕ
place txn [] = 0
place txn (k ∷ ks) = if txn_lt k.txn txn then suc (place txn ks) else 0

-- at the place stands the transaction, pending, and its last record is at this position
abbrev pub IsLinkedAt : List Known → TxnId → Lsn → ℕ → Type 0
IsLinkedAt ks txn prev at = (k : Known) × (slice_get ks at ≡ Some k) × (at ≡ place txn ks) × (is_txn k.txn txn ≡ true) × (is_pending k ≡ true) × ((last_of k).0 ≡ prev.0)

-- A record is refused as a bad link exactly where it has a fault.
abbrev pub RefusesExactly : {X : Type 0} → Option (Lsn × Lsn) → Lsn → Result X TableError → Type 0
RefusesExactly None lsn result = (at prev wanted : Lsn) → IsErrOf result (BadLink at prev wanted) → ⊥
RefusesExactly (Some fault) lsn result = result ≡ Err (BadLink lsn fault.0 fault.1)
