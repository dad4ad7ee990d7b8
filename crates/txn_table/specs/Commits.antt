-- What the records of a log say of its transactions: which are pending, and which commit with which operations.
-- Each is found by the transaction's number alone; no link from record to record is followed.
use Rattle.std.specs.Prelude.{◌==◌, ◌&&◌, ◌||◌, Bool, true, false, List, [], ◌∷◌, ◌++◌, map, filter, flat_map, Option, Some, None, nat_le, nat_lt, if◌then◌else◌}
use Rattle.rc_base.specs.declared.ids.Lsn.{Lsn}
use Rattle.rc_base.specs.declared.ids.TxnId.{TxnId}
use Rattle.rc_base.specs.Ids.{is_txn}
use Rattle.coll_model.specs.declared.op.Op.{Op}
use Rattle.log_records.specs.declared.record.Record.{Record}
use Rattle.log_records.specs.declared.record.Record.TheVariants.{Begin, Operation, End, Barrier, EpochStart}
use Rattle.log_records.specs.declared.pending.PendingTxn.{PendingTxn}
use Rattle.txn_table.specs.declared.known.Ending.{Ending}
use Rattle.txn_table.specs.declared.known.Ending.TheVariants.{ByEnd, ByEpoch}
use Rattle.txn_table.specs.declared.known.Known.{Known}
use Rattle.txn_table.specs.declared.committed.Committed.{Committed}

-- a record with its position
abbrev pub Logged : Type 0
Logged = Lsn × Record

-- ---- transactions

-- whether a transaction is below another: by losses, the number of the epoch, and its own
abbrev pub txn_lt : TxnId → TxnId → Bool
txn_lt a b = nat_lt a.epoch.loss b.epoch.loss || ((a.epoch.loss == b.epoch.loss) && (nat_lt a.epoch.number b.epoch.number || ((a.epoch.number == b.epoch.number) && nat_lt a.n b.n)))

-- ---- what records say of one transaction

-- its Operation, where the record is one
abbrev pub op_at : TxnId → Lsn → Record → List (Lsn × Op)
op_at txn lsn (Begin other) = []
op_at txn lsn (Operation other prev op) = if is_txn other txn then (lsn, op) ∷ [] else []
op_at txn lsn (End other prev committed) = []
op_at txn lsn (Barrier stable) = []
op_at txn lsn (EpochStart epoch) = []

-- its operations, in order
abbrev pub ops_in : TxnId → List Logged → List (Lsn × Op)
ops_in txn records = flat_map (λ r. op_at txn r.0 r.1) records

-- its end, where the record is its End or the start of an epoch
abbrev pub ending_at : TxnId → Lsn → Record → Option Ending
ending_at txn lsn (Begin other) = None
ending_at txn lsn (Operation other prev op) = None
ending_at txn lsn (End other prev committed) = if is_txn other txn then Some (ByEnd lsn) else None
ending_at txn lsn (Barrier stable) = None
ending_at txn lsn (EpochStart epoch) = Some (ByEpoch lsn)

abbrev pub first_of : Option Ending → Option Ending → Option Ending
first_of None later = later
first_of (Some ending) later = Some ending

-- the first of the records that ends it
abbrev pub ending_in : TxnId → List Logged → Option Ending
ending_in txn [] = None
ending_in txn (r ∷ records) = first_of (ending_at txn r.0 r.1) (ending_in txn records)

-- a transaction that was pending, and what the records behind say of it
abbrev pub seen : List Logged → PendingTxn → Known
seen records p = record { txn = p.txn; begin = p.begin; ops = p.ops ++ ops_in p.txn records; ending = ending_in p.txn records }

-- ---- all transactions

-- the transaction that begins with the record, and what the records behind it say
abbrev pub begun_at : Lsn → Record → List Logged → List Known
begun_at lsn (Begin txn) records = seen records (record { txn = txn; begin = lsn; ops = [] }) ∷ []
begun_at lsn (Operation txn prev op) records = []
begun_at lsn (End txn prev committed) records = []
begun_at lsn (Barrier stable) records = []
begun_at lsn (EpochStart epoch) records = []

-- those that begin among the records
abbrev pub begun : List Logged → List Known
begun [] = []
begun (r ∷ records) = begun_at r.0 r.1 records ++ begun records

-- one more, in front of those above it
abbrev pub put : Known → List Known → List Known
put k [] = k ∷ []
put k (other ∷ others) = if txn_lt k.txn other.txn then k ∷ other ∷ others else other ∷ put k others

abbrev pub put_all : List Known → List Known → List Known
put_all others [] = others
put_all others (k ∷ ks) = put_all (put k others) ks

-- the transactions that were pending at the base and those that begin in the records behind it, by rising transaction
abbrev pub known : List PendingTxn → List Logged → List Known
known base records = put_all [] (map (seen records) base ++ begun records)

abbrev pub goes_on : Option Ending → Bool
goes_on None = true
goes_on (Some ending) = false

-- whether neither an End of it nor the start of an epoch stands behind its Begin
abbrev pub is_pending : Known → Bool
is_pending k = goes_on k.ending

abbrev pub as_pending : Known → PendingTxn
as_pending k = record { txn = k.txn; begin = k.begin; ops = k.ops }

abbrev pub pending_in : List Known → List PendingTxn
pending_in ks = map as_pending (filter is_pending ks)

-- the transactions that are pending behind the records, by rising transaction
abbrev pub pending : List PendingTxn → List Logged → List PendingTxn
pending base records = pending_in (known base records)

abbrev pub with_txn : TxnId → List Known → Option Known
with_txn txn [] = None
with_txn txn (k ∷ ks) = if is_txn k.txn txn then Some k else with_txn txn ks

-- ---- commits

-- the operations of a transaction, without their positions
abbrev pub ops_of : Option Known → List Op
ops_of None = []
ops_of (Some k) = map (λ o. o.1) k.ops

abbrev pub commit_of : Bool → TxnId → List Op → Option Committed
commit_of false txn ops = None
commit_of true txn ops = Some (record { txn = txn; ops = ops })

-- what commits with the record: the transaction of an End that says so, with its operations before
abbrev pub commit_in : List Known → Record → Option Committed
commit_in ks (Begin txn) = None
commit_in ks (Operation txn prev op) = None
commit_in ks (End txn prev committed) = commit_of committed txn (ops_of (with_txn txn ks))
commit_in ks (Barrier stable) = None
commit_in ks (EpochStart epoch) = None

abbrev pub one_or_none : Option Committed → List Committed
one_or_none None = []
one_or_none (Some c) = c ∷ []

abbrev pub commits_behind : List PendingTxn → List Logged → List Logged → List Committed
commits_behind base before [] = []
commits_behind base before (r ∷ records) = one_or_none (commit_in (known base before) r.1) ++ commits_behind base (before ++ r ∷ []) records

-- the transactions that commit in the records behind the base, in order, each with its operations
abbrev pub commits : List PendingTxn → List Logged → List Committed
commits base records = commits_behind base [] records

-- ---- links

abbrev pub last_position : Lsn → List (Lsn × Op) → Lsn
last_position lsn [] = lsn
last_position lsn (o ∷ ops) = last_position o.0 ops

abbrev pub last_from : Option Ending → Lsn → Lsn
last_from None lsn = lsn
last_from (Some (ByEnd at)) lsn = at
last_from (Some (ByEpoch at)) lsn = lsn

-- the position of its last record: of its End, or else of its last Operation, or else of its Begin
abbrev pub last_of : Known → Lsn
last_of k = last_from k.ending (last_position k.begin k.ops)

abbrev pub nowhere : Lsn
nowhere = record { 0 = 0 }

-- a transaction can't begin twice
abbrev pub begin_fault : Option Known → Option (Lsn × Lsn)
begin_fault None = None
begin_fault (Some k) = Some (nowhere, last_of k)

-- a record's transaction is pending, and the record names the position of the one before it
abbrev pub link_fault : Lsn → Option Known → Option (Lsn × Lsn)
link_fault prev None = Some (prev, nowhere)
link_fault prev (Some k) = if is_pending k && (prev.0 == (last_of k).0) then None else Some (prev, last_of k)

-- what is wrong with a record behind these transactions: the position that it names, and the one that it should
abbrev pub fault_in : List Known → Record → Option (Lsn × Lsn)
fault_in ks (Begin txn) = begin_fault (with_txn txn ks)
fault_in ks (Operation txn prev op) = link_fault prev (with_txn txn ks)
fault_in ks (End txn prev committed) = link_fault prev (with_txn txn ks)
fault_in ks (Barrier stable) = None
fault_in ks (EpochStart epoch) = None

-- ---- a beginning of the records

-- the records to a position
abbrev pub to : Lsn → List Logged → List Logged
to lsn [] = []
to lsn (r ∷ records) = if nat_le r.0.0 lsn.0 then r ∷ to lsn records else []

-- the records behind these
abbrev pub behind : Lsn → List Logged → List Logged
behind lsn [] = []
behind lsn (r ∷ records) = if nat_le r.0.0 lsn.0 then behind lsn records else r ∷ records
