-- The spellings of operations and of the log's records: of each the list of its fields, one after the other. Numbers are
-- big-endian and of fixed width, lengths stand before bytes, and the first field of what has several forms is its tag.
use Rattle.std.specs.Prelude.{◌≡◌, ℕ, ◌<◌, ◌^◌, Bool, true, false, ◌&&◌, nat_le, List, [], ◌∷◌, ◌++◌, length, drop, Result, Ok, Err, IsTrue}
use Rattle.std.specs.Int.{w8, w32, w64, w128, to_be_bytes}
use Rattle.rc_base.specs.declared.ids.Epoch.{Epoch}
use Rattle.rc_base.specs.declared.ids.TxnId.{TxnId}
use Rattle.rc_base.specs.Fields.{with_length}
use Rattle.rc_base.specs.Names.{is_name}
use Rattle.coll_model.specs.declared.op.Kind.{Kind}
use Rattle.coll_model.specs.declared.op.Kind.TheVariants as kinds
use Rattle.coll_model.specs.declared.op.Op.{Op}
use Rattle.coll_model.specs.declared.op.Op.TheVariants.{Make, Unmake, Put, Del, Push, Pop}
use Rattle.log_records.specs.declared.error.CodecError.{CodecError}
use Rattle.log_records.specs.declared.error.CodecError.TheVariants as errors
use Rattle.log_records.specs.declared.record.Record.{Record}
use Rattle.log_records.specs.declared.record.Record.TheVariants.{Begin, Operation, End, Barrier, EpochStart}
use Rattle.log_records.specs.declared.record.Physical.{Physical}
use Rattle.log_records.specs.declared.record.Physical.TheVariants.{Logical, Fence, TruncateTail, CheckpointDone, Reset, Head}

-- ---- words

abbrev pub is_key : List ℕ → Bool
is_key text = nat_le 1 (length text) && nat_le (length text) 128

abbrev pub is_value : List ℕ → Bool
is_value text = nat_le (length text) 1024

-- ---- fields

abbrev pub byte : ℕ → List ℕ
byte n = to_be_bytes w8 n

abbrev pub long : ℕ → List ℕ
long n = to_be_bytes w64 n

abbrev pub name : List ℕ → List ℕ
name text = with_length w8 text

-- of a key and of a value
abbrev pub string : List ℕ → List ℕ
string text = with_length w32 text

abbrev pub kind : Kind → List ℕ
kind kinds.Dict = byte 1
kind kinds.Queue = byte 2

abbrev pub flag : Bool → List ℕ
flag false = byte 0
flag true = byte 1

-- ---- the fields of each form

abbrev pub epoch : Epoch → List (List ℕ)
epoch e = to_be_bytes w32 e.loss ∷ to_be_bytes w32 e.number ∷ []

abbrev pub txn : TxnId → List (List ℕ)
txn t = epoch t.epoch ++ long t.n ∷ []

abbrev pub op : Op → List (List ℕ)
op (Make n k) = byte 1 ∷ name n ∷ kind k ∷ []
op (Unmake n) = byte 2 ∷ name n ∷ []
op (Put n key value) = byte 3 ∷ name n ∷ string key ∷ string value ∷ []
op (Del n key) = byte 4 ∷ name n ∷ string key ∷ []
op (Push n value) = byte 5 ∷ name n ∷ string value ∷ []
op (Pop n) = byte 6 ∷ name n ∷ []

abbrev pub logical : Record → List (List ℕ)
logical (Begin t) = byte 16 ∷ txn t
logical (Operation t prev o) = byte 17 ∷ (txn t ++ long prev.0 ∷ op o)
logical (End t prev committed) = byte 18 ∷ (txn t ++ long prev.0 ∷ flag committed ∷ [])
logical (Barrier stable) = byte 19 ∷ long stable.0 ∷ []
logical (EpochStart e) = byte 20 ∷ epoch e

abbrev pub physical : Physical → List (List ℕ)
physical (Logical lsn e body) = byte 1 ∷ long lsn.0 ∷ (epoch e ++ logical body)
physical (Fence e) = byte 2 ∷ epoch e
physical (TruncateTail lsn) = byte 3 ∷ long lsn.0 ∷ []
physical (CheckpointDone slot at len) = byte 4 ∷ byte slot ∷ long at.0 ∷ long len ∷ []
physical (Reset slot at len) = byte 5 ∷ byte slot ∷ long at.0 ∷ long len ∷ []
physical (Head generation partition) = byte 6 ∷ byte 1 ∷ long generation ∷ to_be_bytes w128 partition ∷ []

-- the fields one after the other
abbrev pub joined : List (List ℕ) → List ℕ
joined [] = []
joined (field ∷ fields) = field ++ joined fields

-- ---- what has a spelling

abbrev pub OpFits : Op → Type 0
OpFits (Make n k) = IsTrue (is_name n)
OpFits (Unmake n) = IsTrue (is_name n)
OpFits (Put n key value) = IsTrue (is_name n) × IsTrue (is_key key) × IsTrue (is_value value)
OpFits (Del n key) = IsTrue (is_name n) × IsTrue (is_key key)
OpFits (Push n value) = IsTrue (is_name n) × IsTrue (is_value value)
OpFits (Pop n) = IsTrue (is_name n)

abbrev pub LogicalFits : Record → Type 0
LogicalFits (Begin t) = Unit {0}
LogicalFits (Operation t prev o) = OpFits o
LogicalFits (End t prev committed) = Unit {0}
LogicalFits (Barrier stable) = Unit {0}
LogicalFits (EpochStart e) = Unit {0}

abbrev pub PhysicalFits : Physical → Type 0
PhysicalFits (Logical lsn e body) = LogicalFits body
PhysicalFits (Fence e) = Unit {0}
PhysicalFits (TruncateTail lsn) = Unit {0}
PhysicalFits (CheckpointDone slot at len) = slot < 2
PhysicalFits (Reset slot at len) = slot < 2
PhysicalFits (Head generation partition) = Unit {0}

-- ---- The numbers of a value are within their types, as those of each value of the program are

pub record EpochInRange (e : Epoch) : Type 0 where
  pub loss : e.loss < 2 ^ 32
  pub number : e.number < 2 ^ 32

pub record TxnInRange (t : TxnId) : Type 0 where
  pub epoch : EpochInRange t.epoch
  pub n : t.n < 2 ^ 64

abbrev pub LogicalInRange : Record → Type 0
LogicalInRange (Begin t) = TxnInRange t
LogicalInRange (Operation t prev o) = TxnInRange t × (prev.0 < 2 ^ 64)
LogicalInRange (End t prev committed) = TxnInRange t × (prev.0 < 2 ^ 64)
LogicalInRange (Barrier stable) = stable.0 < 2 ^ 64
LogicalInRange (EpochStart e) = EpochInRange e

abbrev pub PhysicalInRange : Physical → Type 0
PhysicalInRange (Logical lsn e body) = (lsn.0 < 2 ^ 64) × EpochInRange e × LogicalInRange body
PhysicalInRange (Fence e) = EpochInRange e
PhysicalInRange (TruncateTail lsn) = lsn.0 < 2 ^ 64
PhysicalInRange (CheckpointDone slot at len) = (at.0 < 2 ^ 64) × (len < 2 ^ 64)
PhysicalInRange (Reset slot at len) = (at.0 < 2 ^ 64) × (len < 2 ^ 64)
PhysicalInRange (Head generation partition) = (generation < 2 ^ 64) × (partition < 2 ^ 128)

-- a record that has a spelling, as one of any numbers
abbrev pub IsLogical : Record → Type 0
IsLogical body = LogicalFits body × LogicalInRange body

abbrev pub IsPhysical : Physical → Type 0
IsPhysical item = PhysicalFits item × PhysicalInRange item

-- ---- what a codec promises

-- What was read has a spelling, and the bytes begin with it, as many as are told.
abbrev pub IsSpelled : {X : Type 0} → (X → List (List ℕ)) → (X → Type 0) → List ℕ → X × ℕ → Type 0
IsSpelled fields Fits bytes found = Fits found.0 × (bytes ≡ joined (fields found.0) ++ drop found.1 bytes) × (found.1 ≡ length (joined (fields found.0)))

-- the value was read, unless memory ran out
abbrev pub IsReadAs : {X : Type 0} → X → Result (X × ℕ) CodecError → Type 0
IsReadAs x (Ok found) = found.0 ≡ x
IsReadAs x (Err e) = e ≡ errors.NoMemory

-- Each value that fits has one spelling, and no spelling begins another, nor are two values spelled alike.
abbrev pub HasOneSpelling : {X : Type 0} → (X → List (List ℕ)) → (X → Type 0) → Type 0
HasOneSpelling {X} fields Fits = (x y : X) (behind_x behind_y : List ℕ) → Fits x → Fits y → joined (fields x) ++ behind_x ≡ joined (fields y) ++ behind_y → (x ≡ y) × (behind_x ≡ behind_y)
