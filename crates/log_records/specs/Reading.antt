-- Reading from left to right: a value and the reader behind it, or the place where the first wrong field begins.
use Rattle.std.specs.Prelude.{◌≡◌, ◌==◌, ℕ, ◌+◌, ◌-◌, Bool, true, false, List, length, Option, Some, None, Result, Ok, Err, if◌then◌else◌}
use Rattle.std.specs.Int.{Width, w8, w32, w64, w128}
use Rattle.rc_base.specs.declared.ids.Epoch.{Epoch}
use Rattle.rc_base.specs.declared.ids.TxnId.{TxnId}
use Rattle.rc_base.specs.Fields.{Reader, number_at, bytes_at}
use Rattle.coll_model.specs.declared.op.Kind.{Kind}
use Rattle.coll_model.specs.declared.op.Kind.TheVariants as kinds
use Rattle.coll_model.specs.declared.op.Op.{Op}
use Rattle.coll_model.specs.declared.op.Op.TheVariants.{Make, Unmake, Put, Del, Push, Pop}
use Rattle.log_records.specs.declared.record.Record.{Record}
use Rattle.log_records.specs.declared.record.Record.TheVariants.{Begin, Operation, End, Barrier, EpochStart}
use Rattle.log_records.specs.declared.record.Physical.{Physical}
use Rattle.log_records.specs.declared.record.Physical.TheVariants.{Logical, Fence, TruncateTail, CheckpointDone, Reset, Head}
use Rattle.log_records.specs.declared.error.CodecError.{CodecError}
use Rattle.log_records.specs.declared.error.CodecError.TheVariants as errors
use Rattle.rc_base.specs.Names.{is_name}
use Rattle.log_records.specs.Spelling.{is_key, is_value}

infixl 10 ◌>>=◌
abbrev pub ◌>>=◌ : {A B : Type 0} → Result A ℕ → (A → Result B ℕ) → Result B ℕ
(Ok x) >>= f = f x
(Err at) >>= f = Err at

abbrev pub Fails : {X : Type 0} → CodecError → Result X ℕ → Type 0
Fails errors.NoMemory read = Unit {0}
Fails (errors.Bad at) read = read ≡ Err at

-- What a function returned is what reading gives, unless memory ran out; the reader then stands behind it.
abbrev pub Gives : {X : Type 0} → Result X CodecError → Reader → Result (X × Reader) ℕ → Type 0
Gives (Ok x) new read = read ≡ Ok (x, new)
Gives (Err e) new read = Fails e read

-- at the first of the bytes
abbrev pub start : List ℕ → Reader
start bytes = record { place = 0; rest = bytes }

-- What a function returned is the value and the number of bytes that reading gives, unless memory ran out.
abbrev pub GivesFront : {X : Type 0} → Result (X × ℕ) CodecError → Result (X × Reader) ℕ → Type 0
GivesFront (Ok d) read = (after : Reader) × (read ≡ Ok (d.0, after)) × (after.place ≡ d.1)
GivesFront (Err e) read = Fails e read

-- ---- fields

-- the reader in front of the rest
abbrev pub in_front : Reader → List ℕ → Reader
in_front r rest = record { place = r.place + (length r.rest - length rest); rest = rest }

abbrev pub field : {X : Type 0} → Reader → Option (X × List ℕ) → Result (X × Reader) ℕ
field r None = Err r.place
field r (Some f) = Ok (f.0, in_front r f.1)

unfoldable pub read_number : Width → Reader → Result (ℕ × Reader) ℕ
read_number w r = field r (number_at w r.rest)

-- a word of at most max bytes that passes the test
unfoldable pub read_word : Width → ℕ → (List ℕ → Bool) → Reader → Result (List ℕ × Reader) ℕ
read_word w max test r = do
  word ← field r (bytes_at w max r.rest)
  if test word.0 then Ok word else Err r.place

abbrev pub read_name : Reader → Result (List ℕ × Reader) ℕ
read_name r = read_word w8 64 is_name r

abbrev pub read_key : Reader → Result (List ℕ × Reader) ℕ
read_key r = read_word w32 128 is_key r

abbrev pub read_value : Reader → Result (List ℕ × Reader) ℕ
read_value r = read_word w32 1024 is_value r

unfoldable pub read_kind : Reader → Result (Kind × Reader) ℕ
read_kind r = do
  tag ← read_number w8 r
  if tag.0 == 1 then Ok (kinds.Dict, tag.1) else (if tag.0 == 2 then Ok (kinds.Queue, tag.1) else Err r.place)

unfoldable pub read_flag : Reader → Result (Bool × Reader) ℕ
read_flag r = do
  tag ← read_number w8 r
  if tag.0 == 0 then Ok (false, tag.1) else (if tag.0 == 1 then Ok (true, tag.1) else Err r.place)

unfoldable pub read_slot : Reader → Result (ℕ × Reader) ℕ
read_slot r = do
  tag ← read_number w8 r
  if tag.0 == 0 then Ok (0, tag.1) else (if tag.0 == 1 then Ok (1, tag.1) else Err r.place)

-- ---- values of several fields

unfoldable pub read_epoch : Reader → Result (Epoch × Reader) ℕ
read_epoch r = do
  loss ← read_number w32 r
  number ← read_number w32 loss.1
  Ok (record { loss = loss.0; number = number.0 }, number.1)

unfoldable pub read_txn : Reader → Result (TxnId × Reader) ℕ
read_txn r = do
  epoch ← read_epoch r
  n ← read_number w64 epoch.1
  Ok (record { epoch = epoch.0; n = n.0 }, n.1)

-- ---- an operation, behind its tag

unfoldable pub read_make : Reader → Result (Op × Reader) ℕ
read_make r = do
  name ← read_name r
  kind ← read_kind name.1
  Ok (Make name.0 kind.0, kind.1)

unfoldable pub read_unmake : Reader → Result (Op × Reader) ℕ
read_unmake r = do
  name ← read_name r
  Ok (Unmake name.0, name.1)

unfoldable pub read_put : Reader → Result (Op × Reader) ℕ
read_put r = do
  name ← read_name r
  key ← read_key name.1
  value ← read_value key.1
  Ok (Put name.0 key.0 value.0, value.1)

unfoldable pub read_del : Reader → Result (Op × Reader) ℕ
read_del r = do
  name ← read_name r
  key ← read_key name.1
  Ok (Del name.0 key.0, key.1)

unfoldable pub read_push : Reader → Result (Op × Reader) ℕ
read_push r = do
  name ← read_name r
  value ← read_value name.1
  Ok (Push name.0 value.0, value.1)

unfoldable pub read_pop : Reader → Result (Op × Reader) ℕ
read_pop r = do
  name ← read_name r
  Ok (Pop name.0, name.1)

unfoldable pub read_op : Reader → Result (Op × Reader) ℕ
read_op r = do
  tag ← read_number w8 r
  if tag.0 == 1 then read_make tag.1 else (if tag.0 == 2 then read_unmake tag.1 else (if tag.0 == 3 then read_put tag.1 else (if tag.0 == 4 then read_del tag.1 else (if tag.0 == 5 then read_push tag.1 else (if tag.0 == 6 then read_pop tag.1 else Err r.place)))))

-- ---- a logical record, behind its tag

unfoldable pub read_begin : Reader → Result (Record × Reader) ℕ
read_begin r = do
  txn ← read_txn r
  Ok (Begin txn.0, txn.1)

unfoldable pub read_operation : Reader → Result (Record × Reader) ℕ
read_operation r = do
  txn ← read_txn r
  prev ← read_number w64 txn.1
  op ← read_op prev.1
  Ok (Operation txn.0 (record { 0 = prev.0 }) op.0, op.1)

unfoldable pub read_end : Reader → Result (Record × Reader) ℕ
read_end r = do
  txn ← read_txn r
  prev ← read_number w64 txn.1
  committed ← read_flag prev.1
  Ok (End txn.0 (record { 0 = prev.0 }) committed.0, committed.1)

unfoldable pub read_barrier : Reader → Result (Record × Reader) ℕ
read_barrier r = do
  stable ← read_number w64 r
  Ok (Barrier (record { 0 = stable.0 }), stable.1)

unfoldable pub read_epoch_start : Reader → Result (Record × Reader) ℕ
read_epoch_start r = do
  epoch ← read_epoch r
  Ok (EpochStart epoch.0, epoch.1)

unfoldable pub read_logical : Reader → Result (Record × Reader) ℕ
read_logical r = do
  tag ← read_number w8 r
  if tag.0 == 16 then read_begin tag.1 else (if tag.0 == 17 then read_operation tag.1 else (if tag.0 == 18 then read_end tag.1 else (if tag.0 == 19 then read_barrier tag.1 else (if tag.0 == 20 then read_epoch_start tag.1 else Err r.place))))

-- ---- a physical record, behind its tag

unfoldable pub read_logged : Reader → Result (Physical × Reader) ℕ
read_logged r = do
  lsn ← read_number w64 r
  epoch ← read_epoch lsn.1
  body ← read_logical epoch.1
  Ok (Logical (record { 0 = lsn.0 }) epoch.0 body.0, body.1)

unfoldable pub read_fence : Reader → Result (Physical × Reader) ℕ
read_fence r = do
  epoch ← read_epoch r
  Ok (Fence epoch.0, epoch.1)

unfoldable pub read_truncate_tail : Reader → Result (Physical × Reader) ℕ
read_truncate_tail r = do
  lsn ← read_number w64 r
  Ok (TruncateTail (record { 0 = lsn.0 }), lsn.1)

unfoldable pub read_checkpoint_done : Reader → Result (Physical × Reader) ℕ
read_checkpoint_done r = do
  slot ← read_slot r
  at ← read_number w64 slot.1
  len ← read_number w64 at.1
  Ok (CheckpointDone slot.0 (record { 0 = at.0 }) len.0, len.1)

unfoldable pub read_reset : Reader → Result (Physical × Reader) ℕ
read_reset r = do
  slot ← read_slot r
  at ← read_number w64 slot.1
  len ← read_number w64 at.1
  Ok (Reset slot.0 (record { 0 = at.0 }) len.0, len.1)

-- the format of the log is 1
unfoldable pub read_format : Reader → Result (ℕ × Reader) ℕ
read_format r = do
  format ← read_number w8 r
  if format.0 == 1 then Ok (1, format.1) else Err r.place

unfoldable pub read_head : Reader → Result (Physical × Reader) ℕ
read_head r = do
  format ← read_format r
  generation ← read_number w64 format.1
  partition ← read_number w128 generation.1
  Ok (Head generation.0 partition.0, partition.1)

unfoldable pub read_physical : Reader → Result (Physical × Reader) ℕ
read_physical r = do
  tag ← read_number w8 r
  if tag.0 == 1 then read_logged tag.1 else (if tag.0 == 2 then read_fence tag.1 else (if tag.0 == 3 then read_truncate_tail tag.1 else (if tag.0 == 4 then read_checkpoint_done tag.1 else (if tag.0 == 5 then read_reset tag.1 else (if tag.0 == 6 then read_head tag.1 else Err r.place)))))
