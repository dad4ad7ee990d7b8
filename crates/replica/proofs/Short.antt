-- The block of a step is short.
use Rattle.std.proofs.Common.{◌≡◌, ℕ, ◌+◌, ◌*◌, ◌≤◌, Bool, true, false, cond, List, [], ◌∷◌, ◌++◌, length, refl, arith}
use Rattle.std.specs.Prelude.{IsTrue, nat_le}
use Rattle.std.specs.Int.{w8, w32, to_be_bytes}
use Rattle.std.proofs.lemmas.List.{length-append}
use Rattle.std.proofs.lemmas.Bool.{and_parts}
use Rattle.std.proofs.lemmas.Bool.Decides.{nat_tests}
use Rattle.rc_base.specs.declared.ids.Epoch.{Epoch}
use Rattle.rc_base.specs.declared.ids.Lsn.{Lsn}
use Rattle.rc_base.specs.Ids.{epoch_lt}
use Rattle.rc_base.specs.Names.{is_name}
use Rattle.coll_model.specs.declared.op.Kind.{Kind}
use Rattle.coll_model.specs.declared.op.Kind.TheVariants as kinds
use Rattle.coll_model.specs.declared.op.Op.{Op}
use Rattle.coll_model.specs.declared.op.Op.TheVariants.{Make, Unmake, Put, Del, Push, Pop}
use Rattle.log_records.specs.declared.record.Record.{Record}
use Rattle.log_records.specs.declared.record.Record.TheVariants.{Begin, Operation, End, Barrier, EpochStart}
use Rattle.log_records.specs.declared.record.Physical.TheVariants.{Logical, Fence}
use Rattle.log_records.specs.Spelling as spelling
use Rattle.log_records.specs.Spelling.{is_key, is_value, physical, joined, OpFits, LogicalFits}
use Rattle.barrier_group.specs.Group.{spelled}
use Rattle.replica_model.specs.declared.step.StepEvent.{StepEvent}
use Rattle.replica_model.specs.declared.step.StepEvent.TheVariants as steps
use Rattle.replica.specs.Logging.{AllFit}
use Rattle.replica.specs.Open.{Open}
use Rattle.replica_model.specs.Records.{placed}
use Rattle.replica.specs.Step.{logged_by, block, MayStep}
use Rattle.replica.proofs.Lengthened.{logged_few}
use Rattle.replica.proofs.Told.{logged_fits}

-- how long fields are together
abbrev total : List (List ℕ) → ℕ
total [] = 0
total (field ∷ fields) = length field + total fields

joined_total : (fields : List (List ℕ)) → length (joined fields) ≡ total fields
joined_total [] = refl
joined_total (field ∷ fields) = omega (arith, length-append field (joined fields), joined_total fields)

low : (n m : ℕ) → IsTrue (nat_le n m) → n ≤ m
low n m h = grind (arith, nat_tests)

name_short : (n : List ℕ) → IsTrue (is_name n) → length (spelling.name n) ≤ 65
name_short n h =
    let size : length n ≤ 64 = low (length n) 64 (and_parts (nat_le 1 (length n)) (nat_le (length n) 64) (and_parts _ _ h).0).1 in
    let one : length (to_be_bytes w8 (length n)) ≡ 1 = refl in
    omega (arith, length-append (to_be_bytes w8 (length n)) n, one, size)

key_short : (n : List ℕ) → IsTrue (is_key n) → length (spelling.string n) ≤ 132
key_short n h =
    let size : length n ≤ 128 = low (length n) 128 (and_parts (nat_le 1 (length n)) (nat_le (length n) 128) h).1 in
    let four : length (to_be_bytes w32 (length n)) ≡ 4 = refl in
    omega (arith, length-append (to_be_bytes w32 (length n)) n, four, size)

value_short : (n : List ℕ) → IsTrue (is_value n) → length (spelling.string n) ≤ 1028
value_short n h =
    let four : length (to_be_bytes w32 (length n)) ≡ 4 = refl in
    omega (arith, length-append (to_be_bytes w32 (length n)) n, four, low (length n) 1024 h)

kind_short : (k : Kind) → length (spelling.kind k) ≡ 1
kind_short kinds.Dict = refl
kind_short kinds.Queue = refl

one_byte : (n : ℕ) → length (spelling.byte n) ≡ 1
one_byte n = refl

eight : (n : ℕ) → length (spelling.long n) ≡ 8
eight n = refl

four : (n : ℕ) → length (to_be_bytes w32 n) ≡ 4
four n = refl

flag_short : (b : Bool) → length (spelling.flag b) ≡ 1
flag_short true = refl
flag_short false = refl

op_short : (o : Op) → OpFits o → total (spelling.op o) ≤ 1226
op_short (Make n k) h = omega (arith, one_byte 1, name_short n h, kind_short k)
op_short (Unmake n) h = omega (arith, one_byte 2, name_short n h)
op_short (Put n key value) h = omega (arith, one_byte 3, name_short n h.0, key_short key h.1, value_short value h.2)
op_short (Del n key) h = omega (arith, one_byte 4, name_short n h.0, key_short key h.1)
op_short (Push n value) h = omega (arith, one_byte 5, name_short n h.0, value_short value h.1)
op_short (Pop n) h = omega (arith, one_byte 6, name_short n h)

logical_short : (body : Record) → LogicalFits body → total (spelling.logical body) ≤ 1300
logical_short (Begin t) h = omega (arith, one_byte 16, four t.epoch.loss, four t.epoch.number, eight t.n)
logical_short (Operation t prev o) h = omega (arith, one_byte 17, four t.epoch.loss, four t.epoch.number, eight t.n, eight prev.0, op_short o h)
logical_short (End t prev committed) h = omega (arith, one_byte 18, four t.epoch.loss, four t.epoch.number, eight t.n, eight prev.0, flag_short committed)
logical_short (Barrier stable) h = omega (arith, one_byte 19, eight stable.0)
logical_short (EpochStart e) h = omega (arith, one_byte 20, four e.loss, four e.number)

record_short : (lsn : Lsn) (e : Epoch) (body : Record) → LogicalFits body → length (joined (physical (Logical lsn e body))) ≤ 1400
record_short lsn e body h = omega (arith, joined_total (physical (Logical lsn e body)), one_byte 1, eight lsn.0, four e.loss, four e.number, logical_short body h)

placed_short : (last : ℕ) (e : Epoch) (bodies : List Record) → AllFit bodies → length (spelled (placed last e bodies)) ≤ 1400 * length bodies
placed_short last e [] h = omega arith
placed_short last e (body ∷ bodies) h =
    omega (arith, length-append (joined (physical (Logical (record { 0 = last + 1 }) e body))) (spelled (placed (last + 1) e bodies)), record_short (record { 0 = last + 1 }) e body h.0, placed_short (last + 1) e bodies h.1)

fence_short : (e : Epoch) (b : Bool) → length (spelled (cond b (Fence e ∷ []) [] ++ [])) ≤ 1400
fence_short e true = omega (arith, length-append (joined (physical (Fence e))) [], joined_total (physical (Fence e)), one_byte 2, four e.loss, four e.number)
fence_short e false = omega arith

pub block_short : (r : Open) (event : StepEvent) → MayStep r event → length (spelled (block r event)) ≤ 1048576
block_short r (steps.Client call) may = omega (arith, placed_short r.last.0 r.epoch (logged_by r call) (logged_fits r (steps.Client call) may), logged_few r (steps.Client call))
block_short r (steps.Survey epoch) may = omega (arith, fence_short epoch (epoch_lt r.fence epoch))
block_short r (steps.Appoint a) may = omega (arith, placed_short r.last.0 a.epoch (EpochStart a.epoch ∷ []) (tt, tt))
block_short r (steps.Activate epoch) may = omega arith
block_short r steps.Barrier may = omega (arith, placed_short r.last.0 r.epoch (Barrier r.stable ∷ []) (tt, tt))
block_short r steps.Inspect may = omega arith
