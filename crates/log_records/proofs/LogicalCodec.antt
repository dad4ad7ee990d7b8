-- Logical records.
use Rattle.std.proofs.Common.{◌≡◌, ℕ, lit<, Bool, cond, eqb, List, [], ◌∷◌, ◌++◌, Err, refl, subst}
use Rattle.std.specs.Int.{w8, w64}
use Rattle.rc_base.specs.Fields.{Reader}
use Rattle.rc_base.specs.declared.ids.Epoch.{Epoch}
use Rattle.rc_base.specs.declared.ids.Lsn.{Lsn}
use Rattle.rc_base.specs.declared.ids.TxnId.{TxnId}
use Rattle.coll_model.specs.declared.op.Op.{Op}
use Rattle.log_records.specs.declared.record.Record.{Record}
use Rattle.log_records.specs.declared.record.Record.TheVariants.{Begin, Operation, End, Barrier, EpochStart}
use Rattle.log_records.specs.Spelling.{byte, long, flag, epoch, txn, op, logical, OpFits, EpochInRange, TxnInRange, IsLogical}
use Rattle.log_records.specs.Reading.{read_number, read_flag, read_epoch, read_txn, read_op, read_begin, read_operation, read_end, read_barrier, read_epoch_start, read_logical}
use Rattle.log_records.proofs.Steps.{Step, Takes, Again, Branch, bind_ok, one_takes, one_again, three_takes, three_again, pick, nothing}
use Rattle.log_records.proofs.FieldCodec.{Long, longs, flags, tag_takes, tag_again, long_takes, long_again, flag_takes, flag_again, epoch_takes, epoch_again, txn_takes, txn_again}
use Rattle.log_records.proofs.OpCodec.{op_takes, op_again}

abbrev pub lsn : ℕ → Lsn
lsn n = record { 0 = n }

abbrev begin_made : TxnId → Record
begin_made t = Begin t

abbrev operation_made : TxnId → ℕ → Op → Record
operation_made t prev o = Operation t (lsn prev) o

abbrev end_made : TxnId → ℕ → Bool → Record
end_made t prev committed = End t (lsn prev) committed

abbrev barrier_made : ℕ → Record
barrier_made stable = Barrier (lsn stable)

abbrev epoch_start_made : Epoch → Record
epoch_start_made e = EpochStart e

begin_branch : Branch read_begin 16 logical IsLogical
unfolding read_begin
begin_branch r x after small e =
    let m = one_takes read_txn txn TxnInRange begin_made txn_takes r x after small e in
    subst (λ (y : Record). IsLogical y × (body : List (List ℕ)) × (logical y ≡ byte 16 ∷ body) × Step r body after) m.1 ((tt, m.2), txn m.0, refl, m.3)

operation_branch : Branch read_operation 17 logical IsLogical
unfolding read_operation
operation_branch r x after small e =
    let m = three_takes read_txn txn TxnInRange (read_number w64) longs Long read_op op OpFits operation_made txn_takes long_takes op_takes r x after small e in
    subst (λ (y : Record). IsLogical y × (body : List (List ℕ)) × (logical y ≡ byte 17 ∷ body) × Step r body after) m.3 ((m.6, (m.4, m.5)), txn m.0 ++ long m.1 ∷ op m.2, refl, m.7)

end_branch : Branch read_end 18 logical IsLogical
unfolding read_end
end_branch r x after small e =
    let m = three_takes read_txn txn TxnInRange (read_number w64) longs Long read_flag flags (λ b. Unit {0}) end_made txn_takes long_takes flag_takes r x after small e in
    subst (λ (y : Record). IsLogical y × (body : List (List ℕ)) × (logical y ≡ byte 18 ∷ body) × Step r body after) m.3 ((tt, (m.4, m.5)), txn m.0 ++ long m.1 ∷ flag m.2 ∷ [], refl, m.7)

barrier_branch : Branch read_barrier 19 logical IsLogical
unfolding read_barrier
barrier_branch r x after small e =
    let m = one_takes (read_number w64) longs Long barrier_made long_takes r x after small e in
    subst (λ (y : Record). IsLogical y × (body : List (List ℕ)) × (logical y ≡ byte 19 ∷ body) × Step r body after) m.1 ((tt, m.2), long m.0 ∷ [], refl, m.3)

epoch_start_branch : Branch read_epoch_start 20 logical IsLogical
unfolding read_epoch_start
epoch_start_branch r x after small e =
    let m = one_takes read_epoch epoch EpochInRange epoch_start_made epoch_takes r x after small e in
    subst (λ (y : Record). IsLogical y × (body : List (List ℕ)) × (logical y ≡ byte 20 ∷ body) × Step r body after) m.1 ((tt, m.2), epoch m.0, refl, m.3)

pub logical_takes : Takes read_logical logical IsLogical
unfolding read_logical
logical_takes r x after small e =
    let t = bind_ok (read_number w8 r) (λ (tag : ℕ × Reader). cond (eqb tag.0 16) (read_begin tag.1) (cond (eqb tag.0 17) (read_operation tag.1) (cond (eqb tag.0 18) (read_end tag.1) (cond (eqb tag.0 19) (read_barrier tag.1) (cond (eqb tag.0 20) (read_epoch_start tag.1) (Err r.place)))))) (x, after) e in
    let s = tag_takes r t.0.0 t.0.1 small t.1 in
    pick read_begin 16 logical IsLogical begin_branch r t.0.1 after x t.0.0 s (cond (eqb t.0.0 17) (read_operation t.0.1) (cond (eqb t.0.0 18) (read_end t.0.1) (cond (eqb t.0.0 19) (read_barrier t.0.1) (cond (eqb t.0.0 20) (read_epoch_start t.0.1) (Err r.place)))))
    (λ e1. pick read_operation 17 logical IsLogical operation_branch r t.0.1 after x t.0.0 s (cond (eqb t.0.0 18) (read_end t.0.1) (cond (eqb t.0.0 19) (read_barrier t.0.1) (cond (eqb t.0.0 20) (read_epoch_start t.0.1) (Err r.place))))
    (λ e2. pick read_end 18 logical IsLogical end_branch r t.0.1 after x t.0.0 s (cond (eqb t.0.0 19) (read_barrier t.0.1) (cond (eqb t.0.0 20) (read_epoch_start t.0.1) (Err r.place)))
    (λ e3. pick read_barrier 19 logical IsLogical barrier_branch r t.0.1 after x t.0.0 s (cond (eqb t.0.0 20) (read_epoch_start t.0.1) (Err r.place))
    (λ e4. pick read_epoch_start 20 logical IsLogical epoch_start_branch r t.0.1 after x t.0.0 s (Err r.place)
    (λ e5. nothing r.place x after e5) e4) e3) e2) e1) t.2

pub logical_again : Again read_logical logical IsLogical
unfolding read_logical read_begin read_operation read_end read_barrier read_epoch_start
logical_again r (Begin t) rest fits e =
    let tag = tag_again r 16 (txn t) rest (lit< tt) e in
    let m = one_again read_txn txn TxnInRange begin_made txn_again tag.0 t rest fits.1 tag.2 in
    (m.0, rw tag.1 m.1, m.2)
logical_again r (Operation t prev o) rest fits e =
    let tag = tag_again r 17 (txn t ++ long prev.0 ∷ op o) rest (lit< tt) e in
    let m = three_again read_txn txn TxnInRange (read_number w64) longs Long read_op op OpFits operation_made txn_again long_again op_again tag.0 t prev.0 o rest fits.1.0 fits.1.1 fits.0 tag.2 in
    (m.0, rw tag.1 m.1, m.2)
logical_again r (End t prev committed) rest fits e =
    let tag = tag_again r 18 (txn t ++ long prev.0 ∷ flag committed ∷ []) rest (lit< tt) e in
    let m = three_again read_txn txn TxnInRange (read_number w64) longs Long read_flag flags (λ b. Unit {0}) end_made txn_again long_again flag_again tag.0 t prev.0 committed rest fits.1.0 fits.1.1 tt tag.2 in
    (m.0, rw tag.1 m.1, m.2)
logical_again r (Barrier stable) rest fits e =
    let tag = tag_again r 19 (long stable.0 ∷ []) rest (lit< tt) e in
    let m = one_again (read_number w64) longs Long barrier_made long_again tag.0 stable.0 rest fits.1 tag.2 in
    (m.0, rw tag.1 m.1, m.2)
logical_again r (EpochStart ep) rest fits e =
    let tag = tag_again r 20 (epoch ep) rest (lit< tt) e in
    let m = one_again read_epoch epoch EpochInRange epoch_start_made epoch_again tag.0 ep rest fits.1 tag.2 in
    (m.0, rw tag.1 m.1, m.2)
