-- Physical records.
use Rattle.std.proofs.Common.{◌≡◌, ℕ, lit<, cond, eqb, List, [], ◌∷◌, ◌++◌, Err, refl, subst}
use Rattle.std.specs.Int.{w8, w64, w128, to_be_bytes}
use Rattle.rc_base.specs.Fields.{Reader}
use Rattle.rc_base.specs.declared.ids.Epoch.{Epoch}
use Rattle.log_records.specs.declared.record.Record.{Record}
use Rattle.log_records.specs.declared.record.Physical.{Physical}
use Rattle.log_records.specs.declared.record.Physical.TheVariants.{Logical, Fence, TruncateTail, CheckpointDone, Reset, Head}
use Rattle.log_records.specs.Spelling.{byte, long, epoch, logical, physical, EpochInRange, IsLogical, IsPhysical}
use Rattle.log_records.specs.Reading.{read_number, read_slot, read_format, read_epoch, read_logical, read_logged, read_fence, read_truncate_tail, read_checkpoint_done, read_reset, read_head, read_physical}
use Rattle.log_records.proofs.Steps.{Step, Takes, Again, Branch, bind_ok, one_takes, one_again, three_takes, three_again, pick, nothing}
use Rattle.log_records.proofs.FieldCodec.{Long, Wide, IsSlot, IsFormat, longs, wides, bytes_of, tag_takes, tag_again, long_takes, long_again, wide_takes, wide_again, slot_takes, slot_again, format_takes, format_again, epoch_takes, epoch_again}
use Rattle.log_records.proofs.LogicalCodec.{lsn, logical_takes, logical_again}

abbrev logged_made : ℕ → Epoch → Record → Physical
logged_made l e body = Logical (lsn l) e body

abbrev fence_made : Epoch → Physical
fence_made e = Fence e

abbrev truncate_tail_made : ℕ → Physical
truncate_tail_made l = TruncateTail (lsn l)

abbrev checkpoint_done_made : ℕ → ℕ → ℕ → Physical
checkpoint_done_made slot at len = CheckpointDone slot (lsn at) len

abbrev reset_made : ℕ → ℕ → ℕ → Physical
reset_made slot at len = Reset slot (lsn at) len

abbrev head_made : ℕ → ℕ → ℕ → Physical
head_made format generation partition = Head generation partition

logged_branch : Branch read_logged 1 physical IsPhysical
unfolding read_logged
logged_branch r x after small e =
    let m = three_takes (read_number w64) longs Long read_epoch epoch EpochInRange read_logical logical IsLogical logged_made long_takes epoch_takes logical_takes r x after small e in
    subst (λ (y : Physical). IsPhysical y × (body : List (List ℕ)) × (physical y ≡ byte 1 ∷ body) × Step r body after) m.3 ((m.6.0, (m.4, m.5, m.6.1)), long m.0 ∷ (epoch m.1 ++ logical m.2), refl, m.7)

fence_branch : Branch read_fence 2 physical IsPhysical
unfolding read_fence
fence_branch r x after small e =
    let m = one_takes read_epoch epoch EpochInRange fence_made epoch_takes r x after small e in
    subst (λ (y : Physical). IsPhysical y × (body : List (List ℕ)) × (physical y ≡ byte 2 ∷ body) × Step r body after) m.1 ((tt, m.2), epoch m.0, refl, m.3)

truncate_tail_branch : Branch read_truncate_tail 3 physical IsPhysical
unfolding read_truncate_tail
truncate_tail_branch r x after small e =
    let m = one_takes (read_number w64) longs Long truncate_tail_made long_takes r x after small e in
    subst (λ (y : Physical). IsPhysical y × (body : List (List ℕ)) × (physical y ≡ byte 3 ∷ body) × Step r body after) m.1 ((tt, m.2), long m.0 ∷ [], refl, m.3)

checkpoint_done_branch : Branch read_checkpoint_done 4 physical IsPhysical
unfolding read_checkpoint_done
checkpoint_done_branch r x after small e =
    let m = three_takes read_slot bytes_of IsSlot (read_number w64) longs Long (read_number w64) longs Long checkpoint_done_made slot_takes long_takes long_takes r x after small e in
    subst (λ (y : Physical). IsPhysical y × (body : List (List ℕ)) × (physical y ≡ byte 4 ∷ body) × Step r body after) m.3 ((m.4, (m.5, m.6)), byte m.0 ∷ long m.1 ∷ long m.2 ∷ [], refl, m.7)

reset_branch : Branch read_reset 5 physical IsPhysical
unfolding read_reset
reset_branch r x after small e =
    let m = three_takes read_slot bytes_of IsSlot (read_number w64) longs Long (read_number w64) longs Long reset_made slot_takes long_takes long_takes r x after small e in
    subst (λ (y : Physical). IsPhysical y × (body : List (List ℕ)) × (physical y ≡ byte 5 ∷ body) × Step r body after) m.3 ((m.4, (m.5, m.6)), byte m.0 ∷ long m.1 ∷ long m.2 ∷ [], refl, m.7)

head_branch : Branch read_head 6 physical IsPhysical
unfolding read_head
head_branch r x after small e =
    let m = three_takes read_format bytes_of IsFormat (read_number w64) longs Long (read_number w128) wides Wide head_made format_takes long_takes wide_takes r x after small e in
    let step : Step r (byte 1 ∷ long m.1 ∷ to_be_bytes w128 m.2 ∷ []) after = subst (λ (n : ℕ). Step r (byte n ∷ long m.1 ∷ to_be_bytes w128 m.2 ∷ []) after) m.4 m.7 in
    subst (λ (y : Physical). IsPhysical y × (body : List (List ℕ)) × (physical y ≡ byte 6 ∷ body) × Step r body after) m.3 ((tt, (m.5, m.6)), byte 1 ∷ long m.1 ∷ to_be_bytes w128 m.2 ∷ [], refl, step)

pub physical_takes : Takes read_physical physical IsPhysical
unfolding read_physical
physical_takes r x after small e =
    let t = bind_ok (read_number w8 r) (λ (tag : ℕ × Reader). cond (eqb tag.0 1) (read_logged tag.1) (cond (eqb tag.0 2) (read_fence tag.1) (cond (eqb tag.0 3) (read_truncate_tail tag.1) (cond (eqb tag.0 4) (read_checkpoint_done tag.1) (cond (eqb tag.0 5) (read_reset tag.1) (cond (eqb tag.0 6) (read_head tag.1) (Err r.place))))))) (x, after) e in
    let s = tag_takes r t.0.0 t.0.1 small t.1 in
    pick read_logged 1 physical IsPhysical logged_branch r t.0.1 after x t.0.0 s (cond (eqb t.0.0 2) (read_fence t.0.1) (cond (eqb t.0.0 3) (read_truncate_tail t.0.1) (cond (eqb t.0.0 4) (read_checkpoint_done t.0.1) (cond (eqb t.0.0 5) (read_reset t.0.1) (cond (eqb t.0.0 6) (read_head t.0.1) (Err r.place))))))
    (λ e1. pick read_fence 2 physical IsPhysical fence_branch r t.0.1 after x t.0.0 s (cond (eqb t.0.0 3) (read_truncate_tail t.0.1) (cond (eqb t.0.0 4) (read_checkpoint_done t.0.1) (cond (eqb t.0.0 5) (read_reset t.0.1) (cond (eqb t.0.0 6) (read_head t.0.1) (Err r.place)))))
    (λ e2. pick read_truncate_tail 3 physical IsPhysical truncate_tail_branch r t.0.1 after x t.0.0 s (cond (eqb t.0.0 4) (read_checkpoint_done t.0.1) (cond (eqb t.0.0 5) (read_reset t.0.1) (cond (eqb t.0.0 6) (read_head t.0.1) (Err r.place))))
    (λ e3. pick read_checkpoint_done 4 physical IsPhysical checkpoint_done_branch r t.0.1 after x t.0.0 s (cond (eqb t.0.0 5) (read_reset t.0.1) (cond (eqb t.0.0 6) (read_head t.0.1) (Err r.place)))
    (λ e4. pick read_reset 5 physical IsPhysical reset_branch r t.0.1 after x t.0.0 s (cond (eqb t.0.0 6) (read_head t.0.1) (Err r.place))
    (λ e5. pick read_head 6 physical IsPhysical head_branch r t.0.1 after x t.0.0 s (Err r.place)
    (λ e6. nothing r.place x after e6) e5) e4) e3) e2) e1) t.2

pub physical_again : Again read_physical physical IsPhysical
unfolding read_physical read_logged read_fence read_truncate_tail read_checkpoint_done read_reset read_head
physical_again r (Logical l ep body) rest fits e =
    let tag = tag_again r 1 (long l.0 ∷ (epoch ep ++ logical body)) rest (lit< tt) e in
    let m = three_again (read_number w64) longs Long read_epoch epoch EpochInRange read_logical logical IsLogical logged_made long_again epoch_again logical_again tag.0 l.0 ep body rest fits.1.0 fits.1.1 (fits.0, fits.1.2) tag.2 in
    (m.0, rw tag.1 m.1, m.2)
physical_again r (Fence ep) rest fits e =
    let tag = tag_again r 2 (epoch ep) rest (lit< tt) e in
    let m = one_again read_epoch epoch EpochInRange fence_made epoch_again tag.0 ep rest fits.1 tag.2 in
    (m.0, rw tag.1 m.1, m.2)
physical_again r (TruncateTail l) rest fits e =
    let tag = tag_again r 3 (long l.0 ∷ []) rest (lit< tt) e in
    let m = one_again (read_number w64) longs Long truncate_tail_made long_again tag.0 l.0 rest fits.1 tag.2 in
    (m.0, rw tag.1 m.1, m.2)
physical_again r (CheckpointDone slot at len) rest fits e =
    let tag = tag_again r 4 (byte slot ∷ long at.0 ∷ long len ∷ []) rest (lit< tt) e in
    let m = three_again read_slot bytes_of IsSlot (read_number w64) longs Long (read_number w64) longs Long checkpoint_done_made slot_again long_again long_again tag.0 slot at.0 len rest fits.0 fits.1.0 fits.1.1 tag.2 in
    (m.0, rw tag.1 m.1, m.2)
physical_again r (Reset slot at len) rest fits e =
    let tag = tag_again r 5 (byte slot ∷ long at.0 ∷ long len ∷ []) rest (lit< tt) e in
    let m = three_again read_slot bytes_of IsSlot (read_number w64) longs Long (read_number w64) longs Long reset_made slot_again long_again long_again tag.0 slot at.0 len rest fits.0 fits.1.0 fits.1.1 tag.2 in
    (m.0, rw tag.1 m.1, m.2)
physical_again r (Head generation partition) rest fits e =
    let tag = tag_again r 6 (byte 1 ∷ long generation ∷ to_be_bytes w128 partition ∷ []) rest (lit< tt) e in
    let m = three_again read_format bytes_of IsFormat (read_number w64) longs Long (read_number w128) wides Wide head_made format_again long_again wide_again tag.0 1 generation partition rest refl fits.1.0 fits.1.1 tag.2 in
    (m.0, rw tag.1 m.1, m.2)
