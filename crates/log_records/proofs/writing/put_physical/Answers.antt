use Rattle.std.proofs.Common.{[], ◌∷◌}
use Rattle.std.specs.Int.{w128, to_be_bytes}
use Rattle.log_records.specs.Spelling.{byte, long}
use Rattle.log_records.proofs.Appending.{more, last}
use Rattle.log_records.proofs.writing.put_physical.Goals as goal

pub returns-in_ok-put_u64-in-CheckpointDone : goal.returns-in_ok-put_u64-in-CheckpointDone
returns-in_ok-put_u64-in-CheckpointDone c =
    let slot = byte c.in-CheckpointDone.slot in
    let at = long c.in-CheckpointDone.at.0 in
    let a = more _ _ _ (byte 4 ∷ []) (slot ∷ []) c.in_ok-put_u8-in-CheckpointDone.ensures.ok c.in_ok-put_u8-in-CheckpointDone-2.ensures.ok in
    let b = more _ _ _ (byte 4 ∷ slot ∷ []) (at ∷ []) a c.in_ok-put_u64-in-CheckpointDone.ensures.ok in
    rw c.in-CheckpointDone.is (last _ _ _ _ (byte 4 ∷ slot ∷ at ∷ []) (long c.in-CheckpointDone.len ∷ []) b c.put_u64-in-CheckpointDone-2.ensures.ok)

pub returns-in_ok-put_u64-in-Reset : goal.returns-in_ok-put_u64-in-Reset
returns-in_ok-put_u64-in-Reset c =
    let slot = byte c.in-Reset.slot in
    let at = long c.in-Reset.at.0 in
    let a = more _ _ _ (byte 5 ∷ []) (slot ∷ []) c.in_ok-put_u8-in-Reset.ensures.ok c.in_ok-put_u8-in-Reset-2.ensures.ok in
    let b = more _ _ _ (byte 5 ∷ slot ∷ []) (at ∷ []) a c.in_ok-put_u64-in-Reset.ensures.ok in
    rw c.in-Reset.is (last _ _ _ _ (byte 5 ∷ slot ∷ at ∷ []) (long c.in-Reset.len ∷ []) b c.put_u64-in-Reset-2.ensures.ok)

pub returns-in_ok-put_u64-in-Head : goal.returns-in_ok-put_u64-in-Head
returns-in_ok-put_u64-in-Head c =
    let generation = long c.in-Head.generation in
    let a = more _ _ _ (byte 6 ∷ []) (byte 1 ∷ []) c.in_ok-put_u8-in-Head.ensures.ok c.in_ok-put_u8-in-Head-2.ensures.ok in
    let b = more _ _ _ (byte 6 ∷ byte 1 ∷ []) (generation ∷ []) a c.in_ok-put_u64-in-Head.ensures.ok in
    rw c.in-Head.is (last _ _ _ _ (byte 6 ∷ byte 1 ∷ generation ∷ []) (to_be_bytes w128 c.in-Head.partition ∷ []) b c.put_u128.ensures.ok)
