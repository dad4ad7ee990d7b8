-- The spellings of groups.
use Rattle.std.proofs.Common.{◌≡◌, ◌≢◌, ℕ, ◌≤◌, List, [], ◌∷◌, ◌++◌, length, refl, sym, ap, subst, ◌∙◌, append_assoc, append-nil, arith, length-append, Result, Ok, Err}
use Rattle.std.specs.Prelude.{IsOk, if◌then◌else◌}
use Rattle.std.specs.Result.{is_ok}
use Rattle.std.proofs.lemmas.Bool.{false≢true}
use Rattle.log_records.specs.declared.record.Physical.{Physical}
use Rattle.log_records.specs.declared.record.Physical.TheVariants.{Logical, Fence, TruncateTail, CheckpointDone, Reset, Head}
use Rattle.log_records.specs.Spelling.{byte, long, epoch, logical, physical, joined, IsPhysical}
use Rattle.std.specs.Int.{w128, to_be_bytes}
use Rattle.gated_log.specs.Blocks.{IsPayload}
use Rattle.barrier_group.specs.Group.{spelled, AllPhysical}

pub spelled-push : (items : List Physical) (item : Physical) → spelled (items ++ item ∷ []) ≡ spelled items ++ joined (physical item)
spelled-push [] item = append-nil (joined (physical item))
spelled-push (first ∷ items) item = ap (λ (t : List ℕ). joined (physical first) ++ t) (spelled-push items item) ∙ sym (append_assoc (joined (physical first)) (spelled items) (joined (physical item)))

pub AllPhysical-push : (items : List Physical) (item : Physical) → AllPhysical items → IsPhysical item → AllPhysical (items ++ item ∷ [])
AllPhysical-push [] item all is = (is, tt)
AllPhysical-push (first ∷ items) item all is = (all.0, AllPhysical-push items item all.1 is)

-- a tag stands in front of each spelling
pub spelling-some : (item : Physical) → 1 ≤ length (joined (physical item))
spelling-some (Logical lsn e body) = omega (arith, length-append (byte 1) (joined (long lsn.0 ∷ (epoch e ++ logical body))))
spelling-some (Fence e) = omega (arith, length-append (byte 2) (joined (epoch e)))
spelling-some (TruncateTail lsn) = omega (arith, length-append (byte 3) (joined (long lsn.0 ∷ [])))
spelling-some (CheckpointDone slot at len) = omega (arith, length-append (byte 4) (joined (byte slot ∷ long at.0 ∷ long len ∷ [])))
spelling-some (Reset slot at len) = omega (arith, length-append (byte 5) (joined (byte slot ∷ long at.0 ∷ long len ∷ [])))
spelling-some (Head generation partition) = omega (arith, length-append (byte 6) (joined (byte 1 ∷ long generation ∷ to_be_bytes w128 partition ∷ [])))

pub is_payload : (items : List Physical) (payload : List ℕ) → items ≢ [] → payload ≡ spelled items → length (spelled items) ≤ 1048576 → IsPayload payload
is_payload [] payload more is fits = absurd (more refl)
is_payload (item ∷ items) payload more is fits = record {
  some = omega (arith, ap length is, length-append (joined (physical item)) (spelled items), spelling-some item);
  fits = omega (arith, ap length is);
}

-- a group that was pushed to
pub grown : {A F : Type 0} (result : Result A F) (old new : List Physical) (item : Physical) (payload text : List ℕ) → IsOk result → new ≡ (if is_ok result then old ++ item ∷ [] else old)
    → payload ≡ spelled old → text ≡ payload ++ joined (physical item) → AllPhysical old → IsPhysical item → (text ≡ spelled new) × AllPhysical new
grown (Ok done) old new item payload text ok is had put all fits = (
  put ∙ ap (λ (t : List ℕ). t ++ joined (physical item)) had ∙ sym (ap spelled is ∙ spelled-push old item),
  subst AllPhysical (sym is) (AllPhysical-push old item all fits),
)
grown (Err e) old new item payload text ok is had put all fits = absurd (false≢true ok)
