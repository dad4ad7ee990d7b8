-- What payloads spell.
use Rattle.std.proofs.Common.{◌≡◌, ℕ, zero, suc, ◌+◌, ◌-◌, ◌≤◌, ◌<◌, List, [], ◌∷◌, ◌++◌, length, drop, Option, Some, None, Result, Err, refl, sym, ap, ◌∙◌, append-nil, append_assoc, arith, length-append, length-drop}
use Rattle.std.proofs.lemmas.List.{drop_at, drop-drop, drop_all}
use Rattle.std.specs.Option.{option_map}
use Rattle.rc_base.specs.Fields.{Reader}
use Rattle.log_records.specs.declared.record.Physical.{Physical}
use Rattle.log_records.specs.Spelling.{physical, joined, IsPhysical, IsSpelled}
use Rattle.log_records.specs.Reading.{start, read_physical}
use Rattle.log_records.proofs.PhysicalCodec.{physical_again}
use Rattle.barrier_group.specs.Group.{spelled, AllPhysical}
use Rattle.barrier_group.proofs.Spelled.{spelling-some}
use Rattle.log_store.specs.Payload.{with_rest, records_behind, records_of, generation_of, generation_named, generation_read}

records_drop : (k : ℕ) (bytes : List ℕ) → k ≤ length bytes → records_behind k bytes ≡ records_of (drop k bytes)
records_drop zero bytes within = refl
records_drop (suc k) [] within = absurd (omega arith)
records_drop (suc k) (byte ∷ bytes) within = records_drop k bytes (omega arith)

-- a record in front is read
pub record_front : (bytes : List ℕ) (x : Physical) (rest : List ℕ) → IsPhysical x → bytes ≡ joined (physical x) ++ rest → records_of bytes ≡ option_map (λ xs. x ∷ xs) (records_of rest)
record_front [] x rest fits is = absurd (omega (arith, ap length is, length-append (joined (physical x)) rest, spelling-some x))
record_front (byte ∷ bytes) x rest fits is =
    let text = joined (physical x) in
    let again = physical_again (start (byte ∷ bytes)) x rest fits is in
    let size : length bytes + 1 ≡ length text + length rest = omega (arith, ap length is, length-append text rest) in
    let n = length bytes - length rest in
    let some = spelling-some x in
    let behind : drop n bytes ≡ rest = drop_suc n (length text) (omega (arith, size, some)) ∙ ap (λ (l : List ℕ). drop (length text) l) is ∙ drop_at text rest (length text) refl in
    ap (λ (r : Result (Physical × Reader) ℕ). with_rest (length bytes) (λ k. records_behind k bytes) r) again.1
    ∙ ap (λ (l : List ℕ). option_map (λ xs. x ∷ xs) (records_behind (length bytes - length l) bytes)) again.2
    ∙ ap (λ (o : Option (List Physical)). option_map (λ xs. x ∷ xs) o) (records_drop n bytes (omega arith) ∙ ap records_of behind)
  where
    drop_suc : (n m : ℕ) → m ≡ n + 1 → drop n bytes ≡ drop m (byte ∷ bytes)
    drop_suc n zero e = absurd (omega arith)
    drop_suc n (suc m) e = let same : n ≡ m = omega arith in ap (λ (k : ℕ). drop k bytes) same

-- what was spelled is read
pub records_spelled : (items : List Physical) → AllPhysical items → records_of (spelled items) ≡ Some items
records_spelled [] all = refl
records_spelled (item ∷ items) all = record_front (spelled (item ∷ items)) item (spelled items) all.0 refl ∙ ap (λ (o : Option (List Physical)). option_map (λ xs. item ∷ xs) o) (records_spelled items all.1)

pub records_bad : (bytes : List ℕ) (at : ℕ) → 1 ≤ length bytes → read_physical (start bytes) ≡ Err at → records_of bytes ≡ None
records_bad [] at some bad = absurd (omega arith)
records_bad (byte ∷ bytes) at some bad = ap (λ (r : Result (Physical × Reader) ℕ). with_rest (length bytes) (λ k. records_behind k bytes) r) bad

-- ---- the loop

map_map : (items : List Physical) (item : Physical) (o : Option (List Physical)) → option_map (λ xs. items ++ xs) (option_map (λ xs. item ∷ xs) o) ≡ option_map (λ xs. (items ++ item ∷ []) ++ xs) o
map_map items item None = refl
map_map items item (Some xs) = ap (λ (l : List Physical). Some l) (sym (append_assoc items (item ∷ []) xs))

-- the records so far, and those of the bytes from this place on
abbrev pub IsSoFar : List ℕ → ℕ → List Physical → Type 0
IsSoFar payload at items = records_of payload ≡ option_map (λ xs. items ++ xs) (records_of (drop at payload))

pub so_far_first : (payload : List ℕ) → IsSoFar payload 0 []
so_far_first payload = same (records_of payload)
  where
    same : (o : Option (List Physical)) → o ≡ option_map (λ xs. [] ++ xs) o
    same None = refl
    same (Some xs) = refl

pub so_far_more : (payload : List ℕ) (at : ℕ) (items : List Physical) (found : Physical × ℕ) → IsSoFar payload at items → IsSpelled physical IsPhysical (drop at payload) found → IsSoFar payload (at + found.1) (items ++ found.0 ∷ [])
so_far_more payload at items found so_far is =
    so_far
    ∙ ap (λ (o : Option (List Physical)). option_map (λ xs. items ++ xs) o) (record_front (drop at payload) found.0 (drop found.1 (drop at payload)) is.0 is.1)
    ∙ map_map items found.0 (records_of (drop found.1 (drop at payload)))
    ∙ ap (λ (l : List ℕ). option_map (λ xs. (items ++ found.0 ∷ []) ++ xs) (records_of l)) (drop-drop found.1 at payload)

pub so_far_all : (payload : List ℕ) (at : ℕ) (items : List Physical) → IsSoFar payload at items → length payload ≤ at → records_of payload ≡ Some items
so_far_all payload at items so_far whole =
    so_far ∙ ap (λ (l : List ℕ). option_map (λ xs. items ++ xs) (records_of l)) (drop_all at payload whole) ∙ ap (λ (l : List Physical). Some l) (append-nil items)

pub so_far_bad : (payload : List ℕ) (at : ℕ) (items : List Physical) (wrong : ℕ) → IsSoFar payload at items → at < length payload → read_physical (start (drop at payload)) ≡ Err wrong → records_of payload ≡ None
so_far_bad payload at items wrong so_far more bad =
    so_far ∙ ap (λ (o : Option (List Physical)). option_map (λ xs. items ++ xs) o) (records_bad (drop at payload) wrong (omega (arith, length-drop at payload)) bad)

-- something was read
pub spelled_some : (bytes : List ℕ) (found : Physical × ℕ) → IsSpelled physical IsPhysical bytes found → 1 ≤ found.1
spelled_some bytes found is = omega (arith, is.2, spelling-some found.0)

pub spelled_within : (bytes : List ℕ) (found : Physical × ℕ) → IsSpelled physical IsPhysical bytes found → found.1 ≤ length bytes
spelled_within bytes found is = omega (arith, is.2, ap length is.1, length-append (joined (physical found.0)) (drop found.1 bytes))

-- ---- generations

pub generation_found : (bytes : List ℕ) (found : Physical × ℕ) → IsSpelled physical IsPhysical bytes found → generation_of bytes ≡ generation_named found.0
generation_found bytes found is = ap generation_read (physical_again (start bytes) found.0 (drop found.1 bytes) is.0 is.1).1

pub generation_bad : (bytes : List ℕ) (at : ℕ) → read_physical (start bytes) ≡ Err at → generation_of bytes ≡ 0
generation_bad bytes at bad = ap generation_read bad
