-- What changes of the log areas do to what a disk holds.
use Rattle.std.proofs.Common.{◌≡◌, ◌≢◌, inl, inr, ℕ, ◌<◌, Bool, true, false, List, [], ◌∷◌, ◌++◌, Option, Some, None, Ok, refl, sym, ap, ◌∙◌, subst, arith}
use Rattle.std.specs.Prelude.{if◌then◌else◌}
use Rattle.std.specs.Option.{option_and_then}
use Rattle.std.proofs.lemmas.Bool.{cases_eq}
use Rattle.disk_model.specs.Disk.{Areas, Changes}
use Rattle.gated_log.specs.declared.block.Block.{Block}
use Rattle.gated_log.specs.Blocks.{open_blocks, Keeps, Gains}
use Rattle.gated_log.specs.Log.{placed_from}
use Rattle.log_records.specs.declared.record.Physical.{Physical}
use Rattle.log_records.specs.declared.record.Physical.TheVariants.{Head}
use Rattle.log_records.proofs.FieldCodec.{slot_cases}
use Rattle.barrier_group.specs.Group.{spelled, AllPhysical}
use Rattle.log_store.specs.declared.kept.Kept.{Kept}
use Rattle.log_store.specs.Payload.{records_of}
use Rattle.log_store.specs.Fold.{held_by, no_log, and_then, kept_behind, told, opened, behind_blocks}
use Rattle.log_store.specs.Durable.{blocks_in, second_holds, durable_of, durable, holder, KeepsSlots}
use Rattle.log_store.specs.Growth.{after, GoesOn, new_log}
use Rattle.log_store.specs.Store.{IsTaken}
use Rattle.log_store.proofs.Payloads.{records_spelled}
use Rattle.log_store.proofs.Growing.{Held, held, held_more, placed_push, nothing_held, ok_is}

-- the open blocks of an area stay
kept_in : (area : ℕ) (d c : Areas) → Changes area Keeps d c → (b : ℕ) → open_blocks (c b) ≡ open_blocks (d b)
kept_in area d c ch b = elim (cases_eq b area) [
  | inl same ↦ subst (λ (a : ℕ). open_blocks (c a) ≡ open_blocks (d a)) (sym same) ch.there
  | inr other ↦ ap open_blocks (ch.elsewhere b other)
]

blocks_kept : (area : ℕ) (d c : Areas) → Changes area Keeps d c → (b : ℕ) → blocks_in (c b) ≡ blocks_in (d b)
blocks_kept area d c ch b = ap (λ (l : List (List ℕ)). placed_from 0 l) (kept_in area d c ch b)

-- so the disk holds what it held
pub durable_kept : (area : ℕ) (d c : Areas) → Changes area Keeps d c → durable c ≡ durable d
durable_kept area d c ch =
    ap (λ (l : List Block). durable_of l (blocks_in (c 1))) (blocks_kept area d c ch 0) ∙ ap (λ (l : List Block). durable_of (blocks_in (d 0)) l) (blocks_kept area d c ch 1)

pub holder_kept : (area : ℕ) (d c : Areas) → Changes area Keeps d c → holder c ≡ holder d
holder_kept area d c ch =
    ap (λ (l : List Block). if second_holds l (blocks_in (c 1)) then 1 else 0) (blocks_kept area d c ch 0)
    ∙ ap (λ (l : List Block). if second_holds (blocks_in (d 0)) l then 1 else 0) (blocks_kept area d c ch 1)

pub taken_kept : (area taken : ℕ) (d c : Areas) → Changes area Keeps d c → IsTaken taken d → IsTaken taken c
taken_kept area taken d c ch t = record {
  taken = holder_kept area d c ch ∙ t.taken;
  some = λ none. t.some (sym (kept_in area d c ch taken) ∙ none);
}

pub slots_kept : {step : List ℕ → List ℕ → Type 0} (area : ℕ) (d c : Areas) → area < 2 → Changes area step d c → KeepsSlots d c
slots_kept area d c low ch b high = ch.elsewhere b (λ same. absurd (omega (arith, same)))

one_or_zero : (b : Bool) → (if b then 1 else 0) < 2
one_or_zero true = omega arith
one_or_zero false = omega arith

pub taken_low : (area : ℕ) (c : Areas) → IsTaken area c → area < 2
taken_low area c t = subst (λ (n : ℕ). n < 2) t.taken (one_or_zero (second_holds (blocks_in (c 0)) (blocks_in (c 1))))

-- ---- one more block of the area that is taken

pub no_blocks : (at : ℕ) (payloads : List (List ℕ)) → placed_from at payloads ≡ [] → payloads ≡ []
no_blocks at [] none = refl
no_blocks at (payload ∷ payloads) none = absurd cc

first_more : (zero one more : List Block) → zero ≢ [] → second_holds (zero ++ more) one ≡ second_holds zero one
first_more [] one more some = absurd (some refl)
first_more (block ∷ blocks) [] more some = refl
first_more (block ∷ blocks) (first ∷ firsts) more some = refl

second_more : (zero one more : List Block) → one ≢ [] → second_holds zero (one ++ more) ≡ second_holds zero one
second_more zero [] more some = absurd (some refl)
second_more [] (block ∷ blocks) more some = refl
second_more (first ∷ firsts) (block ∷ blocks) more some = refl

held_at : (area : ℕ) (blocks : List Block) (v : Kept) → blocks ≢ [] → held_by area blocks ≡ Ok v → Held area blocks v
held_at area [] v some e = absurd (some refl)
held_at area (block ∷ blocks) v some e = held area block blocks v e

-- the number of the second area or of the first
abbrev number : Bool → ℕ
number b = if b then 1 else 0

zero_is : (b : Bool) → number b ≡ 0 → b ≡ false
zero_is true e = absurd (omega (arith, e))
zero_is false e = refl

one_is : (b : Bool) → number b ≡ 1 → b ≡ true
one_is true e = refl
one_is false e = absurd (omega (arith, e))

-- what is held, and which area is taken, once a block was added
pub record Gained (area : ℕ) (c : Areas) (v : Kept) : Type 0 where
  pub holds : durable c ≡ Ok v
  pub taken : IsTaken area c

some_more : (xs : List (List ℕ)) (x : List ℕ) → xs ++ x ∷ [] ≢ []
some_more [] x e = absurd cc
some_more (y ∷ xs) x e = absurd cc

gained_first : (d c : Areas) (payload : List ℕ) (items : List Physical) (v : Kept) → IsTaken 0 d → Changes 0 (Gains payload) d c → records_of payload ≡ Some items → durable d ≡ Ok v → GoesOn v items → Gained 0 c (after v items)
gained_first d c payload items v t ch read holds goes =
    let zero = blocks_in (d 0) in
    let one = blocks_in (d 1) in
    let low : second_holds zero one ≡ false = zero_is (second_holds zero one) t.taken in
    let some : zero ≢ [] = λ none. t.some (no_blocks 0 (open_blocks (d 0)) none) in
    let place = placed_push 0 (open_blocks (d 0)) payload in
    let block : Block = record { place = place.0; payload = payload } in
    let more : blocks_in (c 0) ≡ zero ++ block ∷ [] = ap (λ (l : List (List ℕ)). placed_from 0 l) ch.there ∙ place.1 in
    let same : blocks_in (c 1) ≡ one = ap blocks_in (ch.elsewhere 1 (λ e. absurd (omega (arith, e)))) in
    let chosen : second_holds (blocks_in (c 0)) (blocks_in (c 1)) ≡ false =
    ap (λ (l : List Block). second_holds l (blocks_in (c 1))) more ∙ ap (λ (l : List Block). second_holds (zero ++ block ∷ []) l) same ∙ first_more zero one (block ∷ []) some ∙ low in
    let was : held_by 0 zero ≡ Ok v = sym (ap (λ (b : Bool). if b then held_by 1 one else held_by 0 zero) low) ∙ holds in
    record {
      holds = ap (λ (b : Bool). if b then held_by 1 (blocks_in (c 1)) else held_by 0 (blocks_in (c 0))) chosen
          ∙ ap (λ (l : List Block). held_by 0 l) more ∙ held_more 0 zero place.0 payload items v (held_at 0 zero v some was) read goes;
      taken = record {
        taken = ap (λ (b : Bool). if b then 1 else 0) chosen;
        some = λ none. some_more (open_blocks (d 0)) payload (sym ch.there ∙ none);
      };
    }

gained_second : (d c : Areas) (payload : List ℕ) (items : List Physical) (v : Kept) → IsTaken 1 d → Changes 1 (Gains payload) d c → records_of payload ≡ Some items → durable d ≡ Ok v → GoesOn v items → Gained 1 c (after v items)
gained_second d c payload items v t ch read holds goes =
    let zero = blocks_in (d 0) in
    let one = blocks_in (d 1) in
    let high : second_holds zero one ≡ true = one_is (second_holds zero one) t.taken in
    let some : one ≢ [] = λ none. t.some (no_blocks 0 (open_blocks (d 1)) none) in
    let place = placed_push 0 (open_blocks (d 1)) payload in
    let block : Block = record { place = place.0; payload = payload } in
    let more : blocks_in (c 1) ≡ one ++ block ∷ [] = ap (λ (l : List (List ℕ)). placed_from 0 l) ch.there ∙ place.1 in
    let same : blocks_in (c 0) ≡ zero = ap blocks_in (ch.elsewhere 0 (λ e. absurd (omega (arith, e)))) in
    let chosen : second_holds (blocks_in (c 0)) (blocks_in (c 1)) ≡ true =
    ap (λ (l : List Block). second_holds l (blocks_in (c 1))) same ∙ ap (λ (l : List Block). second_holds zero l) more ∙ second_more zero one (block ∷ []) some ∙ high in
    let was : held_by 1 one ≡ Ok v = sym (ap (λ (b : Bool). if b then held_by 1 one else held_by 0 zero) high) ∙ holds in
    record {
      holds = ap (λ (b : Bool). if b then held_by 1 (blocks_in (c 1)) else held_by 0 (blocks_in (c 0))) chosen
          ∙ ap (λ (l : List Block). held_by 1 l) more ∙ held_more 1 one place.0 payload items v (held_at 1 one v some was) read goes;
      taken = record {
        taken = ap (λ (b : Bool). if b then 1 else 0) chosen;
        some = λ none. some_more (open_blocks (d 1)) payload (sym ch.there ∙ none);
      };
    }

pub gained : (area : ℕ) (d c : Areas) (payload : List ℕ) (items : List Physical) (v : Kept) → IsTaken area d → Changes area (Gains payload) d c → payload ≡ spelled items → AllPhysical items → durable d ≡ Ok v → GoesOn v items → Gained area c (after v items)
gained area d c payload items v t ch is all holds goes =
    let read : records_of payload ≡ Some items = ap records_of is ∙ records_spelled items all in
    elim (slot_cases area (taken_low area d t)) [
      | inl zero ↦ subst (λ (a : ℕ). Gained a c (after v items)) (sym zero)
          (gained_first d c payload items v (subst (λ (a : ℕ). IsTaken a d) zero t) (subst (λ (a : ℕ). Changes a (Gains payload) d c) zero ch) read holds goes)
      | inr one ↦ subst (λ (a : ℕ). Gained a c (after v items)) (sym one)
          (gained_second d c payload items v (subst (λ (a : ℕ). IsTaken a d) one t) (subst (λ (a : ℕ). Changes a (Gains payload) d c) one ch) read holds goes)
    ]

-- ---- a new log

pub begun : (d c : Areas) (payload : List ℕ) (identity : ℕ) → open_blocks (d 0) ≡ [] → open_blocks (d 1) ≡ [] → Changes 0 (Gains payload) d c → payload ≡ spelled (Head 1 identity ∷ []) → AllPhysical (Head 1 identity ∷ [])
    → Gained 0 c (new_log identity)
begun d c payload identity zero one ch is all =
    let read : records_of payload ≡ Some (Head 1 identity ∷ []) = ap records_of is ∙ records_spelled (Head 1 identity ∷ []) all in
    let block : Block = record { place = 0; payload = payload } in
    let first : open_blocks (c 0) ≡ payload ∷ [] = ch.there ∙ ap (λ (l : List (List ℕ)). l ++ payload ∷ []) zero in
    let blocks : blocks_in (c 0) ≡ block ∷ [] = ap (λ (l : List (List ℕ)). placed_from 0 l) first in
    let none : blocks_in (c 1) ≡ [] = ap blocks_in (ch.elsewhere 1 (λ e. absurd (omega (arith, e)))) ∙ ap (λ (l : List (List ℕ)). placed_from 0 l) one in
    record {
      holds = ap (λ (l : List Block). durable_of (blocks_in (c 0)) l) none ∙ ap (λ (l : List Block). held_by 0 l) blocks
          ∙ ap (λ (o : Option (List Physical)). and_then (kept_behind 0) (and_then (λ t. behind_blocks 0 (Some t) []) (told 0 0 (option_and_then (opened 0) o)))) read;
      taken = record {
        taken = ap (λ (l : List Block). if second_holds (blocks_in (c 0)) l then 1 else 0) none;
        some = λ empty. some_more [] payload (sym first ∙ empty);
      };
    }

-- a disk with no block holds no log
pub nothing_there : (c : Areas) → open_blocks (c 0) ≡ [] → open_blocks (c 1) ≡ [] → durable c ≡ Ok no_log
nothing_there c zero one =
    ap (λ (l : List (List ℕ)). durable_of (blocks_in (c 0)) (placed_from 0 l)) one ∙ ap (λ (l : List (List ℕ)). held_by 0 (placed_from 0 l)) zero

-- where no log is held there is no block
pub record Empty (zero one : List Block) : Type 0 where
  pub first : zero ≡ []
  pub second : one ≡ []

pub none_held : (zero one : List Block) (v : Kept) → durable_of zero one ≡ Ok v → v.identity ≡ None → Empty zero one
none_held [] [] v e none = record { first = refl; second = refl }
none_held (block ∷ blocks) [] v e none = absurd (nothing_held 0 block blocks v e none)
none_held [] (block ∷ blocks) v e none = absurd (nothing_held 1 block blocks v e none)
none_held (first ∷ firsts) (block ∷ blocks) v e none = by (second_holds (first ∷ firsts) (block ∷ blocks)) e
  where
    by : (b : Bool) → (if b then held_by 1 (block ∷ blocks) else held_by 0 (first ∷ firsts)) ≡ Ok v → Empty (first ∷ firsts) (block ∷ blocks)
    by true is = absurd (nothing_held 1 block blocks v is none)
    by false is = absurd (nothing_held 0 first firsts v is none)

-- where one is held, the area that is taken has a block
pub some_held : (c : Areas) (v : Kept) (identity : ℕ) → durable c ≡ Ok v → v.identity ≡ Some identity → open_blocks (c (holder c)) ≢ []
some_held c v identity e some = by (second_holds (blocks_in (c 0)) (blocks_in (c 1))) e
  where
    no_log_named : no_log.identity ≡ Some identity → ⊥
    no_log_named wrong = absurd cc

    by : (b : Bool) → (if b then held_by 1 (blocks_in (c 1)) else held_by 0 (blocks_in (c 0))) ≡ Ok v → open_blocks (c (if b then 1 else 0)) ≢ []
    by true is none = absurd (no_log_named (ap (λ (w : Kept). w.identity) (ok_is no_log v (sym (ap (λ (l : List (List ℕ)). held_by 1 (placed_from 0 l)) none) ∙ is)) ∙ some))
    by false is none = absurd (no_log_named (ap (λ (w : Kept). w.identity) (ok_is no_log v (sym (ap (λ (l : List (List ℕ)). held_by 0 (placed_from 0 l)) none) ∙ is)) ∙ some))
