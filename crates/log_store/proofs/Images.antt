-- What an append does to all images of a disk.
use Rattle.std.proofs.Common.{◌≡◌, ◌≢◌, ◌⊎◌, inl, inr, ℕ, ◌<◌, true, false, List, [], ◌∷◌, Option, Result, Ok, Err, refl, sym, ◌∙◌, subst, arith}
use Rattle.std.specs.Prelude.{OnOk, IsErrOf, is_err}
use Rattle.std.proofs.lemmas.Bool.{false≢true}
use Rattle.disk_model.specs.Disk.{Areas, Changes, Follows, Within, Each}
use Rattle.gated_log.specs.declared.error.LogError.{LogError}
use Rattle.gated_log.specs.declared.error.LogError.TheVariants as log_errors
use Rattle.gated_log.specs.Blocks.{Gains, KeepsOrGains}
use Rattle.gated_log.specs.Log.{StaysElsewhere}
use Rattle.log_records.specs.declared.record.Physical.{Physical}
use Rattle.barrier_group.specs.Group.{spelled, AllPhysical}
use Rattle.log_store.specs.declared.kept.Kept.{Kept}
use Rattle.log_store.specs.Durable.{durable, StandFor, StandForOneOf, KeepsSlots}
use Rattle.log_store.specs.Growth.{after, GoesOn}
use Rattle.log_store.specs.Store.{IsTaken, SlotsStay}
use Rattle.log_store.proofs.Growing.{ok_is}
use Rattle.log_store.proofs.Changing.{Gained, gained, durable_kept, slots_kept}

pub cases_list : (items : List Physical) → (items ≡ []) ⊎ (items ≢ [])
cases_list [] = inl refl
cases_list (item ∷ items) = inr (λ e. absurd cc)

-- the items go on with what each image holds
abbrev pub GoesOnIn : (Areas → Type 0) → List Physical → Type 0
GoesOnIn images items = (w : Kept) × StandFor w images × GoesOn w items

goes_with : (images : Areas → Type 0) (items : List Physical) (v : Kept) (d : Areas) → GoesOnIn images items → images d → durable d ≡ Ok v → GoesOn v items
goes_with images items v d goes is holds = subst (λ (w : Kept). GoesOn w items) (ok_is goes.0 v (sym (goes.1 d is) ∙ holds)) goes.2

module _ (old new : Areas → Type 0) (area : ℕ) (items : List Physical) (taken : Each old (IsTaken area)) (all : AllPhysical items) (goes : GoesOnIn old items) where
  -- at every exit
  pub stands : Follows (Changes area (KeepsOrGains (spelled items))) old new → (v : Kept) → StandFor v old → StandForOneOf v (after v items) new
  stands follows v stand c is =
      let f = follows c is in
      elim f.2.there [
        | inl keeps ↦ inl (durable_kept area f.0 c (record { there = keeps; elsewhere = f.2.elsewhere }) ∙ stand f.0 f.1)
        | inr gains ↦ inr (gained area f.0 c (spelled items) items v (taken f.0 f.1) (record { there = gains; elsewhere = f.2.elsewhere }) refl all (stand f.0 f.1) (goes_with old items v f.0 goes f.1 (stand f.0 f.1))).holds
      ]

  -- once it is done
  pub grown : Follows (Changes area (Gains (spelled items))) old new → (v : Kept) → StandFor v old → (c : Areas) → new c → Gained area c (after v items)
  grown follows v stand c is =
      let f = follows c is in
      gained area f.0 c (spelled items) items v (taken f.0 f.1) f.2 refl all (stand f.0 f.1) (goes_with old items v f.0 goes f.1 (stand f.0 f.1))

  pub still_taken : Follows (Changes area (Gains (spelled items))) old new → Each new (IsTaken area)
  still_taken follows c is = (grown follows goes.0 goes.1 c is).taken

-- the slots stay
pub slots_follow : {step : List ℕ → List ℕ → Type 0} (old new : Areas → Type 0) (area : ℕ) → area < 2 → Follows (Changes area step) old new → Follows KeepsSlots old new
slots_follow old new area low follows c is = let f = follows c is in (f.0, f.1, slots_kept area f.0 c low f.2)

pub slots_within : (old new : Areas → Type 0) → Within old new → Follows KeepsSlots old new
slots_within old new within c is = (c, within c is, λ b high. refl)

pub slots_seen : (old new : Option Areas) (area : ℕ) → area < 2 → StaysElsewhere area old new → SlotsStay old new
slots_seen old new area low stays b high = stays b (λ same. absurd (omega (arith, same)))

-- ---- results

pub on_ok : {X E P : Type 0} (result : Result X E) → P → OnOk result P
on_ok (Ok x) p = p
on_ok (Err e) p = tt

pub closed_not_ok : {X : Type 0} (P : Type 0) (result : Result X LogError) → IsErrOf result log_errors.Closed → OnOk result P
closed_not_ok P (Ok x) e = absurd cc
closed_not_ok P (Err f) e = tt

pub closed_is_err : {X : Type 0} (result : Result X LogError) → IsErrOf result log_errors.Closed → is_err result ≡ true
closed_is_err (Ok x) e = absurd cc
closed_is_err (Err f) e = refl

pub not_err : {X E P : Type 0} (result : Result X E) → is_err result ≡ false → OnOk result P → P
not_err (Ok x) e p = p
not_err (Err f) e p = absurd (false≢true (sym e))
