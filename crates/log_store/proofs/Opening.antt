-- What opening a log does to all images of a disk.
use Rattle.std.proofs.Common.{◌≡◌, ◌≢◌, inl, inr, ℕ, ◌<◌, Bool, true, false, List, [], ◌∷◌, Some, None, Ok, refl, sym, ap, ◌∙◌, subst, arith}
use Rattle.std.specs.Prelude.{if◌then◌else◌}
use Rattle.disk_model.specs.Disk.{Areas, Changes, Follows, Each}
use Rattle.gated_log.specs.declared.block.Block.{Block}
use Rattle.gated_log.specs.Blocks.{open_blocks, Keeps, Gains, KeepsOrGains, IsAtRest}
use Rattle.gated_log.specs.Log.{Log, IsSettled}
use Rattle.log_records.specs.declared.record.Physical.{Physical}
use Rattle.log_records.specs.declared.record.Physical.TheVariants.{Head}
use Rattle.barrier_group.specs.Group.{spelled, AllPhysical}
use Rattle.log_store.specs.declared.kept.Kept.{Kept}
use Rattle.log_store.specs.Durable.{blocks_in, second_holds, durable_of, durable, holder, KeepsSlots}
use Rattle.log_store.specs.Growth.{new_log}
use Rattle.log_store.specs.Store.{IsTaken, IsOpenOn, KeepsOrBegins}
use Rattle.log_store.proofs.Changing.{Gained, begun, durable_kept, slots_kept, nothing_there, none_held, some_held, no_blocks}

-- what a disk holds stays, and its slots
abbrev pub Same : Areas → Areas → Type 0
Same d c = (durable c ≡ durable d) × KeepsSlots d c

pub mounted : (old new : Areas → Type 0) (area : ℕ) → area < 2 → Follows (Changes area Keeps) old new → Follows Same old new
mounted old new area low follows c is = let f = follows c is in (f.0, f.1, (durable_kept area f.0 c f.2, slots_kept area f.0 c low f.2))

pub stays : (images : Areas → Type 0) → Follows Same images images
stays images c is = (c, is, (refl, λ b high. refl))

pub same_then : (old middle new : Areas → Type 0) → Follows Same old middle → Follows Same middle new → Follows Same old new
same_then old middle new first second c is =
    let s = second c is in
    let f = first s.0 s.1 in
    (f.0, f.1, (s.2.0 ∙ f.2.0, λ b high. s.2.1 b high ∙ f.2.1 b high))

pub same_begins : (old middle new : Areas → Type 0) (identity : ℕ) → Follows Same old middle → Follows (KeepsOrBegins identity) middle new → Follows (KeepsOrBegins identity) old new
same_begins old middle new identity first second c is =
    let s = second c is in
    let f = first s.0 s.1 in
    let slots : KeepsSlots f.0 c = λ b high. s.2.1 b high ∙ f.2.1 b high in
    elim s.2.0 [
      | inl keeps ↦ (f.0, f.1, (inl (keeps ∙ f.2.0), slots))
      | inr begins ↦ (f.0, f.1, (inr (sym f.2.0 ∙ begins.0, begins.1), slots))
    ]

pub same_is : (old new : Areas → Type 0) (identity : ℕ) → Follows Same old new → Follows (KeepsOrBegins identity) old new
same_is old new identity follows c is = let f = follows c is in (f.0, f.1, (inl f.2.0, f.2.1))

-- ---- a new log

abbrev pub HasNone : Areas → Type 0
HasNone c = (open_blocks (c 0) ≡ []) × (open_blocks (c 1) ≡ [])

module _ (old new : Areas → Type 0) (identity : ℕ) (items : List Physical) (is : items ≡ Head 1 identity ∷ []) (all : AllPhysical items) (none : Each old HasNone) where
  has_begun : (d c : Areas) → old d → Changes 0 (Gains (spelled items)) d c → Gained 0 c (new_log identity)
  has_begun d c there ch = begun d c (spelled items) identity (none d there).0 (none d there).1 ch (ap spelled is) (subst AllPhysical is all)

  pub begins : Follows (Changes 0 (KeepsOrGains (spelled items))) old new → Follows (KeepsOrBegins identity) old new
  begins follows c there =
      let f = follows c there in
      let slots : KeepsSlots f.0 c = slots_kept 0 f.0 c (omega arith) f.2 in
      elim f.2.there [
        | inl keeps ↦ (f.0, f.1, (inl (durable_kept 0 f.0 c (record { there = keeps; elsewhere = f.2.elsewhere })), slots))
        | inr gains ↦
            let empty = none f.0 f.1 in
            (f.0, f.1, (inr (nothing_there f.0 empty.0 empty.1, (has_begun f.0 c f.1 (record { there = gains; elsewhere = f.2.elsewhere })).holds), slots))
      ]

  pub begun_each : Follows (Changes 0 (Gains (spelled items))) old new → (c : Areas) → new c → Gained 0 c (new_log identity)
  begun_each follows c there = let f = follows c there in has_begun f.0 c f.1 f.2

-- ---- two logs mounted, the second behind the first

-- every image has these blocks
pub record Both (images : Areas → Type 0) (zero one : List Block) : Type 0 where
  pub first : Each images (λ c. zero ≡ blocks_in (c 0))
  pub second : Each images (λ c. one ≡ blocks_in (c 1))

pub both_mounted : (old new : Areas → Type 0) (zero one : List Block) → Each old (λ c. zero ≡ blocks_in (c 0)) → Each new (λ c. one ≡ blocks_in (c 1)) → Follows (Changes 1 Keeps) old new → Both new zero one
both_mounted old new zero one first second follows = record {
  first = λ c is. let f = follows c is in first f.0 f.1 ∙ sym (ap blocks_in (f.2.elsewhere 0 (λ e. absurd (omega (arith, e)))));
  second = second;
}

pub settled_still : (old new : Areas → Type 0) (log : Log) → log.area ≡ 0 → IsSettled old log → Follows (Changes 1 Keeps) old new → IsSettled new log
settled_still old new log first settled follows c is =
    let f = follows c is in
    subst (λ (l : List ℕ). IsAtRest l log.end) (sym (f.2.elsewhere log.area (λ e. absurd (omega (arith, e, first))))) (settled f.0 f.1)

module _ (images : Areas → Type 0) (zero one : List Block) (both : Both images zero one) where
  pub durable_each : (c : Areas) → images c → durable c ≡ durable_of zero one
  durable_each c is = ap (λ (l : List Block). durable_of l (blocks_in (c 1))) (sym (both.first c is)) ∙ ap (λ (l : List Block). durable_of zero l) (sym (both.second c is))

  holder_each : (c : Areas) → images c → holder c ≡ (if second_holds zero one then 1 else 0)
  holder_each c is =
      ap (λ (l : List Block). if second_holds l (blocks_in (c 1)) then 1 else 0) (sym (both.first c is)) ∙ ap (λ (l : List Block). if second_holds zero l then 1 else 0) (sym (both.second c is))

  pub taken_each : (v : Kept) (identity : ℕ) (area : ℕ) → durable_of zero one ≡ Ok v → v.identity ≡ Some identity → area ≡ (if second_holds zero one then 1 else 0) → Each images (IsTaken area)
  taken_each v identity area holds some at c is =
      let taken : holder c ≡ area = holder_each c is ∙ sym at in
      record {
        taken = taken;
        some = subst (λ (n : ℕ). open_blocks (c n) ≢ []) taken (some_held c v identity (durable_each c is ∙ holds) some);
      }

  pub none_each : (v : Kept) → durable_of zero one ≡ Ok v → v.identity ≡ None → Each images HasNone
  none_each v holds none c is =
      let empty = none_held zero one v holds none in
      (no_blocks 0 _ (sym (both.first c is) ∙ empty.first), no_blocks 0 _ (sym (both.second c is) ∙ empty.second))

-- where neither area has a block, the first log is taken
pub chosen_first : (zero one : List Block) (log log0 log1 : Log) (v : Kept) → log ≡ (if second_holds zero one then log1 else log0) → durable_of zero one ≡ Ok v → v.identity ≡ None → log ≡ log0
chosen_first zero one log log0 log1 v is holds none =
    let empty = none_held zero one v holds none in
    is ∙ ap (λ (l : List Block). if second_holds l one then log1 else log0) empty.first ∙ ap (λ (l : List Block). if second_holds [] l then log1 else log0) empty.second

-- the log of the area that is taken
module _ (old new : Areas → Type 0) (zero one : List Block) (both : Both new zero one) (log log0 log1 : Log) (first : log0.area ≡ 0) (second : log1.area ≡ 1)
    (settled0 : IsSettled old log0) (settled1 : IsSettled new log1) (follows : Follows (Changes 1 Keeps) old new) (v : Kept) (identity : ℕ) (holds : durable_of zero one ≡ Ok v) (some : v.identity ≡ Some identity) where
  pub opened_log : log ≡ (if second_holds zero one then log1 else log0) → IsOpenOn (record { log = log; identity = identity }) new
  opened_log is = by (second_holds zero one) refl is
    where
      by : (b : Bool) → second_holds zero one ≡ b → log ≡ (if b then log1 else log0) → IsOpenOn (record { log = log; identity = identity }) new
      by true chosen which =
          let there : log.area ≡ 1 = ap (λ (l : Log). l.area) which ∙ second in
          record {
            low = omega (arith, there);
            settled = subst (λ (l : Log). IsSettled new l) (sym which) settled1;
            taken = taken_each new zero one both v identity log.area holds some (there ∙ sym (ap (λ (b : Bool). if b then 1 else 0) chosen));
          }
      by false chosen which =
          let there : log.area ≡ 0 = ap (λ (l : Log). l.area) which ∙ first in
          record {
            low = omega (arith, there);
            settled = subst (λ (l : Log). IsSettled new l) (sym which) (settled_still old new log0 first settled0 follows);
            taken = taken_each new zero one both v identity log.area holds some (there ∙ sym (ap (λ (b : Bool). if b then 1 else 0) chosen));
          }
