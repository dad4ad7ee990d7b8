use Rattle.std.proofs.Common.{◌≡◌, true, ℕ, List, [], ◌∷◌, Option, refl, sym, subst}
use Rattle.rc_base.specs.declared.ids.Epoch.{Epoch}
use Rattle.log_records.specs.declared.record.Record.{Record}
use Rattle.log_records.specs.declared.record.Record.TheVariants.{Begin, EpochStart}
use Rattle.log_records.specs.declared.record.Physical.{Physical}
use Rattle.txn_table.specs.Log.{MayStandAfter, no_base}
use Rattle.log_store.specs.declared.kept.Kept.{Kept}
use Rattle.log_tests.specs.Examples.{one, first_items}
use Rattle.log_store.specs.Growth.{GoesOn}
use Rattle.log_store.specs.Store.{kept_as}
use Rattle.log_tests.proofs.store.append_first.Goals as goal

goes_from : (identity : Option ℕ) (fence : Epoch) → GoesOn (record { identity = identity; fence = fence; records = [] }) first_items
goes_from identity fence =
    let start : MayStandAfter no_base [] one (EpochStart one) = record { follows = refl; stands = refl; linked = refl } in
    let begin : MayStandAfter no_base ((one, EpochStart one) ∷ []) one (Begin (record { epoch = one; n = 1 })) = record { follows = refl; stands = refl; linked = refl } in
    ((refl, start), ((refl, begin), (tt, tt)))

first_goes : (v : Kept) → v.records ≡ [] → GoesOn v first_items
first_goes v none = subst (λ (rs : List (Epoch × Record)). GoesOn (record { identity = v.identity; fence = v.fence; records = rs }) first_items) (sym none) (goes_from v.identity v.fence)

pub append-result-requires-clause-goes_on : goal.append-result-requires-clause-goes_on
append-result-requires-clause-goes_on g c is_open =
    let v = kept_as c.in-Ok.store.identity c.in-Ok.told in
    let yes : c.is_empty.result ≡ true = cc in
    let none : c.in-Ok.told.records ≡ [] = c.is_empty.ensures.0 yes in
    (v, λ d is. c.in-Ok.ensures.found d (c.arm.ensures.stays.no_image_more d is), subst (λ (items : List Physical). GoesOn v items) (sym c.in_ok-group-in-Ok.ensures) (first_goes v none))
