use Rattle.std.proofs.Common.{◌+◌, ◌∷◌, drop, sym, ap, ◌∙◌}
use Rattle.std.proofs.lemmas.List.{drop_more}
use Rattle.log_store.specs.declared.kept.Row.{Row}
use Rattle.log_store.proofs.Walking.{reached_more}
use Rattle.log_store.proofs.fold.wrong_place.Goals as goal

pub loop-i-preserved : goal.loop-i-preserved
loop-i-preserved c =
    let rows = c.args.rows.now in
    let row = c.index-rows-i.result in
    let i = c.loop-i.i in
    let found = c.if-not-branch.false in
    let next = drop_more rows i row c.loop-i-test.true ∙ ap (λ (r : Row). r ∷ drop (i + 1) rows) (sym c.index-rows-i.is) in
    reached_more rows i c.loop-i.table row c.loop-i.invariant next c.is_in_place.new.table
    (sym found ∙ c.in_ok-is_in_place.ensures.value) (c.in_ok-is_in_place.ensures.last found)
    (λ records s. c.in_ok-is_in_place.ensures.stands records s found)
