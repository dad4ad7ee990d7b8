use Rattle.std.proofs.Common.{◌∙◌, arith}
use Rattle.disk_model.proofs.Steps.{done_more, reach_more}
use Rattle.disk_model.proofs.change.settle.Goals as goal

pub loop-change-preserved : goal.loop-change-preserved
loop-change-preserved c =
    let i = c.loop-change.change-index in
    let kept = c.loop-change.invariant in
    record {
      so_far = done_more c.args.changes.now i c.change-item.result _ _ (omega arith) c.change-item.is c.apply_to.ensures.held ∙ kept.so_far;
      fits = λ a. omega (arith, reach_more a c.args.changes.now i c.change-item.result (omega arith) c.change-item.is, kept.fits a, c.apply_to.ensures.room a);
      grown = λ a. omega (arith, kept.grown a, c.apply_to.ensures.room a);
    }
