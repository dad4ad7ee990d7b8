use Rattle.std.proofs.Common.{◌∙◌, ap, ℕ, arith, sym, Vec}
use Rattle.std.specs.declared.alloc.Global.{Global}
use Rattle.disk_model.specs.Disk.{with_area}
use Rattle.disk_model.specs.Changes.{held, left_of}
use Rattle.disk_model.proofs.Areas.{held_set}
use Rattle.disk_model.proofs.change.apply_to.Goals as goal

pub returns-clause-held : goal.returns-clause-held
returns-clause-held c =
    let f = left_of c.args.change.now.edit c.args.digit in
    let at = c.number-index.result in
    let bytes = c.index-areas-index.result in
    held_set c.args.areas.now at bytes c.apply.new.bytes f (omega arith) c.index-areas-index.is (c.apply.ensures.items ∙ ap (λ (v : Vec ℕ Global). f v.items) (sym c.index-areas-index.is))
    ∙ ap (λ (a : ℕ). with_area a f (held c.args.areas.now)) c.number-index.ensures.number
