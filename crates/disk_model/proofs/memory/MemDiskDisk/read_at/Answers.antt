use Rattle.std.proofs.Common.{◌≡◌, ◌∙◌, ℕ, List, drop, sym, ap, subst, arith, Vec}
use Rattle.std.specs.declared.alloc.Global.{Global}
use Rattle.disk_model.specs.Disk.{Areas, IsRead}
use Rattle.disk_model.specs.Changes.{held}
use Rattle.disk_model.specs.Laws.{same_some}
use Rattle.disk_model.proofs.Areas.{held_get}
use Rattle.disk_model.proofs.memory.MemDiskDisk.read_at.Goals as goal

pub returns-clause-read : goal.returns-clause-read
returns-clause-read c s is =
    let shown = c.args.self.now.shown in
    let bytes = c.index-self-number.result in
    let here : c.deref.result.now ≡ s c.args.area =
    c.deref.ensures.value
    ∙ ap (λ (v : Vec ℕ Global). v.items) (sym c.index-self-number.is)
    ∙ sym (held_get shown c.number.result bytes (omega (arith, c.number.ensures.number, c.number.ensures.below)) c.index-self-number.is)
    ∙ ap (held shown) c.number.ensures.number
    ∙ ap (λ (a : Areas). a c.args.area) (same_some (held shown) s is) in
    subst (λ (l : List ℕ). IsRead (drop c.args.at l) c.copy_from.result c.args.buf.now c.copy_from.new.buf) here c.copy_from.ensures
