use Rattle.std.proofs.Common.{◌∙◌, ℕ, List, length, Some, refl, ap, subst}
use Rattle.std.proofs.lemmas.Result.{on_ok_weaker}
use Rattle.disk_model.specs.Disk.{Areas, Torn, Changes, Follows}
use Rattle.disk_model.specs.Changes.{held, images_of}
use Rattle.disk_model.proofs.Images.{filled_is_written}
use Rattle.disk_model.proofs.memory.MemDiskDisk.write_at.Goals as goal

pub returns-clause-written : goal.returns-clause-written
returns-clause-written c =
    on_ok_weaker c.ask.result
    (λ e. ap (λ (s : Areas). Some s) (e ∙ filled_is_written c.args.area c.args.at c.in_ok-bytes.bytes c.args.bytes.now (held c.args.self.now.shown) c.in_ok-bytes.ensures.copy (c.requires (held c.args.self.now.shown) refl)))
    c.ask.ensures.done

pub returns-clause-stop : goal.returns-clause-stop
returns-clause-stop c =
    let m = c.args.self.now in
    let n = c.ask.new.self in
    subst (λ (l : List ℕ). Follows (Changes c.args.area (Torn c.args.at (length l))) (images_of m.pending.items (held m.synced) (held m.shown)) (images_of n.pending.items (held n.synced) (held n.shown))) c.in_ok-bytes.ensures.copy c.ask.ensures.stop
