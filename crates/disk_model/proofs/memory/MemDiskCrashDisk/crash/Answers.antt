use Rattle.std.proofs.Common.{◌≡◌, ◌≤◌, ◌∙◌, List, [], length, inr, sym, ap, subst, arith}
use Rattle.disk_model.specs.Disk.{Areas}
use Rattle.disk_model.specs.Changes.{held, room, done, reach, left_by, MayLeaveOf}
use Rattle.disk_model.specs.Laws.{same_some}
use Rattle.disk_model.specs.declared.change.Change.{Change}
use Rattle.disk_model.proofs.Areas.{held_fits}
use Rattle.disk_model.proofs.Images.{length-left_by, left_by_may}
use Rattle.disk_model.proofs.memory.MemDiskCrashDisk.crash.Goals as goal

pub copy_all-requires-clause-fits : goal.copy_all-requires-clause-fits
copy_all-requires-clause-fits c = λ a.
    let m = c.args.self.now in
    let left : held c.leave.new.areas ≡ left_by c.args.pick m.pending.items (held m.synced) = c.leave.ensures.held ∙ ap (λ (l : List Change). left_by c.args.pick l (held m.synced)) c.deref.ensures.value in
    subst (λ (s : Areas). length (s a) ≤ room m.shown a) (sym left) (length-left_by a (room m.shown a) c.args.pick m.pending.items (held m.synced) (m.copied_room a) (m.shown_room a))

pub invariant_of-self : goal.invariant_of-self
invariant_of-self c =
    let empty : c.clear.new.self.items ≡ [] = c.clear.ensures.items in
    record {
      agrees = λ e. c.copy_all.ensures.held ∙ ap (λ (l : List Change). done l (held c.leave.new.areas)) (sym empty);
      none_left = λ e. absurd (cc e);
      shown_room = λ a. subst (λ (l : List Change). reach a l ≤ room c.copy_all.new.to a) (sym empty) (omega arith);
      synced_room = λ a. subst (λ (l : List Change). reach a l ≤ room c.leave.new.areas a) (sym empty) (omega arith);
      copied_room = λ a. omega (arith, ap (λ (s : Areas). length (s a)) c.copy_all.ensures.held, held_fits c.copy_all.new.to a);
    }

pub returns-clause-left : goal.returns-clause-left
returns-clause-left c s is =
    let m = c.args.self.now in
    let left : s ≡ left_by c.args.pick m.pending.items (held m.synced) = sym (same_some (held c.copy_all.new.to) s is) ∙ c.copy_all.ensures.held ∙ c.leave.ensures.held ∙ ap (λ (l : List Change). left_by c.args.pick l (held m.synced)) c.deref.ensures.value in
    inr (subst (MayLeaveOf m.pending.items (held m.synced)) (sym left) (left_by_may c.args.pick m.pending.items (held m.synced)))
