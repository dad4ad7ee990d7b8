use Rattle.std.proofs.Common.{◌≡◌, ◌≤◌, ◌∙◌, List, [], length, false, sym, ap, subst, arith}
use Rattle.std.proofs.lemmas.Bool.{false_from_ne_true}
use Rattle.disk_model.specs.Disk.{Areas}
use Rattle.disk_model.specs.Changes.{held, room, done, reach}
use Rattle.disk_model.specs.declared.change.Change.{Change}
use Rattle.disk_model.proofs.Areas.{held_fits}
use Rattle.disk_model.proofs.memory.MemDiskDisk.sync.Goals as goal

pub invariant_of-self-2 : goal.invariant_of-self-2
invariant_of-self-2 c =
    let m = c.args.self.now in
    let goes_on = c.take_turn.ensures.does c.if-not-take_turn.false in
    let empty : c.clear.new.self.items ≡ [] = c.clear.ensures.items in
    let settled : m.failed ≡ false → held c.settle.new.areas ≡ held m.shown = λ e. c.settle.ensures.held ∙ ap (λ (l : List Change). done l (held m.synced)) c.deref.ensures.value ∙ sym (m.agrees e) in
    let works : m.failed ≡ false = false_from_ne_true m.failed (λ e. goes_on.0 (m.none_left e)) in
    record {
      agrees = λ e. sym (settled (sym goes_on.1 ∙ e)) ∙ ap (λ (l : List Change). done l (held c.settle.new.areas)) (sym empty);
      none_left = λ e. absurd (goes_on.0 (m.none_left (sym goes_on.1 ∙ e)));
      shown_room = λ a. subst (λ (l : List Change). reach a l ≤ room m.shown a) (sym empty) (omega arith);
      synced_room = λ a. subst (λ (l : List Change). reach a l ≤ room c.settle.new.areas a) (sym empty) (omega arith);
      copied_room = λ a. omega (arith, ap (λ (s : Areas). length (s a)) (settled works), held_fits m.shown a);
    }
