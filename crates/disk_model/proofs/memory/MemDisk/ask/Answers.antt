use Rattle.std.proofs.Common.{◌≡◌, ◌≤◌, ◌-◌, ◌∙◌, List, [], ◌∷◌, ◌++◌, length, refl, sym, ap, subst, arith}
use Rattle.std.specs.Option.{option_map}
use Rattle.disk_model.specs.Disk.{Areas, with_area, Changes}
use Rattle.disk_model.specs.Changes.{held, room, done, reach, left_of, MayLeave}
use Rattle.disk_model.specs.declared.change.Change.{Change}
use Rattle.disk_model.proofs.Areas.{where_ok}
use Rattle.disk_model.proofs.Images.{follows_same, follows_change, changes_same, changes_with, done_push, reach_push}
use Rattle.disk_model.specs.KeptBy.{kept_by}
use Rattle.disk_model.proofs.Keeping.{asks, armed_asks}
use Rattle.disk_model.proofs.memory.MemDisk.ask.Goals as goal

pub returns-then-self-clause-stop : goal.returns-then-self-clause-stop
returns-then-self-clause-stop c =
    let m = c.args.self.now in
    follows_same c.args.change.area c.args.change.edit m.pending.items m.pending.items (held m.synced) (held m.synced) (held m.shown) (held m.shown) refl refl refl

pub invariant_of-self-in-Break-1 : goal.invariant_of-self-in-Break-1
invariant_of-self-in-Break-1 c =
    let m = c.args.self.now in
    let told = c.take_room.ensures in
    record {
      agrees = λ e. told.shown ∙ m.agrees e ∙ ap (λ (l : List Change). done l (held m.synced)) (sym told.pending) ∙ ap (done c.take_room.new.pending.items) (sym told.synced);
      none_left = m.none_left;
      shown_room = λ a. omega (arith, ap (reach a) told.pending, m.shown_room a, told.shown_room a);
      synced_room = λ a. omega (arith, ap (reach a) told.pending, m.synced_room a, told.synced_room a);
      copied_room = λ a. omega (arith, ap (λ (s : Areas). length (s a)) told.synced, m.copied_room a, told.shown_room a);
    }

pub returns-in_err-take_room-clause-stop : goal.returns-in_err-take_room-clause-stop
returns-in_err-take_room-clause-stop c =
    let m = c.args.self.now in
    let told = c.take_room.ensures in
    follows_same c.args.change.area c.args.change.edit m.pending.items c.take_room.new.pending.items (held m.synced) (held c.take_room.new.synced) (held m.shown) (held c.take_room.new.shown) told.pending told.synced told.shown

pub invariant_of-self-then-not-take_turn : goal.invariant_of-self-then-not-take_turn
invariant_of-self-then-not-take_turn c =
    let m = c.args.self.now in
    let change = c.args.change in
    let told = c.take_room.ensures in
    let turn = c.take_turn.ensures in
    let failed = turn.fails c.if-not-take_turn.true in
    let grows : c.push.new.self.items ≡ m.pending.items ++ change ∷ [] = where_ok c.push.result _ _ _ (c.push.ensures.succeeds c.in_ok-take_room.ensures.spare) c.push.ensures.items ∙ ap (λ (l : List Change). l ++ change ∷ []) told.pending in
    let enough = c.in_ok-take_room.ensures.enough in
    record {
      agrees = λ e. absurd (cc (failed.1, e));
      none_left = λ e. turn.counts ∙ ap (option_map (λ n. n - 1)) failed.0;
      shown_room = λ a. subst (λ (l : List Change). reach a l ≤ room c.take_room.new.shown a) (sym grows) (reach_push a (room c.take_room.new.shown a) m.pending.items change (omega (arith, m.shown_room a, told.shown_room a)) (λ e. omega (arith, enough.0, c.end-end.ensures, ap (room c.take_room.new.shown) e)));
      synced_room = λ a. subst (λ (l : List Change). reach a l ≤ room c.take_room.new.synced a) (sym grows) (reach_push a (room c.take_room.new.synced a) m.pending.items change (omega (arith, m.synced_room a, told.synced_room a)) (λ e. omega (arith, enough.1, c.end-end.ensures, ap (room c.take_room.new.synced) e)));
      copied_room = λ a. omega (arith, ap (λ (s : Areas). length (s a)) told.synced, m.copied_room a, told.shown_room a);
    }

pub returns-then-not-take_turn-clause-stop : goal.returns-then-not-take_turn-clause-stop
returns-then-not-take_turn-clause-stop c =
    let m = c.args.self.now in
    let change = c.args.change in
    let told = c.take_room.ensures in
    let grows : c.push.new.self.items ≡ m.pending.items ++ change ∷ [] = where_ok c.push.result _ _ _ (c.push.ensures.succeeds c.in_ok-take_room.ensures.spare) c.push.ensures.items ∙ ap (λ (l : List Change). l ++ change ∷ []) told.pending in
    follows_change m.pending.items c.push.new.self.items change (held m.synced) (held c.take_room.new.synced) (held m.shown) (held c.take_room.new.shown) grows told.synced
    (subst (λ (a : Areas). Changes change.area (MayLeave change.edit) (held m.shown) a) (sym told.shown) (changes_same change.area change.edit (held m.shown)))

pub invariant_of-self-2 : goal.invariant_of-self-2
invariant_of-self-2 c =
    let m = c.args.self.now in
    let change = c.args.change in
    let told = c.take_room.ensures in
    let turn = c.take_turn.ensures in
    let goes_on = turn.does c.if-not-take_turn.false in
    let grows : c.push-2.new.self.items ≡ m.pending.items ++ change ∷ [] = where_ok c.push-2.result _ _ _ (c.push-2.ensures.succeeds c.in_ok-take_room.ensures.spare) c.push-2.ensures.items ∙ ap (λ (l : List Change). l ++ change ∷ []) told.pending in
    let enough = c.in_ok-take_room.ensures.enough in
    let step = left_of change.edit 1 in
    record {
      agrees = λ e. c.apply_to.ensures.held
          ∙ ap (with_area change.area step) (told.shown ∙ m.agrees c.if-self.false)
          ∙ sym (done_push m.pending.items change (held m.synced))
          ∙ ap (λ (l : List Change). done l (held m.synced)) (sym grows)
          ∙ ap (done c.push-2.new.self.items) (sym told.synced);
      none_left = λ e. absurd (cc (goes_on.1, e, c.if-self.false));
      shown_room = λ a. subst (λ (l : List Change). reach a l ≤ room c.apply_to.new.areas a) (sym grows) (reach_push a (room c.apply_to.new.areas a) m.pending.items change (omega (arith, m.shown_room a, told.shown_room a, c.apply_to.ensures.room a)) (λ e. omega (arith, enough.0, c.end-end.ensures, ap (room c.apply_to.new.areas) e, c.apply_to.ensures.room change.area)));
      synced_room = λ a. subst (λ (l : List Change). reach a l ≤ room c.take_room.new.synced a) (sym grows) (reach_push a (room c.take_room.new.synced a) m.pending.items change (omega (arith, m.synced_room a, told.synced_room a)) (λ e. omega (arith, enough.1, c.end-end.ensures, ap (room c.take_room.new.synced) e)));
      copied_room = λ a. omega (arith, ap (λ (s : Areas). length (s a)) told.synced, m.copied_room a, told.shown_room a, c.apply_to.ensures.room a);
    }

pub returns-clause-stop : goal.returns-clause-stop
returns-clause-stop c =
    let m = c.args.self.now in
    let change = c.args.change in
    let told = c.take_room.ensures in
    let grows : c.push-2.new.self.items ≡ m.pending.items ++ change ∷ [] = where_ok c.push-2.result _ _ _ (c.push-2.ensures.succeeds c.in_ok-take_room.ensures.spare) c.push-2.ensures.items ∙ ap (λ (l : List Change). l ++ change ∷ []) told.pending in
    let applied : held c.apply_to.new.areas ≡ with_area change.area (left_of change.edit 1) (held m.shown) = c.apply_to.ensures.held ∙ ap (with_area change.area (left_of change.edit 1)) told.shown in
    follows_change m.pending.items c.push-2.new.self.items change (held m.synced) (held c.take_room.new.synced) (held m.shown) (held c.apply_to.new.areas) grows told.synced
    (subst (λ (a : Areas). Changes change.area (MayLeave change.edit) (held m.shown) a) (sym applied) (changes_with change.area change.edit 1 (held m.shown)))

pub returns-then-not-take_turn-clause-kept : goal.returns-then-not-take_turn-clause-kept
returns-then-not-take_turn-clause-kept c = λ _.
    let m = c.args.self.now in
    let change = c.args.change in
    let told = c.take_room.ensures in
    let turn = c.take_turn.ensures in
    let failed = turn.fails c.if-not-take_turn.true in
    let grows : c.push.new.self.items ≡ m.pending.items ++ change ∷ [] = where_ok c.push.result _ _ _ (c.push.ensures.succeeds c.in_ok-take_room.ensures.spare) c.push.ensures.items ∙ ap (λ (l : List Change). l ++ change ∷ []) told.pending in
    armed_asks change (kept_by m) (record { shown = held c.take_room.new.shown; synced = held c.take_room.new.synced; pending = c.push.new.self.items; calls_left = c.take_turn.new.calls_left; failed = c.take_turn.new.failed }) c.if-self.false failed.0 told.shown told.synced grows turn.counts failed.1

pub returns-clause-kept : goal.returns-clause-kept
returns-clause-kept c = λ _.
    let m = c.args.self.now in
    let change = c.args.change in
    let told = c.take_room.ensures in
    let turn = c.take_turn.ensures in
    let goes_on = turn.does c.if-not-take_turn.false in
    let grows : c.push-2.new.self.items ≡ m.pending.items ++ change ∷ [] = where_ok c.push-2.result _ _ _ (c.push-2.ensures.succeeds c.in_ok-take_room.ensures.spare) c.push-2.ensures.items ∙ ap (λ (l : List Change). l ++ change ∷ []) told.pending in
    asks change (kept_by m) (record { shown = held c.apply_to.new.areas; synced = held c.take_room.new.synced; pending = c.push-2.new.self.items; calls_left = c.take_turn.new.calls_left; failed = c.take_turn.new.failed }) c.if-self.false goes_on.2 (c.apply_to.ensures.held ∙ ap (with_area change.area (left_of change.edit 1)) told.shown) told.synced grows turn.counts goes_on.1
