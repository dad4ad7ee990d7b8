use Rattle.std.proofs.Common.{◌≡◌, ◌-◌, ◌≤◌, length, take, drop, sym, ap, ◌∙◌, arith}
use Rattle.std.proofs.lemmas.List.{with_items_is}
use Rattle.rc_io.proofs.Pieces.{takes_part, front_part}
use Rattle.rc_io.proofs.window.Window.fill.Goals as goal
use Rattle.rc_io.proofs.window.Window.fill.Goals.{then-self-len, else-self-len}

pub returns-clause-front : goal.returns-clause-front
returns-clause-front g c =
    let i = c.self.inside in
    let w = c.if-self-len.self-inside in
    let same : c.args.self.now ≡ drop w.at (take w.end w.bytes.items) = elim c.if-self-len.branch [
      | then-self-len v ↦ rw v.self-inside-is (sym c.self.view_is ∙ (ap (λ xs. drop i.at (take i.end xs)) (sym v.deref_mut.ensures.value) ∙ (sym v.move_to_front.ensures ∙ ap (take (i.end - i.at)) (sym (with_items_is i.bytes v.move_to_front.new.bytes (omega arith))))))
      | else-self-len v ↦ rw v.self-inside-is (sym c.self.view_is)
    ] in
    let d = c.deref_mut-2.ensures.value in
    let ys = c.read_behind.new.bytes in
    let here : w.end ≤ length c.deref_mut-2.result.now = omega (arith, c.in_ok-n.ensures.within) in
    front_part c.in_ok-n.n c.args.self.now c.deref_mut-2.result.now ys _ w.at w.end (same ∙ ap (λ xs. drop w.at (take w.end xs)) (sym d)) (with_items_is w.bytes ys (omega arith)) here c.in_ok-n.ensures.front

pub returns-clause-told : goal.returns-clause-told
returns-clause-told g c =
    let i = c.self.inside in
    let w = c.if-self-len.self-inside in
    let same : c.args.self.now ≡ drop w.at (take w.end w.bytes.items) = elim c.if-self-len.branch [
      | then-self-len v ↦ rw v.self-inside-is (sym c.self.view_is ∙ (ap (λ xs. drop i.at (take i.end xs)) (sym v.deref_mut.ensures.value) ∙ (sym v.move_to_front.ensures ∙ ap (take (i.end - i.at)) (sym (with_items_is i.bytes v.move_to_front.new.bytes (omega arith))))))
      | else-self-len v ↦ rw v.self-inside-is (sym c.self.view_is)
    ] in
    let order : w.at ≤ w.end = elim c.if-self-len.branch [ then-self-len v ↦ rw v.self-inside-is (omega arith) | else-self-len v ↦ rw v.self-inside-is c.self.invariant.0 ] in
    let d = c.deref_mut-2.ensures.value in
    let ys = c.read_behind.new.bytes in
    let here : w.end ≤ length c.deref_mut-2.result.now = omega (arith, c.in_ok-n.ensures.within) in
    λ x is. takes_part c.in_ok-n.n x _ c.args.self.now c.deref_mut-2.result.now ys _ w.at w.end (same ∙ ap (λ xs. drop w.at (take w.end xs)) (sym d)) (with_items_is w.bytes ys (omega arith)) order here (c.in_ok-n.ensures.told x is)
