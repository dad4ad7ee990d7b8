use Rattle.std.proofs.Common.{◌≡◌, ◌∙◌, ◌+◌, ◌-◌, ℕ, List, take, drop, sym, ap, subst, arith}
use Rattle.std.proofs.lemmas.List.{take_rest, drop-drop, length-drop}
use Rattle.gated_log.specs.Blocks.{OpensWith}
use Rattle.gated_log.proofs.Opening.{walk_more, walk_place}
use Rattle.gated_log.proofs.block.walk.Goals as goal

pub loop-count-preserved : goal.loop-count-preserved
loop-count-preserved c =
    let bytes = c.args.bytes.now in
    let at = c.loop-count.at in
    let count = c.in-Some.count in
    let kept = c.loop-count.invariant in
    let o : OpensWith (drop at bytes) count = subst (λ (l : List ℕ). OpensWith l count) (take_rest bytes at) c.in-Some.ensures in
    let size : at + 5 + count - (at + 5) ≡ count = omega arith in
    let payload : c.in_ok-payload.payload ≡ take count (drop 5 (drop at bytes)) =
    c.in_ok-payload.ensures ∙ ap (λ (n : ℕ). take n (drop (at + 5) bytes)) size ∙ ap (λ (l : List ℕ). take count l) (sym (drop-drop 5 at bytes)) in
    record {
      so_far = walk_more bytes at count c.loop-count.blocks.items c.push.new.self.items c.in_ok-payload.payload o payload c.in_ok-push.ensures.items ∙ kept.so_far;
      place = walk_place bytes at count o ∙ kept.place;
      within = omega (arith, o.within, length-drop at bytes);
    }
