use Rattle.std.proofs.Common.{rules, ◌≡◌, ◌∙◌, ℕ, ◌<◌, ◌++◌, ◌∷◌, [], length, take, drop, get_or, List, arith, ap}
use Rattle.reliable_queue.specs.Queues.{up_to}
use Rattle.reliable_queue.proofs.Versions.{up_to_most}
use Rattle.reliable_queue.proofs.Keeping.{listed_more}
use Rattle.reliable_queue.proofs.queue.Queue.listed.Goals as goal

pub index-requires : goal.index-requires
index-requires c =
    let below : c.loop-place.place < length c.args.self.now.values.items = omega (arith, c.loop-place-test.true, c.count_to-place-end.ensures, up_to_most c.args.v.0 c.args.self.now.pushes.items, c.args.self.now.sound.each) in
    search rules

pub loop-place-preserved : goal.loop-place-preserved
loop-place-preserved c =
    let values = c.args.self.now.values.items in
    let place = c.loop-place.place in
    let from = up_to c.args.v.0 c.args.self.now.pops.items in
    let below : place < length values = omega (arith, c.loop-place-test.true, c.count_to-place-end.ensures, up_to_most c.args.v.0 c.args.self.now.pushes.items, c.args.self.now.sound.each) in
    let read : c.in_ok-clone.field-0 ≡ get_or values place c.in_ok-clone.field-0 = search rules in
    record {
      listed = c.in_ok-push.ensures.ok ∙ ap (λ (xs : List (List ℕ)). xs ++ c.in_ok-clone.field-0 ∷ []) c.loop-place.invariant.listed ∙ ap (λ (x : List ℕ). drop from (take place values) ++ x ∷ []) read ∙ listed_more values from place c.in_ok-clone.field-0 c.loop-place.invariant.from below;
      from = omega (arith, c.loop-place.invariant.from);
    }
