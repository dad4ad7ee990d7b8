use Rattle.std.proofs.Common.{ℕ, ◌+◌, ◌-◌, ◌≤◌, List, drop, length, sym, subst, arith, length-drop}
use Rattle.log_records.specs.declared.record.Physical.{Physical}
use Rattle.std.proofs.lemmas.List.{take_all}
use Rattle.log_records.specs.Spelling.{physical, IsPhysical, IsSpelled}
use Rattle.log_store.proofs.Payloads.{IsSoFar, so_far_more, spelled_within}
use Rattle.log_store.proofs.reading.records.Goals as goal

pub loop-at-preserved : goal.loop-at-preserved
loop-at-preserved c =
    let bytes = drop c.loop-at.at c.args.payload.now in
    let fits : length bytes ≤ length c.args.payload.now - c.loop-at.at = omega (arith, length-drop c.loop-at.at c.args.payload.now) in
    let found = subst (λ (l : List ℕ). IsSpelled physical IsPhysical l (c.in_ok-item.item, c.in_ok-item.count)) (take_all (length c.args.payload.now - c.loop-at.at) bytes fits) c.in_ok-item.ensures.found in
    let reach = spelled_within bytes (c.in_ok-item.item, c.in_ok-item.count) found in
    let before = c.loop-at.invariant.within in
    record {
      within = omega (arith, reach, before, length-drop c.loop-at.at c.args.payload.now);
      so_far = subst (λ (items : List Physical). IsSoFar c.args.payload.now (c.loop-at.at + c.in_ok-item.count) items) (sym c.in_ok-push.ensures.items)
          (so_far_more c.args.payload.now c.loop-at.at c.loop-at.items.items (c.in_ok-item.item, c.in_ok-item.count) c.loop-at.invariant.so_far found);
    }
