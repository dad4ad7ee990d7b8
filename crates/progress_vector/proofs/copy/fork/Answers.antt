use Rattle.std.proofs.Common.{◌≤◌, ◌-◌, arith}
use Rattle.progress_vector.proofs.Forks.{turn, lower}
use Rattle.progress_vector.proofs.copy.fork.Goals as goal

pub returns-then-start-eq0-clause-none : goal.returns-then-start-eq0-clause-none
returns-then-start-eq0-clause-none c lsn common =
    let t = turn c.args.source.now c.args.target.now c.loop-at.ours.now c.loop-at.theirs.now c.loop-at.at c.max-start.result c.up_to.result.1 c.up_to-in-loop-at.result.1 c.loop-at.invariant.ours c.loop-at.invariant.theirs c.up_to.ensures.last c.up_to-in-loop-at.ensures.last (c.if-eq.ensures {u = tt}) c.max-start.ensures c.loop-at.invariant.below in
    omega (arith, t.below lsn common)

pub loop-at-smaller : goal.loop-at-smaller
loop-at-smaller c =
    let t = turn c.args.source.now c.args.target.now c.loop-at.ours.now c.loop-at.theirs.now c.loop-at.at c.max-start.result c.up_to.result.1 c.up_to-in-loop-at.result.1 c.loop-at.invariant.ours c.loop-at.invariant.theirs c.up_to.ensures.last c.up_to-in-loop-at.ensures.last (c.if-eq.ensures {u = tt}) c.max-start.ensures c.loop-at.invariant.below in
    omega (arith, t.within)

pub loop-at-preserved : goal.loop-at-preserved
loop-at-preserved c =
    let t = turn c.args.source.now c.args.target.now c.loop-at.ours.now c.loop-at.theirs.now c.loop-at.at c.max-start.result c.up_to.result.1 c.up_to-in-loop-at.result.1 c.loop-at.invariant.ours c.loop-at.invariant.theirs c.up_to.ensures.last c.up_to-in-loop-at.ensures.last (c.if-eq.ensures {u = tt}) c.max-start.ensures c.loop-at.invariant.below in
    let next : c.max-start.result - 1 ≤ c.loop-at.at = omega (arith, t.within) in
    record {
      in_source = omega (arith, c.loop-at.invariant.in_source);
      in_target = omega (arith, c.loop-at.invariant.in_target);
      ours = lower c.loop-at.ours.now c.up_to.result.0.now c.args.source.now.entries c.loop-at.at (c.max-start.result - 1) next c.loop-at.invariant.ours c.up_to.ensures.same;
      theirs = lower c.loop-at.theirs.now c.up_to-in-loop-at.result.0.now c.args.target.now.entries c.loop-at.at (c.max-start.result - 1) next c.loop-at.invariant.theirs c.up_to-in-loop-at.ensures.same;
      below = λ lsn common. omega (arith, t.below lsn common);
    }
