use Rattle.std.proofs.Common.{◌∙◌, ◌++◌, List, length, sym, ap, map}
use Rattle.std.proofs.lemmas.List.{map-id}
use Rattle.std.proofs.lemmas.Iterator.Adapters.{YieldsList-from_vec, YieldsList-from_skip}
use Rattle.std.proofs.lemmas.Iterator.Consumers.{YieldsList-at, YieldsList-end}
use Rattle.txn_table.specs.declared.committed.Committed.{Committed}
use Rattle.fleet_run.specs.Acts.{order_line}
use Rattle.fleet_acts.proofs.lines.tell_orders.Goals as goal

-- all commits behind the known ones were told
pub returns : goal.returns
returns c =
    let all = YieldsList-end
    (YieldsList-at c.into_iter-commit-iterator.ensures.into_iter_gives (YieldsList-from_skip c.args.known (YieldsList-at c.skip-commit-items.ensures.source (YieldsList-from_vec c.args.commits (cc) (c.into_iter.ensures.len ∙ (c.into_vec.result.ok.0 ∙ ap length c.into_vec.ensures)))) c.skip-commit-items.ensures.count))
    c.loop-commit.yielded c.loop-commit.commit-iterator c.loop-commit.yielded_by c.next.result c.next.new.self c.in-None.is c.next.ensures.steps in
    c.loop-commit.invariant ∙ ap (λ (cs : List Committed). c.args.lines.now ++ map order_line cs) (sym (map-id c.loop-commit.yielded) ∙ all.0)
