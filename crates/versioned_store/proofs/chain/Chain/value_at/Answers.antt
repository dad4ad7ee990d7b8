use Rattle.std.proofs.Common.{rules, ◌∙◌, ◌<◌, ◌≤◌, ◌-◌, length, leb, get_or, sym, ap, arith}
use Rattle.std.proofs.lemmas.Bool.{leb-true, leb-false}
use Rattle.std.proofs.lemmas.List.Sorted.{IsPartitionPoint-from_clause}
use Rattle.versioned_store.specs.declared.chain.Change.{Change}
use Rattle.versioned_store.specs.Chains.{History, value_in}
use Rattle.versioned_store.proofs.Latest.{rise_parted, latest_none, latest_point}
use Rattle.versioned_store.proofs.chain.Chain.value_at.Goals as goal

pub returns-then-count-eq0 : goal.returns-then-count-eq0
returns-then-count-eq0 c =
    let w = c.args.v.0 in
    let changes = c.self.inside.changes.items in
    let at = λ (change : Change). change.at.0 in
    let point = IsPartitionPoint-from_clause (λ (change : Change). leb change.at.0 w) changes c.partition_point-count.result c.partition_point-count.ensures.partitioned (rise_parted at w changes c.self.invariant) (λ a r q k. search rules) in
    c.as_ref.ensures.value ∙ sym (latest_none at (λ (change : Change). change.value) w c.self.inside.base changes (λ k d lt. leb-false (at (get_or changes k d)) w (point.1 k d (omega arith) lt))) ∙ ap (λ (h : History). value_in h w) c.self.view_is

pub returns-else-count-eq0 : goal.returns-else-count-eq0
returns-else-count-eq0 c =
    let w = c.args.v.0 in
    let changes = c.self.inside.changes.items in
    let at = λ (change : Change). change.at.0 in
    let value = λ (change : Change). change.value in
    let count = c.partition_point-count.result in
    let point = IsPartitionPoint-from_clause (λ (change : Change). leb change.at.0 w) changes count c.partition_point-count.ensures.partitioned (rise_parted at w changes c.self.invariant) (λ a r q k. search rules) in
    let most : count ≤ length changes = search rules in
    let within : count - 1 < length changes = omega arith in
    c.as_ref-else-count-eq0.ensures.value
    ∙ ap value c.index.ensures
    ∙ sym (latest_point at value w c.self.inside.base changes (count - 1) c.index.result.now within (λ k e le. leb-true (at (get_or changes k e)) w (point.0 k e (omega arith) (omega arith))) (λ k e less lt. leb-false (at (get_or changes k e)) w (point.1 k e (omega arith) lt)))
    ∙ ap (λ (h : History). value_in h w) c.self.view_is
