use Rattle.std.proofs.Common.{rules, ◌∙◌, ◌<◌, ◌≤◌, ◌-◌, length, leb, get_or, sym, ap, arith}
use Rattle.std.proofs.lemmas.Bool.{leb-true, leb-false}
use Rattle.std.proofs.lemmas.List.Sorted.{IsPartitionPoint-from_clause}
use Rattle.versioned_store.specs.declared.journal.JournalEntry.{JournalEntry}
use Rattle.versioned_store.proofs.Latest.{rise_parted, latest_none, latest_point}
use Rattle.versioned_store.proofs.Changes.{entry_at}
use Rattle.versioned_store.proofs.Turns.{entry_count}
use Rattle.versioned_store.proofs.journal.count_to.Goals as goal

pub returns-then-count-eq0 : goal.returns-then-count-eq0
returns-then-count-eq0 c =
    let w = c.args.v.0 in
    let journal = c.args.journal.now.items in
    let point = IsPartitionPoint-from_clause (λ (entry : JournalEntry). leb entry.at.0 w) journal c.partition_point-count.result c.partition_point-count.ensures.partitioned (rise_parted entry_at w journal c.requires) (λ a r q k. search rules) in
    sym (latest_none entry_at entry_count w c.args.before journal (λ k d lt. leb-false (entry_at (get_or journal k d)) w (point.1 k d (omega arith) lt)))

pub returns-else-count-eq0 : goal.returns-else-count-eq0
returns-else-count-eq0 c =
    let w = c.args.v.0 in
    let journal = c.args.journal.now.items in
    let count = c.partition_point-count.result in
    let point = IsPartitionPoint-from_clause (λ (entry : JournalEntry). leb entry.at.0 w) journal count c.partition_point-count.ensures.partitioned (rise_parted entry_at w journal c.requires) (λ a r q k. search rules) in
    let most : count ≤ length journal = search rules in
    let within : count - 1 < length journal = omega arith in
    ap entry_count c.index.ensures
    ∙ sym (latest_point entry_at entry_count w c.args.before journal (count - 1) c.index.result.now within (λ k e le. leb-true (entry_at (get_or journal k e)) w (point.0 k e (omega arith) (omega arith))) (λ k e less lt. leb-false (entry_at (get_or journal k e)) w (point.1 k e (omega arith) lt)))
